-- What follows of a device that was to be formatted.
use Rattle.std.proofs.Common.{◌≡◌, ◌≢◌, ◌⊎◌, ◌≤◌, Bool, true, false, ◌||◌, Some, None, Ok, Err, refl, sym, ap, ◌∙◌, subst, inl, inr}
use Rattle.std.specs.Prelude.{Option, is_some, IfSome, not, IsTrue}
use Rattle.zn_base.specs.Causes.{Rose}
use Rattle.zn_base.specs.States.{SinkState}
use Rattle.zn_truth.specs.Truth.{Truth, zone_at, is_good}
use Rattle.zn_device.specs.States.{DeviceState}
use Rattle.zn_model.specs.declared.answers.FormatError.{FormatError}
use Rattle.zn_model.specs.declared.answers.FormatError.TheVariants.{AlreadyFormatted, BadZone0, IoError, PowerLost, Broken, Memory as format_memory}
use Rattle.zn_model.specs.SuperBlock.{SuperBlock}
use Rattle.zn_mkfs.specs.Commands.{FormatReply}
use Rattle.zn_mkfs.specs.Formats.{IsUntried, IsFormat}
use Rattle.zn_run.specs.States.{HasRisen, Added}
use Rattle.zn_run.specs.declared.status.Status.{Status}
use Rattle.zn_run.specs.declared.status.Status.TheVariants.{Done, Directory as BadDirectory}
use Rattle.zn_stand.specs.Directory.{Directory, Contents, contents}
use Rattle.zn_stand.specs.Standing.{StandsFor}
use Rattle.zn_stand.specs.AtRest.{Cause, at_rest}
use Rattle.zn_stand.proofs.DeviceRest.{stands}
use Rattle.zn_files.specs.States.{FilesState, directory}
use Rattle.zn_backing.specs.declared.error.OpenError.{OpenError}
use Rattle.zn_backing.specs.declared.error.OpenError.TheVariants.{NotADevice, BadGeometry, MissingFile, BadZoneFile, ExtraName, TooManyActive, Fault, Memory}
use Rattle.zn_backing.specs.Failures.{cause_of}
use Rattle.zn_zloop.specs.Opening.{Opened, LeftShut}
use Rattle.zn_commands.specs.Lines.{shut_status, shut_line, open_status, open_line, format_status, format_line}
use Rattle.zn_commands.specs.Devices.{LiesIn}
use Rattle.zn_commands.specs.Refusing.{holds_super_block, Refuses}
use Rattle.zn_commands.specs.Formatting.{Formatted, IsShut, IsOpened, Formats, IsFormattedIn, HasFormatted, IsNoDevice, IsRefusedIn, IsUnformatted, IsReady, FormatCauses}
use Rattle.zn_commands.proofs.Ending.{IsDue, end_causes, written, exactly}
use Rattle.zn_commands.proofs.Replies.{format_whole, format_ready, IsLeft, left_formatted, left_bad, refused_free, kept_free}

-- ---- a directory that isn't opened

-- without a cause in the directory the status is that of a fault or of memory
none_due : (why : OpenError) → shut_status None why ≡ BadDirectory → ⊥
none_due Memory h = cc
none_due why h = cc

none_done : (why : OpenError) → shut_status None why ≡ Done → ⊥
none_done Memory h = cc
none_done why h = cc

shut_done : (o : Option Cause) (why : OpenError) → shut_status o why ≡ Done → ⊥
shut_done (Some cause) why h = cc
shut_done None why h = none_done why h

module _ (status : Status) (old new : FilesState) (before after : SinkState) where
  shut_due : (why : OpenError) → LeftShut why old new → IsDue (open_status why) (open_line why) old new
  shut_due NotADevice h = tt
  shut_due (BadGeometry line) h = tt
  shut_due (MissingFile kind z) h = tt
  shut_due (BadZoneFile kind z len) h = tt
  shut_due (ExtraName name) h = tt
  shut_due (TooManyActive count) h = tt
  shut_due Fault h = (record { later = h.later; rose = h.fault refl }, refl)
  shut_due Memory h = refl

  shut_refused : (o : Option Cause) (why : OpenError) → cause_of why ≡ o → LeftShut why old new → status ≡ shut_status o why → Added (shut_line o why) before after → status ≡ BadDirectory → IsNoDevice old new before after
  shut_refused (Some cause) why from h is added refused = record {
    cause = cause;
    line = added;
    first = λ d told. subst (λ (o : Option Cause). IfSome o (λ cause. at_rest (contents d) ≡ Err cause)) from (h.cause d told);
    same = λ d told. h.rest d told (ap is_some from);
  }
  shut_refused None why from h is added refused = absurd (none_due why (sym is ∙ refused))

  shut_causes : (s : SuperBlock) (force : Bool) → IsShut status old new before after → FormatCauses s force status old new before after
  shut_causes s force h =
      let told = written status old new before after (open_status h.why) (open_line h.why) h.closed.means in
      let causes = end_causes status old new before after (open_status h.why) (open_line h.why) (shut_due h.why h.shut) h.closed.means in
      let not_done : status ≡ Done → ⊥ = λ is. shut_done (cause_of h.why) h.why (sym (told (λ e. cc)).0 ∙ is) in
      let is_refused : status ≡ BadDirectory → IsNoDevice old new before after = λ is. let t = told (λ e. cc) in shut_refused (cause_of h.why) h.why refl h.shut t.0 t.1 is in
      record {
        done = λ is. absurd (not_done is);
        refused = λ is. inl (is_refused is);
        others = causes;
        exact = λ d there q m. exactly status old new before after (IsReady force (contents d)) causes (λ is. absurd (not_done is)) (λ is ready. let first = (is_refused is).first d there in let rest = ready.rest in cc) q m;
      }

-- ---- a device that is opened

-- a directory that is told is there
there : (o : Option Directory) → is_some o ≡ true → (d : Directory) × (o ≡ Some d)
there None h = absurd (cc)
there (Some d) h = (d, refl)

-- a device that tells its bytes lies in a directory that is told, which stands for it
record Lies (after : DeviceState) (new : FilesState) : Type 0 where
  d : Directory
  is : directory new ≡ Some d
  stands : StandsFor (contents d) after.world.truth

lies : (after : DeviceState) (new : FilesState) → LiesIn after new → after.spoilt ≡ false → after.world.truth.told ≡ true → Lies after new
lies after new h unspoilt told =
    let at = there (directory new) (sym (h.told unspoilt) ∙ told) in
    record { d = at.0; is = at.1; stands = h.stands at.0 unspoilt at.1 }

-- what a format of a device did that answers anything but want of memory
tried : (s : SuperBlock) (force : Bool) (reply : FormatReply) (device after : DeviceState) → reply ≢ Err format_memory → IsUntried reply device after ⊎ IsFormat s force reply device after → IsFormat s force reply device after
tried s force reply device after other (inl u) = absurd (other u.why)
tried s force reply device after other (inr f) = f

module _ (s : SuperBlock) (force : Bool) (status : Status) (old middle new : FilesState) (before after : SinkState) (device : DeviceState) (opened : Opened device old middle) where
  -- where contents are told, so are the device's bytes
  bytes_told : (d : Directory) → directory old ≡ Some d → device.world.truth.told ≡ true
  bytes_told d told = (stands (contents d) device.world.truth (opened.truth d told)).told

  -- the device's count of breaks was that of the files
  breaks_first : device.breaks ≡ old.faults
  breaks_first = opened.breaks ∙ opened.count

  broken : Formatted s force (Err Broken) device new → HasRisen old.faults new.faults
  broken h = record {
    later = subst (λ n. n ≤ new.faults) breaks_first (subst (λ n. device.breaks ≤ n) h.left.breaks h.cause.no_fewer);
    rose = subst (λ n. Rose n new.faults) breaks_first (subst (λ n. Rose device.breaks n) h.left.breaks (h.cause.broken refl));
  }

  format_due : (reply : FormatReply) → Formatted s force reply device new → IsDue (format_status reply) (format_line reply) old new
  format_due (Ok unit) h = tt
  format_due (Err AlreadyFormatted) h = tt
  format_due (Err (BadZone0 cond)) h = tt
  format_due (Err IoError) h = tt
  format_due (Err PowerLost) h = tt
  format_due (Err Broken) h = (broken h, refl)
  format_due (Err format_memory) h = refl

  formatted_in : (h : Formatted s force (Ok tt) device new) (f : IsFormat s force (Ok tt) device h.after) (d : Directory) → directory old ≡ Some d → IsFormattedIn s (contents d) new
  formatted_in h f d told =
      let whole = format_whole s force device h.after f in
      let l = lies h.after new h.left whole.unspoilt (whole.told ∙ bytes_told d told) in
      record { t = device.world.truth; rest = opened.truth d told; d = l.d; there = l.is; u = h.after.world.truth; stands = l.stands; geometry = whole.geometry; formatted = h.formatted refl }

  done : (reply : FormatReply) → Formatted s force reply device new → status ≡ format_status reply → Added (format_line reply) before after → status ≡ Done → HasFormatted s old new before after
  done (Ok unit) h is added e =
      let f = tried s force (Ok tt) device h.after (λ e. cc) h.done in
      record {
        line = added;
        kept = sym h.left.breaks ∙ h.cause.whole (format_whole s force device h.after f).unspoilt ∙ breaks_first;
        stood = formatted_in h f;
      }
  done (Err AlreadyFormatted) h is added e = absurd (cc)
  done (Err (BadZone0 cond)) h is added e = absurd (cc)
  done (Err IoError) h is added e = absurd (cc)
  done (Err PowerLost) h is added e = absurd (cc)
  done (Err Broken) h is added e = absurd (cc)
  done (Err format_memory) h is added e = absurd (cc)

  -- a device that a format refuses is left, and so is what its directory stands for
  refused_in : (error : FormatError) (h : Formatted s force (Err error) device new) → ((d : Directory) → directory old ≡ Some d → IsLeft force error device h.after) → (d : Directory) → directory old ≡ Some d → IsRefusedIn force error (contents d) new
  refused_in error h left d told =
      let k = left d told in
      let l = lies h.after new h.left k.unspoilt (ap (λ (t : Truth). t.told) k.truth ∙ bytes_told d told) in
      record { t = device.world.truth; rest = opened.truth d told; refuses = k.refuses; d = l.d; there = l.is; stands = subst (StandsFor (contents l.d)) k.truth l.stands }

  refused : (reply : FormatReply) → Formatted s force reply device new → status ≡ format_status reply → Added (format_line reply) before after → status ≡ BadDirectory → IsUnformatted force old new before after
  refused (Ok unit) h is added e = absurd (cc)
  refused (Err AlreadyFormatted) h is added e = record {
    error = AlreadyFormatted;
    line = added;
    stood = refused_in AlreadyFormatted h (λ d told. left_formatted s force device h.after (bytes_told d told) (tried s force (Err AlreadyFormatted) device h.after (λ e. cc) h.done));
  }
  refused (Err (BadZone0 cond)) h is added e = record {
    error = BadZone0 cond;
    line = added;
    stood = refused_in (BadZone0 cond) h (λ d told. left_bad s force cond device h.after (tried s force (Err (BadZone0 cond)) device h.after (λ e. cc) h.done));
  }
  refused (Err IoError) h is added e = absurd (h.faultless refl)
  refused (Err PowerLost) h is added e = absurd (h.powered refl)
  refused (Err Broken) h is added e = absurd (cc)
  refused (Err format_memory) h is added e = absurd (cc)

  ready : (reply : FormatReply) → Formatted s force reply device new → status ≡ format_status reply → status ≡ Done → (d : Directory) → directory old ≡ Some d → IsReady force (contents d)
  ready (Ok unit) h is e d told =
      let r = format_ready s force device h.after (bytes_told d told) (tried s force (Ok tt) device h.after (λ e. cc) h.done) in
      record { t = device.world.truth; rest = opened.truth d told; good = r.0; free = kept_free force (holds_super_block device.world.truth) r.1 }
  ready (Err AlreadyFormatted) h is e d told = absurd (cc)
  ready (Err (BadZone0 cond)) h is e d told = absurd (cc)
  ready (Err IoError) h is e d told = absurd (cc)
  ready (Err PowerLost) h is e d told = absurd (cc)
  ready (Err Broken) h is e d told = absurd (cc)
  ready (Err format_memory) h is e d told = absurd (cc)

-- what a format refuses isn't ready
no_refusal : (force : Bool) (error : FormatError) (t : Truth) → Refuses force error t → IsTrue (is_good (zone_at t 0).cond) → IsTrue (force || not (holds_super_block t)) → ⊥
no_refusal force AlreadyFormatted t r good free = refused_free force (holds_super_block t) free r.1 r.2
no_refusal force (BadZone0 cond) t r good free = let is = ap is_good r.0 ∙ r.1 in cc
no_refusal force IoError t r good free = r
no_refusal force PowerLost t r good free = r
no_refusal force Broken t r good free = r
no_refusal force format_memory t r good free = r

not_ready : (force : Bool) (error : FormatError) (c : Contents) (new : FilesState) → IsRefusedIn force error c new → IsReady force c → ⊥
not_ready force error c new r ready =
    let is : r.t ≡ ready.t = let a = r.rest in let b = ready.rest in cc in
    no_refusal force error ready.t (subst (Refuses force error) is r.refuses) ready.good ready.free

module _ (s : SuperBlock) (force : Bool) (status : Status) (old new : FilesState) (before after : SinkState) where
  opened_causes : IsOpened s force status old new before after → FormatCauses s force status old new before after
  opened_causes h =
      let told = written status old new before after (format_status h.reply) (format_line h.reply) h.closed.means in
      let causes = end_causes status old new before after (format_status h.reply) (format_line h.reply) (format_due s force status old h.middle new before after h.device h.opened h.reply h.formatted) h.closed.means in
      let is_refused : status ≡ BadDirectory → IsUnformatted force old new before after = λ is. let t = told (λ e. cc) in refused s force status old h.middle new before after h.device h.opened h.reply h.formatted t.0 t.1 is in
      record {
        done = λ is. let t = told (λ e. cc) in done s force status old h.middle new before after h.device h.opened h.reply h.formatted t.0 t.1 is;
        refused = λ is. inr (is_refused is);
        others = causes;
        exact = λ d there q m. exactly status old new before after (IsReady force (contents d)) causes
            (λ is. ready s force status old h.middle new before after h.device h.opened h.reply h.formatted (told (λ e. cc)).0 is d there)
            (λ is r. let u = is_refused is in not_ready force u.error (contents d) new (u.stood d there) r) q m;
      }

  causes_by : IsShut status old new before after ⊎ IsOpened s force status old new before after → FormatCauses s force status old new before after
  causes_by (inl h) = shut_causes status old new before after s force h
  causes_by (inr h) = opened_causes h

  pub format_causes : Formats s force status old new before after → FormatCauses s force status old new before after
  format_causes h = causes_by h.means
