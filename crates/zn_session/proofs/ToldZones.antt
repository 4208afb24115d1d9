-- What a report of all zones does to a session, and how it is told.
use Rattle.std.proofs.Common.{◌≡◌, ◌<◌, ◌^◌, ℕ, ◌+◌, false, List, [], ◌∷◌, ◌++◌, length, map, get_or, Option, Some, None, Result, Ok, Err, refl, sym, ap, ◌∙◌, subst, inl, inr, zero-add, arith}
use Rattle.std.proofs.Math.ListN.{set}
use Rattle.std.specs.Prelude.{IsOk, IsErrOf, option_map}
use Rattle.std.specs.List.{flat_map, enumerate_from}
use Rattle.std.proofs.lemmas.Bool.{cases_eq}
use Rattle.std.proofs.lemmas.List.{length-map, get_or-map, get_or-set_same, get_or-set_other, ext_get_or}
use Rattle.std.proofs.lemmas.List.FromFn.{length-enumerate_from, get_or-enumerate_from}
use Rattle.zn_base.specs.Causes.{Rose}
use Rattle.zn_truth.specs.declared.Kind.TheVariants.{Sequential}
use Rattle.zn_truth.specs.declared.ZoneInfo.{ZoneInfo}
use Rattle.zn_truth.specs.Orders.{Reply as DeviceReply}
use Rattle.zn_truth.specs.Truth.{Geometry, room, kind_at}
use Rattle.zn_truth.specs.World.{World, issue, geometry_of}
use Rattle.zn_model.specs.declared.answers.Refusal.{Refusal}
use Rattle.zn_model.specs.declared.answers.Refusal.TheVariants.{IoError}
use Rattle.zn_model.specs.declared.files.Place.{Place}
use Rattle.zn_model.specs.declared.files.Place.TheVariants.{Unplaced}
use Rattle.zn_model.specs.declared.handles.Handle.{Handle}
use Rattle.zn_model.specs.Keys.{unkeyed_volume}
use Rattle.zn_model.specs.Looks.{all_infos, report_all, after_report, report_call}
use Rattle.zn_model.specs.Recovery.{refusal_of}
use Rattle.zn_model.specs.Volume.{Volume, Mounted}
use Rattle.zn_lines.specs.Lines.{Zones}
use Rattle.zn_lines.specs.ReplyTexts.{error_text, refusal_name, zone_line, zones_text, number_text}
use Rattle.zn_lines.specs.Session.{line_now, says, place_by, zones_told}
use Rattle.zn_lines.specs.Table.{Table}
use Rattle.zn_volume.specs.Causes.{CallCause}
use Rattle.zn_volume.specs.Means.{spoils}
use Rattle.zn_volume.specs.MountSteps.{no_info}
use Rattle.zn_volume.specs.Reports.{as_told, as_reported}
use Rattle.zn_volume.specs.VolumeState.{VolumeState, mounted_in}
use Rattle.zn_session.specs.Replies.{Kept, told_line, told_zones}
use Rattle.zn_session.specs.SessionState.{HeldState, mounted_held, table_by, unkeyed_numbers, numbered_on, AreNumbered, used_on}
use Rattle.zn_session.specs.Steps.{Means}
use Rattle.zn_session.specs.Told.{told_of, ReportsOn}
use Rattle.zn_session.specs.declared.replies.Reply.TheVariants.{Refused, Zones as ToldZones}
use Rattle.zn_session.specs.declared.room.ZoneTold.{ZoneTold}
use Rattle.zn_session.proofs.Harming.{moved_numbers}
use Rattle.zn_session.proofs.LineCauses.{call_causes}

-- ---- a report of a volume's device

err_same : {X : Type 0} (a b : Refusal) → let r : Result X Refusal = Err a in r ≡ Err b → a ≡ b
err_same a b h = cc

reply_back : (r : DeviceReply) (result : Result (Unit {0}) Refusal) (out infos : List ZoneInfo) (m : Mounted) → as_reported result out ≡ (after_report r infos m).reply → result ≡ as_told r
reply_back (Ok unit) (Ok done) out infos m is = refl
reply_back (Ok unit) (Err refusal) out infos m is = absurd (cc)
reply_back (Err error) (Ok done) out infos m is = absurd (cc)
reply_back (Err error) (Err refusal) out infos m is = ap (λ (e : Refusal). Err e) (err_same {X = List ZoneInfo} refusal (refusal_of error) is)

left_back : (r : DeviceReply) (infos : List ZoneInfo) (m : Mounted) → (after_report r infos m).mounted ≡ m
left_back (Ok unit) infos m = refl
left_back (Err error) infos m = refl

-- what a call to a volume reports
pub volume_reports : (result : Result (Unit {0}) Refusal) (out : List ZoneInfo) (old new : VolumeState)
    → (new.device.spoilt ≡ false → as_reported result out ≡ (report_call (mounted_in old)).reply) → (new.device.spoilt ≡ false → mounted_in new ≡ (report_call (mounted_in old)).mounted)
    → (IsOk result → out ≡ all_infos old.device.world.truth) → (IsErrOf result IoError → Rose old.device.faults new.device.faults) → CallCause result old.device new.device
    → ReportsOn result out (mounted_held old) (mounted_held new)
unfolding report_call
volume_reports result out old new replies mounts infos io_error cause =
    let issued = issue old.device.world (report_all old.device.world.truth) in
    let m : Mounted = record { world = issued.world; volume = old.volume } in
    let after : spoils result ≡ false → mounted_in new ≡ m = λ told. mounts (cause.spoilt ∙ told) ∙ left_back issued.reply (all_infos old.device.world.truth) m in
    record {
      device = record {
        reply = λ told. reply_back issued.reply result out (all_infos old.device.world.truth) m (replies (cause.spoilt ∙ told));
        world = λ told. ap (λ (n : Mounted). n.world) (after told);
        infos = infos;
        io_error = io_error;
        cause = cause;
      };
      volume = λ told. ap (λ (n : Mounted). Some n.volume) (after told);
    }

-- ---- texts

-- what is told of a zone, by the geometry and the places
abbrev told_as : Geometry → (ℕ → Place) → ℕ × ZoneInfo → ZoneTold
told_as g places entry = record { kind = kind_at g entry.0; info = entry.1; room = room g.shape (kind_at g entry.0); place = places entry.0 }

lines_same : (g : Geometry) (places : ℕ → Place) (k : ℕ) (infos : List ZoneInfo)
    → flat_map told_line (enumerate_from k (map (told_as g places) (enumerate_from k infos))) ≡ flat_map (zone_line g places) (enumerate_from k infos)
lines_same g places k [] = refl
lines_same g places k (info ∷ infos) = ap (λ rest. zone_line g places (k, info) ++ rest) (lines_same g places (k + 1) infos)

text_same : (g : Geometry) (places : ℕ → Place) (infos : List ZoneInfo) → told_zones (map (told_as g places) (enumerate_from 0 infos)) ≡ zones_text g places infos
text_same g places infos =
    let many : length (map (told_as g places) (enumerate_from 0 infos)) ≡ length infos = length-map (enumerate_from 0 infos) (told_as g places) ∙ length-enumerate_from 0 infos in
    ap (λ n. number_text n ++ flat_map told_line (enumerate_from 0 (map (told_as g places) (enumerate_from 0 infos)))) many
    ∙ ap (λ rest. number_text (length infos) ++ rest) (lines_same g places 0 infos)

-- places don't depend on the keys of handles
places_unkeyed : (volume : Option Volume) → place_by (option_map unkeyed_volume volume) ≡ place_by volume
places_unkeyed None = refl
places_unkeyed (Some v) = refl

-- ---- the line

zones_now : (table : Table) → let reported = issue table.world (report_all table.world.truth) in line_now [] table Zones ≡ says (zones_told reported.reply table.world table.volume) (record table { world = reported.world })
unfolding line_now
zones_now table = refl

module _ {result : Result (Unit {0}) Refusal} {infos : List ZoneInfo} {old new : HeldState} (entropy : List ℕ) (numbers : List (Option Handle)) (reports : ReportsOn result infos old new) (numbered : AreNumbered old numbers) (told : spoils result ≡ false) where
  table_now : World → Option Volume → Table
  table_now w volume = record { world = w; volume = option_map unkeyed_volume volume; numbers = unkeyed_numbers numbers; entropy = entropy }

  -- the table after it
  pub table_after : (let w : World = (issue old.device.world (report_all old.device.world.truth)).world in record (table_by entropy old numbers) { world = w }) ≡ table_by entropy new numbers
  unfolding table_now
  table_after =
      ap (λ (w : World). table_now w old.volume) (sym (reports.device.world told)) ∙ ap (λ (volume : Option Volume). table_now new.device.world volume) (sym (reports.volume told))

  pub still_numbered : AreNumbered new numbers
  still_numbered = subst (λ (volume : Option Volume). numbered_on volume new.device numbers) (sym (reports.volume told)) (moved_numbers old.volume old.device new.device numbers numbered)

  pub as_used : used_on new.volume ≡ used_on old.volume
  as_used = ap used_on (reports.volume told)

-- a report that is done
pub zones_done : (infos : List ZoneInfo) (kept : Kept) (entropy : List ℕ) (old new : HeldState) (numbers : List (Option Handle)) → ReportsOn (Ok tt) infos old new → kept.zones ≡ map (told_of new) (enumerate_from 0 infos) → length kept.zones < 2 ^ 32
    → AreNumbered old numbers → Means line_now Zones ToldZones kept entropy old new numbers numbers
zones_done infos kept entropy old new numbers reports shown few numbered =
    let g = geometry_of old.device.world in
    let issued = issue old.device.world (report_all old.device.world.truth) in
    record {
      given = [];
      writable = few;
      step = λ goes.
          let text : zones_told issued.reply old.device.world (option_map unkeyed_volume old.volume) ≡ told_zones kept.zones = done_text g issued.reply (reports.device.reply refl) in
          zones_now (table_by entropy old numbers) ∙ ap (λ t. says t (record (table_by entropy old numbers) { world = issued.world })) text
          ∙ ap (λ (table : Table). says (told_zones kept.zones) table) (table_after entropy numbers reports numbered refl);
      numbered = λ goes. still_numbered entropy numbers reports numbered refl;
      used = λ goes. omega (arith, as_used entropy numbers reports numbered refl);
      cause = call_causes false reports.device.cause;
    }
  where
    shown_as : (g : Geometry) → g ≡ geometry_of old.device.world → told_zones kept.zones ≡ zones_text g (place_by (option_map unkeyed_volume old.volume)) (all_infos old.device.world.truth)
    shown_as g same =
        ap told_zones shown
        ∙ ap (λ (h : Geometry). told_zones (map (told_as h (place_by new.volume)) (enumerate_from 0 infos))) (reports.device.cause.geometry ∙ sym same)
        ∙ ap (λ (volume : Option Volume). told_zones (map (told_as g (place_by volume)) (enumerate_from 0 infos))) (reports.volume refl)
        ∙ ap (λ (places : ℕ → Place). told_zones (map (told_as g places) (enumerate_from 0 infos))) (sym (places_unkeyed old.volume))
        ∙ text_same g (place_by (option_map unkeyed_volume old.volume)) infos
        ∙ ap (zones_text g (place_by (option_map unkeyed_volume old.volume))) (reports.device.infos refl)

    done_text : (g : Geometry) (r : DeviceReply) → Ok tt ≡ as_told r → zones_told r old.device.world (option_map unkeyed_volume old.volume) ≡ told_zones kept.zones
    done_text g (Ok unit) is = sym (shown_as (geometry_of old.device.world) refl)
    done_text g (Err error) is = absurd (cc)

-- a report that is refused
pub zones_refused : (refusal : Refusal) (infos : List ZoneInfo) (kept : Kept) (entropy : List ℕ) (old new : HeldState) (numbers : List (Option Handle)) → ReportsOn (Err refusal) infos old new
    → AreNumbered old numbers → Means line_now Zones (Refused refusal) kept entropy old new numbers numbers
zones_refused refusal infos kept entropy old new numbers reports numbered =
    let issued = issue old.device.world (report_all old.device.world.truth) in
    record {
      given = [];
      writable = tt;
      step = λ goes.
          zones_now (table_by entropy old numbers)
          ∙ ap (λ t. says t (record (table_by entropy old numbers) { world = issued.world })) (refused_text issued.reply (reports.device.reply goes))
          ∙ ap (λ (table : Table). says (error_text (refusal_name refusal)) table) (table_after entropy numbers reports numbered goes);
      numbered = λ goes. still_numbered entropy numbers reports numbered goes;
      used = λ goes. omega (arith, as_used entropy numbers reports numbered goes);
      cause = call_causes false reports.device.cause;
    }
  where
    refused_text : (r : DeviceReply) → Err refusal ≡ as_told r → zones_told r old.device.world (option_map unkeyed_volume old.volume) ≡ error_text (refusal_name refusal)
    refused_text (Ok unit) is = absurd (cc)
    refused_text (Err error) is = ap (λ e. error_text (refusal_name e)) (sym (err_same {X = Unit {0}} refusal (refusal_of error) is))

-- ---- what is noted

-- the first zones are noted, as a report told them
pub record AreNoted (held : HeldState) (infos : List ZoneInfo) (zones : List ZoneTold) (n : ℕ) : Type 0 where
  pub each : (k : ℕ) (d : ZoneTold) (e : ZoneInfo) → k < n → get_or zones k d ≡ told_of held (k, get_or infos k e)

pub none_noted : (held : HeldState) (infos : List ZoneInfo) (zones : List ZoneTold) → AreNoted held infos zones 0
none_noted held infos zones = record { each = λ k d e below. absurd (omega (arith, below)) }

pub one_noted : (held : HeldState) (infos : List ZoneInfo) (zones : List ZoneTold) (z : ℕ) (zone : ZoneTold) → z < length zones → ((e : ZoneInfo) → zone ≡ told_of held (z, get_or infos z e)) → AreNoted held infos zones z
    → AreNoted held infos (set zones z zone) (z + 1)
one_noted held infos zones z zone there is noted = record {
  each = λ k d e below. elim (cases_eq k z) [
    | inl same ↦ subst (λ (j : ℕ). get_or (set zones z zone) j d ≡ told_of held (j, get_or infos j e)) (sym same) (get_or-set_same zones z zone d there ∙ is e)
    | inr other ↦ get_or-set_other zones z k zone d other ∙ noted.each k d e (omega (arith, below, other))
  ];
}

-- what stands for a zone that isn't noted
abbrev no_told : ZoneTold
no_told = record { kind = Sequential; info = no_info; room = 0; place = Unplaced }

pub all_noted : (held : HeldState) (infos : List ZoneInfo) (zones : List ZoneTold) (n : ℕ) → length zones ≡ length infos → n ≡ length infos → AreNoted held infos zones n → zones ≡ map (told_of held) (enumerate_from 0 infos)
all_noted held infos zones n len all noted =
    let entries = enumerate_from 0 infos in
    ext_get_or no_told zones (map (told_of held) entries) (len ∙ sym (length-map entries (told_of held) ∙ length-enumerate_from 0 infos))
    (λ k below.
    let there : k < length infos = omega (arith, below, len) in
    noted.each k no_told no_info (omega (arith, there, all))
    ∙ sym (get_or-map (told_of held) entries k (0, no_info) no_told (omega (arith, there, length-enumerate_from 0 infos))
    ∙ ap (told_of held) (get_or-enumerate_from 0 infos k (0, no_info) there ∙ ap (λ (j : ℕ). let entry : ℕ × ZoneInfo = (j, get_or infos k no_info) in entry) (zero-add k))))
