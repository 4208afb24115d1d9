-- The lines that mount and unmount, and what the end of a line does.
use Rattle.std.proofs.Common.{◌≡◌, ℕ, Bool, true, false, List, [], Option, Some, None, Ok, Err, IfOk, refl, sym, ap, ◌∙◌, subst, arith}
use Rattle.std.specs.Prelude.{codes, not, nat_lt, length, if◌then◌else◌}
use Rattle.std.proofs.lemmas.Option.{same_Some, none-some}
use Rattle.zn_truth.specs.Truth.{Truth}
use Rattle.zn_device.specs.States.{DeviceState}
use Rattle.zn_model.specs.declared.answers.MountError.{MountError}
use Rattle.zn_model.specs.declared.answers.OptError.{OptError}
use Rattle.zn_model.specs.declared.answers.Refusal.{Refusal}
use Rattle.zn_model.specs.declared.answers.Refusal.TheVariants.{Busy, PowerLost}
use Rattle.zn_model.specs.declared.files.MountOpts.{MountOpts}
use Rattle.zn_model.specs.declared.handles.Handle.{Handle}
use Rattle.zn_model.specs.Keys.{unkeyed, unkeyed_volume, IsUsedOnce}
use Rattle.zn_model.specs.Mounting.{MountAnswer, fresh_volume, mount_call, unmount_refusal}
use Rattle.zn_model.specs.SuperBlock.{SuperBlock}
use Rattle.zn_model.specs.Volume.{Volume, Mounted}
use Rattle.zn_model.proofs.KeysLooks.{mount_fresh, mount_unkeyed, unmount_unkeyed}
use Rattle.zn_model.proofs.KeysUsed.{mount_once}
use Rattle.zn_lines.specs.Lines.{FormatWords, Mkfs, Mount, Umount}
use Rattle.zn_lines.specs.ReplyTexts.{ok_text}
use Rattle.zn_lines.specs.Session.{line_now, says, says_error, options_in, mount_with, mounts, unmounts, dropped_unless}
use Rattle.zn_lines.specs.Table.{Table, no_numbers}
use Rattle.zn_volume.specs.Means.{spoils}
use Rattle.zn_volume.specs.Mounts.{IsMounted, MountCause}
use Rattle.zn_volume.specs.VolumeState.{VolumeState, mounted_in}
use Rattle.zn_session.specs.Replies.{Kept}
use Rattle.zn_session.specs.SessionState.{HeldState, bare_held, mounted_held, table_by, unkeyed_numbers, IsNumbered, AreNumbered, used_by}
use Rattle.zn_session.specs.Steps.{LineCause, Means, Dropped}
use Rattle.zn_session.specs.declared.replies.Reply.TheVariants.{NotMounted, AlreadyMounted, OptionRefused, MountRefused, Refused, Done}
use Rattle.zn_session.proofs.LineCauses.{mount_causes, mount_goes, mount_not_starved, mounted_causes, refused_causes, still_causes}
use Rattle.zn_session.proofs.Meanings.{leaves_all}
use Rattle.zn_session.proofs.Numbers.{fresh_numbered, none_unkeyed}

-- ---- a volume that was just mounted

fresh_unused : (t : Truth) (super_block : SuperBlock) (opts : MountOpts) → used_by (fresh_volume t super_block opts) ≡ 0
unfolding fresh_volume
fresh_unused t super_block opts = refl

-- what holds of each volume that a mount makes holds of this one
of_mounted : (P : Volume → Type 0) {opts : MountOpts} {old : DeviceState} {new : VolumeState} (is : IsMounted opts old new) → IfOk (mount_call is.given old.world opts).reply P → P new.volume
of_mounted P is holds = let Of : MountAnswer → Type 0 = λ a. IfOk a.reply P in subst Of is.answer holds

-- ---- mounts

module _ (text : Option (List ℕ)) (kept : Kept) (entropy : List ℕ) (numbers : List (Option Handle)) where
  mount_now : (given : List ℕ) (d : DeviceState) → line_now given (table_by entropy (bare_held d) numbers) (Mount text) ≡ mount_with given (options_in text) (table_by entropy (bare_held d) numbers)
  unfolding line_now
  mount_now given d = refl

  pub bad_options : (d : DeviceState) (error : OptError) → numbers ≡ no_numbers → d.spoilt ≡ false → options_in text ≡ Err error
      → Means line_now (Mount text) (OptionRefused error) kept entropy (bare_held d) (bare_held d) numbers numbers
  bad_options d error none unspoilt is =
      leaves_all (Mount text) (OptionRefused error) kept entropy (bare_held d) numbers tt refl
      (mount_now [] d ∙ ap (λ o. mount_with [] o (table_by entropy (bare_held d) numbers)) is) none unspoilt

  module _ (d : DeviceState) (opts : MountOpts) (none : numbers ≡ no_numbers) (unspoilt : d.spoilt ≡ false) (opts_is : options_in text ≡ Ok opts) where
    does_by : (given : List ℕ) (answer : MountAnswer) → mount_call given d.world opts ≡ answer → line_now given (table_by entropy (bare_held d) numbers) (Mount text) ≡ mounts answer (table_by entropy (bare_held d) numbers)
    does_by given answer is =
        mount_now given d ∙ ap (λ o. mount_with given o (table_by entropy (bare_held d) numbers)) opts_is
        ∙ ap (λ (a : MountAnswer). mounts a (table_by entropy (bare_held d) numbers)) is

    pub mounted : (new : VolumeState) → IsMounted opts d new → Means line_now (Mount text) Done kept entropy (bare_held d) (mounted_held new) numbers numbers
    mounted new is =
        let keyless = of_mounted (λ v. unkeyed_volume v ≡ v) is (mount_unkeyed is.given d.world opts) in
        let once = of_mounted IsUsedOnce is (mount_once is.given d.world opts) in
        let unused = of_mounted (λ v. used_by v ≡ 0) is (mount_fresh (λ v. used_by v ≡ 0) fresh_unused is.given d.world opts) in
        record {
          given = is.given;
          writable = tt;
          step = λ goes.
              does_by is.given _ is.answer
              ∙ ap (λ (v : Volume). let table : Table = record (table_by entropy (mounted_held new) numbers) { volume = Some v } in says ok_text table) (sym keyless);
          numbered = λ goes. fresh_numbered (mounted_in new) numbers none once;
          used = λ goes. omega (arith, unused);
          cause = mounted_causes unspoilt is;
        }

    pub unmounted : (why : MountError) (after : DeviceState) → MountCause opts why d after → Means line_now (Mount text) (MountRefused why) kept entropy (bare_held d) (bare_held after) numbers numbers
    unmounted why after cause = record {
      given = cause.given;
      writable = tt;
      step = λ goes. does_by cause.given _ (cause.answer (mount_goes cause goes) (mount_not_starved why goes));
      numbered = λ goes. none;
      used = λ goes. omega arith;
      cause = mount_causes cause;
    }

-- where something is mounted, nothing is formatted or mounted
already_mkfs : (given entropy : List ℕ) (words : FormatWords) (seen : VolumeState) (numbers : List (Option Handle)) → line_now given (table_by entropy (mounted_held seen) numbers) (Mkfs words) ≡ says_error (codes "already-mounted") (table_by entropy (mounted_held seen) numbers)
unfolding line_now
already_mkfs given entropy words seen numbers = refl

already_mount : (given entropy : List ℕ) (text : Option (List ℕ)) (seen : VolumeState) (numbers : List (Option Handle)) → line_now given (table_by entropy (mounted_held seen) numbers) (Mount text) ≡ says_error (codes "already-mounted") (table_by entropy (mounted_held seen) numbers)
unfolding line_now
already_mount given entropy text seen numbers = refl

pub mkfs_mounted : (words : FormatWords) (kept : Kept) (entropy : List ℕ) (seen : VolumeState) (numbers : List (Option Handle)) → IsNumbered (mounted_in seen) numbers → seen.device.spoilt ≡ false
    → Means line_now (Mkfs words) AlreadyMounted kept entropy (mounted_held seen) (mounted_held seen) numbers numbers
mkfs_mounted words kept entropy seen numbers numbered unspoilt =
    leaves_all (Mkfs words) AlreadyMounted kept entropy (mounted_held seen) numbers tt refl (already_mkfs [] entropy words seen numbers) numbered unspoilt

pub mount_mounted : (text : Option (List ℕ)) (kept : Kept) (entropy : List ℕ) (seen : VolumeState) (numbers : List (Option Handle)) → IsNumbered (mounted_in seen) numbers → seen.device.spoilt ≡ false
    → Means line_now (Mount text) AlreadyMounted kept entropy (mounted_held seen) (mounted_held seen) numbers numbers
mount_mounted text kept entropy seen numbers numbered unspoilt =
    leaves_all (Mount text) AlreadyMounted kept entropy (mounted_held seen) numbers tt refl (already_mount [] entropy text seen numbers) numbered unspoilt

-- ---- unmounts

-- no number has a handle in a table either
keyless_none : (numbers : List (Option Handle)) → numbers ≡ no_numbers → unkeyed_numbers numbers ≡ no_numbers
keyless_none numbers none = none_unkeyed numbers none

umount_now : (given entropy : List ℕ) (seen : VolumeState) (numbers : List (Option Handle)) → line_now given (table_by entropy (mounted_held seen) numbers) Umount ≡ unmounts (unmount_refusal (unkeyed (mounted_in seen))) (table_by entropy (mounted_held seen) numbers)
unfolding line_now
umount_now given entropy seen numbers = refl

umount_by : (given entropy : List ℕ) (seen : VolumeState) (numbers : List (Option Handle)) (refusal : Option Refusal) → unmount_refusal (mounted_in seen) ≡ refusal
    → line_now given (table_by entropy (mounted_held seen) numbers) Umount ≡ unmounts refusal (table_by entropy (mounted_held seen) numbers)
umount_by given entropy seen numbers refusal is =
    umount_now given entropy seen numbers ∙ ap (λ r. unmounts r (table_by entropy (mounted_held seen) numbers)) (unmount_unkeyed (mounted_in seen) ∙ is)

-- an unmount is never refused since the device is broken or memory is wanting
mild_refusal : (m : Mounted) (why : Refusal) → unmount_refusal m ≡ Some why → spoils {X = Unit {0}} (Err why) ≡ false
unfolding unmount_refusal
mild_refusal m why is = go m.world.powered (nat_lt 0 (length m.volume.handles.live)) is
  where
    go : (powered some : Bool) → (if not powered then Some PowerLost else if some then Some Busy else None) ≡ Some why → spoils {X = Unit {0}} (Err why) ≡ false
    go false some is = ap (λ w. spoils {X = Unit {0}} (Err w)) (sym (same_Some PowerLost why is))
    go true true is = ap (λ w. spoils {X = Unit {0}} (Err w)) (sym (same_Some Busy why is))
    go true false is = absurd (none-some why is)

pub umounted : (kept : Kept) (entropy : List ℕ) (seen : VolumeState) (after : DeviceState) (numbers free : List (Option Handle)) → seen.device.spoilt ≡ false → unmount_refusal (mounted_in seen) ≡ None → after ≡ seen.device → free ≡ no_numbers
    → Means line_now Umount Done kept entropy (mounted_held seen) (bare_held after) numbers free
umounted kept entropy seen after numbers free unspoilt is same none =
    let Causes : DeviceState → Type 0 = λ d. LineCause false (Ok tt) seen.device d in
    record {
      given = [];
      writable = tt;
      step = λ goes.
          umount_by [] entropy seen numbers None is
          ∙ ap (λ (all : List (Option Handle)). let table : Table = record (table_by entropy (bare_held seen.device) numbers) { numbers = all } in says ok_text table) (sym (keyless_none free none))
          ∙ ap (λ (d : DeviceState). says ok_text (table_by entropy (bare_held d) free)) (sym same);
      numbered = λ goes. none;
      used = λ goes. omega arith;
      cause = subst Causes (sym same) (still_causes false seen.device unspoilt);
    }

pub still_on : (kept : Kept) (entropy : List ℕ) (seen : VolumeState) (numbers : List (Option Handle)) (why : Refusal) → seen.device.spoilt ≡ false → IsNumbered (mounted_in seen) numbers → unmount_refusal (mounted_in seen) ≡ Some why
    → Means line_now Umount (Refused why) kept entropy (mounted_held seen) (mounted_held seen) numbers numbers
still_on kept entropy seen numbers why unspoilt numbered is = record {
  given = [];
  writable = tt;
  step = λ goes. umount_by [] entropy seen numbers (Some why) is;
  numbered = λ goes. numbered;
  used = λ goes. omega arith;
  cause = refused_causes false why seen.device (mild_refusal (mounted_in seen) why is) unspoilt;
}

bare_umount : (given entropy : List ℕ) (d : DeviceState) (numbers : List (Option Handle)) → line_now given (table_by entropy (bare_held d) numbers) Umount ≡ says_error (codes "not-mounted") (table_by entropy (bare_held d) numbers)
unfolding line_now
bare_umount given entropy d numbers = refl

pub umount_bare : (kept : Kept) (entropy : List ℕ) (d : DeviceState) (numbers : List (Option Handle)) → numbers ≡ no_numbers → d.spoilt ≡ false
    → Means line_now Umount NotMounted kept entropy (bare_held d) (bare_held d) numbers numbers
umount_bare kept entropy d numbers none unspoilt =
    leaves_all Umount NotMounted kept entropy (bare_held d) numbers tt refl (bare_umount [] entropy d numbers) none unspoilt

-- ---- the end of a line

-- with power all stays
pub kept : (held : HeldState) (numbers : List (Option Handle)) → AreNumbered held numbers → held.device.world.powered ≡ true → Dropped held held numbers numbers
kept held numbers numbered powered = record {
  device = refl;
  table = λ entropy. ap (λ b. dropped_unless b (table_by entropy held numbers)) (sym powered);
  numbered = numbered;
  used = omega arith;
}

-- without it the volume goes
pub dropped : (seen : VolumeState) (after : DeviceState) (numbers free : List (Option Handle)) → seen.device.world.powered ≡ false → after ≡ seen.device → free ≡ no_numbers → Dropped (mounted_held seen) (bare_held after) numbers free
dropped seen after numbers free lost same none = record {
  device = same;
  table = λ entropy.
      ap (λ (d : DeviceState). table_by entropy (bare_held d) free) same
      ∙ ap (λ (all : List (Option Handle)). let table : Table = record (table_by entropy (bare_held seen.device) free) { numbers = all } in table) (keyless_none free none)
      ∙ ap (λ b. dropped_unless b (table_by entropy (mounted_held seen) numbers)) (sym lost);
  numbered = none;
  used = omega arith;
}

-- and where there is none, nothing does
pub bare_still : (d : DeviceState) (numbers : List (Option Handle)) → d.world.powered ≡ false → numbers ≡ no_numbers → Dropped (bare_held d) (bare_held d) numbers numbers
bare_still d numbers lost none = record {
  device = refl;
  table = λ entropy.
      ap (λ (all : List (Option Handle)). let table : Table = record (table_by entropy (bare_held d) numbers) { numbers = all } in table) (keyless_none numbers none)
      ∙ ap (λ b. dropped_unless b (table_by entropy (bare_held d) numbers)) (sym lost);
  numbered = none;
  used = omega arith;
}
