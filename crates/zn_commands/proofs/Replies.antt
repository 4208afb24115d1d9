-- What a format's reply tells of the device.
use Rattle.std.proofs.Common.{◌≡◌, ℕ, Bool, true, false, not, List, [], ◌∷◌, ◌++◌, Ok, Err, refl, sym, ap, ◌∙◌, subst}
use Rattle.std.specs.Prelude.{◌*◌, ◌&&◌, ◌||◌, if◌then◌else◌, is_ok, IsTrue}
use Rattle.std.specs.List.{list_all}
use Rattle.zn_truth.specs.declared.Cond.{Cond}
use Rattle.zn_truth.specs.Truth.{Truth, zone_at, bytes_at, geometry, is_good}
use Rattle.zn_truth.specs.Orders.{Order, ReadAt, Reply}
use Rattle.zn_truth.specs.OrderLaws.{is_look}
use Rattle.zn_truth.specs.OrderLists.{issue_all}
use Rattle.zn_truth.specs.Obeying.{IsAnswered}
use Rattle.zn_truth.specs.World.{World, geometry_of}
use Rattle.zn_truth.proofs.OrderLists.{looks_leave}
use Rattle.zn_truth.proofs.Telling.{issue_all_told}
use Rattle.zn_device.specs.States.{DeviceState, Ordered}
use Rattle.zn_model.specs.declared.answers.FormatError.{FormatError}
use Rattle.zn_model.specs.declared.answers.FormatError.TheVariants.{AlreadyFormatted, BadZone0}
use Rattle.zn_model.specs.SuperBlock.{SuperBlock, encoded}
use Rattle.zn_model.specs.Given.{fitted}
use Rattle.zn_truth.specs.declared.limits.TheConstants.{BLOCK_SIZE}
use Rattle.zn_model.specs.Mounting.{super_block_of}
use Rattle.zn_model.specs.Formatting.{may_hold_copies}
use Rattle.zn_mkfs.specs.Commands.{FormatReply, is_kept, looks, writes, good_commands, answer_by}
use Rattle.zn_mkfs.specs.Formats.{IsFormat}
use Rattle.zn_commands.specs.Refusing.{holds_super_block, Refuses}

-- ---- tests

both_true : (a b : Bool) → IsTrue (a && b) → IsTrue a × IsTrue b
both_true true b h = (refl, h)
both_true false b h = absurd (cc)

not_true : (b : Bool) → IsTrue (not b) → b ≡ false
not_true true h = cc
not_true false h = refl

-- ---- which commands were carried out

-- commands that are all done leave what they make of the device
record AreDone (orders : List Order) (device after : DeviceState) : Type 0 where
  unspoilt : after.spoilt ≡ false
  reply : (issue_all device.world orders).reply ≡ Ok tt
  world : after.world ≡ (issue_all device.world orders).world

are_done : (orders : List Order) (r : Reply) (device after : DeviceState) → r ≡ Ok tt → Ordered orders r device after → AreDone orders device after
are_done orders r device after ok h =
    let answered : IsAnswered r = subst IsAnswered (sym ok) refl in
    record {
      unspoilt = h.caused.spoilt ∙ ap not answered;
      reply = sym (h.obeys.reply answered) ∙ ok;
      world = h.obeys.world answered;
    }

-- whether it tells its bytes stays
told_stays : (orders : List Order) (device after : DeviceState) → AreDone orders device after → after.world.truth.told ≡ device.world.truth.told
told_stays orders device after h = ap (λ (w : World). w.truth.told) h.world ∙ issue_all_told device.world orders

-- looks leave what it holds
same_truth : (orders : List Order) (device after : DeviceState) → IsTrue (list_all is_look orders) → AreDone orders device after → after.world.truth ≡ device.world.truth
same_truth orders device after look h = ap (λ (w : World). w.truth) h.world ∙ looks_leave device.world orders look h.reply

-- ---- a format that refuses only looks

look_only : (b : Bool) → IsTrue (list_all is_look ((if b then ReadAt 0 0 2 ∷ [] else []) ++ []))
look_only true = refl
look_only false = refl

kept_only : (given : List ℕ) (t : Truth) (block : List ℕ) (force kept : Bool) → IsTrue kept → IsTrue (list_all is_look (looks t ++ (if kept then [] else writes t block)))
kept_only given t block force true h = look_only (may_hold_copies t)
kept_only given t block force false h = absurd (cc)

good_only : (given : List ℕ) (t : Truth) (block : List ℕ) (force good : Bool) → IsTrue good → IsTrue (is_kept given t force) → IsTrue (list_all is_look (if good then good_commands given t block force else []))
good_only given t block force true h kept = kept_only given t block force (is_kept given t force) kept
good_only given t block force false h kept = absurd (cc)

bad_only : (given : List ℕ) (t : Truth) (block : List ℕ) (force good : Bool) → good ≡ false → IsTrue (list_all is_look (if good then good_commands given t block force else []))
bad_only given t block force true h = absurd (cc)
bad_only given t block force false h = refl

-- ---- what a reply tells

-- Over a device that tells its bytes nothing given counts.
kept_told : (given : List ℕ) (t : Truth) (force : Bool) → t.told ≡ true → is_kept given t force ≡ (holds_super_block t && not force)
kept_told given t force told =
    ap (λ (b : Bool). (may_hold_copies t && is_ok (super_block_of (if b then bytes_at t 0 0 2 else fitted (2 * BLOCK_SIZE) given))) && not force) told

-- a format that is done: so are its commands, zone 0 is good, and no super block is kept
record IsDone (given : List ℕ) (t : Truth) (force : Bool) (r : Reply) : Type 0 where
  done : r ≡ Ok tt
  good : IsTrue (is_good (zone_at t 0).cond)
  free : is_kept given t force ≡ false

-- what is told once all commands are done
abbrev told_by : Bool → Bool → Cond → FormatReply
told_by good kept cond = if not good then Err (BadZone0 cond) else if kept then Err AlreadyFormatted else Ok tt

done_by : (good kept : Bool) (cond : Cond) → told_by good kept cond ≡ Ok tt → IsTrue good × (kept ≡ false)
done_by true true cond h = absurd (cc)
done_by true false cond h = (refl, refl)
done_by false kept cond h = absurd (cc)

is_done : (given : List ℕ) (t : Truth) (force : Bool) (r : Reply) → answer_by given t force r ≡ Ok tt → IsDone given t force r
is_done given t force (Err error) h = absurd (cc)
is_done given t force (Ok unit) h =
    let by = done_by (is_good (zone_at t 0).cond) (is_kept given t force) (zone_at t 0).cond h in
    record { done = refl; good = by.0; free = by.1 }

-- The device isn't spoilt, has the zones that it had, and tells its bytes where it told them.
pub record IsWhole (device after : DeviceState) : Type 0 where
  pub unspoilt : after.spoilt ≡ false
  pub told : after.world.truth.told ≡ device.world.truth.told
  pub geometry : geometry after.world.truth ≡ geometry device.world.truth

pub format_whole : (s : SuperBlock) (force : Bool) (device after : DeviceState) → IsFormat s force (Ok tt) device after → IsWhole device after
unfolding geometry_of
format_whole s force device after f =
    let d = is_done f.given device.world.truth force f.reply (sym f.answer) in
    let a = are_done _ f.reply device after d.done f.commands in
    record { unspoilt = a.unspoilt; told = told_stays _ device after a; geometry = f.commands.obeys.geometry }

-- zone 0 is good, and no super block is kept
pub format_ready : (s : SuperBlock) (force : Bool) (device after : DeviceState) → device.world.truth.told ≡ true → IsFormat s force (Ok tt) device after
    → IsTrue (is_good (zone_at device.world.truth 0).cond) × ((holds_super_block device.world.truth && not force) ≡ false)
format_ready s force device after told f =
    let d = is_done f.given device.world.truth force f.reply (sym f.answer) in
    (d.good, sym (kept_told f.given device.world.truth force told) ∙ d.free)

-- A format that refuses the device leaves it as it was.
pub record IsLeft (force : Bool) (error : FormatError) (device after : DeviceState) : Type 0 where
  pub unspoilt : after.spoilt ≡ false
  pub truth : after.world.truth ≡ device.world.truth
  pub refuses : Refuses force error device.world.truth

pub left_formatted : (s : SuperBlock) (force : Bool) (device after : DeviceState) → device.world.truth.told ≡ true → IsFormat s force (Err AlreadyFormatted) device after → IsLeft force AlreadyFormatted device after
left_formatted s force device after told f =
    let t = device.world.truth in
    let k = f.already.0 refl in
    let a = are_done _ f.reply device after k.done f.commands in
    let both = both_true (holds_super_block t) (not force) (subst IsTrue (kept_told f.given t force told) k.kept) in
    record {
      unspoilt = a.unspoilt;
      truth = same_truth _ device after (good_only f.given t (encoded s) force (is_good (zone_at t 0).cond) k.good k.kept) a;
      refuses = (k.good, both.0, not_true force both.1);
    }

pub left_bad : (s : SuperBlock) (force : Bool) (cond : Cond) (device after : DeviceState) → IsFormat s force (Err (BadZone0 cond)) device after → IsLeft force (BadZone0 cond) device after
left_bad s force cond device after f =
    let t = device.world.truth in
    let b = (f.bad_zone0 cond).0 refl in
    let a = are_done _ f.reply device after b.done f.commands in
    record {
      unspoilt = a.unspoilt;
      truth = same_truth _ device after (bad_only f.given t (encoded s) force (is_good (zone_at t 0).cond) (ap is_good (sym b.cond_is) ∙ b.bad)) a;
      refuses = (sym b.cond_is, b.bad);
    }

-- a device that refuses isn't ready
pub refused_free : (force holds : Bool) → IsTrue (force || not holds) → holds ≡ true → force ≡ false → ⊥
refused_free true holds free is not_forced = cc
refused_free false true free is not_forced = cc
refused_free false false free is not_forced = cc

-- one that isn't kept is free
pub kept_free : (force holds : Bool) → (holds && not force) ≡ false → IsTrue (force || not holds)
kept_free true holds h = refl
kept_free false true h = cc
kept_free false false h = refl
