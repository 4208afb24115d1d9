-- Whatever was given, reads differ in bytes alone.
use Rattle.std.proofs.Common.{◌≡◌, ℕ, ◌-◌, Bool, true, false, List, ◌++◌, length, replicate, Option, Some, None, Result, Ok, Err, refl, sym, ap, ◌∙◌, arith}
use Rattle.std.specs.Prelude.{if◌then◌else◌}
use Rattle.std.proofs.lemmas.List.{length-take-le, length-append, length-replicate}
use Rattle.zn_truth.specs.Orders.{Reply}
use Rattle.zn_truth.specs.OrderLists.{issue_all}
use Rattle.zn_model.specs.declared.answers.Refusal.{Refusal}
use Rattle.zn_model.specs.declared.answers.Refusal.TheVariants.{PowerLost}
use Rattle.zn_model.specs.declared.handles.Handle.{Handle}
use Rattle.zn_model.specs.CallAnswers.{Answer, as_refused, unless, refused}
use Rattle.zn_model.specs.Given.{fitted, told_or}
use Rattle.zn_model.specs.GivenLaws.{count_in}
use Rattle.zn_model.specs.Reading.{reading_refusal, read_end, read_orders, read_bytes, after_read, read_now, read_by, read_call}
use Rattle.zn_model.specs.Volume.{Live, Mounted, file_at, shown_at, live_at}

pub length_fitted : (n : ℕ) (given : List ℕ) → length (fitted n given) ≡ n
length_fitted n given = length-take-le n (given ++ replicate n 0) (omega (arith, length-append given (replicate n 0), length-replicate {A = ℕ} n 0))

-- two answers that differ in bytes alone
pub record Alike (one other : Answer (List ℕ)) : Type 0 where
  pub mounted : one.mounted ≡ other.mounted
  pub count : count_in one.reply ≡ count_in other.reply

alike_itself : (answer : Answer (List ℕ)) → Alike answer answer
alike_itself answer = record { mounted = refl; count = refl }

lengths_by : (told : Bool) (n : ℕ) (held given other : List ℕ) → length (if told then held else fitted n given) ≡ length (if told then held else fitted n other)
lengths_by true n held given other = refl
lengths_by false n held given other = length_fitted n given ∙ sym (length_fitted n other)

after_alike : (reply : Reply) (m : Mounted) (f : ℕ) (bytes others : List ℕ) → length bytes ≡ length others → Alike (after_read reply m f bytes) (after_read reply m f others)
after_alike (Ok unit) m f bytes others same = record { mounted = refl; count = ap Ok same }
after_alike (Err error) m f bytes others same = record { mounted = refl; count = refl }

now_alike : (given other : List ℕ) (m : Mounted) (f offset len : ℕ) → Alike (read_now given m f offset len) (read_now other m f offset len)
unfolding read_now
now_alike given other m f offset len =
    let file = file_at m.volume.inodes f in
    let end = read_end (shown_at m.volume.inodes f) offset len in
    let orders = issue_all m.world (read_orders m.volume.inodes.shape file offset end) in
    after_alike orders.reply (record m { world = orders.world }) f (told_or m.world.truth (end - offset) (read_bytes m.world.truth m.volume.inodes.shape file offset end) given)
    (told_or m.world.truth (end - offset) (read_bytes m.world.truth m.volume.inodes.shape file offset end) other)
    (lengths_by m.world.truth.told (end - offset) (read_bytes m.world.truth m.volume.inodes.shape file offset end) given other)

unless_alike : (check : Option (Result (List ℕ) Refusal)) (m : Mounted) (one other : Answer (List ℕ)) → Alike one other → Alike (unless check m one) (unless check m other)
unless_alike (Some reply) m one other same = record { mounted = refl; count = refl }
unless_alike None m one other same = same

chosen_alike : (b : Bool) (m : Mounted) (one other : Answer (List ℕ)) → Alike one other → Alike (if b then one else refused PowerLost m) (if b then other else refused PowerLost m)
chosen_alike true m one other same = same
chosen_alike false m one other same = alike_itself (refused PowerLost m)

by_alike : (given other : List ℕ) (found : Option Live) (m : Mounted) (offset len : ℕ) → Alike (read_by given found m offset len) (read_by other found m offset len)
by_alike given other None m offset len = record { mounted = refl; count = refl }
by_alike given other (Some live) m offset len =
    unless_alike (as_refused (reading_refusal m.volume live offset)) m (read_now given m live.file offset len) (read_now other m live.file offset len) (now_alike given other m live.file offset len)

pub call_alike : (given other : List ℕ) (m : Mounted) (h : Handle) (offset len : ℕ) → Alike (read_call given m h offset len) (read_call other m h offset len)
unfolding read_call
call_alike given other m h offset len =
    chosen_alike m.world.powered m (read_by given (live_at m.volume.handles h) m offset len) (read_by other (live_at m.volume.handles h) m offset len)
    (by_alike given other (live_at m.volume.handles h) m offset len)
