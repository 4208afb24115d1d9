-- What the checks of a write, a submit and a truncate leave known where none of them refuses.
use Rattle.std.proofs.Common.{◌≡◌, ℕ, ◌+◌, ◌*◌, ◌/◌, ◌%◌, ◌<◌, ◌≤◌, Bool, true, false, Option, Some, None, Result, Ok, Err, refl, sym, arith}
use Rattle.std.specs.Prelude.{if◌then◌else◌, not, ◌==◌, ◌&&◌, ◌||◌, nat_lt}
use Rattle.std.proofs.lemmas.Bool.{true≢false, ltb-false, eqb-true, eqb-false, not-false}
use Rattle.zn_truth.specs.declared.Shape.{Shape}
use Rattle.zn_model.specs.declared.answers.Refusal.{Refusal}
use Rattle.zn_model.specs.declared.answers.Refusal.TheVariants.{Unaligned, TooBig, BadOffset, BadMode, NotAllowed}
use Rattle.zn_model.specs.declared.files.FileZones.{FileZones}
use Rattle.zn_model.specs.Access.{writes as may_write_by}
use Rattle.zn_model.specs.CallAnswers.{Answer, as_refused, or_else, busy_refusal, rights_refusal, unless}
use Rattle.zn_model.specs.Requests.{queue_refusal, empty_refusal, submitting_refusal}
use Rattle.zn_model.specs.Truncating.{new_size_refusal, unless_same, truncate_at_once}
use Rattle.zn_model.specs.Volume.{Volume, Mounted, Live, file_at, capacity_at, shown_at, is_queued, issued_end}
use Rattle.zn_model.specs.Writing.{area_refusal, unless_empty, rights_then, write_at_once}
use Rattle.zn_model.specs.ZoneFiles.{capacity_of}

-- ---- checks in a row

-- an answer that comes only where no check gave one
pub unless_if : {X : Type 0} (P : Mounted → Type 0) (check : Option (Result X Refusal)) (m : Mounted) (answer : Answer X) → P m → (check ≡ None → P answer.mounted) → P (unless check m answer).mounted
unless_if P (Some reply) m answer here follows = here
unless_if P None m answer here follows = follows refl

module _ {X : Type 0} where
  passed : (b : Bool) (x : X) (rest : Option X) → (if b then Some x else rest) ≡ None → (b ≡ false) × (rest ≡ None)
  passed true x rest none = absurd (cc)
  passed false x rest none = (refl, none)

  not_refused : (check : Option Refusal) → as_refused {X = X} check ≡ None → check ≡ None
  not_refused None none = refl
  not_refused (Some refusal) none = absurd (cc)

either_passed : (first second : Option Refusal) → or_else first second ≡ None → (first ≡ None) × (second ≡ None)
either_passed None second none = (refl, none)
either_passed (Some refusal) second none = absurd (cc)

rights_passed : (rights : Option Refusal) (rest : Option (Result (Unit {0}) Refusal)) → rights_then rights rest ≡ None → rest ≡ None
rights_passed None rest none = none
rights_passed (Some refusal) rest none = absurd (cc)

not_busy : (queued : Bool) → busy_refusal queued ≡ None → queued ≡ false
not_busy true none = absurd (cc)
not_busy false none = refl

both_false : (a b : Bool) → (a || b) ≡ false → (a ≡ false) × (b ≡ false)
both_false true b none = absurd (true≢false none)
both_false false b none = (refl, none)

-- ---- the area of a write

-- An area that isn't refused: whole blocks of the file, and of a sequential one at the end of what was issued.
pub record IsAreaFor (shape : Shape) (file : FileZones) (issued offset len : ℕ) : Type 0 where
  pub aligned : 4096 * (offset / 4096) ≡ offset
  pub whole : 4096 * (len / 4096) ≡ len
  pub inside : offset + len ≤ capacity_of shape file
  pub at_end : file.seq ≡ true → offset ≡ issued

multiple : (n : ℕ) → not (n % 4096 == 0) ≡ false → 4096 * (n / 4096) ≡ n
multiple n is = let rest : n % 4096 ≡ 0 = eqb-true (n % 4096) 0 (not-false (n % 4096 == 0) is) in omega (arith, rest)

-- the end of a sequential file
end_known : (seq : Bool) (offset issued : ℕ) → (seq && not (offset == issued)) ≡ false → seq ≡ true → offset ≡ issued
end_known true offset issued none is = eqb-true offset issued (not-false (offset == issued) none)
end_known false offset issued none is = absurd (true≢false (sym is))

pub area_passed : (shape : Shape) (file : FileZones) (issued offset len : ℕ) → area_refusal shape file issued offset len ≡ None → IsAreaFor shape file issued offset len
area_passed shape file issued offset len none =
    let blocks = passed (not (offset % 4096 == 0) || not (len % 4096 == 0)) Unaligned _ none in
    let room = passed (nat_lt (capacity_of shape file) (offset + len)) TooBig _ blocks.1 in
    let end = passed (file.seq && not (offset == issued)) BadOffset None room.1 in
    let both = both_false (not (offset % 4096 == 0)) (not (len % 4096 == 0)) blocks.0 in
    record {
      aligned = multiple offset both.0;
      whole = multiple len both.1;
      inside = ltb-false (capacity_of shape file) (offset + len) room.0;
      at_end = end_known file.seq offset issued end.0;
    }

-- ---- write

-- a write that isn't answered at once: it has bytes, its area fits, and nothing waits for the file
pub record IsWriteFor (v : Volume) (f offset len : ℕ) : Type 0 where
  pub some : 0 < len
  pub area : IsAreaFor v.inodes.shape (file_at v.inodes f) (issued_end v f) offset len
  pub free : is_queued v.queue f ≡ false

some_bytes : (len : ℕ) → (len == 0) ≡ false → 0 < len
some_bytes len is = some_if len (eqb-false len 0 is)
  where
    some_if : (n : ℕ) → (n ≡ 0 → ⊥) → 0 < n
    some_if n not_none = grind (arith)

pub write_passed : (v : Volume) (live : Live) (offset len : ℕ) → write_at_once v live offset len ≡ None → IsWriteFor v live.file offset len
unfolding write_at_once
write_passed v live offset len none =
    let area = area_refusal v.inodes.shape (file_at v.inodes live.file) (issued_end v live.file) offset len in
    let busy = busy_refusal (is_queued v.queue live.file) in
    let mode = passed (not (may_write_by live.mode)) (Err BadMode) _ none in
    let rest = rights_passed (rights_refusal v.inodes.read_only (shown_at v.inodes live.file)) (unless_empty len (or_else area busy)) mode.1 in
    let bytes = passed (len == 0) (Ok tt) (as_refused (or_else area busy)) rest in
    let both = either_passed area busy (not_refused (or_else area busy) bytes.1) in
    record {
      some = some_bytes len bytes.0;
      area = area_passed v.inodes.shape (file_at v.inodes live.file) (issued_end v live.file) offset len both.0;
      free = not_busy (is_queued v.queue live.file) both.1;
    }

-- ---- submit

-- a submit that isn't refused: it has bytes, and its area fits
pub record IsSubmitFor (v : Volume) (f offset len : ℕ) : Type 0 where
  pub some : 0 < len
  pub area : IsAreaFor v.inodes.shape (file_at v.inodes f) (issued_end v f) offset len

pub submit_passed : (v : Volume) (live : Live) (offset len : ℕ) → submitting_refusal v live offset len ≡ None → IsSubmitFor v live.file offset len
unfolding submitting_refusal
submit_passed v live offset len none =
    let area = area_refusal v.inodes.shape (file_at v.inodes live.file) (issued_end v live.file) offset len in
    let mode = passed (not (may_write_by live.mode)) BadMode _ none in
    let rights = either_passed (rights_refusal v.inodes.read_only (shown_at v.inodes live.file)) (or_else (empty_refusal len) (or_else area (queue_refusal v.queue len))) mode.1 in
    let bytes = either_passed (empty_refusal len) (or_else area (queue_refusal v.queue len)) rights.1 in
    let some = passed (len == 0) _ None bytes.0 in
    let both = either_passed area (queue_refusal v.queue len) bytes.1 in
    record { some = some_bytes len some.0; area = area_passed v.inodes.shape (file_at v.inodes live.file) (issued_end v live.file) offset len both.0 }

-- ---- truncate

-- a truncate that isn't answered at once: of a sequential file, to 0 or to its capacity, and nothing waits for it
pub record IsTruncateFor (v : Volume) (f size : ℕ) : Type 0 where
  pub seq : (file_at v.inodes f).seq ≡ true
  pub inside : size ≤ capacity_at v.inodes f
  pub free : is_queued v.queue f ≡ false

size_inside : (size most : ℕ) → (if (size == 0) || (size == most) then None else Some NotAllowed) ≡ None → size ≤ most
size_inside size most none = by_tests (size == 0) (size == most) refl refl none
  where
    by_tests : (a b : Bool) → (size == 0) ≡ a → (size == most) ≡ b → (if a || b then None else Some NotAllowed) ≡ None → size ≤ most
    by_tests true b zero other passes = omega (arith, eqb-true size 0 zero)
    by_tests false true zero all passes = omega (arith, eqb-true size most all)
    by_tests false false zero all passes = absurd (cc)

same_passed : (same : Bool) (check : Option Refusal) → unless_same same check ≡ None → check ≡ None
same_passed same None none = refl
same_passed same (Some refusal) none = absurd (cc)

pub truncate_passed : (v : Volume) (live : Live) (size : ℕ) → truncate_at_once v live size ≡ None → IsTruncateFor v live.file size
unfolding truncate_at_once
truncate_passed v live size none =
    let file = file_at v.inodes live.file in
    let busy = busy_refusal (is_queued v.queue live.file) in
    let rights = rights_refusal v.inodes.read_only (shown_at v.inodes live.file) in
    let mode = passed (not (may_write_by live.mode)) (Err BadMode) _ none in
    let seq = passed (not file.seq) (Err NotAllowed) _ mode.1 in
    let rest = same_passed (size == (shown_at v.inodes live.file).size) (or_else rights (or_else (new_size_refusal v.inodes.shape file size) busy)) seq.1 in
    let allowed = either_passed rights (or_else (new_size_refusal v.inodes.shape file size) busy) rest in
    let both = either_passed (new_size_refusal v.inodes.shape file size) busy allowed.1 in
    record {
      seq = not-false file.seq seq.0;
      inside = size_inside size (capacity_of v.inodes.shape file) both.0;
      free = not_busy (is_queued v.queue live.file) both.1;
    }
