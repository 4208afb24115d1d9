-- What holds of a file where the checks of a call pass.
use Rattle.std.proofs.Common.{◌≡◌, ℕ, ◌+◌, ◌%◌, ◌<◌, ◌≤◌, Bool, true, false, List, [], ◌∷◌, length, Option, Some, None, Ok, Err, Result, refl, ap, ◌∙◌, arith}
use Rattle.std.specs.Prelude.{if◌then◌else◌, not, ◌&&◌, ◌||◌, ◌==◌, nat_lt, sum_by}
use Rattle.std.specs.List.{list_any}
use Rattle.std.proofs.lemmas.Bool.Decides.{nat_tests}
use Rattle.std.proofs.lemmas.List.Sums.{sum_by-cons}
use Rattle.zn_truth.specs.declared.Shape.{Shape}
use Rattle.zn_model.specs.declared.answers.Refusal.{Refusal}
use Rattle.zn_model.specs.declared.answers.Refusal.TheVariants.{FileOffline, FsReadOnly, BadMode, NotAllowed, Unaligned, TooBig, BadOffset, TooManyHandles}
use Rattle.zn_model.specs.declared.files.FileZones.{FileZones}
use Rattle.zn_model.specs.declared.files.Shown.{Shown}
use Rattle.zn_model.specs.declared.handles.Mode.{Mode}
use Rattle.zn_model.specs.declared.handles.Who.{Who}
use Rattle.zn_model.specs.ZoneFiles.{capacity_of}
use Rattle.zn_model.specs.Access.{reads, writes}
use Rattle.zn_model.specs.Volume.{Volume, Live, Request, file_at, shown_at, is_queued, queued_bytes, issued_end}
use Rattle.zn_model.specs.CallAnswers.{rights_refusal, busy_refusal, or_else, as_refused}
use Rattle.zn_model.specs.Reading.{reading_refusal}
use Rattle.zn_model.specs.Writing.{write_at_once, area_refusal, rights_then}
use Rattle.zn_model.specs.Truncating.{truncate_at_once, unless_same}
use Rattle.zn_model.specs.OpenClose.{opening_refusal}
use Rattle.zn_io.specs.Files.{IsWritable}

-- ---- one check

-- a check that passes, and what is behind it
passes : {X : Type 0} (b : Bool) (x : X) (next : Option X) → (if b then Some x else next) ≡ None → (b ≡ false) × (next ≡ None)
passes true x next h = absurd (cc)
passes false x next h = (refl, h)

isnt_not : (b : Bool) → not b ≡ false → b ≡ true
isnt_not true h = refl
isnt_not false h = absurd (cc)

both_pass : (first second : Option Refusal) → or_else first second ≡ None → (first ≡ None) × (second ≡ None)
both_pass None second h = (refl, h)
both_pass (Some refusal) second h = absurd (cc)

rights_pass : (read_only : Bool) (shown : Shown) → rights_refusal read_only shown ≡ None → shown.may_read ≡ true
rights_pass read_only shown h = isnt_not shown.may_read (passes (not shown.may_read) FileOffline _ (passes read_only FsReadOnly _ h).1).0

-- ---- reads, truncations and opens

pub reading_passes : (v : Volume) (live : Live) (offset : ℕ) → reading_refusal v live offset ≡ None → (shown_at v.inodes live.file).may_read ≡ true
unfolding reading_refusal
reading_passes v live offset h = isnt_not _ (passes _ FileOffline _ (passes (not (reads live.mode)) BadMode _ h).1).0

same_passes : (same : Bool) (check : Option Refusal) → unless_same same check ≡ None → check ≡ None
same_passes same None h = refl
same_passes same (Some refusal) h = absurd (cc)

pub truncate_passes : (v : Volume) (live : Live) (size : ℕ) → truncate_at_once v live size ≡ None → (shown_at v.inodes live.file).may_read ≡ true
unfolding truncate_at_once
truncate_passes v live size h =
    let refused : Refusal → Result (Unit {0}) Refusal = λ refusal. Err refusal in
    let sequential = passes (not (file_at v.inodes live.file).seq) (refused NotAllowed) _ (passes (not (writes live.mode)) (refused BadMode) _ h).1 in
    let rights = both_pass (rights_refusal v.inodes.read_only (shown_at v.inodes live.file)) _ (same_passes _ _ sequential.1) in
    rights_pass v.inodes.read_only (shown_at v.inodes live.file) rights.0

pub opening_passes : (max_open : ℕ) (v : Volume) (f : ℕ) (mode : Mode) (who : Who) → opening_refusal max_open v f mode who ≡ None → (shown_at v.inodes f).may_read ≡ true
unfolding opening_refusal
opening_passes max_open v f mode who h = isnt_not _ (passes _ FileOffline _ (passes (writes mode && v.inodes.read_only) FsReadOnly _ (passes _ TooManyHandles _ h).1).1).0

-- ---- writes

rights_then_passes : (first : Option Refusal) (rest : Option (Result (Unit {0}) Refusal)) → rights_then first rest ≡ None → (first ≡ None) × (rest ≡ None)
rights_then_passes None rest h = (refl, h)
rights_then_passes (Some refusal) rest h = absurd (cc)

none_refused : (check : Option Refusal) → as_refused {X = Unit {0}} check ≡ None → check ≡ None
none_refused None h = refl
none_refused (Some refusal) h = absurd (cc)

not_busy : (queued : Bool) → busy_refusal queued ≡ None → queued ≡ false
not_busy true h = absurd (cc)
not_busy false h = refl

neither : (a b : Bool) → (a || b) ≡ false → (a ≡ false) × (b ≡ false)
neither true b h = absurd (cc)
neither false b h = (refl, h)

not_both : (a b : Bool) → (a && b) ≡ false → a ≡ true → b ≡ false
not_both true b h is = h
not_both false b h is = absurd (cc)

is_equal : (a b : ℕ) → (a == b) ≡ true → a ≡ b
is_equal a b h = grind (arith, nat_tests)

is_positive : (n : ℕ) → (n == 0) ≡ false → 0 < n
is_positive n h = grind (arith, nat_tests)

isnt_below : (a b : ℕ) → nat_lt a b ≡ false → b ≤ a
isnt_below a b h = grind (arith, nat_tests)

-- where no request waits for a file, no bytes do
none_queued : (requests : List Request) (f : ℕ) → list_any (λ (request : Request). request.file == f) requests ≡ false
    → sum_by (λ (request : Request). if request.file == f then length request.bytes else 0) requests ≡ 0
none_queued [] f h = refl
none_queued (request ∷ requests) f h =
    let each = neither (request.file == f) (list_any (λ (request : Request). request.file == f) requests) h in
    let here : (if request.file == f then length request.bytes else 0) ≡ 0 = ap (λ (b : Bool). if b then length request.bytes else 0) each.0 in
    sum_by-cons (λ (request : Request). if request.file == f then length request.bytes else 0) request requests
    ∙ (omega (arith, here, none_queued requests f each.1))

-- an area that passes
record Area (shape : Shape) (file : FileZones) (issued offset len : ℕ) : Type 0 where
  aligned : offset % 4096 ≡ 0
  whole : len % 4096 ≡ 0
  inside : offset + len ≤ capacity_of shape file
  at_end : file.seq ≡ true → offset ≡ issued

area_passes : (shape : Shape) (file : FileZones) (issued offset len : ℕ) → area_refusal shape file issued offset len ≡ None → Area shape file issued offset len
area_passes shape file issued offset len h =
    let blocks = passes (not (offset % 4096 == 0) || not (len % 4096 == 0)) Unaligned _ h in
    let room = passes (nat_lt (capacity_of shape file) (offset + len)) TooBig _ blocks.1 in
    let end = passes (file.seq && not (offset == issued)) BadOffset _ room.1 in
    let each = neither (not (offset % 4096 == 0)) (not (len % 4096 == 0)) blocks.0 in
    record {
      aligned = is_equal (offset % 4096) 0 (isnt_not _ each.0);
      whole = is_equal (len % 4096) 0 (isnt_not _ each.1);
      inside = isnt_below (capacity_of shape file) (offset + len) room.0;
      at_end = λ sequential. is_equal offset issued (isnt_not _ (not_both file.seq (not (offset == issued)) end.0 sequential));
    }

-- what holds where the checks of a write pass
pub record WritePasses (v : Volume) (f offset len : ℕ) : Type 0 where
  pub may_read : (shown_at v.inodes f).may_read ≡ true
  pub writable : IsWritable v.inodes.shape (file_at v.inodes f) (shown_at v.inodes f) offset len
  pub at_end : (file_at v.inodes f).seq ≡ true → offset ≡ (shown_at v.inodes f).size

pub write_passes : (v : Volume) (live : Live) (offset len : ℕ) → write_at_once v live offset len ≡ None → WritePasses v live.file offset len
unfolding write_at_once
write_passes v live offset len h =
    let refused : Refusal → Result (Unit {0}) Refusal = λ refusal. Err refusal in
    let done : Result (Unit {0}) Refusal = Ok tt in
    let f = live.file in
    let mode = passes (not (writes live.mode)) (refused BadMode) _ h in
    let rights = rights_then_passes (rights_refusal v.inodes.read_only (shown_at v.inodes f)) _ mode.1 in
    let some = passes (len == 0) done _ rights.1 in
    let both = both_pass (area_refusal v.inodes.shape (file_at v.inodes f) (issued_end v f) offset len) _ (none_refused _ some.1) in
    let area = area_passes v.inodes.shape (file_at v.inodes f) (issued_end v f) offset len both.0 in
    let none : queued_bytes v.queue f ≡ 0 = none_queued v.queue.queued f (not_busy (is_queued v.queue f) both.1) in
    let at_end : (file_at v.inodes live.file).seq ≡ true → offset ≡ (shown_at v.inodes live.file).size = λ sequential. omega (arith, area.at_end sequential, none) in
    record {
      may_read = rights_pass v.inodes.read_only (shown_at v.inodes f) rights.0;
      writable = record {
        aligned = area.aligned;
        whole = area.whole;
        some = is_positive len some.0;
        inside = area.inside;
        behind = λ sequential. omega (arith, area.inside, at_end sequential);
      };
      at_end = at_end;
    }
