-- Which of files in order has a zone.
use Rattle.std.proofs.Common.{◌≡◌, ℕ, ◌<◌, ◌≤◌, Bool, true, false, cond, ltb, leb, List, length, get_or, Some, None, refl, ap, ◌∙◌, subst, arith}
use Rattle.std.specs.List.{position, position_or_len}
use Rattle.std.specs.List.Sorted.{IsPartitionPoint, IsPartitionedBy}
use Rattle.std.proofs.lemmas.Bool.{ltb-true, ltb-false, leb-true, leb-false, le-leb, lt-leb, le-ltb, lt-ltb, and_left, and_right}
use Rattle.std.proofs.lemmas.List.Sums.{position_or_len_is}
use Rattle.zn_model.specs.declared.files.FileZones.{FileZones}
use Rattle.zn_model.specs.ZoneFiles.{has_zone}
use Rattle.zn_report.specs.Layouts.{end_of, AreInOrder}

-- where a file ends before a zone, so do all before it
pub ends_in_order : (z : ℕ) (files : List FileZones) → AreInOrder files → IsPartitionedBy (λ file. leb (end_of file) z) files
ends_in_order z files order = λ i j d le inside is.
    let last = leb-true (end_of (get_or files j d)) z is in
    le-leb (end_of (get_or files i d)) z (earlier i j d le inside last)
  where
    earlier : (i j : ℕ) (d : FileZones) → i ≤ j → j < length files → end_of (get_or files j d) ≤ z → end_of (get_or files i d) ≤ z
    earlier i j d le inside last =
        elim (ltb i j) as (λ (b : Bool). ltb i j ≡ b → end_of (get_or files i d) ≤ z) [
          | true ↦ λ is. omega (arith, order.pairs i j d (ltb-true i j is) inside, last)
          | false ↦ λ is. let same : i ≡ j = omega (arith, ltb-false i j is) in omega (arith, last, ap (λ k. end_of (get_or files k d)) same)
        ] refl

ended : (z : ℕ) (file : FileZones) → leb (end_of file) z ≡ true → has_zone z file ≡ false
ended z file is = and_right (leb file.first z) (ltb z (end_of file)) (le-ltb z (end_of file) (leb-true (end_of file) z is))

begins_behind : (z : ℕ) (file : FileZones) → z < file.first → has_zone z file ≡ false
begins_behind z file is = and_left (leb file.first z) (ltb z (end_of file)) (lt-leb file.first z is)

-- the first file that doesn't end before a zone has it
pub found_at : (z i : ℕ) (files : List FileZones) (d : FileZones) → IsPartitionPoint (λ file. leb (end_of file) z ≡ true) (λ file. leb (end_of file) z ≡ false) files i → i < length files
    → has_zone z (get_or files i d) ≡ true → position (has_zone z) files ≡ Some i
found_at z i files d parted inside has =
    let here : position_or_len (has_zone z) files ≡ i =
    position_or_len_is (has_zone z) files i d (omega arith) (λ k below. ended z (get_or files k d) (parted.0 k d (omega arith) below)) (λ more. has) in
    ap (λ (n : ℕ). cond (ltb n (length files)) (Some n) None) here ∙ ap (λ (b : Bool). cond b (Some i) None) (lt-ltb i (length files) inside)

-- or else none has
pub found_none : (z i : ℕ) (files : List FileZones) (d : FileZones) → AreInOrder files → IsPartitionPoint (λ file. leb (end_of file) z ≡ true) (λ file. leb (end_of file) z ≡ false) files i → i ≤ length files
    → (i < length files → has_zone z (get_or files i d) ≡ false) → position (has_zone z) files ≡ None
found_none z i files d order parted within not_here =
    let all : position_or_len (has_zone z) files ≡ length files =
    position_or_len_is (has_zone z) files (length files) d (omega arith) (λ k below. none k below) (λ more. absurd (omega arith)) in
    ap (λ (n : ℕ). cond (ltb n (length files)) (Some n) None) all ∙ ap (λ (b : Bool). cond b (Some (length files)) None) (le-ltb (length files) (length files) (omega arith))
  where
    behind : (k : ℕ) → i < k → k < length files → has_zone z (get_or files k d) ≡ false
    behind k above below =
        begins_behind z (get_or files k d) (omega (arith, order.pairs i k d above below, leb-false (end_of (get_or files i d)) z (parted.1 i d (omega arith) (omega arith))))

    none : (k : ℕ) → k < length files → has_zone z (get_or files k d) ≡ false
    none k below =
        elim (ltb k i) as (λ (b : Bool). ltb k i ≡ b → has_zone z (get_or files k d) ≡ false) [
          | true ↦ λ is. ended z (get_or files k d) (parted.0 k d (omega arith) (ltb-true k i is))
          | false ↦ λ is. elim (ltb i k) as (λ (b : Bool). ltb i k ≡ b → has_zone z (get_or files k d) ≡ false) [
            | true ↦ λ more. behind k (ltb-true i k more) below
            | false ↦ λ more. let same : i ≡ k = omega (arith, ltb-false k i is, ltb-false i k more) in subst (λ (n : ℕ). has_zone z (get_or files n d) ≡ false) same (not_here (omega arith))
          ] refl
        ] refl
