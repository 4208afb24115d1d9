-- The sequential files that are open for writing.
use Rattle.std.proofs.Common.{◌≡◌, ℕ, zero, suc, ◌+◌, ◌-◌, ◌≤◌, Bool, false, List, length, refl, sym, ap, ◌∙◌, subst, arith, zero-add, count_by, length-append}
use Rattle.std.specs.Prelude.{◌&&◌, nat_lt}
use Rattle.std.specs.List.{range_with_len}
use Rattle.zn_truth.specs.World.{World}
use Rattle.zn_model.specs.ZoneFiles.{files_of}
use Rattle.zn_model.specs.Volume.{Inodes, Request, file_at, writers_of}
use Rattle.zn_handle.specs.HandleState as handles
use Rattle.zn_inode.proofs.Counts.{count_cons, count_alike}
use Rattle.zn_volume.specs.VolumeState.{Agrees}

count_none : (a n : ℕ) → count_by (λ k. false) (range_with_len a n) ≡ 0
count_none a zero = refl
count_none a (suc n) = omega (arith, count_cons (λ k. false) a (range_with_len (a + 1) n), count_none (a + 1) n)

-- a range in two parts
count_split : (p : ℕ → Bool) (a m n : ℕ) → count_by p (range_with_len a (m + n)) ≡ count_by p (range_with_len a m) + count_by p (range_with_len (a + m) n)
count_split p a zero n =
    let e : zero + n ≡ n = omega arith in
    let b : a + zero ≡ a = omega arith in
    ap (λ (k : ℕ). count_by p (range_with_len a k)) e ∙ sym (zero-add (count_by p (range_with_len a n))) ∙ ap (λ (z : ℕ). 0 + count_by p (range_with_len z n)) (sym b)
count_split p a (suc m) n =
    let e : suc m + n ≡ suc (m + n) = omega arith in
    let b : a + suc m ≡ a + 1 + m = omega arith in
    let rest = count_split p (a + 1) m n in
    let x = count_cons p a (range_with_len (a + 1) (m + n)) in
    let y = count_cons p a (range_with_len (a + 1) m) in
    let z : count_by p (range_with_len (a + 1 + m) n) ≡ count_by p (range_with_len (a + suc m) n) = ap (λ (k : ℕ). count_by p (range_with_len k n)) (sym b) in
    ap (λ (k : ℕ). count_by p (range_with_len a k)) e ∙ (omega (arith, rest, x, y, z))

-- what the handles count is what the table counts
pub wro_alike : (w : World) (inodes : Inodes) (seen : handles.HandleState) (queued : List Request) (infos scratch : ℕ) → Agrees w inodes seen queued infos scratch
    → handles.wro_of seen ≡ count_by (λ f. (file_at inodes f).seq && nat_lt 0 (writers_of seen.handles f)) (range_with_len 0 (length (files_of inodes.layout)))
wro_alike w inodes seen queued infos scratch agrees =
    let p : ℕ → Bool = λ f. (file_at inodes f).seq && nat_lt 0 (writers_of seen.handles f) in
    let q : ℕ → Bool = λ f. nat_lt 0 (writers_of seen.handles f) in
    let n = length (files_of inodes.layout) in
    let within : seen.cnv ≤ n = omega (arith, agrees.cnv, length-append inodes.layout.cnv inodes.layout.seq) in
    let parts : seen.cnv + (n - seen.cnv) ≡ n = omega arith in
    let first : count_by p (range_with_len 0 seen.cnv) ≡ 0 =
    count_alike p (λ k. false) 0 seen.cnv (λ i below. let e : 0 + i ≡ i = omega arith in
    subst (λ (k : ℕ). p k ≡ false) (sym e) (ap (λ (b : Bool). b && q i) (agrees.conventional i (omega (arith, agrees.cnv))))) ∙ count_none 0 seen.cnv in
    let rest : count_by p (range_with_len seen.cnv (n - seen.cnv)) ≡ count_by q (range_with_len seen.cnv (n - seen.cnv)) =
    count_alike p q seen.cnv (n - seen.cnv) (λ i below. ap (λ (b : Bool). b && q (seen.cnv + i)) (agrees.sequential (seen.cnv + i) (omega (arith, agrees.cnv)) (omega arith))) in
    let at : 0 + seen.cnv ≡ seen.cnv = omega arith in
    let split : count_by p (range_with_len 0 n) ≡ count_by p (range_with_len 0 seen.cnv) + count_by p (range_with_len (0 + seen.cnv) (n - seen.cnv)) =
    ap (λ (k : ℕ). count_by p (range_with_len 0 k)) (sym parts) ∙ count_split p 0 seen.cnv (n - seen.cnv) in
    let moved : count_by p (range_with_len (0 + seen.cnv) (n - seen.cnv)) ≡ count_by p (range_with_len seen.cnv (n - seen.cnv)) = ap (λ (k : ℕ). count_by p (range_with_len k (n - seen.cnv))) at in
    let known : count_by q (range_with_len seen.cnv (seen.files - seen.cnv)) ≡ count_by q (range_with_len seen.cnv (n - seen.cnv)) = ap (λ (k : ℕ). count_by q (range_with_len seen.cnv (k - seen.cnv))) agrees.known in
    omega (arith, first, rest, split, moved, known)
