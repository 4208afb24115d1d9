-- A walk over the zones: the files so far, and those of the zones that are left.
use Rattle.std.proofs.Common.{◌≡◌, ℕ, zero, suc, ◌+◌, ◌-◌, ◌<◌, ◌≤◌, Bool, true, false, not, cond, eqb, ltb, List, [], ◌∷◌, ◌++◌, length, map, filter, get_or, refl, sym, ap, ◌∙◌, subst, append_assoc, length-append, arith}
use Rattle.std.specs.Prelude.{◌&&◌, ◌||◌, if◌then◌else◌, All}
use Rattle.std.specs.List.{range_with_len}
use Rattle.std.proofs.lemmas.List.{append-nil}
use Rattle.std.proofs.lemmas.List.Elements.{All-push}
use Rattle.std.proofs.lemmas.Bool.{lt-ltb, ne_eqb, both_ways, and_from, and_left, and_right, or_from, or_left, or_right}
use Rattle.zn_truth.specs.declared.Kind.{Kind}
use Rattle.zn_truth.specs.declared.Kind.TheVariants.{Conventional, Sequential}
use Rattle.zn_truth.specs.Truth.{is_sequential}
use Rattle.zn_model.specs.declared.files.FileZones.{FileZones}
use Rattle.zn_model.specs.ZoneFiles.{Layout, layout_of, files_of, is_conventional, begins_cnv, begins_seq, run_length, cnv_file, seq_file}
use Rattle.zn_report.specs.Layouts.{with_file, file_from, end_of}
use Rattle.zn_report.proofs.Runs.{run_inside, run_kinds, run_some, run_stops}

-- ---- filters of a range

-- a filter passes over what its test refuses
skip : (p : ℕ → Bool) (a m rest : ℕ) → ((i : ℕ) → a ≤ i → i < a + m → p i ≡ false)
    → filter p (range_with_len a (m + rest)) ≡ filter p (range_with_len (a + m) rest)
skip p a zero rest none =
    let same : zero + rest ≡ rest = omega arith in
    let here : a ≡ a + zero = omega arith in
    ap (λ n. filter p (range_with_len a n)) same ∙ ap (λ b. filter p (range_with_len b rest)) here
skip p a (suc m) rest none =
    let more : suc m + rest ≡ suc (m + rest) = omega arith in
    let there : a + 1 + m ≡ a + suc m = omega arith in
    let behind = filter p (range_with_len (a + 1) (m + rest)) in
    ap (λ n. filter p (range_with_len a n)) more
    ∙ ap (λ (b : Bool). cond b (a ∷ behind) behind) (none a (omega arith) (omega arith))
    ∙ skip p (a + 1) m rest (λ i above below. none i (omega arith) (omega arith))
    ∙ ap (λ b. filter p (range_with_len b rest)) there

-- the first may pass, and then so many that don't
pub one_then : (p : ℕ → Bool) (z m n : ℕ) → 1 ≤ m → z + m ≤ n → ((i : ℕ) → z < i → i < z + m → p i ≡ false)
    → filter p (range_with_len z (n - z)) ≡ cond (p z) (z ∷ filter p (range_with_len (z + m) (n - (z + m)))) (filter p (range_with_len (z + m) (n - (z + m))))
one_then p z m n some inside none =
    let more : n - z ≡ suc (m - 1 + (n - (z + m))) = omega arith in
    let there : z + 1 + (m - 1) ≡ z + m = omega arith in
    let rest : filter p (range_with_len (z + 1) (m - 1 + (n - (z + m)))) ≡ filter p (range_with_len (z + m) (n - (z + m))) =
    skip p (z + 1) (m - 1) (n - (z + m)) (λ i above below. none i (omega arith) (omega arith)) ∙ ap (λ b. filter p (range_with_len b (n - (z + m)))) there in
    ap (λ k. filter p (range_with_len z k)) more ∙ ap (λ (l : List ℕ). cond (p z) (z ∷ l) l) rest

-- ---- a file's zones begin no other file

record IsBegun (aggr : Bool) (kinds : List Kind) (z zones : ℕ) : Type 0 where
  some : 1 ≤ zones
  inside : z + zones ≤ length kinds
  cnv : (i : ℕ) → z < i → i < z + zones → begins_cnv aggr kinds i ≡ false
  seq : (i : ℕ) → z < i → i < z + zones → begins_seq kinds i ≡ false
  next : z + zones < length kinds → is_conventional (get_or kinds (z + zones) Sequential) ≡ true → begins_cnv aggr kinds (z + zones) ≡ true

-- one zone, behind which a file begins
one_zone : (aggr : Bool) (kinds : List Kind) (z : ℕ) → z < length kinds → (not aggr || is_sequential (get_or kinds z Sequential)) ≡ true → IsBegun aggr kinds z 1
one_zone aggr kinds z inside alone = record {
  some = omega arith;
  inside = omega arith;
  cnv = λ i above below. absurd (omega arith);
  seq = λ i above below. absurd (omega arith);
  next = λ more is. and_from (ltb 0 (z + 1) && is_conventional (get_or kinds (z + 1) Sequential)) ((not aggr || eqb (z + 1) 1) || is_sequential (get_or kinds (z + 1 - 1) Sequential)) (and_from (ltb 0 (z + 1)) (is_conventional (get_or kinds (z + 1) Sequential)) (lt-ltb 0 (z + 1) (omega arith)) is) (free aggr (eqb (z + 1) 1) (is_sequential (get_or kinds (z + 1 - 1) Sequential)) (back ∙ alone));
}
  where
    free : (a b c : Bool) → (not a || c) ≡ true → ((not a || b) || c) ≡ true
    free true b c h = or_right (false || b) c h
    free false b c h = refl

    back : (not aggr || is_sequential (get_or kinds (z + 1 - 1) Sequential)) ≡ (not aggr || is_sequential (get_or kinds z Sequential))
    back = let same : z + 1 - 1 ≡ z = omega arith in ap (λ k. not aggr || is_sequential (get_or kinds k Sequential)) same

-- a run of conventional zones
run_zones : (kinds : List Kind) (z : ℕ) → 1 ≤ z → z < length kinds → is_conventional (get_or kinds z Sequential) ≡ true → IsBegun true kinds z (run_length kinds z)
run_zones kinds z behind inside is = record {
  some = run_some kinds z inside is;
  inside = run_inside kinds z (omega arith);
  cnv = λ i above below. and_right (ltb 0 i && is_conventional (get_or kinds i Sequential)) ((false || eqb i 1) || is_sequential (get_or kinds (i - 1) Sequential)) (or_from (false || eqb i 1) (is_sequential (get_or kinds (i - 1) Sequential)) (ne_eqb i 1 (λ e. omega arith)) (ap is_sequential (before i above below)));
  seq = λ i above below. and_right (ltb 0 i) (is_sequential (get_or kinds i Sequential)) (ap is_sequential (here i above below));
  next = λ more is'. absurd (both_ways (is_conventional (get_or kinds (z + run_length kinds z) Sequential)) (run_stops kinds z more) is');
}
  where
    here : (i : ℕ) → z < i → i < z + run_length kinds z → get_or kinds i Sequential ≡ Conventional
    here i above below = let at : i ≡ z + (i - z) = omega arith in ap (λ k. get_or kinds k Sequential) at ∙ run_kinds kinds z (i - z) (omega arith)

    before : (i : ℕ) → z < i → i < z + run_length kinds z → get_or kinds (i - 1) Sequential ≡ Conventional
    before i above below = let at : i - 1 ≡ z + (i - 1 - z) = omega arith in ap (λ k. get_or kinds k Sequential) at ∙ run_kinds kinds z (i - 1 - z) (omega arith)

cnv_begun : (aggr : Bool) (kinds : List Kind) (z : ℕ) → 1 ≤ z → z < length kinds → is_conventional (get_or kinds z Sequential) ≡ true → IsBegun aggr kinds z (cnv_file aggr kinds z).zones
cnv_begun true kinds z behind inside is = run_zones kinds z behind inside is
cnv_begun false kinds z behind inside is = one_zone false kinds z inside refl

begun : (aggr : Bool) (kinds : List Kind) (z : ℕ) → 1 ≤ z → z < length kinds → IsBegun aggr kinds z (file_from aggr kinds z).zones
begun aggr kinds z behind inside =
    elim (get_or kinds z Sequential) as (λ (kind : Kind). get_or kinds z Sequential ≡ kind → IsBegun aggr kinds z (cond (is_sequential kind) (seq_file z) (cnv_file aggr kinds z)).zones) [
      | Conventional ↦ λ is. cnv_begun aggr kinds z behind inside (ap is_conventional is)
      | Sequential ↦ λ is. one_zone aggr kinds z inside (or_right (not aggr) (is_sequential (get_or kinds z Sequential)) (ap is_sequential is))
    ] refl

-- ---- the walk

-- the files of `cnv` that begin at a zone or behind it
abbrev pub cnv_left : Bool → List Kind → ℕ → List FileZones
cnv_left aggr kinds z = map (cnv_file aggr kinds) (filter (begins_cnv aggr kinds) (range_with_len z (length kinds - z)))

-- the files of `seq` that do
abbrev pub seq_left : List Kind → ℕ → List FileZones
seq_left kinds z = map seq_file (filter (begins_seq kinds) (range_with_len z (length kinds - z)))

-- each file ends before a zone
abbrev pub EndBefore : ℕ → List FileZones → Type 0
EndBefore z files = All (λ file. end_of file ≤ z) files

-- The files of the zones before this one, where a file begins here if the zone is conventional.
pub record IsWalked (aggr : Bool) (kinds : List Kind) (z : ℕ) (layout : Layout) : Type 0 where
  pub behind : 1 ≤ z
  pub inside : z ≤ length kinds
  pub count : length (files_of layout) < z
  pub starts : z < length kinds → is_conventional (get_or kinds z Sequential) ≡ true → begins_cnv aggr kinds z ≡ true
  pub cnv_ends : EndBefore z layout.cnv
  pub seq_ends : EndBefore z layout.seq
  pub cnv : layout.cnv ++ cnv_left aggr kinds z ≡ (layout_of kinds aggr).cnv
  pub seq : layout.seq ++ seq_left kinds z ≡ (layout_of kinds aggr).seq

-- it begins behind zone 0, of which no file is made
pub cnv_first : (aggr : Bool) (kinds : List Kind) → 1 ≤ length kinds → cnv_left aggr kinds 1 ≡ (layout_of kinds aggr).cnv
unfolding layout_of
cnv_first aggr kinds some =
    let more : length kinds ≡ suc (length kinds - 1) = omega arith in
    sym (ap (λ (n : ℕ). map (cnv_file aggr kinds) (filter (begins_cnv aggr kinds) (range_with_len 0 n))) more)

pub seq_first : (aggr : Bool) (kinds : List Kind) → 1 ≤ length kinds → seq_left kinds 1 ≡ (layout_of kinds aggr).seq
unfolding layout_of
seq_first aggr kinds some =
    let more : length kinds ≡ suc (length kinds - 1) = omega arith in
    sym (ap (λ (n : ℕ). map seq_file (filter (begins_seq kinds) (range_with_len 0 n))) more)

pub first_starts : (aggr : Bool) (kinds : List Kind) → is_conventional (get_or kinds 1 Sequential) ≡ true → begins_cnv aggr kinds 1 ≡ true
first_starts aggr kinds is =
    and_from (ltb 0 1 && is_conventional (get_or kinds 1 Sequential)) ((not aggr || eqb 1 1) || is_sequential (get_or kinds 0 Sequential)) is
    (or_left (not aggr || eqb 1 1) (is_sequential (get_or kinds 0 Sequential)) (or_right (not aggr) (eqb 1 1) refl))

joined : (b : Bool) (f : ℕ → FileZones) (l : List FileZones) (z : ℕ) (rest : List ℕ) → l ++ map f (cond b (z ∷ rest) rest) ≡ cond b (l ++ f z ∷ []) l ++ map f rest
joined true f l z rest = sym (append_assoc l (f z ∷ []) (map f rest))
joined false f l z rest = refl

counted : (s : Bool) (file : FileZones) (cnv seq : List FileZones) → length (cond s cnv (cnv ++ file ∷ []) ++ cond s (seq ++ file ∷ []) seq) ≡ length (cnv ++ seq) + 1
counted true file cnv seq = omega (arith, length-append cnv (seq ++ file ∷ []), length-append seq (file ∷ []), length-append cnv seq)
counted false file cnv seq = omega (arith, length-append (cnv ++ file ∷ []) seq, length-append cnv (file ∷ []), length-append cnv seq)

cnv_kind : (s aggr : Bool) (kinds : List Kind) (z : ℕ) (layout : Layout)
    → cond (not s) (layout.cnv ++ cnv_file aggr kinds z ∷ []) layout.cnv ≡ (with_file layout (cond s (seq_file z) (cnv_file aggr kinds z))).cnv
cnv_kind true aggr kinds z layout = refl
cnv_kind false aggr kinds z layout = refl

seq_kind : (s aggr : Bool) (kinds : List Kind) (z : ℕ) (layout : Layout)
    → cond s (layout.seq ++ seq_file z ∷ []) layout.seq ≡ (with_file layout (cond s (seq_file z) (cnv_file aggr kinds z))).seq
seq_kind true aggr kinds z layout = refl
seq_kind false aggr kinds z layout = refl

-- what begins at a zone, where a file begins at it if it is conventional
cnv_starts : (aggr : Bool) (kinds : List Kind) (z : ℕ) → (is_conventional (get_or kinds z Sequential) ≡ true → begins_cnv aggr kinds z ≡ true)
    → begins_cnv aggr kinds z ≡ is_conventional (get_or kinds z Sequential)
cnv_starts aggr kinds z starts =
    elim (is_conventional (get_or kinds z Sequential)) as (λ (b : Bool). is_conventional (get_or kinds z Sequential) ≡ b → begins_cnv aggr kinds z ≡ b) [
      | true ↦ λ is. starts is
      | false ↦ λ is. and_left (ltb 0 z && is_conventional (get_or kinds z Sequential)) ((not aggr || eqb z 1) || is_sequential (get_or kinds (z - 1) Sequential)) (and_right (ltb 0 z) (is_conventional (get_or kinds z Sequential)) is)
    ] refl

seq_starts : (kinds : List Kind) (z : ℕ) → 1 ≤ z → begins_seq kinds z ≡ is_sequential (get_or kinds z Sequential)
seq_starts kinds z behind = ap (λ (b : Bool). b && is_sequential (get_or kinds z Sequential)) (lt-ltb 0 z behind)

-- what begins at a zone has it as its first
first_is : (b aggr : Bool) (kinds : List Kind) (z : ℕ) → (cond b (seq_file z) (cnv_file aggr kinds z)).first ≡ z
first_is true aggr kinds z = refl
first_is false aggr kinds z = refl

-- what ended before a zone ends before a later one, and so does a file more that ends there
ends_more : (b : Bool) (file : FileZones) (l : List FileZones) (z end : ℕ) → z ≤ end → end_of file ≤ end → EndBefore z l → EndBefore end (cond b l (l ++ file ∷ [])) × EndBefore end (cond b (l ++ file ∷ []) l)
ends_more b file l z end later here before =
    let kept : EndBefore end l = λ k d inside. omega (arith, before k d inside, later) in
    let more : EndBefore end (l ++ file ∷ []) = All-push (λ file. end_of file ≤ end) l file kept here in
    elim b as (λ (v : Bool). EndBefore end (cond v l (l ++ file ∷ [])) × EndBefore end (cond v (l ++ file ∷ []) l)) [ true ↦ (kept, more) | false ↦ (more, kept) ]

-- it goes on behind the file that begins here
pub walked_more : (aggr : Bool) (kinds : List Kind) (z : ℕ) (layout : Layout) → IsWalked aggr kinds z layout → z < length kinds
    → IsWalked aggr kinds (z + (file_from aggr kinds z).zones) (with_file layout (file_from aggr kinds z))
walked_more aggr kinds z layout so_far more =
    let file = file_from aggr kinds z in
    let m = file.zones in
    let n = length kinds in
    let s = is_sequential (get_or kinds z Sequential) in
    let here : IsBegun aggr kinds z m = begun aggr kinds z so_far.behind more in
    let cnv_rest = filter (begins_cnv aggr kinds) (range_with_len (z + m) (n - (z + m))) in
    let seq_rest = filter (begins_seq kinds) (range_with_len (z + m) (n - (z + m))) in
    let starts = cnv_starts aggr kinds z (so_far.starts more) in
    let cnv : layout.cnv ++ cnv_left aggr kinds z ≡ (with_file layout file).cnv ++ cnv_left aggr kinds (z + m) =
    ap (λ (l : List ℕ). layout.cnv ++ map (cnv_file aggr kinds) l) (one_then (begins_cnv aggr kinds) z m n here.some here.inside here.cnv)
    ∙ joined (begins_cnv aggr kinds z) (cnv_file aggr kinds) layout.cnv z cnv_rest
    ∙ ap (λ (b : Bool). cond b (layout.cnv ++ cnv_file aggr kinds z ∷ []) layout.cnv ++ map (cnv_file aggr kinds) cnv_rest) starts
    ∙ ap (λ (l : List FileZones). l ++ map (cnv_file aggr kinds) cnv_rest) (cnv_kind s aggr kinds z layout) in
    let seq : layout.seq ++ seq_left kinds z ≡ (with_file layout file).seq ++ seq_left kinds (z + m) =
    ap (λ (l : List ℕ). layout.seq ++ map seq_file l) (one_then (begins_seq kinds) z m n here.some here.inside here.seq)
    ∙ joined (begins_seq kinds z) seq_file layout.seq z seq_rest
    ∙ ap (λ (b : Bool). cond b (layout.seq ++ seq_file z ∷ []) layout.seq ++ map seq_file seq_rest) (seq_starts kinds z so_far.behind)
    ∙ ap (λ (l : List FileZones). l ++ map seq_file seq_rest) (seq_kind s aggr kinds z layout) in
    let first = first_is s aggr kinds z in
    let later : z ≤ z + m = omega arith in
    let end : end_of file ≤ z + m = omega (arith, first) in
    record {
      behind = omega (arith, so_far.behind);
      inside = here.inside;
      count = omega (arith, so_far.count, here.some, counted file.seq file layout.cnv layout.seq);
      starts = here.next;
      cnv_ends = (ends_more file.seq file layout.cnv z (z + m) later end so_far.cnv_ends).0;
      seq_ends = (ends_more file.seq file layout.seq z (z + m) later end so_far.seq_ends).1;
      cnv = sym cnv ∙ so_far.cnv;
      seq = sym seq ∙ so_far.seq;
    }

-- the same of what was put together
pub walked_step : (aggr : Bool) (kinds : List Kind) (z : ℕ) (old new : Layout) (file : FileZones) → IsWalked aggr kinds z old → z < length kinds → file ≡ file_from aggr kinds z → new ≡ with_file old file
    → IsWalked aggr kinds (z + file.zones) new
walked_step aggr kinds z old new file so_far more is added =
    subst (λ (layout : Layout). IsWalked aggr kinds (z + file.zones) layout) (sym added)
    (subst (λ (f : FileZones). IsWalked aggr kinds (z + f.zones) (with_file old f)) (sym is) (walked_more aggr kinds z old so_far more))

-- each file so far ends before the next begins
pub walked_behind : (aggr : Bool) (kinds : List Kind) (z : ℕ) (layout : Layout) (file : FileZones) → IsWalked aggr kinds z layout → file ≡ file_from aggr kinds z
    → EndBefore file.first (if file.seq then layout.seq else layout.cnv)
walked_behind aggr kinds z layout file so_far is =
    let first : file.first ≡ z = ap (λ (f : FileZones). f.first) is ∙ first_is (is_sequential (get_or kinds z Sequential)) aggr kinds z in
    let P : ℕ → Type 0 = λ n. EndBefore n (if file.seq then layout.seq else layout.cnv) in
    subst P (sym first) (elim file.seq as (λ b. EndBefore z (if b then layout.seq else layout.cnv)) [ true ↦ so_far.seq_ends | false ↦ so_far.cnv_ends ])

-- and it does go on
pub goes_on : (aggr : Bool) (kinds : List Kind) (z : ℕ) (file : FileZones) → file ≡ file_from aggr kinds z → 1 ≤ z → z < length kinds → z < z + file.zones
goes_on aggr kinds z file is behind more =
    let some : 1 ≤ file.zones = subst (λ (f : FileZones). 1 ≤ f.zones) (sym is) (begun aggr kinds z behind more).some in
    omega (arith, some)

-- at the end of the zones the files are all
pub walked_all : (aggr : Bool) (kinds : List Kind) (z : ℕ) (layout : Layout) → IsWalked aggr kinds z layout → length kinds ≤ z → layout ≡ layout_of kinds aggr
walked_all aggr kinds z layout so_far end =
    let none : length kinds - z ≡ 0 = omega arith in
    let cnv : layout.cnv ≡ (layout_of kinds aggr).cnv =
    sym (append-nil layout.cnv) ∙ sym (ap (λ (n : ℕ). layout.cnv ++ map (cnv_file aggr kinds) (filter (begins_cnv aggr kinds) (range_with_len z n))) none) ∙ so_far.cnv in
    let seq : layout.seq ≡ (layout_of kinds aggr).seq =
    sym (append-nil layout.seq) ∙ sym (ap (λ (n : ℕ). layout.seq ++ map seq_file (filter (begins_seq kinds) (range_with_len z n))) none) ∙ so_far.seq in
    ap (λ (l : List FileZones). let it : Layout = record { cnv = l; seq = layout.seq } in it) cnv
    ∙ ap (λ (l : List FileZones). let it : Layout = record { cnv = (layout_of kinds aggr).cnv; seq = l } in it) seq
