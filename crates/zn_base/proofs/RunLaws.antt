-- How runs are taken off the front.
use Rattle.std.proofs.Common.{◌≡◌, ◌==◌, ℕ, ◌+◌, ◌<◌, ◌≤◌, zero, suc, Bool, true, false, cond, eqb, eqb-true, ne_eqb, eq-eqb, ◌-◌, List, [], ◌∷◌, ◌++◌, length, take, drop, get_or, Option, refl, ap, sym, subst, ◌∙◌, append_assoc, arith}
use Rattle.std.proofs.lemmas.Grind.{common_steps}
use Rattle.std.proofs.lemmas.List.{drop_more, take_rest, length-drop, drop-drop, drop_all, append-nil}
use Rattle.std.proofs.lemmas.Bool.{eqb-false}
use Rattle.std.proofs.lemmas.List.Sums.{prefix_len-le-length}
use Rattle.std.specs.List.{prefix_len, flat_map}
use Rattle.zn_base.specs.Told.{Grew, GrewToward, told_and}
use Rattle.zn_base.specs.Runs.{Run, onto_run, runs_of, run_text, runs_text, plus_run, data_text}
use Rattle.zn_base.proofs.ToldLaws.{grew_then, grew_toward, toward_more}

abbrev run : ℕ → ℕ → Run
run b n = record { byte = b; count = n }

same_byte : (b k : ℕ) (others : List Run) → onto_run b (run b k ∷ others) ≡ run b (k + 1) ∷ others
same_byte b k others = let e : eqb b b ≡ true = eq-eqb b b refl in ap (λ t. cond t (run b (k + 1) ∷ others) (run b 1 ∷ run b k ∷ others)) e

other_byte : (b x k : ℕ) (others : List Run) → eqb b x ≡ false → onto_run b (run x k ∷ others) ≡ run b 1 ∷ run x k ∷ others
other_byte b x k others e = ap (λ t. cond t (run b (k + 1) ∷ others) (run b 1 ∷ run x k ∷ others)) e

by_test : (b x : ℕ) (bytes : List ℕ) → runs_of (b ∷ bytes) ≡ run b (prefix_len (λ y. y == b) bytes + 1) ∷ runs_of (drop (prefix_len (λ y. y == b) bytes) bytes)
    → runs_of (x ∷ bytes) ≡ run x (prefix_len (λ y. y == x) bytes + 1) ∷ runs_of (drop (prefix_len (λ y. y == x) bytes) bytes)
    → (t : Bool) → eqb x b ≡ t → runs_of (b ∷ x ∷ bytes) ≡ run b (prefix_len (λ y. y == b) (x ∷ bytes) + 1) ∷ runs_of (drop (prefix_len (λ y. y == b) (x ∷ bytes)) (x ∷ bytes))
unfolding runs_of
by_test b x bytes of_b of_x true is =
    let k = prefix_len (λ y. y == b) bytes in
    let same : x ≡ b = eqb-true x b is in
    let more : k + 1 + 1 ≡ 1 + k + 1 = omega arith in
    let drops : drop k bytes ≡ drop (1 + k) (x ∷ bytes) = grind (arith, common_steps) in
    ap (λ y. onto_run b (onto_run y (runs_of bytes))) same
    ∙ ap (onto_run b) of_b ∙ same_byte b (k + 1) (runs_of (drop k bytes))
    ∙ ap (λ n. run b n ∷ runs_of (drop k bytes)) more ∙ ap (λ xs. run b (1 + k + 1) ∷ runs_of xs) drops
    ∙ ap (λ t. let n : ℕ = cond t (1 + k) 0 in run b (n + 1) ∷ runs_of (drop n (x ∷ bytes))) (sym is)
by_test b x bytes of_b of_x false is =
    let k = prefix_len (λ y. y == b) bytes in
    let differs : eqb b x ≡ false = ne_eqb b x (λ e. eqb-false x b is (sym e)) in
    ap (onto_run b) of_x ∙ other_byte b x (prefix_len (λ y. y == x) bytes + 1) (runs_of (drop (prefix_len (λ y. y == x) bytes) bytes)) differs
    ∙ ap (λ rs. run b 1 ∷ rs) (sym of_x)
    ∙ ap (λ t. let n : ℕ = cond t (1 + k) 0 in run b (n + 1) ∷ runs_of (drop n (x ∷ bytes))) (sym is)

-- bytes that begin with a run of equal bytes
pub first_run : (b : ℕ) (bytes : List ℕ) → runs_of (b ∷ bytes) ≡ run b (prefix_len (λ x. x == b) bytes + 1) ∷ runs_of (drop (prefix_len (λ x. x == b) bytes) bytes)
unfolding runs_of
first_run b [] = refl
first_run b (x ∷ bytes) = by_test b x bytes (first_run b bytes) (first_run x bytes) (eqb x b) refl

pub record NextRun (bytes : List ℕ) (at len byte : ℕ) : Type 0 where
  pub runs : runs_of (drop at bytes) ≡ run byte len ∷ runs_of (drop (at + len) bytes)
  pub some : 0 < len
  pub within : at + len ≤ length bytes

pub next_run : (bytes : List ℕ) (at len byte : ℕ) → at < length bytes → byte ≡ get_or bytes at 0 → len ≡ prefix_len (λ b. b == byte) (take (length bytes - at) (drop at bytes)) → NextRun bytes at len byte
next_run bytes at len byte inside read is =
    let p : ℕ → Bool = λ b. eqb b byte in
    let rest = drop (at + 1) bytes in
    let split : drop at bytes ≡ byte ∷ rest = drop_more bytes at 0 inside ∙ ap (λ b. b ∷ rest) (sym read) in
    let counted : len ≡ prefix_len p (drop at bytes) = is ∙ ap (prefix_len p) (take_rest bytes at) in
    let self : eqb byte byte ≡ true = eq-eqb byte byte refl in
    let head : prefix_len p (byte ∷ rest) ≡ 1 + prefix_len p rest = ap (λ t. let n : ℕ = cond t (1 + prefix_len p rest) 0 in n) self in
    let long : len ≡ prefix_len p rest + 1 = omega (arith, counted ∙ ap (prefix_len p) split ∙ head) in
    let fits = prefix_len-le-length p rest in
    let further : at + 1 + prefix_len p rest ≡ at + len = omega arith in
    record {
      runs = ap runs_of split ∙ first_run byte rest ∙ ap (λ n. run byte n ∷ runs_of (drop (prefix_len p rest) rest)) (sym long)
          ∙ ap (λ xs. run byte len ∷ runs_of xs) (drop-drop (prefix_len p rest) (at + 1) bytes ∙ ap (λ n. drop n bytes) further);
      some = omega arith;
      within = omega (arith, fits, length-drop (at + 1) bytes);
    }

-- a list of runs behind others, if there are any
abbrev pub joined : ℕ → List Run → List ℕ
joined zero runs = runs_text runs
joined (suc at) runs = flat_map plus_run runs

-- The runs before a place are written, and those from it on are to come.
pub record RunsSoFar (told0 told : Option (List ℕ)) (bytes : List ℕ) (at : ℕ) : Type 0 where
  pub out : List ℕ
  pub grew : Grew told0 told out
  pub whole : data_text bytes ≡ out ++ joined at (runs_of (drop at bytes))

-- the text of a run, behind a plus sign where it isn't the first
abbrev pub joint_text : ℕ → ℕ → ℕ → List ℕ
joint_text at byte len = cond (eqb at 0) [] (43 ∷ []) ++ run_text (run byte len)

later : (at : ℕ) (others : List Run) → 0 < at → joined at others ≡ flat_map plus_run others
later zero others some = absurd (omega arith)
later (suc at) others some = refl

nothing : (at : ℕ) → joined at [] ≡ []
nothing zero = refl
nothing (suc at) = refl

joined_at : (at byte len : ℕ) (others : List Run) → 0 < len → joined at (run byte len ∷ others) ≡ joint_text at byte len ++ joined (at + len) others
joined_at zero byte len others some = ap (λ xs. run_text (run byte len) ++ xs) (sym (later (zero + len) others (omega arith)))
joined_at (suc at) byte len others some =
    let e : eqb (suc at) 0 ≡ false = ne_eqb (suc at) 0 (λ h. absurd (omega arith)) in
    ap (λ xs. 43 ∷ run_text (run byte len) ++ xs) (sym (later (suc at + len) others (omega arith)))
    ∙ ap (λ t. cond t [] (43 ∷ []) ++ run_text (run byte len) ++ joined (suc at + len) others) (sym e)

pub run_more : {told0 told told' : Option (List ℕ)} (bytes : List ℕ) (at len byte : ℕ) → RunsSoFar told0 told bytes at → NextRun bytes at len byte → Grew told told' (joint_text at byte len) → RunsSoFar told0 told' bytes (at + len)
run_more {told0 = told0} {told = told} {told' = told'} bytes at len byte so_far n more = record {
  out = so_far.out ++ joint_text at byte len;
  grew = grew_then told0 told told' so_far.out (joint_text at byte len) so_far.grew more;
  whole = so_far.whole ∙ ap (λ xs. so_far.out ++ xs) (ap (joined at) n.runs ∙ joined_at at byte len (runs_of (drop (at + len) bytes)) n.some)
      ∙ sym (append_assoc so_far.out (joint_text at byte len) (joined (at + len) (runs_of (drop (at + len) bytes))));
}

pub run_cut : {told0 told told' : Option (List ℕ)} (bytes : List ℕ) (at len byte : ℕ) → RunsSoFar told0 told bytes at → NextRun bytes at len byte → GrewToward told told' (joint_text at byte len) → GrewToward told0 told' (data_text bytes)
run_cut {told0 = told0} {told = told} {told' = told'} bytes at len byte so_far n more =
    let others = joined (at + len) (runs_of (drop (at + len) bytes)) in
    let text : so_far.out ++ joint_text at byte len ++ others ≡ data_text bytes =
    append_assoc so_far.out (joint_text at byte len) others
    ∙ ap (λ xs. so_far.out ++ xs) (sym (ap (joined at) n.runs ∙ joined_at at byte len (runs_of (drop (at + len) bytes)) n.some)) ∙ sym so_far.whole in
    subst (λ (due : List ℕ). GrewToward told0 told' due) text (toward_more told0 told' (so_far.out ++ joint_text at byte len) others (grew_toward told0 told told' so_far.out (joint_text at byte len) so_far.grew more))

pub runs_end : {told0 told : Option (List ℕ)} (bytes : List ℕ) (at : ℕ) → length bytes ≤ at → RunsSoFar told0 told bytes at → Grew told0 told (data_text bytes)
unfolding runs_of
runs_end {told0 = told0} bytes at past so_far =
    so_far.grew ∙ ap (told_and told0) (sym (so_far.whole ∙ ap (λ xs. so_far.out ++ joined at (runs_of xs)) (drop_all at bytes past) ∙ ap (λ xs. so_far.out ++ xs) (nothing at) ∙ append-nil so_far.out))
