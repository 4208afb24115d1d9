-- How the text of runs that is left to write becomes shorter.
use Rattle.std.proofs.Common.{◌≡◌, ℕ, ◌+◌, ◌<◌, ◌≤◌, zero, suc, false, cond, eqb, ne_eqb, List, [], ◌∷◌, ◌++◌, length, drop, Option, refl, ap, sym, subst, ◌∙◌, append_assoc, arith}
use Rattle.std.proofs.lemmas.List.{append-nil, drop_all}
use Rattle.std.specs.List.{flat_map}
use Rattle.zn_base.specs.Told.{Grew, GrewToward, told_and}
use Rattle.zn_base.specs.Runs.{runs_of, run_text, runs_text, plus_run, data_text}
use Rattle.zn_base.proofs.RunLaws.{NextRun, joint_text}
use Rattle.zn_base.proofs.ToldLaws.{grew_then, grew_toward, toward_more}
use Rattle.zn_runs.specs.Rest.{text_from}

behind_others : (bytes : List ℕ) (at : ℕ) → 0 < at → text_from bytes at ≡ flat_map plus_run (runs_of (drop at bytes))
behind_others bytes zero some = absurd (omega arith)
behind_others bytes (suc at) some = refl

-- what is left begins with the next run
next_first : (bytes : List ℕ) (at len byte : ℕ) → NextRun bytes at len byte → text_from bytes at ≡ joint_text at byte len ++ text_from bytes (at + len)
next_first bytes zero len byte n =
    ap runs_text n.runs
    ∙ ap (λ xs. run_text (record { byte = byte; count = len }) ++ xs) (sym (behind_others bytes (zero + len) (omega (arith, n.some))))
next_first bytes (suc at) len byte n =
    let text = run_text (record { byte = byte; count = len }) in
    let e : eqb (suc at) 0 ≡ false = ne_eqb (suc at) 0 (λ h. absurd (omega arith)) in
    ap (flat_map plus_run) n.runs
    ∙ ap (λ xs. 43 ∷ text ++ xs) (sym (behind_others bytes (suc at + len) (omega arith)))
    ∙ ap (λ t. cond t [] (43 ∷ []) ++ text ++ text_from bytes (suc at + len)) (sym e)

-- the runs between two places are held, and one more behind them
pub held_more : (bytes held held' : List ℕ) (from at len byte : ℕ) → NextRun bytes at len byte → text_from bytes from ≡ held ++ text_from bytes at → held' ≡ held ++ joint_text at byte len → text_from bytes from ≡ held' ++ text_from bytes (at + len)
held_more bytes held held' from at len byte n so_far more =
    so_far ∙ ap (λ xs. held ++ xs) (next_first bytes at len byte n)
    ∙ sym (append_assoc held (joint_text at byte len) (text_from bytes (at + len)))
    ∙ ap (λ xs. xs ++ text_from bytes (at + len)) (sym more)

nothing_left : (bytes : List ℕ) (at : ℕ) → length bytes ≤ at → text_from bytes at ≡ []
unfolding runs_of
nothing_left bytes zero past = ap data_text (drop_all 0 bytes past)
nothing_left bytes (suc at) past = ap (λ xs. flat_map plus_run (runs_of xs)) (drop_all (suc at) bytes past)

-- The runs before a place are written, and those from it on are left.
pub record RestLeft (told0 told : Option (List ℕ)) (bytes : List ℕ) (at : ℕ) : Type 0 where
  pub out : List ℕ
  pub grew : Grew told0 told out
  pub whole : data_text bytes ≡ out ++ text_from bytes at

pub rest_more : {told0 told told' : Option (List ℕ)} (bytes put : List ℕ) (at next : ℕ) → RestLeft told0 told bytes at → text_from bytes at ≡ put ++ text_from bytes next → Grew told told' put → RestLeft told0 told' bytes next
rest_more {told0 = told0} {told = told} {told' = told'} bytes put at next left filled more = record {
  out = left.out ++ put;
  grew = grew_then told0 told told' left.out put left.grew more;
  whole = left.whole ∙ ap (λ xs. left.out ++ xs) filled ∙ sym (append_assoc left.out put (text_from bytes next));
}

pub rest_cut : {told0 told told' : Option (List ℕ)} (bytes put : List ℕ) (at next : ℕ) → RestLeft told0 told bytes at → text_from bytes at ≡ put ++ text_from bytes next → GrewToward told told' put → GrewToward told0 told' (data_text bytes)
rest_cut {told0 = told0} {told = told} {told' = told'} bytes put at next left filled more =
    let text : left.out ++ put ++ text_from bytes next ≡ data_text bytes =
    append_assoc left.out put (text_from bytes next) ∙ ap (λ xs. left.out ++ xs) (sym filled) ∙ sym left.whole in
    subst (λ (due : List ℕ). GrewToward told0 told' due) text (toward_more told0 told' (left.out ++ put) (text_from bytes next) (grew_toward told0 told told' left.out put left.grew more))

pub rest_end : {told0 told : Option (List ℕ)} (bytes : List ℕ) (at : ℕ) → length bytes ≤ at → RestLeft told0 told bytes at → Grew told0 told (data_text bytes)
rest_end {told0 = told0} bytes at past left =
    left.grew ∙ ap (told_and told0) (sym (left.whole ∙ ap (λ xs. left.out ++ xs) (nothing_left bytes at past) ∙ append-nil left.out))
