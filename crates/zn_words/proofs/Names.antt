-- Words that name no command.
use Rattle.std.proofs.Common.{◌≡◌, ◌≢◌, ◌∙◌, ◌≤◌, ℕ, Bool, true, false, List, [], ◌∷◌, None, String, Global, if◌then◌else◌, codes, get_or, length, map, string_bytes, refl, sym, ap, arith}
use Rattle.std.specs.Str.{bytes_eq}
use Rattle.std.proofs.lemmas.Slice.Eq.{bytes_eq-Decides}
use Rattle.zn_words.specs.Churning.{churn_of}
use Rattle.zn_words.specs.Commands.{add_of, command_of, from_seed, in_memory, mkfs_of, run_of}
use Rattle.zn_base.specs.Decimals.{number_in}
use Rattle.zn_truth.specs.declared.limits.TheConstants.{MAX_BLOCKS, MAX_ZONES}
use Rattle.zn_lines.specs.Scratch.{command_of as scratch_in, scratch_by}

pub not_scratch : (name : List ℕ) (words : List (List ℕ)) → bytes_eq name (codes "scratch") ≡ false → scratch_in (name ∷ words) ≡ None
unfolding scratch_in
not_scratch name [] other = refl
not_scratch name (zones ∷ []) other = refl
not_scratch name (zones ∷ conv ∷ []) other = refl
not_scratch name (zones ∷ conv ∷ blocks ∷ []) other =
    ap (λ (b : Bool). if b then scratch_by (number_in MAX_ZONES zones) (number_in MAX_ZONES conv) (number_in MAX_BLOCKS blocks) else None) other
not_scratch name (zones ∷ conv ∷ blocks ∷ more ∷ words) other = refl

-- words that aren't the same don't compare so
bytes_ne : (a b : List ℕ) → a ≢ b → bytes_eq a b ≡ false
bytes_ne a b differs = go (bytes_eq a b) refl
  where
    go : (x : Bool) → bytes_eq a b ≡ x → bytes_eq a b ≡ false
    go true is = absurd (differs ((bytes_eq-Decides a b).0 is))
    go false is = is

-- a name that is no command's
pub other_name : (name : List ℕ) (words : List (List ℕ)) → name ≢ codes "scratch" → name ≢ codes "add" → name ≢ codes "mkfs" → name ≢ codes "run"
    → name ≢ codes "churn" → command_of (name ∷ words) ≡ None
unfolding command_of
other_name name words scratch add mkfs run churn =
    ap (λ (b : Bool). if b then add_of words else if bytes_eq name (codes "mkfs") then mkfs_of words else if bytes_eq name (codes "run") then run_of words else if bytes_eq name (codes "churn") then from_seed (churn_of words) else in_memory (scratch_in (name ∷ words))) (bytes_ne name _ add)
    ∙ ap (λ (b : Bool). if b then mkfs_of words else if bytes_eq name (codes "run") then run_of words else if bytes_eq name (codes "churn") then from_seed (churn_of words) else in_memory (scratch_in (name ∷ words))) (bytes_ne name _ mkfs)
    ∙ ap (λ (b : Bool). if b then run_of words else if bytes_eq name (codes "churn") then from_seed (churn_of words) else in_memory (scratch_in (name ∷ words))) (bytes_ne name _ run)
    ∙ ap (λ (b : Bool). if b then from_seed (churn_of words) else in_memory (scratch_in (name ∷ words))) (bytes_ne name _ churn)
    ∙ ap in_memory (not_scratch name words (bytes_ne name _ scratch))

-- words whose first one is no command's name
pub no_command : (words : List (String Global)) (first : String Global) (name : List ℕ) → 1 ≤ length words → first ≡ get_or words 0 first → name ≡ string_bytes first
    → name ≢ codes "scratch" → name ≢ codes "add" → name ≢ codes "mkfs" → name ≢ codes "run" → name ≢ codes "churn" → None ≡ command_of (map (string_bytes {Z = Global}) words)
no_command [] first name some is named scratch add mkfs run churn = absurd (omega (arith, some))
no_command (word ∷ words) first name some is named scratch add mkfs run churn =
    let same : name ≡ string_bytes {Z = Global} word = named ∙ ap (string_bytes {Z = Global}) is in
    sym (ap (λ (n : List ℕ). command_of (n ∷ map (string_bytes {Z = Global}) words)) (sym same) ∙ other_name name (map (string_bytes {Z = Global}) words) scratch add mkfs run churn)
