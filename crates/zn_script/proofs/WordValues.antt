-- What words stand for: an entry of a table, and a path, which is a text.
use Rattle.std.proofs.Common.{◌≡◌, ℕ, ◌<◌, ◌≤◌, Bool, true, false, cond, List, [], ◌∷◌, Option, Some, None, Result, Ok, Err, Bor, refl, ap, sym, ◌∙◌, arith}
use Rattle.std.specs.List.{find}
use Rattle.std.specs.Option.{option_map, option_copied, MatchOption}
use Rattle.std.proofs.lemmas.Bool.{cond-true, cond-false}
use Rattle.std.specs.Result.{result_ok, MatchResult}
use Rattle.std.specs.Str.{bytes_eq, IsUtf8}
use Rattle.std.proofs.lemmas.List.Elements.{All-weaker}
use Rattle.std.proofs.lemmas.Str.{IsUtf8-from_ascii}
use Rattle.std.proofs.lemmas.Str.Ascii.{IsAscii-from_all}
use Rattle.zn_lines.specs.Grammar.{path_of}
use Rattle.zn_lines.proofs.WordKinds.{paths}
use Rattle.zn_script.specs.Tables.{named_in}

-- ---- tables

found_first : {E X : Type 0} (value : E → X) (entry : E) (here : Bool) (found : Option E) (rest : Option X) → option_map value found ≡ rest → option_map value (cond here (Some entry) found) ≡ cond here (Some (value entry)) rest
found_first value entry true found rest same = refl
found_first value entry false found rest same = same

-- the value of the first entry that is found
pub found_in : {E X : Type 0} (word_of : E → List ℕ) (value : E → X) (table : List E) (word : List ℕ) → option_map value (find (λ e. bytes_eq word (word_of e)) table) ≡ named_in word_of value table word
unfolding named_in
found_in word_of value [] word = refl
found_in word_of value (entry ∷ entries) word = found_first value entry (bytes_eq word (word_of entry)) _ _ (found_in word_of value entries word)

-- ---- paths

path_is_utf8 : (word : List ℕ) → path_of word ≡ Some word → IsUtf8 word
path_is_utf8 word is =
    let fits = (paths.known word word is).1 in
    IsUtf8-from_ascii word (IsAscii-from_all word (All-weaker (λ b. (0x21 ≤ b) × (b ≤ 0x7E)) (λ b. b < 128) (λ b printable. omega (arith, printable.1)) word fits.1))

-- where a word is a path, reading it as a text gives it
pub path_is_text : {E : Type 0} (Fault : E → Type 0) (word : List ℕ) (read : Result (Bor (List ℕ)) E) → path_of word ≡ Some word
    → MatchResult read (λ s. (s.now ≡ word) × IsUtf8 word) (λ e. ¬ (IsUtf8 word) × Fault e)
    → MatchOption (result_ok read) (path_of word ≡ None) (λ path. path_of word ≡ Some path.now)
path_is_text Fault word (Ok text) is reads = is ∙ ap Some (sym reads.0)
path_is_text Fault word (Err e) is reads = absurd (reads.0 (path_is_utf8 word is))

-- ---- keys

-- what stands behind a key, by what is said of stripping it
pub stripped : (begins : Bool) (rest : List ℕ) (More : Bor (List ℕ) → Type 0) (found : Option (Bor (List ℕ))) → MatchOption found (begins ≡ false) (λ x. (begins ≡ true) × (x.now ≡ rest) × More x) → option_copied found ≡ cond begins (Some rest) None
stripped begins rest More None is = sym (cond-false begins _ _ is)
stripped begins rest More (Some x) is = ap Some is.1 ∙ sym (cond-true begins _ _ is.0)
