-- How a line of several words is grouped.
use Rattle.std.proofs.Common.{◌≡◌, ℕ, List, ◌++◌, sym, ap, append_assoc}
use Rattle.std.specs.Prelude.{codes}
use Rattle.zn_base.specs.Texts.{◌⧺◌}
use Rattle.zn_lines.specs.ReplyTexts.{error_text}

-- the line of a file's name and its length, part by part
pub misfit_line : (name len : List ℕ) → codes "error bad-zone-file " ++ (name ++ (codes " " ++ (len ++ codes "\n"))) ≡ error_text (codes "bad-zone-file " ⧺ name ⧺ codes " " ⧺ len)
misfit_line name len = ap (λ l. codes "error bad-zone-file " ++ l) (sym (append_assoc name (codes " " ++ len) (codes "\n")))
