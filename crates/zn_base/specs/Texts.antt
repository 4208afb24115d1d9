-- How texts are put together. (own)
use Rattle.std.specs.Prelude.{ℕ, List, ◌++◌}

-- one text before another, grouped to the right
infixr 10 ◌⧺◌
-- the first text, and then the second
abbrev pub ◌⧺◌ : List ℕ → List ℕ → List ℕ
front ⧺ rest = front ++ rest
