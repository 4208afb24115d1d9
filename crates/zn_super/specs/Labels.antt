-- How a label is kept. (own)
use Rattle.std.specs.Prelude.{◌≡◌, ℕ, ◌≤◌, List, length, take, IsTrue}
use Rattle.zn_model.specs.SuperBlock.{padded, is_label}

-- The bytes of a label, as many as it has, with zeros behind them up to 64.
pub record IsKept (bytes : List ℕ) (len : ℕ) : Type 0 where
  pub size : length bytes ≡ 64
  pub most : len ≤ 64
  pub label : IsTrue (is_label (take len bytes))
  pub rest : bytes ≡ padded 64 (take len bytes)
