-- Blocks that are read as a super block. (own)
use Rattle.std.specs.Prelude.{◌≡◌, ℕ, List}
use Rattle.zn_model.specs.SuperBlock.{SuperBlock, IsSuperBlock, encoded}

-- Two blocks that are both the block of this super block.
pub record AreCopies (first second : List ℕ) (s : SuperBlock) : Type 0 where
  pub first_copy : first ≡ encoded s
  pub second_copy : second ≡ encoded s
  pub sound : IsSuperBlock s
