-- A directory over time: what a stop at some moment might have left. (own)
use Rattle.std.specs.Prelude.{◌≡◌, ◌⊎◌, ℕ, ◌-◌, List, [], ◌∷◌, ◌++◌, length, take, Option, Some, None}
use Rattle.zn_stand.specs.Directory.{Directory, Contents, IsImageOf}

-- The directories that there were, the last one first. Each has a number: how many were there before it. Where
-- contents aren't known there are none.
abbrev pub History : Type 0
History = List Directory

-- the directory now, if any is known
abbrev pub newest : History → Option Directory
newest [] = None
newest (d ∷ h) = Some d

-- the number of the last one
abbrev pub moment : History → ℕ
moment h = length h - 1

-- an image of one of these
abbrev pub IsImageOfOne : History → Contents → Type 0
IsImageOfOne [] image = ⊥
IsImageOfOne (d ∷ h) image = IsImageOf d image ⊎ IsImageOfOne h image

-- a stop now may leave it
abbrev pub MayLeave : History → Contents → Type 0
MayLeave [] image = ⊥
MayLeave (d ∷ h) image = IsImageOf d image

-- a stop at that moment, or at one since, might have left it
abbrev pub LeftSince : History → ℕ → Contents → Type 0
LeftSince h t image = IsImageOfOne (take (length h - t) h) image

-- From one history to a later one, stops leave only what has P.
pub record LeavesOnly (old new : History) (P : Contents → Type 0) : Type 0 where
  pub since : History
  pub history : new ≡ since ++ old
  pub each : (image : Contents) → IsImageOfOne since image → P image
