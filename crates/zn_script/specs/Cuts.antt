-- The cuts that words mean.
use Rattle.std.specs.Prelude.{ℕ, Bool, List, [], ◌∷◌, Result, nat_le, IsOk, unwrap_or}
use Rattle.std.specs.List.{slice_split}
use Rattle.std.specs.Result.{result_ok}
use Rattle.zn_truth.specs.declared.ZoneNo.{ZoneNo}
use Rattle.zn_lines.specs.Words.{is_blank}
use Rattle.zn_lines.specs.Grammar.{cuts_on}
use Rattle.zn_script.specs.declared.losses.Cut.{Cut}

-- the zone of a cut, and its blocks
abbrev pub cut_meant : Cut → ZoneNo × ℕ
cut_meant cut = (record { 0 = cut.zone }, cut.blocks)

-- the zone's number has more than 32 bits
abbrev pub is_beyond : ZoneNo × ℕ → Bool
is_beyond cut = nat_le 4294967296 cut.0.0

-- words that are parted by single blanks; no bytes are no word
abbrev pub words_among : List ℕ → List (List ℕ)
words_among [] = []
words_among (b ∷ bytes) = slice_split is_blank (b ∷ bytes)

-- the words, read as cuts
abbrev pub cuts_read : List ℕ → Result (List (ZoneNo × ℕ)) ℕ
cuts_read words = cuts_on [] 1 (words_among words)

-- at most 64 words, each of them a cut
abbrev pub AreCutWords : List ℕ → Type 0
AreCutWords words = IsOk (cuts_read words)

-- the cuts that words mean
abbrev pub cuts_meant : List ℕ → List (ZoneNo × ℕ)
cuts_meant words = unwrap_or (result_ok (cuts_read words)) []
