-- Calls on a directory, one after another. (own)
use Rattle.std.specs.Prelude.{List, [], ◌∷◌, ⊤}
use Rattle.zn_stand.specs.Directory.{Directory}
use Rattle.zn_stand.specs.Calls.{Call, made, IsCallFor}
use Rattle.zn_stand.specs.History.{History}

-- what the calls make of a directory
abbrev pub replayed : Directory → List Call → Directory
replayed d [] = d
replayed d (call ∷ calls) = replayed (made call d) calls

-- the directories that there were since, the last one first, before those that there were before
abbrev pub histories : History → Directory → List Call → History
histories h d [] = d ∷ h
histories h d (call ∷ calls) = histories (d ∷ h) (made call d) calls

-- each call may be made where it is made
abbrev pub AreCallsFor : Directory → List Call → Type 0
AreCallsFor d [] = ⊤
AreCallsFor d (call ∷ calls) = IsCallFor d call × AreCallsFor (made call d) calls
