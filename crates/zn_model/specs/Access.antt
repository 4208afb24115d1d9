-- Modes of handles, and who may open a file. (the bits of a file's permissions)
use Rattle.std.specs.Prelude.{ℕ, ◌+◌, ◌*◌, ◌/◌, ◌%◌, Bool, ◌&&◌, ◌||◌, not, ◌==◌, if◌then◌else◌, bit_and}
use Rattle.zn_model.specs.declared.handles.Mode.{Mode}
use Rattle.zn_model.specs.declared.handles.Who.{Who}

-- a handle of this mode may read: the bit of value 1 is set
abbrev pub reads : Mode → Bool
reads mode = bit_and mode.0 1 == 1

-- a handle of this mode may write: the bit of value 2 is set
abbrev pub writes : Mode → Bool
writes mode = bit_and mode.0 2 == 2

-- the octal digit of the permissions that speaks of someone: the owner's where the users agree, else the
-- group's where the groups agree, else the others'
abbrev pub digit_for : ℕ → Who → Who → ℕ
digit_for perm owner who =
    if who.uid == owner.uid then perm / 64 % 8
    else if who.gid == owner.gid then perm / 8 % 8
    else perm % 8

-- every wanted right is in the digit: 4 to read, 2 to write
abbrev pub allows : ℕ → Mode → Bool
allows digit mode = (not (reads mode) || (digit / 4 % 2 == 1)) && (not (writes mode) || (digit / 2 % 2 == 1))

-- Whether someone may open a file in a mode. The user 0 always may.
unfoldable pub access : ℕ → Who → Who → Mode → Bool
access perm owner who mode = (who.uid == 0) || allows (digit_for perm owner who) mode

-- an octal digit without the right to write
abbrev pub unwritable : ℕ → ℕ
unwritable digit = digit / 4 % 2 * 4 + digit % 2
