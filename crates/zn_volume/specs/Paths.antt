-- The paths of files, by their directory and number. (own)
use Rattle.std.specs.Prelude.{ℕ, ◌+◌, List, take, drop, Option, Some, None, nat_lt, if◌then◌else◌}
use Rattle.std.specs.Str.{bytes_eq}
use Rattle.zn_base.specs.Decimals.{number_in}

-- the number behind a directory's name and a slash, which are 4 bytes
abbrev pub number_behind : List ℕ → List ℕ → Option ℕ
number_behind directory path = if bytes_eq (take 4 path) directory then number_in 4294967295 (drop 4 path) else None

-- a number, where it is below a count
abbrev pub below : ℕ → Option ℕ → Option ℕ
below count None = None
below count (Some n) = if nat_lt n count then Some n else None

-- the number of a file by that in `cnv` or in `seq`, where those of `cnv` come first
abbrev pub numbered : ℕ → Option ℕ → Option ℕ → Option ℕ
numbered cnv (Some i) seq = Some i
numbered cnv None (Some i) = Some (cnv + i)
numbered cnv None None = None
