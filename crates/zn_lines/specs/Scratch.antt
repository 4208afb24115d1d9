-- The command `scratch`: its words, and the session that it begins. (own)
use Rattle.std.specs.Prelude.{ℕ, ◌-◌, ◌*◌, Bool, ◌&&◌, nat_le, List, [], ◌∷◌, ◌++◌, fold, replicate, if◌then◌else◌, Option, Some, None, codes}
use Rattle.std.specs.Str.{bytes_eq}
use Rattle.zn_truth.specs.declared.limits.TheConstants.{MAX_BLOCKS, MAX_ZONES}
use Rattle.zn_lines.specs.declared.limits.TheConstants.{SCRATCH_BLOCKS}
use Rattle.zn_lines.specs.declared.words.Scratch.{Scratch}
use Rattle.zn_base.specs.Decimals.{number_in}
use Rattle.zn_truth.specs.declared.Kind.{Kind}
use Rattle.zn_truth.specs.declared.Kind.TheVariants.{Conventional, Sequential}
use Rattle.zn_truth.specs.declared.Shape.{Shape}
use Rattle.zn_truth.specs.Fresh.{fresh_truth}
use Rattle.zn_model.specs.ZoneFiles.{seq_path}
use Rattle.zn_lines.specs.Lines.{Line, plain_format, Mkfs, Mount, OpenFile}
use Rattle.zn_lines.specs.Grammar.{root}
use Rattle.zn_lines.specs.Table.{Table, fresh_table}
use Rattle.zn_lines.specs.Session.{line_step}

-- ---- words

-- 1 to 4,096 zones of 2 blocks or more, together at most 65,536 blocks
abbrev pub is_scratch : Scratch → Bool
is_scratch s = nat_le 1 s.zones && nat_le s.conv s.zones && nat_le 2 s.blocks && nat_le (s.zones * s.blocks) SCRATCH_BLOCKS

-- the device that is asked for, where it is within these limits
abbrev pub accepted : Scratch → Option Scratch
accepted s = if is_scratch s then Some s else None

-- all three numbers must be readable, and be within the limits together
abbrev pub scratch_by : Option ℕ → Option ℕ → Option ℕ → Option Scratch
scratch_by (Some zones) (Some conv) (Some blocks) = accepted (record { zones = zones; conv = conv; blocks = blocks })
scratch_by (Some zones) (Some conv) None = None
scratch_by (Some zones) None blocks = None
scratch_by None conv blocks = None

-- The command that words are: `scratch` and three decimal numbers.
unfoldable pub command_of : List (List ℕ) → Option Scratch
command_of [] = None
command_of (name ∷ []) = None
command_of (name ∷ zones ∷ []) = None
command_of (name ∷ zones ∷ conv ∷ []) = None
command_of (name ∷ zones ∷ conv ∷ blocks ∷ []) =
    if bytes_eq name (codes "scratch") then scratch_by (number_in MAX_ZONES zones) (number_in MAX_ZONES conv) (number_in MAX_BLOCKS blocks) else None
command_of (name ∷ zones ∷ conv ∷ blocks ∷ more ∷ words) = None

-- ---- the device

-- the conventional zones come first, and all others are sequential
abbrev pub kinds_of : Scratch → List Kind
kinds_of s = replicate s.conv Conventional ++ replicate (s.zones - s.conv) Sequential

-- no limits, and the capacity of sequential zones is the zone size
abbrev pub shape_of : Scratch → Shape
shape_of s = record { zone_blocks = s.blocks; zone_capacity = s.blocks; max_open = 0; max_active = 0 }

-- ---- the session

-- the first three lines: the device is formatted and mounted, and handle 0 is opened on `seq/0`
abbrev pub scratch_lines : List Line
scratch_lines = Mkfs plain_format ∷ Mount None ∷ OpenFile 0 (seq_path 0) (record { 0 = 3 }) root ∷ []

-- the session on a new device, with sixteen bytes from which its identifier is made
abbrev pub scratch_begun : Scratch → List ℕ → Table
scratch_begun s entropy = fresh_table (fresh_truth (shape_of s) (kinds_of s)) entropy

-- The session after these lines. None of them has a reply, and where there is no `seq/0` no handle is opened.
unfoldable pub scratch_table : Scratch → List ℕ → Table
scratch_table s entropy = fold (λ table line. (line_step [] table line).table) (scratch_begun s entropy) scratch_lines
