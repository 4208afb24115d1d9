-- The text of the file `device`: a zoned device's geometry. (own)
use Rattle.std.specs.Prelude.{ℕ, ◌+◌, Bool, ◌&&◌, ◌||◌, ◌==◌, not, nat_lt, nat_le, nat_eq, List, [], ◌∷◌, length, take, drop, slice_index, Option, Some, None, unwrap_or, position, Result, Ok, Err, codes, if◌then◌else◌}
use Rattle.std.specs.List.{list_all, starts_with}
use Rattle.std.specs.Option.{option_map}
use Rattle.std.specs.Str.{bytes_eq}
use Rattle.std.specs.Fmt.{decimal}
use Rattle.zn_base.specs.Decimals.{is_digit, number_in}
use Rattle.zn_base.specs.Texts.{◌⧺◌}
use Rattle.zn_truth.specs.declared.Shape.{Shape}
use Rattle.zn_truth.specs.declared.limits.TheConstants.{MAX_BLOCKS, MAX_ZONES}
use Rattle.zn_stand.specs.declared.numbers.Geometry.{Geometry}
use Rattle.zn_stand.specs.declared.numbers.TheConstants.{LONGEST_TEXT, GREATEST_NUMBER}

-- ---- the text of a geometry

-- what the line of each number begins with
abbrev pub first_line : List ℕ
first_line = codes "zloop 1"

abbrev pub zones_label : List ℕ
zones_label = codes "zones "

abbrev pub conv_label : List ℕ
conv_label = codes "conv "

abbrev pub blocks_label : List ℕ
blocks_label = codes "zone_blocks "

abbrev pub capacity_label : List ℕ
capacity_label = codes "zone_capacity "

abbrev pub open_label : List ℕ
open_label = codes "max_open "

abbrev pub active_label : List ℕ
active_label = codes "max_active "

-- the byte that ends each line
abbrev pub newline : ℕ
newline = 10

-- a line: its label, and a number in decimal digits
abbrev pub line_text : List ℕ → ℕ → List ℕ
line_text label number = label ⧺ decimal number ⧺ newline ∷ []

-- the seven lines of a geometry
unfoldable pub device_text : Geometry → List ℕ
device_text geo =
    (first_line ⧺ newline ∷ [])
    ⧺ line_text zones_label geo.zones
    ⧺ line_text conv_label geo.conv
    ⧺ line_text blocks_label geo.shape.zone_blocks
    ⧺ line_text capacity_label geo.shape.zone_capacity
    ⧺ line_text open_label geo.shape.max_open
    ⧺ line_text active_label geo.shape.max_active

-- ---- reading a text

-- one reading after another: the first line that isn't of its form ends it
infixl 10 ◌>>=◌
-- a value is handed to the next reading, and the number of a line is the result at once
abbrev pub ◌>>=◌ : {A B : Type 0} → Result A ℕ → (A → Result B ℕ) → Result B ℕ
(Ok x) >>= f = f x
(Err line) >>= f = Err line

-- the bytes of the line that begins at a place, without its newline; none where no newline ends it
abbrev pub line_at : List ℕ → ℕ → Option (List ℕ)
line_at text at = option_map (λ n. take n (drop at text)) (position (λ b. b == newline) (drop at text))

-- a decimal number of any size, without a leading zero
abbrev pub is_number : List ℕ → Bool
is_number word = not (length word == 0) && list_all is_digit word && not (nat_lt 1 (length word) && slice_index word 0 == 48)

-- A number that is greater than any field holds counts as the greatest that one does, which is beyond every limit.
abbrev pub capped_number : List ℕ → ℕ
capped_number word = unwrap_or (number_in GREATEST_NUMBER word) GREATEST_NUMBER

-- the line is the label and a number
abbrev pub is_line : List ℕ → List ℕ → Bool
is_line label words = starts_with nat_eq words label && is_number (drop (length label) words)

-- the number of a line, and the place behind it
abbrev pub number_of : ℕ → List ℕ → ℕ → Option (List ℕ) → Result (ℕ × ℕ) ℕ
number_of line label at None = Err line
number_of line label at (Some words) = if is_line label words then Ok (capped_number (drop (length label) words), at + length words + 1) else Err line

-- line 1 at the start of the text, and the place behind it
abbrev pub behind_first : Option (List ℕ) → Result ℕ ℕ
behind_first None = Err 1
behind_first (Some words) = if bytes_eq words first_line then Ok (length words + 1) else Err 1

-- the line with this number, which begins at a place: its label and a number
unfoldable pub number_line : ℕ → List ℕ → List ℕ → ℕ → Result (ℕ × ℕ) ℕ
number_line line label text at = number_of line label at (line_at text at)

-- the numbers of lines 4 to 7, of which line 4 begins at a place, or the first line that isn't of its form; text behind
-- them counts as line 8
unfoldable pub shape_read : List ℕ → ℕ → Result Shape ℕ
shape_read text at = do
  blocks ← number_line 4 blocks_label text at
  capacity ← number_line 5 capacity_label text blocks.1
  opens ← number_line 6 open_label text capacity.1
  actives ← number_line 7 active_label text opens.1
  if length text == actives.1 then Ok (record { zone_blocks = blocks.0; zone_capacity = capacity.0; max_open = opens.0; max_active = actives.0 }) else Err 8

-- the numbers of the seven lines, or the first line that isn't of its form
unfoldable pub lines_read : List ℕ → Result Geometry ℕ
lines_read text = do
  at ← behind_first (line_at text 0)
  zones ← number_line 2 zones_label text at
  conv ← number_line 3 conv_label text zones.1
  shape ← shape_read text conv.1
  Ok (record { zones = zones.0; conv = conv.0; shape = shape })

-- the limits of a device
unfoldable pub is_within : Geometry → Bool
is_within geo =
    nat_le 1 geo.zones && nat_le geo.zones MAX_ZONES && nat_le geo.conv geo.zones
    && nat_le 2 geo.shape.zone_capacity && nat_le geo.shape.zone_capacity geo.shape.zone_blocks && nat_le geo.shape.zone_blocks MAX_BLOCKS
    && nat_le geo.shape.max_open MAX_ZONES && nat_le geo.shape.max_active MAX_ZONES
    && (geo.shape.max_open == 0 || (geo.shape.max_active == 0 || nat_le geo.shape.max_open geo.shape.max_active))

-- a geometry within the limits; a broken limit counts as line 0
abbrev pub limited : Geometry → Result Geometry ℕ
limited geo = if is_within geo then Ok geo else Err 0

-- The geometry, or the first line that isn't of its form. A text that is too long counts as line 8, whatever its lines
-- hold, and a broken limit, told after all that isn't of its form, as line 0.
unfoldable pub text_read : List ℕ → Result Geometry ℕ
text_read text = if nat_lt LONGEST_TEXT (length text) then Err 8 else lines_read text >>= limited
