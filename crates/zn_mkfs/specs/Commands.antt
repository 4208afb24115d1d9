-- The commands of a format in a row, and what it answers. (own)
use Rattle.std.specs.Prelude.{ℕ, Bool, ◌&&◌, not, List, [], ◌∷◌, ◌++◌, if◌then◌else◌, is_ok, Result, Ok, Err}
use Rattle.zn_truth.specs.declared.DevError.{DevError}
use Rattle.zn_truth.specs.Truth.{Truth, zone_at, is_sequential, is_good}
use Rattle.zn_truth.specs.Orders.{Order, ReadAt, Reply}
use Rattle.zn_model.specs.declared.answers.FormatError.{FormatError}
use Rattle.zn_model.specs.declared.answers.FormatError.TheVariants.{AlreadyFormatted, BadZone0}
use Rattle.zn_model.specs.Given.{copies_in}
use Rattle.zn_model.specs.Looks.{report_all}
use Rattle.zn_model.specs.Mounting.{super_block_of}
use Rattle.zn_model.specs.Formatting.{may_hold_copies, empties, resets, copies, format_error_of}

-- what a format answers
abbrev pub FormatReply : Type 0
FormatReply = Result (Unit {0}) FormatError

-- whether a command is done, without the value that it gave
abbrev pub reply_of : {X : Type 0} → Result X DevError → Reply
reply_of (Ok value) = Ok tt
reply_of (Err error) = Err error

-- blocks 0 and 1 of zone 0 hold a super block, by what was read
abbrev pub holds_copies : List ℕ → Truth → Bool
holds_copies given t = may_hold_copies t && is_ok (super_block_of (copies_in t given))

-- a super block is there, and it is kept
abbrev pub is_kept : List ℕ → Truth → Bool → Bool
is_kept given t force = holds_copies given t && not force

-- the read of blocks 0 and 1, where they may hold a super block
abbrev pub looks : Truth → List Order
looks t = if may_hold_copies t then ReadAt 0 0 2 ∷ [] else []

-- all that is written, with this block as the copies
abbrev pub writes : Truth → List ℕ → List Order
writes t block =
    empties (is_sequential (zone_at t 0).kind) ++ resets t ++ copies (is_sequential (zone_at t 0).kind) block

-- the commands on a good zone 0: the look, and all that is written unless a super block is kept
abbrev pub good_commands : List ℕ → Truth → List ℕ → Bool → List Order
good_commands given t block force = looks t ++ (if is_kept given t force then [] else writes t block)

-- The commands of a format: the report, and behind it those on a zone 0 that is good.
abbrev pub format_commands : List ℕ → Truth → List ℕ → Bool → List Order
format_commands given t block force =
    report_all t ∷ (if is_good (zone_at t 0).cond then good_commands given t block force else [])

-- an answer of the device, as a format tells it
abbrev pub told_as : Reply → FormatReply
told_as (Ok unit) = Ok tt
told_as (Err error) = Err (format_error_of error)

-- What a format answers by its last command's answer: the failure, as a format tells it; else that zone 0 isn't
-- good, that a super block is kept, or that it is done.
abbrev pub answer_by : List ℕ → Truth → Bool → Reply → FormatReply
answer_by given t force (Err error) = Err (format_error_of error)
answer_by given t force (Ok unit) =
    if not (is_good (zone_at t 0).cond) then Err (BadZone0 (zone_at t 0).cond)
    else if is_kept given t force then Err AlreadyFormatted
    else Ok tt
