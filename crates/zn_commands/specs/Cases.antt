-- Last lines, and small devices that a format takes or refuses, worked through.
use Rattle.std.specs.Prelude.{◌≡◌, true, false, [], ◌∷◌, map, Ok, Err, codes}
use Rattle.zn_truth.specs.declared.Kind.TheVariants.{Conventional, Sequential}
use Rattle.zn_truth.specs.declared.Cond.{Cond}
use Rattle.zn_truth.specs.declared.Cond.TheVariants.{Good, ReadOnly}
use Rattle.zn_truth.specs.Truth.{Truth}
use Rattle.zn_model.specs.declared.answers.FormatError.TheVariants.{AlreadyFormatted, BadZone0, Broken}
use Rattle.zn_run.specs.declared.status.Status.TheVariants.{Done, Directory, HostFault, Memory as no_memory}
use Rattle.zn_backing.specs.declared.error.OpenError.TheVariants.{NotADevice, BadGeometry, MissingFile, BadZoneFile}
use Rattle.zn_backing.specs.declared.error.OpenError.TheVariants.{ExtraName, TooManyActive, Fault, Memory}
use Rattle.zn_backing.specs.declared.error.CreateError.TheVariants.{Exists}
use Rattle.zn_commands.specs.Refusing.{holds_super_block, Refuses}
use Rattle.zn_commands.specs.Lines.{open_status, open_line, add_line, format_status, format_line}

-- Why a directory isn't opened: each cause, a call on a file that failed, and want of memory.
abbrev pub OpenLines : Type 0
OpenLines = map open_line (
    NotADevice ∷ BadGeometry 3 ∷ MissingFile Sequential (record { 0 = 2 })
    ∷ BadZoneFile Conventional (record { 0 = 0 }) 4096
    ∷ ExtraName (codes "notes") ∷ TooManyActive 17 ∷ Fault ∷ Memory ∷ []
    ) ≡
    codes "error not-a-device\n" ∷ codes "error bad-geometry 3\n" ∷ codes "error missing-file seq-000002\n"
    ∷ codes "error bad-zone-file cnv-000000 4096\n"
    ∷ codes "error extra-name notes\n" ∷ codes "error too-many-active 17\n" ∷ codes "host-fault 0\n"
    ∷ codes "out-of-memory\n" ∷ []

-- the statuses of the first and the last three of these
abbrev pub OpenStatuses : Type 0
OpenStatuses = map open_status (NotADevice ∷ TooManyActive 17 ∷ Fault ∷ Memory ∷ []) ≡
    Directory ∷ Directory ∷ HostFault ∷ no_memory ∷ []

-- the line where a name is there
abbrev pub AddLine : Type 0
AddLine = add_line (Err (Exists (codes "cnv-000000"))) ≡ codes "error not-empty cnv-000000\n"

-- A format that is done, two that are refused, and one in which a call on a file failed.
abbrev pub FormatLines : Type 0
FormatLines = map format_line (Ok tt ∷ Err AlreadyFormatted ∷ Err (BadZone0 ReadOnly) ∷ Err Broken ∷ []) ≡
    codes "ok\n" ∷ codes "error already-formatted\n" ∷ codes "error bad-zone0 read-only\n"
    ∷ codes "host-fault 0\n" ∷ []

-- their statuses
abbrev pub FormatStatuses : Type 0
FormatStatuses = map format_status (Ok tt ∷ Err AlreadyFormatted ∷ Err (BadZone0 ReadOnly) ∷ Err Broken ∷ []) ≡
    Done ∷ Directory ∷ Directory ∷ HostFault ∷ []

-- ---- devices

-- a device of one empty sequential zone in this condition
abbrev pub one_empty : Cond → Truth
one_empty cond = record {
  told = true;
  shape = record { zone_blocks = 4; zone_capacity = 3; max_open = 0; max_active = 0 };
  zones = (record {
    kind = Sequential;
    cond = cond;
    held = 0;
    bytes = [];
    durable = 0;
    unflushed = [];
    explicit = false;
  }) ∷ [];
}

-- a zone that isn't full holds no super block
abbrev pub NothingHeld : Type 0
NothingHeld = holds_super_block (one_empty Good) ≡ false

-- a zone 0 that is read-only is refused, also by force
abbrev pub ReadOnlyRefused : Type 0
ReadOnlyRefused = Refuses true (BadZone0 ReadOnly) (one_empty ReadOnly)
