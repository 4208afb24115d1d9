-- Calls over a small device that doesn't tell its bytes, computed.
use Rattle.std.specs.Prelude.{◌≡◌, ℕ, false, List, [], ◌∷◌, ◌++◌, Ok, Err}
use Rattle.zn_truth.specs.declared.Kind.TheVariants.{Conventional, Sequential}
use Rattle.zn_truth.specs.declared.Cond.TheVariants.{Good}
use Rattle.zn_truth.specs.Truth.{Zone, Truth}
use Rattle.zn_truth.specs.World.{calm}
use Rattle.zn_model.specs.declared.answers.MountError.TheVariants.{NotFormatted}
use Rattle.zn_model.specs.declared.files.MountOpts.{MountOpts}
use Rattle.zn_model.specs.declared.files.Policy.TheVariants.{RemountRo}
use Rattle.zn_model.specs.declared.answers.FormatError.TheVariants.{AlreadyFormatted}
use Rattle.zn_model.specs.declared.answers.Why.TheVariants.{BadMagic, Zone0NotFull}
use Rattle.zn_model.specs.SuperBlock.{encoded}
use Rattle.zn_model.specs.SuperLaws.{example}
use Rattle.zn_model.specs.Volume.{Mounted}
use Rattle.zn_model.specs.Mounting.{fresh_volume, mount_call}
use Rattle.zn_model.specs.Formatting.{format_call}
use Rattle.zn_model.specs.Reading.{read_now}

-- a good zone that holds so many blocks, all durable, whose bytes are not told
abbrev pub quiet_conventional : Zone
quiet_conventional = record { kind = Conventional; cond = Good; held = 2; bytes = []; durable = 2; unflushed = false ∷ false ∷ []; explicit = false }

abbrev pub quiet_sequential : ℕ → Zone
quiet_sequential held = record { kind = Sequential; cond = Good; held = held; bytes = []; durable = held; unflushed = []; explicit = false }

-- zones of two blocks: the first for the super block, the second sequential with one block
abbrev pub quiet : Zone → Truth
quiet first = record { told = false; shape = record { zone_blocks = 2; zone_capacity = 2; max_open = 0; max_active = 0 }; zones = first ∷ quiet_sequential 1 ∷ [] }

-- both copies of the example
abbrev pub two_copies : List ℕ
two_copies = encoded example ++ encoded example

-- as without options
abbrev pub plain_options : MountOpts
plain_options = record { policy = RemountRo; explicit_open = false }

-- the volume that a mount makes of it
abbrev pub quiet_mounted : Mounted
quiet_mounted = record { world = calm (quiet quiet_conventional); volume = fresh_volume (quiet quiet_conventional) example plain_options }

-- A mount goes by what its read gave. A read's bytes are those given, as many as the file shows. A refusal that comes
-- before the bytes comes whatever was given.
pub record GivenCases : Type 0 where
  pub mounted : mount_call two_copies (calm (quiet quiet_conventional)) plain_options ≡ record { reply = Ok (fresh_volume (quiet quiet_conventional) example plain_options); world = calm (quiet quiet_conventional) }
  pub refused : (mount_call [] (calm (quiet quiet_conventional)) plain_options).reply ≡ Err (NotFormatted BadMagic)
  pub unfull : (given : List ℕ) → (mount_call given (calm (quiet (quiet_sequential 1))) plain_options).reply ≡ Err (NotFormatted Zone0NotFull)
  pub formatted : (format_call two_copies (calm (quiet quiet_conventional)) example false).reply ≡ Err AlreadyFormatted
  pub written : (format_call [] (calm (quiet quiet_conventional)) example false).reply ≡ Ok tt
  pub read : read_now (7 ∷ 8 ∷ 9 ∷ []) quiet_mounted 0 4090 100 ≡ record { reply = Ok (7 ∷ 8 ∷ 9 ∷ 0 ∷ 0 ∷ 0 ∷ []); mounted = quiet_mounted }
