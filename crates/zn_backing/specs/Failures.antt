-- What becomes of a call on a file that isn't done, and what a look at a directory tells. (own)
use Rattle.std.specs.Prelude.{Option, Some, None}
use Rattle.zn_stand.specs.AtRest.{Cause, NotADevice as NoDevice, BadGeometry as WrongText, MissingFile as NoFile, BadZoneFile as WrongFile, ExtraName as OtherName, TooManyActive as ManyActive}
use Rattle.zn_files.specs.declared.error.FileError.{FileError}
use Rattle.zn_files.specs.declared.error.FileError.TheVariants.{Fault as Failed, Missing, Exists, Memory as NoMemory}
use Rattle.zn_backing.specs.declared.error.OpenError.{OpenError}
use Rattle.zn_backing.specs.declared.error.OpenError.TheVariants.{NotADevice, BadGeometry, MissingFile, BadZoneFile, ExtraName, TooManyActive, Fault, Memory}
use Rattle.zn_backing.specs.declared.error.CreateError.{CreateError}
use Rattle.zn_backing.specs.declared.error.CreateError.TheVariants.{Fault as MakingFault, Memory as MakingMemory}

-- A call on a file that isn't done is a fault, or wants memory: no call is made on a file that isn't there.
abbrev pub failed : FileError → OpenError
failed Failed = Fault
failed Missing = Fault
failed Exists = Fault
failed NoMemory = Memory

-- the same while a device is made
abbrev pub not_made : FileError → CreateError
not_made Failed = MakingFault
not_made Missing = MakingFault
not_made Exists = MakingFault
not_made NoMemory = MakingMemory

-- the cause that lies in the directory, if it does
abbrev pub cause_of : OpenError → Option Cause
cause_of NotADevice = Some NoDevice
cause_of (BadGeometry line) = Some (WrongText line)
cause_of (MissingFile kind z) = Some (NoFile kind z.0)
cause_of (BadZoneFile kind z len) = Some (WrongFile kind z.0 len)
cause_of (ExtraName name) = Some (OtherName name)
cause_of (TooManyActive count) = Some (ManyActive count)
cause_of Fault = None
cause_of Memory = None
