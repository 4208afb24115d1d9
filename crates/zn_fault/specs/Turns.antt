-- What a device that is harmed answers, as a script is told it. (own)
use Rattle.std.specs.Prelude.{Ok, Err}
use Rattle.zn_truth.specs.declared.DevError.{DevError}
use Rattle.zn_truth.specs.declared.DevError.TheVariants.{Memory}
use Rattle.zn_truth.specs.declared.InjectError.{InjectError}
use Rattle.zn_truth.specs.declared.InjectError.TheVariants.{Broken as broken, Memory as memory}
use Rattle.zn_truth.specs.Orders.{Reply}
use Rattle.zn_truth.specs.Inject.{InjectReply}

-- want of memory by its name, and all else as a break: no harm meets another error
abbrev pub harm_error : DevError → InjectError
harm_error Memory = memory
harm_error error = broken

-- the same of an answer
abbrev pub harm_reply : Reply → InjectReply
harm_reply (Ok unit) = Ok tt
harm_reply (Err error) = Err (harm_error error)
