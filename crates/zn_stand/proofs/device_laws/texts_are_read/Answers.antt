use Rattle.std.proofs.Common.{ap, ◌∙◌}
use Rattle.zn_stand.specs.DeviceText.{text_read}
use Rattle.zn_stand.proofs.DeviceTexts.{text_is_read, text_is_taken}
use Rattle.zn_stand.proofs.device_laws.texts_are_read.Goals as goal

pub returns : goal.returns
returns c = λ text geo. (text_is_taken text geo, λ both. ap text_read both.0 ∙ text_is_read geo both.1)
