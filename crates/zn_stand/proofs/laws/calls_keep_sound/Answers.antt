use Rattle.zn_stand.proofs.Directories.{calls_keep_sound}
use Rattle.zn_stand.proofs.laws.calls_keep_sound.Goals as goal

pub returns : goal.returns
returns c = calls_keep_sound
