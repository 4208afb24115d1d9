use Rattle.zn_stand.proofs.Directories.{made_other, made_image, any_order}
use Rattle.zn_stand.proofs.laws.files_stand_apart.Goals as goal

pub returns : goal.returns
returns c = record { other = made_other; image = made_image; order = any_order }
