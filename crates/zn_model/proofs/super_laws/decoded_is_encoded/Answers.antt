use Rattle.zn_model.proofs.SuperBlocksDecoded as laws
use Rattle.zn_model.proofs.super_laws.decoded_is_encoded.Goals as goal

pub returns : goal.returns
returns c = laws.decoded_is_encoded
