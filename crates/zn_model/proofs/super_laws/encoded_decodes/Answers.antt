use Rattle.zn_model.proofs.SuperBlocksEncoded as laws
use Rattle.zn_model.proofs.super_laws.encoded_decodes.Goals as goal

pub returns : goal.returns
returns c = laws.encoded_decodes
