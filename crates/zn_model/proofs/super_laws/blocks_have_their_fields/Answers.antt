use Rattle.zn_model.proofs.SuperBlocksFields.{encoded_length, encoded_fields, fields_are_encoded}
use Rattle.zn_model.proofs.super_laws.blocks_have_their_fields.Goals as goal

pub returns : goal.returns
returns c = record { bytes = encoded_length; fields = encoded_fields; only = fields_are_encoded }
