use Rattle.zn_model.proofs.SuperBlocksExample.{example_is_encoded, example_is_decoded}
use Rattle.zn_model.proofs.super_laws.example_is_read_back.Goals as goal

pub returns : goal.returns
returns c = record { encoded = example_is_encoded; decoded = example_is_decoded }
