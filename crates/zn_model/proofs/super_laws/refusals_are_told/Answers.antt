use Rattle.zn_model.proofs.SuperBlocksExample.{zeros_are_refused, last_byte_is_compared, version_is_read, label_is_read, features_are_read, permissions_are_read, zeros_are_read}
use Rattle.zn_model.proofs.super_laws.refusals_are_told.Goals as goal

pub returns : goal.returns
returns c = record {
  magic = zeros_are_refused;
  copies = last_byte_is_compared;
  version = version_is_read;
  label = label_is_read;
  features = features_are_read;
  permissions = permissions_are_read;
  rest = zeros_are_read;
}
