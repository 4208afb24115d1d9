use Rattle.zn_model.proofs.SuperBlocksRefused.{magic_is_first, copies_are_next, version_is_next, fields_are_last, others_are_read}
use Rattle.zn_model.proofs.super_laws.refusals_have_their_order.Goals as goal

pub returns : goal.returns
returns c = record { magic = magic_is_first; copies = copies_are_next; version = version_is_next; fields = fields_are_last; others = others_are_read }
