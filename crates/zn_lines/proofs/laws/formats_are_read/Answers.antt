use Rattle.std.proofs.Common.{refl}
use Rattle.zn_base.specs.Decimals.{number_in}
use Rattle.zn_lines.specs.Grammar.{path_of, after_key, text_item_of, item_of, with_item, items_on, verb_of, mkfs_line, mount_line, umount_line, line_of}
use Rattle.zn_lines.proofs.laws.formats_are_read.Goals as goal

pub returns : goal.returns
unfolding number_in path_of after_key text_item_of item_of with_item items_on verb_of mkfs_line mount_line umount_line line_of
returns c = record { plain = refl; force = refl; label = refl; all = refl; another_order = refl; mount = refl; mount_with = refl; umount = refl }
