use Rattle.std.proofs.Common.{map, string_bytes, Global}
use Rattle.zn_words.proofs.KeyWords.{split}
use Rattle.zn_words.proofs.Standing.{is_lent}
use Rattle.zn_words.proofs.adding.read.Goals as goal

pub unwrap-dir-requires : goal.unwrap-dir-requires
unwrap-dir-requires c =
    let parts = split (map (string_bytes {Z = Global}) c.args.words.now) c.requires in
    is_lent _ c.get_str.result _ parts.dir c.get_str.ensures (c.in-Ok.ensures.found parts.dir parts.keys parts.is).dir

pub unwrap-keys-requires : goal.unwrap-keys-requires
unwrap-keys-requires c =
    let parts = split (map (string_bytes {Z = Global}) c.args.words.now) c.requires in
    is_lent _ c.get_strs.result _ parts.keys c.get_strs.ensures (c.in-Ok.ensures.found parts.dir parts.keys parts.is).keys
