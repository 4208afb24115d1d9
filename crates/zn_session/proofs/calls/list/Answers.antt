use Rattle.std.proofs.Common.{sym}
use Rattle.zn_model.specs.Looks.{entries_call}
use Rattle.zn_model.proofs.KeysKeptCalls.{entries_keeps}
use Rattle.zn_volume.specs.VolumeState.{mounted_in}
use Rattle.zn_session.proofs.Answering.{tells_look, tells_refused}
use Rattle.zn_session.proofs.LineSteps.{list_step, entries_same}
use Rattle.zn_session.proofs.Listings.{entries_found}
use Rattle.zn_session.proofs.calls.list.Goals as goal

pub listing-requires : goal.listing-requires
listing-requires g c = entries_found (mounted_in c.args.volume.now) c.args.path.now c.in-Ok.entries (sym c.in-Ok.ensures.reply)

pub returns-in-Ok : goal.returns-in-Ok
returns-in-Ok g c = λ kept numbers numbered.
    tells_look (entries_call (mounted_in c.args.volume.now) c.args.path.now) (list_step _ _ numbers _) c.in-Ok.ensures.reply (entries_same _ _)
    c.in-Ok.ensures.told c.requires.unspoilt (entries_keeps _ _) numbered (c.listing.ensures kept)

pub returns-in-Err : goal.returns-in-Err
returns-in-Err g c = λ kept numbers numbered.
    tells_look (entries_call (mounted_in c.args.volume.now) c.args.path.now) (list_step _ _ numbers _) c.in-Err.ensures.reply (entries_same _ _)
    c.in-Err.ensures.told c.requires.unspoilt (entries_keeps _ _) numbered (tells_refused c.in-Err.refusal kept)
