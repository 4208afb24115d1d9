use Rattle.std.proofs.Common.{map, ap, subst, ◌∙◌}
use Rattle.zn_stand.specs.File.{AreBytes}
use Rattle.zn_stand.specs.Calls.{WriteFrom}
use Rattle.zn_files.specs.Record.{recorded_of}
use Rattle.zn_files.proofs.Giving.{given_first, given_sound, calls_given}
use Rattle.zn_files.proofs.memory.MemFiles.give.Goals as goal

pub invariant_of-self-2 : goal.invariant_of-self-2
invariant_of-self-2 c =
    let more = calls_given c.args.self.now.given.items c.reserve.new.self.items c.push_reserved.new.self.items c.push_reserved-2.new.self.items c.push_reserved-3.new.self.items _ _ _ c.args.name.now c.args.bytes.items
    c.in_ok-reserve.ensures.items c.push_reserved.ensures.items c.push_reserved-2.ensures.items c.push_reserved-3.ensures.items
    c.in_ok-create.ensures (c.in_ok-write.ensures.call ∙ ap (WriteFrom c.args.name.now 0) c.deref.ensures.value) c.in_ok-sync.ensures in
    record { sound = given_sound _ _ (map recorded_of c.args.self.now.made.items) c.args.self.now.files c.insert_stored.new.files c.args.name.now c.args.bytes.items c.args.self.now.sound c.requires.fresh c.requires.absent more (subst AreBytes c.deref.ensures.value c.in_ok-write.ensures.bytes) c.in_ok-insert_stored.ensures.ok }

pub returns-clause-given : goal.returns-clause-given
returns-clause-given c =
    let more = calls_given c.args.self.now.given.items c.reserve.new.self.items c.push_reserved.new.self.items c.push_reserved-2.new.self.items c.push_reserved-3.new.self.items _ _ _ c.args.name.now c.args.bytes.items
    c.in_ok-reserve.ensures.items c.push_reserved.ensures.items c.push_reserved-2.ensures.items c.push_reserved-3.ensures.items
    c.in_ok-create.ensures (c.in_ok-write.ensures.call ∙ ap (WriteFrom c.args.name.now 0) c.deref.ensures.value) c.in_ok-sync.ensures in
    given_first _ _ (map recorded_of c.args.self.now.made.items) c.args.self.now.files c.insert_stored.new.files c.args.name.now c.args.bytes.items c.args.self.now.sound c.requires.fresh c.requires.absent more
