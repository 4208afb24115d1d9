use Rattle.std.proofs.Common.{◌∙◌, ℕ, List, map, refl, sym, subst}
use Rattle.zn_stand.specs.File.{synced}
use Rattle.zn_stand.specs.Calls.{Call, SyncFile}
use Rattle.zn_files.specs.declared.error.FileError.TheVariants.{Missing}
use Rattle.zn_files.specs.Record.{call_of}
use Rattle.zn_files.specs.Sound.{IsSoundMemory}
use Rattle.zn_files.proofs.MemSteps.{is_missing, is_there, same_holds, recorded_sound, recorded_more, struck_here, refused_here, done_here}
use Rattle.zn_files.proofs.memory.MemFilesFiles.sync.Goals as goal

pub returns-then-is_struck-clause-done : goal.returns-then-is_struck-clause-done
returns-then-is_struck-clause-done c = struck_here _ _ _ c.args.self.now.sound _ (SyncFile c.args.name.now) _ _ c.if-is_struck.ensures.faults c.if-is_struck.ensures.no_fewer

pub returns-then-not-contains_key-clause-done : goal.returns-then-not-contains_key-clause-done
returns-then-not-contains_key-clause-done c = refused_here _ _ _ c.args.self.now.sound _ (SyncFile c.args.name.now) _ _ Missing (c.count.ensures.faults ∙ c.if-is_struck.ensures.faults_same)
    (is_missing c.args.self.now.files _ c.args.name.now c.args.self.now.sound.files c.contains_key.result c.contains_key.ensures c.if-not-contains_key.true)

pub invariant_of-self-2 : goal.invariant_of-self-2
invariant_of-self-2 c =
    let more = recorded_more c.args.self.now.made.items c.reserve.new.self.items c.push_reserved.new.self.items _ (SyncFile c.args.name.now) c.in_ok-reserve.ensures.items c.push_reserved.ensures.items c.in_ok-change.ensures in
    record {
      sound = subst (λ (made : List (ℕ × Call)). IsSoundMemory (map call_of c.args.self.now.given.items) made c.args.self.now.files) (sym more)
          (recorded_sound _ _ c.args.self.now.files c.args.self.now.sound c.args.self.now.files c.count-2.new.self.calls (SyncFile c.args.name.now) tt (same_holds c.args.self.now.files _ c.args.name.now synced (λ f. refl) c.args.self.now.sound.files));
    }

pub returns-clause-done : goal.returns-clause-done
returns-clause-done c =
    let more = recorded_more c.args.self.now.made.items c.reserve.new.self.items c.push_reserved.new.self.items _ (SyncFile c.args.name.now) c.in_ok-reserve.ensures.items c.push_reserved.ensures.items c.in_ok-change.ensures in
    done_here _ _ _ c.args.self.now.sound _ (SyncFile c.args.name.now) _ _ c.count-2.new.self.calls _ _ (c.count-2.ensures.faults ∙ c.if-is_struck.ensures.faults_same) more
    (is_there c.args.self.now.files _ c.args.name.now c.args.self.now.sound.files c.contains_key.result c.contains_key.ensures c.if-not-contains_key.false)
