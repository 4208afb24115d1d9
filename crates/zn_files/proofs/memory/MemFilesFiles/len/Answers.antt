use Rattle.std.proofs.Common.{◌∙◌, arith, ap, sym, refl, length}
use Rattle.zn_stand.specs.Calls.{TellLen}
use Rattle.zn_files.specs.declared.error.FileError.TheVariants.{Missing}
use Rattle.zn_files.proofs.MemSteps.{bytes_here, missing_there, there_now, struck_here, refused_here, looked_here}
use Rattle.zn_files.proofs.memory.MemFilesFiles.len.Goals as goal

pub returns-then-is_struck-clause-done : goal.returns-then-is_struck-clause-done
returns-then-is_struck-clause-done c = struck_here _ _ _ c.args.self.now.sound _ (TellLen c.args.name.now) _ _ c.if-is_struck.ensures.faults c.if-is_struck.ensures.no_fewer

pub returns-in-Some-clause-done : goal.returns-in-Some-clause-done
returns-in-Some-clause-done c = looked_here _ _ _ c.args.self.now.sound _ (TellLen c.args.name.now) _ _ _ (c.count.ensures.faults ∙ c.if-is_struck.ensures.faults_same)
    (there_now c.args.self.now.files _ c.args.name.now c.args.self.now.sound.files c.in-Some.bytes.now (sym c.in-Some.ensures.value)) refl

pub returns-in-Some-clause-len : goal.returns-in-Some-clause-len
returns-in-Some-clause-len c = λ d f told there.
    let same = bytes_here _ _ c.args.self.now.files c.args.self.now.sound c.args.name.now c.in-Some.bytes.now d f (sym c.in-Some.ensures.value) told there in
    omega (arith, ap length same, c.len.ensures, c.in-Some.bytes.now.ok.0)

pub returns-in-None-clause-done : goal.returns-in-None-clause-done
returns-in-None-clause-done c = refused_here _ _ _ c.args.self.now.sound _ (TellLen c.args.name.now) _ _ Missing (c.count.ensures.faults ∙ c.if-is_struck.ensures.faults_same)
    (missing_there c.args.self.now.files _ c.args.name.now c.args.self.now.sound.files (sym c.in-None.ensures.value))
