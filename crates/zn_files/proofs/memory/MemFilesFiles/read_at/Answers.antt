use Rattle.std.proofs.Common.{arith, ◌≤◌, ◌+◌, ◌∙◌, ap, sym, refl, length, take, drop, List, ℕ}
use Rattle.zn_stand.specs.Calls.{ReadFrom}
use Rattle.zn_files.specs.declared.error.FileError.TheVariants.{Missing}
use Rattle.zn_files.proofs.MemSteps.{bytes_here, held_within, missing_there, there_now, struck_here, refused_here, looked_here}
use Rattle.zn_files.proofs.memory.MemFilesFiles.read_at.Goals as goal

pub returns-then-is_struck-clause-done : goal.returns-then-is_struck-clause-done
returns-then-is_struck-clause-done c = struck_here _ _ _ c.args.self.now.sound _ (ReadFrom c.args.name.now c.args.at (length c.args.out.now)) _ _ c.if-is_struck.ensures.faults c.if-is_struck.ensures.no_fewer

pub returns-in-None-clause-done : goal.returns-in-None-clause-done
returns-in-None-clause-done c = refused_here _ _ _ c.args.self.now.sound _ (ReadFrom c.args.name.now c.args.at (length c.args.out.now)) _ _ Missing (c.count.ensures.faults ∙ c.if-is_struck.ensures.faults_same)
    (missing_there c.args.self.now.files _ c.args.name.now c.args.self.now.sound.files (sym c.in-None.ensures.value))

pub read_bytes-requires : goal.read_bytes-requires
read_bytes-requires c =
    let within = held_within _ _ c.args.self.now.files c.args.self.now.sound c.args.self.now.tally.faults c.args.name.now (λ bytes. c.args.at + length c.args.out.now ≤ length bytes) c.requires.within c.in-Some.bytes.now (sym c.in-Some.ensures.value) in
    omega (arith, within, ap length c.deref.ensures.value)

pub returns-in-Some-clause-done : goal.returns-in-Some-clause-done
returns-in-Some-clause-done c = looked_here _ _ _ c.args.self.now.sound _ (ReadFrom c.args.name.now c.args.at (length c.args.out.now)) _ _ _ (c.count.ensures.faults ∙ c.if-is_struck.ensures.faults_same)
    (there_now c.args.self.now.files _ c.args.name.now c.args.self.now.sound.files c.in-Some.bytes.now (sym c.in-Some.ensures.value)) refl

pub returns-in-Some-clause-bytes : goal.returns-in-Some-clause-bytes
returns-in-Some-clause-bytes c = λ d f told there.
    let same = bytes_here _ _ c.args.self.now.files c.args.self.now.sound c.args.name.now c.in-Some.bytes.now d f (sym c.in-Some.ensures.value) told there in
    c.read_bytes.ensures ∙ ap (λ (bytes : List ℕ). take (length c.args.out.now) (drop c.args.at bytes)) (c.deref.ensures.value ∙ same)
