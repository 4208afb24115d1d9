use Rattle.std.proofs.Common.{◌≡◌, ℕ, ◌/◌, ◌<◌, length, take, drop, ap, ◌∙◌, subst, arith, ◌++◌}
use Rattle.std.proofs.lemmas.List.{take_at, length-take-le}
use Rattle.std.proofs.lemmas.List.Elements.{All-from_get_or}
use Rattle.zn_truth.specs.Orders.{ReadAt}
use Rattle.zn_truth.specs.Truth.{bytes_at}
use Rattle.zn_truth.specs.World.{geometry_of}
use Rattle.zn_device.specs.States.{Commanded}
use Rattle.zn_volume.proofs.Zone0.{first_blocks}
use Rattle.zn_volume.proofs.commands.read_copies.Goals as goal

pub read-requires-clause-fits : goal.read-requires-clause-fits
read-requires-clause-fits g c =
    let two : length (take 8192 c.args.scratch.now) / 4096 ≡ 2 = ap (λ (n : ℕ). n / 4096) (length-take-le 8192 c.args.scratch.now c.requires.room) in
    first_blocks (geometry_of (g.D.Zoned.state c.args.dev.now).world) (length (take 8192 c.args.scratch.now) / 4096) (g.met.D.Zoned.is_within c.args.dev.now) two

pub returns-clause-done : goal.returns-clause-done
returns-clause-done g c =
    let two : length (take 8192 c.args.scratch.now) / 4096 ≡ 2 = ap (λ (n : ℕ). n / 4096) (length-take-le 8192 c.args.scratch.now c.requires.room) in
    subst (λ (n : ℕ). Commanded (ReadAt 0 0 n) c.read.result (g.D.Zoned.state c.args.dev.now) (g.D.Zoned.state c.read.new.self)) two c.read.ensures.done

pub returns-clause-bytes : goal.returns-clause-bytes
returns-clause-bytes g c = λ ok told.
    let two : length (take 8192 c.args.scratch.now) / 4096 ≡ 2 = ap (λ (n : ℕ). n / 4096) (length-take-le 8192 c.args.scratch.now c.requires.room) in
    let len : length c.read.new.out ≡ 8192 = omega (arith, c.read.auto.out, length-take-le 8192 c.args.scratch.now c.requires.room) in
    take_at c.read.new.out (drop 8192 c.args.scratch.now) 8192 len ∙ c.read.ensures.bytes ok told
    ∙ ap (λ (n : ℕ). bytes_at (g.D.Zoned.state c.args.dev.now).world.truth 0 0 n) two

pub returns-clause-given : goal.returns-clause-given
returns-clause-given g c = All-from_get_or (λ (byte : ℕ). byte < 256) (c.read.new.out ++ drop 8192 c.args.scratch.now) 0 (λ i below. omega (arith, c.type_inv.scratch i))
