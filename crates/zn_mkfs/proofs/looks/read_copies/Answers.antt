use Rattle.std.proofs.Common.{ℕ, ◌/◌, length, ap, ◌∙◌, ◌≡◌}
use Rattle.zn_truth.specs.Truth.{bytes_at}
use Rattle.zn_mkfs.proofs.LookLaws.{given_is}
use Rattle.zn_mkfs.proofs.looks.read_copies.Goals as goal

pub returns-clause-bytes : goal.returns-clause-bytes
returns-clause-bytes g c = λ ok.
    let t = (g.D.Zoned.state c.args.dev.now).world.truth in
    let two : length c.args.copies.now / 4096 ≡ 2 = ap (λ (n : ℕ). n / 4096) c.told-copies in
    given_is t c.read.new.out (c.read.auto.out ∙ c.told-copies) (λ told. c.read.ensures.bytes ok told ∙ ap (bytes_at t 0 0) two)
