use Rattle.std.proofs.Common.{◌≡◌, length, take, drop, ◌∙◌}
use Rattle.std.proofs.lemmas.List.{length-take-le}
use Rattle.zn_volume.proofs.Carrying.{oldest_there}
use Rattle.zn_volume.proofs.requests.oldest_into.Goals as goal

pub returns-clause-oldest : goal.returns-clause-oldest
returns-clause-oldest c =
    let long : length c.next.new.out ≡ length (take 1048576 c.args.scratch.now) = c.next.auto.out in
    oldest_there c.next.result _ c.next.new.out (drop 1048576 c.args.scratch.now) c.next.ensures.oldest c.next.ensures.len (long ∙ length-take-le 1048576 c.args.scratch.now c.requires)
