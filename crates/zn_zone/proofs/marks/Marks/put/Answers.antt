use Rattle.std.proofs.Common.{length, set, ap, ◌∙◌, refl, arith}
use Rattle.zn_zone.proofs.MarkLaws.{length-marks, put_one}
use Rattle.zn_zone.proofs.marks.Marks.put.Goals as goal

-- the number's lane is there
pub index-requires : goal.index-requires
index-requires c =
    omega (
      arith,
      c.self.invariant.room,
      length-marks c.self.inside.lanes.items c.self.inside.bound,
      ap (λ marks. length marks) c.self.view_is,
    )

pub index_mut-requires : goal.index_mut-requires
index_mut-requires c =
    omega (
      arith,
      c.self.invariant.room,
      length-marks c.self.inside.lanes.items c.self.inside.bound,
      ap (λ marks. length marks) c.self.view_is,
    )

pub with_bit-self-inside-requires : goal.with_bit-self-inside-requires
with_bit-self-inside-requires c =
    omega (
      arith,
      c.self.invariant.room,
      c.self.invariant.count,
      length-marks c.self.inside.lanes.items c.self.inside.bound,
      ap (λ marks. length marks) c.self.view_is,
    )

pub invariant_of-self : goal.invariant_of-self
invariant_of-self c =
    (put_one c.self.inside.lanes.items c.self.inside.bound c.args.number c.index.result.now c.with_bit-word.result
    _ _ c.args.is_marked _
    (omega (arith, ap (λ marks. length marks) c.self.view_is)) c.self.invariant c.index.ensures
    (record { here = c.with_bit-word.ensures.here; others = c.with_bit-word.ensures.others })
    (record { here = c.with_bit-self-inside.ensures.here; others = c.with_bit-self-inside.ensures.others })
    refl).summed

pub returns : goal.returns
returns c =
    (put_one c.self.inside.lanes.items c.self.inside.bound c.args.number c.index.result.now c.with_bit-word.result
    _ _ c.args.is_marked _
    (omega (arith, ap (λ marks. length marks) c.self.view_is)) c.self.invariant c.index.ensures
    (record { here = c.with_bit-word.ensures.here; others = c.with_bit-word.ensures.others })
    (record { here = c.with_bit-self-inside.ensures.here; others = c.with_bit-self-inside.ensures.others })
    refl).marks ∙ ap (λ marks. set marks c.args.number c.args.is_marked) c.self.view_is
