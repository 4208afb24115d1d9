use Rattle.zn_volume.proofs.laws.lies_on_device.Goals as goal

pub returns : goal.returns
returns g c = rw (← c.volume.view_is) (record {
  sound = g.met.D.Zoned.is_sound c.volume.inside.dev;
  files = c.volume.invariant.files;
  single = c.volume.invariant.single;
  shape = c.volume.invariant.shape;
  shown = c.volume.invariant.shown;
  sizes = c.volume.invariant.sizes;
  flight = c.volume.invariant.flight;
})
