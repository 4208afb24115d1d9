-- A file of a new device.
use Rattle.std.proofs.Common.{◌≡◌, ℕ, ◌+◌, ◌≤◌, true, List, [], ◌∷◌, sym, ap, subst, arith}
use Rattle.zn_truth.specs.declared.Kind.{Kind}
use Rattle.zn_truth.specs.declared.Kind.TheVariants.{Sequential}
use Rattle.zn_truth.specs.declared.Shape.{Shape}
use Rattle.zn_truth.specs.Truth.{Geometry, kind_at}
use Rattle.zn_truth.specs.World.{geometry_of}
use Rattle.zn_device.specs.Fresh.{fresh}
use Rattle.zn_device.specs.States.{DeviceState}
use Rattle.zn_device.specs.Memory.{calm_state}
use Rattle.zn_device.proofs.Begins.{geometry-fresh}
use Rattle.zn_model.specs.declared.files.FileZones.{FileZones}
use Rattle.zn_io.specs.Files.{IsFile}

-- two sequential zones
abbrev two : List Kind
two = Sequential ∷ Sequential ∷ []

-- the file of the second
abbrev second : FileZones
second = record { first = 1; zones = 1; seq = true }

pub second_file : (shape : Shape) (s : DeviceState) → s ≡ calm_state (fresh shape (Sequential ∷ Sequential ∷ [])) → 1 ≤ shape.zone_capacity → shape.zone_capacity ≤ 65536
    → IsFile (geometry_of s.world) (record { first = 1; zones = 1; seq = true })
unfolding geometry_of
second_file shape s is some most =
    let g : Geometry = record { shape = shape; kinds = two } in
    let file : IsFile g second = record {
      some = omega arith;
      inside = omega arith;
      most = omega arith;
      kinds = λ i below. let at : 1 + i ≡ 1 = omega arith in ap (λ (z : ℕ). kind_at (record { shape = shape; kinds = two }) z) at;
      some_room = omega arith;
      most_room = most;
    } in
    subst (λ (v : DeviceState). IsFile (geometry_of v.world) second) (sym is)
    (subst (λ (h : Geometry). IsFile h second) (sym (geometry-fresh shape two)) file)
