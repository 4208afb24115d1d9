-- What is told and read before anything is written.
use Rattle.std.proofs.Common.{◌≡◌, ℕ, Bool, true, false, List, length, Ok, refl, sym, ap, ◌∙◌}
use Rattle.std.specs.Prelude.{replicate, if◌then◌else◌, IsTrue, [], ◌∷◌}
use Rattle.std.specs.List.{list_all}
use Rattle.std.proofs.lemmas.List.{take_at}
use Rattle.zn_truth.specs.Truth.{Truth, bytes_at}
use Rattle.zn_truth.specs.Orders.{ReadAt, Reply}
use Rattle.zn_truth.specs.OrderLaws.{is_look}
use Rattle.zn_truth.specs.World.{World, geometry_of}
use Rattle.zn_truth.proofs.OrderLists.{looks_leave, report_leaves}
use Rattle.zn_device.specs.States.{DeviceState, Commanded, Ordered}
use Rattle.zn_device.proofs.Ordered.{ordered_none, ordered_one}
use Rattle.zn_model.specs.Looks.{report_all}
use Rattle.zn_model.specs.Given.{fitted, copies_in}
use Rattle.zn_model.specs.Formatting.{may_hold_copies}
use Rattle.zn_mkfs.specs.Commands.{looks}

pub shape_is : (w : World) → (geometry_of w).shape ≡ w.truth.shape
unfolding geometry_of
shape_is w = refl

-- what a read of both copies gave is what the definition takes of it
by_told : (told : Bool) (held out : List ℕ) → length out ≡ 8192 → (told ≡ true → out ≡ held) → (if told then held else fitted 8192 out) ≡ out
by_told true held out long is = sym (is refl)
by_told false held out long is = take_at out (replicate 8192 0) 8192 long

pub given_is : (t : Truth) (out : List ℕ) → length out ≡ 8192 → (t.told ≡ true → out ≡ bytes_at t 0 0 2) → copies_in t out ≡ out
given_is t out long is = by_told t.told (bytes_at t 0 0 2) out long is

-- a look that is done leaves what the device holds
looks_only : (t : Truth) → IsTrue (list_all is_look (looks t))
looks_only t = by_test (may_hold_copies t)
  where
    by_test : (b : Bool) → IsTrue (list_all is_look (if b then ReadAt 0 0 2 ∷ [] else []))
    by_test true = refl
    by_test false = refl

pub looks_same : (t : Truth) (s m : DeviceState) → Ordered (looks t) (Ok tt) s m → m.world.truth ≡ s.world.truth
looks_same t s m h = ap (λ (w : World). w.truth) (h.obeys.world refl) ∙ looks_leave s.world (looks t) (looks_only t) (sym (h.obeys.reply refl))

pub report_same : (t : Truth) (s m : DeviceState) → Commanded (report_all t) (Ok tt) s m → m.world.truth ≡ s.world.truth
report_same t s m h = ap (λ (w : World). w.truth) (h.obeys.world refl) ∙ report_leaves s.world 0 (length t.zones) (sym (h.obeys.reply refl))

-- and the look itself
pub no_look : (t : Truth) (s : DeviceState) → may_hold_copies t ≡ false → s.spoilt ≡ false → Ordered (looks t) (Ok tt) s s
no_look t s none unspoilt = rw none (ordered_none s unspoilt)

pub one_look : (t : Truth) (reply : Reply) (s m : DeviceState) → may_hold_copies t ≡ true → Commanded (ReadAt 0 0 2) reply s m → Ordered (looks t) reply s m
one_look t reply s m may h = rw may (ordered_one (ReadAt 0 0 2) reply s m h)
