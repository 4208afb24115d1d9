-- Only a loss of power is told as one.
use Rattle.std.proofs.Common.{◌≡◌, ℕ, Bool, true, false, List, Option, Some, None, Ok, Err, refl, sym, ap, ◌∙◌, arith}
use Rattle.std.specs.Prelude.{if◌then◌else◌, ◌==◌}
use Rattle.std.proofs.lemmas.Bool.{false≢true}
use Rattle.zn_truth.specs.declared.Kind.{Kind}
use Rattle.zn_truth.specs.declared.Kind.TheVariants.{Conventional, Sequential}
use Rattle.zn_truth.specs.declared.Cond.{Cond}
use Rattle.zn_truth.specs.declared.Cond.TheVariants.{Good, ReadOnly, Offline}
use Rattle.zn_truth.specs.declared.DevError.{DevError}
use Rattle.zn_truth.specs.declared.DevError.TheVariants.{ReadOnly as read_only, Offline as offline, Unaligned, TooManyActive, TooManyOpen, BeyondWp, Fault, PowerLost, Broken, Memory}
use Rattle.zn_truth.specs.declared.ZoneOp.{ZoneOp}
use Rattle.zn_truth.specs.declared.ZoneOp.TheVariants.{Open, Close, Reset, Finish}
use Rattle.zn_truth.specs.declared.FaultSpec.{FaultSpec}
use Rattle.zn_truth.specs.declared.Armed.{Armed}
use Rattle.zn_truth.specs.Truth.{Zone, Truth, zone_at}
use Rattle.zn_truth.specs.Orders.{Order, ReadAt, WriteAt, Manage, FlushAll, ReportFrom, Reply, Done, refusal, reading, changing, opening, writing, managing, done, done_unless}
use Rattle.zn_truth.specs.World.{World, unarmed, struck, command_of, zones_of, as_fault, faulted, met}

abbrev pub is_loss : DevError → Bool
is_loss read_only = false
is_loss offline = false
is_loss Unaligned = false
is_loss TooManyActive = false
is_loss TooManyOpen = false
is_loss BeyondWp = false
is_loss Fault = false
is_loss PowerLost = true
is_loss Broken = false
is_loss Memory = false

abbrev refuses_loss : Option DevError → Bool
refuses_loss None = false
refuses_loss (Some error) = is_loss error

reading_loss : (cond : Cond) (next : Option DevError) → refuses_loss next ≡ false → refuses_loss (reading cond next) ≡ false
reading_loss Good next h = h
reading_loss ReadOnly next h = h
reading_loss Offline next h = refl

changing_loss : (cond : Cond) (next : Option DevError) → refuses_loss next ≡ false → refuses_loss (changing cond next) ≡ false
changing_loss Good next h = h
changing_loss ReadOnly next h = refl
changing_loss Offline next h = refl

either_loss : (b : Bool) (x y : Option DevError) → refuses_loss x ≡ false → refuses_loss y ≡ false → refuses_loss (if b then x else y) ≡ false
either_loss true x y h k = h
either_loss false x y h k = k

opening_loss : (t : Truth) (zone : Zone) → refuses_loss (opening t zone) ≡ false
opening_loss t zone = grind (arith)

writing_loss : (kind : Kind) (t : Truth) (zone : Zone) (at : ℕ) → refuses_loss (writing kind t zone at) ≡ false
writing_loss Conventional t zone at = refl
writing_loss Sequential t zone at = either_loss (zone.held == at) (opening t zone) (Some Unaligned) (opening_loss t zone) refl

managing_loss : (op : ZoneOp) (t : Truth) (zone : Zone) → refuses_loss (managing op t zone) ≡ false
managing_loss Open t zone = opening_loss t zone
managing_loss Close t zone = refl
managing_loss Reset t zone = refl
managing_loss Finish t zone = refl

refusal_loss : (t : Truth) (order : Order) → refuses_loss (refusal t order) ≡ false
refusal_loss t (ReadAt z at n) = reading_loss (zone_at t z).cond _ (either_loss _ (Some BeyondWp) None refl refl)
refusal_loss t (WriteAt z at bytes) = changing_loss (zone_at t z).cond _ (writing_loss (zone_at t z).kind t (zone_at t z) at)
refusal_loss t (Manage z op) = changing_loss (zone_at t z).cond _ (managing_loss op t (zone_at t z))
refusal_loss t FlushAll = refl
refusal_loss t (ReportFrom first n) = refl

abbrev pub tells_loss : Reply → Bool
tells_loss (Ok unit) = false
tells_loss (Err error) = is_loss error

unless_loss : (r : Option DevError) (t : Truth) (order : Order) → refuses_loss r ≡ false → tells_loss (done_unless r t order).reply ≡ false
unless_loss None t order h = refl
unless_loss (Some error) t order h = h

pub done_loss : (t : Truth) (order : Order) → tells_loss (done t order).reply ≡ false
unfolding done
done_loss t order = unless_loss (refusal t order) t order (refusal_loss t order)

as_fault_loss : (r : Reply) → tells_loss r ≡ false → tells_loss (as_fault r) ≡ false
as_fault_loss (Ok unit) h = refl
as_fault_loss (Err error) h = h

either_done : (b : Bool) (x y : Done) → tells_loss x.reply ≡ false → tells_loss y.reply ≡ false → tells_loss (if b then x else y).reply ≡ false
either_done true x y h k = h
either_done false x y h k = k

faulted_loss : (t : Truth) (order : Order) (fault : FaultSpec) → tells_loss (faulted t order fault).reply ≡ false
unfolding faulted
faulted_loss t (WriteAt z at bytes) fault = either_done _ (record { reply = Err Fault; truth = t }) _ refl (as_fault_loss (done t _).reply (done_loss t _))
faulted_loss t FlushAll fault = refl
faulted_loss t (ReadAt z at n) fault = refl
faulted_loss t (Manage z op) fault = refl
faulted_loss t (ReportFrom first n) fault = refl

struck_loss : (t : Truth) (pending rest : List FaultSpec) (armed : Option Armed) (order : Order) (o : Option FaultSpec) → tells_loss (struck t pending rest armed order o).reply ≡ false
struck_loss t pending rest armed order None = done_loss t order
struck_loss t pending rest armed order (Some fault) = faulted_loss t order fault

pub unarmed_loss : (w : World) (order : Order) (armed : Option Armed) → tells_loss (unarmed w order armed).reply ≡ false
unarmed_loss w order armed = struck_loss w.truth w.pending _ armed order (met (command_of order) (zones_of order) w.pending)

pub no_loss_told : (r : Reply) → tells_loss r ≡ false → r ≡ Err PowerLost → ⊥
no_loss_told r h is = let no : true ≡ false = sym (ap tells_loss is) ∙ h in false≢true (sym no)
