-- What the answers tell of the power.
use Rattle.std.proofs.Common.{◌≡◌, Bool, true, false, List, ◌∷◌, Option, Some, None, Ok, Err, refl, sym, ap, ◌∙◌, inl, inr}
use Rattle.std.specs.Prelude.{◌⊎◌, ◌↔◌, not, if◌then◌else◌, IsErrOf}
use Rattle.std.proofs.lemmas.Bool.{false≢true}
use Rattle.zn_truth.specs.declared.DevError.TheVariants.{ReadOnly, Offline, Unaligned, TooManyActive, TooManyOpen, BeyondWp, Fault, PowerLost, Broken, Memory}
use Rattle.zn_truth.specs.declared.FaultSpec.{FaultSpec}
use Rattle.zn_truth.specs.declared.Armed.{Armed}
use Rattle.zn_truth.specs.Orders.{Order, Reply}
use Rattle.zn_truth.specs.World.{World, Outcome, issue, issue_armed, unarmed, unmet, met, struck, command_of, zones_of, meets, powered_off}
use Rattle.zn_truth.specs.Obeying.{is_answered}
use Rattle.zn_truth.proofs.LossReplies.{tells_loss, unarmed_loss}
use Rattle.zn_truth.specs.OrderLists.{issue_all}
use Rattle.zn_truth.proofs.OrderLists.{no_power, no_power_in_all}
use Rattle.zn_device.specs.Causes.{is_refused}
use Rattle.zn_device.proofs.Ordered.{done_powered}
use Rattle.zn_device.specs.States.{DeviceState, Commanded, Ordered}

abbrev TellsPower : Outcome → Type 0
TellsPower o = tells_loss o.reply ≡ not o.world.powered

struck_on : (w : World) (rest : List FaultSpec) (armed : Option Armed) (order : Order) (o : Option FaultSpec) → (struck w.truth w.pending rest armed order o).world.powered ≡ true
struck_on w rest armed order None = refl
struck_on w rest armed order (Some fault) = refl

unarmed_tells : (w : World) (order : Order) (armed : Option Armed) → TellsPower (unarmed w order armed)
unarmed_tells w order armed = unarmed_loss w order armed ∙ sym (ap not (struck_on w (unmet (command_of order) (zones_of order) w.pending) armed order (met (command_of order) (zones_of order) w.pending)))

either_tells : (b : Bool) (x y : Outcome) → TellsPower x → TellsPower y → TellsPower (if b then x else y)
either_tells true x y h k = h
either_tells false x y h k = k

armed_tells : (w : World) (order : Order) (o : Option Armed) → TellsPower (issue_armed w order o)
armed_tells w order None = unarmed_tells w order None
armed_tells w order (Some armed) =
    either_tells (meets (command_of order) (zones_of order) armed.command armed.zone.0) (powered_off w.truth w.pending armed order) (unarmed w order (Some armed)) refl (unarmed_tells w order (Some armed))

powered_tells : (b : Bool) (w : World) (x : Outcome) → w.powered ≡ b → TellsPower x → TellsPower (if b then x else record { reply = Err PowerLost; world = w })
powered_tells true w x is h = h
powered_tells false w x is h = sym (ap not is)

issue_tells : (w : World) (order : Order) → TellsPower (issue w order)
unfolding issue
issue_tells w order = powered_tells w.powered w (issue_armed w order w.armed) refl (armed_tells w order w.armed)

of_answer : (b : Bool) → (b ≡ true) ⊎ (b ≡ false)
of_answer true = inl refl
of_answer false = inr refl

unanswered : (r : Reply) → is_answered r ≡ false → (r ≡ Err Broken) ⊎ (r ≡ Err Memory)
unanswered (Ok unit) h = absurd (cc)
unanswered (Err ReadOnly) h = absurd (cc)
unanswered (Err Offline) h = absurd (cc)
unanswered (Err Unaligned) h = absurd (cc)
unanswered (Err TooManyActive) h = absurd (cc)
unanswered (Err TooManyOpen) h = absurd (cc)
unanswered (Err BeyondWp) h = absurd (cc)
unanswered (Err Fault) h = absurd (cc)
unanswered (Err PowerLost) h = absurd (cc)
unanswered (Err Broken) h = inl refl
unanswered (Err Memory) h = inr refl

is_lost : (r : Reply) → tells_loss r ≡ true → r ≡ Err PowerLost
is_lost (Ok unit) h = absurd (cc)
is_lost (Err ReadOnly) h = absurd (cc)
is_lost (Err Offline) h = absurd (cc)
is_lost (Err Unaligned) h = absurd (cc)
is_lost (Err TooManyActive) h = absurd (cc)
is_lost (Err TooManyOpen) h = absurd (cc)
is_lost (Err BeyondWp) h = absurd (cc)
is_lost (Err Fault) h = absurd (cc)
is_lost (Err PowerLost) h = refl
is_lost (Err Broken) h = absurd (cc)
is_lost (Err Memory) h = absurd (cc)

not_true : (b : Bool) → true ≡ not b → b ≡ false
not_true true h = absurd (false≢true (sym h))
not_true false h = refl

-- a command tells the power, unless memory is wanting
tells_power : (order : Order) (r : Reply) (s t : DeviceState) → Commanded order r s t → (r ≡ Err Memory → ⊥) → tells_loss r ≡ not t.world.powered
tells_power order r s t h other = elim (of_answer (is_answered r)) [
  | inl answered ↦ ap tells_loss (h.obeys.reply answered) ∙ issue_tells s.world order ∙ sym (ap (λ (w : World). not w.powered) (h.obeys.world answered))
  | inr nothing ↦ elim (unanswered r nothing) [
    | inl broken ↦ ap tells_loss broken ∙ sym (ap not (h.caused.still_powered broken))
    | inr wanting ↦ absurd (other wanting)
  ]
]

pub loss_is_told : (order : Order) (r : Reply) (s t : DeviceState) → Commanded order r s t → (IsErrOf r Memory → ⊥) → IsErrOf r PowerLost ↔ t.world.powered ≡ false
loss_is_told order r s t h other = (λ lost. not_true t.world.powered (sym (ap tells_loss lost) ∙ tells_power order r s t h other), λ off. is_lost r (tells_power order r s t h other ∙ ap not off))

pub no_power_told : (order : Order) (r : Reply) (s t : DeviceState) → Commanded order r s t → s.world.powered ≡ false → IsErrOf r PowerLost ⊎ IsErrOf r Memory
no_power_told order r s t h off = elim (of_answer (is_answered r)) [
  | inl answered ↦ inl (h.obeys.reply answered ∙ ap (λ (o : Outcome). o.reply) (no_power s.world order off))
  | inr nothing ↦ elim (unanswered r nothing) [
    | inl broken ↦ absurd (false≢true (sym off ∙ h.caused.powered broken))
    | inr wanting ↦ inr wanting
  ]
]

-- ---- commands one after another

-- commands that are all done had power, and have it
all_done_powered : (order : Order) (orders : List Order) (s t : DeviceState) → Ordered (order ∷ orders) (Ok tt) s t → t.world.powered ≡ false → ⊥
all_done_powered order orders s t h off =
    let before : s.world.powered ≡ false = sym (done_powered (order ∷ orders) s t h) ∙ off in
    let lost : (issue_all s.world (order ∷ orders)).reply ≡ Err PowerLost = ap (λ (o : Outcome). o.reply) (no_power_in_all s.world order orders before) in
    let is : Ok tt ≡ Err PowerLost = h.obeys.reply refl ∙ lost in
    cc

-- no answer that is done tells a loss
none_lost : (unit : Unit {0}) (r : Reply) → r ≡ Ok unit → IsErrOf r PowerLost → ⊥
none_lost unit r done is = cc

all_tell : (order : Order) (orders : List Order) (r : Reply) (s t : DeviceState) → Ordered (order ∷ orders) r s t → (IsErrOf r Memory → ⊥) → IsErrOf r PowerLost ↔ t.world.powered ≡ false
all_tell order orders (Ok unit) s t h other = (λ lost. absurd (none_lost unit (Ok unit) refl lost), λ off. absurd (all_done_powered order orders s t h off))
all_tell order orders (Err error) s t h other =
    let at = h.stopped error refl in
    loss_is_told at.order (Err error) at.middle t at.last other

pub loss_is_told_in_all : (order : Order) (orders : List Order) (r : Reply) (s t : DeviceState) → Ordered (order ∷ orders) r s t → (IsErrOf r Memory → ⊥)
    → IsErrOf r PowerLost ↔ t.world.powered ≡ false
loss_is_told_in_all order orders r s t h other = all_tell order orders r s t h other

-- ---- refusals

pub refusal_by_name : (order : Order) (r : Reply) (s t : DeviceState) → Commanded order r s t → s.keeps_conditions ≡ true → is_refused (issue s.world order).reply ≡ true
    → (r ≡ (issue s.world order).reply) ⊎ IsErrOf r Memory
refusal_by_name order r s t h keeps refused = elim (of_answer (is_answered r)) [
  | inl answered ↦ inl (h.obeys.reply answered)
  | inr nothing ↦ elim (unanswered r nothing) [
    | inl broken ↦ absurd (h.named keeps refused broken)
    | inr wanting ↦ inr wanting
  ]
]
