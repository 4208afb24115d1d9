-- What sequential zones keep while fitting events come to a sound device.
use Rattle.std.proofs.Common.{◌≡◌, ℕ, ◌+◌, true, false, List, [], ◌∷◌, ◌++◌, length, refl, sym, ap, ◌∙◌, subst, arith, length-append}
use Rattle.std.specs.List.{All}
use Rattle.std.proofs.lemmas.List.{get_or_append_left, get_or-append-add}
use Rattle.std.proofs.lemmas.List.Elements.{All-head, All-tail}
use Rattle.zn_truth.specs.Truth.{Geometry, Truth, zone_at, IsSound}
use Rattle.zn_truth.specs.World.{World, geometry_of}
use Rattle.zn_remains.specs.Events.{Event, PowerBack, after_event, after_events, FitsIn, PowerGoes}
use Rattle.zn_remains.specs.Laws.{KeepThrough, EventsKeep}
use Rattle.zn_remains.specs.Remaining.{IsSequentialZone, StaysDurable, AllRemain, spares, is_dark}
use Rattle.zn_remains.proofs.Powers.{dark_stays}
use Rattle.zn_remains.proofs.Remains.{loss_keeps}
use Rattle.zn_remains.proofs.Standing.{Stands, stands_event, stands_events, after-append, sequential_later}
use Rattle.zn_remains.proofs.Stays.{durable_stays}
use Rattle.zn_remains.proofs.Zones.{stays, stays_both}

-- ---- parts of a list

module _ {X : Type 0} (P : X → Type 0) where
  pub All-front : (xs ys : List X) → All P (xs ++ ys) → All P xs
  All-front xs ys all = λ k d below. subst P (get_or_append_left xs ys d k below) (all k d (omega (arith, below, length-append xs ys)))

  pub All-back : (xs ys : List X) → All P (xs ++ ys) → All P ys
  All-back xs ys all = λ k d below. subst P (get_or-append-add xs ys k d) (all (length xs + k) d (omega (arith, below, length-append xs ys)))

-- ---- while the power is off

dark_truth : (w : World) (events : List Event) → w.powered ≡ false → All (λ event. is_dark event ≡ true) events → (after_events w events).truth ≡ w.truth
dark_truth w [] off dark = refl
dark_truth w (event ∷ events) off dark =
    dark_truth (after_event w event) events (dark_stays.off w event off (All-head (λ (e : Event). is_dark e ≡ true) event events dark)) (All-tail (λ (e : Event). is_dark e ≡ true) event events dark)
    ∙ dark_stays.truth w event off

dark_off : (w : World) (events : List Event) → w.powered ≡ false → All (λ event. is_dark event ≡ true) events → (after_events w events).powered ≡ false
dark_off w [] off dark = off
dark_off w (event ∷ events) off dark =
    dark_off (after_event w event) events (dark_stays.off w event off (All-head (λ (e : Event). is_dark e ≡ true) event events dark)) (All-tail (λ (e : Event). is_dark e ≡ true) event events dark)

-- the power goes at an event, and after others comes back
returned : (w : World) (event : Event) (dark : List Event) → IsSound w.truth → FitsIn (geometry_of w) event → PowerGoes w event → All (λ e. is_dark e ≡ true) dark
    → AllRemain w.truth event (after_events (after_event w event) (dark ++ PowerBack ∷ [])).truth
returned w event dark sound fits goes is_dark_all =
    let v = after_event w event in
    let same : (after_events v (dark ++ PowerBack ∷ [])).truth ≡ v.truth =
    ap (λ (u : World). u.truth) (after-append v dark (PowerBack ∷ []))
    ∙ dark_stays.truth (after_events v dark) PowerBack (dark_off v dark goes.off is_dark_all)
    ∙ dark_truth v dark goes.off is_dark_all in
    subst (λ (t : Truth). AllRemain w.truth event t) (sym same) (loss_keeps w event sound fits goes)

-- ---- what is durable

stays_through : (g : Geometry) (w : World) (events : List Event) (z : ℕ) → Stands g w → All (FitsIn g) events → IsSequentialZone w.truth z → All (λ event. spares z event ≡ true) events
    → StaysDurable (zone_at w.truth z) (zone_at (after_events w events).truth z)
stays_through g w [] z stands fit is spared = stays (zone_at w.truth z)
stays_through g w (event ∷ events) z stands fit is spared =
    let v = after_event w event in
    let fits = All-head (FitsIn g) event events fit in
    let later = stands_event g w event stands fits in
    stays_both (zone_at w.truth z) (zone_at v.truth z) (zone_at (after_events v events).truth z)
    (durable_stays w event z stands.sound (subst (λ (h : Geometry). FitsIn h event) (sym stands.geometry) fits) is (All-head (λ (e : Event). spares z e ≡ true) event events spared))
    (stays_through g v events z later (All-tail (FitsIn g) event events fit) (sequential_later g w v z stands later is) (All-tail (λ (e : Event). spares z e ≡ true) event events spared))

-- ---- all of it

-- the parts of events that fit
front_fits : (g : Geometry) (events before after : List Event) → events ≡ before ++ after → All (FitsIn g) events → All (FitsIn g) before
front_fits g events before after parts fit = All-front (FitsIn g) before after (subst (λ (es : List Event). All (FitsIn g) es) parts fit)

back_fits : (g : Geometry) (events before after : List Event) → events ≡ before ++ after → All (FitsIn g) events → All (FitsIn g) after
back_fits g events before after parts fit = All-back (FitsIn g) before after (subst (λ (es : List Event). All (FitsIn g) es) parts fit)

-- an event among others fits the device that it comes to
fits_there : (g : Geometry) (w : World) (event : Event) → Stands g w → FitsIn g event → FitsIn (geometry_of w) event
fits_there g w event stands fits = subst (λ (h : Geometry). FitsIn h event) (sym stands.geometry) fits

pub kept_through : (g : Geometry) (w : World) (events : List Event) → Stands g w → All (FitsIn g) events → KeepThrough w events
kept_through g w events stands fit = record {
  losses = λ before event after parts goes.
      let held = after_events w before in
      let there = stands_events g w before stands (front_fits g events before (event ∷ after) parts fit) in
      let fits = All-head (FitsIn g) event after (back_fits g events before (event ∷ after) parts fit) in
      subst (λ (v : World). AllRemain held.truth event v.truth) (sym (after-append w before (event ∷ []))) (loss_keeps held event there.sound (fits_there g held event there fits) goes);
  dark = λ before dark after parts off is.
      ap (λ (v : World). v.truth) (after-append w before dark) ∙ dark_truth (after_events w before) dark off is;
  returns = λ before event dark after parts goes is.
      let held = after_events w before in
      let behind = dark ++ (PowerBack ∷ after) in
      let there = stands_events g w before stands (front_fits g events before (event ∷ behind) parts fit) in
      let fits = All-head (FitsIn g) event behind (back_fits g events before (event ∷ behind) parts fit) in
      subst (λ (v : World). AllRemain held.truth event v.truth) (sym (after-append w before (event ∷ (dark ++ PowerBack ∷ [])))) (returned held event dark there.sound (fits_there g held event there fits) goes is);
  stays = λ before between after z parts is spared.
      let held = after_events w before in
      let there = stands_events g w before stands (front_fits g events before (between ++ after) parts fit) in
      let fits = All-front (FitsIn g) between after (back_fits g events before (between ++ after) parts fit) in
      subst (λ (v : World). StaysDurable (zone_at held.truth z) (zone_at v.truth z)) (sym (after-append w before between))
      (stays_through g held between z there fits (sequential_later g w held z stands there is) spared);
}

pub events_keep : EventsKeep
events_keep w events sound fit = kept_through (geometry_of w) w events (record { sound = sound; geometry = refl }) fit
