-- Writes and commands that manage zones: the machine stays sound, and its facts become those of the truth.
use Rattle.std.proofs.Common.{◌≡◌, ℕ, ◌+◌, ◌*◌, ◌<◌, ◌≤◌, Bool, true, false, not, List, length, map, set, replicate, Option, Some, None, Result, refl, sym, ap, ◌∙◌, subst, arith}
use Rattle.std.specs.Prelude.{OnOk, OnErr, ◌&&◌, ◌==◌, nat_lt, IsTrue, if◌then◌else◌}
use Rattle.std.proofs.lemmas.Bool.{false≢true}
use Rattle.std.proofs.lemmas.Bool.Decides.{nat_tests}
use Rattle.std.proofs.lemmas.List.{map-set, set-get_or}
use Rattle.zn_truth.specs.declared.Kind.{Kind}
use Rattle.zn_truth.specs.declared.Kind.TheVariants.{Conventional, Sequential}
use Rattle.zn_truth.specs.declared.Cond.{Cond}
use Rattle.zn_truth.specs.declared.Cond.TheVariants.{Good, ReadOnly as read_only, Offline as offline}
use Rattle.zn_truth.specs.declared.Shape.{Shape}
use Rattle.zn_truth.specs.declared.ZoneOp.{ZoneOp}
use Rattle.zn_truth.specs.declared.ZoneOp.TheVariants.{Open as do_open, Close as do_close, Reset as do_reset, Finish as do_finish}
use Rattle.zn_zone.specs.declared.ZoneError.{ZoneError}
use Rattle.zn_zone.specs.declared.ZoneError.TheVariants.{Unaligned}
use Rattle.zn_truth.specs.Truth.{Zone, room, zone_at}
use Rattle.zn_truth.specs.Orders.{Order, Manage, written as truth_written, managed as truth_managed}
use Rattle.zn_zone.specs.declared.Raw.{Raw}
use Rattle.zn_zone.specs.declared.Raw.TheVariants.{NotWp, Empty, ImplicitOpen, ExplicitOpen, Closed, Full, ReadOnly, Offline}
use Rattle.zn_zone.specs.declared.table.Step.{Step}
use Rattle.zn_zone.specs.declared.table.Step.TheVariants.{Write, Open, Close, Reset, Finish}
use Rattle.zn_zone.specs.declared.state.State.{State}
use Rattle.zn_zone.specs.Facts.{ZoneFacts, Facts, zone_facts, bare_zone, bare, with_facts, write_of, refusal_by, after}
use Rattle.zn_zone.specs.Table.{is_explicit, cond_of, next, needs}
use Rattle.zn_zone.specs.Machine.{Machine, state_at, facts_in, facts, dev_error, geometry_in, no_state, with_places, no_places, unless, refusal_in, changing, appending, write_refusal, manage_refusal, written, written_by, managed, stepped, step_of, held_after, fits, IsSoundMachine}
use Rattle.zn_zone.proofs.ByFacts.{facts_of-with_zone_bare, after-none, after-some, blocks-zeros}
use Rattle.zn_zone.proofs.Refusals.{zone_at-facts, manage_refused, write_refused}
use Rattle.zn_zone.proofs.Steps.{step_sound, geometry-stepped, facts-with_places}

-- ---- the zone fits afterwards

fits_opened : (shape : Shape) (raw : Raw) (held : ℕ) → IsTrue (fits shape Sequential raw held) → cond_of raw ≡ Good → 0 < shape.zone_capacity → IsTrue (fits shape Sequential (next raw Open) held)
fits_opened shape NotWp held fit good some = absurd (false≢true fit)
fits_opened shape Empty held fit good some = grind (arith, nat_tests)
fits_opened shape ImplicitOpen held fit good some = grind (arith, nat_tests)
fits_opened shape ExplicitOpen held fit good some = fit
fits_opened shape Closed held fit good some = grind (arith, nat_tests)
fits_opened shape Full held fit good some = fit
fits_opened shape ReadOnly held fit good some = cc
fits_opened shape Offline held fit good some = cc

fits_closed : (shape : Shape) (raw : Raw) (held : ℕ) → IsTrue (fits shape Sequential raw held) → IsTrue (fits shape Sequential (next raw (Close (nat_lt 0 held))) held)
fits_closed shape NotWp held fit = absurd (false≢true fit)
fits_closed shape Empty held fit = fit
fits_closed shape ImplicitOpen held fit = fit
fits_closed shape ExplicitOpen held fit = grind (arith, nat_tests)
fits_closed shape Closed held fit = fit
fits_closed shape Full held fit = fit
fits_closed shape ReadOnly held fit = fit
fits_closed shape Offline held fit = fit

fits_reset : (shape : Shape) (raw : Raw) (held : ℕ) → IsTrue (fits shape Sequential raw held) → cond_of raw ≡ Good → IsTrue (fits shape Sequential (next raw Reset) 0)
fits_reset shape NotWp held fit good = absurd (false≢true fit)
fits_reset shape Empty held fit good = refl
fits_reset shape ImplicitOpen held fit good = refl
fits_reset shape ExplicitOpen held fit good = refl
fits_reset shape Closed held fit good = refl
fits_reset shape Full held fit good = refl
fits_reset shape ReadOnly held fit good = cc
fits_reset shape Offline held fit good = cc

fits_finished : (shape : Shape) (raw : Raw) (held : ℕ) → IsTrue (fits shape Sequential raw held) → cond_of raw ≡ Good → IsTrue (fits shape Sequential (next raw Finish) shape.zone_capacity)
fits_finished shape NotWp held fit good = absurd (false≢true fit)
fits_finished shape Empty held fit good = grind (arith, nat_tests)
fits_finished shape ImplicitOpen held fit good = grind (arith, nat_tests)
fits_finished shape ExplicitOpen held fit good = grind (arith, nat_tests)
fits_finished shape Closed held fit good = grind (arith, nat_tests)
fits_finished shape Full held fit good = grind (arith, nat_tests)
fits_finished shape ReadOnly held fit good = cc
fits_finished shape Offline held fit good = cc

fits_managed : (op : ZoneOp) (shape : Shape) (raw : Raw) (held : ℕ) → IsTrue (fits shape Sequential raw held) → cond_of raw ≡ Good → 0 < shape.zone_capacity
    → IsTrue (fits shape Sequential (next raw (step_of op held)) (held_after op shape held))
fits_managed do_open shape raw held fit good some = fits_opened shape raw held fit good some
fits_managed do_close shape raw held fit good some = fits_closed shape raw held fit
fits_managed do_reset shape raw held fit good some = fits_reset shape raw held fit good
fits_managed do_finish shape raw held fit good some = fits_finished shape raw held fit good

fits_written : (shape : Shape) (raw : Raw) (held blocks : ℕ) → IsTrue (fits shape Sequential raw held) → cond_of raw ≡ Good → 1 ≤ blocks → held + blocks ≤ shape.zone_capacity
    → IsTrue (fits shape Sequential (next raw (Write (held + blocks == shape.zone_capacity))) (held + blocks))
fits_written shape NotWp held blocks fit good some room = absurd (false≢true fit)
fits_written shape Empty held blocks fit good some room = grind (arith, nat_tests)
fits_written shape ImplicitOpen held blocks fit good some room = grind (arith, nat_tests)
fits_written shape ExplicitOpen held blocks fit good some room = grind (arith, nat_tests)
fits_written shape Closed held blocks fit good some room = grind (arith, nat_tests)
fits_written shape Full held blocks fit good some room = grind (arith, nat_tests)
fits_written shape ReadOnly held blocks fit good some room = cc
fits_written shape Offline held blocks fit good some room = cc

-- ---- the zone has the facts of the truth afterwards

-- the facts of a good zone
good_facts : Kind → ℕ → Bool → ZoneFacts
good_facts kind held explicit = record { kind = kind; cond = Good; held = held; explicit = explicit }

state : Kind → Raw → ℕ → State
state kind raw held = record { kind = kind; raw = raw; held = held }

facts_opened : (shape : Shape) (kind : Kind) (raw : Raw) (held : ℕ) → IsTrue (fits shape Sequential raw held) → cond_of raw ≡ Good → 0 < shape.zone_capacity
    → facts_in (state kind (next raw Open) held) ≡ zone_facts (truth_managed do_open shape (bare_zone (facts_in (state kind raw held))))
unfolding state good_facts
facts_opened shape kind NotWp held fit good some = absurd (false≢true fit)
facts_opened shape kind Empty held fit good some = ap (good_facts kind held) (grind (arith, nat_tests))
facts_opened shape kind ImplicitOpen held fit good some = ap (good_facts kind held) (grind (arith, nat_tests))
facts_opened shape kind ExplicitOpen held fit good some = refl
facts_opened shape kind Closed held fit good some = ap (good_facts kind held) (grind (arith, nat_tests))
facts_opened shape kind Full held fit good some = ap (good_facts kind held) (grind (arith, nat_tests))
facts_opened shape kind ReadOnly held fit good some = cc
facts_opened shape kind Offline held fit good some = cc

facts_closed : (shape : Shape) (kind : Kind) (raw : Raw) (held : ℕ) → cond_of raw ≡ Good
    → facts_in (state kind (next raw (Close (nat_lt 0 held))) held) ≡ zone_facts (truth_managed do_close shape (bare_zone (facts_in (state kind raw held))))
unfolding state good_facts
facts_closed shape kind NotWp held good = refl
facts_closed shape kind Empty held good = refl
facts_closed shape kind ImplicitOpen held good = refl
facts_closed shape kind ExplicitOpen held good = by_test (nat_lt 0 held)
  where
    by_test : (b : Bool) → facts_in (state kind (if b then Closed else Empty) held) ≡ good_facts kind held false
    by_test true = refl
    by_test false = refl
facts_closed shape kind Closed held good = refl
facts_closed shape kind Full held good = refl
facts_closed shape kind ReadOnly held good = cc
facts_closed shape kind Offline held good = cc

facts_reset : (shape : Shape) (kind : Kind) (raw : Raw) (held : ℕ) → IsTrue (fits shape Sequential raw held) → cond_of raw ≡ Good
    → facts_in (state kind (next raw Reset) 0) ≡ zone_facts (truth_managed do_reset shape (bare_zone (facts_in (state kind raw held))))
unfolding state good_facts
facts_reset shape kind NotWp held fit good = absurd (false≢true fit)
facts_reset shape kind Empty held fit good = refl
facts_reset shape kind ImplicitOpen held fit good = refl
facts_reset shape kind ExplicitOpen held fit good = refl
facts_reset shape kind Closed held fit good = refl
facts_reset shape kind Full held fit good = refl
facts_reset shape kind ReadOnly held fit good = cc
facts_reset shape kind Offline held fit good = cc

facts_finished : (shape : Shape) (kind : Kind) (raw : Raw) (held : ℕ) → IsTrue (fits shape Sequential raw held) → cond_of raw ≡ Good
    → facts_in (state kind (next raw Finish) shape.zone_capacity) ≡ zone_facts (truth_managed do_finish shape (bare_zone (facts_in (state kind raw held))))
unfolding state good_facts
facts_finished shape kind NotWp held fit good = absurd (false≢true fit)
facts_finished shape kind Empty held fit good = refl
facts_finished shape kind ImplicitOpen held fit good = refl
facts_finished shape kind ExplicitOpen held fit good = refl
facts_finished shape kind Closed held fit good = refl
facts_finished shape kind Full held fit good = refl
facts_finished shape kind ReadOnly held fit good = cc
facts_finished shape kind Offline held fit good = cc

facts_managed : (op : ZoneOp) (shape : Shape) (kind : Kind) (raw : Raw) (held : ℕ) → IsTrue (fits shape Sequential raw held) → cond_of raw ≡ Good → 0 < shape.zone_capacity
    → facts_in (state kind (next raw (step_of op held)) (held_after op shape held)) ≡ zone_facts (truth_managed op shape (bare_zone (facts_in (state kind raw held))))
facts_managed do_open shape kind raw held fit good some = facts_opened shape kind raw held fit good some
facts_managed do_close shape kind raw held fit good some = facts_closed shape kind raw held good
facts_managed do_reset shape kind raw held fit good some = facts_reset shape kind raw held fit good
facts_managed do_finish shape kind raw held fit good some = facts_finished shape kind raw held fit good

-- the facts after a write of so many blocks at the end
appended_facts : Kind → Shape → Raw → ℕ → ZoneFacts
appended_facts kind shape raw held = good_facts kind held (is_explicit raw && not (held == shape.zone_capacity))

written_raw : (shape : Shape) (kind : Kind) (raw : Raw) (held : ℕ) → IsTrue (fits shape Sequential raw held) → cond_of raw ≡ Good → (end : ℕ)
    → facts_in (state kind (next raw (Write (end == shape.zone_capacity))) end) ≡ appended_facts kind shape raw end
unfolding state good_facts appended_facts
written_raw shape kind NotWp held fit good end = absurd (false≢true fit)
written_raw shape kind Empty held fit good end = by_test (end == shape.zone_capacity)
  where
    by_test : (b : Bool) → facts_in (state kind (if b then Full else ImplicitOpen) end) ≡ good_facts kind end false
    by_test true = refl
    by_test false = refl
written_raw shape kind ImplicitOpen held fit good end = by_test (end == shape.zone_capacity)
  where
    by_test : (b : Bool) → facts_in (state kind (if b then Full else ImplicitOpen) end) ≡ good_facts kind end false
    by_test true = refl
    by_test false = refl
written_raw shape kind ExplicitOpen held fit good end = by_test (end == shape.zone_capacity)
  where
    by_test : (b : Bool) → facts_in (state kind (if b then Full else ExplicitOpen) end) ≡ good_facts kind end (not b)
    by_test true = refl
    by_test false = refl
written_raw shape kind Closed held fit good end = by_test (end == shape.zone_capacity)
  where
    by_test : (b : Bool) → facts_in (state kind (if b then Full else ImplicitOpen) end) ≡ good_facts kind end false
    by_test true = refl
    by_test false = refl
written_raw shape kind Full held fit good end = refl
written_raw shape kind ReadOnly held fit good end = cc
written_raw shape kind Offline held fit good end = cc

-- ---- commands

changing_none : (c : Cond) (r : Option ZoneError) → changing c r ≡ None → (c ≡ Good) × (r ≡ None)
changing_none Good r h = (refl, h)
changing_none read_only r h = cc
changing_none offline r h = cc

facts-set : (m : Machine) (zones : List State) (z : ℕ) (new : State) → map facts_in zones ≡ map facts_in m.zones → facts (record m { zones = set zones z new }) ≡ with_facts (facts m) z (facts_in new)
facts-set m zones z new same =
    ap (λ zs. let f : Facts = record { shape = m.shape; zones = zs } in f) (map-set facts_in zones z new ∙ ap (λ (fs : List ZoneFacts). set fs z (facts_in new)) same)

-- the facts after a step of a zone
facts-stepped : (m : Machine) (z : ℕ) (step : Step) (held : ℕ) → facts (record m { zones = stepped m.shape m.zones z step held }) ≡ with_facts (facts m) z (facts_in (state (state_at m z).kind (next (state_at m z).raw step) held))
unfolding state
facts-stepped m z step held = facts-set m (with_places m.shape m.zones (needs (state_at m z).raw step)) z (record (state_at m z) { raw = next (state_at m z).raw step; held = held }) (facts-with_places m.shape m.zones (needs (state_at m z).raw step))

sequential_fits : (m : Machine) (z : ℕ) → IsSoundMachine m → z < length m.zones → (state_at m z).kind ≡ Sequential → IsTrue (fits m.shape Sequential (state_at m z).raw (state_at m z).held)
sequential_fits m z sound below kind = subst (λ (k : Kind). IsTrue (fits m.shape k (state_at m z).raw (state_at m z).held)) kind (sound.zones z below)

none_is : (r : Option ZoneError) → r ≡ None → refusal_in (unless r) ≡ None
none_is r h = ap (λ (q : Option ZoneError). refusal_in (unless q)) h

-- A command that manages a zone and isn't refused keeps the machine sound.
pub managed_sound : (m : Machine) (z : ℕ) (op : ZoneOp) → IsSoundMachine m → z < length m.zones → (state_at m z).kind ≡ Sequential → manage_refusal m z op ≡ None → IsSoundMachine (managed m z op)
managed_sound m z op sound below kind none =
    let free = changing_none (cond_of (state_at m z).raw) (no_places m.shape m.zones (needs (state_at m z).raw (step_of op (state_at m z).held))) none in
    step_sound m z (step_of op (state_at m z).held) (held_after op m.shape (state_at m z).held) sound below free.1
    (subst (λ (k : Kind). IsTrue (fits m.shape k (next (state_at m z).raw (step_of op (state_at m z).held)) (held_after op m.shape (state_at m z).held))) (sym kind)
    (fits_managed op m.shape (state_at m z).raw (state_at m z).held (sequential_fits m z sound below kind) free.0 sound.capacity))

-- It makes of the facts what the truth's command does.
pub managed_facts : (m : Machine) (z : ℕ) (op : ZoneOp) → IsSoundMachine m → z < length m.zones → (state_at m z).kind ≡ Sequential → manage_refusal m z op ≡ None
    → facts (managed m z op) ≡ after (facts m) (Manage z op)
unfolding state
managed_facts m z op sound below kind none =
    let free = changing_none (cond_of (state_at m z).raw) (no_places m.shape m.zones (needs (state_at m z).raw (step_of op (state_at m z).held))) none in
    facts-stepped m z (step_of op (state_at m z).held) (held_after op m.shape (state_at m z).held)
    ∙ ap (with_facts (facts m) z) (facts_managed op m.shape (state_at m z).kind (state_at m z).raw (state_at m z).held (sequential_fits m z sound below kind) free.0 sound.capacity)
    ∙ ap (λ (zone : Zone). with_facts (facts m) z (zone_facts (truth_managed op m.shape zone))) (sym (zone_at-facts m z))
    ∙ sym (facts_of-with_zone_bare (facts m) z (truth_managed op m.shape (zone_at (bare (facts m)) z)))
    ∙ sym (after-none (facts m) (Manage z op) (sym (manage_refused m z op sound below kind) ∙ none_is (manage_refusal m z op) none))

-- ---- writes

needs_write : (raw : Raw) (fills : Bool) → needs raw (Write fills) ≡ needs raw (Write false)
needs_write NotWp fills = refl
needs_write Empty fills = refl
needs_write ImplicitOpen fills = refl
needs_write ExplicitOpen fills = refl
needs_write Closed fills = refl
needs_write Full fills = refl
needs_write ReadOnly fills = refl
needs_write Offline fills = refl

-- a sequential write that isn't refused is at the end and has its places
appending_none : (m : Machine) (z at : ℕ) → appending Sequential m.shape m.zones z at ≡ None → ((state_at m z).held ≡ at) × (no_places m.shape m.zones (needs (state_at m z).raw (Write false)) ≡ None)
appending_none m z at h = by_test ((state_at m z).held == at) refl h
  where
    by_test : (b : Bool) → ((state_at m z).held == at) ≡ b → (if b then no_places m.shape m.zones (needs (state_at m z).raw (Write false)) else Some Unaligned) ≡ None
        → ((state_at m z).held ≡ at) × (no_places m.shape m.zones (needs (state_at m z).raw (Write false)) ≡ None)
    by_test true is k = (grind (arith, nat_tests), k)
    by_test false is k = cc

-- the zone after a write at its end
end_of : Machine → ℕ → ℕ → ℕ
end_of m z blocks = (state_at m z).held + blocks

written_kind_sound : (kind : Kind) (m : Machine) (z at blocks : ℕ) → IsSoundMachine m → z < length m.zones → (state_at m z).kind ≡ kind → 1 ≤ blocks → at + blocks ≤ room m.shape kind → cond_of (state_at m z).raw ≡ Good
    → appending kind m.shape m.zones z at ≡ None → IsSoundMachine (written_by kind m z blocks)
written_kind_sound Conventional m z at blocks sound below kind some fit good none = sound
written_kind_sound Sequential m z at blocks sound below kind some fit good none =
    let free = appending_none m z at none in
    let fills = (state_at m z).held + blocks == m.shape.zone_capacity in
    step_sound m z (Write fills) ((state_at m z).held + blocks) sound below
    (ap (no_places m.shape m.zones) (needs_write (state_at m z).raw fills) ∙ free.1)
    (subst (λ (k : Kind). IsTrue (fits m.shape k (next (state_at m z).raw (Write fills)) ((state_at m z).held + blocks))) (sym kind)
    (fits_written m.shape (state_at m z).raw (state_at m z).held blocks (sequential_fits m z sound below kind) good some (omega (arith, free.0))))

-- A write that isn't refused keeps the machine sound.
pub written_sound : (m : Machine) (z at blocks : ℕ) → IsSoundMachine m → z < length m.zones → 1 ≤ blocks → at + blocks ≤ room m.shape (state_at m z).kind → write_refusal m z at ≡ None → IsSoundMachine (written m z blocks)
written_sound m z at blocks sound below some fit none =
    let free = changing_none (cond_of (state_at m z).raw) (appending (state_at m z).kind m.shape m.zones z at) none in
    written_kind_sound (state_at m z).kind m z at blocks sound below refl some fit free.0 free.1

written_kind_facts : (kind : Kind) (m : Machine) (z at blocks : ℕ) → IsSoundMachine m → z < length m.zones → (state_at m z).kind ≡ kind → cond_of (state_at m z).raw ≡ Good → appending kind m.shape m.zones z at ≡ None
    → facts (written_by kind m z blocks) ≡ with_facts (facts m) z (zone_facts (truth_written kind m.shape (bare_zone (facts_in (state_at m z))) at (replicate (4096 * blocks) 0)))
unfolding state good_facts appended_facts
written_kind_facts Conventional m z at blocks sound below kind good none =
    sym (ap (λ zs. let f : Facts = record { shape = m.shape; zones = zs } in f) (sym (map-set facts_in m.zones z (state_at m z)) ∙ ap (map facts_in) (set-get_or m.zones z no_state)))
written_kind_facts Sequential m z at blocks sound below kind good none =
    facts-stepped m z (Write ((state_at m z).held + blocks == m.shape.zone_capacity)) ((state_at m z).held + blocks)
    ∙ ap (with_facts (facts m) z)
    (written_raw m.shape (state_at m z).kind (state_at m z).raw (state_at m z).held (sequential_fits m z sound below kind) good ((state_at m z).held + blocks)
    ∙ rw (blocks-zeros blocks, good) refl)

-- It makes of the facts what the truth's write does.
pub written_facts : (m : Machine) (z at blocks : ℕ) → IsSoundMachine m → z < length m.zones → write_refusal m z at ≡ None → facts (written m z blocks) ≡ after (facts m) (write_of z at blocks)
written_facts m z at blocks sound below none =
    let free = changing_none (cond_of (state_at m z).raw) (appending (state_at m z).kind m.shape m.zones z at) none in
    written_kind_facts (state_at m z).kind m z at blocks sound below refl free.0 free.1
    ∙ ap (λ (zone : Zone). with_facts (facts m) z (zone_facts (truth_written zone.kind m.shape zone at (replicate (4096 * blocks) 0)))) (sym (zone_at-facts m z))
    ∙ sym (facts_of-with_zone_bare (facts m) z (truth_written (zone_at (bare (facts m)) z).kind m.shape (zone_at (bare (facts m)) z) at (replicate (4096 * blocks) 0)))
    ∙ sym (after-none (facts m) (write_of z at blocks) (sym (write_refused m z at blocks sound below) ∙ none_is (write_refusal m z at) none))

geometry-written : (kind : Kind) (m : Machine) (z blocks : ℕ) → geometry_in (written_by kind m z blocks) ≡ geometry_in m
geometry-written Conventional m z blocks = refl
geometry-written Sequential m z blocks = geometry-stepped m z (Write ((state_at m z).held + blocks == m.shape.zone_capacity)) ((state_at m z).held + blocks)

-- ---- what the machine answers and becomes

-- a command that is answered and carried out as the facts say
pub record IsCarriedOut (old new : Machine) (order : Order) (result : Result (Unit {0}) ZoneError) : Type 0 where
  pub refused : refusal_in result ≡ refusal_by (facts old) order
  pub facts : facts new ≡ after (facts old) order
  pub geometry : geometry_in new ≡ geometry_in old
  pub sound : IsSoundMachine new

-- It is so where the machine, unless its own refusal fits, moves on soundly and to the facts of the order.
carried_out : (old new moved : Machine) (order : Order) (refusal : Option ZoneError) (result : Result (Unit {0}) ZoneError) → IsSoundMachine old
    → refusal_in (unless refusal) ≡ refusal_by (facts old) order → (refusal ≡ None → IsSoundMachine moved) → geometry_in moved ≡ geometry_in old → (refusal ≡ None → facts moved ≡ after (facts old) order)
    → result ≡ unless refusal → OnOk result (new ≡ moved) → OnErr result (new ≡ old) → IsCarriedOut old new order result
carried_out old new moved order None result sound refused moved_sound geometry moved_facts is ok err =
    let same : new ≡ moved = subst (λ (r : Result (Unit {0}) ZoneError). OnOk r (new ≡ moved)) is ok in
    record { refused = ap refusal_in is ∙ refused; facts = ap facts same ∙ moved_facts refl; geometry = ap geometry_in same ∙ geometry; sound = subst IsSoundMachine (sym same) (moved_sound refl) }
carried_out old new moved order (Some error) result sound refused moved_sound geometry moved_facts is ok err =
    let same : new ≡ old = subst (λ (r : Result (Unit {0}) ZoneError). OnErr r (new ≡ old)) is err in
    record {
      refused = ap refusal_in is ∙ refused;
      facts = ap facts same ∙ sym (after-some (facts old) order (dev_error error) (sym refused));
      geometry = ap geometry_in same;
      sound = subst IsSoundMachine (sym same) sound;
    }

pub write_carried_out : (m old new : Machine) (z at blocks : ℕ) (result : Result (Unit {0}) ZoneError) → m ≡ old → IsSoundMachine m → z < length old.zones → 1 ≤ blocks → at + blocks ≤ room old.shape (state_at old z).kind
    → result ≡ unless (write_refusal m z at) → OnOk result (new ≡ written m z blocks) → OnErr result (new ≡ m) → IsCarriedOut old new (write_of z at blocks) result
write_carried_out m old new z at blocks result same sound below some fit is ok err =
    let before : IsSoundMachine old = subst IsSoundMachine same sound in
    carried_out old new (written old z blocks) (write_of z at blocks) (write_refusal old z at) result before (write_refused old z at blocks before below)
    (written_sound old z at blocks before below some fit) (geometry-written (state_at old z).kind old z blocks) (written_facts old z at blocks before below)
    (subst (λ (v : Machine). result ≡ unless (write_refusal v z at)) same is)
    (subst (λ (v : Machine). OnOk result (new ≡ written v z blocks)) same ok)
    (subst (λ (v : Machine). OnErr result (new ≡ v)) same err)

pub manage_carried_out : (m old new : Machine) (z : ℕ) (op : ZoneOp) (result : Result (Unit {0}) ZoneError) → m ≡ old → IsSoundMachine m → z < length old.zones → (state_at old z).kind ≡ Sequential
    → result ≡ unless (manage_refusal m z op) → OnOk result (new ≡ managed m z op) → OnErr result (new ≡ m) → IsCarriedOut old new (Manage z op) result
manage_carried_out m old new z op result same sound below kind is ok err =
    let before : IsSoundMachine old = subst IsSoundMachine same sound in
    carried_out old new (managed old z op) (Manage z op) (manage_refusal old z op) result before (manage_refused old z op before below kind)
    (managed_sound old z op before below kind) (geometry-stepped old z (step_of op (state_at old z).held) (held_after op old.shape (state_at old z).held)) (managed_facts old z op before below kind)
    (subst (λ (v : Machine). result ≡ unless (manage_refusal v z op)) same is)
    (subst (λ (v : Machine). OnOk result (new ≡ managed v z op)) same ok)
    (subst (λ (v : Machine). OnErr result (new ≡ v)) same err)
