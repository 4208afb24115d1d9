-- What a line does to a session, with what its end does.
use Rattle.std.proofs.Common.{◌≡◌, ◌≤◌, ◌+◌, ℕ, Bool, true, false, List, Option, Some, Result, Ok, Err, refl, sym, ap, ◌∙◌, subst, inl, inr, eqb, eqb-true, arith}
use Rattle.std.specs.Prelude.{not, ◌⊎◌, IsErrOf}
use Rattle.std.proofs.lemmas.Bool.{false≢true, not-true, not-false, eqb-false}
use Rattle.zn_base.specs.States.{SinkState}
use Rattle.zn_truth.specs.World.{geometry_of}
use Rattle.zn_device.specs.States.{DeviceState}
use Rattle.zn_model.specs.declared.answers.Refusal.{Refusal}
use Rattle.zn_model.specs.declared.answers.Refusal.TheVariants.{Broken as HasBroken, Memory as Starved}
use Rattle.zn_model.specs.declared.handles.Handle.{Handle}
use Rattle.zn_lines.specs.Lines.{Line}
use Rattle.zn_lines.specs.Memory.{takes_itself}
use Rattle.zn_lines.specs.Session as session
use Rattle.zn_lines.specs.Table.{Table}
use Rattle.zn_lines.specs.Session.{line_now, line_step, says, dropped_unless}
use Rattle.zn_run.specs.States.{State, state_of, HasRisen, Added, CutOff}
use Rattle.zn_run.specs.Steps.{MayStarve, StepMeans, Stepped}
use Rattle.zn_run.specs.declared.machine.Step.{Step}
use Rattle.zn_run.specs.declared.machine.Step.TheVariants.{Done, BadLine, Broken, SinkFault, Memory}
use Rattle.zn_volume.specs.Means.{spoils}
use Rattle.zn_session.specs.Replies.{Kept, text_of}
use Rattle.zn_session.specs.SessionState.{HeldState, SessionState, session_of, table_by, table_in, machine_of}
use Rattle.zn_session.specs.Steps.{ends, told_by, ended_by, stops, LineCause, Means, Dropped, Said, Performed}
use Rattle.zn_session.specs.declared.replies.Reply.{Reply}

-- ---- the end of a line

-- a line that ends the run
pub ends_at_once : (line : Line) (reply : Reply) (kept : Kept) (entropy : List ℕ) (old new : HeldState) (numbers0 numbers : List (Option Handle)) → ends reply ≡ true → Means line_now line reply kept entropy old new numbers0 numbers
    → Means line_step line reply kept entropy old new numbers0 numbers
ends_at_once line reply kept entropy old new numbers0 numbers stopped means = record {
  given = means.given;
  writable = means.writable;
  step = λ goes. absurd (false≢true (sym goes ∙ stopped));
  numbered = means.numbered;
  used = means.used;
  cause = means.cause;
}

step_by : (given : List ℕ) (table0 : Table) (line : Line) (text : List ℕ) (table : Table) → line_now given table0 line ≡ says text table → line_step given table0 line ≡ says text (dropped_unless table.world.powered table)
unfolding line_step
step_by given table0 line text table is = ap (λ (s : session.Stepped). says s.text (dropped_unless s.table.world.powered s.table)) is

-- a line that goes on
pub ends_dropped : (line : Line) (reply : Reply) (kept : Kept) (entropy : List ℕ) (old mid new : HeldState) (numbers0 numbers1 numbers : List (Option Handle)) → ends reply ≡ false → Means line_now line reply kept entropy old mid numbers0 numbers1 → Dropped mid new numbers1 numbers
    → Means line_step line reply kept entropy old new numbers0 numbers
ends_dropped line reply kept entropy old mid new numbers0 numbers1 numbers goes means dropped =
    let Causes : DeviceState → Type 0 = λ d. LineCause (takes_itself line) (told_by reply) old.device d in
    record {
      given = means.given;
      writable = means.writable;
      step = λ _.
          step_by means.given (table_by entropy old numbers0) line (text_of reply kept) (table_by entropy mid numbers1) (means.step goes)
          ∙ ap (says (text_of reply kept)) (sym (dropped.table entropy));
      numbered = λ _. dropped.numbered;
      used = λ _. omega (arith, means.used goes, dropped.used);
      cause = subst Causes (sym dropped.device) means.cause;
    }

-- ---- what a line means

carried : (given : List ℕ) (step : Step) (line : Line) (text : List ℕ) (old new : State) → line_step given old.machine.table line ≡ says text new.machine.table → Said step text old.sink new.sink
    → new.machine.breaks ≡ old.machine.breaks → new.machine.spoilt ≡ old.machine.spoilt → new.machine.over ≡ stops step → StepMeans step (Ok (Some line)) old new
carried given Done line text old new steps said breaks spoilt over = record {
  means = record {
    given = given;
    table = sym (ap (λ (s : session.Stepped). s.table) steps);
    breaks = breaks;
    spoilt = spoilt;
    reply = subst (λ (due : List ℕ). Added due old.sink new.sink) (sym (ap (λ (s : session.Stepped). s.text) steps)) said.means;
  };
  goes_on = over;
}
carried given (BadLine column) line text old new steps said breaks spoilt over = absurd said.means
carried given Broken line text old new steps said breaks spoilt over = absurd said.means
carried given SinkFault line text old new steps said breaks spoilt over = record {
  line = line;
  reads = refl;
  given = given;
  table = sym (ap (λ (s : session.Stepped). s.table) steps);
  breaks = breaks;
  spoilt = spoilt;
  reply = subst (λ (due : List ℕ). CutOff due old.sink new.sink) (sym (ap (λ (s : session.Stepped). s.text) steps)) said.means;
  over = over;
}
carried given Memory line text old new steps said breaks spoilt over = absurd said.means

-- ---- the end of a run

-- an answer that ends a run tells a break, or want of memory
pub spoiling_is : (answer : Result (Unit {0}) Refusal) → spoils answer ≡ true → IsErrOf answer HasBroken ⊎ IsErrOf answer Starved
spoiling_is (Ok unit) spoiling = absurd (false≢true spoiling)
spoiling_is (Err HasBroken) spoiling = inl refl
spoiling_is (Err Starved) spoiling = inr refl
spoiling_is (Err _) spoiling = absurd (false≢true spoiling)

-- where the count of breaks is another one, it has risen
risen_apart : (before now : ℕ) → before ≤ now → not (eqb now before) ≡ true → HasRisen before now
risen_apart before now later differs = let apart = eqb-false now before (not-true _ differs) in record { later = later; rose = omega (arith, apart) }

-- a flag, and that it isn't so
not_back : (over goes_on : Bool) → goes_on ≡ not over → over ≡ not goes_on
not_back true goes_on same = ap not (sym same)
not_back false goes_on same = ap not (sym same)

not_over : (over goes_on : Bool) → goes_on ≡ not over → goes_on ≡ true → over ≡ false
not_over true goes_on same goes = absurd (false≢true (sym same ∙ goes))
not_over false goes_on same goes = refl

is_over : (over goes_on : Bool) → goes_on ≡ not over → goes_on ≡ false → over ≡ true
is_over true goes_on same stopped = refl
is_over false goes_on same stopped = absurd (false≢true (sym stopped ∙ same))

-- a session, as its parts are
module _ (seen : SessionState) (held : HeldState) (numbers : List (Option Handle)) (entropy : List ℕ) (over : Bool) (steps : ℕ) (view : session_of held numbers entropy over steps ≡ seen) where
  same_held : held ≡ seen.held
  same_held = ap (λ (s : SessionState). s.held) view

  same_table : table_by entropy held numbers ≡ table_in seen
  same_table = ap table_in view

  same_device : held.device ≡ seen.held.device
  same_device = ap (λ (h : HeldState). h.device) same_held

  same_breaks : held.device.breaks ≡ seen.held.device.breaks
  same_breaks = ap (λ (d : DeviceState). d.breaks) same_device

  same_spoilt : held.device.spoilt ≡ seen.held.device.spoilt
  same_spoilt = ap (λ (d : DeviceState). d.spoilt) same_device

  same_takes : held.device.takes_memory ≡ seen.held.device.takes_memory
  same_takes = ap (λ (d : DeviceState). d.takes_memory) same_device

  -- the session after a line
  abbrev after : HeldState → List (Option Handle) → Bool → SessionState
  after held' numbers' over' = session_of held' numbers' entropy over' (steps + 1)

  -- a line that is one more, whatever became of it
  counted : {step : Step} {line : Line} (held' : HeldState) (numbers' : List (Option Handle)) (over' : Bool) (sink0 sink : SinkState) → held'.device.takes_memory ≡ held.device.takes_memory
      → StepMeans step (Ok (Some line)) (state_of (machine_of seen) sink0) (state_of (machine_of (after held' numbers' over')) sink)
      → Stepped step (Ok (Some line)) (state_of (machine_of seen) sink0) (state_of (machine_of (after held' numbers' over')) sink)
  counted held' numbers' over' sink0 sink memory means = record {
    means = means;
    counted = ap (λ (s : SessionState). s.steps + 1) view;
    memory = memory ∙ same_takes;
  }

  module _ (line : Line) (reply : Reply) (kept : Kept) (held' : HeldState) (numbers' : List (Option Handle)) (means : Means line_step line reply kept entropy held held' numbers numbers') where
    -- what the line does to the table
    does : ends reply ≡ false → line_step means.given (table_in seen) line ≡ says (text_of reply kept) (table_by entropy held' numbers')
    does goes = ap (λ table. line_step means.given table line) (sym same_table) ∙ means.step goes

    -- a line whose reply is written, or cut off
    pub goes_means : (step : Step) (shown : Kept) (over' : Bool) (sink0 sink : SinkState) → held.device.spoilt ≡ false → ends reply ≡ false → shown ≡ kept → Said step (text_of reply shown) sink0 sink → over' ≡ stops step
        → Stepped step (Ok (Some line)) (state_of (machine_of seen) sink0) (state_of (machine_of (after held' numbers' over')) sink)
    goes_means step shown over' sink0 sink unspoilt goes same_kept said ended =
        let Says : Kept → Type 0 = λ all. Said step (text_of reply all) sink0 sink in
        counted held' numbers' over' sink0 sink means.cause.memory
        (carried means.given step line (text_of reply kept) (state_of (machine_of seen) sink0) (state_of (machine_of (after held' numbers' over')) sink)
        (does goes) (subst Says same_kept said) (means.cause.whole goes ∙ same_breaks)
        (means.cause.unspoilt goes ∙ sym unspoilt ∙ same_spoilt) ended)

    module _ (spoiling : ends reply ≡ true) where
      -- over a device whose commands take no memory, where the count of breaks is another one, a break is told
      is_broken : not (eqb held'.device.breaks held.device.breaks) ≡ true → held.device.takes_memory ≡ false → IsErrOf (told_by reply) HasBroken
      is_broken differs none = elim (spoiling_is (told_by reply) spoiling) [
        | inl broken ↦ broken
        | inr starved ↦ elim (means.cause.starved starved) [
          | inl same ↦ absurd (eqb-false held'.device.breaks held.device.breaks (not-true _ differs) (ap (λ (d : DeviceState). d.breaks) same))
          | inr some ↦ absurd (false≢true (sym none ∙ some))
        ]
      ]

      broken_means : (sink : SinkState) → (held.device.takes_memory ≡ false → IsErrOf (told_by reply) HasBroken) → HasRisen held.device.breaks held'.device.breaks
          → StepMeans Broken (Ok (Some line)) (state_of (machine_of seen) sink) (state_of (machine_of (after held' numbers' true)) sink)
      broken_means sink broken risen =
          let told : seen.held.device.takes_memory ≡ false → IsErrOf (told_by reply) HasBroken = λ none. broken (same_takes ∙ none) in
          record {
            line = line;
            reads = refl;
            risen = subst (λ (d : DeviceState). HasRisen d.breaks held'.device.breaks) same_device risen;
            leaves = record {
              geometry = means.cause.geometry ∙ ap (λ (d : DeviceState). geometry_of d.world) same_device;
              powered = λ none. ap (λ (d : DeviceState). d.world.powered) (sym same_device) ∙ means.cause.powered (told none);
              still_powered = λ none. means.cause.still_powered (told none);
            };
            sink = refl;
            over = refl;
          }

      -- where memory may be wanting
      may_starve : IsErrOf (told_by reply) Starved → MayStarve seen.held.device.takes_memory line
      may_starve told = elim (means.cause.takes told) [ inl some ↦ inl (sym same_takes ∙ some) | inr itself ↦ inr itself ]

      starved_means : (sink : SinkState) → IsErrOf (told_by reply) Starved → held'.device.breaks ≡ held.device.breaks → StepMeans Memory (Ok (Some line)) (state_of (machine_of seen) sink) (state_of (machine_of (after held' numbers' true)) sink)
      starved_means sink told kept = record {
        line = line;
        reads = refl;
        takes = may_starve told;
        breaks = kept ∙ same_breaks;
        sink = refl;
        over = refl;
      }

      ended : (sink : SinkState) (has_failed : Bool) → has_failed ≡ not (eqb held'.device.breaks held.device.breaks)
          → StepMeans (ended_by has_failed (told_by reply)) (Ok (Some line)) (state_of (machine_of seen) sink) (state_of (machine_of (after held' numbers' true)) sink)
      ended sink true same = broken_means sink (is_broken (sym same)) (risen_apart held.device.breaks held'.device.breaks means.cause.no_fewer (sym same))
      ended sink false same =
          let P : Result (Unit {0}) Refusal → Type 0 = λ told. StepMeans (ended_by false told) (Ok (Some line)) (state_of (machine_of seen) sink) (state_of (machine_of (after held' numbers' true)) sink) in
          elim (spoiling_is (told_by reply) spoiling) [
            | inl is ↦ subst P (sym is) (broken_means sink (λ none. is) (record { later = means.cause.no_fewer; rose = means.cause.broken is }))
            | inr is ↦ subst P (sym is) (starved_means sink is (eqb-true _ _ (not-false _ (sym same))))
          ]

      -- a line that ends the run
      pub ended_means : (step : Step) (sink : SinkState) (has_failed : Bool) → step ≡ ended_by has_failed (told_by reply) → has_failed ≡ not (eqb held'.device.breaks held.device.breaks)
          → Stepped step (Ok (Some line)) (state_of (machine_of seen) sink) (state_of (machine_of (after held' numbers' true)) sink)
      ended_means step sink has_failed is failed =
          let P : Step → Type 0 = λ s. StepMeans s (Ok (Some line)) (state_of (machine_of seen) sink) (state_of (machine_of (after held' numbers' true)) sink) in
          counted held' numbers' true sink sink means.cause.memory (subst P (sym is) (ended sink has_failed failed))

    -- a line whose reply isn't written, and that ends the run
    stopped_by : ends reply ≡ true → HasRisen seen.held.device.breaks held'.device.breaks ⊎ MayStarve seen.held.device.takes_memory line
    stopped_by spoiling = elim (spoiling_is (told_by reply) spoiling) [
      | inl is ↦ inl (subst (λ (d : DeviceState). HasRisen d.breaks held'.device.breaks) same_device (record { later = means.cause.no_fewer; rose = means.cause.broken is }))
      | inr is ↦ inr (may_starve spoiling is)
    ]

    -- a line whose reply isn't written
    pub performs : (over' goes_on : Bool) → over' ≡ ends reply → goes_on ≡ not over' → Performed goes_on line seen (after held' numbers' over')
    performs over' goes_on is same = record {
      over = not_back over' goes_on same;
      counted = ap (λ (s : SessionState). s.steps + 1) view;
      given = means.given;
      table = λ goes. sym (ap (λ (s : session.Stepped). s.table) (does (sym is ∙ not_over over' goes_on same goes)));
      breaks = λ goes. means.cause.whole (sym is ∙ not_over over' goes_on same goes) ∙ same_breaks;
      memory = means.cause.memory ∙ same_takes;
      ended = λ stopped. stopped_by (sym is ∙ is_over over' goes_on same stopped);
    }
