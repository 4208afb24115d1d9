-- What a run leaves of what the device held.
use Rattle.std.proofs.Common.{◌≡◌, ℕ, ◌*◌, ◌≤◌, true, List, [], ◌∷◌, ◌++◌, take, refl, sym, ap, ◌∙◌, subst, append_assoc, arith}
use Rattle.std.specs.List.{All}
use Rattle.zn_truth.specs.Limits.{IsWithinLimits}
use Rattle.zn_truth.specs.Truth.{Geometry, Zone, zone_at}
use Rattle.zn_truth.specs.World.{World, geometry_of}
use Rattle.zn_lines.specs.declared.runs.Tail.{Tail}
use Rattle.zn_lines.specs.Lines.{Line}
use Rattle.zn_lines.specs.ReplyTexts.{ok_text}
use Rattle.zn_lines.specs.Session.{line_step}
use Rattle.zn_lines.specs.Table.{Table}
use Rattle.zn_remains.specs.Events.{Event, after_events, FitsIn}
use Rattle.zn_remains.specs.Histories.{Carried, after_line, after_lines, events_of, AllMake}
use Rattle.zn_remains.specs.Laws.{KeepThrough, HoldsAll, Synced, ScriptKeeps, PowerLossesKeep}
use Rattle.zn_remains.specs.Remaining.{StaysDurable, IsSequentialZone, IsAllDurable, spares}
use Rattle.zn_remains.proofs.EventsKept.{All-front, kept_through}
use Rattle.zn_remains.proofs.Lines.{Sits}
use Rattle.zn_remains.proofs.Scripts.{made_world, made_fit, session_sits, history}
use Rattle.zn_remains.proofs.Standing.{Stands, stands_events, sequential_later}
use Rattle.zn_remains.proofs.Syncs.{sync_durable}

-- ---- lines up to one of them

made_front : (g : Geometry) (table : Table) (front rest : List Carried) → AllMake g table (front ++ rest) → AllMake g table front
made_front g table [] rest made = tt
made_front g table (c ∷ front) rest made = (made.0, made_front g (after_line table c) front rest made.1)

lines-append : (table : Table) (front rest : List Carried) → after_lines table (front ++ rest) ≡ after_lines (after_lines table front) rest
lines-append table [] rest = refl
lines-append table (c ∷ front) rest = lines-append (after_line table c) front rest

events-append : (front rest : List Carried) → events_of (front ++ rest) ≡ events_of front ++ events_of rest
events-append [] rest = refl
events-append (c ∷ front) rest = ap (λ (es : List Event). c.events ++ es) (events-append front rest) ∙ sym (append_assoc c.events (events_of front) (events_of rest))

-- ---- what a sync made durable

-- the device after a sync that said `ok`
all_durable : (table : Table) (sync : Carried) → Synced table sync → IsAllDurable (after_line table sync).world.truth
all_durable table sync is =
    subst (λ (line : Line). (line_step sync.given table line).text ≡ ok_text → IsAllDurable (line_step sync.given table line).table.world.truth) (sym is.1) (sync_durable sync.given table is.0) is.2

-- what was durable as a whole is held, where it stayed durable
holds_all : (old new : Zone) → old.durable ≡ old.held → new.durable ≤ new.held → StaysDurable old new → HoldsAll old new
holds_all old new whole most is = record {
  blocks = omega (arith, is.blocks, whole, most);
  bytes = subst (λ (n : ℕ). take (4096 * n) new.bytes ≡ take (4096 * n) old.bytes) whole is.bytes;
}

module _ (g : Geometry) (table : Table) (sits : Sits g table) (carried : List Carried) (made : AllMake g table carried) where
  -- all their events fit
  fit : All (FitsIn g) (events_of carried)
  fit = made_fit g table carried made

  keeps : KeepThrough table.world (events_of carried)
  keeps = kept_through g table.world (events_of carried) sits.stands fit

  module _ (before : List Carried) (sync : Carried) (behind : List Carried) (events after : List Event) (parts : carried ≡ before ++ (sync ∷ behind)) (split : events_of behind ≡ events ++ after) where
    upto : List Carried
    upto = before ++ sync ∷ []

    all_parts : carried ≡ upto ++ behind
    unfolding upto
    all_parts = parts ∙ sym (append_assoc before (sync ∷ []) behind)

    all_events : events_of carried ≡ events_of upto ++ (events ++ after)
    all_events = ap events_of all_parts ∙ events-append upto behind ∙ ap (λ (es : List Event). events_of upto ++ es) split

    -- the device after the sync
    there : World
    there = after_events table.world (events_of upto)

    world_there : (after_lines table upto).world ≡ there
    unfolding there
    world_there = made_world g table upto (made_front g table upto behind (subst (λ (cs : List Carried). AllMake g table cs) all_parts made))

    -- the events up to there, and those up to some later moment
    some_fit : All (FitsIn g) (events_of upto ++ events)
    some_fit = All-front (FitsIn g) (events_of upto ++ events) after (subst (λ (es : List Event). All (FitsIn g) es) (all_events ∙ sym (append_assoc (events_of upto) events after)) fit)

    stands_there : Stands g there
    unfolding there
    stands_there = stands_events g table.world (events_of upto) sits.stands (All-front (FitsIn g) (events_of upto) events some_fit)

    later : World
    later = after_events table.world (events_of upto ++ events)

    stands_later : Stands g later
    unfolding later
    stands_later = stands_events g table.world (events_of upto ++ events) sits.stands some_fit

    durable_there : Synced (after_lines table before) sync → IsAllDurable there.truth
    unfolding upto
    durable_there is = subst (λ (w : World). IsAllDurable w.truth) (sym (ap (λ (t : Table). t.world) (lines-append table before (sync ∷ []))) ∙ world_there) (all_durable (after_lines table before) sync is)

    held : (z : ℕ) → Synced (after_lines table before) sync → IsSequentialZone table.world.truth z → All (λ (event : Event). spares z event ≡ true) events → HoldsAll (zone_at (after_lines table upto).world.truth z) (zone_at later.truth z)
    unfolding there later
    held z is seq spared =
        let below_there = sequential_later g table.world there z sits.stands stands_there seq in
        let below_later = sequential_later g table.world later z sits.stands stands_later seq in
        subst (λ (w : World). HoldsAll (zone_at w.truth z) (zone_at later.truth z)) (sym world_there)
        (holds_all (zone_at there.truth z) (zone_at later.truth z) ((durable_there is).zones z below_there.below) (stands_later.sound.zones z below_later.below).durable
        (keeps.stays (events_of upto) events after z all_events seq spared))

pub script_keeps : (g : Geometry) (givens : List (List ℕ)) (tail : Tail) (table : Table) (n : ℕ) (bytes : List ℕ) → geometry_of table.world ≡ g → IsWithinLimits g → Sits g table → ScriptKeeps givens tail table n bytes
unfolding upto later
script_keeps g givens tail table n bytes is limits sits =
    let told = history g givens tail table n bytes is limits sits in
    let made : AllMake g table told.carried = subst (λ (h : Geometry). AllMake h table told.carried) is told.made in
    record {
      history = told;
      keeps = keeps g table sits told.carried made;
      synced = λ before sync behind events after z parts split is seq spared. held g table sits told.carried made before sync behind events after parts split z is seq spared;
    }

pub power_losses_keep : PowerLossesKeep
power_losses_keep givens tail table n bytes session =
    let sits = session_sits table session in
    script_keeps (geometry_of session.begun.world) givens tail table n bytes sits.stands.geometry session.may.limits sits
