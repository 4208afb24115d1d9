-- Laws of facts and of the machine.
use Rattle.std.specs.Prelude.{◌≡◌, ◌≢◌, ◌<◌, ◌≤◌, ℕ, Bool, List, length, Option, Result, slice_set, if◌then◌else◌}
use Rattle.zn_truth.specs.declared.Cond.{Cond}
use Rattle.zn_truth.specs.Truth.{Zone, Truth, zone_at, with_zone, seen, geometry, info_at, active, explicit, is_active as is_active_zone}
use Rattle.zn_truth.specs.Orders.{Order, refusal, done_unless, done}
use Rattle.zn_truth.specs.Loss.{turned}
use Rattle.zn_truth.specs.Power.{settled}
use Rattle.zn_zone.specs.declared.ZoneError.{ZoneError}
use Rattle.zn_zone.specs.declared.table.Step.{Step}
use Rattle.zn_zone.specs.Facts.{Facts, zone_facts, facts_of, facts_at, with_held, info_of, bare_zone, bare, outline, refusal_by, after}
use Rattle.zn_zone.specs.Joined.{Store, store_of, stores_of, joined}
use Rattle.zn_zone.specs.Table.{is_active, next, needs}
use Rattle.zn_zone.specs.Machine.{Machine, refusal_in, state_in, state_at, facts_in, facts, geometry_in, active_in, gives_place, closed, stepped, IsSoundMachine}

-- ---- a truth by its facts

-- what refuses an order is told by the facts
abbrev pub RefusalIsByFacts : Type 0
RefusalIsByFacts = (t : Truth) (order : Order) → refusal t order ≡ refusal_by (facts_of t) (outline order)

-- the facts after an order are told by the facts before it
abbrev pub EffectIsByFacts : Type 0
EffectIsByFacts = (t : Truth) (order : Order) → facts_of (done t order).truth ≡ after (facts_of t) (outline order)

-- so are those after a turn of condition
abbrev pub TurnIsByFacts : Type 0
TurnIsByFacts = (t : Truth) (z : ℕ) (to : Cond) → facts_of (turned t z to) ≡ facts_of (turned (bare (facts_of t)) z to)

-- a zone that is settled only holds so many blocks
abbrev pub SettlingIsByFacts : Type 0
SettlingIsByFacts = (t : Truth) (z from len : ℕ) (fill : Option ℕ) → facts_of (with_zone t z (settled (zone_at t z) from len fill)) ≡ with_held (facts_of t) z len

-- the truth of facts alone has them
abbrev pub BareHasFacts : Type 0
BareHasFacts = (f : Facts) → facts_of (bare f) ≡ f

-- the facts of a zone are those of its place
abbrev pub FactsAreOfZones : Type 0
FactsAreOfZones = (t : Truth) (z : ℕ) → facts_at (facts_of t) z ≡ zone_facts (zone_at t z)

-- what a report tells of a zone is among its facts
abbrev pub InfoIsByFacts : Type 0
InfoIsByFacts = (t : Truth) (z : ℕ) → info_at t z ≡ info_of (facts_at (facts_of t) z)

-- active and explicitly open zones are counted by the facts
abbrev pub CountsAreByFacts : Type 0
CountsAreByFacts = (t : Truth) → (active (bare (facts_of t)) ≡ active t) × (explicit (bare (facts_of t)) ≡ explicit t)

-- ---- facts and stores

-- a truth is its facts and its stores
abbrev pub TruthIsJoined : Type 0
TruthIsJoined = (t : Truth) → joined t.told (facts_of t) (stores_of t) ≡ t

-- as many stores as zones make a truth with these facts and these stores
abbrev pub JoinedHasFacts : Type 0
JoinedHasFacts = (told : Bool) (f : Facts) (stores : List Store) → length stores ≡ length f.zones → (facts_of (joined told f stores) ≡ f) × (stores_of (joined told f stores) ≡ stores)

-- a zone in the place of another brings its store
abbrev pub StoresFollow : Type 0
StoresFollow = (t : Truth) (z : ℕ) (zone : Zone) → stores_of (with_zone t z zone) ≡ slice_set (stores_of t) z (store_of (seen t.told zone))

-- What an order makes of a truth is made of what it makes of facts and of stores.
abbrev pub DoneIsJoined : Type 0
DoneIsJoined = (t u : Truth) (order : Order) → u.told ≡ t.told → facts_of u ≡ after (facts_of t) (outline order) → stores_of u ≡ stores_of (done t order).truth → u ≡ (done t order).truth

-- ---- the machine

-- A machine with the facts of a truth answers for it: what it doesn't refuse has its effect, and what it
-- refuses changes nothing.
abbrev pub MachineAnswers : Type 0
MachineAnswers = (t : Truth) (order : Order) (m : Machine) (result : Result (Unit {0}) ZoneError) → facts_of t ≡ facts m → refusal_in result ≡ refusal_by (facts m) (outline order)
    → done t order ≡ done_unless (refusal_in result) t order

-- the same geometry is as many zones
abbrev pub GeometryTellsCount : Type 0
GeometryTellsCount = (m n : Machine) → geometry_in m ≡ geometry_in n → length m.zones ≡ length n.zones

-- the facts of a zone are those of its state
abbrev pub FactsAreOfStates : Type 0
FactsAreOfStates = (m : Machine) (z : ℕ) → facts_at (facts m) z ≡ facts_in (state_at m z)

-- the machine has the geometry of its facts
abbrev pub GeometryIsOfFacts : Type 0
GeometryIsOfFacts = (m : Machine) → geometry (bare (facts m)) ≡ geometry_in m

-- a zone is active exactly where its facts say so
abbrev pub ActiveAgrees : Type 0
ActiveAgrees = (m : Machine) (z : ℕ) → IsSoundMachine m → z < length m.zones → is_active (state_at m z).raw ≡ is_active_zone m.shape (bare_zone (facts_at (facts m) z))

-- active zones are counted by the facts
abbrev pub ActiveCountAgrees : Type 0
ActiveCountAgrees = (m : Machine) → IsSoundMachine m → active (bare (facts m)) ≡ active_in m.zones

-- the explicitly open zones are within the limit
abbrev pub ExplicitIsWithinLimit : Type 0
ExplicitIsWithinLimit = (m : Machine) → IsSoundMachine m → 0 < m.shape.max_open → explicit (bare (facts m)) ≤ m.shape.max_open

-- A step of one zone changes another only where it needs an open place and none is free: then the
-- lowest-numbered implicitly open zone is closed.
abbrev pub OthersStay : Type 0
OthersStay = (m : Machine) (z k : ℕ) (step : Step) (held : ℕ) → k ≢ z
    → state_in (stepped m.shape m.zones z step held) k ≡ (if gives_place m (needs (state_at m z).raw step) k then closed (state_at m k) else state_at m k)

-- the zone itself takes the step
abbrev pub ZoneSteps : Type 0
ZoneSteps = (m : Machine) (z : ℕ) (step : Step) (held : ℕ) → z < length m.zones
    → state_in (stepped m.shape m.zones z step held) z ≡ record (state_at m z) { raw = next (state_at m z).raw step; held = held }
