-- Where a command of a mount fails otherwise than by a fault, the super block's zone is offline.
use Rattle.std.proofs.Common.{◌≡◌, ◌⊎◌, ℕ, ◌+◌, ◌<◌, ◌≤◌, Bool, true, false, List, [], ◌∷◌, ◌++◌, length, filter, get_or, All, Option, Some, None, Ok, Err, refl, sym, ap, ◌∙◌, subst, inl, inr, arith, IsTrue, length-append}
use Rattle.std.specs.Prelude.{◌&&◌, ◌==◌, not, nat_lt, if◌then◌else◌}
use Rattle.std.specs.List.{range_with_len}
use Rattle.std.proofs.lemmas.Bool.{le-ltb, false≢true, eqb-true, not-false, and_parts}
use Rattle.std.proofs.lemmas.List.{get_or-append-add, get_or-map, length-map}
use Rattle.std.proofs.lemmas.List.Elements.{filter_passes}
use Rattle.std.proofs.lemmas.List.FromFn.{length-map-range_with_len, get_or-map-range_with_len}
use Rattle.zn_truth.specs.declared.Cond.{Cond}
use Rattle.zn_truth.specs.declared.Cond.TheVariants.{Good, ReadOnly as read_only_zone, Offline as offline_zone}
use Rattle.zn_truth.specs.declared.DevError.{DevError}
use Rattle.zn_truth.specs.declared.DevError.TheVariants.{Fault, PowerLost, BeyondWp}
use Rattle.zn_truth.specs.declared.FaultSpec.{FaultSpec}
use Rattle.zn_truth.specs.declared.Armed.{Armed}
use Rattle.zn_truth.specs.declared.Kind.{Kind}
use Rattle.zn_truth.specs.declared.Kind.TheVariants.{Conventional, Sequential}
use Rattle.zn_truth.specs.declared.Shape.{Shape}
use Rattle.zn_truth.specs.declared.ZoneInfo.{ZoneInfo}
use Rattle.zn_truth.specs.declared.ZoneOp.TheVariants.{Close}
use Rattle.zn_truth.specs.Limits.{IsWithinLimits}
use Rattle.zn_truth.specs.Truth.{Truth, Geometry, geometry, zone_at, info_at, kind_at, room, is_good, is_offline, is_sequential, IsSound, IsSoundZone}
use Rattle.zn_truth.specs.Orders.{Order, ReadAt, WriteAt, Manage, FlushAll, ReportFrom, Reply, done, done_unless, refusal, reading, changing}
use Rattle.zn_truth.specs.World.{World, Outcome, issue, issue_armed, struck, met, meets, faulted, command_of, zones_of}
use Rattle.zn_truth.specs.OrderLists.{first_failure, issue_all}
use Rattle.zn_truth.proofs.Failures.{failure_has_order, issue_all_keeps_zones}
use Rattle.zn_truth.specs.Obeying.{Fits}
use Rattle.zn_truth.proofs.Issuing.{zones-in_geometry, kind-in_geometry}
use Rattle.zn_truth.proofs.OrderLists.{report_leaves, read_leaves}
use Rattle.zn_truth.proofs.SoundIssue.{if_keeps}
use Rattle.zn_model.specs.declared.answers.MountError.TheVariants.{IoError}
use Rattle.zn_model.specs.Looks.{report_all, all_infos}
use Rattle.zn_model.specs.Mounting.{mount_error_of, is_zone0_unfull, closes}
use Rattle.zn_volume.specs.MountSteps.{found_in, read_copies, closes_of, mount_orders}
use Rattle.zn_volume.specs.Mounts.{IsZone0Offline}
use Rattle.zn_model.specs.declared.answers.Why.{Why}
use Rattle.zn_model.specs.SuperBlock.{SuperBlock}
use Rattle.std.specs.Prelude.{Result}

-- ---- by a report of all zones

-- whether the super block's zone is full, as a report tells it
pub unfull_is : (t : Truth) (g : Geometry) (infos : List ZoneInfo) (info : ZoneInfo) (kind : Kind) (capacity : ℕ) → geometry t ≡ g → infos ≡ all_infos t → info ≡ get_or infos 0 info → 0 < length infos → kind ≡ kind_at g 0
    → capacity ≡ g.shape.zone_capacity → (is_sequential kind && not (info.held == capacity)) ≡ is_zone0_unfull t
unfull_is t g infos info kind capacity same told at some is of =
    let below : 0 < length t.zones = omega (arith, some, ap (λ (l : List ZoneInfo). length l) told, length-map-range_with_len (info_at t) 0 (length t.zones)) in
    let zero : 0 + 0 ≡ 0 = omega arith in
    let first : info ≡ info_at t 0 = at ∙ ap (λ (l : List ZoneInfo). get_or l 0 info) told ∙ get_or-map-range_with_len (info_at t) 0 (length t.zones) 0 0 info below zero in
    let kinds : kind ≡ (zone_at t 0).kind = is ∙ ap (λ (h : Geometry). kind_at h 0) (sym same) ∙ kind-in_geometry t 0 in
    let room : capacity ≡ t.shape.zone_capacity = of ∙ ap (λ (h : Geometry). h.shape.zone_capacity) (sym same) in
    ap (λ (k : Kind). is_sequential k && not (info.held == capacity)) kinds
    ∙ ap (λ (i : ZoneInfo). is_sequential (zone_at t 0).kind && not (i.held == capacity)) first
    ∙ ap (λ (n : ℕ). is_sequential (zone_at t 0).kind && not ((zone_at t 0).held == n)) room

room_two : (shape : Shape) (kind : Kind) → 2 ≤ shape.zone_capacity → shape.zone_capacity ≤ shape.zone_blocks → 0 + 2 ≤ room shape kind
room_two shape Conventional some fits = omega arith
room_two shape Sequential some fits = omega arith

-- there are two first blocks
pub first_blocks : (g : Geometry) (n : ℕ) → IsWithinLimits g → n ≡ 2 → Fits g 0 0 n
first_blocks g n limits is =
    subst (λ (m : ℕ). Fits g 0 0 m) (sym is) (record { zone = omega (arith, limits.some); room = room_two g.shape (kind_at g 0) limits.capacity limits.fits })

-- ---- what an order that isn't a write fails by

-- a read, a report, or a command that manages a zone
abbrev is_plain : Order → Bool
is_plain (WriteAt z at bytes) = false
is_plain FlushAll = false
is_plain _ = true

-- an order fails by a fault, for want of power, or as a device without faults refuses it
abbrev FailsBy : Truth → Order → Reply → Type 0
FailsBy t order reply = (error : DevError) → reply ≡ Err error → (error ≡ Fault) ⊎ ((error ≡ PowerLost) ⊎ (refusal t order ≡ Some error))

refused_by : (r : Option DevError) (t : Truth) (order : Order) → refusal t order ≡ r → FailsBy t order (done_unless r t order).reply
refused_by None t order is = λ error fails. absurd (cc)
refused_by (Some other) t order is = λ error fails. let same : other ≡ error = cc in inr (inr (is ∙ ap (λ (e : DevError). Some e) same))

faulted_by : (t : Truth) (order : Order) (fault : FaultSpec) → IsTrue (is_plain order) → FailsBy t order (faulted t order fault).reply
unfolding faulted
faulted_by t (ReadAt z at n) fault plain = λ error fails. inl cc
faulted_by t (ReportFrom first n) fault plain = λ error fails. inl cc
faulted_by t (Manage z op) fault plain = λ error fails. inl cc
faulted_by t (WriteAt z at bytes) fault plain = absurd (cc)
faulted_by t FlushAll fault plain = absurd (cc)

lost_by : (t : Truth) (order : Order) → FailsBy t order (Err PowerLost)
lost_by t order = λ error fails. let same : PowerLost ≡ error = cc in inr (inl (sym same))

struck_by : (w : World) (rest : List FaultSpec) (armed : Option Armed) (order : Order) (o : Option FaultSpec) → IsTrue (is_plain order) → FailsBy w.truth order (struck w.truth w.pending rest armed order o).reply
unfolding done
struck_by w rest armed order None plain = refused_by (refusal w.truth order) w.truth order refl
struck_by w rest armed order (Some fault) plain = faulted_by w.truth order fault plain

armed_by : (w : World) (order : Order) (o : Option Armed) → IsTrue (is_plain order) → FailsBy w.truth order (issue_armed w order o).reply
armed_by w order None plain = struck_by w _ None order (met (command_of order) (zones_of order) w.pending) plain
armed_by w order (Some armed) plain =
    if_keeps (λ (o : Outcome). FailsBy w.truth order o.reply) (meets (command_of order) (zones_of order) armed.command armed.zone.0) _ _ (lost_by w.truth order)
    (struck_by w _ (Some armed) order (met (command_of order) (zones_of order) w.pending) plain)

fails_by : (w : World) (order : Order) → IsTrue (is_plain order) → FailsBy w.truth order (issue w order).reply
unfolding issue
fails_by w order plain = if_keeps (λ (o : Outcome). FailsBy w.truth order o.reply) w.powered _ _ (armed_by w order w.armed plain) (lost_by w.truth order)

not_lost : (error : DevError) → mount_error_of error ≡ IoError → error ≡ PowerLost → ⊥
not_lost PowerLost io is = cc
not_lost _ io is = absurd (cc)

-- where that is told as `io-error`
fails_io : (w : World) (order : Order) (error : DevError) → IsTrue (is_plain order) → (issue w order).reply ≡ Err error → mount_error_of error ≡ IoError → (error ≡ Fault) ⊎ (refusal w.truth order ≡ Some error)
fails_io w order error plain fails io = elim (fails_by w order plain error fails) [
  | inl fault ↦ inl fault
  | inr other ↦ elim other [
    | inl lost ↦ absurd (not_lost error io lost)
    | inr refused ↦ inr refused
  ]
]

-- ---- the read

-- the super block's zone holds its two blocks, unless it is offline
holds_both : (t : Truth) → IsSound t → IsWithinLimits (geometry t) → is_zone0_unfull t ≡ false → (IsZone0Offline t → ⊥) → 2 ≤ (zone_at t 0).held
holds_both t sound limits full on = by_kind (zone_at t 0).kind refl
  where
    zone : IsSoundZone t.told t.shape (zone_at t 0)
    zone = sound.zones 0 (omega (arith, limits.some, zones-in_geometry t))

    by_kind : (kind : Kind) → (zone_at t 0).kind ≡ kind → 2 ≤ (zone_at t 0).held
    by_kind Conventional is =
        let all : (zone_at t 0).held ≡ t.shape.zone_blocks = zone.conventional (λ sequential. false≢true (sym (ap is_sequential is) ∙ sequential)) (λ off. on off) in
        omega (arith, all, limits.capacity, limits.fits)
    by_kind Sequential is =
        let same : ((zone_at t 0).held == t.shape.zone_capacity) ≡ true = not-false _ (sym (ap (λ (k : Kind). is_sequential k && not ((zone_at t 0).held == t.shape.zone_capacity)) is) ∙ full) in
        omega (arith, eqb-true (zone_at t 0).held t.shape.zone_capacity same, limits.capacity)

read_refused : (t : Truth) (cond : Cond) (error : DevError) → (zone_at t 0).cond ≡ cond → ((IsZone0Offline t → ⊥) → 2 ≤ (zone_at t 0).held)
    → reading cond (if nat_lt (zone_at t 0).held (0 + 2) then Some BeyondWp else None) ≡ Some error → IsZone0Offline t
read_refused t Good error is holds refused = absurd (within error (holds (λ off. false≢true (sym (ap is_offline is) ∙ off))) refused)
  where
    within : (error : DevError) → 2 ≤ (zone_at t 0).held → (if nat_lt (zone_at t 0).held (0 + 2) then Some BeyondWp else None) ≡ Some error → ⊥
    within error some h =
        let none : None ≡ Some error = sym (ap (λ (b : Bool). let o : Option DevError = if b then Some BeyondWp else None in o) (le-ltb (zone_at t 0).held (0 + 2) (omega arith))) ∙ h in
        cc
read_refused t read_only_zone error is holds refused = absurd (within error (holds (λ off. false≢true (sym (ap is_offline is) ∙ off))) refused)
  where
    within : (error : DevError) → 2 ≤ (zone_at t 0).held → (if nat_lt (zone_at t 0).held (0 + 2) then Some BeyondWp else None) ≡ Some error → ⊥
    within error some h =
        let none : None ≡ Some error = sym (ap (λ (b : Bool). let o : Option DevError = if b then Some BeyondWp else None in o) (le-ltb (zone_at t 0).held (0 + 2) (omega arith))) ∙ h in
        cc
read_refused t offline_zone error is holds refused = ap is_offline is

-- ---- the closes

-- the close of a good zone
record IsClose (t : Truth) (order : Order) : Type 0 where
  zone : ℕ
  is : order ≡ Manage zone Close
  good : is_good (zone_at t zone).cond ≡ true

are_closes : (t : Truth) → All (IsClose t) (closes t)
are_closes t = λ k d inside.
    let p : ℕ → Bool = λ z. is_good (zone_at t z).cond && (zone_at t z).explicit in
    let zones = filter p (range_with_len 0 (length t.zones)) in
    let below : k < length (filter (λ z. is_good (zone_at t z).cond && (zone_at t z).explicit) (range_with_len 0 (length t.zones))) =
    omega (arith, inside, length-map (filter (λ z. is_good (zone_at t z).cond && (zone_at t z).explicit) (range_with_len 0 (length t.zones))) (λ (z : ℕ). Manage z Close)) in
    let passes = filter_passes p (range_with_len 0 (length t.zones)) k 0 below in
    record {
      zone = get_or zones k 0;
      is = get_or-map (λ (z : ℕ). Manage z Close) zones k 0 d below;
      good = (and_parts _ _ passes).0;
    }

-- an order of a list
order_in : (P : Order → Type 0) (orders before : List Order) (order : Order) (after : List Order) → All P orders → orders ≡ before ++ order ∷ after → P order
order_in P orders before order after all is =
    let there : length before + 0 < length orders = omega (arith, ap (λ (l : List Order). length l) is, length-append before (order ∷ after)) in
    let at : get_or orders (length before + 0) order ≡ order = ap (λ (l : List Order). get_or l (length before + 0) order) is ∙ get_or-append-add before (order ∷ after) 0 order in
    subst P at (all (length before + 0) order there)

good_is : (cond : Cond) → is_good cond ≡ true → cond ≡ Good
good_is Good h = refl
good_is read_only_zone h = absurd (cc)
good_is offline_zone h = absurd (cc)

none_refused : (cond : Cond) (error : DevError) → cond ≡ Good → changing cond None ≡ Some error → ⊥
none_refused cond error is h = let none : None ≡ Some error = sym (ap (λ (c : Cond). changing c None) is) ∙ h in cc

close_plain : (w : World) (order : Order) (zone : ℕ) (error : DevError) → order ≡ Manage zone Close → (issue w order).reply ≡ Err error → mount_error_of error ≡ IoError
    → (error ≡ Fault) ⊎ (changing (zone_at w.truth zone).cond None ≡ Some error)
close_plain w order zone error is fails io = fails_io w (Manage zone Close) error refl (ap (λ (o : Order). (issue w o).reply) (sym is) ∙ fails) io

close_fails_by : (w : World) (t : Truth) (error : DevError) → w.truth ≡ t → (issue_all w (closes t)).reply ≡ Err error → mount_error_of error ≡ IoError → error ≡ Fault
close_fails_by w t error same fails io =
    let at = failure_has_order w (closes t) error fails in
    let it = order_in (IsClose t) (closes t) at.before at.order at.after (are_closes t) at.parts in
    let cond : (zone_at (issue_all w at.before).world.truth it.zone).cond ≡ Good =
    (issue_all_keeps_zones w at.before).conditions it.zone ∙ ap (λ (u : Truth). (zone_at u it.zone).cond) same ∙ good_is (zone_at t it.zone).cond it.good in
    elim (close_plain (issue_all w at.before).world at.order it.zone error it.is at.failed io) [
      | inl fault ↦ fault
      | inr refused ↦ absurd (none_refused (zone_at (issue_all w at.before).world.truth it.zone).cond error cond refused)
    ]

-- ---- all commands

-- the first order failed, or it is done and one of the others failed
record GoesOn (w : World) (order : Order) (orders : List Order) (error : DevError) : Type 0 where
  done : (issue w order).reply ≡ Ok tt
  rest : (issue_all (issue w order).world orders).reply ≡ Err error

first_or_rest : (w : World) (order : Order) (orders : List Order) (error : DevError) (r : Reply) → (issue w order).reply ≡ r → (first_failure r (issue w order) (issue_all (issue w order).world orders)).reply ≡ Err error
    → ((issue w order).reply ≡ Err error) ⊎ GoesOn w order orders error
first_or_rest w order orders error (Ok unit) is fails = inr (record { done = is; rest = fails })
first_or_rest w order orders error (Err other) is fails = inl fails

closes_of_fail : (w : World) (t : Truth) (found : Result SuperBlock Why) (error : DevError) → w.truth ≡ t → (issue_all w (closes_of found t)).reply ≡ Err error → mount_error_of error ≡ IoError → error ≡ Fault
closes_of_fail w t (Ok super_block) error same fails io = close_fails_by w t error same fails io
closes_of_fail w t (Err why) error same fails io = absurd (cc)

no_report_refused : (error : DevError) → (let o : Option DevError = None in o ≡ Some error) → ⊥
no_report_refused error h = cc

after_report : (w : World) (t : Truth) (unfull : Bool) (found : Result SuperBlock Why) (error : DevError) → IsSound t → IsWithinLimits (geometry t) → is_zone0_unfull t ≡ unfull → w.truth ≡ t
    → (issue_all w ((if unfull then [] else read_copies ∷ []) ++ closes_of found t)).reply ≡ Err error → mount_error_of error ≡ IoError → (error ≡ Fault) ⊎ IsZone0Offline t
after_report w t true found error sound limits is same fails io = inl (closes_of_fail w t found error same fails io)
after_report w t false found error sound limits is same fails io = elim (first_or_rest w read_copies (closes_of found t) error (issue w read_copies).reply refl fails) [
  | inl read ↦ elim (fails_io w read_copies error refl read io) [
    | inl fault ↦ inl fault
    | inr refused ↦ inr (read_refused t (zone_at t 0).cond error refl (holds_both t sound limits is)
        (subst (λ (u : Truth). refusal u read_copies ≡ Some error) same refused))
  ]
  | inr rest ↦ inl (closes_of_fail (issue w read_copies).world t found error (read_leaves w 0 0 2 rest.done ∙ same) rest.rest io)
]

-- `io-error` is a fault's, or the super block's zone is offline
pub io_cause : (w : World) (given : List ℕ) (error : DevError) → IsSound w.truth → IsWithinLimits (geometry w.truth) → (issue_all w (mount_orders given w.truth)).reply ≡ Err error → mount_error_of error ≡ IoError
    → (error ≡ Fault) ⊎ IsZone0Offline w.truth
io_cause w given error sound limits fails io =
    let rest = (if is_zone0_unfull w.truth then [] else read_copies ∷ []) ++ closes_of (found_in given w.truth) w.truth in
    elim (first_or_rest w (report_all w.truth) rest error (issue w (report_all w.truth)).reply refl fails) [
      | inl report ↦ elim (fails_io w (report_all w.truth) error refl report io) [
        | inl fault ↦ inl fault
        | inr refused ↦ absurd (no_report_refused error refused)
      ]
      | inr after ↦ after_report (issue w (report_all w.truth)).world w.truth (is_zone0_unfull w.truth) (found_in given w.truth) error sound limits refl (report_leaves w 0 (length w.truth.zones) after.done) after.rest io
    ]
