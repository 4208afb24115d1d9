-- Why a call on a file answers `io-error`.
use Rattle.std.proofs.Common.{◌≡◌, ◌⊎◌, ℕ, ◌==◌, zero, suc, ◌+◌, ◌-◌, ◌*◌, ◌/◌, ◌<◌, ◌≤◌, Bool, true, false, List, [], ◌∷◌, ◌++◌, length, map, Option, Some, None, Ok, Err, refl, sym, ap, ◌∙◌, subst, inl, inr, arith, length-append}
use Rattle.std.specs.Prelude.{Result, IsErrOf, IfSome, if◌then◌else◌, option_map}
use Rattle.std.specs.List.{range_with_len}
use Rattle.std.proofs.lemmas.Bool.{false≢true, cases_lt, lt-ltb, le-ltb}
use Rattle.std.proofs.lemmas.List.{nil_from_length}
use Rattle.std.proofs.lemmas.List.FromFn.{length-map-range_with_len}
use Rattle.std.proofs.lemmas.Option.{same_Some}
use Rattle.zn_base.specs.Causes.{Rose}
use Rattle.zn_truth.specs.declared.Cond.{Cond}
use Rattle.zn_truth.specs.declared.Cond.TheVariants.{Good, ReadOnly as read_only_zone, Offline as offline_zone}
use Rattle.zn_truth.specs.declared.DevError.{DevError}
use Rattle.zn_truth.specs.declared.DevError.TheVariants.{ReadOnly, Offline, Unaligned, BeyondWp, Fault, TooManyActive, TooManyOpen}
use Rattle.zn_truth.specs.declared.Kind.TheVariants.{Conventional, Sequential}
use Rattle.zn_truth.specs.declared.Shape.{Shape}
use Rattle.zn_truth.specs.declared.ZoneOp.{ZoneOp}
use Rattle.zn_truth.specs.declared.ZoneOp.TheVariants.{Open as do_open, Reset, Finish}
use Rattle.zn_truth.specs.FailureLaws.{FailsAt, IsNamedBy, HasNamedCondition, IsInRange}
use Rattle.zn_truth.specs.Truth.{Truth, zone_at, is_good, is_offline, is_sequential, IsSound}
use Rattle.zn_truth.specs.Orders.{Order, ReadAt, WriteAt, Manage, FlushAll, Reply}
use Rattle.zn_truth.specs.OrderLists.{each_zone, first_failure, issue_all}
use Rattle.zn_truth.specs.World.{World, issue, geometry_of}
use Rattle.zn_truth.proofs.Failures.{failure_named, failure_has_order, issue_all_keeps_zones, each_is_in_range}
use Rattle.zn_truth.proofs.Issuing.{kind_is, kinds-length}
use Rattle.zn_truth.proofs.OrderLists.{done_goes_on, read_leaves}
use Rattle.zn_device.specs.States.{DeviceState, Commanded, Ordered}
use Rattle.zn_model.specs.declared.answers.Refusal.{Refusal}
use Rattle.zn_model.specs.declared.answers.Refusal.TheVariants.{IoError}
use Rattle.zn_model.specs.declared.files.Area.{Area}
use Rattle.zn_model.specs.declared.files.FileZones.{FileZones}
use Rattle.zn_model.specs.declared.files.Shown.{Shown}
use Rattle.zn_model.specs.OpenClose.{is_limit}
use Rattle.zn_model.specs.Pieces.{piece, read_in, write_in, reads, writes, zone_from, zone_to, Touched}
use Rattle.zn_model.specs.Recovery.{is_passed_on, refusal_of}
use Rattle.zn_model.specs.Volume.{Inodes, Live, Request, file_at, shown_at}
use Rattle.zn_model.specs.Reading.{read_end, read_area, read_orders}
use Rattle.zn_model.specs.Truncating.{truncate_orders}
use Rattle.zn_model.specs.Writing.{area_of}
use Rattle.zn_model.specs.ZoneFiles.{kind_of, zone_room_of, capacity_of, files_of}
use Rattle.zn_handle.specs.declared.handles.Open.{Open}
use Rattle.zn_handle.specs.HandleState as handles
use Rattle.zn_handle.specs.HandleState.{open_of}
use Rattle.zn_io.specs.Files.{IsFile, IsWritable, shape_of}
use Rattle.zn_io.proofs.Places.{zones_inside, touched, area_lies, read_lies}
use Rattle.zn_volume.specs.Causes.{RecoveryCause}
use Rattle.zn_volume.specs.Refusals.{is_failure, fails}
use Rattle.zn_volume.specs.VolumeState.{Agrees}
use Rattle.zn_volume.specs.IoErrors.{HasBadZone, HoldsOther, HasIoCause, IoErrorCause}

-- ---- zones that aren't good

bad_zone : (t : Truth) (file : FileZones) (i : ℕ) (cond : Cond) → i < file.zones → (zone_at t (file.first + i)).cond ≡ cond → is_good cond ≡ false → HasBadZone t file
bad_zone t file i cond inside is bad = record { zone = i; inside = inside; bad = ap is_good is ∙ bad }

pub first_bad : (t : Truth) (file : FileZones) (cond : Cond) → 0 < file.zones → (zone_at t file.first).cond ≡ cond → is_good cond ≡ false → HasBadZone t file
first_bad t file cond some is bad =
    let e : file.first ≡ file.first + 0 = omega arith in
    bad_zone t file 0 cond some (subst (λ (z : ℕ). (zone_at t z).cond ≡ cond) e is) bad

not_good : (cond : Cond) → is_offline cond ≡ true → is_good cond ≡ false
not_good Good h = absurd (cc)
not_good read_only_zone h = refl
not_good offline_zone h = refl

-- ---- the zone of a sequential file

seq_from : (file : FileZones) → kind_of file ≡ Sequential → file.seq ≡ true
seq_from file h = by_seq file.seq h
  where
    by_seq : (b : Bool) → (if b then Sequential else Conventional) ≡ Sequential → b ≡ true
    by_seq true h = refl
    by_seq false h = absurd (cc)

zone_kind : (w : World) (file : FileZones) (i : ℕ) → IsFile (geometry_of w) file → i < file.zones → (zone_at w.truth (file.first + i)).kind ≡ kind_of file
zone_kind w file i is inside = sym (kind_is w (file.first + i)) ∙ is.kinds i inside

-- the one order of a range of one comes first
first_alone : (order : ℕ → Order) (from to : ℕ) (before : List Order) (given : Order) (after : List Order) → each_zone order from to ≡ before ++ given ∷ after → to ≤ from + 1 → before ≡ []
unfolding each_zone
first_alone order from to before given after is one =
    let a : length (map order (range_with_len from (to - from))) ≡ to - from = length-map-range_with_len order from (to - from) in
    let b : length (before ++ given ∷ after) ≡ length before + (length after + 1) = length-append before (given ∷ after) ∙ (omega arith) in
    let c : length (map order (range_with_len from (to - from))) ≡ length (before ++ given ∷ after) = ap (λ (l : List Order). length l) is in
    nil_from_length before (omega (arith, a, b, c))

-- ---- reads leave what the device holds

first_done : (r : Reply) (w : World) (order : Order) (orders : List Order) → (issue w order).reply ≡ r → (first_failure r (issue w order) (issue_all (issue w order).world orders)).reply ≡ Ok tt → (issue w order).reply ≡ Ok tt
first_done (Ok unit) w order orders is ok = is
first_done (Err error) w order orders is ok = absurd (cc)

reads_leave : (a : Area) (w : World) (from n : ℕ) (before rest : List Order) → map (read_in a) (range_with_len from n) ≡ before ++ rest → (issue_all w before).reply ≡ Ok tt → (issue_all w before).world.truth ≡ w.truth
reads_leave a w from n [] rest is ok = refl
reads_leave a w from zero (order ∷ before) rest is ok = absurd (cc)
reads_leave a w from (suc n) (order ∷ before) rest is ok =
    let same : read_in a from ≡ order = cc in
    let others : map (read_in a) (range_with_len (from + 1) n) ≡ before ++ rest = cc in
    let done = first_done (issue w order).reply w order before refl ok in
    let goes = done_goes_on w order before done in
    let left : (issue w order).world.truth ≡ w.truth =
    subst (λ (o : Order). (issue w o).reply ≡ Ok tt → (issue w o).world.truth ≡ w.truth) same (read_leaves w (piece a from).zone (piece a from).at (piece a from).blocks) done in
    ap (λ o. o.world.truth) goes ∙ reads_leave a (issue w order).world (from + 1) n before rest others (sym (ap (λ o. o.reply) goes) ∙ ok) ∙ left

reads_before : (a : Area) (w : World) (before : List Order) (given : Order) (after : List Order) → reads a ≡ before ++ given ∷ after → (issue_all w before).reply ≡ Ok tt → (issue_all w before).world.truth ≡ w.truth
unfolding each_zone
reads_before a w before given after is ok = reads_leave a w (zone_from a) (zone_to a - zone_from a) before (given ∷ after) is ok

-- ---- writes

-- an area of the file's blocks
abbrev pub lain : Shape → FileZones → ℕ → ℕ → Area
lain shape file from blocks = record { first = file.first; room = zone_room_of shape file; from = from; blocks = blocks }

-- an order of a write names a zone of the file
pub write_bad : (w : World) (file : FileZones) (from blocks : ℕ) (bytes : List ℕ) (error : DevError) (cond : Cond) → zone_to (lain (shape_of w) file from blocks) ≤ file.zones → is_good cond ≡ false
    → ((z at : ℕ) (part : List ℕ) → HasNamedCondition error (WriteAt z at part) w.truth → (zone_at w.truth z).cond ≡ cond)
    → FailsAt w (writes (lain (shape_of w) file from blocks) bytes) error → HasBadZone w.truth file
write_bad w file from blocks bytes error cond within bad named fails =
    let a = lain (shape_of w) file from blocks in
    let at : IsInRange (write_in (lain (shape_of w) file from blocks) bytes) (zone_from (lain (shape_of w) file from blocks)) (zone_to (lain (shape_of w) file from blocks)) fails.order =
    each_is_in_range (write_in a bytes) (zone_from a) (zone_to a) fails.before fails.order fails.after fails.parts in
    bad_zone w.truth file at.index cond (omega (arith, at.below, within))
    (named (piece a at.index).zone (piece a at.index).at _ (subst (λ (o : Order). HasNamedCondition error o w.truth) at.is fails.condition)) bad

-- a write that is refused as unaligned names the one zone of a sequential file
pub write_unaligned : (w : World) (file : FileZones) (shown : Shown) (from blocks : ℕ) (bytes : List ℕ) → IsFile (geometry_of w) file → (file.seq ≡ true → file.zones ≡ 1)
    → zone_to (lain (shape_of w) file from blocks) ≤ file.zones → (file.seq ≡ true → shown.size ≡ 4096 * from)
    → FailsAt w (writes (lain (shape_of w) file from blocks) bytes) Unaligned → HoldsOther w.truth file shown
write_unaligned w file shown from blocks bytes is single within size fails =
    let a = lain (shape_of w) file from blocks in
    let at : IsInRange (write_in (lain (shape_of w) file from blocks) bytes) (zone_from (lain (shape_of w) file from blocks)) (zone_to (lain (shape_of w) file from blocks)) fails.order =
    each_is_in_range (write_in a bytes) (zone_from a) (zone_to a) fails.before fails.order fails.after fails.parts in
    let named = subst (λ (o : Order). IsNamedBy Unaligned o (issue_all w fails.before).world.truth) at.is fails.named.means in
    let sequential : file.seq ≡ true =
    seq_from file (sym (zone_kind w file at.index is (omega (arith, at.below, within)))
    ∙ sym ((issue_all_keeps_zones w fails.before).kinds (file.first + at.index)) ∙ named.kind) in
    let one : file.zones ≡ 1 = single sequential in
    let alone : fails.before ≡ [] = first_alone (write_in a bytes) (zone_from a) (zone_to a) fails.before fails.order fails.after fails.parts (omega (arith, within, one)) in
    let zero_at : at.index ≡ 0 = omega (arith, at.below, within, one) in
    record {
      sequential = sequential;
      other = λ same.
          let held : (zone_at w.truth file.first).held ≡ from = omega (arith, same, size sequential) in
          other_at at.index fails.before zero_at alone named.held held;
    }
  where
    other_at : (i : ℕ) (before : List Order) → i ≡ 0 → before ≡ [] → ((zone_at (issue_all w before).world.truth (file.first + i)).held ≡ from - i * zone_room_of (shape_of w) file → ⊥) → (zone_at w.truth file.first).held ≡ from → ⊥
    other_at i before none alone other held =
        let at_none : (zone_at (issue_all w before).world.truth (file.first + 0)).held ≡ from - 0 * zone_room_of (shape_of w) file → ⊥ =
        subst (λ (k : ℕ). (zone_at (issue_all w before).world.truth (file.first + k)).held ≡ from - k * zone_room_of (shape_of w) file → ⊥) none other in
        let at_first : (zone_at w.truth (file.first + 0)).held ≡ from - 0 * zone_room_of (shape_of w) file → ⊥ =
        subst (λ (l : List Order). (zone_at (issue_all w l).world.truth (file.first + 0)).held ≡ from - 0 * zone_room_of (shape_of w) file → ⊥) alone at_none in
        let e : file.first ≡ file.first + 0 = omega arith in
        at_first (subst (λ (z : ℕ). (zone_at w.truth z).held ≡ from) e held ∙ (omega arith))

-- a write that fails
pub write_cause : (error : DevError) (file : FileZones) (shown : Shown) (from blocks : ℕ) (bytes : List ℕ) (old new : DeviceState) → IsFile (geometry_of old.world) file → (file.seq ≡ true → file.zones ≡ 1)
    → zone_to (lain (shape_of old.world) file from blocks) ≤ file.zones → (file.seq ≡ true → shown.size ≡ 4096 * from)
    → Ordered (writes (lain (shape_of old.world) file from blocks) bytes) (Err error) old new → refusal_of error ≡ IoError → HasIoCause file shown old new
write_cause Fault file shown from blocks bytes old new is single within size h io = inl (h.caused.cause.fault refl)
write_cause ReadOnly file shown from blocks bytes old new is single within size h io =
    inr (inl (write_bad old.world file from blocks bytes ReadOnly read_only_zone within refl (λ z at part has. has) (failure_has_order old.world _ ReadOnly (sym (h.obeys.reply refl)))))
write_cause Offline file shown from blocks bytes old new is single within size h io =
    inr (inl (write_bad old.world file from blocks bytes Offline offline_zone within refl (λ z at part has. has) (failure_has_order old.world _ Offline (sym (h.obeys.reply refl)))))
write_cause Unaligned file shown from blocks bytes old new is single within size h io =
    inr (inr (write_unaligned old.world file shown from blocks bytes is single within size (failure_has_order old.world _ Unaligned (sym (h.obeys.reply refl)))))
write_cause BeyondWp file shown from blocks bytes old new is single within size h io =
    let fails = failure_has_order old.world _ BeyondWp (sym (h.obeys.reply refl)) in
    let a = lain (shape_of old.world) file from blocks in
    let at = each_is_in_range (write_in a bytes) (zone_from a) (zone_to a) fails.before fails.order fails.after fails.parts in
    absurd (subst (λ (o : Order). IsNamedBy BeyondWp o (issue_all old.world fails.before).world.truth) at.is fails.named.means)
write_cause _ file shown from blocks bytes old new is single within size h io = absurd (cc)

-- ---- reads

pub read_bad : (w : World) (file : FileZones) (from blocks : ℕ) (error : DevError) (cond : Cond) → zone_to (lain (shape_of w) file from blocks) ≤ file.zones → is_good cond ≡ false
    → ((z at n : ℕ) → HasNamedCondition error (ReadAt z at n) w.truth → (zone_at w.truth z).cond ≡ cond)
    → FailsAt w (reads (lain (shape_of w) file from blocks)) error → HasBadZone w.truth file
read_bad w file from blocks error cond within bad named fails =
    let a = lain (shape_of w) file from blocks in
    let at : IsInRange (read_in (lain (shape_of w) file from blocks)) (zone_from (lain (shape_of w) file from blocks)) (zone_to (lain (shape_of w) file from blocks)) fails.order =
    each_is_in_range (read_in a) (zone_from a) (zone_to a) fails.before fails.order fails.after fails.parts in
    bad_zone w.truth file at.index cond (omega (arith, at.below, within))
    (named (piece a at.index).zone (piece a at.index).at (piece a at.index).blocks (subst (λ (o : Order). HasNamedCondition error o w.truth) at.is fails.condition)) bad

-- the blocks that the failed order asks for lie in the zone's room
piece_inside : (a : Area) (i : ℕ) → Touched a i → (piece a i).at + (piece a i).blocks ≤ a.room
piece_inside a i h = omega (arith, h.from, h.to)

-- a conventional zone ends before what is read of it only where it is offline
conventional_bad : (w : World) (file : FileZones) (i end : ℕ) → IsSound w.truth → IsFile (geometry_of w) file → file.seq ≡ false → i < file.zones
    → (zone_at w.truth (file.first + i)).held < end → end ≤ zone_room_of (shape_of w) file → HasBadZone w.truth file
unfolding geometry_of
conventional_bad w file i end sound is conventional inside short fits =
    let kind : (zone_at w.truth (file.first + i)).kind ≡ Conventional = zone_kind w file i is inside ∙ ap (λ (b : Bool). if b then Sequential else Conventional) conventional in
    let zone = sound.zones (file.first + i) (omega (arith, inside, is.inside, kinds-length w)) in
    let room : zone_room_of (shape_of w) file ≡ w.truth.shape.zone_blocks = ap (λ (b : Bool). zone_room_of (shape_of w) (record file { seq = b })) conventional in
    let other : is_sequential (zone_at w.truth (file.first + i)).kind ≡ true → ⊥ = λ h. false≢true (sym (ap is_sequential kind) ∙ h) in
    elim (is_offline (zone_at w.truth (file.first + i)).cond) as (λ (b : Bool). is_offline (zone_at w.truth (file.first + i)).cond ≡ b → HasBadZone w.truth file) [
      | true ↦ λ off. record { zone = i; inside = inside; bad = not_good (zone_at w.truth (file.first + i)).cond off }
      | false ↦ λ on.
          let all : (zone_at w.truth (file.first + i)).held ≡ w.truth.shape.zone_blocks = zone.conventional other (λ off. false≢true (sym on ∙ off)) in
          absurd (omega (arith, all, room, short, fits))
    ] refl

-- a read past what the zone holds
pub read_beyond : (w : World) (file : FileZones) (shown : Shown) (from blocks : ℕ) → IsSound w.truth → IsFile (geometry_of w) file → (file.seq ≡ true → file.zones ≡ 1)
    → zone_to (lain (shape_of w) file from blocks) ≤ file.zones → ((i : ℕ) → zone_from (lain (shape_of w) file from blocks) ≤ i → i < zone_to (lain (shape_of w) file from blocks) → Touched (lain (shape_of w) file from blocks) i)
    → ((k : ℕ) → k < from + blocks → 4096 * k < shown.size)
    → FailsAt w (reads (lain (shape_of w) file from blocks)) BeyondWp → HasBadZone w.truth file ⊎ HoldsOther w.truth file shown
read_beyond w file shown from blocks sound is single within touched size fails =
    let a = lain (shape_of w) file from blocks in
    let at : IsInRange (read_in (lain (shape_of w) file from blocks)) (zone_from (lain (shape_of w) file from blocks)) (zone_to (lain (shape_of w) file from blocks)) fails.order =
    each_is_in_range (read_in a) (zone_from a) (zone_to a) fails.before fails.order fails.after fails.parts in
    let beyond = subst (λ (o : Order). IsNamedBy BeyondWp o (issue_all w fails.before).world.truth) at.is fails.named.means in
    let short : (zone_at w.truth (file.first + at.index)).held < (piece (lain (shape_of w) file from blocks) at.index).at + (piece (lain (shape_of w) file from blocks) at.index).blocks =
    subst (λ (t : Truth). (zone_at t (file.first + at.index)).held < (piece a at.index).at + (piece a at.index).blocks) (reads_before a w fails.before fails.order fails.after fails.parts fails.done) beyond in
    elim file.seq as (λ (b : Bool). file.seq ≡ b → HasBadZone w.truth file ⊎ HoldsOther w.truth file shown) [
      | true ↦ λ sequential.
          let none : at.index ≡ 0 = omega (arith, at.below, within, single sequential) in
          inr (record { sequential = sequential; other = λ same. below_shown (subst (λ (i : ℕ). (zone_at w.truth (file.first + i)).held < (piece (lain (shape_of w) file from blocks) i).at + (piece (lain (shape_of w) file from blocks) i).blocks) none short) same })
      | false ↦ λ conventional.
          inl (conventional_bad w file at.index _ sound is conventional (omega (arith, at.below, within)) short (piece_inside a at.index (touched at.index at.least at.below)))
    ] refl
  where
    below_shown : (zone_at w.truth (file.first + 0)).held < (piece (lain (shape_of w) file from blocks) 0).at + (piece (lain (shape_of w) file from blocks) 0).blocks → 4096 * (zone_at w.truth file.first).held ≡ shown.size → ⊥
    below_shown short same =
        let e : file.first + 0 ≡ file.first = omega arith in
        let held : (zone_at w.truth file.first).held < (piece (lain (shape_of w) file from blocks) 0).at + (piece (lain (shape_of w) file from blocks) 0).blocks =
        subst (λ (z : ℕ). (zone_at w.truth z).held < (piece (lain (shape_of w) file from blocks) 0).at + (piece (lain (shape_of w) file from blocks) 0).blocks) e short in
        let below : (zone_at w.truth file.first).held < from + blocks = omega (arith, held) in
        let more = size (zone_at w.truth file.first).held below in
        absurd (omega (arith, more, same))

-- a read that fails
pub read_cause : (error : DevError) (file : FileZones) (shown : Shown) (from blocks : ℕ) (old new : DeviceState) → IsSound old.world.truth → IsFile (geometry_of old.world) file → (file.seq ≡ true → file.zones ≡ 1)
    → zone_to (lain (shape_of old.world) file from blocks) ≤ file.zones
    → ((i : ℕ) → zone_from (lain (shape_of old.world) file from blocks) ≤ i → i < zone_to (lain (shape_of old.world) file from blocks) → Touched (lain (shape_of old.world) file from blocks) i)
    → ((k : ℕ) → k < from + blocks → 4096 * k < shown.size)
    → Ordered (reads (lain (shape_of old.world) file from blocks)) (Err error) old new → refusal_of error ≡ IoError → HasIoCause file shown old new
read_cause Fault file shown from blocks old new sound is single within touched size h io = inl (h.caused.cause.fault refl)
read_cause ReadOnly file shown from blocks old new sound is single within touched size h io =
    inr (inl (read_bad old.world file from blocks ReadOnly read_only_zone within refl (λ z at n has. has) (failure_has_order old.world _ ReadOnly (sym (h.obeys.reply refl)))))
read_cause Offline file shown from blocks old new sound is single within touched size h io =
    inr (inl (read_bad old.world file from blocks Offline offline_zone within refl (λ z at n has. has) (failure_has_order old.world _ Offline (sym (h.obeys.reply refl)))))
read_cause BeyondWp file shown from blocks old new sound is single within touched size h io =
    inr (read_beyond old.world file shown from blocks sound is single within touched size (failure_has_order old.world _ BeyondWp (sym (h.obeys.reply refl))))
read_cause Unaligned file shown from blocks old new sound is single within touched size h io =
    let fails = failure_has_order old.world _ Unaligned (sym (h.obeys.reply refl)) in
    let a = lain (shape_of old.world) file from blocks in
    let at = each_is_in_range (read_in a) (zone_from a) (zone_to a) fails.before fails.order fails.after fails.parts in
    absurd (subst (λ (o : Order). IsNamedBy Unaligned o (issue_all old.world fails.before).world.truth) at.is fails.named.means)
read_cause _ file shown from blocks old new sound is single within touched size h io = absurd (cc)

-- ---- zone commands

-- the order manages this zone
pub record Managing (z : ℕ) (order : Order) : Type 0 where
  pub op : ZoneOp
  pub is : order ≡ Manage z op

-- an open or a close of a file's zone that fails
pub manage_cause : (error : DevError) (op : ZoneOp) (file : FileZones) (shown : Shown) (old new : DeviceState) → IsFile (geometry_of old.world) file
    → Commanded (Manage file.first op) (Err error) old new → refusal_of error ≡ IoError → HasIoCause file shown old new
manage_cause Fault op file shown old new is h io = inl (h.caused.cause.fault refl)
manage_cause ReadOnly op file shown old new is h io =
    inr (inl (first_bad old.world.truth file read_only_zone is.some (failure_named old.world (Manage file.first op) ReadOnly (sym (h.obeys.reply refl))).means refl))
manage_cause Offline op file shown old new is h io =
    inr (inl (first_bad old.world.truth file offline_zone is.some (failure_named old.world (Manage file.first op) Offline (sym (h.obeys.reply refl))).means refl))
manage_cause Unaligned op file shown old new is h io = absurd (failure_named old.world (Manage file.first op) Unaligned (sym (h.obeys.reply refl))).means
manage_cause BeyondWp op file shown old new is h io = absurd (failure_named old.world (Manage file.first op) BeyondWp (sym (h.obeys.reply refl))).means
manage_cause _ op file shown old new is h io = absurd (cc)

-- every order of a truncation manages the file's zone
all_manage : (z : ℕ) (ops : List ZoneOp) (before : List Order) (given : Order) (after : List Order) → map (λ op. Manage z op) ops ≡ before ++ given ∷ after → Managing z given
all_manage z [] [] given after is = absurd (cc)
all_manage z [] (order ∷ before) given after is = absurd (cc)
all_manage z (op ∷ ops) [] given after is = record { op = op; is = cc }
all_manage z (op ∷ ops) (order ∷ before) given after is = all_manage z ops before given after (cc)

abbrev truncate_ops : Shown → ℕ → List ZoneOp
truncate_ops shown size = if size == 0 then Reset ∷ (if shown.held_open then do_open ∷ [] else []) else Finish ∷ []

truncate_manages : (file : FileZones) (shown : Shown) (size : ℕ) → map (λ op. Manage file.first op) (truncate_ops shown size) ≡ truncate_orders file shown size
truncate_manages file shown size = by_size (size == 0) shown.held_open
  where
    by_size : (none held : Bool) → map (λ op. Manage file.first op) (if none then Reset ∷ (if held then do_open ∷ [] else []) else Finish ∷ []) ≡ (if none then Manage file.first Reset ∷ (if held then Manage file.first do_open ∷ [] else []) else Manage file.first Finish ∷ [])
    by_size true true = refl
    by_size true false = refl
    by_size false true = refl
    by_size false false = refl

pub truncate_order : (w : World) (file : FileZones) (shown : Shown) (size : ℕ) (error : DevError) (fails : FailsAt w (truncate_orders file shown size) error) → Managing file.first fails.order
truncate_order w file shown size error fails = all_manage file.first (truncate_ops shown size) fails.before fails.order fails.after (truncate_manages file shown size ∙ fails.parts)

-- ---- calls

-- a truncation that fails
pub truncate_fails : (error : DevError) (file : FileZones) (shown before : Shown) (size : ℕ) (old new : DeviceState) → IsFile (geometry_of old.world) file
    → Ordered (truncate_orders file shown size) (Err error) old new → refusal_of error ≡ IoError → HasIoCause file before old new
truncate_fails Fault file shown before size old new is h io = inl (h.caused.cause.fault refl)
truncate_fails ReadOnly file shown before size old new is h io =
    let fails = failure_has_order old.world (truncate_orders file shown size) ReadOnly (sym (h.obeys.reply refl)) in
    inr (inl (first_bad old.world.truth file read_only_zone is.some (subst (λ (o : Order). HasNamedCondition ReadOnly o old.world.truth) (truncate_order old.world file shown size ReadOnly fails).is fails.condition) refl))
truncate_fails Offline file shown before size old new is h io =
    let fails = failure_has_order old.world (truncate_orders file shown size) Offline (sym (h.obeys.reply refl)) in
    inr (inl (first_bad old.world.truth file offline_zone is.some (subst (λ (o : Order). HasNamedCondition Offline o old.world.truth) (truncate_order old.world file shown size Offline fails).is fails.condition) refl))
truncate_fails Unaligned file shown before size old new is h io =
    let fails = failure_has_order old.world (truncate_orders file shown size) Unaligned (sym (h.obeys.reply refl)) in
    absurd (subst (λ (o : Order). IsNamedBy Unaligned o (issue_all old.world fails.before).world.truth) (truncate_order old.world file shown size Unaligned fails).is fails.named.means)
truncate_fails BeyondWp file shown before size old new is h io =
    let fails = failure_has_order old.world (truncate_orders file shown size) BeyondWp (sym (h.obeys.reply refl)) in
    absurd (subst (λ (o : Order). IsNamedBy BeyondWp o (issue_all old.world fails.before).world.truth) (truncate_order old.world file shown size BeyondWp fails).is fails.named.means)
truncate_fails _ file shown before size old new is h io = absurd (cc)

-- a write of these bytes that fails
pub write_fails : (error : DevError) (file : FileZones) (shown : Shown) (offset : ℕ) (bytes : List ℕ) (old new : DeviceState) → IsFile (geometry_of old.world) file → (file.seq ≡ true → file.zones ≡ 1)
    → IsWritable (shape_of old.world) file shown offset (length bytes) → (file.seq ≡ true → offset ≡ shown.size)
    → Ordered (writes (area_of (shape_of old.world) file offset (length bytes)) bytes) (Err error) old new → refusal_of error ≡ IoError → HasIoCause file shown old new
write_fails error file shown offset bytes old new is single writable at_end h io =
    let lies = area_lies (geometry_of old.world) file shown offset (length bytes) is writable in
    let within = zones_inside (offset / 4096 + length bytes / 4096) file.zones (zone_room_of (shape_of old.world) file) lies.room (omega (arith, lies.some)) lies.inside in
    write_cause error file shown (offset / 4096) (length bytes / 4096) bytes old new is single (omega (arith, within)) (λ sequential. omega (arith, at_end sequential, writable.aligned)) h io

-- a read of so many bytes that fails
pub read_fails : (error : DevError) (file : FileZones) (shown : Shown) (offset len : ℕ) (old new : DeviceState) → IsSound old.world.truth → IsFile (geometry_of old.world) file → (file.seq ≡ true → file.zones ≡ 1)
    → shown.size ≤ capacity_of (shape_of old.world) file
    → Ordered (read_orders (shape_of old.world) file offset (read_end shown offset len)) (Err error) old new → refusal_of error ≡ IoError → HasIoCause file shown old new
read_fails error file shown offset len old new sound is single size h io = elim (cases_lt offset (read_end shown offset len)) [
  | inl some ↦
      let end = read_end shown offset len in
      let lies = read_lies (geometry_of old.world) file offset end is some (omega (arith, size)) in
      let blocks = (end + 4095) / 4096 - offset / 4096 in
      let within = zones_inside (offset / 4096 + blocks) file.zones (zone_room_of (shape_of old.world) file) lies.room (omega (arith, lies.some)) lies.inside in
      read_cause error file shown (offset / 4096) blocks old new sound is single (omega (arith, within))
      (λ i above below. touched (read_area (shape_of old.world) file offset end) i lies.room lies.some above below)
      (λ k below. omega (arith, below, some))
      (subst (λ (b : Bool). Ordered (if b then reads (read_area (shape_of old.world) file offset end) else []) (Err error) old new) (lt-ltb offset end some) h) io
  | inr none ↦ absurd (nothing error (subst (λ (b : Bool). Ordered (if b then reads (read_area (shape_of old.world) file offset (read_end shown offset len)) else []) (Err error) old new) (le-ltb offset (read_end shown offset len) none) h) io)
]
  where
    nothing : (error : DevError) → Ordered [] (Err error) old new → refusal_of error ≡ IoError → ⊥
    nothing ReadOnly h io = absurd (cc (h.obeys.reply refl))
    nothing Offline h io = absurd (cc (h.obeys.reply refl))
    nothing Unaligned h io = absurd (cc (h.obeys.reply refl))
    nothing BeyondWp h io = absurd (cc (h.obeys.reply refl))
    nothing Fault h io = absurd (cc (h.obeys.reply refl))
    nothing _ h io = absurd (cc)

-- ---- what follows

later_on : (error : DevError) (refusal : Refusal) (mid new : DeviceState) → RecoveryCause error refusal mid new → mid.faults ≤ new.faults
later_on error refusal mid new recovery = elim (is_passed_on error) as (λ (b : Bool). is_passed_on error ≡ b → mid.faults ≤ new.faults) [
  | true ↦ λ passed. subst (λ (s : DeviceState). mid.faults ≤ s.faults) (sym (recovery.still passed)) (omega arith)
  | false ↦ λ here. (recovery.caused here).later
] refl

rose_before : (a b c : ℕ) → Rose a b → b ≤ c → Rose a c
rose_before a b c rose h = omega arith

err_same : {X : Type 0} (a b : Refusal) → let r : Result X Refusal = Err a in r ≡ Err b → a ≡ b
err_same a b h = cc

-- a failed command, and what followed it
pub failed_io : {X : Type 0} (error : DevError) (refusal : Refusal) (inodes : Inodes) (f : ℕ) (old mid new : DeviceState) → RecoveryCause error refusal mid new
    → (refusal_of error ≡ IoError → HasIoCause (file_at inodes f) (shown_at inodes f) old mid) → IoErrorCause {X = X} (Err refusal) inodes f old new
failed_io error refusal inodes f old mid new recovery why = record {
  cause = λ is. elim (why (recovery.io_error (err_same refusal IoError is))) [
    | inl rose ↦ inl (rose_before old.faults mid.faults new.faults rose (later_on error refusal mid new recovery))
    | inr zones ↦ inr zones
  ];
}

-- a flush that fails: no condition refuses it, so there was a fault
flush_cause : (error : DevError) (old new : DeviceState) → Commanded FlushAll (Err error) old new → refusal_of error ≡ IoError → Rose old.faults new.faults
flush_cause Fault old new h io = h.caused.cause.fault refl
flush_cause ReadOnly old new h io = absurd (failure_named old.world FlushAll ReadOnly (sym (h.obeys.reply refl))).means
flush_cause Offline old new h io = absurd (failure_named old.world FlushAll Offline (sym (h.obeys.reply refl))).means
flush_cause Unaligned old new h io = absurd (failure_named old.world FlushAll Unaligned (sym (h.obeys.reply refl))).means
flush_cause BeyondWp old new h io = absurd (failure_named old.world FlushAll BeyondWp (sym (h.obeys.reply refl))).means
flush_cause _ old new h io = absurd (cc)

-- and what followed it
pub flush_fails : {X : Type 0} (error : DevError) (refusal : Refusal) (old mid new : DeviceState) → RecoveryCause error refusal mid new → Commanded FlushAll (Err error) old mid
    → IsErrOf {T = X} (Err refusal) IoError → Rose old.faults new.faults
flush_fails error refusal old mid new recovery h is =
    rose_before old.faults mid.faults new.faults (flush_cause error old mid h (recovery.io_error (err_same refusal IoError is))) (later_on error refusal mid new recovery)

-- the checks' answer
not_io_error : (refusal : Refusal) → is_failure refusal ≡ false → refusal ≡ IoError → ⊥
not_io_error IoError h is = cc
not_io_error _ h is = absurd (cc)

unfailing_io : {X : Type 0} (result : Result X Refusal) → fails result ≡ false → IsErrOf result IoError → ⊥
unfailing_io (Ok value) told is = absurd (cc)
unfailing_io (Err refusal) told is = not_io_error refusal told (err_same refusal IoError is)

-- an answer that isn't `io-error`
other_io : {X : Type 0} (result : Result X Refusal) (inodes : Inodes) (f : ℕ) (old new : DeviceState) → (IsErrOf result IoError → ⊥) → IoErrorCause result inodes f old new
other_io result inodes f old new other = record { cause = λ is. absurd (other is) }

-- an answer of the checks
pub checked_io : {X : Type 0} (result : Result X Refusal) (inodes : Inodes) (f : ℕ) (s : DeviceState) → fails result ≡ false → IoErrorCause result inodes f s s
checked_io result inodes f s told = other_io result inodes f s s (unfailing_io result told)

-- a call that is done
pub done_io : {X : Type 0} (value : X) (inodes : Inodes) (f : ℕ) (old new : DeviceState) → IoErrorCause (Ok value) inodes f old new
done_io value inodes f old new = other_io (Ok value) inodes f old new (λ is. cc)

-- a limit of the device
limit_told : (error : DevError) → is_limit error ≡ true → refusal_of error ≡ IoError → ⊥
limit_told TooManyActive h is = cc
limit_told TooManyOpen h is = cc
limit_told _ h is = absurd (cc)

pub limit_io : {X : Type 0} (error : DevError) (inodes : Inodes) (f : ℕ) (old new : DeviceState) → is_limit error ≡ true → IoErrorCause {X = X} (Err (refusal_of error)) inodes f old new
limit_io error inodes f old new limit = other_io (Err (refusal_of error)) inodes f old new (λ is. limit_told error limit (err_same (refusal_of error) IoError is))

-- the file of a live handle
pub live_io : {X : Type 0} (found : Option Live) (on : Open) (result : Result X Refusal) (inodes : Inodes) (old new : DeviceState) → Some on ≡ option_map open_of found
    → IoErrorCause result inodes on.file old new → IfSome found (λ live. IoErrorCause result inodes live.file old new)
live_io None on result inodes old new is cause = tt
live_io (Some live) on result inodes old new is cause = subst (λ (o : Open). IoErrorCause result inodes o.file old new) (same_Some on (open_of live) is) cause

-- an answer that isn't `io-error`, through any handle
pub none_io : {X : Type 0} (found : Option Live) (result : Result X Refusal) (inodes : Inodes) (old new : DeviceState) → (IsErrOf result IoError → ⊥) → IfSome found (λ live. IoErrorCause result inodes live.file old new)
none_io None result inodes old new other = tt
none_io (Some live) result inodes old new other = other_io result inodes live.file old new other

-- a file shows no more than it has room for on its device
pub room_in : (w : World) (inodes : Inodes) (seen : handles.HandleState) (queued : List Request) (infos scratch : ℕ) (f : ℕ) → Agrees w inodes seen queued infos scratch → f < length (files_of inodes.layout) → (shown_at inodes f).size ≤ capacity_of (shape_of w) (file_at inodes f)
room_in w inodes seen queued infos scratch f agrees known =
    subst (λ (shape : Shape). (shown_at inodes f).size ≤ capacity_of shape (file_at inodes f)) agrees.shape (agrees.sizes.size f known)
