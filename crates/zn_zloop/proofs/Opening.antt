-- A device that was found is one that a device over files begins with.
use Rattle.std.proofs.Common.{◌≡◌, inl, inr, ℕ, zero, suc, ◌+◌, ◌*◌, ◌<◌, ◌≤◌, Bool, true, false, cond, List, [], ◌∷◌, ◌++◌, length, map, replicate, get_or, Option, Some, None, Ok, refl, sym, ap, ◌∙◌, subst, arith}
use Rattle.std.specs.List.{range_with_len, zip}
use Rattle.std.specs.Option.{option_map}
use Rattle.std.proofs.lemmas.Bool.{false≢true, cases_lt}
use Rattle.std.proofs.lemmas.List.{ext_get_or, length-map, length-replicate, nil_from_length, get_or_push, get_or_append_left, length_push}
use Rattle.std.proofs.lemmas.Option.{same_Some}
use Rattle.zn_truth.specs.declared.Kind.{Kind}
use Rattle.zn_truth.specs.declared.Kind.TheVariants.{Conventional, Sequential}
use Rattle.zn_truth.specs.declared.Cond.{Cond}
use Rattle.zn_truth.specs.declared.Cond.TheVariants.{Good, ReadOnly, Offline}
use Rattle.zn_truth.specs.declared.Shape.{Shape}
use Rattle.zn_truth.specs.declared.ZoneInfo.{ZoneInfo}
use Rattle.zn_truth.specs.Truth.{Zone, Truth, geometry, zone_at, no_zone, info_at, room, active, explicit, cleared, is_sequential, is_offline, IsSoundZone, IsSound}
use Rattle.zn_truth.specs.Limits.{IsWithinLimits}
use Rattle.zn_truth.proofs.SoundLoss.{count_by-none}
use Rattle.zn_zone.specs.Facts.{ZoneFacts, Facts, zone_facts, facts_of, facts_at, bare, reported_zone, reported, IsStartZone, IsStart}
use Rattle.zn_zone.specs.Machine.{Machine, facts}
use Rattle.zn_zone.proofs.ByFacts.{active-bare}
use Rattle.zn_zone.proofs.Truths.{facts_at-zone}
use Rattle.zn_stand.specs.declared.numbers.Geometry.{Geometry}
use Rattle.zn_stand.specs.File.{at_rest as file_at_rest}
use Rattle.zn_stand.specs.Directory.{Directory, Contents, bytes_at, rested}
use Rattle.zn_stand.specs.ZoneNames.{kind_of, kinds_of, geometry_of_device, zone_name}
use Rattle.zn_stand.specs.Standing.{IsZoneFile, StandsFor}
use Rattle.zn_stand.specs.AtRest.{at_rest, IsRestedZone, IsDeviceAtRest}
use Rattle.zn_stand.proofs.Directories.{file-rested}
use Rattle.zn_stand.proofs.DeviceNames.{HasKinds, has_kinds}
use Rattle.zn_stand.proofs.DeviceRest.{stands, sound_at_rest}
use Rattle.zn_backing.specs.Looks.{started_zone, no_info}
use Rattle.zn_backing.specs.Actives.{IsStartOf, Finds}
use Rattle.zn_zloop.specs.declared.kept.Kept.{Kept}
use Rattle.zn_zloop.specs.Kept.{is_listed}
use Rattle.zn_zloop.specs.Seen.{bytes_in, bytes_seen, zone_seen, truth_seen}
use Rattle.zn_zloop.specs.Holding.{HoldsWhereTold, AreKept, IsSoundZloop}
use Rattle.zn_zloop.specs.Telling.{IsZloop}
use Rattle.zn_zloop.specs.Opening.{flagged, IsDurable, AreDurable, Begins, HoldsFoundWhereTold}
use Rattle.zn_zloop.proofs.Sight.{seen_at, facts_of-seen, zones-seen}
use Rattle.zn_zloop.proofs.Commanding.{zloop_holds}
use Rattle.zn_zloop.proofs.Rested.{holds_rest, frames_rest}

-- ---- what is kept of zones

pub durable_none : (geo : Geometry) (infos : List ZoneInfo) (kepts : List Kept) → kepts ≡ [] → AreDurable geo infos 0 kepts
durable_none geo infos kepts none = record { count = ap length none; each = λ z other below. absurd (omega arith) }

pub durable_more : (geo : Geometry) (infos : List ZoneInfo) (n : ℕ) (kepts new : List Kept) (kept : Kept) (kind : Kind) (held : ℕ) → AreDurable geo infos n kepts → kind ≡ kind_of geo n → held ≡ (get_or infos n no_info).held → IsDurable kind held kept
    → new ≡ kepts ++ kept ∷ [] → AreDurable geo infos (n + 1) new
durable_more geo infos n kepts new kept kind held before kind_is held_is durable is = subst (AreDurable geo infos (n + 1)) (sym is) (record {
  count = length_push kepts kept ∙ ap (λ k. k + 1) before.count;
  each = λ z other below. elim (cases_lt z n) [
    | inl early ↦ subst (IsDurable (kind_of geo z) (get_or infos z no_info).held) (sym (get_or_append_left kepts (kept ∷ []) other z (omega (arith, before.count)))) (before.each z other early)
    | inr late ↦
        let last : n ≡ z = omega arith in
        let here : get_or (kepts ++ kept ∷ []) n other ≡ kept = get_or_push kepts kept other n before.count in
        subst (λ (k : ℕ). IsDurable (kind_of geo k) (get_or infos k no_info).held (get_or (kepts ++ kept ∷ []) k other)) last
        (subst (IsDurable (kind_of geo n) (get_or infos n no_info).held) (sym here)
        (subst (λ (h : ℕ). IsDurable (kind_of geo n) h kept) held_is (subst (λ (k : Kind). IsDurable k held kept) kind_is durable)))
  ];
})

-- the same by the facts of the zones
record AllDurable (f : Facts) (kepts : List Kept) : Type 0 where
  count : length kepts ≡ length f.zones
  each : (z : ℕ) (other : Kept) → z < length kepts → IsDurable (facts_at f z).kind (facts_at f z).held (get_or kepts z other)

any_kept : (kepts : List Kept) (z : ℕ) → z < length kepts → Kept
any_kept [] z below = absurd (omega arith)
any_kept (kept ∷ kepts) z below = kept

flags_clear : (flags : List Bool) (n : ℕ) → flags ≡ replicate n false → flags ≡ cleared flags
flags_clear flags n is = is ∙ ap (λ m. replicate m false) (sym (ap length is ∙ length-replicate n false))

are_kept : (f : Facts) (kepts : List Kept) → AllDurable f kepts → AreKept f kepts []
are_kept f kepts all = record {
  count = all.count;
  each = λ z other below. let own : IsDurable (facts_at f z).kind (facts_at f z).held (get_or kepts z other) = all.each z other below in record {
    durable = λ clean. own.durable;
    flushed = λ clean. flags_clear (get_or kepts z other).unflushed.items (flagged (facts_at f z).kind (facts_at f z).held) own.unflushed;
    in_list = λ listed. absurd (false≢true (sym (ap is_listed own.mark) ∙ listed));
  };
  numbers = λ i below. absurd (omega arith);
}

-- ---- what is reported

reported_from : (geo : Geometry) (a : ℕ) (infos : List ZoneInfo) (i : ℕ) → i < length infos → get_or (map reported_zone (zip (map (kind_of geo) (range_with_len a (length infos))) infos)) i (zone_facts no_zone) ≡ started_zone geo (a + i) (get_or infos i no_info)
reported_from geo a [] i within = absurd (omega arith)
reported_from geo a (info ∷ infos) zero within = let at : a ≡ a + 0 = omega arith in ap (λ n. started_zone geo n info) at
reported_from geo a (info ∷ infos) (suc i) within = let at : a + 1 + i ≡ a + suc i = omega arith in reported_from geo (a + 1) infos i (omega arith) ∙ ap (λ n. started_zone geo n (get_or infos i no_info)) at

count_from : (geo : Geometry) (a : ℕ) (infos : List ZoneInfo) → length (map reported_zone (zip (map (kind_of geo) (range_with_len a (length infos))) infos)) ≡ length infos
count_from geo a [] = refl
count_from geo a (info ∷ infos) = let rest : length (map reported_zone (zip (map (kind_of geo) (range_with_len (a + 1) (length infos))) infos)) ≡ length infos = count_from geo (a + 1) infos in omega arith

reported_at : (geo : Geometry) (infos : List ZoneInfo) (z : ℕ) → length infos ≡ geo.zones → z < geo.zones → facts_at (reported geo.shape (kinds_of geo) infos) z ≡ started_zone geo z (get_or infos z no_info)
reported_at geo infos z count below =
    let number : 0 + z ≡ z = omega arith in
    ap (λ n. get_or (map reported_zone (zip (map (kind_of geo) (range_with_len 0 n)) infos)) z (zone_facts no_zone)) (sym count)
    ∙ reported_from geo 0 infos z (omega arith) ∙ ap (λ n. started_zone geo n (get_or infos z no_info)) number

count_reported : (geo : Geometry) (infos : List ZoneInfo) → length infos ≡ geo.zones → length (reported geo.shape (kinds_of geo) infos).zones ≡ geo.zones
count_reported geo infos count = ap (λ n. length (map reported_zone (zip (map (kind_of geo) (range_with_len 0 n)) infos))) (sym count) ∙ count_from geo 0 infos ∙ count

all_durable : (geo : Geometry) (infos : List ZoneInfo) (kepts : List Kept) → length infos ≡ geo.zones → AreDurable geo infos geo.zones kepts → AllDurable (reported geo.shape (kinds_of geo) infos) kepts
all_durable geo infos kepts count are = record {
  count = are.count ∙ sym (count_reported geo infos count);
  each = λ z other below.
      let there : z < geo.zones = omega (arith, are.count) in
      subst (λ (zone : ZoneFacts). IsDurable zone.kind zone.held (get_or kepts z other)) (sym (reported_at geo infos z count there)) (are.each z other there);
}

-- the zones of a device are reported so
reported_is : (t : Truth) (geo : Geometry) (infos : List ZoneInfo) → geometry t ≡ geometry_of_device geo → length infos ≡ geo.zones → ((z : ℕ) → z < geo.zones → get_or infos z no_info ≡ info_at t z) → reported geo.shape (kinds_of geo) infos ≡ facts_of t
reported_is t geo infos same count told =
    let has : HasKinds t geo = has_kinds t geo same in
    let zones : (reported geo.shape (kinds_of geo) infos).zones ≡ map zone_facts t.zones =
    ext_get_or (zone_facts no_zone) _ _ (count_reported geo infos count ∙ sym has.count ∙ sym (length-map t.zones zone_facts)) (λ z h.
    let there : z < geo.zones = omega (arith, count_reported geo infos count) in
    reported_at geo infos z count there
    ∙ ap (started_zone geo z) (told z there)
    ∙ ap (λ (kind : Kind). let f : ZoneFacts = record { kind = kind; cond = (zone_at t z).cond; held = (zone_at t z).held; explicit = (zone_at t z).explicit } in f) (sym (has.kind z there))
    ∙ sym (facts_at-zone t z)) in
    λ i. record { shape = sym has.shape i; zones = zones i }

-- ---- where contents are told

bytes_rest : (shape : Shape) (zone : Zone) (at : Cond) (o : Option (List ℕ)) → zone.cond ≡ at → IsSoundZone true shape zone → IsZoneFile shape zone o → cond (is_offline at) [] (bytes_in (option_map file_at_rest o)) ≡ zone.bytes
bytes_rest shape zone Offline o is sound has =
    let none : zone.held ≡ 0 = sound.offline (ap is_offline is) in
    let len : length zone.bytes ≡ 4096 * zone.held = sound.bytes in
    sym (nil_from_length zone.bytes (omega (arith, none, len)))
bytes_rest shape zone Good None is sound has = absurd (cc (has.there))
bytes_rest shape zone Good (Some bytes) is sound has = same_Some bytes zone.bytes (has.bytes (λ off. absurd (cc (off, is))))
bytes_rest shape zone ReadOnly None is sound has = absurd (cc (has.there))
bytes_rest shape zone ReadOnly (Some bytes) is sound has = same_Some bytes zone.bytes (has.bytes (λ off. absurd (cc (off, is))))

zone_rest : (shape : Shape) (c : Contents) (z : ℕ) (zone : Zone) (kept : Kept) → IsSoundZone true shape zone → IsRestedZone zone → IsZoneFile shape zone (bytes_at c (zone_name zone.kind z)) → IsDurable zone.kind zone.held kept
    → zone_seen (Some (rested c)) z (zone_facts zone) kept ≡ zone
zone_rest shape c z zone kept sound rest has own =
    let bytes : bytes_seen (Some (rested c)) (zone_facts zone) z ≡ zone.bytes =
    ap (λ o. cond (is_offline zone.cond) [] (bytes_in o)) (file-rested c (zone_name zone.kind z)) ∙ bytes_rest shape zone zone.cond (bytes_at c (zone_name zone.kind z)) refl sound has in
    let durable : kept.durable ≡ zone.durable = own.durable ∙ sym rest.durable in
    let flags : kept.unflushed.items ≡ zone.unflushed = own.unflushed ∙ ap (λ n. replicate n false) (sym sound.flags) ∙ sym rest.flushed in
    λ i. record { kind = zone.kind; cond = zone.cond; held = zone.held; bytes = bytes i; durable = durable i; unflushed = flags i; explicit = zone.explicit }

-- what is seen over a directory at rest is the device that it stands for
truth_rest : (c : Contents) (t : Truth) (kepts : List Kept) → StandsFor c t → IsDeviceAtRest t → AllDurable (facts_of t) kepts → truth_seen (Some (rested c)) (facts_of t) kepts ≡ t
truth_rest c t kepts stands rest all =
    let count : length kepts ≡ length (facts_of t).zones = all.count in
    let long : length t.zones ≡ length (facts_of t).zones = sym (length-map t.zones zone_facts) in
    let zones : (truth_seen (Some (rested c)) (facts_of t) kepts).zones ≡ t.zones =
    ext_get_or no_zone _ _ (zones-seen (Some (rested c)) (facts_of t) kepts count ∙ sym long) (λ z h.
    let there : z < length (facts_of t).zones = omega (arith, zones-seen (Some (rested c)) (facts_of t) kepts count) in
    let among : z < length kepts = omega (arith, count) in
    let inside : z < length t.zones = omega (arith, long) in
    let other : Kept = any_kept kepts z among in
    let own : IsDurable (zone_at t z).kind (zone_at t z).held (get_or kepts z other) =
    subst (λ (zone : ZoneFacts). IsDurable zone.kind zone.held (get_or kepts z other)) (facts_at-zone t z) (all.each z other among) in
    seen_at (Some (rested c)) (facts_of t) kepts z other count there
    ∙ ap (λ (zone : ZoneFacts). zone_seen (Some (rested c)) z zone (get_or kepts z other)) (facts_at-zone t z)
    ∙ zone_rest t.shape c z (zone_at t z) (get_or kepts z other) (subst (λ told. IsSoundZone told t.shape (zone_at t z)) stands.told (rest.sound.zones z inside)) (rest.zones z inside) (stands.zones z inside) own) in
    λ i. record { told = sym stands.told i; shape = t.shape; zones = zones i }

device_rest : (c : Contents) (t : Truth) (kepts : List Kept) → at_rest c ≡ Ok t → AllDurable (facts_of t) kepts → IsSoundZloop (Some (rested c)) (facts_of t) kepts []
device_rest c t kepts is all =
    let standing : StandsFor c t = stands c t is in
    let rest : IsDeviceAtRest t = sound_at_rest c t is in
    let same : truth_seen (Some (rested c)) (facts_of t) kepts ≡ t = truth_rest c t kepts standing rest all in
    record {
      kept = are_kept (facts_of t) kepts all;
      sound = subst IsSound (sym same) rest.sound;
      holds = subst (HoldsWhereTold (Some (rested c))) (sym same) (holds_rest c t standing rest);
      frames = frames_rest c t standing rest;
    }

-- ---- where they aren't

held_room : (shape : Shape) (zone : ZoneFacts) (kind : Kind) (at : Cond) → zone.kind ≡ kind → zone.cond ≡ at → IsStartZone shape zone → zone.held ≤ room shape kind
held_room shape zone Sequential at is was start = start.sequential (ap is_sequential is)
held_room shape zone Conventional Good is was start = let all : zone.held ≡ shape.zone_blocks = start.conventional (λ seq. absurd (cc (seq, is))) (λ off. absurd (cc (off, was))) in omega (arith, all)
held_room shape zone Conventional ReadOnly is was start = let all : zone.held ≡ shape.zone_blocks = start.conventional (λ seq. absurd (cc (seq, is))) (λ off. absurd (cc (off, was))) in omega (arith, all)
held_room shape zone Conventional Offline is was start = let none : zone.held ≡ 0 = start.offline (ap is_offline was) in omega (arith, none)

zone_untold : (shape : Shape) (z : ℕ) (zone : ZoneFacts) (kept : Kept) → IsStartZone shape zone → IsDurable zone.kind zone.held kept → IsSoundZone false shape (zone_seen None z zone kept)
zone_untold shape z zone kept start own = record {
  held = held_room shape zone zone.kind zone.cond refl refl start;
  bytes = refl;
  durable = omega (arith, own.durable);
  full = λ _ _. own.durable;
  offline = start.offline;
  settled = λ _. own.durable;
  flushed = λ _. flags_clear kept.unflushed.items (flagged zone.kind zone.held) own.unflushed;
  conventional = start.conventional;
  whole = λ _. own.durable;
  flags = ap length own.unflushed ∙ length-replicate (flagged zone.kind zone.held) false;
  explicit = λ opened. absurd (cc (opened, start.closed));
}

untold_sound : (f : Facts) (kepts : List Kept) → IsStart f → AllDurable f kepts → IsSound (truth_seen None f kepts)
untold_sound f kepts start all =
    let count : length kepts ≡ length f.zones = all.count in
    let long : length (truth_seen None f kepts).zones ≡ length f.zones = zones-seen None f kepts count in
    let same : active (truth_seen None f kepts) ≡ active (bare f) = sym (active-bare (truth_seen None f kepts)) ∙ ap (λ (g : Facts). active (bare g)) (facts_of-seen None f kepts count) in
    let none : explicit (truth_seen None f kepts) ≡ 0 = count_by-none (λ (zone : Zone). zone.explicit) no_zone (truth_seen None f kepts).zones (λ z h.
    let there : z < length f.zones = omega (arith, long) in
    ap (λ (zone : Zone). zone.explicit) (seen_at None f kepts z (any_kept kepts z (omega (arith, count))) count there) ∙ (start.zones z there).closed) in
    record {
      zones = λ z h.
          let there : z < length f.zones = omega (arith, long) in
          let among : z < length kepts = omega (arith, count) in
          let other : Kept = any_kept kepts z among in
          subst (IsSoundZone false f.shape) (sym (seen_at None f kepts z other count there)) (zone_untold f.shape z (facts_at f z) (get_or kepts z other) (start.zones z there) (all.each z other among));
      active = λ some. omega (arith, start.active some, same);
      explicit = λ some. omega (arith, none);
    }

-- ---- the device

device_found : (o : Option Directory) (geo : Geometry) (infos : List ZoneInfo) (kepts : List Kept) → IsStartOf geo infos → AreDurable geo infos geo.zones kepts → HoldsFoundWhereTold o geo infos → IsSoundZloop o (reported geo.shape (kinds_of geo) infos) kepts []
device_found None geo infos kepts start are found =
    let all : AllDurable (reported geo.shape (kinds_of geo) infos) kepts = all_durable geo infos kepts start.count are in
    record {
      kept = are_kept (reported geo.shape (kinds_of geo) infos) kepts all;
      sound = untold_sound (reported geo.shape (kinds_of geo) infos) kepts start.start all;
      holds = tt;
      frames = tt;
    }
device_found (Some d) geo infos kepts start are found =
    let all : AllDurable (reported geo.shape (kinds_of geo) infos) kepts = all_durable geo infos kepts start.count are in
    let finds : Finds found.c geo infos = found.finds in
    let same : reported geo.shape (kinds_of geo) infos ≡ facts_of finds.t = reported_is finds.t geo infos finds.geometry start.count finds.told in
    subst (λ (e : Directory). IsSoundZloop (Some e) (reported geo.shape (kinds_of geo) infos) kepts []) (sym found.is)
    (subst (λ (f : Facts). IsSoundZloop (Some (rested found.c)) f kepts []) (sym same)
    (device_rest found.c finds.t kepts finds.rest (subst (λ (f : Facts). AllDurable f kepts) same all)))

-- a device that begins so keeps to what every one keeps to
pub begins_sound : (o : Option Directory) (geo : Geometry) (infos : List ZoneInfo) (m : Machine) (kepts : List Kept) → IsStartOf geo infos → HoldsFoundWhereTold o geo infos → Begins geo infos m kepts → IsZloop false o m kepts []
begins_sound o geo infos m kepts start found begins =
    zloop_holds false o m kepts [] (subst IsWithinLimits (sym begins.numbers) start.within)
    (λ clear. subst (λ (f : Facts). IsSoundZloop o f kepts []) (sym begins.told) (device_found o geo infos kepts start begins.kept found))

-- it tells the device at rest
pub begins_truth : (c : Contents) (geo : Geometry) (infos : List ZoneInfo) (m : Machine) (kepts : List Kept) → IsStartOf geo infos → Finds c geo infos → Begins geo infos m kepts → at_rest c ≡ Ok (truth_seen (Some (rested c)) (facts m) kepts)
begins_truth c geo infos m kepts start finds begins =
    let all : AllDurable (reported geo.shape (kinds_of geo) infos) kepts = all_durable geo infos kepts start.count begins.kept in
    let same : reported geo.shape (kinds_of geo) infos ≡ facts_of finds.t = reported_is finds.t geo infos finds.geometry start.count finds.told in
    finds.rest ∙ ap Ok (sym (ap (λ (f : Facts). truth_seen (Some (rested c)) f kepts) (begins.told ∙ same)
    ∙ truth_rest c finds.t kepts (stands c finds.t finds.rest) (sound_at_rest c finds.t finds.rest) (subst (λ (f : Facts). AllDurable f kepts) same all)))

-- each of its zones is at rest
pub begins_rested : (o : Option Directory) (geo : Geometry) (infos : List ZoneInfo) (m : Machine) (kepts : List Kept) → IsStartOf geo infos → Begins geo infos m kepts → (z : ℕ) → z < length (truth_seen o (facts m) kepts).zones → IsRestedZone (zone_at (truth_seen o (facts m) kepts) z)
begins_rested o geo infos m kepts start begins z h =
    let f : Facts = reported geo.shape (kinds_of geo) infos in
    let all : AllDurable f kepts = all_durable geo infos kepts start.count begins.kept in
    let count : length kepts ≡ length f.zones = all.count in
    let below : z < length (truth_seen o f kepts).zones = subst (λ (g : Facts). z < length (truth_seen o g kepts).zones) begins.told h in
    let there : z < length f.zones = omega (arith, zones-seen o f kepts count, below) in
    let among : z < length kepts = omega (arith, count, there) in
    let other : Kept = any_kept kepts z among in
    let own : IsDurable (facts_at f z).kind (facts_at f z).held (get_or kepts z other) = all.each z other among in
    subst (λ (g : Facts). IsRestedZone (zone_at (truth_seen o g kepts) z)) (sym begins.told)
    (subst IsRestedZone (sym (seen_at o f kepts z other count there)) (record {
      durable = own.durable;
      flushed = flags_clear (get_or kepts z other).unflushed.items (flagged (facts_at f z).kind (facts_at f z).held) own.unflushed;
      closed = (start.start.zones z there).closed;
    }))
