-- All zones are closed.
use Rattle.std.proofs.Common.{◌≡◌, ℕ, ◌+◌, ◌<◌, ◌≤◌, Bool, true, false, List, [], ◌∷◌, length, map, get_or, Option, Some, None, refl, sym, ap, ◌∙◌, subst, arith}
use Rattle.std.specs.Prelude.{is_some}
use Rattle.std.proofs.Math.ListN.{get_or-map}
use Rattle.std.proofs.lemmas.Bool.{false≢true}
use Rattle.std.proofs.lemmas.Bool.Decides.{nat_tests}
use Rattle.std.proofs.lemmas.List.{length-map}
use Rattle.zn_truth.specs.declared.Shape.{Shape}
use Rattle.zn_truth.specs.Truth.{Zone, Truth, no_zone, zone_at, is_active, active, explicit, IsSoundZone, IsSound}
use Rattle.zn_truth.proofs.SoundLoss.{count_by-le, count_by-none}
use Rattle.zn_zone.specs.Facts.{ZoneFacts, Facts, zone_facts, facts_at, rested as rested_facts}
use Rattle.zn_device.specs.Harms.{rested}
use Rattle.zn_stand.specs.File.{File}
use Rattle.zn_stand.specs.Directory.{Directory, file_at}
use Rattle.zn_stand.specs.ZoneNames.{zone_name}
use Rattle.zn_zloop.specs.declared.kept.Kept.{Kept}
use Rattle.zn_zloop.specs.Seen.{bytes_seen, zone_seen, zones_seen, truth_seen}
use Rattle.zn_zloop.specs.Backing.{IsFileAt}
use Rattle.zn_zloop.specs.Framing.{Label, label_of, FramesWhereTold}
use Rattle.zn_zloop.specs.Holding.{HoldsWhereTold, IsKept, AreKept, IsSoundZloop}
use Rattle.zn_zloop.proofs.Backs.{same_file}
use Rattle.zn_zloop.proofs.Sight.{seen_at}

-- ---- what is seen

-- how much of a zone is durable
pub durable_seen : (o : Option Directory) (f : Facts) (kepts : List Kept) (z : ℕ) (kept : Kept) → length kepts ≡ length f.zones → z < length kepts → kept ≡ get_or kepts z kept → kept.durable ≡ (zone_at (truth_seen o f kepts) z).durable
durable_seen o f kepts z kept count below is =
    ap (λ (k : Kept). k.durable) is ∙ sym (ap (λ (zone : Zone). zone.durable) (seen_at o f kepts z kept count (omega arith)))

bytes_closed : (o : Option Directory) (z : ℕ) (zone : ZoneFacts) → bytes_seen o (record zone { explicit = false }) z ≡ bytes_seen o zone z
bytes_closed None z zone = refl
bytes_closed (Some d) z zone = refl

zone_closed : (o : Option Directory) (z : ℕ) (zone : ZoneFacts) (kept : Kept) → zone_seen o z (record zone { explicit = false }) kept ≡ record (zone_seen o z zone kept) { explicit = false }
zone_closed o z zone kept =
    ap (λ (b : List ℕ). let x : Zone = record { kind = zone.kind; cond = zone.cond; held = zone.held; bytes = b; durable = kept.durable; unflushed = kept.unflushed.items; explicit = false } in x) (bytes_closed o z zone)

zones_closed : (o : Option Directory) (z : ℕ) (zones : List ZoneFacts) (kepts : List Kept)
    → zones_seen o z (map (λ (zone : ZoneFacts). record zone { explicit = false }) zones) kepts ≡ map (λ (zone : Zone). record zone { explicit = false }) (zones_seen o z zones kepts)
zones_closed o z [] kepts = refl
zones_closed o z (zone ∷ zones) [] = refl
zones_closed o z (zone ∷ zones) (kept ∷ kepts) = λ i. zone_closed o z zone kept i ∷ zones_closed o (z + 1) zones kepts i

pub rest_truth : (o : Option Directory) (f g : Facts) (kepts : List Kept) → g ≡ rested_facts f → truth_seen o g kepts ≡ rested (truth_seen o f kepts)
rest_truth o f g kepts is =
    ap (λ h. truth_seen o h kepts) is ∙ ap (λ zones. let t : Truth = record { told = is_some o; shape = f.shape; zones = zones } in t) (zones_closed o 0 f.zones kepts)

-- ---- what is sound

closed_sound : (told : Bool) (shape : Shape) (zone : Zone) → IsSoundZone told shape zone → IsSoundZone told shape (record zone { explicit = false })
closed_sound told shape zone sound = record {
  held = sound.held;
  bytes = sound.bytes;
  durable = sound.durable;
  full = sound.full;
  offline = sound.offline;
  settled = sound.settled;
  flushed = sound.flushed;
  conventional = sound.conventional;
  whole = sound.whole;
  flags = sound.flags;
  explicit = λ is. absurd (false≢true is);
}

closed_active : (shape : Shape) (zone : Zone) → is_active shape (record zone { explicit = false }) ≡ true → is_active shape zone ≡ true
closed_active shape zone is = grind (arith, nat_tests)

rested_at : (t : Truth) (k : ℕ) → zone_at (rested t) k ≡ record (zone_at t k) { explicit = false }
rested_at t k = get_or-map (λ (zone : Zone). record zone { explicit = false }) t.zones k no_zone

rested_sound : (t : Truth) → IsSound t → IsSound (rested t)
rested_sound t sound =
    let same : length (rested t).zones ≡ length t.zones = length-map t.zones (λ (zone : Zone). record zone { explicit = false }) in
    record {
      zones = λ k below. rw (rested_at t k) (closed_sound t.told t.shape (zone_at t k) (sound.zones k (omega arith)));
      active = λ on.
          let fewer : active (rested t) ≤ active t = count_by-le (is_active t.shape) no_zone t.zones (rested t).zones same
          (λ k below is. closed_active t.shape (zone_at t k) (ap (is_active t.shape) (sym (rested_at t k)) ∙ is)) in
          let before : active t ≤ t.shape.max_active = sound.active on in
          omega arith;
      explicit = λ on.
          let none : explicit (rested t) ≡ 0 = count_by-none (λ (zone : Zone). zone.explicit) no_zone (rested t).zones (λ k below. ap (λ (zone : Zone). zone.explicit) (rested_at t k)) in
          omega arith;
    }

-- ---- what the device keeps to

closed_file : (zone : Zone) (o : Option File) → IsFileAt zone o → IsFileAt (record zone { explicit = false }) o
closed_file zone None h = h
closed_file zone (Some f) h = same_file f zone (record zone { explicit = false }) refl refl refl refl refl refl h

rested_holds : (o : Option Directory) (t : Truth) → HoldsWhereTold o t → HoldsWhereTold o (rested t)
rested_holds None t holds = tt
rested_holds (Some d) t holds = record {
  zones = λ z below. subst (λ (x : Zone). IsFileAt x (file_at d (zone_name x.kind z))) (sym (rested_at t z))
      (closed_file (zone_at t z) (file_at d (zone_name (zone_at t z).kind z)) (holds.zones z (omega (arith, length-map t.zones (λ (zone : Zone). record zone { explicit = false })))));
}

rested_labels : (zones : List ZoneFacts) → map label_of (map (λ (zone : ZoneFacts). record zone { explicit = false }) zones) ≡ map label_of zones
rested_labels [] = refl
rested_labels (zone ∷ zones) = ap (λ labels. label_of zone ∷ labels) (rested_labels zones)

rested_kept : (f : Facts) (kepts : List Kept) (listed : List ℕ) → AreKept f kepts listed → AreKept (rested_facts f) kepts listed
rested_kept f kepts listed are = record {
  count = are.count ∙ sym (length-map f.zones (λ (zone : ZoneFacts). record zone { explicit = false }));
  each = λ z other below.
      let held : (facts_at (rested_facts f) z).held ≡ (facts_at f z).held = ap (λ (zone : ZoneFacts). zone.held) (get_or-map (λ (zone : ZoneFacts). record zone { explicit = false }) f.zones z (zone_facts no_zone)) in
      subst (λ n. IsKept n listed z (get_or kepts z other)) (sym held) (are.each z other below);
  numbers = are.numbers;
}

pub rest_device : (o : Option Directory) (f g : Facts) (kepts : List Kept) (listed : List ℕ) → g ≡ rested_facts f → IsSoundZloop o f kepts listed → IsSoundZloop o g kepts listed
rest_device o f g kepts listed is device =
    let t = truth_seen o f kepts in
    let same : truth_seen o (rested_facts f) kepts ≡ rested t = rest_truth o f (rested_facts f) kepts refl in
    subst (λ h. IsSoundZloop o h kepts listed) (sym is) (record {
      kept = rested_kept f kepts listed device.kept;
      sound = subst IsSound (sym same) (rested_sound t device.sound);
      holds = subst (HoldsWhereTold o) (sym same) (rested_holds o t device.holds);
      frames = subst (λ (labels : List Label). FramesWhereTold f.shape labels o) (sym (rested_labels f.zones)) device.frames;
    })
