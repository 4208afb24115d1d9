-- What a stop between two commands leaves stands for the device after a loss of power.
use Rattle.std.proofs.Common.{◌≡◌, ◌⊎◌, inl, inr, ℕ, zero, suc, ◌+◌, ◌*◌, ◌/◌, ◌<◌, ◌≤◌, Bool, true, false, List, [], ◌∷◌, length, take, drop, map, get_or, Option, Some, None, refl, sym, ap, ◌∙◌, subst, arith, add-zero, length-take, length-drop}
use Rattle.std.specs.Prelude.{is_some, IsTrue, IsSome, unwrap_or, if◌then◌else◌}
use Rattle.std.proofs.lemmas.Bool.Decides.{nat_tests}
use Rattle.std.proofs.lemmas.Option.{same_Some}
use Rattle.std.proofs.lemmas.List.{ext_get_or, get_or-take, get_or-drop, length-map, nil_from_length}
use Rattle.zn_truth.specs.declared.Kind.{Kind}
use Rattle.zn_truth.specs.declared.Kind.TheVariants.{Conventional, Sequential}
use Rattle.zn_truth.specs.declared.Cond.{Cond}
use Rattle.zn_truth.specs.declared.Cond.TheVariants.{Good, ReadOnly, Offline}
use Rattle.zn_truth.specs.declared.Shape.{Shape}
use Rattle.zn_truth.specs.Truth.{Zone, Geometry, zone_at, no_zone, geometry, is_good, is_offline, IsSoundZone}
use Rattle.zn_truth.specs.Loss.{KeepsDurable, KeepsFlushed, Keeps, IsZoneLoss}
use Rattle.zn_zone.specs.Facts.{Facts, facts_at}
use Rattle.zn_zone.proofs.Truths.{facts_at-zone}
use Rattle.zn_stand.specs.File.{File, at_rest, is_in_blocks, is_kept, synced_bytes, IsByte, IsImage}
use Rattle.zn_stand.specs.Directory.{Directory, Contents, file_at, bytes_at, MayHave, IsImageOf}
use Rattle.zn_stand.specs.ZoneNames.{geometry_of_device, device_name, zone_name, read_only_name, offline_name}
use Rattle.zn_stand.specs.Standing.{is_file_length, IsZoneFile, IsReadOnlyMarker, IsOfflineMarker}
use Rattle.zn_stand.proofs.Files.{rest_only}
use Rattle.zn_stand.proofs.DeviceNames.{has_kinds, name_is}
use Rattle.zn_zloop.specs.declared.kept.Kept.{Kept}
use Rattle.zn_zloop.specs.Backing.{BacksDurable, BacksFlushed, Backs, IsFileOf, IsFileAt}
use Rattle.zn_zloop.specs.Seen.{truth_seen}
use Rattle.zn_zloop.specs.Framing.{Label, label_of, labels_of, label_at, numbers_of, IsReadOnlyAt, IsOfflineAt, IsLengthAt}
use Rattle.zn_zloop.specs.Holding.{IsSoundZloop}
use Rattle.zn_zone.specs.Machine.{Machine, facts}
use Rattle.zn_zloop.specs.Telling.{truth_told, IsZloop}
use Rattle.zn_zloop.specs.Losing.{zone_with, bytes_left, zones_left, truth_left, StandsLost}
use Rattle.zn_zloop.proofs.Sight.{facts_of-seen, zones-seen}
use Rattle.zn_zloop.proofs.Frames.{label_is}
use Rattle.zn_zloop.proofs.Standing.{numbers_seen}

-- ---- one file

kept_byte : (f : File) (i byte : ℕ) → IsTrue (is_kept f i) → IsByte f i byte → byte ≡ get_or (synced_bytes f) i 0
kept_byte f i byte kept is = grind (arith, nat_tests)

in_blocks_is : (n : ℕ) → IsTrue (is_in_blocks n) → 4096 * (n / 4096) ≡ n
in_blocks_is n is = grind (arith, nat_tests)

backs_durable : (f : File) (zone : Zone) (c : List ℕ) → length zone.bytes ≡ 4096 * zone.held → zone.durable ≤ zone.held → BacksDurable f zone → IsImage f c → KeepsDurable zone (zone_with zone c) × (4096 * (length c / 4096) ≡ length c)
backs_durable f zone c size durable backs image =
    let len = backs.lengths (length c) image.len in
    let whole = in_blocks_is (length c) len.whole in (
      record {
        no_less = omega (arith, len.no_less);
        no_more = omega (arith, len.no_more);
        front = ext_get_or 0 (take (4096 * zone.durable) c) (take (4096 * zone.durable) zone.bytes) (omega (arith, length-take (4096 * zone.durable) c, length-take (4096 * zone.durable) zone.bytes, len.no_less)) (λ i h.
            let short : i < 4096 * zone.durable = omega (arith, length-take (4096 * zone.durable) c) in
            let kept = backs.each i short in
            get_or-take (4096 * zone.durable) c i 0 short ∙ kept_byte f i (get_or c i 0) kept.kept (image.each i (omega (arith, len.no_less))) ∙ kept.same ∙ sym (get_or-take (4096 * zone.durable) zone.bytes i 0 short));
      },
      whole,
    )

backs_flushed : (f : File) (zone : Zone) (c : List ℕ) → length zone.bytes ≡ 4096 * zone.held → BacksFlushed f zone → IsImage f c → KeepsFlushed zone (zone_with zone c) × (4096 * (length c / 4096) ≡ length c)
backs_flushed f zone c size backs image =
    let len : length c ≡ 4096 * zone.held = backs.lengths (length c) image.len in (
      record {
        held = omega arith;
        blocks = λ k h flag. ext_get_or 0 (take 4096 (drop (4096 * k) c)) (take 4096 (drop (4096 * k) zone.bytes))
            (omega (arith, length-take 4096 (drop (4096 * k) c), length-take 4096 (drop (4096 * k) zone.bytes), length-drop (4096 * k) c, length-drop (4096 * k) zone.bytes)) (λ i below.
            let short : i < 4096 = omega (arith, length-take 4096 (drop (4096 * k) c)) in
            let block : (4096 * k + i) / 4096 ≡ k = omega arith in
            let kept = backs.each (4096 * k + i) (omega arith) (ap (λ (n : ℕ). get_or zone.unflushed n false) block ∙ flag) in
            get_or-take 4096 (drop (4096 * k) c) i 0 short ∙ get_or-drop (4096 * k) c i 0
            ∙ kept_byte f (4096 * k + i) (get_or c (4096 * k + i) 0) kept.kept (image.each (4096 * k + i) (omega arith)) ∙ kept.same
            ∙ sym (get_or-take 4096 (drop (4096 * k) zone.bytes) i 0 short ∙ get_or-drop (4096 * k) zone.bytes i 0));
      },
      omega arith,
    )

-- where all is as it was
same_keeps : (kind : Kind) (zone : Zone) (c : List ℕ) → length zone.bytes ≡ 4096 * zone.held → zone.durable ≤ zone.held → c ≡ zone.bytes → Keeps kind zone (zone_with zone c) × (4096 * (length c / 4096) ≡ length c)
same_keeps Sequential zone c size durable is = (record { no_less = omega (arith, ap length is); no_more = omega (arith, ap length is); front = ap (take (4096 * zone.durable)) is }, omega (arith, ap length is))
same_keeps Conventional zone c size durable is = (record { held = omega (arith, ap length is); blocks = λ k h flag. ap (λ b. take 4096 (drop (4096 * k) b)) is }, omega (arith, ap length is))

backs_left : (kind : Kind) (f : File) (zone : Zone) (c : List ℕ) → length zone.bytes ≡ 4096 * zone.held → zone.durable ≤ zone.held → Backs kind f zone → IsImage f c → Keeps kind zone (zone_with zone c) × (4096 * (length c / 4096) ≡ length c)
backs_left Sequential f zone c size durable backs image = backs_durable f zone c size durable backs image
backs_left Conventional f zone c size durable backs image = backs_flushed f zone c size backs image

rest_image : (f : File) (c : List ℕ) → f ≡ at_rest f.bytes → IsImage f c → c ≡ f.bytes
rest_image f c rest image = rest_only f.bytes c (subst (λ (g : File). IsImage g c) rest image)

-- a zone's file in an image
record IsLeft (shape : Shape) (zone : Zone) (z : ℕ) (image : Contents) : Type 0 where
  file : IsZoneFile shape (zone_with zone (bytes_left image z zone)) (bytes_at image (zone_name zone.kind z))
  loss : IsZoneLoss true zone (zone_with zone (bytes_left image z zone))

loss_with : (zone : Zone) (c : List ℕ) → Keeps zone.kind zone (zone_with zone c) → 4096 * (length c / 4096) ≡ length c → IsZoneLoss true zone (zone_with zone c)
loss_with zone c keeps whole = record { kind = refl; cond = refl; keeps = keeps; whole = sym whole; durable = refl; flushed = refl; closed = refl }

by_cond : (cond : Cond) → (IsTrue (is_good cond) × (is_offline cond ≡ false)) ⊎ (((¬ IsTrue (is_good cond)) × (is_offline cond ≡ false)) ⊎ ((¬ IsTrue (is_good cond)) × (is_offline cond ≡ true)))
by_cond Good = inl (refl, refl)
by_cond ReadOnly = inr (inl (λ h. cc, refl))
by_cond Offline = inr (inr (λ h. cc, refl))

left_in : (shape : Shape) (zone : Zone) (z : ℕ) (image : Contents) (f : File) (left : Option (List ℕ)) → IsSoundZone true shape zone → IsFileOf zone f → (IsTrue (is_offline zone.cond) → IsTrue (is_file_length shape zone.kind (length f.bytes)))
    → bytes_at image (zone_name zone.kind z) ≡ left → MayHave (Some f) left → IsLeft shape zone z image
left_in shape zone z image f None sound file len there may = absurd (cc (may, file.synced))
left_in shape zone z image f (Some c) sound file len there may = elim (by_cond zone.cond) [
  | inl good ↦
      let left : bytes_left image z zone ≡ c = ap (λ b. if b then [] else unwrap_or (bytes_at image (zone_name zone.kind z)) []) good.1 ∙ ap (λ o. unwrap_or o []) there in
      let keeps = backs_left zone.kind f zone c sound.bytes sound.durable (file.good good.0) may in
      on_line good.1 left (loss_with zone c keeps.0 keeps.1)
  | inr (inl other) ↦
      let left : bytes_left image z zone ≡ c = ap (λ b. if b then [] else unwrap_or (bytes_at image (zone_name zone.kind z)) []) other.1 ∙ ap (λ o. unwrap_or o []) there in
      let same : c ≡ zone.bytes = rest_image f c (file.settled other.0) may ∙ file.bytes (λ off. absurd (cc (off, other.1))) in
      let keeps = same_keeps zone.kind zone c sound.bytes sound.durable same in
      on_line other.1 left (loss_with zone c keeps.0 keeps.1)
  | inr (inr off) ↦
      let left : bytes_left image z zone ≡ [] = ap (λ b. if b then [] else unwrap_or (bytes_at image (zone_name zone.kind z)) []) off.1 in
      let none : [] ≡ zone.bytes = sym (nil_from_length zone.bytes (let held = sound.offline off.1 in omega (arith, sound.bytes))) in
      let keeps = same_keeps zone.kind zone [] sound.bytes sound.durable none in
      record {
        file = record {
          there = ap is_some there;
          bytes = λ on. absurd (on off.1);
          len = λ bytes is has. subst (λ (b : List ℕ). IsTrue (is_file_length shape zone.kind (length b))) (sym (rest_image f c (file.settled off.0) may) ∙ same_Some c bytes (sym there ∙ has)) (len off.1);
        };
        loss = subst (λ b. IsZoneLoss true zone (zone_with zone b)) (sym left) (loss_with zone [] keeps.0 keeps.1);
      }
]
  where
    on_line : is_offline zone.cond ≡ false → bytes_left image z zone ≡ c → IsZoneLoss true zone (zone_with zone c) → IsLeft shape zone z image
    on_line on left loss = record {
      file = record {
        there = ap is_some there;
        bytes = λ yes. there ∙ ap Some (sym left);
        len = λ bytes off has. absurd (cc (off, on));
      };
      loss = subst (λ b. IsZoneLoss true zone (zone_with zone b)) (sym left) loss;
    }

left_at : (shape : Shape) (zone : Zone) (z : ℕ) (image : Contents) (o : Option File) → IsSoundZone true shape zone → IsFileAt zone o → ((f : File) → o ≡ Some f → IsTrue (is_offline zone.cond) → IsTrue (is_file_length shape zone.kind (length f.bytes)))
    → MayHave o (bytes_at image (zone_name zone.kind z)) → IsLeft shape zone z image
left_at shape zone z image None sound file len may = absurd file
left_at shape zone z image (Some f) sound file len may = left_in shape zone z image f (bytes_at image (zone_name zone.kind z)) sound file (len f refl) refl may

-- ---- the other files

rest_left : (b : List ℕ) (left : Option (List ℕ)) → MayHave (Some (at_rest b)) left → left ≡ Some b
rest_left b None may = absurd (cc)
rest_left b (Some c) may = ap Some (rest_only b c may)

none_left : (o : Option File) (left : Option (List ℕ)) → o ≡ None → MayHave o left → left ≡ None
none_left None None is may = refl
none_left None (Some c) is may = absurd may
none_left (Some f) left is may = absurd (cc)

there_left : (o : Option File) (b : List ℕ) (left : Option (List ℕ)) → o ≡ Some (at_rest b) → MayHave o left → left ≡ Some b
there_left o b left is may = rest_left b left (subst (λ (x : Option File). MayHave x left) is may)

read_only_left : (cond : Cond) (o : Option File) (left : Option (List ℕ)) → IsReadOnlyAt cond o → MayHave o left → IsReadOnlyMarker cond left
read_only_left Good o left is may = none_left o left is may
read_only_left ReadOnly o left is may = there_left o [] left is may
read_only_left Offline None left is may = inl (none_left None left refl may)
read_only_left Offline (Some f) left is may = inr (there_left (Some f) [] left (ap Some (is f refl)) may)

offline_left : (cond : Cond) (o : Option File) (left : Option (List ℕ)) → IsOfflineAt cond o → MayHave o left → IsOfflineMarker cond left
offline_left Good o left is may = none_left o left is may
offline_left ReadOnly o left is may = none_left o left is may
offline_left Offline o left is may = there_left o [] left is may

some_left : (o : Option File) (left : Option (List ℕ)) → MayHave o left → IsSome left → IsSome o
some_left None None may some = absurd (cc)
some_left None (Some c) may some = absurd may
some_left (Some f) left may some = refl

-- ---- all zones

length-zones_left : (image : Contents) (z : ℕ) (zones : List Zone) → length (zones_left image z zones) ≡ length zones
length-zones_left image z [] = refl
length-zones_left image z (zone ∷ zones) = ap suc (length-zones_left image (z + 1) zones)

zones_left-at : (image : Contents) (z k : ℕ) (zones : List Zone) → k < length zones → get_or (zones_left image z zones) k no_zone ≡ zone_with (get_or zones k no_zone) (bytes_left image (z + k) (get_or zones k no_zone))
zones_left-at image z k [] h = absurd (omega arith)
zones_left-at image z zero (zone ∷ zones) h = ap (λ n. zone_with zone (bytes_left image n zone)) (sym (add-zero z))
zones_left-at image z (suc k) (zone ∷ zones) h =
    let same : (z + 1) + k ≡ z + suc k = omega arith in
    zones_left-at image (z + 1) k zones (omega arith) ∙ ap (λ n. zone_with (get_or zones k no_zone) (bytes_left image n (get_or zones k no_zone))) same

left-kinds : (image : Contents) (z : ℕ) (zones : List Zone) → map (λ (zone : Zone). zone.kind) (zones_left image z zones) ≡ map (λ (zone : Zone). zone.kind) zones
left-kinds image z [] = refl
left-kinds image z (zone ∷ zones) = ap (λ kinds. zone.kind ∷ kinds) (left-kinds image (z + 1) zones)

-- Between two commands, a stop leaves what stands for the device after a loss of power.
pub image_lost : (d : Directory) (f : Facts) (kepts : List Kept) (listed : List ℕ) (image : Contents) → IsSoundZloop (Some d) f kepts listed → IsImageOf d image → StandsLost (truth_seen (Some d) f kepts) image
image_lost d f kepts listed image device is =
    let t = truth_seen (Some d) f kepts in
    let new = truth_left image t in
    let labels = labels_of f in
    let count : length t.zones ≡ length f.zones = zones-seen (Some d) f kepts device.kept.count in
    let label_zone : (z : ℕ) → label_at labels z ≡ record { kind = (zone_at t z).kind; cond = (zone_at t z).cond } =
    λ z. label_is f z ∙ ap (λ (g : Facts). label_of (facts_at g z)) (sym (facts_of-seen (Some d) f kepts device.kept.count)) ∙ ap label_of (facts_at-zone t z) in
    let small : (z : ℕ) → z < length t.zones → z < length labels = λ z h. omega (arith, count, length-map f.zones label_of) in
    let at : (z : ℕ) → z < length t.zones → zone_at new z ≡ zone_with (zone_at t z) (bytes_left image z (zone_at t z)) =
    λ z h. zones_left-at image 0 z t.zones h ∙ ap (λ n. zone_with (zone_at t z) (bytes_left image n (zone_at t z))) (omega arith) in
    let each : (z : ℕ) → z < length t.zones → IsLeft f.shape (zone_at t z) z image =
    λ z h. left_at f.shape (zone_at t z) z image (file_at d (zone_name (zone_at t z).kind z)) (device.sound.zones z h) (device.holds.zones z h)
    (λ g there off. (subst (λ (x : Label). IsLengthAt f.shape x (file_at d (zone_name x.kind z))) (label_zone z) (device.frames.lengths z (small z h))) off g there)
    (is.each (zone_name (zone_at t z).kind z)) in
    let back : (z : ℕ) → z < length new.zones → z < length t.zones = λ z h. omega (arith, length-zones_left image 0 t.zones) in
    let numbers : geometry new ≡ geometry_of_device (numbers_of f.shape labels) =
    ap (λ kinds. let g : Geometry = record { shape = f.shape; kinds = kinds } in g) (left-kinds image 0 t.zones) ∙ numbers_seen (Some d) f kepts device.kept.count device.frames.numbers in
    record {
      stands = record {
        told = refl;
        geo = numbers_of f.shape labels;
        numbers = numbers;
        conv = device.frames.conv;
        device = there_left (file_at d device_name) _ (bytes_at image device_name) device.frames.device (is.each device_name);
        zones = λ z h. subst (λ (x : Zone). IsZoneFile f.shape x (bytes_at image (zone_name x.kind z))) (sym (at z (back z h))) (each z (back z h)).file;
        read_only = λ z h. subst (λ (x : Zone). IsReadOnlyMarker x.cond (bytes_at image (read_only_name x.kind z))) (sym (at z (back z h)))
            (read_only_left (zone_at t z).cond (file_at d (read_only_name (zone_at t z).kind z)) (bytes_at image (read_only_name (zone_at t z).kind z))
            (subst (λ (x : Label). IsReadOnlyAt x.cond (file_at d (read_only_name x.kind z))) (label_zone z) (device.frames.read_only z (small z (back z h)))) (is.each (read_only_name (zone_at t z).kind z)));
        offline = λ z h. subst (λ (x : Zone). IsOfflineMarker x.cond (bytes_at image (offline_name x.kind z))) (sym (at z (back z h)))
            (offline_left (zone_at t z).cond (file_at d (offline_name (zone_at t z).kind z)) (bytes_at image (offline_name (zone_at t z).kind z))
            (subst (λ (x : Label). IsOfflineAt x.cond (file_at d (offline_name x.kind z))) (label_zone z) (device.frames.offline z (small z (back z h)))) (is.each (offline_name (zone_at t z).kind z)));
        others = λ name some. name_is new (numbers_of f.shape labels) name (has_kinds new (numbers_of f.shape labels) numbers) (device.frames.others name (some_left (file_at d name) (bytes_at image name) (is.each name) some));
      };
      loss = record {
        told = refl;
        shape = refl;
        count = length-zones_left image 0 t.zones;
        zones = λ z h. subst (IsZoneLoss true (zone_at t z)) (sym (at z h)) (each z h).loss;
      };
    }

-- unless the device is spoilt
pub stops_told : (spoilt : Bool) (o : Option Directory) (m : Machine) (kepts : List Kept) (listed : List ℕ) (d : Directory) (image : Contents) → IsZloop spoilt o m kepts listed → spoilt ≡ false → o ≡ Some d → IsImageOf d image
    → StandsLost (truth_told spoilt o m kepts) image
stops_told spoilt o m kepts listed d image holds clear told is =
    subst (λ (b : Bool). StandsLost (truth_told b o m kepts) image) (sym clear)
    (subst (λ (x : Option Directory). StandsLost (truth_seen x (facts m) kepts) image) (sym told)
    (image_lost d (facts m) kepts listed image (subst (λ (x : Option Directory). IsSoundZloop x (facts m) kepts listed) told (holds.device clear)) is))
