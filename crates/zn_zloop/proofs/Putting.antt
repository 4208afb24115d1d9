-- One zone changes, with its file and what is kept of it.
use Rattle.std.proofs.Common.{◌≡◌, inl, inr, ℕ, ◌<◌, ◌≤◌, Bool, true, false, List, [], ◌∷◌, length, set, get_or, Option, Some, None, Ok, Err, refl, sym, ap, ◌∙◌, subst, arith}
use Rattle.std.specs.Prelude.{is_some, ◌≢◌, if◌then◌else◌, IsTrue, IsErrOf, IsSome, ⊤}
use Rattle.std.proofs.lemmas.Option.{same_Some}
use Rattle.zn_truth.specs.Limits.{IsWithinLimits}
use Rattle.zn_zone.specs.declared.state.State.{State}
use Rattle.zn_zone.specs.Machine.{Machine, state_at, facts, geometry_in}
use Rattle.std.specs.Option.{option_map}
use Rattle.std.proofs.lemmas.Bool.{cases_eq}
use Rattle.std.proofs.lemmas.List.{length-set, length-map, get_or-set_same, get_or-set_other}
use Rattle.zn_truth.specs.declared.Kind.{Kind}
use Rattle.zn_truth.specs.declared.DevError.{DevError}
use Rattle.zn_truth.specs.declared.DevError.TheVariants.{Broken}
use Rattle.zn_truth.specs.Obeying.{IsAnswered, IsOrderFor}
use Rattle.zn_truth.proofs.Sound.{done_sound}
use Rattle.zn_truth.specs.Truth.{Zone, Truth, geometry, zone_at, with_zone, no_zone, seen, is_offline, IsSoundZone, IsSound}
use Rattle.zn_truth.specs.Orders.{Order, Reply, Done, effect, done}
use Rattle.zn_zone.specs.Facts.{ZoneFacts, Facts, zone_facts, facts_at, with_facts, outline, refusal_by, after}
use Rattle.zn_stand.specs.File.{File}
use Rattle.zn_stand.specs.Maps.{Name}
use Rattle.zn_stand.specs.Directory.{Directory, file_at}
use Rattle.zn_zloop.specs.declared.kept.Kept.{Kept}
use Rattle.zn_zloop.specs.Served.{Changed, ChangedWhereTold, Served}
use Rattle.zn_stand.specs.ZoneNames.{zone_name}
use Rattle.zn_zloop.specs.Backing.{IsFileOf, IsFileAt}
use Rattle.zn_zloop.specs.Seen.{bytes_in, bytes_seen, zone_seen, truth_seen}
use Rattle.zn_zloop.specs.Holding.{Holds, HoldsWhereTold, IsKept, AreKept, IsSoundZloop}
use Rattle.zn_zloop.specs.Following.{Follows, Touches}
use Rattle.zn_files.specs.States.{FilesState}
use Rattle.zn_zloop.specs.Framing.{Label, label_of, labels_of, label_at, FramesWhereTold}
use Rattle.zn_zloop.proofs.Frames.{labels_stay, label_is, frame_put}
use Rattle.zn_zloop.proofs.ZoneNaming.{names_apart}
use Rattle.zn_zloop.proofs.Serving.{err_apart}
use Rattle.zn_zloop.proofs.Sight.{seen_at, zones-facts, facts_at-facts, zones-seen, seen_put, order_put, facts_put, done_reply, refused_reply, refused_truth}

-- where contents are told, the file of this name is the zone's
abbrev pub HoldsAt : Option Directory → Name → Zone → Type 0
HoldsAt None name zone = ⊤
HoldsAt (Some d) name zone = IsFileAt zone (file_at d name)

-- ---- the file of a zone

there_if : (o : Option Directory) (name : Name) (zone : Zone) → HoldsAt o name zone → (d : Directory) → o ≡ Some d → IsSome (file_at d name)
there_if None name zone holds d is = absurd (cc)
there_if (Some e) name zone holds d is = subst (λ (x : Directory). IsSome (file_at x name)) (same_Some e d is) (at (file_at e name) holds)
  where
    at : (x : Option File) → IsFileAt zone x → IsSome x
    at None h = absurd h
    at (Some f) h = refl

pub held_at : (o : Option Directory) (f : Facts) (kepts : List Kept) (listed : List ℕ) (z : ℕ) → IsSoundZloop o f kepts listed → z < length f.zones
    → HoldsAt o (zone_name (facts_at f z).kind z) (zone_at (truth_seen o f kepts) z)
held_at o f kepts listed z device below = at o refl
  where
    kind : (e : Option Directory) → (zone_at (truth_seen e f kepts) z).kind ≡ (facts_at f z).kind
    kind e = zone_kind kepts device.kept.count
      where
        zone_kind : (all : List Kept) → length all ≡ length f.zones → (zone_at (truth_seen e f all) z).kind ≡ (facts_at f z).kind
        zone_kind [] h = absurd (omega arith)
        zone_kind (kept ∷ rest) h = ap (λ (zone : Zone). zone.kind) (seen_at e f (kept ∷ rest) z kept h below)

    at : (e : Option Directory) → o ≡ e → HoldsAt e (zone_name (facts_at f z).kind z) (zone_at (truth_seen e f kepts) z)
    at None is = tt
    at (Some d) is =
        let holds : Holds d (truth_seen (Some d) f kepts) = subst (λ (x : Option Directory). HoldsWhereTold x (truth_seen x f kepts)) is device.holds in
        subst (λ k. IsFileAt (zone_at (truth_seen (Some d) f kepts) z) (file_at d (zone_name k z))) (kind (Some d))
        (holds.zones z (omega (arith, zones-seen (Some d) f kepts device.kept.count)))

-- after calls on it
pub map_at : (o e : Option Directory) (name : Name) (g : File → File) (old new : Zone) → HoldsAt o name old → ChangedWhereTold name (λ a b. b ≡ option_map g a) o e → (is_some o ≡ true → (x : File) → IsFileOf old x → IsFileOf new (g x))
    → HoldsAt e name new
map_at None None name g old new holds changed each = tt
map_at None (Some e) name g old new holds changed each = absurd changed
map_at (Some d) None name g old new holds changed each = absurd changed
map_at (Some d) (Some e) name g old new holds changed each = subst (IsFileAt new) (sym changed.file) (at (file_at d name) holds)
  where
    at : (x : Option File) → IsFileAt old x → IsFileAt new (option_map g x)
    at None h = absurd h
    at (Some x) h = each refl x h

-- ---- what is seen

pub told_same : (name : Name) (R : Option File → Option File → Type 0) (o e : Option Directory) → ChangedWhereTold name R o e → is_some e ≡ is_some o
told_same name R None None changed = refl
told_same name R None (Some e) changed = absurd changed
told_same name R (Some d) None changed = absurd changed
told_same name R (Some d) (Some e) changed = refl

pub other_bytes : (R : Option File → Option File → Type 0) (o e : Option Directory) (kind : Kind) (z k : ℕ) (zone : ZoneFacts) → ChangedWhereTold (zone_name kind z) R o e → z < 1000000 → k < 1000000 → k ≢ z
    → bytes_seen e zone k ≡ bytes_seen o zone k
other_bytes R None None kind z k zone changed small low apart = refl
other_bytes R None (Some e) kind z k zone changed small low apart = absurd changed
other_bytes R (Some d) None kind z k zone changed small low apart = absurd changed
other_bytes R (Some d) (Some e) kind z k zone changed small low apart =
    ap (λ (x : Option File). if is_offline zone.cond then [] else bytes_in x) (changed.others (zone_name zone.kind k) (names_apart zone.kind kind k z low small apart))

own_bytes : (e : Option Directory) (z : ℕ) (zone : Zone) → HoldsAt e (zone_name zone.kind z) zone → (IsTrue (is_offline zone.cond) → zone.bytes ≡ []) → bytes_seen e (zone_facts zone) z ≡ (seen (is_some e) zone).bytes
own_bytes None z zone holds none = refl
own_bytes (Some d) z zone holds none = at (file_at d (zone_name zone.kind z)) (is_offline zone.cond) refl holds
  where
    at : (x : Option File) (b : Bool) → is_offline zone.cond ≡ b → IsFileAt zone x → (if b then [] else bytes_in x) ≡ zone.bytes
    at None b is h = absurd h
    at (Some x) true is h = sym (none is)
    at (Some x) false is h = h.bytes (λ off. absurd (cc (off, is)))

-- the zone as it is seen after that
pub zone_put : (o e : Option Directory) (z : ℕ) (zone : Zone) (kept : Kept) → is_some e ≡ is_some o → HoldsAt e (zone_name zone.kind z) zone → (IsTrue (is_offline zone.cond) → zone.bytes ≡ [])
    → kept.durable ≡ zone.durable → kept.unflushed.items ≡ zone.unflushed → zone_seen e z (zone_facts zone) kept ≡ seen (is_some o) zone
zone_put o e z zone kept told holds none durable unflushed =
    let bytes : bytes_seen e (zone_facts zone) z ≡ (seen (is_some o) zone).bytes = own_bytes e z zone holds none ∙ ap (λ b. (seen b zone).bytes) told in
    λ i. record { kind = zone.kind; cond = zone.cond; held = zone.held; bytes = bytes i; durable = durable i; unflushed = unflushed i; explicit = zone.explicit }

-- ---- what is kept

pub kept_put : (f : Facts) (kepts : List Kept) (listed more : List ℕ) (z : ℕ) (zf : ZoneFacts) (kept : Kept) → AreKept f kepts listed → z < length f.zones → IsKept zf.held more z kept
    → ((k held : ℕ) (own : Kept) → k ≢ z → IsKept held listed k own → IsKept held more k own) → ((i : ℕ) → i < length more → get_or more i 0 < length kepts)
    → AreKept (with_facts f z zf) (set kepts z kept) more
kept_put f kepts listed more z zf kept are below own still numbers = record {
  count = length-set kepts z kept ∙ are.count ∙ sym (length-set f.zones z zf);
  each = λ k other h.
      let inside : k < length kepts = omega (arith, length-set kepts z kept) in
      elim (cases_eq k z) [
        | inl same ↦ subst (λ (n : ℕ). IsKept (get_or (set f.zones z zf) n (zone_facts no_zone)).held more n (get_or (set kepts z kept) n other)) (sym same)
            (subst (λ (x : ZoneFacts). IsKept x.held more z (get_or (set kepts z kept) z other)) (sym (get_or-set_same f.zones z zf (zone_facts no_zone) below))
            (subst (IsKept zf.held more z) (sym (get_or-set_same kepts z kept other (omega (arith, are.count)))) own))
        | inr apart ↦
            subst (λ (x : ZoneFacts). IsKept x.held more k (get_or (set kepts z kept) k other)) (sym (get_or-set_other f.zones z k zf (zone_facts no_zone) apart))
            (subst (IsKept (facts_at f k).held more k) (sym (get_or-set_other kepts z k kept other apart)) (still k (facts_at f k).held (get_or kepts k other) apart (are.each k other inside)))
      ];
  numbers = λ i h. omega (arith, numbers i h, length-set kepts z kept);
}

-- ---- the directory

zone_at-same : (t : Truth) (z : ℕ) (zone : Zone) → z < length t.zones → zone_at (with_zone t z zone) z ≡ seen t.told zone
zone_at-same t z zone below = get_or-set_same t.zones z (seen t.told zone) no_zone below

zone_at-other : (t : Truth) (z k : ℕ) (zone : Zone) → k ≢ z → zone_at (with_zone t z zone) k ≡ zone_at t k
zone_at-other t z k zone apart = get_or-set_other t.zones z k (seen t.told zone) no_zone apart

pub holds_put : (R : Option File → Option File → Type 0) (d e : Directory) (t : Truth) (z : ℕ) (zone : Zone) → Holds d t → t.told ≡ true → z < length t.zones → length t.zones ≤ 1000000 → Changed (zone_name zone.kind z) R d e
    → IsFileAt zone (file_at e (zone_name zone.kind z)) → Holds e (with_zone t z zone)
holds_put R d e t z zone holds told below few changed file = record {
  zones = λ k h.
      let inside : k < length t.zones = omega (arith, length-set t.zones z (seen t.told zone)) in
      elim (cases_eq k z) [
        | inl same ↦ subst (λ (n : ℕ). IsFileAt (zone_at (with_zone t z zone) n) (file_at e (zone_name (zone_at (with_zone t z zone) n).kind n))) (sym same)
            (subst (λ (x : Zone). IsFileAt x (file_at e (zone_name x.kind z))) (sym (zone_at-same t z zone below ∙ ap (λ b. seen b zone) told)) file)
        | inr apart ↦
            let old = holds.zones k inside in
            subst (λ (x : Zone). IsFileAt x (file_at e (zone_name x.kind k))) (sym (zone_at-other t z k zone apart))
            (subst (IsFileAt (zone_at t k)) (sym (changed.others (zone_name (zone_at t k).kind k) (names_apart (zone_at t k).kind zone.kind k z (omega arith) (omega arith) apart))) old)
      ];
}

pub told_put : (R : Option File → Option File → Type 0) (o e : Option Directory) (t : Truth) (z : ℕ) (zone : Zone) → HoldsWhereTold o t → t.told ≡ is_some o → z < length t.zones → length t.zones ≤ 1000000
    → ChangedWhereTold (zone_name zone.kind z) R o e → HoldsAt e (zone_name zone.kind z) zone → HoldsWhereTold e (with_zone t z zone)
told_put R None None t z zone holds told below few changed file = tt
told_put R None (Some e) t z zone holds told below few changed file = absurd changed
told_put R (Some d) None t z zone holds told below few changed file = absurd changed
told_put R (Some d) (Some e) t z zone holds told below few changed file = holds_put R d e t z zone holds told below few changed file

-- ---- the device

-- what the zone, its file and what is kept of it then are
pub record IsPut (R : Option File → Option File → Type 0) (o e : Option Directory) (f : Facts) (more : List ℕ) (z : ℕ) (zone : Zone) (kept : Kept) : Type 0 where
  pub below : z < length f.zones
  pub few : length f.zones ≤ 1000000
  pub kind : zone.kind ≡ (facts_at f z).kind
  pub cond : zone.cond ≡ (facts_at f z).cond
  pub changed : ChangedWhereTold (zone_name zone.kind z) R o e
  pub still : IsTrue (is_offline zone.cond) → (d b : Directory) → o ≡ Some d → e ≡ Some b → bytes_in (file_at b (zone_name zone.kind z)) ≡ bytes_in (file_at d (zone_name zone.kind z))
  pub file : HoldsAt e (zone_name zone.kind z) zone
  pub offline : IsTrue (is_offline zone.cond) → zone.bytes ≡ []
  pub durable : kept.durable ≡ zone.durable
  pub unflushed : kept.unflushed.items ≡ zone.unflushed
  pub own : IsKept zone.held more z kept

pub truth_put : (R : Option File → Option File → Type 0) (o e : Option Directory) (f : Facts) (kepts : List Kept) (more : List ℕ) (z : ℕ) (zone : Zone) (kept : Kept) → length kepts ≡ length f.zones
    → IsPut R o e f more z zone kept → truth_seen e (with_facts f z (zone_facts zone)) (set kepts z kept) ≡ with_zone (truth_seen o f kepts) z zone
truth_put R o e f kepts more z zone kept count put =
    let told = told_same (zone_name zone.kind z) R o e put.changed in
    seen_put o e f kepts z (zone_facts zone) kept zone count put.below told
    (λ k other h apart is. other_bytes R o e zone.kind z k other put.changed (omega (arith, put.below, put.few)) (omega (arith, put.few)) apart)
    (zone_put o e z zone kept told put.file put.offline put.durable put.unflushed)

told_frames : (R : Option File → Option File → Type 0) (o e : Option Directory) (f : Facts) {more : List ℕ} (z : ℕ) (zone : Zone) {kept : Kept} → IsPut R o e f more z zone kept → FramesWhereTold f.shape (labels_of f) o
    → ((d : Directory) → o ≡ Some d → IsSome (file_at d (zone_name zone.kind z))) → FramesWhereTold f.shape (labels_of (with_facts f z (zone_facts zone))) e
told_frames R o e f z zone put frames there =
    subst (λ (labels : List Label). FramesWhereTold f.shape labels e) (sym (labels_stay f z (zone_facts zone) put.kind put.cond)) (at o e refl refl frames put.changed there put.still)
  where
    label_kind : zone.kind ≡ (label_at (labels_of f) z).kind
    label_kind = put.kind ∙ sym (ap (λ (x : Label). x.kind) (label_is f z))

    label_cond : (label_at (labels_of f) z).cond ≡ zone.cond
    label_cond = ap (λ (x : Label). x.cond) (label_is f z) ∙ sym put.cond

    at : (a b : Option Directory) → o ≡ a → e ≡ b → FramesWhereTold f.shape (labels_of f) a → ChangedWhereTold (zone_name zone.kind z) R a b → ((d : Directory) → a ≡ Some d → IsSome (file_at d (zone_name zone.kind z)))
        → (IsTrue (is_offline zone.cond) → (d c : Directory) → a ≡ Some d → b ≡ Some c → bytes_in (file_at c (zone_name zone.kind z)) ≡ bytes_in (file_at d (zone_name zone.kind z))) → FramesWhereTold f.shape (labels_of f) b
    at None None old new frames changed there still = tt
    at None (Some c) old new frames changed there still = absurd changed
    at (Some d) None old new frames changed there still = absurd changed
    at (Some d) (Some c) old new frames changed there still =
        frame_put R f.shape (labels_of f) zone.kind d c z frames (omega (arith, put.below, length-map f.zones label_of)) (omega (arith, put.few, length-map f.zones label_of)) label_kind changed (there d refl)
        (λ off. still (subst (λ x. IsTrue (is_offline x)) label_cond off) d c refl refl)

pub device_put : (R : Option File → Option File → Type 0) (o e : Option Directory) (f : Facts) (kepts : List Kept) (listed more : List ℕ) (z : ℕ) (zone : Zone) (kept : Kept) → IsSoundZloop o f kepts listed
    → IsPut R o e f more z zone kept → ((k held : ℕ) (own : Kept) → k ≢ z → IsKept held listed k own → IsKept held more k own) → ((i : ℕ) → i < length more → get_or more i 0 < length kepts)
    → IsSound (with_zone (truth_seen o f kepts) z zone) → IsSoundZloop e (with_facts f z (zone_facts zone)) (set kepts z kept) more
device_put R o e f kepts listed more z zone kept device put still numbers sound =
    let is = truth_put R o e f kepts more z zone kept device.kept.count put in
    let seen_zones = zones-seen o f kepts device.kept.count in
    record {
      kept = kept_put f kepts listed more z (zone_facts zone) kept device.kept put.below put.own still numbers;
      sound = subst IsSound (sym is) sound;
      frames = told_frames R o e f z zone put device.frames (λ d told. there_if o (zone_name zone.kind z) (zone_at (truth_seen o f kepts) z) (subst (λ k. HoldsAt o (zone_name k z) (zone_at (truth_seen o f kepts) z)) (sym put.kind) (held_at o f kepts listed z device put.below)) d told);
      holds = subst (HoldsWhereTold e) (sym is) (told_put R o e (truth_seen o f kepts) z zone device.holds refl (omega (arith, put.below)) (omega (arith, put.few)) put.changed put.file);
    }

-- ---- an order

-- an order that isn't refused, and changes one zone
pub order_follows : (R : Option File → Option File → Type 0) (o e : Option Directory) (f g : Facts) (kepts : List Kept) (listed more : List ℕ) (order : Order) (z : ℕ) (zone : Zone) (kept : Kept) → IsSoundZloop o f kepts listed
    → IsPut R o e f more z zone kept → ((k held : ℕ) (own : Kept) → k ≢ z → IsKept held listed k own → IsKept held more k own) → ((i : ℕ) → i < length more → get_or more i 0 < length kepts)
    → IsOrderFor (geometry (truth_seen o f kepts)) order → effect (truth_seen o f kepts) order ≡ with_zone (truth_seen o f kepts) z zone → refusal_by f (outline order) ≡ None → g ≡ after f (outline order)
    → Follows (done (truth_seen o f kepts) order) (Ok tt) e g (set kepts z kept) more
order_follows R o e f g kepts listed more order z zone kept device put still numbers fits by none is =
    let count = device.kept.count in
    let t = truth_seen o f kepts in
    let done_is = order_put o f kepts order z zone count by none in
    let facts_is = facts_put o f g kepts order z zone count by none is in
    record {
      reply = λ answered. sym (done_reply o f kepts order count none);
      truth = λ answered. ap (λ h. truth_seen e h (set kepts z kept)) facts_is ∙ truth_put R o e f kepts more z zone kept count put ∙ sym done_is;
      device = λ answered. subst (λ h. IsSoundZloop e h (set kepts z kept) more) (sym facts_is)
          (device_put R o e f kepts listed more z zone kept device put still numbers (subst IsSound done_is (done_sound t order device.sound fits)));
    }

-- a device that answers a refusal stays as it was
pub refused_follows : (o : Option Directory) (f g : Facts) (kepts : List Kept) (listed : List ℕ) (order : Order) (error : DevError) → IsSoundZloop o f kepts listed → g ≡ f → refusal_by f (outline order) ≡ Some error
    → Follows (done (truth_seen o f kepts) order) (Err error) o g kepts listed
refused_follows o f g kepts listed order error device same refused = record {
  reply = λ answered. sym (refused_reply o f kepts order error device.kept.count refused);
  truth = λ answered. ap (λ h. truth_seen o h kepts) same ∙ sym (refused_truth o f kepts order error device.kept.count refused);
  device = λ answered. subst (λ h. IsSoundZloop o h kepts listed) (sym same) device;
}

pub refused_as : (o : Option Directory) (f g : Facts) (kepts : List Kept) (listed : List ℕ) (order : Order) (error : DevError) (r : Reply) → r ≡ Err error → IsSoundZloop o f kepts listed → g ≡ f → refusal_by f (outline order) ≡ Some error
    → Follows (done (truth_seen o f kepts) order) r o g kepts listed
refused_as o f g kepts listed order error r is device same refused = subst (λ (x : Reply). Follows (done (truth_seen o f kepts) order) x o g kepts listed) (sym is) (refused_follows o f g kepts listed order error device same refused)

-- and one that fails owes nothing
pub failed_follows : (meant : Done) (error : DevError) (o : Option Directory) (f : Facts) (kepts : List Kept) (listed : List ℕ) → (IsAnswered (Err error) → ⊥) → Follows meant (Err error) o f kepts listed
failed_follows meant error o f kepts listed none = record {
  reply = λ answered. absurd (none answered);
  truth = λ answered. absurd (none answered);
  device = λ answered. absurd (none answered);
}

-- ---- what it touches

-- calls on a file, of an order that isn't refused
pub served_touches : (meant : Done) (name : Name) (R : Option File → Option File → Type 0) (result : Reply) (old new : FilesState) → meant.reply ≡ Ok tt → Served name R result old new → Touches meant result old new
served_touches meant name R result old new ok served = record {
  cause = served.cause;
  named = λ is. ok;
  untouched = λ error refused. absurd (err_apart error (sym refused ∙ ok));
}

-- calls that fail
pub failed_touches : (meant : Done) (name : Name) (R : Option File → Option File → Type 0) (error : DevError) (r : Reply) (old new : FilesState) → r ≡ Err error → meant.reply ≡ Ok tt → Served name R (Err error) old new → Touches meant r old new
failed_touches meant name R error r old new is ok served = subst (λ (x : Reply). Touches meant x old new) (sym is) (served_touches meant name R (Err error) old new ok served)

-- no call
pub none_touches : (meant : Done) (result : Reply) (s : FilesState) → (IsErrOf result Broken → ⊥) → Touches meant result s s
none_touches meant result s unbroken = record {
  cause = record { later = omega arith; broken = λ is. absurd (unbroken is); whole = λ answered. refl };
  named = λ is. absurd (unbroken is);
  untouched = λ error refused. refl;
}

-- ---- where a command finds its zone

-- what is known of a zone of the machine
pub record IsFound (o : Option Directory) (m : Machine) (kepts : List Kept) (z : ℕ) : Type 0 where
  pub zone : z < length m.zones
  pub below : z < length (facts m).zones
  pub store : z < length kepts
  pub few : length (facts m).zones ≤ 1000000
  pub sound : IsSoundZone (is_some o) m.shape (zone_at (truth_seen o (facts m) kepts) z)
  pub kind : (zone_at (truth_seen o (facts m) kepts) z).kind ≡ (state_at m z).kind
  pub held : (zone_at (truth_seen o (facts m) kepts) z).held ≡ (facts_at (facts m) z).held
  pub cond : (zone_at (truth_seen o (facts m) kepts) z).cond ≡ (facts_at (facts m) z).cond
  pub durable : (kept : Kept) → kept ≡ get_or kepts z kept → (zone_at (truth_seen o (facts m) kepts) z).durable ≡ kept.durable
  pub unflushed : (kept : Kept) → kept ≡ get_or kepts z kept → (zone_at (truth_seen o (facts m) kepts) z).unflushed ≡ kept.unflushed.items
  pub at : HoldsAt o (zone_name (state_at m z).kind z) (zone_at (truth_seen o (facts m) kepts) z)
  pub there : (d : Directory) → o ≡ Some d → IsSome (file_at d (zone_name (state_at m z).kind z))

pub found : (o : Option Directory) (m : Machine) (kepts : List Kept) (listed : List ℕ) (z : ℕ) → IsSoundZloop o (facts m) kepts listed → IsWithinLimits (geometry_in m) → z < length (geometry_in m).kinds → IsFound o m kepts z
found o m kepts listed z device within inside =
    let count = device.kept.count in
    let kinds : length (geometry_in m).kinds ≡ length m.zones = length-map m.zones (λ (zone : State). zone.kind) in
    let below : z < length (facts m).zones = omega (arith, kinds, zones-facts m) in
    let kind_of : (kept : Kept) → (zone_at (truth_seen o (facts m) kepts) z).kind ≡ (state_at m z).kind = λ kept. ap (λ (zone : Zone). zone.kind) (seen_at o (facts m) kepts z kept count below) ∙ ap (λ (zone : ZoneFacts). zone.kind) (facts_at-facts m z) in
    let known = get_kept kepts (omega (arith, count, below)) in
    let at = subst (λ k. HoldsAt o (zone_name k z) (zone_at (truth_seen o (facts m) kepts) z)) (ap (λ (zone : ZoneFacts). zone.kind) (facts_at-facts m z)) (held_at o (facts m) kepts listed z device below) in
    record {
      zone = omega (arith, kinds);
      below = below;
      store = omega (arith, count);
      few = omega (arith, within.most, kinds, zones-facts m);
      sound = device.sound.zones z (omega (arith, zones-seen o (facts m) kepts count));
      kind = kind_of known;
      held = ap (λ (zone : Zone). zone.held) (seen_at o (facts m) kepts z known count below);
      cond = ap (λ (zone : Zone). zone.cond) (seen_at o (facts m) kepts z known count below);
      durable = λ kept is. ap (λ (zone : Zone). zone.durable) (seen_at o (facts m) kepts z kept count below) ∙ ap (λ (k : Kept). k.durable) (sym is);
      unflushed = λ kept is. ap (λ (zone : Zone). zone.unflushed) (seen_at o (facts m) kepts z kept count below) ∙ ap (λ (k : Kept). k.unflushed.items) (sym is);
      at = at;
      there = there_if o (zone_name (state_at m z).kind z) (zone_at (truth_seen o (facts m) kepts) z) at;
    }
  where
    get_kept : (all : List Kept) → 0 < length all → Kept
    get_kept [] h = absurd (omega arith)
    get_kept (kept ∷ rest) h = kept

-- what is kept of it
pub own_kept : (f : Facts) (kepts : List Kept) (listed : List ℕ) (z : ℕ) (kept : Kept) → AreKept f kepts listed → z < length kepts → kept ≡ get_or kepts z kept → IsKept (facts_at f z).held listed z kept
own_kept f kepts listed z kept are below is = subst (IsKept (facts_at f z).held listed z) (sym is) (are.each z kept below)

-- where calls leave the bytes of a file
pub map_still : (o e : Option Directory) (name : Name) (g : File → File) → ((x : File) → (g x).bytes ≡ x.bytes) → ChangedWhereTold name (λ a b. b ≡ option_map g a) o e → (d b : Directory) → o ≡ Some d → e ≡ Some b → bytes_in (file_at b name) ≡ bytes_in (file_at d name)
map_still None e name g same changed d b old new = absurd (cc)
map_still (Some x) None name g same changed d b old new = absurd (cc)
map_still (Some x) (Some y) name g same changed d b old new =
    ap (λ (u : Directory). bytes_in (file_at u name)) (sym (same_Some y b new)) ∙ ap bytes_in changed.file ∙ at (file_at x name) ∙ ap (λ (u : Directory). bytes_in (file_at u name)) (same_Some x d old)
  where
    at : (p : Option File) → bytes_in (option_map g p) ≡ bytes_in p
    at None = refl
    at (Some f) = same f
