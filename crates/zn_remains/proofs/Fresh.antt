-- The session that the command `scratch` begins may begin.
use Rattle.std.proofs.Common.{◌≡◌, inl, ℕ, ◌-◌, ◌*◌, ◌<◌, ◌≤◌, Bool, true, false, List, [], ◌∷◌, length, map, get_or, Option, Some, None, refl, sym, ap, subst, arith, length-append}
use Rattle.std.specs.Prelude.{if◌then◌else◌, ◌&&◌, nat_le, replicate, codes}
use Rattle.std.specs.Str.{bytes_eq}
use Rattle.std.proofs.lemmas.Bool.{and_parts, leb-true}
use Rattle.std.proofs.lemmas.Bool.Decides.{nat_tests}
use Rattle.std.proofs.lemmas.Grind.{common_steps}
use Rattle.std.proofs.lemmas.List.{get_or-map, length-map, length-replicate}
use Rattle.zn_base.specs.Decimals.{number_in}
use Rattle.zn_base.proofs.DecimalLaws.{decimal-number_in}
use Rattle.zn_truth.specs.declared.Kind.{Kind}
use Rattle.zn_truth.specs.declared.Kind.TheVariants.{Conventional, Sequential}
use Rattle.zn_truth.specs.declared.Shape.{Shape}
use Rattle.zn_truth.specs.declared.limits.TheConstants.{MAX_ZONES, MAX_BLOCKS}
use Rattle.zn_truth.specs.Fresh.{fresh_zone, fresh_truth}
use Rattle.zn_truth.specs.Limits.{IsWithinLimits}
use Rattle.zn_truth.specs.Truth.{Zone, no_zone, is_active, IsSound, IsSoundZone}
use Rattle.zn_truth.specs.World.{geometry_of}
use Rattle.zn_truth.proofs.SoundLoss.{count_by-none}
use Rattle.zn_lines.specs.declared.limits.TheConstants.{SCRATCH_BLOCKS}
use Rattle.zn_lines.specs.declared.words.Scratch.{Scratch}
use Rattle.zn_lines.specs.Lines.{Line}
use Rattle.zn_lines.specs.Scratch.{is_scratch, accepted, scratch_by, command_of, kinds_of, shape_of, scratch_lines, scratch_begun, scratch_table}
use Rattle.zn_remains.specs.Laws.{MayBegin, IsSession, ScratchKeeps}
use Rattle.zn_remains.proofs.Losses.{power_losses_keep}

-- ---- a new device

fresh_zone_sound : (shape : Shape) (kind : Kind) → IsSoundZone true shape (fresh_zone shape kind)
fresh_zone_sound shape Conventional = grind (arith, nat_tests, common_steps)
fresh_zone_sound shape Sequential = grind (arith, nat_tests, common_steps)

fresh_inactive : (shape : Shape) (kind : Kind) → is_active shape (fresh_zone shape kind) ≡ false
fresh_inactive shape Conventional = refl
fresh_inactive shape Sequential = refl

fresh_closed : (shape : Shape) (kind : Kind) → (fresh_zone shape kind).explicit ≡ false
fresh_closed shape Conventional = refl
fresh_closed shape Sequential = refl

-- what holds of the new zone of each kind holds of each zone
fresh_each : (P : Zone → Type 0) (shape : Shape) (kinds : List Kind) (z : ℕ) → z < length (map (fresh_zone shape) kinds) → ((kind : Kind) → P (fresh_zone shape kind)) → P (get_or (map (fresh_zone shape) kinds) z no_zone)
fresh_each P shape kinds z below each =
    subst P (sym (get_or-map (fresh_zone shape) kinds z Sequential no_zone (omega (arith, below, length-map kinds (fresh_zone shape))))) (each (get_or kinds z Sequential))

fresh_sound : (shape : Shape) (kinds : List Kind) → IsSound (fresh_truth shape kinds)
unfolding fresh_truth
fresh_sound shape kinds = record {
  zones = λ z below. fresh_each (IsSoundZone true shape) shape kinds z below (fresh_zone_sound shape);
  active = λ some. let none = count_by-none (is_active shape) no_zone (map (fresh_zone shape) kinds) (λ z below. fresh_each (λ (zone : Zone). is_active shape zone ≡ false) shape kinds z below (fresh_inactive shape)) in omega (arith, none);
  explicit = λ some. let none = count_by-none (λ (zone : Zone). zone.explicit) no_zone (map (fresh_zone shape) kinds) (λ z below. fresh_each (λ (zone : Zone). zone.explicit ≡ false) shape kinds z below (fresh_closed shape)) in omega (arith, none);
}

kinds-fresh : (shape : Shape) (kinds : List Kind) → map (λ (zone : Zone). zone.kind) (map (fresh_zone shape) kinds) ≡ kinds
kinds-fresh shape [] = refl
kinds-fresh shape (Conventional ∷ kinds) = ap (λ (ks : List Kind). Conventional ∷ ks) (kinds-fresh shape kinds)
kinds-fresh shape (Sequential ∷ kinds) = ap (λ (ks : List Kind). Sequential ∷ ks) (kinds-fresh shape kinds)

-- ---- what the words ask for

-- the device that is asked for is within its limits
record IsAsked (s : Scratch) : Type 0 where
  some : 1 ≤ s.zones
  most : s.zones ≤ 4096
  conv : s.conv ≤ s.zones
  least : 2 ≤ s.blocks
  blocks : s.blocks ≤ 65536

taken : {X : Type 0} (b : Bool) (x y : X) → (if b then Some x else None) ≡ Some y → (b ≡ true) × (x ≡ y)
taken true x y is = (refl, cc is)
taken false x y is = absurd (cc)

accepted_asked : (s t : Scratch) → s.zones ≤ 4096 → s.blocks ≤ 65536 → accepted s ≡ Some t → IsAsked t
accepted_asked s t most few is =
    let both = taken (is_scratch s) s t is in
    let all = and_parts (nat_le 1 s.zones && nat_le s.conv s.zones && nat_le 2 s.blocks) (nat_le (s.zones * s.blocks) SCRATCH_BLOCKS) both.0 in
    let three = and_parts (nat_le 1 s.zones && nat_le s.conv s.zones) (nat_le 2 s.blocks) all.0 in
    let two = and_parts (nat_le 1 s.zones) (nat_le s.conv s.zones) three.0 in
    let asked : IsAsked s = record { some = leb-true 1 s.zones two.0; most = most; conv = leb-true s.conv s.zones two.1; least = leb-true 2 s.blocks three.1; blocks = few } in
    subst IsAsked both.1 asked

by_numbers : (zones conv blocks : Option ℕ) (s : Scratch) → ((n : ℕ) → zones ≡ Some n → n ≤ 4096) → ((n : ℕ) → blocks ≡ Some n → n ≤ 65536) → scratch_by zones conv blocks ≡ Some s → IsAsked s
by_numbers (Some zones) (Some conv) (Some blocks) s most few is = accepted_asked (record { zones = zones; conv = conv; blocks = blocks }) s (most zones refl) (few blocks refl) is
by_numbers (Some zones) (Some conv) None s most few is = absurd (cc)
by_numbers (Some zones) None blocks s most few is = absurd (cc)
by_numbers None conv blocks s most few is = absurd (cc)

chosen_some : (b : Bool) (found : Option Scratch) (s : Scratch) → (if b then found else None) ≡ Some s → found ≡ Some s
chosen_some true found s is = is
chosen_some false found s is = absurd (cc)

asked : (words : List (List ℕ)) (s : Scratch) → command_of words ≡ Some s → IsAsked s
unfolding command_of
asked [] s is = absurd (cc)
asked (name ∷ []) s is = absurd (cc)
asked (name ∷ zones ∷ []) s is = absurd (cc)
asked (name ∷ zones ∷ conv ∷ []) s is = absurd (cc)
asked (name ∷ zones ∷ conv ∷ blocks ∷ []) s is =
    by_numbers (number_in MAX_ZONES zones) (number_in MAX_ZONES conv) (number_in MAX_BLOCKS blocks) s (λ n found. (decimal-number_in MAX_ZONES n zones (omega arith) found).1) (λ n found. (decimal-number_in MAX_BLOCKS n blocks (omega arith) found).1)
    (chosen_some (bytes_eq name (codes "scratch")) (scratch_by (number_in MAX_ZONES zones) (number_in MAX_ZONES conv) (number_in MAX_BLOCKS blocks)) s is)
asked (name ∷ zones ∷ conv ∷ blocks ∷ more ∷ words) s is = absurd (cc)

-- ---- the session

kinds-length : (s : Scratch) → s.conv ≤ s.zones → length (kinds_of s) ≡ s.zones
kinds-length s le =
    let conv : List Kind = replicate s.conv Conventional in
    let seq : List Kind = replicate (s.zones - s.conv) Sequential in
    omega (arith, le, length-append conv seq, length-replicate s.conv Conventional, length-replicate (s.zones - s.conv) Sequential)

scratch_limits : (s : Scratch) → IsAsked s → IsWithinLimits (record { shape = shape_of s; kinds = kinds_of s })
scratch_limits s is =
    let count = kinds-length s is.conv in
    record {
      some = omega (arith, count, is.some);
      most = omega (arith, count, is.most);
      capacity = is.least;
      fits = omega arith;
      size = is.blocks;
      open_zones = omega arith;
      active_zones = omega arith;
      ordered = inl refl;
    }

scratch_begins : (s : Scratch) (entropy : List ℕ) → IsAsked s → length entropy ≡ 16 → MayBegin (scratch_begun s entropy)
unfolding geometry_of fresh_truth
scratch_begins s entropy is sixteen = record {
  unmounted = refl;
  sound = fresh_sound (shape_of s) (kinds_of s);
  limits = subst (λ (kinds : List Kind). IsWithinLimits (record { shape = shape_of s; kinds = kinds })) (sym (kinds-fresh (shape_of s) (kinds_of s))) (scratch_limits s is);
  entropy = sixteen;
}

scratch_session : (s : Scratch) (entropy : List ℕ) → IsAsked s → length entropy ≡ 16 → IsSession (scratch_table s entropy)
unfolding scratch_table
scratch_session s entropy is sixteen = record {
  begun = scratch_begun s entropy;
  may = scratch_begins s entropy is sixteen;
  lines = map (λ (line : Line). ([], line)) scratch_lines;
  led = refl;
}

pub scratch_keeps : ScratchKeeps
scratch_keeps words s entropy givens tail n bytes is sixteen = power_losses_keep givens tail (scratch_table s entropy) n bytes (scratch_session s entropy (asked words s is) sixteen)
