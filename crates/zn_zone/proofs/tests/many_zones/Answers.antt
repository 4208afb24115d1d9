use Rattle.std.proofs.Common.{◌≡◌, ℕ, ◌<◌, ◌∷◌, false, length, map, replicate, get_or, refl, sym, ap, ◌∙◌, subst}
use Rattle.std.proofs.Common.{suc, zero, arith}
use Rattle.std.specs.List.{zip}
use Rattle.std.proofs.lemmas.Bool.{false≢true}
use Rattle.std.proofs.lemmas.List.{get_or-replicate, length-replicate}
use Rattle.zn_truth.specs.declared.Kind.TheVariants.{Sequential}
use Rattle.zn_truth.specs.declared.Cond.TheVariants.{Good}
use Rattle.zn_truth.specs.declared.Shape.{Shape}
use Rattle.zn_truth.specs.declared.ZoneInfo.{ZoneInfo}
use Rattle.zn_truth.specs.Truth.{no_zone}
use Rattle.zn_zone.specs.Facts.{ZoneFacts, zone_facts, reported_zone, reported, IsStartZone, IsStart}
use Rattle.zn_zone.proofs.tests.many_zones.Goals as goal

abbrev empty : ZoneInfo
empty = record { cond = Good; held = 0; explicit = false }

abbrev empty_facts : ZoneFacts
empty_facts = record { kind = Sequential; cond = Good; held = 0; explicit = false }

all_empty : (n : ℕ) → map reported_zone (zip (replicate n Sequential) (replicate n empty)) ≡ replicate n empty_facts
all_empty zero = refl
all_empty (suc n) = ap (λ zones. empty_facts ∷ zones) (all_empty n)

-- so many empty sequential zones are a start where any number may be active
many_start : (shape : Shape) (n : ℕ) → shape.max_active ≡ 0
    → IsStart (reported shape (replicate n Sequential) (replicate n empty))
many_start shape n free = record {
  zones = λ z below.
      let inside : z < n = omega (arith, below, ap length (all_empty n), length-replicate n empty_facts) in
      subst (λ (zone : ZoneFacts). IsStartZone shape zone)
      (sym (ap (λ zones. get_or zones z (zone_facts no_zone)) (all_empty n)
      ∙ get_or-replicate n z empty_facts (zone_facts no_zone) inside))
      (record {
        closed = refl;
        conventional = λ no _. absurd
            (no refl);
        sequential = λ _. omega arith;
        offline = λ h. absurd (false≢true h);
      });
  active = λ on. absurd (omega (arith, on, free));
}

pub new-requires-clause-start : goal.new-requires-clause-start
new-requires-clause-start c = many_start _ 130 refl
