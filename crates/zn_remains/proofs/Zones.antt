-- What is durable in a sequential zone stays so, step by step.
use Rattle.std.proofs.Common.{◌≡◌, ℕ, ◌*◌, ◌≤◌, Bool, true, false, List, [], ◌++◌, take, None, refl, sym, ap, ◌∙◌, subst, arith}
use Rattle.std.specs.Prelude.{if◌then◌else◌}
use Rattle.std.proofs.lemmas.Bool.Decides.{nat_tests}
use Rattle.std.proofs.lemmas.List.{take-append-le, take-take}
use Rattle.zn_truth.specs.declared.Cond.TheVariants.{Good, ReadOnly}
use Rattle.zn_truth.specs.declared.Kind.{Kind}
use Rattle.zn_truth.specs.declared.Kind.TheVariants.{Sequential}
use Rattle.zn_truth.specs.declared.Shape.{Shape}
use Rattle.zn_truth.specs.declared.ZoneOp.TheVariants.{Open, Close, Finish}
use Rattle.zn_truth.specs.Truth.{Zone, seen}
use Rattle.zn_truth.specs.Orders.{placed, written, managed, flushed}
use Rattle.zn_truth.specs.Power.{settled, clamped}
use Rattle.zn_truth.specs.Loss.{Keeps, KeepsDurable, IsZoneLoss, turned_by}
use Rattle.zn_truth.proofs.Losses.{IsFit, no_bytes, front_lost, clamped_low, clamped_high}
use Rattle.zn_remains.specs.Remaining.{StaysDurable}

-- ---- any steps

pub stays : (zone : Zone) → StaysDurable zone zone
stays zone = record { blocks = omega arith; bytes = refl }

pub stays_both : (old middle new : Zone) → StaysDurable old middle → StaysDurable middle new → StaysDurable old new
stays_both old middle new first second = record {
  blocks = omega (arith, first.blocks, second.blocks);
  bytes = sym (take-take (4096 * old.durable) (4096 * middle.durable) new.bytes (omega (arith, first.blocks)))
      ∙ ap (take (4096 * old.durable)) second.bytes
      ∙ take-take (4096 * old.durable) (4096 * middle.durable) middle.bytes (omega (arith, first.blocks))
      ∙ first.bytes;
}

-- bytes whose front is a zone's
front_told : (told : Bool) (zone : Zone) (bytes : List ℕ) → IsFit told zone → (told ≡ true → take (4096 * zone.durable) bytes ≡ take (4096 * zone.durable) zone.bytes)
    → take (4096 * zone.durable) (if told then bytes else []) ≡ take (4096 * zone.durable) zone.bytes
front_told true zone bytes fit same = same refl
front_told false zone bytes fit same = ap (take (4096 * zone.durable)) (sym (no_bytes zone fit))

-- bytes behind those that a zone holds
front_before : (told : Bool) (zone : Zone) (more : List ℕ) → IsFit told zone → take (4096 * zone.durable) (if told then zone.bytes ++ more else []) ≡ take (4096 * zone.durable) zone.bytes
front_before told zone more fit =
    front_told told zone (zone.bytes ++ more) fit (λ is. take-append-le (4096 * zone.durable) zone.bytes more (omega (arith, fit.durable, fit.bytes ∙ ap (λ (b : Bool). if b then 4096 * zone.held else 0) is)))

-- ---- orders

pub placed_stays : (told : Bool) (zone : Zone) (at : ℕ) (new : List ℕ) → IsFit told zone → StaysDurable zone (seen told (placed Sequential zone at new))
placed_stays told zone at new fit = record { blocks = omega arith; bytes = front_before told zone new fit }

written_durable : (shape : Shape) (zone : Zone) (at : ℕ) (new : List ℕ) → zone.durable ≤ zone.held → zone.durable ≤ (written Sequential shape zone at new).durable
written_durable shape zone at new fit = grind (arith, nat_tests)

pub written_stays : (told : Bool) (shape : Shape) (zone : Zone) (at : ℕ) (new : List ℕ) → IsFit told zone → StaysDurable zone (seen told (written Sequential shape zone at new))
written_stays told shape zone at new fit = record { blocks = written_durable shape zone at new fit.durable; bytes = front_before told zone new fit }

-- a zone whose bytes stay
same_bytes : (told : Bool) (zone : Zone) → IsFit told zone → take (4096 * zone.durable) (if told then zone.bytes else []) ≡ take (4096 * zone.durable) zone.bytes
same_bytes told zone fit = front_told told zone zone.bytes fit (λ is. refl)

pub finished_stays : (told : Bool) (shape : Shape) (zone : Zone) → IsFit told zone → zone.held ≤ shape.zone_capacity → StaysDurable zone (seen told (managed Finish shape zone))
finished_stays told shape zone fit room = record { blocks = omega (arith, fit.durable, room); bytes = front_before told zone _ fit }

pub opened_stays : (told : Bool) (shape : Shape) (zone : Zone) → IsFit told zone → StaysDurable zone (seen told (managed Open shape zone))
opened_stays told shape zone fit = record { blocks = omega arith; bytes = same_bytes told zone fit }

pub closed_stays : (told : Bool) (shape : Shape) (zone : Zone) → IsFit told zone → StaysDurable zone (seen told (managed Close shape zone))
closed_stays told shape zone fit = record { blocks = omega arith; bytes = same_bytes told zone fit }

pub flushed_stays : (told : Bool) (zone : Zone) → IsFit told zone → StaysDurable zone (flushed zone)
flushed_stays told zone fit = record { blocks = fit.durable; bytes = refl }

-- ---- faults, turns and losses

pub settled_stays : (told : Bool) (zone : Zone) (len : ℕ) → IsFit told zone → StaysDurable zone (seen told (settled zone (clamped zone len) (clamped zone len) None))
settled_stays told zone len fit = record {
  blocks = clamped_low zone len fit.durable;
  bytes = front_lost told None zone (clamped zone len) fit (clamped_low zone len fit.durable) (clamped_high zone len);
}

pub turned_good_stays : (told : Bool) (zone : Zone) → IsFit told zone → StaysDurable zone (seen told (turned_by Good zone))
turned_good_stays told zone fit = record { blocks = fit.durable; bytes = same_bytes told zone fit }

pub turned_stays : (told : Bool) (zone : Zone) → IsFit told zone → StaysDurable zone (seen told (turned_by ReadOnly zone))
turned_stays told zone fit = record { blocks = fit.durable; bytes = same_bytes told zone fit }

pub keeps_of : (told : Bool) (old new : Zone) → old.kind ≡ Sequential → IsZoneLoss told old new → KeepsDurable old new
keeps_of told old new kind loss = subst (λ (k : Kind). Keeps k old new) kind loss.keeps

pub lost_stays : (told : Bool) (old new : Zone) → old.kind ≡ Sequential → IsZoneLoss told old new → StaysDurable old new
lost_stays told old new kind loss = let keeps = keeps_of told old new kind loss in record { blocks = omega (arith, keeps.no_less, loss.durable); bytes = keeps.front }
