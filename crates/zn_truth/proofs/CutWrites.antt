-- A sequential write that a loss of power cuts short.
use Rattle.std.proofs.Common.{◌≡◌, ℕ, ◌-◌, ◌*◌, ◌/◌, ◌<◌, ◌≤◌, min, Bool, true, false, cond, List, length, take, get_or, set, Option, Some, None, refl, sym, ap, ◌∙◌, subst, arith, length-take}
use Rattle.std.specs.Prelude.{if◌then◌else◌, unwrap_or, nat_lt, count_by}
use Rattle.std.proofs.lemmas.Bool.{ltb-true}
use Rattle.std.proofs.lemmas.List.Sums.{sum_by-set}
use Rattle.zn_truth.specs.declared.Kind.{Kind}
use Rattle.zn_truth.specs.declared.Kind.TheVariants.{Conventional, Sequential}
use Rattle.zn_truth.specs.declared.Cond.{Cond}
use Rattle.zn_truth.specs.declared.DevError.{DevError}
use Rattle.zn_truth.specs.declared.Shape.{Shape}
use Rattle.zn_truth.specs.declared.LossSpec.{LossSpec}
use Rattle.zn_truth.specs.Truth.{Zone, Truth, zone_at, no_zone, with_zone, seen, is_active, active, explicit}
use Rattle.zn_truth.specs.Orders.{WriteAt, refusal, changing, writing, opening, placed, written, done, done_unless}
use Rattle.zn_truth.specs.Power.{settled, cut_of, stored, cut_write, lost}
use Rattle.zn_truth.specs.Loss.{IsLossOf, IsLossOfOne, stages_unless, IsLossInside}
use Rattle.zn_truth.proofs.Losses.{AreFit}
use Rattle.zn_truth.proofs.LossesInside.{zone_at-with, with_with, with_same, Shortens, shortened_fit, shortened_lessens, settled_shortens, cut_shortens, placed_shortens, part_shortens, length-stored, lessened_is_loss, all_settled, cut_zone}

-- ---- what refuses the write stays the same

count_same : {X : Type 0} (p : X → Bool) (xs : List X) (i : ℕ) (y d : X) → i < length xs → p y ≡ p (get_or xs i d) → count_by p (set xs i y) ≡ count_by p xs
count_same p xs i y d h same =
    let e : cond {A = ℕ} (p y) 1 0 ≡ cond {A = ℕ} (p (get_or xs i d)) 1 0 = ap (λ (b : Bool). cond {A = ℕ} b 1 0) same in
    omega (arith, e, sum_by-set (λ x. cond (p x) 1 0) xs i y d h)

same_opening : (t u : Truth) (a b : Zone) → u.shape ≡ t.shape → active u ≡ active t → explicit u ≡ explicit t → b.held ≡ a.held → b.explicit ≡ a.explicit → opening u b ≡ opening t a
same_opening t u a b shape count opened held mark = cc

-- a zone that differs in its bytes, its durable length and its flags alone
pub record IsAlike (old new : Zone) : Type 0 where
  pub kind : new.kind ≡ old.kind
  pub cond : new.cond ≡ old.cond
  pub held : new.held ≡ old.held
  pub explicit : new.explicit ≡ old.explicit

same_active : (shape : Shape) (old new : Zone) → IsAlike old new → is_active shape new ≡ is_active shape old
same_active shape old new alike = cc

same_writing : (kind : Kind) (t u : Truth) (a b : Zone) (at : ℕ) → opening u b ≡ opening t a → b.held ≡ a.held → writing kind u b at ≡ writing kind t a at
same_writing Conventional t u a b at opens held = refl
same_writing Sequential t u a b at opens held = cc

same_changing : (t u : Truth) (a b : Zone) (at : ℕ) → IsAlike a b → opening u b ≡ opening t a → changing b.cond (writing b.kind u b at) ≡ changing a.cond (writing a.kind t a at)
same_changing t u a b at alike opens =
    ap (changing b.cond) (same_writing b.kind t u a b at opens alike.held)
    ∙ ap (λ (kind : Kind). changing b.cond (writing kind t a at)) alike.kind
    ∙ ap (λ (cond : Cond). changing cond (writing a.kind t a at)) alike.cond

alike_opening : (t : Truth) (z : ℕ) (new : Zone) → z < length t.zones → IsAlike (zone_at t z) new → opening (with_zone t z new) (seen t.told new) ≡ opening t (zone_at t z)
alike_opening t z new h alike = same_opening t (with_zone t z new) (zone_at t z) (seen t.told new) refl
    (count_same (is_active t.shape) t.zones z (seen t.told new) no_zone h (same_active t.shape (zone_at t z) (seen t.told new) (seen_alike t.told (zone_at t z) new alike)))
    (count_same (λ zone. zone.explicit) t.zones z (seen t.told new) no_zone h alike.explicit)
    alike.held
    alike.explicit
  where
    seen_alike : (told : Bool) (old new : Zone) → IsAlike old new → IsAlike old (seen told new)
    seen_alike told old new alike = record { kind = alike.kind; cond = alike.cond; held = alike.held; explicit = alike.explicit }

-- which bytes are written doesn't matter, nor what of the zone is durable
pub same_refusal : (t : Truth) (z at : ℕ) (bytes part : List ℕ) (new : Zone) → z < length t.zones → IsAlike (zone_at t z) new → refusal (with_zone t z new) (WriteAt z at part) ≡ refusal t (WriteAt z at bytes)
same_refusal t z at bytes part new h alike =
    ap (λ (zone : Zone). changing zone.cond (writing zone.kind (with_zone t z new) zone at)) (zone_at-with t z new h)
    ∙ same_changing t (with_zone t z new) (zone_at t z) (seen t.told new) at (record { kind = alike.kind; cond = alike.cond; held = alike.held; explicit = alike.explicit }) (alike_opening t z new h alike)

-- ---- what a loss leaves of it

-- what is left of the bytes put in place, where the write is not refused
written_inside : (t : Truth) (z at : ℕ) (bytes : List ℕ) (middle : Zone) (loss : LossSpec) → AreFit t → z < length t.zones → (zone_at t z).kind ≡ Sequential → middle.durable ≡ middle.held
    → Shortens t.told (placed Sequential (zone_at t z) at bytes) middle → IsLossOfOne (stages_unless None t (WriteAt z at bytes)) (lost (with_zone t z middle) loss)
written_inside t z at bytes middle loss fit h kind all short =
    subst (λ (k : Kind). IsLossOf (with_zone t z (placed k (zone_at t z) at bytes)) (lost (with_zone t z middle) loss)) (sym kind)
    (lessened_is_loss t z (placed Sequential (zone_at t z) at bytes) middle loss fit h (shortened_fit t.told _ middle short all) (shortened_lessens t.told _ middle short all))

-- and of what was there, where it is
refused_inside : (t : Truth) (z : ℕ) (middle : Zone) (loss : LossSpec) → AreFit t → z < length t.zones → middle.durable ≡ middle.held
    → Shortens t.told (zone_at t z) middle → IsLossOf t (lost (with_zone t z middle) loss)
refused_inside t z middle loss fit h all short =
    subst (λ (u : Truth). IsLossOf u (lost (with_zone t z middle) loss)) (with_same t z (fit.zones z h))
    (lessened_is_loss t z (zone_at t z) middle loss fit h (shortened_fit t.told _ middle short all) (shortened_lessens t.told _ middle short all))

-- nothing of the write is carried out
not_begun : (t : Truth) (z at cut : ℕ) (bytes : List ℕ) (loss : LossSpec) (r : Option DevError) → AreFit t → z < length t.zones → (zone_at t z).kind ≡ Sequential
    → IsLossOfOne (stages_unless r t (WriteAt z at bytes)) (lost (with_zone t z (cut_zone (zone_at t z) cut loss.fill)) loss)
not_begun t z at cut bytes loss None fit h kind =
    written_inside t z at bytes _ loss fit h kind refl (placed_shortens t.told (zone_at t z) _ at bytes (fit.zones z h) (cut_shortens t.told (zone_at t z) cut loss.fill (fit.zones z h) kind))
not_begun t z at cut bytes loss (Some error) fit h kind = refused_inside t z _ loss fit h refl (cut_shortens t.told (zone_at t z) cut loss.fill (fit.zones z h) kind)

-- all that zone z holds is made durable
abbrev settled_there : Truth → ℕ → Truth
settled_there t z = with_zone t z (settled (zone_at t z) (zone_at t z).held (zone_at t z).held None)

settled_with : (t : Truth) (z : ℕ) (zone : Zone) → z < length t.zones → settled_there (with_zone t z zone) z ≡ with_zone t z (all_settled t.told zone)
settled_with t z zone h =
    with_with t z zone _ ∙ ap (λ (there : Zone). with_zone t z (settled there there.held there.held None)) (zone_at-with t z zone h)

written_there : (t : Truth) (z at : ℕ) (part : List ℕ) (first : Zone) → z < length t.zones → first.kind ≡ Sequential
    → settled_there (done_unless None (with_zone t z first) (WriteAt z at part)).truth z ≡ with_zone t z (all_settled t.told (written Sequential t.shape (seen t.told first) at part))
written_there t z at part first h kind =
    ap (λ (zone : Zone). settled_there (with_zone (with_zone t z first) z (written zone.kind t.shape zone at part)) z) (zone_at-with t z first h)
    ∙ ap (λ (k : Kind). settled_there (with_zone (with_zone t z first) z (written k t.shape (seen t.told first) at part)) z) kind
    ∙ ap (λ (u : Truth). settled_there u z) (with_with t z first _)
    ∙ settled_with t z _ h

-- the write is carried out up to the cut, or refused
carried_on : (t : Truth) (z at : ℕ) (bytes part : List ℕ) (first : Zone) (loss : LossSpec) (r : Option DevError) → AreFit t → z < length t.zones → (zone_at t z).kind ≡ Sequential
    → Shortens t.told (zone_at t z) first → 4096 * (length part / 4096) ≡ length part → length part ≤ length bytes
    → IsLossOfOne (stages_unless r t (WriteAt z at bytes)) (lost (settled_there (done_unless r (with_zone t z first) (WriteAt z at part)).truth z) loss)
carried_on t z at bytes part first loss None fit h kind short whole fits =
    let begun = placed_shortens t.told (zone_at t z) first at bytes (fit.zones z h) short in
    subst (λ (u : Truth). IsLossOfOne (stages_unless None t (WriteAt z at bytes)) (lost u loss)) (sym (written_there t z at part first h short.same))
    (written_inside t z at bytes _ loss fit h kind refl (settled_shortens t.told _ _ (part_shortens t.told t.shape (zone_at t z) first at bytes part short begun whole fits)))
carried_on t z at bytes part first loss (Some error) fit h kind short whole fits =
    subst (λ (u : Truth). IsLossOf t (lost u loss)) (sym (settled_with t z first h)) (refused_inside t z _ loss fit h refl (settled_shortens t.told _ first short))

part_whole : (cut : ℕ) (fill : Option ℕ) (bytes : List ℕ) → 4096 * (length bytes / 4096) ≡ length bytes → 4096 * (length (stored fill (take (4096 * cut) bytes)) / 4096) ≡ length (stored fill (take (4096 * cut) bytes))
part_whole cut fill bytes whole =
    let e : length (stored fill (take (4096 * cut) bytes)) ≡ min (4096 * cut) (length bytes) = length-stored fill (take (4096 * cut) bytes) ∙ length-take (4096 * cut) bytes in
    omega arith

part_fits : (cut : ℕ) (fill : Option ℕ) (bytes : List ℕ) → length (stored fill (take (4096 * cut) bytes)) ≤ length bytes
part_fits cut fill bytes = omega (arith, length-stored fill (take (4096 * cut) bytes), length-take (4096 * cut) bytes)

-- where the cut lies behind the blocks held, the zone before the write is as long as it was
cut_alike : (zone : Zone) (cut : ℕ) (fill : Option ℕ) → zone.held < cut → IsAlike zone (cut_zone zone cut fill)
cut_alike zone cut fill h = record { kind = refl; cond = refl; held = omega arith; explicit = refl }

by_cut : (t : Truth) (z at cut : ℕ) (bytes : List ℕ) (loss : LossSpec) (b : Bool) → AreFit t → z < length t.zones → (zone_at t z).kind ≡ Sequential → 4096 * (length bytes / 4096) ≡ length bytes → nat_lt (zone_at t z).held cut ≡ b
    → IsLossInside t (WriteAt z at bytes) (lost (if b then settled_there (done (with_zone t z (cut_zone (zone_at t z) cut loss.fill)) (WriteAt z at (stored loss.fill (take (4096 * (cut - (zone_at t z).held)) bytes)))).truth z
    else with_zone t z (cut_zone (zone_at t z) cut loss.fill)) loss)
unfolding done
by_cut t z at cut bytes loss true fit h kind whole is =
    let first = cut_zone (zone_at t z) cut loss.fill in
    let part = stored loss.fill (take (4096 * (cut - (zone_at t z).held)) bytes) in
    let same : refusal (with_zone t z first) (WriteAt z at part) ≡ refusal t (WriteAt z at bytes) = same_refusal t z at bytes part first h (cut_alike (zone_at t z) cut loss.fill (ltb-true (zone_at t z).held cut is)) in
    subst (λ (r : Option DevError). IsLossOfOne (stages_unless (refusal t (WriteAt z at bytes)) t (WriteAt z at bytes)) (lost (settled_there (done_unless r (with_zone t z first) (WriteAt z at part)).truth z) loss)) (sym same)
    (carried_on t z at bytes part first loss (refusal t (WriteAt z at bytes)) fit h kind (cut_shortens t.told (zone_at t z) cut loss.fill (fit.zones z h) kind)
    (part_whole (cut - (zone_at t z).held) loss.fill bytes whole) (part_fits (cut - (zone_at t z).held) loss.fill bytes))
by_cut t z at cut bytes loss false fit h kind whole is = not_begun t z at cut bytes loss (refusal t (WriteAt z at bytes)) fit h kind

pub cut_write_inside : (t : Truth) (z at : ℕ) (bytes : List ℕ) (loss : LossSpec) → AreFit t → z < length t.zones → (zone_at t z).kind ≡ Sequential → 4096 * (length bytes / 4096) ≡ length bytes
    → IsLossInside t (WriteAt z at bytes) (lost (cut_write t z at bytes loss) loss)
cut_write_inside t z at bytes loss fit h kind whole =
    by_cut t z at (unwrap_or (cut_of loss.cuts z) (zone_at t z).durable) bytes loss (nat_lt (zone_at t z).held (unwrap_or (cut_of loss.cuts z) (zone_at t z).durable)) fit h kind whole refl
