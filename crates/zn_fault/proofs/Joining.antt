-- Writes one behind another.
use Rattle.std.proofs.Common.{◌≡◌, ℕ, ◌+◌, ◌*◌, ◌/◌, ◌<◌, Bool, true, false, cond, List, [], ◌++◌, length, set, Option, Some, None, Ok, refl, sym, ap, ◌∙◌, append_assoc, arith}
use Rattle.std.specs.Prelude.{◌==◌, ◌&&◌, not, if◌then◌else◌}
use Rattle.std.proofs.lemmas.Bool.Decides.{nat_tests}
use Rattle.std.proofs.lemmas.List.{length-append, get_or-set_same, set-set}
use Rattle.std.proofs.lemmas.List.Sums.{sum_by-set}
use Rattle.zn_truth.specs.declared.Cond.{Cond}
use Rattle.zn_truth.specs.declared.Cond.TheVariants.{Good, ReadOnly, Offline}
use Rattle.zn_truth.specs.declared.DevError.{DevError}
use Rattle.zn_truth.specs.declared.DevError.TheVariants.{Unaligned, TooManyActive, TooManyOpen}
use Rattle.zn_truth.specs.declared.Kind.{Kind}
use Rattle.zn_truth.specs.declared.Kind.TheVariants.{Sequential}
use Rattle.zn_truth.specs.declared.Shape.{Shape}
use Rattle.zn_truth.specs.Truth.{Truth, Zone, no_zone, zone_at, with_zone, seen, active, explicit, is_reached}
use Rattle.zn_truth.specs.Orders.{Order, WriteAt, Done, changing, opening, writing, refusal, written, effect, done, done_unless}
use Rattle.zn_fault.specs.Losses.{WritesJoin}

-- ---- the refusal

not_refused : (r : Option DevError) (t : Truth) (order : Order) → (done_unless r t order).reply ≡ Ok tt → r ≡ None
not_refused None t order h = refl
not_refused (Some error) t order h = absurd (cc)

-- what an accepted write found
record Accepted (t : Truth) (zone : Zone) (at : ℕ) : Type 0 where
  cond : zone.cond ≡ Good
  end : zone.held ≡ at
  opening : opening t zone ≡ None

changing_none : (cond : Cond) (next : Option DevError) → changing cond next ≡ None → (cond ≡ Good) × (next ≡ None)
changing_none Good next h = (refl, h)
changing_none ReadOnly next h = absurd (cc)
changing_none Offline next h = absurd (cc)

writing_none : (t : Truth) (zone : Zone) (at : ℕ) → writing Sequential t zone at ≡ None → (zone.held ≡ at) × (opening t zone ≡ None)
writing_none t zone at h = grind (arith, nat_tests)

accepted : (t : Truth) (zone : Zone) (at : ℕ) → zone.kind ≡ Sequential → changing zone.cond (writing zone.kind t zone at) ≡ None → Accepted t zone at
accepted t zone at kind none =
    let c : _ = changing_none zone.cond (writing zone.kind t zone at) none in
    let w : _ = writing_none t zone at (ap (λ (k : Kind). writing k t zone at) (sym kind) ∙ c.1) in
    record { cond = c.0; end = w.0; opening = w.1 }

-- ---- the zone in between

-- the zone after the first write
abbrev between : Bool → Shape → Zone → ℕ → List ℕ → Zone
between told shape zone at first = seen told (written Sequential shape zone at first)

not_full : (held cap : ℕ) → held < cap → (held == cap) ≡ false
not_full held cap less = grind (arith, nat_tests)

stays_explicit : (e full : Bool) → full ≡ false → (e && not full) ≡ e
stays_explicit true full not_full = ap not not_full
stays_explicit false full not_full = refl

-- no refusal
abbrev none_of : Option DevError
none_of = None

-- the limits refuse no more than before
open_again : (e active opened before : Bool) (held n cap : ℕ)
    → (if e then None else if (held == 0) && before then Some TooManyActive else if not (held == cap) && opened then Some TooManyOpen else None) ≡ none_of → 0 < n → held + n < cap
    → (if e then None else if (held + n == 0) && active then Some TooManyActive else if not (held + n == cap) && opened then Some TooManyOpen else None) ≡ none_of
open_again e active opened before held n cap h some less = grind (arith, nat_tests)

explicit_same : (t : Truth) (z : ℕ) (new : Zone) → z < length t.zones → new.explicit ≡ (zone_at t z).explicit → explicit (with_zone t z new) ≡ explicit t
explicit_same t z new below same =
    let counts = sum_by-set (λ (zone : Zone). cond zone.explicit 1 0) t.zones z (seen t.told new) no_zone below in
    let weigh : Bool → ℕ = λ b. cond b 1 0 in
    let one : weigh new.explicit ≡ weigh (zone_at t z).explicit = ap weigh same in
    omega (arith, counts, one)

between_opens : (t : Truth) (z at : ℕ) (first : List ℕ) → z < length t.zones → opening t (zone_at t z) ≡ None → 0 < length first / 4096 → (zone_at t z).held + length first / 4096 < t.shape.zone_capacity
    → let zone = between t.told t.shape (zone_at t z) at first in opening (with_zone t z (written Sequential t.shape (zone_at t z) at first)) zone ≡ None
between_opens t z at first below opens some less =
    let zone = zone_at t z in
    let n = length first / 4096 in
    let new = written Sequential t.shape zone at first in
    let u = with_zone t z new in
    let same : new.explicit ≡ zone.explicit = stays_explicit zone.explicit (zone.held + n == t.shape.zone_capacity) (not_full (zone.held + n) t.shape.zone_capacity less) in
    let reached = λ (count : ℕ). is_reached t.shape.max_open count in
    let start : Bool → ℕ → Option DevError = λ e count.
    if e then None else if (zone.held + n == 0) && is_reached t.shape.max_active (active u) then Some TooManyActive
    else if not (zone.held + n == t.shape.zone_capacity) && reached count then Some TooManyOpen else None in
    ap (λ e. start e (explicit u)) same ∙ ap (start zone.explicit) (explicit_same t z new below same)
    ∙ open_again zone.explicit (is_reached t.shape.max_active (active u)) (reached (explicit t)) (is_reached t.shape.max_active (active t)) zone.held n t.shape.zone_capacity opens some less

-- ---- the zone after both

seen_both : (told : Bool) (old first second : List ℕ) → (if told then (if told then old ++ first else []) ++ second else []) ≡ (if told then old ++ (first ++ second) else [])
seen_both true old first second = append_assoc old first second
seen_both false old first second = refl

after_both : (told : Bool) (shape : Shape) (zone : Zone) (at next : ℕ) (first second : List ℕ) → zone.held + length first / 4096 < shape.zone_capacity → length (first ++ second) / 4096 ≡ length first / 4096 + length second / 4096
    → seen told (written Sequential shape (between told shape zone at first) next second) ≡ seen told (written Sequential shape zone at (first ++ second))
after_both told shape zone at next first second less parts =
    let m = length first / 4096 in
    let n = length second / 4096 in
    let cap = shape.zone_capacity in
    let make : ℕ → List ℕ → ℕ → Bool → Zone = λ held bytes durable e. record zone { held = held; bytes = bytes; durable = durable; explicit = e } in
    let bytes = if told then (if told then zone.bytes ++ first else []) ++ second else [] in
    let partly : (zone.held + m == cap) ≡ false = not_full (zone.held + m) cap less in
    let total : zone.held + m + n ≡ zone.held + length (first ++ second) / 4096 = omega (arith, parts) in
    ap (λ (full : Bool). make (zone.held + m + n) bytes (if zone.held + m + n == cap then zone.held + m + n else if full then zone.held + m else zone.durable) (zone.explicit && not full && not (zone.held + m + n == cap))) partly
    ∙ ap (λ (e : Bool). make (zone.held + m + n) bytes (if zone.held + m + n == cap then zone.held + m + n else zone.durable) (e && not (zone.held + m + n == cap))) (stays_explicit zone.explicit false refl)
    ∙ ap (λ (held : ℕ). make held bytes (if held == cap then held else zone.durable) (zone.explicit && not (held == cap))) total
    ∙ ap (λ (bs : List ℕ). let held = zone.held + length (first ++ second) / 4096 in make held bs (if held == cap then held else zone.durable) (zone.explicit && not (held == cap))) (seen_both told zone.bytes first second)

-- ---- both writes

whole_parts : (first second : List ℕ) → 4096 * (length first / 4096) ≡ length first → 4096 * (length second / 4096) ≡ length second → length (first ++ second) / 4096 ≡ length first / 4096 + length second / 4096
whole_parts first second one two = omega (arith, length-append first second)

done_none : (t : Truth) (order : Order) → refusal t order ≡ None → done t order ≡ record { reply = Ok tt; truth = effect t order }
unfolding done
done_none t order none = ap (λ (r : Option DevError). done_unless r t order) none

pub writes_join : WritesJoin
unfolding done
writes_join t z at first second kind below whole_first whole_second fits ok =
    let zone = zone_at t z in
    let m = length first / 4096 in
    let none : refusal t (WriteAt z at first) ≡ None = not_refused (refusal t (WriteAt z at first)) t (WriteAt z at first) ok in
    let found : Accepted t zone at = accepted t zone at kind none in
    let new = written Sequential t.shape zone at first in
    let u = with_zone t z new in
    let less : zone.held + m < t.shape.zone_capacity = omega (arith, found.end, whole_second.some, whole_second.whole) in
    let some : 0 < m = omega (arith, whole_first.some, whole_first.whole) in
    let truth : (done t (WriteAt z at first)).truth ≡ u = ap (λ (d : Done). d.truth) (done_none t (WriteAt z at first) none) ∙ ap (λ (k : Kind). with_zone t z (written k t.shape zone at first)) kind in
    let there : zone_at u z ≡ between t.told t.shape zone at first = get_or-set_same t.zones z (seen t.told new) no_zone below in
    let order = WriteAt z (at + m) second in
    let next : refusal u order ≡ None =
    ap (λ (v : Zone). changing v.cond (writing v.kind u v (at + m))) there
    ∙ ap (λ (k : Kind). changing zone.cond (writing k u (between t.told t.shape zone at first) (at + m))) kind
    ∙ ap (λ (c : Cond). changing c (writing Sequential u (between t.told t.shape zone at first) (at + m))) found.cond
    ∙ ap (λ (b : Bool). if b then opening u (between t.told t.shape zone at first) else Some Unaligned) (same_end zone.held at m found.end)
    ∙ between_opens t z at first below found.opening some less in
    let effects : effect u order ≡ effect t (WriteAt z at (first ++ second)) =
    ap (λ (v : Zone). with_zone u z (written v.kind t.shape v (at + m) second)) there
    ∙ ap (λ (k : Kind). with_zone u z (written k t.shape (between t.told t.shape zone at first) (at + m) second)) kind
    ∙ ap (λ (zones : List Zone). let v : Truth = record t { zones = zones } in v) (set-set t.zones z (seen t.told new) (seen t.told (written Sequential t.shape (between t.told t.shape zone at first) (at + m) second)))
    ∙ ap (λ (v : Zone). let w : Truth = record t { zones = set t.zones z v } in w) (after_both t.told t.shape zone at (at + m) first second less (whole_parts first second whole_first.whole whole_second.whole))
    ∙ ap (λ (k : Kind). with_zone t z (written k t.shape zone at (first ++ second))) (sym kind) in
    done_none t (WriteAt z at (first ++ second)) none
    ∙ ap (λ (v : Truth). let d : Done = record { reply = Ok tt; truth = v } in d) (sym effects)
    ∙ sym (done_none u order next)
    ∙ ap (λ (v : Truth). done v order) (sym truth)
  where
    same_end : (held at m : ℕ) → held ≡ at → (held + m == at + m) ≡ true
    same_end held at m is = grind (arith, nat_tests)
