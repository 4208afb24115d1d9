-- Laws of what sources give and sinks take.
use Rattle.std.proofs.Common.{◌≡◌, ℕ, ◌+◌, ◌≤◌, ◌-◌, List, [], ◌++◌, length, take, drop, Option, Some, None, refl, ap, sym, subst, Result, Ok, Err, IsErr, ◌∙◌, append_assoc, arith}
use Rattle.std.proofs.lemmas.List.{append-nil, take_at, take-append-drop, drop-drop, length-take-le, take_rest}
use Rattle.std.proofs.lemmas.Option.{same_Some}
use Rattle.std.proofs.Math.Seq.{take-add}
use Rattle.zn_base.specs.Causes.{Rose}
use Rattle.zn_base.specs.States.{SinkState, Writes}
use Rattle.zn_base.specs.Told.{told_and, and_told, Grew, Gave, IsFront, GrewToward, IsAtEnd}

pub told_and-append : (told : Option (List ℕ)) (a b : List ℕ) → told_and (told_and told a) b ≡ told_and told (a ++ b)
told_and-append None a b = refl
told_and-append (Some xs) a b = ap Some (append_assoc xs a b)

pub told_and-nil : (told : Option (List ℕ)) → told_and told [] ≡ told
told_and-nil None = refl
told_and-nil (Some xs) = ap Some (append-nil xs)

pub and_told-append : (a b : List ℕ) (told : Option (List ℕ)) → and_told a (and_told b told) ≡ and_told (a ++ b) told
and_told-append a b None = refl
and_told-append a b (Some xs) = ap Some (sym (append_assoc a b xs))

pub and_told-nil : (told : Option (List ℕ)) → and_told [] told ≡ told
and_told-nil None = refl
and_told-nil (Some xs) = refl

-- n bytes of xs from a place on, copied to the front of a buffer, are what a read of n bytes gave
pub copied_front : (xs buf copied : List ℕ) (at n : ℕ) → copied ≡ take n (drop at xs) → n ≤ length (drop at xs) → drop at xs ≡ take n (copied ++ drop n buf) ++ drop (at + n) xs
copied_front xs buf copied at n is fits =
    let same : take n (copied ++ drop n buf) ≡ take n (drop at xs) = take_at copied (drop n buf) n (ap length is ∙ length-take-le n (drop at xs) fits) ∙ is in
    sym (ap (λ front. front ++ drop (at + n) xs) same ∙ ap (λ rest. take n (drop at xs) ++ rest) (sym (drop-drop n at xs)) ∙ take-append-drop n (drop at xs))

pub front_more : (front due more : List ℕ) → IsFront front due → IsFront front (due ++ more)
front_more front due more is = (is.0 ++ more, ap (λ xs. xs ++ more) is.1 ∙ append_assoc front is.0 more)

pub toward_more : (old new : Option (List ℕ)) (due more : List ℕ) → GrewToward old new due → GrewToward old new (due ++ more)
toward_more old new due more h = (h.0, front_more h.0 due more h.1, h.2)

pub grew_then : (old mid new : Option (List ℕ)) (a b : List ℕ) → Grew old mid a → Grew mid new b → Grew old new (a ++ b)
grew_then old mid new a b first then = then ∙ ap (λ told. told_and told b) first ∙ told_and-append old a b

pub grew_toward : (old mid new : Option (List ℕ)) (a b : List ℕ) → Grew old mid a → GrewToward mid new b → GrewToward old new (a ++ b)
grew_toward old mid new a b first then = (a ++ then.0, (then.1.0, ap (λ xs. a ++ xs) then.1.1 ∙ sym (append_assoc a then.0 then.1.0)), grew_then old mid new a then.0 first then.2)

-- a write of n more bytes from a place on, behind the bytes before that place
pub grown_on : (bytes : List ℕ) (old mid new : Option (List ℕ)) (at n : ℕ) → at ≤ length bytes → Grew old mid (take at bytes) → Grew mid new (take n (take (length bytes - at) (drop at bytes))) → Grew old new (take (at + n) bytes)
grown_on bytes old mid new at n within before more =
    more ∙ ap (λ told. told_and told (take n (take (length bytes - at) (drop at bytes)))) before
    ∙ told_and-append old (take at bytes) (take n (take (length bytes - at) (drop at bytes)))
    ∙ ap (told_and old) (ap (λ rest. take at bytes ++ take n rest) (take_rest bytes at) ∙ sym (take-add at n bytes))

-- one writer after another
pub writes_then : {T U E F : Type 0} {old mid new : SinkState} {x : T} {a b : List ℕ} {r : Result U F} → Writes {T = T} {E = E} (Ok x) a old mid → Writes r b mid new → Writes r (a ++ b) old new
writes_then {old = old} {mid = mid} {new = new} {a = a} {b = b} {r = Ok y} first then = record {
  all = grew_then old.written mid.written new.written a b first.all then.all;
  front = then.front;
  cause = record { later = omega (arith, first.cause.later, then.cause.later); failed = then.cause.failed; kept = then.cause.kept ∙ first.cause.kept };
}
writes_then {old = old} {mid = mid} {new = new} {a = a} {b = b} {r = Err e} first then = record {
  all = then.all;
  front = grew_toward old.written mid.written new.written a b first.all then.front;
  cause = record { later = omega (arith, first.cause.later, then.cause.later); failed = let R : ℕ → Type 0 = λ n. Rose n new.faults in subst R first.cause.kept then.cause.failed; kept = then.cause.kept };
}

-- a writer that failed was to write more
pub writes_cut : {T U E F : Type 0} {old new : SinkState} {a : List ℕ} {e : E} (b : List ℕ) (r : Result U F) → IsErr r → Writes {T = T} {E = E} (Err e) a old new → Writes r (a ++ b) old new
writes_cut b (Ok y) fails first = absurd (cc)
writes_cut {old = old} {new = new} {a = a} b (Err f) fails first = record {
  all = first.all;
  front = toward_more old.written new.written a b first.front;
  cause = record { later = first.cause.later; failed = first.cause.failed; kept = first.cause.kept };
}

-- a source that tells its bytes and is at its end has given all of them
pub all_given : (left0 left : Option (List ℕ)) (script taken : List ℕ) → left0 ≡ Some script → Gave left0 left taken → IsAtEnd left → script ≡ taken
all_given left0 None script taken told gave end = absurd (let e : Some script ≡ None = sym told ∙ gave in cc)
all_given left0 (Some rest) script taken told gave end =
    let e : Some script ≡ Some (taken ++ rest) = sym told ∙ gave in
    same_Some _ _ e ∙ ap (λ xs. taken ++ xs) (end rest refl) ∙ append-nil taken
