-- How a run comes to its end: its last line, and what the sink passes on behind it.
use Rattle.std.proofs.Common.{◌≡◌, ℕ, List, [], refl, sym, subst, Result, Ok, Err, inl, inr, false, arith}
use Rattle.std.proofs.lemmas.List.{append-nil}
use Rattle.zn_base.specs.States.{SinkState, Writes}
use Rattle.zn_base.specs.Told.{GrewToward}
use Rattle.zn_base.proofs.ToldLaws.{grew_toward, told_and-nil}
use Rattle.zn_run.specs.Headline.{Closed}
use Rattle.zn_run.specs.States.{Added, CutOff, HasRisen}
use Rattle.zn_run.specs.declared.status.Status.{Status}
use Rattle.zn_run.specs.declared.status.Status.TheVariants.{WriteFault}
use Rattle.zn_run.proofs.LineLaws.{added_then}

-- a writer that was done
abbrev added_by : {T E : Type 0} {x : T} {line : List ℕ} {old new : SinkState} → Writes {E = E} (Ok x) line old new → Added line old new
added_by w = record { grew = w.all; kept = w.cause.kept }

-- a writer that failed
pub cut_by : {T E : Type 0} {e : E} {line : List ℕ} {old new : SinkState} → Writes {T = T} (Err e) line old new → CutOff line old new
cut_by w = record { toward = w.front; risen = record { later = w.cause.later; rose = w.cause.failed } }

-- what a writer did, where its answer is known
pub along : {T E : Type 0} {r r' : Result T E} {line : List ℕ} {old new : SinkState} → r ≡ r' → Writes r line old new → Writes r' line old new
along {T = T} {E = E} {line = line} {old = old} {new = new} is w = let W : Result T E → Type 0 = λ r. Writes r line old new in subst W is w

-- replies that are written, and then passed on
pub added_flushed : {T E : Type 0} {x : T} {text : List ℕ} {old mid new : SinkState} → Added text old mid → Writes {E = E} (Ok x) [] mid new → Added text old new
added_flushed {text = text} {old = old} {new = new} a f = let A : List ℕ → Type 0 = λ t. Added t old new in subst A (append-nil text) (added_then a (added_by f))

-- the last line is written and passed on
pub closed_whole : {T E U F : Type 0} {x : T} {y : U} {status : Status} {line : List ℕ} {old mid new : SinkState} → Writes {E = E} (Ok x) line old mid → Writes {E = F} (Ok y) [] mid new → new.held_back ≡ false → Closed status status line old new
closed_whole w f none = record { means = inl (refl, added_flushed (added_by w) f); passed = inr none }

-- the last line is written, and the sink failed behind it
pub closed_unpassed : {T E U F : Type 0} {x : T} {e : F} {status : Status} {line : List ℕ} {old mid new : SinkState} → Writes {E = E} (Ok x) line old mid → Writes {T = U} (Err e) [] mid new → Closed WriteFault status line old new
closed_unpassed {line = line} {old = old} {mid = mid} {new = new} w f =
    let G : List ℕ → Type 0 = λ t. GrewToward old.written new.written t in
    let R : ℕ → Type 0 = λ k. HasRisen k new.faults in
    record {
      means = inr (refl, record { toward = subst G (append-nil line) (grew_toward old.written mid.written new.written line [] w.all f.front); risen = subst R w.cause.kept (cut_by f).risen });
      passed = inl refl;
    }

-- the sink failed in the last line
pub closed_cut : {T E : Type 0} {e : E} {status : Status} {line : List ℕ} {old new : SinkState} → Writes {T = T} (Err e) line old new → Closed WriteFault status line old new
closed_cut w = record { means = inr (refl, cut_by w); passed = inl refl }

-- nothing was to be written
pub nothing_due : {T E : Type 0} {x : T} (s : SinkState) → Writes {E = E} (Ok x) [] s s
nothing_due s = record { all = sym (told_and-nil s.written); front = tt; cause = record { later = omega arith; failed = tt; kept = refl } }
