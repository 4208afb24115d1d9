-- What a format owes, by its commands.
use Rattle.std.proofs.Common.{◌≡◌, ℕ, ◌<◌, ◌≤◌, Bool, true, false, not, ◌||◌, eqb, List, [], ◌∷◌, ◌++◌, length, None, Some, Ok, Err, refl, sym, ap, ◌∙◌, ◌⊎◌, inl, inr, ⊎_elim, subst, arith}
use Rattle.std.specs.Prelude.{nat_lt, if◌then◌else◌, is_ok, IsOk, IsErrOf}
use Rattle.std.specs.List.{All}
use Rattle.std.proofs.lemmas.Bool.{cases_Bool, false≢true, le-ltb, eqb-true}
use Rattle.zn_truth.specs.declared.Kind.{Kind}
use Rattle.zn_truth.specs.declared.Kind.TheVariants.{Conventional, Sequential}
use Rattle.zn_truth.specs.declared.Cond.{Cond}
use Rattle.zn_truth.specs.declared.Cond.TheVariants.{Good}
use Rattle.zn_truth.specs.declared.DevError.{DevError}
use Rattle.zn_truth.specs.declared.DevError.TheVariants.{ReadOnly, Offline, Unaligned, TooManyActive, TooManyOpen, BeyondWp, Fault, PowerLost, Broken, Memory}
use Rattle.zn_truth.specs.Truth.{Truth, zone_at, geometry, is_sequential, is_good, is_offline, IsSound}
use Rattle.zn_truth.specs.Limits.{IsWithinLimits}
use Rattle.zn_truth.specs.Orders.{Order, ReadAt, Reply, refusal, reading}
use Rattle.zn_truth.specs.World.{World, geometry_of}
use Rattle.zn_truth.specs.OrderLists.{issue_all}
use Rattle.zn_truth.specs.Obeying.{is_answered}
use Rattle.zn_truth.proofs.Issuing.{zones-in_geometry}
use Rattle.zn_device.specs.States.{DeviceState, Ordered}
use Rattle.zn_device.proofs.Power.{loss_is_told_in_all}
use Rattle.zn_model.specs.declared.answers.FormatError.{FormatError}
use Rattle.zn_model.specs.declared.answers.FormatError.TheVariants.{AlreadyFormatted, BadZone0, IoError, PowerLost as no_power, Broken as is_broken, Memory as no_memory}
use Rattle.zn_model.specs.SuperBlock.{SuperBlock, encoded}
use Rattle.zn_model.specs.Looks.{report_all}
use Rattle.zn_model.specs.Formatting.{IsFormatted, FormatAnswer, may_hold_copies, format_error_of}
use Rattle.zn_mkfs.specs.Commands.{FormatReply, is_kept, looks, writes, good_commands, format_commands, answer_by}
use Rattle.zn_mkfs.specs.Formats.{IsKept, IsBadZone0, Answers, IsFormat, FormatCause}
use Rattle.zn_mkfs.proofs.Answering.{answer_bad, answer_kept, answer_done}
use Rattle.zn_mkfs.proofs.Effects.{effects, AllAllowed, AllAllowed-append, effects-append, harmless_failure, done_effects}
use Rattle.zn_mkfs.proofs.Calls.{call_is}
use Rattle.zn_mkfs.proofs.FormattedDevices.{good_is, written}

-- ---- what isn't refused

module _ (t : Truth) (sound : IsSound t) (within : IsWithinLimits (geometry t)) (s : SuperBlock) (long : length (encoded s) ≡ 4096) where
  -- blocks that may hold copies are there
  held_by : (k : Kind) → (zone_at t 0).kind ≡ k → (zone_at t 0).cond ≡ Good → may_hold_copies t ≡ true → 2 ≤ (zone_at t 0).held
  held_by Sequential kind good may =
      let full : eqb (zone_at t 0).held t.shape.zone_capacity ≡ true = sym (ap (λ (k : Kind). not (is_sequential k) || eqb (zone_at t 0).held t.shape.zone_capacity) kind) ∙ may in
      omega (arith, eqb-true (zone_at t 0).held t.shape.zone_capacity full, within.capacity)
  held_by Conventional kind good may =
      let there : 0 < length t.zones = omega (arith, within.some, zones-in_geometry t) in
      let held = (sound.zones 0 there).conventional (λ is. false≢true (sym (ap is_sequential kind) ∙ is)) (λ is. false≢true (sym (ap is_offline good) ∙ is)) in
      omega (arith, held, within.capacity, within.fits)

  read_allowed : (zone_at t 0).cond ≡ Good → may_hold_copies t ≡ true → refusal t (ReadAt 0 0 2) ≡ None
  read_allowed good may =
      let enough : 2 ≤ (zone_at t 0).held = held_by (zone_at t 0).kind refl good may in
      ap (λ (c : Cond). reading c (if nat_lt (zone_at t 0).held 2 then Some BeyondWp else None)) good
      ∙ ap (λ (b : Bool). if b then Some BeyondWp else None) (le-ltb (zone_at t 0).held 2 enough)

  looks_allowed : (zone_at t 0).cond ≡ Good → AllAllowed t (looks t)
  looks_allowed good = by_test (may_hold_copies t) refl
    where
      by_test : (b : Bool) → may_hold_copies t ≡ b → AllAllowed t (if b then ReadAt 0 0 2 ∷ [] else [])
      by_test true may = (read_allowed good may, tt)
      by_test false may = tt

  looks_effect : effects t (looks t) ≡ t
  looks_effect = by_test (may_hold_copies t)
    where
      by_test : (b : Bool) → effects t (if b then ReadAt 0 0 2 ∷ [] else []) ≡ t
      by_test true = refl
      by_test false = refl

  module _ (given : List ℕ) (force : Bool) where
    rest_allowed : (zone_at t 0).cond ≡ Good → (b : Bool) → AllAllowed t (if b then [] else writes t (encoded s))
    rest_allowed good true = tt
    rest_allowed good false = (written t sound within good s long).allowed

    good_allowed : (zone_at t 0).cond ≡ Good → AllAllowed t (good_commands given t (encoded s) force)
    good_allowed good =
        AllAllowed-append t (looks t) (if is_kept given t force then [] else writes t (encoded s)) (looks_allowed good)
        (subst (λ (u : Truth). AllAllowed u (if is_kept given t force then [] else writes t (encoded s))) (sym looks_effect) (rest_allowed good (is_kept given t force)))

    by_cond : (b : Bool) → is_good (zone_at t 0).cond ≡ b → AllAllowed t (if b then good_commands given t (encoded s) force else [])
    by_cond true is = good_allowed (good_is (zone_at t 0).cond is)
    by_cond false is = tt

    all_allowed : AllAllowed t (format_commands given t (encoded s) force)
    all_allowed = (refl, by_cond (is_good (zone_at t 0).cond) refl)

-- ---- which answer tells which failure

-- a failure is told by its name, or as an error of the device
data Telling (e : DevError) : Type 0 where
  as_error : format_error_of e ≡ IoError → is_answered (Err e) ≡ true → (e ≡ PowerLost → ⊥) → Telling e
  as_loss : e ≡ PowerLost → Telling e
  as_break : e ≡ Broken → Telling e
  as_want : e ≡ Memory → Telling e

telling : (e : DevError) → Telling e
telling ReadOnly = as_error refl refl (λ is. cc)
telling Offline = as_error refl refl (λ is. cc)
telling Unaligned = as_error refl refl (λ is. cc)
telling TooManyActive = as_error refl refl (λ is. cc)
telling TooManyOpen = as_error refl refl (λ is. cc)
telling BeyondWp = as_error refl refl (λ is. cc)
telling Fault = as_error refl refl (λ is. cc)
telling PowerLost = as_loss refl
telling Broken = as_break refl
telling Memory = as_want refl

not_kept_error : (e : DevError) → format_error_of e ≡ AlreadyFormatted → ⊥
not_kept_error e h = elim (telling e) [
  | as_error is answered other ↦ cc
  | as_loss is ↦ let k : format_error_of e ≡ no_power = ap format_error_of is in cc
  | as_break is ↦ let k : format_error_of e ≡ is_broken = ap format_error_of is in cc
  | as_want is ↦ let k : format_error_of e ≡ no_memory = ap format_error_of is in cc
]

not_bad_error : (e : DevError) (c : Cond) → format_error_of e ≡ BadZone0 c → ⊥
not_bad_error e c h = elim (telling e) [
  | as_error is answered other ↦ cc
  | as_loss is ↦ let k : format_error_of e ≡ no_power = ap format_error_of is in cc
  | as_break is ↦ let k : format_error_of e ≡ is_broken = ap format_error_of is in cc
  | as_want is ↦ let k : format_error_of e ≡ no_memory = ap format_error_of is in cc
]

loss_from : (e : DevError) → format_error_of e ≡ no_power → e ≡ PowerLost
loss_from e h = elim (telling e) [
  | as_error is answered other ↦ absurd (cc)
  | as_loss is ↦ is
  | as_break is ↦ let k : format_error_of e ≡ is_broken = ap format_error_of is in absurd (cc)
  | as_want is ↦ let k : format_error_of e ≡ no_memory = ap format_error_of is in absurd (cc)
]

break_from : (e : DevError) → format_error_of e ≡ is_broken → e ≡ Broken
break_from e h = elim (telling e) [
  | as_error is answered other ↦ absurd (cc)
  | as_loss is ↦ let k : format_error_of e ≡ no_power = ap format_error_of is in absurd (cc)
  | as_break is ↦ is
  | as_want is ↦ let k : format_error_of e ≡ no_memory = ap format_error_of is in absurd (cc)
]

want_from : (e : DevError) → format_error_of e ≡ no_memory → e ≡ Memory
want_from e h = elim (telling e) [
  | as_error is answered other ↦ absurd (cc)
  | as_loss is ↦ let k : format_error_of e ≡ no_power = ap format_error_of is in absurd (cc)
  | as_break is ↦ let k : format_error_of e ≡ is_broken = ap format_error_of is in absurd (cc)
  | as_want is ↦ is
]

error_from : (e : DevError) → format_error_of e ≡ IoError → (is_answered (Err e) ≡ true) × (e ≡ PowerLost → ⊥)
error_from e h = elim (telling e) [
  | as_error is answered other ↦ (answered, other)
  | as_loss is ↦ let k : format_error_of e ≡ no_power = ap format_error_of is in absurd (cc)
  | as_break is ↦ let k : format_error_of e ≡ is_broken = ap format_error_of is in absurd (cc)
  | as_want is ↦ let k : format_error_of e ≡ no_memory = ap format_error_of is in absurd (cc)
]

unanswered_from : (e : DevError) → is_answered (Err e) ≡ false → (e ≡ Broken) ⊎ (e ≡ Memory)
unanswered_from e h = elim (telling e) [
  | as_error is answered other ↦ absurd (false≢true (sym h ∙ answered))
  | as_loss is ↦ let k : is_answered (Err e) ≡ true = ap (λ (d : DevError). is_answered (Err d)) is in absurd (false≢true (sym h ∙ k))
  | as_break is ↦ inl is
  | as_want is ↦ inr is
]

same_error : (a b : FormatError) → (let x : FormatReply = Err a in x) ≡ Err b → a ≡ b
same_error a b h = cc

-- ---- what is refused without a failure

module _ (given : List ℕ) (t : Truth) (force : Bool) where
  abbrev cond0 : Cond
  cond0 = (zone_at t 0).cond

  -- the answers once all commands are done
  data DoneAnswer : Type 0 where
    was_bad : is_good cond0 ≡ false → answer_by given t force (Ok tt) ≡ Err (BadZone0 cond0) → DoneAnswer
    was_kept : is_good cond0 ≡ true → is_kept given t force ≡ true → answer_by given t force (Ok tt) ≡ Err AlreadyFormatted → DoneAnswer
    was_done : is_good cond0 ≡ true → is_kept given t force ≡ false → answer_by given t force (Ok tt) ≡ Ok tt → DoneAnswer

  done_answer : DoneAnswer
  done_answer = ⊎_elim
      (λ (good : is_good cond0 ≡ true). ⊎_elim
      (λ (kept : is_kept given t force ≡ true). was_kept good kept (answer_kept given t force good kept))
      (λ (kept : is_kept given t force ≡ false). was_done good kept (answer_done given t force good kept)) (cases_Bool (is_kept given t force)))
      (λ (bad : is_good cond0 ≡ false). was_bad bad (answer_bad given t force bad))
      (cases_Bool (is_good cond0))

  kept_from : (r : Reply) → answer_by given t force r ≡ Err AlreadyFormatted → IsKept given t force r
  kept_from (Ok unit) h = elim done_answer [
    | was_bad bad is ↦ absurd (cc)
    | was_kept good kept is ↦ record { done = refl; good = good; kept = kept }
    | was_done good kept is ↦ absurd (cc)
  ]
  kept_from (Err error) h = absurd (not_kept_error error (same_error (format_error_of error) AlreadyFormatted h))

  bad_from : (r : Reply) (c : Cond) → answer_by given t force r ≡ Err (BadZone0 c) → IsBadZone0 t c r
  bad_from (Ok unit) c h = elim done_answer [
    | was_bad bad is ↦ let same : c ≡ cond0 = cc in record { done = refl; cond_is = same; bad = ap is_good same ∙ bad }
    | was_kept good kept is ↦ absurd (cc)
    | was_done good kept is ↦ absurd (cc)
  ]
  bad_from (Err error) c h = absurd (not_bad_error error c (same_error (format_error_of error) (BadZone0 c) h))

  -- none of them is a failure
  no_failure : (e : DevError) → answer_by given t force (Ok tt) ≡ Err (format_error_of e) → ⊥
  no_failure e h = elim done_answer [
    | was_bad bad is ↦ let k : (let x : FormatReply = Err (format_error_of e) in x) ≡ Err (BadZone0 cond0) = sym h ∙ is in not_bad_error e cond0 (same_error (format_error_of e) (BadZone0 cond0) k)
    | was_kept good kept is ↦ let k : (let x : FormatReply = Err (format_error_of e) in x) ≡ Err AlreadyFormatted = sym h ∙ is in not_kept_error e (same_error (format_error_of e) AlreadyFormatted k)
    | was_done good kept is ↦ cc
  ]

-- ---- the call

not_spoilt : (b : Bool) → not b ≡ false → b ≡ true
not_spoilt true h = refl
not_spoilt false h = absurd (false≢true (sym h))

not_answered : (b : Bool) → not b ≡ true → b ≡ false
not_answered true h = absurd (false≢true h)
not_answered false h = refl

pub is_format : (given : List ℕ) (s : SuperBlock) (force : Bool) (result : FormatReply) (old new : DeviceState) → All (λ byte. byte < 256) given
    → Answers (format_commands given old.world.truth (encoded s) force) given old.world.truth force result old new → IsFormat s force result old new
is_format given s force result old new bytes h =
    let t = old.world.truth in
    let o = issue_all old.world (format_commands given t (encoded s) force) in
    record {
      given = given;
      bytes = bytes;
      call = λ unspoilt.
          let answered = not_spoilt (is_answered h.reply) (sym h.commands.caused.spoilt ∙ unspoilt) in
          call_is given old.world s force
          ∙ ap (λ (r : Reply). let a : FormatAnswer = record { reply = answer_by given t force r; world = o.world } in a) (sym (h.commands.obeys.reply answered))
          ∙ ap (λ (w : World). let a : FormatAnswer = record { reply = answer_by given t force h.reply; world = w } in a) (sym (h.commands.obeys.world answered))
          ∙ ap (λ (r : FormatReply). let a : FormatAnswer = record { reply = r; world = new.world } in a) (sym h.answer);
      reply = h.reply;
      commands = h.commands;
      answer = h.answer;
      already = (λ is. kept_from given t force h.reply (sym h.answer ∙ is), λ all. h.answer ∙ ap (answer_by given t force) all.done ∙ answer_kept given t force all.good all.kept);
      bad_zone0 = λ c. (
        λ is. bad_from given t force h.reply c (sym h.answer ∙ is),
        λ all. h.answer ∙ ap (answer_by given t force) all.done ∙ answer_bad given t force (sym (ap is_good all.cond_is) ∙ all.bad) ∙ ap (λ (d : Cond). let r : FormatReply = Err (BadZone0 d) in r) (sym all.cond_is),
      );
    }

-- ---- its causes

-- the report is the first of its commands
abbrev rest_of : List ℕ → Truth → SuperBlock → Bool → List Order
rest_of given t s force = if is_good (zone_at t 0).cond then good_commands given t (encoded s) force else []

not_ok : (r : FormatReply) (why : FormatError) → r ≡ Err why → IsOk r → ⊥
not_ok r why is ok = false≢true (sym (ap is_ok is) ∙ ok)

module _ (given : List ℕ) (s : SuperBlock) (force : Bool) (result : FormatReply) (old new : DeviceState)
    (sound : IsSound old.world.truth) (within : IsWithinLimits (geometry old.world.truth)) (long : length (encoded s) ≡ 4096) where
  abbrev before : Truth
  before = old.world.truth

  abbrev issued : List Order
  issued = format_commands given before (encoded s) force

  done_cause : result ≡ answer_by given before force (Ok tt) → Ordered issued (Ok tt) old new → FormatCause result old new
  done_cause is h = record {
    io_error = λ told. absurd (no_failure given before force Fault (sym is ∙ told));
    power_lost = λ other. (
      λ told. absurd (no_failure given before force PowerLost (sym is ∙ told)),
      λ off. let lost = (loss_is_told_in_all (report_all before) (rest_of given before s force) (Ok tt) old new h (λ want. cc)).1 off in absurd (cc),
    );
    broken = λ told. absurd (no_failure given before force Broken (sym is ∙ told));
    powered = λ told. absurd (no_failure given before force Broken (sym is ∙ told));
    still_powered = λ told. absurd (no_failure given before force Broken (sym is ∙ told));
    memory = λ told. absurd (no_failure given before force Memory (sym is ∙ told));
    spoiling = λ told. absurd (false≢true (sym h.caused.spoilt ∙ told));
    later = h.caused.cause.later;
    kept = λ ok. h.caused.cause.kept refl;
    no_fault = λ unspoilt same. h.caused.no_fault refl same;
    no_fewer = h.caused.cause.no_fewer;
    whole = λ unspoilt. h.caused.cause.whole refl;
    takes_memory = h.caused.same;
    keeps_conditions = h.caused.keeps;
  }

  failed_cause : (e : DevError) → result ≡ Err (format_error_of e) → Ordered issued (Err e) old new → FormatCause result old new
  failed_cause e is h =
      let tells : (why : FormatError) → result ≡ Err why → format_error_of e ≡ why = λ why told. same_error (format_error_of e) why (sym is ∙ told) in
      let loss = loss_is_told_in_all (report_all before) (rest_of given before s force) (Err e) old new h in
      let break_is : IsErrOf result is_broken → IsErrOf (let r : Reply = Err e in r) Broken = λ told. ap (λ (d : DevError). let r : Reply = Err d in r) (break_from e (tells is_broken told)) in
      record {
        io_error = λ told.
            let not_lost = error_from e (tells IoError told) in
            let fault : e ≡ Fault = ⊎_elim (λ (f : e ≡ Fault). f) (λ (l : e ≡ PowerLost). absurd (not_lost.1 l)) (harmless_failure issued e old new h (all_allowed before sound within s long given force) not_lost.0) in
            h.caused.cause.fault (ap (λ (d : DevError). let r : Reply = Err d in r) fault);
        power_lost = λ other.
            let other' : IsErrOf (let r : Reply = Err e in r) Memory → ⊥ = λ want. let m : e ≡ Memory = cc in other (is ∙ ap (λ (d : DevError). let r : FormatReply = Err (format_error_of d) in r) m) in (
              λ told. (loss other').0 (ap (λ (d : DevError). let r : Reply = Err d in r) (loss_from e (tells no_power told))),
              λ off. let lost : (let r : Reply = Err e in r) ≡ Err PowerLost = (loss other').1 off in let l : e ≡ PowerLost = cc in is ∙ ap (λ (d : DevError). let r : FormatReply = Err (format_error_of d) in r) l,
            );
        broken = λ told. h.caused.cause.broken (break_is told);
        powered = λ told. h.caused.powered (break_is told);
        still_powered = λ told. h.caused.still_powered (break_is told);
        memory = λ told. ⊎_elim
            (λ (takes : old.takes_memory ≡ true). inr takes)
            (λ (takes : old.takes_memory ≡ false). absurd (h.caused.memory takes (ap (λ (d : DevError). let r : Reply = Err d in r) (want_from e (tells no_memory told)))))
            (cases_Bool old.takes_memory);
        spoiling = λ told. ⊎_elim
            (λ (b : e ≡ Broken). inl (is ∙ ap (λ (d : DevError). let r : FormatReply = Err (format_error_of d) in r) b))
            (λ (m : e ≡ Memory). inr (is ∙ ap (λ (d : DevError). let r : FormatReply = Err (format_error_of d) in r) m))
            (unanswered_from e (not_answered (is_answered (Err e)) (sym h.caused.spoilt ∙ told)));
        later = h.caused.cause.later;
        kept = λ ok. absurd (not_ok result (format_error_of e) is ok);
        no_fault = λ unspoilt same. h.caused.no_fault (not_spoilt (is_answered (Err e)) (sym h.caused.spoilt ∙ unspoilt)) same;
        no_fewer = h.caused.cause.no_fewer;
        whole = λ unspoilt. h.caused.cause.whole (not_spoilt (is_answered (Err e)) (sym h.caused.spoilt ∙ unspoilt));
        takes_memory = h.caused.same;
        keeps_conditions = h.caused.keeps;
      }

  by_reply : (reply : Reply) → result ≡ answer_by given before force reply → Ordered issued reply old new → FormatCause result old new
  by_reply (Ok unit) is h = done_cause is h
  by_reply (Err e) is h = failed_cause e is h

  pub causes : Answers issued given before force result old new → FormatCause result old new
  causes h = by_reply h.reply h.answer h.commands

  -- ---- a format that is done

  done_formatted : (good : is_good (zone_at before 0).cond ≡ true) → is_kept given before force ≡ false → Ordered issued (Ok tt) old new → IsFormatted new.world.truth s
  done_formatted good none h =
      let fine = written before sound within (good_is (zone_at before 0).cond good) s long in
      let orders : rest_of given before s force ≡ looks before ++ writes before (encoded s) =
      ap (λ (b : Bool). if b then good_commands given before (encoded s) force else []) good ∙ ap (λ (b : Bool). looks before ++ (if b then [] else writes before (encoded s))) none in
      let effect_is : effects before (rest_of given before s force) ≡ effects before (writes before (encoded s)) =
      ap (effects before) orders ∙ effects-append before (looks before) (writes before (encoded s)) ∙ ap (λ (t : Truth). effects t (writes before (encoded s))) (looks_effect before sound within s long) in
      subst (λ (t : Truth). IsFormatted t s) (sym (done_effects issued old new h (all_allowed before sound within s long given force) ∙ effect_is)) fine.formatted

  formatted_by : (reply : Reply) → result ≡ answer_by given before force reply → Ordered issued reply old new → IsOk result → IsFormatted new.world.truth s
  formatted_by (Err e) is h ok = absurd (not_ok result (format_error_of e) is ok)
  formatted_by (Ok unit) is h ok = elim (done_answer given before force) [
    | was_bad bad told ↦ absurd (not_ok result (BadZone0 (zone_at before 0).cond) (is ∙ told) ok)
    | was_kept good kept told ↦ absurd (not_ok result AlreadyFormatted (is ∙ told) ok)
    | was_done good kept told ↦ done_formatted good kept h
  ]

  pub formatted : Answers issued given before force result old new → IsOk result → IsFormatted new.world.truth s
  formatted h ok = formatted_by h.reply h.answer h.commands ok

pub within_truth : (w : World) → IsWithinLimits (geometry_of w) → IsWithinLimits (geometry w.truth)
unfolding geometry_of
within_truth w h = h
