-- What a format answers by its commands.
use Rattle.std.proofs.Common.{◌≡◌, ℕ, Bool, true, false, not, List, [], append-nil, Ok, Err, refl, sym, ap, ◌∙◌, subst}
use Rattle.std.specs.Prelude.{if◌then◌else◌}
use Rattle.zn_truth.specs.declared.Cond.{Cond}
use Rattle.zn_truth.specs.declared.DevError.{DevError}
use Rattle.zn_truth.specs.Truth.{Truth, zone_at, is_good}
use Rattle.zn_truth.specs.Orders.{Reply}
use Rattle.zn_device.specs.States.{DeviceState, Commanded, Ordered}
use Rattle.zn_device.proofs.Ordered.{ordered_append, ordered_failure, ordered_one, ordered_failed, ordered_then}
use Rattle.zn_model.specs.declared.answers.FormatError.{FormatError}
use Rattle.zn_model.specs.declared.answers.FormatError.TheVariants.{AlreadyFormatted, BadZone0}
use Rattle.zn_model.specs.Looks.{report_all}
use Rattle.zn_model.specs.Formatting.{format_error_of}
use Rattle.zn_mkfs.specs.Commands.{FormatReply, is_kept, looks, writes, good_commands, format_commands, told_as, answer_by}
use Rattle.zn_mkfs.specs.Formats.{Answers}
use Rattle.zn_mkfs.proofs.LookLaws.{looks_same, report_same}

-- ---- the answer, case by case

choice_bad : {X : Type 0} (a b : Bool) (x y z : X) → a ≡ false → (if not a then x else if b then y else z) ≡ x
choice_bad true b x y z h = absurd (cc)
choice_bad false b x y z h = refl

choice_kept : {X : Type 0} (a b : Bool) (x y z : X) → a ≡ true → b ≡ true → (if not a then x else if b then y else z) ≡ y
choice_kept true true x y z h k = refl
choice_kept true false x y z h k = absurd (cc)
choice_kept false b x y z h k = absurd (cc)

choice_done : {X : Type 0} (a b : Bool) (x y z : X) → a ≡ true → b ≡ false → (if not a then x else if b then y else z) ≡ z
choice_done true false x y z h k = refl
choice_done true true x y z h k = absurd (cc)
choice_done false b x y z h k = absurd (cc)

module _ (given : List ℕ) (t : Truth) (force : Bool) where
  abbrev cond0 : Cond
  cond0 = (zone_at t 0).cond

  pub answer_bad : is_good cond0 ≡ false → answer_by given t force (Ok tt) ≡ Err (BadZone0 cond0)
  answer_bad bad = choice_bad (is_good cond0) (is_kept given t force) (Err (BadZone0 cond0)) (Err AlreadyFormatted) (Ok tt) bad

  pub answer_kept : is_good cond0 ≡ true → is_kept given t force ≡ true → answer_by given t force (Ok tt) ≡ Err AlreadyFormatted
  answer_kept good kept = choice_kept (is_good cond0) (is_kept given t force) (Err (BadZone0 cond0)) (Err AlreadyFormatted) (Ok tt) good kept

  pub answer_done : is_good cond0 ≡ true → is_kept given t force ≡ false → answer_by given t force (Ok tt) ≡ Ok tt
  answer_done good kept = choice_done (is_good cond0) (is_kept given t force) (Err (BadZone0 cond0)) (Err AlreadyFormatted) (Ok tt) good kept

  answer_told : is_good cond0 ≡ true → is_kept given t force ≡ false → (r : Reply) → answer_by given t force r ≡ told_as r
  answer_told good kept (Ok unit) = answer_done good kept
  answer_told good kept (Err error) = refl

-- ---- on a zone 0 that is good

module _ (given : List ℕ) (t : Truth) (block : List ℕ) (force : Bool) (old middle new : DeviceState) where
  pub good_failed : (error : DevError) (why : FormatError) → why ≡ format_error_of error → Ordered (looks t) (Err error) old new → Answers (good_commands given t block force) given t force (Err why) old new
  good_failed error why is h = record {
    reply = Err error;
    commands = ordered_failure (looks t) (if is_kept given t force then [] else writes t block) error old new h;
    answer = ap Err is;
  }

  pub good_kept : is_good (zone_at t 0).cond ≡ true → is_kept given t force ≡ true → Ordered (looks t) (Ok tt) old new → Answers (good_commands given t block force) given t force (Err AlreadyFormatted) old new
  good_kept good kept h = record {
    reply = Ok tt;
    commands = rw (kept, append-nil (looks t)) h;
    answer = sym (answer_kept given t force good kept);
  }

  pub good_written : (result : FormatReply) (reply : Reply) → result ≡ told_as reply → is_good (zone_at t 0).cond ≡ true → is_kept given t force ≡ false → t ≡ old.world.truth → Ordered (looks t) (Ok tt) old middle → Ordered (writes middle.world.truth block) reply middle new
      → Answers (good_commands given t block force) given t force result old new
  good_written result reply told good kept is h k =
      let same : middle.world.truth ≡ t = looks_same t old middle h ∙ sym is in
      record {
        reply = reply;
        commands = rw kept (ordered_append (looks t) (writes t block) reply old middle new h (subst (λ (u : Truth). Ordered (writes u block) reply middle new) same k));
        answer = told ∙ sym (answer_told given t force good kept reply);
      }

-- ---- on any device

module _ (given : List ℕ) (block : List ℕ) (force : Bool) (old middle new : DeviceState) where
  abbrev t : Truth
  t = old.world.truth

  pub with_failed : (error : DevError) (why : FormatError) → why ≡ format_error_of error → Commanded (report_all t) (Err error) old new → Answers (format_commands given t block force) given t force (Err why) old new
  with_failed error why is h = record {
    reply = Err error;
    commands = ordered_failed (report_all t) (if is_good (zone_at t 0).cond then good_commands given t block force else []) error old new h;
    answer = ap Err is;
  }

  pub with_bad : is_good (zone_at t 0).cond ≡ false → Commanded (report_all t) (Ok tt) old new → Answers (format_commands given t block force) given t force (Err (BadZone0 (zone_at t 0).cond)) old new
  with_bad bad h = record {
    reply = Ok tt;
    commands = rw bad (ordered_one (report_all t) (Ok tt) old new h);
    answer = sym (answer_bad given t force bad);
  }

  pub with_good : (result : FormatReply) → is_good (zone_at t 0).cond ≡ true → Commanded (report_all t) (Ok tt) old middle
      → Answers (good_commands given middle.world.truth block force) given middle.world.truth force result middle new
      → Answers (format_commands given t block force) given t force result old new
  with_good result good h k =
      let k' = subst (λ (u : Truth). Answers (good_commands given u block force) given u force result middle new) (report_same t old middle h) k in
      record {
        reply = k'.reply;
        commands = rw good (ordered_then (report_all t) (good_commands given t block force) k'.reply old middle new h k'.commands);
        answer = k'.answer;
      }
