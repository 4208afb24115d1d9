-- Calls on a directory that tells no content.
use Rattle.std.proofs.Common.{◌≡◌, ℕ, ◌≤◌, [], false, Result, Ok, Err, refl, arith}
use Rattle.std.specs.Prelude.{IsErrOf}
use Rattle.zn_base.specs.Causes.{one_more, Rose}
use Rattle.zn_stand.specs.Calls.{Call}
use Rattle.zn_files.specs.declared.error.FileError.{FileError}
use Rattle.zn_files.specs.declared.error.FileError.TheVariants.{Fault, Missing, Exists, Memory}
use Rattle.zn_files.specs.Causes.{FilesCause}
use Rattle.zn_files.specs.States.{Called}
use Rattle.zn_host.specs.Host.{HostState, untold_files, counted}

rose : (old new : ℕ) → new ≡ one_more old → Rose old new
rose old new is = grind (arith)

module _ {T : Type 0} where
  -- the count that is told exactly has its causes
  pub counted_cause : (answer : Result T FileError) (old new : ℕ) → old ≤ new → new ≡ counted answer old → FilesCause answer false old new
  counted_cause (Ok v) old new later is = record { later = later; fault = λ e. absurd (cc (e)); missing = λ u e. absurd (cc (e)); exists = λ u e. absurd (cc (e)); done = is; refused = λ t. absurd (cc (t)) }
  counted_cause (Err Fault) old new later is = record { later = later; fault = λ e. rose old new is; missing = λ u e. rose old new is; exists = λ u e. rose old new is; done = tt; refused = λ t. absurd (cc (t)) }
  counted_cause (Err Missing) old new later is = record { later = later; fault = λ e. rose old new is; missing = λ u e. rose old new is; exists = λ u e. rose old new is; done = tt; refused = λ t. absurd (cc (t)) }
  counted_cause (Err Exists) old new later is = record { later = later; fault = λ e. rose old new is; missing = λ u e. rose old new is; exists = λ u e. rose old new is; done = tt; refused = λ t. absurd (cc (t)) }
  counted_cause (Err Memory) old new later is = record { later = later; fault = λ e. absurd (cc (e)); missing = λ u e. absurd (cc (e)); exists = λ u e. absurd (cc (e)); done = tt; refused = λ t. absurd (cc (t)) }

  -- where memory is wanting, the count stays
  counted_memory : (answer : Result T FileError) (old new : ℕ) → new ≡ counted answer old → IsErrOf answer Memory → new ≡ old
  counted_memory (Ok v) old new is e = absurd (cc (e))
  counted_memory (Err Fault) old new is e = absurd (cc (e))
  counted_memory (Err Missing) old new is e = absurd (cc (e))
  counted_memory (Err Exists) old new is e = absurd (cc (e))
  counted_memory (Err Memory) old new is e = is

  -- a call on a directory that tells no content owes the count of faults alone
  pub called_untold : (call : Call) (answer : Result T FileError) (old new : HostState) → old.faults ≤ new.faults → new.faults ≡ counted answer old.faults → Called call answer (untold_files old) (untold_files new)
  called_untold call answer old new later is = record {
    done = λ h. refl;
    answer = λ d told. absurd (cc (told));
    stops = record { since = []; history = refl; each = λ image h. absurd h };
    failed = λ e d told. absurd (cc (told));
    memory = λ e i. record { history = []; faults = counted_memory answer old.faults new.faults is e i };
    told = refl;
    cause = counted_cause answer old.faults new.faults later is;
  }
