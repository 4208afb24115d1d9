-- The session that a command line begins.
use Rattle.std.proofs.Common.{◌≡◌, ℕ, ◌+◌, Bool, true, false, List, [], ◌∷◌, Option, None, fold, refl, sym, ap, subst, ◌∙◌, arith}
use Rattle.std.specs.Fmt.{digits}
use Rattle.std.specs.Prelude.{codes}
use Rattle.zn_truth.specs.Fresh.{fresh_truth}
use Rattle.zn_device.specs.States.{DeviceState}
use Rattle.zn_model.specs.declared.handles.Handle.{Handle}
use Rattle.zn_model.specs.ZoneFiles.{seq_path}
use Rattle.zn_lines.specs.declared.words.Scratch.{Scratch}
use Rattle.zn_lines.specs.Grammar.{root}
use Rattle.zn_lines.specs.Lines.{Line, Mkfs, Mount, OpenFile, plain_format}
use Rattle.zn_lines.specs.Scratch.{scratch_begun, scratch_lines, scratch_table}
use Rattle.zn_lines.specs.Session.{Stepped}
use Rattle.zn_lines.specs.Table.{Table, no_numbers}
use Rattle.zn_lines.proofs.ToldLines.{line_same, line_still}
use Rattle.zn_run.specs.States.{MachineState}
use Rattle.zn_session.specs.SessionState.{SessionState, begun, table_in, machine_of}
use Rattle.zn_session.specs.Steps.{Performed}
use Rattle.zn_session.proofs.Numbers.{none_unkeyed}
use Rattle.zn_cli.specs.Scratch.{after_line, CarriesOn, scratch_device, scratch_machine}
use Rattle.zn_cli.proofs.Calls.{scratch_is}

-- the path of the first sequential file
pub first_path : seq_path 0 ≡ codes "seq/0"
unfolding digits
first_path = refl

-- ---- lines, one after another

abbrev pub told_in : SessionState → Type 0
told_in session = (table_in session).world.truth.told ≡ true

-- one line is carried out
carried : (line : Line) (old new : SessionState) → Performed true line old new → told_in old → table_in new ≡ after_line (table_in old) line
carried line old new p told = p.table refl ∙ ap (λ (s : Stepped). s.table) (line_same p.given (table_in old) line told)

-- and the device still tells its bytes
still_told : (line : Line) (old new : SessionState) → Performed true line old new → told_in old → told_in new
still_told line old new p told =
    ap (λ (t : Table). t.world.truth.told) (carried line old new p told) ∙ line_still [] (table_in old) line ∙ told

-- three lines are carried out
pub three_carried : (a b c : Line) (old first second new : SessionState)
    → Performed true a old first → Performed true b first second → Performed true c second new → told_in old
    → CarriesOn (a ∷ b ∷ c ∷ []) old new
three_carried a b c old first second new p q r told =
    let told_first : told_in first = still_told a old first p told in
    let told_second : told_in second = still_told b first second q told_first in
    record {
      goes_on = r.over;
      counted = omega (arith, p.counted, q.counted, r.counted);
      table = carried c second new r told_second
          ∙ ap (λ (t : Table). after_line t c) (carried b first second q told_first)
          ∙ ap (λ (t : Table). after_line (after_line t b) c) (carried a old first p told);
    }

-- the three lines that a run begins with
pub lines_begun : (old first second new : SessionState) (p q r : Bool)
    → Performed p (Mkfs plain_format) old first → Performed q (Mount None) first second
    → Performed r (OpenFile 0 (codes "seq/0") (record { 0 = 3 }) root) second new
    → p ≡ true → q ≡ true → r ≡ true → told_in old → CarriesOn scratch_lines old new
lines_begun old first second new p q r a b c is_a is_b is_c told =
    let A : Bool → Type 0 = λ x. Performed x (Mkfs plain_format) old first in
    let B : Bool → Type 0 = λ x. Performed x (Mount None) first second in
    let C : Bool → Type 0 = λ x. Performed x (OpenFile 0 (codes "seq/0") (record { 0 = 3 }) root) second new in
    let P : List ℕ → Type 0 = λ path. CarriesOn (Mkfs plain_format ∷ Mount None ∷ OpenFile 0 path (record { 0 = 3 }) root ∷ []) old new in
    subst P (sym first_path)
    (three_carried (Mkfs plain_format) (Mount None) (OpenFile 0 (codes "seq/0") (record { 0 = 3 }) root) old first second new
    (subst A is_a a) (subst B is_b b) (subst C is_c c) told)

-- ---- the session behind the lines

begun_told_in : (s : Scratch) (entropy : List ℕ) → told_in (begun (scratch_device s) entropy)
unfolding fresh_truth
begun_told_in s entropy = refl

begun_table : (s : Scratch) (entropy : List ℕ) → table_in (begun (scratch_device s) entropy) ≡ scratch_begun s entropy
begun_table s entropy =
    let N : List (Option Handle) → Table = λ n. record (scratch_begun s entropy) { numbers = n } in ap N (none_unkeyed no_numbers refl)

-- the session before the lines tells its bytes
pub session_told : (s : Scratch) (entropy : List ℕ) (session : SessionState) (device : DeviceState) → device ≡ scratch_device s
    → session ≡ begun device entropy → told_in session
session_told s entropy session device is begins =
    ap (λ (x : SessionState). (table_in x).world.truth.told) (begins ∙ ap (λ (d : DeviceState). begun d entropy) is) ∙ begun_told_in s entropy

begins_table : (s : Scratch) (entropy : List ℕ) (session opened : SessionState) → session ≡ begun (scratch_device s) entropy
    → CarriesOn scratch_lines session opened → table_in opened ≡ scratch_table s entropy
begins_table s entropy session opened is on =
    on.table ∙ ap (λ (t : Table). fold after_line t scratch_lines) (ap table_in is ∙ begun_table s entropy) ∙ sym (scratch_is s entropy)

pub begins : (s : Scratch) (entropy : List ℕ) (session opened : SessionState) (device : DeviceState) → device ≡ scratch_device s
    → session ≡ begun device entropy → CarriesOn scratch_lines session opened
    → (opened.over ≡ false → opened.held.device.spoilt ≡ false) → opened.held.device.breaks ≡ 0 → opened.held.device.takes_memory ≡ false
    → machine_of opened ≡ scratch_machine s entropy
begins s entropy session opened device is begun_is on sound whole memory =
    let same : session ≡ begun (scratch_device s) entropy = begun_is ∙ ap (λ (d : DeviceState). begun d entropy) is in
    let m = machine_of opened in
    let T : Table → MachineState = λ t. record m { table = t } in
    let O : Bool → MachineState = λ b. record (T (scratch_table s entropy)) { over = b } in
    let U : Bool → MachineState = λ b. record (O false) { spoilt = b } in
    let B : ℕ → MachineState = λ n. record (U false) { breaks = n } in
    let M : Bool → MachineState = λ b. record (B 0) { takes_memory = b } in
    let S : ℕ → MachineState = λ n. record (M false) { steps = n } in
    ap T (begins_table s entropy session opened same on) ∙ ap O on.goes_on ∙ ap U (sound on.goes_on) ∙ ap B whole ∙ ap M memory
    ∙ ap S (on.counted ∙ ap (λ (x : SessionState). x.steps + 3) same)
