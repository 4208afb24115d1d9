-- How a test's machine, with nothing mounted, answers the lines that it knows.
use Rattle.std.proofs.Common.{◌≡◌, ℕ, ◌+◌, ◌-◌, ◌^◌, ◌<◌, min, Bool, true, false, List, [], ◌∷◌, length, get_or, Option, Some, None, Result, Ok, Err, refl, ap, sym, subst, ◌∙◌, inl, codes, arith}
use Rattle.zn_base.specs.States.{SinkState}
use Rattle.zn_base.specs.Told.{Grew, GrewToward}
use Rattle.zn_lines.specs.Lines.{Line, CloseFile, SizeOf}
use Rattle.zn_base.specs.Decimals.{number_in}
use Rattle.zn_lines.specs.Grammar.{reading_of, line_of, verb_of, close_line, size_line}
use Rattle.zn_lines.specs.Table.{Table}
use Rattle.zn_lines.specs.Session.{Stepped as Reply, says, line_step, line_now}
use Rattle.zn_run.specs.States.{MachineState, state_of, HasRisen, Added, CutOff}
use Rattle.zn_run.specs.Steps.{DoneBy, Stepped}
use Rattle.zn_run.specs.declared.machine.Step.TheVariants.{Done, BadLine, Broken, SinkFault, Memory}

-- ---- readings

reads_none : (line : List ℕ) → length line ≡ 0 → reading_of line ≡ Ok None
unfolding reading_of
reads_none [] none = refl
reads_none (b ∷ bytes) none = absurd (omega arith)

reads_comment : (line : List ℕ) → get_or line 0 0 ≡ 35 → reading_of line ≡ Ok None
unfolding reading_of
reads_comment [] is = absurd (omega arith)
reads_comment (b ∷ bytes) is = rw is refl

reads_bad : reading_of (codes "close") ≡ Err 6
unfolding reading_of line_of verb_of close_line
reads_bad = refl

reads_close : reading_of (codes "close 0") ≡ Ok (Some (CloseFile 0))
unfolding reading_of line_of verb_of close_line number_in
reads_close = refl

reads_size : reading_of (codes "size 0") ≡ Ok (Some (SizeOf 0))
unfolding reading_of line_of verb_of size_line number_in
reads_size = refl

reads_other_size : reading_of (codes "size 1") ≡ Ok (Some (SizeOf 1))
unfolding reading_of line_of verb_of size_line number_in
reads_other_size = refl

not_mounted : (table : Table) → table.volume ≡ None → table.world.powered ≡ true → line_step [] table (CloseFile 0) ≡ says (codes "error not-mounted\n") table
unfolding line_step line_now
not_mounted table none powered = rw (none, powered) refl

-- ---- steps

-- the machine after so many lines
abbrev pub probe : Table → Bool → ℕ → ℕ → MachineState
probe table over breaks steps = record { table = table; over = over; spoilt = false; breaks = breaks; takes_memory = true; steps = steps }

passes : {table : Table} {over : Bool} {breaks steps : ℕ} {sink : SinkState} (line : List ℕ) → reading_of line ≡ Ok None → over ≡ false
    → Stepped Done (reading_of line) (state_of (probe table over breaks steps) sink) (state_of (probe table over breaks (steps + 1)) sink)
passes {table = table} {over = over} {breaks = breaks} {steps = steps} {sink = sink} line reads goes_on =
    let D : Result (Option Line) ℕ → Type 0 = λ r. DoneBy r (state_of (probe table over breaks steps) sink) (state_of (probe table over breaks (steps + 1)) sink) in
    record {
      means = record { means = subst D (sym reads) (record { table = refl; breaks = refl; spoilt = refl; sink = refl }); goes_on = goes_on };
      counted = refl;
      memory = refl;
    }

pub passes_empty : {table : Table} {over : Bool} {breaks steps : ℕ} {sink : SinkState} (line : List ℕ) → length line ≡ 0 → over ≡ false
    → Stepped Done (reading_of line) (state_of (probe table over breaks steps) sink) (state_of (probe table over breaks (steps + 1)) sink)
passes_empty line none goes_on = passes line (reads_none line none) goes_on

pub passes_comment : {table : Table} {over : Bool} {breaks steps : ℕ} {sink : SinkState} (line : List ℕ) → get_or line 0 0 ≡ 35 → over ≡ false
    → Stepped Done (reading_of line) (state_of (probe table over breaks steps) sink) (state_of (probe table over breaks (steps + 1)) sink)
passes_comment line is goes_on = passes line (reads_comment line is) goes_on

pub refuses : {table : Table} {over : Bool} {breaks steps : ℕ} {sink : SinkState} (line : List ℕ) → line ≡ codes "close" → over ≡ false
    → Stepped (BadLine 6) (reading_of line) (state_of (probe table over breaks steps) sink) (state_of (probe table over breaks (steps + 1)) sink)
refuses line is goes_on = record {
  means = record { reads = ap reading_of is ∙ reads_bad; unmoved = record { table = refl; breaks = refl; spoilt = refl; sink = refl }; goes_on = goes_on };
  counted = refl;
  memory = refl;
}

pub answers : {table : Table} {over : Bool} {breaks steps : ℕ} {sink sink' : SinkState} (line : List ℕ) → line ≡ codes "close 0" → table.volume ≡ None → table.world.powered ≡ true
    → Grew sink.written sink'.written (codes "error not-mounted\n") → sink'.faults ≡ sink.faults → over ≡ false
    → Stepped Done (reading_of line) (state_of (probe table over breaks steps) sink) (state_of (probe table over breaks (steps + 1)) sink')
answers {table = table} {over = over} {breaks = breaks} {steps = steps} {sink = sink} {sink' = sink'} line is none powered grew kept goes_on =
    let D : Result (Option Line) ℕ → Type 0 = λ r. DoneBy r (state_of (probe table over breaks steps) sink) (state_of (probe table over breaks (steps + 1)) sink') in
    let T : List ℕ → Type 0 = λ text. Added text sink sink' in
    let step = not_mounted table none powered in
    record {
      means = record {
        means = subst D (sym (ap reading_of is ∙ reads_close))
            (record {
              given = [];
              table = ap (λ (s : Reply). s.table) (sym step);
              breaks = refl;
              spoilt = refl;
              reply = subst T (ap (λ (s : Reply). s.text) (sym step)) (record { grew = grew; kept = kept });
            });
        goes_on = goes_on;
      };
      counted = refl;
      memory = refl;
    }

pub is_cut : {table : Table} {over : Bool} {breaks steps : ℕ} {sink sink' : SinkState} (line : List ℕ) → line ≡ codes "close 0" → table.volume ≡ None → table.world.powered ≡ true
    → GrewToward sink.written sink'.written (codes "error not-mounted\n") → HasRisen sink.faults sink'.faults
    → Stepped SinkFault (reading_of line) (state_of (probe table over breaks steps) sink) (state_of (probe table true breaks (steps + 1)) sink')
is_cut {table = table} {sink = sink} {sink' = sink'} line is none powered toward risen =
    let T : List ℕ → Type 0 = λ text. CutOff text sink sink' in
    let step = not_mounted table none powered in
    record {
      means = record {
        line = CloseFile 0;
        reads = ap reading_of is ∙ reads_close;
        given = [];
        table = ap (λ (s : Reply). s.table) (sym step);
        breaks = refl;
        spoilt = refl;
        reply = subst T (ap (λ (s : Reply). s.text) (sym step)) (record { toward = toward; risen = risen });
        over = refl;
      };
      counted = refl;
      memory = refl;
    }

pub breaks_down : {table : Table} {over : Bool} {breaks breaks' steps : ℕ} {sink : SinkState} (line : List ℕ) → line ≡ codes "size 0" → table.world.powered ≡ true → breaks < 2 ^ 64 → breaks' ≡ min (breaks + 1) (2 ^ 64 - 1)
    → Stepped Broken (reading_of line) (state_of (probe table over breaks steps) sink) (state_of (probe table true breaks' (steps + 1)) sink)
breaks_down {breaks = breaks} {breaks' = breaks'} line is powered fits counted = record {
  means = record {
    line = SizeOf 0;
    reads = ap reading_of is ∙ reads_size;
    risen = record { later = omega arith; rose = omega arith };
    leaves = record { geometry = refl; powered = λ _. powered; still_powered = λ _. powered };
    sink = refl;
    over = refl;
  };
  counted = refl;
  memory = refl;
}

pub starves : {table : Table} {over : Bool} {breaks steps : ℕ} {sink : SinkState} (line : List ℕ) → line ≡ codes "size 1"
    → Stepped Memory (reading_of line) (state_of (probe table over breaks steps) sink) (state_of (probe table true breaks (steps + 1)) sink)
starves line is = record {
  means = record { line = SizeOf 1; reads = ap reading_of is ∙ reads_other_size; takes = inl refl; breaks = refl; sink = refl; over = refl };
  counted = refl;
  memory = refl;
}
