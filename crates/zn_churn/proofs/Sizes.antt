-- The lines that ask for sizes.
use Rattle.std.proofs.Common.{◌≡◌, ℕ, zero, suc, ◌+◌, ◌-◌, ◌/◌, ◌<◌, ◌≤◌, List, Some, Ok, refl, subst, arith}
use Rattle.zn_base.specs.Decimals.{number_in}
use Rattle.zn_lines.specs.Grammar.{reading_of, verb_of, size_line as size_words, line_of}
use Rattle.zn_lines.specs.Lines.{SizeOf}
use Rattle.zn_lines.specs.Table.{Table}
use Rattle.zn_run.specs.States.{MachineState, HasRisen}
use Rattle.zn_churn.specs.Churning.{size_line, reply_of, table_of, blocks_told}
use Rattle.zn_churn.specs.Lines.{AnswerMeans, HaltMeans}
use Rattle.zn_churn.specs.Tally.{count_in}
use Rattle.zn_churn.specs.declared.churning.Halt.{Halt}
use Rattle.zn_churn.specs.declared.churning.Halt.TheVariants.{Ended, Broken, Starved}

-- each is read
size_is_read : (handle : ℕ) → handle < 8 → reading_of (size_line handle) ≡ Ok (Some (SizeOf handle))
unfolding number_in verb_of size_words line_of reading_of
size_is_read zero below = refl
size_is_read (suc zero) below = refl
size_is_read (suc (suc zero)) below = refl
size_is_read (suc (suc (suc zero))) below = refl
size_is_read (suc (suc (suc (suc zero)))) below = refl
size_is_read (suc (suc (suc (suc (suc zero))))) below = refl
size_is_read (suc (suc (suc (suc (suc (suc zero)))))) below = refl
size_is_read (suc (suc (suc (suc (suc (suc (suc zero))))))) below = refl
size_is_read (suc (suc (suc (suc (suc (suc (suc (suc handle)))))))) below = absurd (omega arith)

-- so none of them ends a script
pub sizes_halt : {X : Type 0} (halt : Halt) (handle number : ℕ) (came : X) (begun old new : MachineState) → handle < 8
    → old.breaks ≡ begun.breaks → AnswerMeans halt number (size_line handle) old new
    → HaltMeans halt (Ok came) begun new
sizes_halt (Ended ending) handle number came begun old new below same m = absurd (cc (size_is_read handle below, m.1))
sizes_halt (Broken broken) handle number came begun old new below same m = subst (λ (n : ℕ). HasRisen n new.breaks) same m
sizes_halt Starved handle number came begun old new below same m = m

one_more_file : (table : Table) (handle : ℕ) → handle < 8
    → blocks_told table (8 - handle) handle
    ≡ count_in (reply_of table (size_line handle)) / 4096
    + blocks_told (table_of table (size_line handle)) (8 - (handle + 1)) (handle + 1)
unfolding blocks_told
one_more_file table handle below =
    let more : 8 - handle ≡ suc (8 - (handle + 1)) = omega arith in
    rw more refl

-- the file of one more handle is told
pub next_file : (table after : Table) (all blocks count handle : ℕ) (told reply : List ℕ) → handle < 8
    → all ≡ blocks + blocks_told table (8 - handle) handle → told ≡ reply_of table (size_line handle)
    → after ≡ table_of table (size_line handle) → reply ≡ told → count ≡ count_in reply
    → all ≡ blocks + count / 4096 + blocks_told after (8 - (handle + 1)) (handle + 1)
next_file table after all blocks count handle told reply below so_far is_told is_after same counts =
    rw (counts, same, is_told, is_after) (omega (arith, so_far, one_more_file table handle below))

pub no_more_files : (table : Table) (handle : ℕ) → 8 ≤ handle → blocks_told table (8 - handle) handle ≡ 0
unfolding blocks_told
no_more_files table handle above =
    let none : 8 - handle ≡ 0 = omega arith in
    rw none refl
