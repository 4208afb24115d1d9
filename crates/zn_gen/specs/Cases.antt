-- Some draws and some scripts, written out. (own)
use Rattle.std.specs.Prelude.{◌≡◌, ℕ, zero, suc, List, [], ◌∷◌, ◌++◌, map, codes}
use Rattle.zn_gen.specs.Churn.{draw_behind, line_text, steps_from, churn_lines}

-- so many draws behind a draw
abbrev pub draws : ℕ → ℕ → List ℕ
draws zero draw = []
draws (suc count) draw = draw_behind draw ∷ draws count (draw_behind draw)

-- the opening of each script
abbrev pub opening : List (List ℕ)
opening =
    codes "open 1 seq/1 rw" ∷ codes "open 2 seq/2 rw" ∷ codes "open 3 seq/3 rw" ∷ codes "open 4 seq/4 rw"
    ∷ codes "open 5 seq/5 rw" ∷ codes "open 6 seq/6 rw" ∷ codes "open 7 seq/7 rw" ∷ []

-- the lines of four steps behind the draw 81, where file 7 has so many blocks and the others have none
abbrev pub lines_at : ℕ → List (List ℕ)
lines_at blocks = map line_text (steps_from 4 81 (0 ∷ 0 ∷ 0 ∷ 0 ∷ 0 ∷ 0 ∷ 0 ∷ blocks ∷ []))

-- Nine draws; three steps that write; six steps of other kinds too, which read what was written before; a step that
-- has room for its one block, and then one that hasn't; and one that hasn't, whose file then takes four blocks.
pub record Rows : Type 0 where
  pub nine_draws : draws 9 1 ≡ 149 ∷ 11249 ∷ 57305 ∷ 38044 ∷ 35283 ∷ 24819 ∷ 26463 ∷ 18689 ∷ 25472 ∷ []
  pub three_steps : churn_lines 1 3
      ≡ opening ++ codes "write 5 0 d9*12288" ∷ codes "write 4 0 f3*12288" ∷ codes "write 7 0 80*4096" ∷ []
  pub same_seed : churn_lines 65538 3 ≡ churn_lines 1 3
  pub six_steps : churn_lines 53 6
      ≡ opening ++ codes "write 1 0 e6*4096" ∷ codes "sync 7" ∷ codes "submit 5 0 90*8192" ∷ codes "complete"
      ∷ codes "reap" ∷ codes "read 5 0 8192" ∷ codes "stat seq/1" ∷ codes "read 2 0 0" ∷ []
  pub last_block : lines_at 63
      ≡ codes "write 5 0 c6*16384" ∷ codes "sync 5" ∷ codes "submit 7 258048 99*4096" ∷ codes "complete"
      ∷ codes "reap" ∷ codes "truncate 7 0" ∷ []
  pub no_room : lines_at 64
      ≡ codes "write 5 0 c6*16384" ∷ codes "sync 5" ∷ codes "truncate 7 0" ∷ codes "write 7 0 d0*16384" ∷ []
