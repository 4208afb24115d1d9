-- How `clap` walks over the words of a command on a directory.
use Rattle.std.proofs.Common.{◌≡◌, ◌∙◌, ℕ, ◌+◌, ◌≤◌, ◌&&◌, ◌||◌, Bool, true, false, cond, suc, List, [], ◌∷◌, ◌++◌, append_assoc, length, map, Option, Some, None, codes, refl, ap, ap₂, subst, sym, arith}
use Rattle.std.specs.List.{fold, list_all}
use Rattle.std.specs.Option.{option_map_or}
use Rattle.std.specs.Char.{encode_utf8}
use Rattle.std.specs.Str.{bytes_eq, chars}
use Rattle.std.proofs.lemmas.Bool.{and_parts}
use Rattle.std.proofs.lemmas.List.{append-nil}
use Rattle.std.proofs.lemmas.List.Sums.{sum_by-cons}
use Rattle.clap.specs.Simple.{Shape}
use Rattle.clap.specs.Takes.{flags_pass, react_passes, settle_passes, short_passes, step_passes, turn_passes, use_passes, walk_passes, word_passes}
use Rattle.clap.specs.Walk.{Held, Row, Rule, Step, Text, Waiting, Walk, after_flag, after_step, arg_by_short, bundle_met, done, has_row, idle, is_pending, next, nothing_held, option, option_word, pushed, reading_by, settled, settled_rows, short_met, used, used_by_id, value, walk, walk_from, walked, word_met}
use Rattle.clap.specs.declared.parser.matches.ValueSource.TheVariants.{CommandLine}
use Rattle.zn_words.specs.Parts.{Part, Alone, With, Other, begun, flag_of, is_fit, is_use, is_value, others_in, parts_from, parts_of, takes_value, uses, word_of}
use Rattle.zn_words.specs.Clap.{letter_of}
use Rattle.zn_words.specs.declared.flags.Flag.{Flag}
use Rattle.zn_words.specs.declared.flags.Flag.TheVariants.{Force, Label, Uuid, Options}
use Rattle.zn_words.proofs.Rows.{absent, count_rows, count_rows-push, new_row, row_added}
use Rattle.zn_words.proofs.PlainValues.{between, standing, value_met, value_passes}
use Rattle.zn_words.proofs.Rules.{by_letter, by_word, dir_built, flag_built, flag_word, rules, told}

-- ---- where a walk stands

-- rows, and an argument whose values are being read
abbrev pub held : List Row → Option (Text × List Text) → Held
held rows pending = record { rows = rows; pending = pending; skip = 0 }

-- behind an option that waits for its value
abbrev waits : Held → ℕ → Text → Walk
waits h position id = standing (option id) h position

-- the row of a part
abbrev pub row_for : Part → Row
row_for (Alone flag) = new_row (word_of flag) (reading_by (flag_built flag)) CommandLine (codes "true" ∷ [])
row_for (With flag word) = new_row (word_of flag) (reading_by (flag_built flag)) CommandLine (word ∷ [])
row_for (Other word) = new_row (codes "DIR") (reading_by dir_built) CommandLine (word ∷ [])

and_false : (b : Bool) → (b && false) ≡ false
and_false true = refl
and_false false = refl

-- ---- options

module _ (name : Text) (flags : List Flag) where
  abbrev s : Shape
  s = told name flags

  abbrev c : List Rule
  c = rules flags

  module _ (rows : List Row) (pending : Option (Text × List Text)) (position : ℕ) where
    abbrev h : Held
    h = held rows pending

    -- what a word of one letter does, by the rule of that letter
    abbrev met_by : Text → Option Rule → Held × Step
    met_by word rule =
        let met = short_met c rule [] h (bundle_met c 0 [] 0 done) in
        after_flag c idle word met.0 met.1

    abbrev passes_by : Option Rule → Bool
    passes_by rule = short_passes c false rule [] h (flags_pass c false 0 [] 0)

    letter_met : (flag : Flag) → word_met c [] false idle position (word_of flag) h ≡ met_by (word_of flag) (arg_by_short c (letter_of flag))
    unfolding bundle_met chars encode_utf8
    letter_met Force = refl
    letter_met Label = refl
    letter_met Uuid = refl
    letter_met Options = refl

    letter_passes : (flag : Flag) → word_passes s [] false idle (word_of flag) h ≡ passes_by (arg_by_short c (letter_of flag))
    unfolding flags_pass chars encode_utf8
    letter_passes Force = refl
    letter_passes Label = refl
    letter_passes Uuid = refl
    letter_passes Options = refl

    -- an option that waits for its value
    waiting_met : (flag : Flag) → takes_value flag ≡ true → met_by (word_of flag) (Some (flag_built flag)) ≡ (held (settled_rows c pending rows) (Some (word_of flag, [])), next (option (word_of flag)))
    waiting_met Force takes = absurd (cc takes)
    waiting_met Label takes = refl
    waiting_met Uuid takes = refl
    waiting_met Options takes = refl

    waiting_passes : (flag : Flag) → takes_value flag ≡ true → passes_by (Some (flag_built flag)) ≡ settle_passes c false h
    waiting_passes Force takes = absurd (cc takes)
    waiting_passes Label takes = refl
    waiting_passes Uuid takes = refl
    waiting_passes Options takes = refl

    -- an option alone
    alone_met : met_by (word_of Force) (Some (flag_built Force)) ≡ (held (used (flag_built Force) [] (settled_rows c pending rows)) None, next idle)
    unfolding bundle_met
    alone_met = refl

    alone_passes : passes_by (Some (flag_built Force)) ≡ (react_passes c false (flag_built Force) [] h && true)
    unfolding flags_pass
    alone_passes = refl

  -- ---- what is read so far

  -- The rows so far, and what is being read, are these rows; and that may be settled.
  record Stands (all rows : List Row) (pending : Option (Text × List Text)) : Type 0 where
    settled : settled_rows c pending rows ≡ all
    passes : settle_passes c false (held rows pending) ≡ true

  -- The words are read from one place to another.
  record Reads (w : Walk) (words : List Text) (end : Walk) : Type 0 where
    passes : walk_passes s [] w words ≡ true
    ends : fold (walked c []) w words ≡ end

  -- There is room for the parts: each option stands at most once, and there is at most one other word.
  record Room (all : List Row) (parts : List Part) : Type 0 where
    fit : list_all is_fit parts ≡ true
    once : (flag : Flag) → flag_of flags (word_of flag) ≡ Some flag → count_rows (word_of flag) all + uses flag parts ≤ 1
    one : count_rows (codes "DIR") all + length (others_in parts) ≤ 1

  -- The words are read to their end, and each part has a row.
  record Ends (all : List Row) (parts : List Part) (words : List Text) (w : Walk) : Type 0 where
    rows : List Row
    pending : Option (Text × List Text)
    position : ℕ
    reads : Reads w words (between (held rows pending) position)
    stands : Stands (all ++ map row_for parts) rows pending

  -- ---- one word

  read_more : (w to end : Walk) (word : Text) (words : List Text) → turn_passes s [] w word ≡ true → walked c [] w word ≡ to → Reads to words end → Reads w (word ∷ words) end
  unfolding walk_passes
  read_more w to end word words turn goes reads = record {
    passes = ap₂ (λ (b : Bool) (v : Walk). b && walk_passes s [] v words) turn goes ∙ reads.passes;
    ends = ap (λ (v : Walk). fold (walked c []) v words) goes ∙ reads.ends;
  }

  -- a word that waits, and the parts of the words behind it
  later : (all : List Row) (parts : List Part) (w to : Walk) (word : Text) (words : List Text) → turn_passes s [] w word ≡ true → walked c [] w word ≡ to → Ends all parts words to → Ends all parts (word ∷ words) w
  later all parts w to word words turn goes ends = record {
    rows = ends.rows;
    pending = ends.pending;
    position = ends.position;
    reads = read_more w to (between (held ends.rows ends.pending) ends.position) word words turn goes ends.reads;
    stands = ends.stands;
  }

  -- a word that ends a part
  one_more : (all : List Row) (part : Part) (parts : List Part) (w to : Walk) (word : Text) (words : List Text) → turn_passes s [] w word ≡ true → walked c [] w word ≡ to
      → Ends (all ++ row_for part ∷ []) parts words to → Ends all (part ∷ parts) (word ∷ words) w
  one_more all part parts w to word words turn goes ends = record {
    rows = ends.rows;
    pending = ends.pending;
    position = ends.position;
    reads = read_more w to (between (held ends.rows ends.pending) ends.position) word words turn goes ends.reads;
    stands = subst (λ (rs : List Row). Stands rs ends.rows ends.pending) (append_assoc all (row_for part ∷ []) (map row_for parts)) ends.stands;
  }

  -- the walk after a word that is met so
  goes_on : (w : Held) (position : ℕ) (word : Text) (to : Held) (waiting : Waiting) → word_met c [] false idle position word w ≡ (to, next waiting)
      → walked c [] (between w position) word ≡ record { held = to; waiting = waiting; position = position; is_trailing = false; stopped = None }
  unfolding walked
  goes_on w position word to waiting met = ap (λ (p : Held × Step). after_step c word (between w position) p.0 p.1) met

  turn_on : (w : Held) (position : ℕ) (word : Text) (to : Held) (waiting : Waiting) → word_met c [] false idle position word w ≡ (to, next waiting) → word_passes s [] false idle word w ≡ true
      → turn_passes s [] (between w position) word ≡ true
  turn_on w position word to waiting met passes = ap₂ (λ (b : Bool) (p : Held × Step). b && step_passes s position p.0 p.1) passes met

  -- ---- room

  -- the row of an option is counted as the option is
  same_use : (flag : Flag) (part : Part) → bytes_eq (row_for part).id (word_of flag) ≡ is_use flag part
  same_use flag (Alone used) = refl
  same_use flag (With used word) = refl
  same_use Force (Other word) = refl
  same_use Label (Other word) = refl
  same_use Uuid (Other word) = refl
  same_use Options (Other word) = refl

  abbrev one_if : Bool → ℕ
  one_if b = cond b 1 0

  abbrev used_here : Flag → Part → ℕ
  used_here flag part = one_if (is_use flag part)

  option_stands : (all : List Row) (flag : Flag) (part : Part) (parts : List Part) → count_rows (word_of flag) (all ++ row_for part ∷ []) + uses flag parts ≡ count_rows (word_of flag) all + uses flag (part ∷ parts)
  option_stands all flag part parts =
      let pushed = count_rows-push (word_of flag) all (row_for part) in
      let same = ap one_if (same_use flag part) in
      let more = sum_by-cons (used_here flag) part parts in
      omega (arith, pushed, same, more)

  no_dir : (flag : Flag) → one_if (bytes_eq (word_of flag) (codes "DIR")) ≡ 0
  no_dir Force = refl
  no_dir Label = refl
  no_dir Uuid = refl
  no_dir Options = refl

  other_stands : (all : List Row) (part : Part) (parts : List Part) → count_rows (codes "DIR") (all ++ row_for part ∷ []) + length (others_in parts) ≡ count_rows (codes "DIR") all + length (others_in (part ∷ parts))
  other_stands all (Alone flag) parts = omega (arith, count_rows-push (codes "DIR") all (row_for (Alone flag)), no_dir flag)
  other_stands all (With flag word) parts = omega (arith, count_rows-push (codes "DIR") all (row_for (With flag word)), no_dir flag)
  other_stands all (Other word) parts = omega (arith, count_rows-push (codes "DIR") all (row_for (Other word)))

  room_more : (all : List Row) (part : Part) (parts : List Part) → Room all (part ∷ parts) → Room (all ++ row_for part ∷ []) parts
  room_more all part parts room = record {
    fit = (and_parts (is_fit part) (list_all is_fit parts) room.fit).1;
    once = λ flag has. omega (arith, option_stands all flag part parts, room.once flag has);
    one = omega (arith, other_stands all part parts, room.one);
  }

  -- an option that stands has no row so far
  first_use : (all : List Row) (flag : Flag) (part : Part) (parts : List Part) → Room all (part ∷ parts) → flag_of flags (word_of flag) ≡ Some flag → is_use flag part ≡ true → has_row (word_of flag) all ≡ false
  first_use all flag part parts room has is =
      let here : used_here flag part ≡ 1 = ap one_if is in
      absent (word_of flag) all (omega (arith, room.once flag has, sum_by-cons (used_here flag) part parts, here))

  -- ---- what stands after a part

  -- what is read so far, settled, with a use of an option
  used_row : (all : List Row) (flag : Flag) (word : Text) → takes_value flag ≡ true → has_row (word_of flag) all ≡ false → used (flag_built flag) (word ∷ []) all ≡ all ++ row_for (With flag word) ∷ []
  used_row all Force word takes none = absurd (cc takes)
  used_row all Label word takes none = row_added _ _ _ _ all none
  used_row all Uuid word takes none = row_added _ _ _ _ all none
  used_row all Options word takes none = row_added _ _ _ _ all none

  use_goes : (all : List Row) (flag : Flag) (word : Text) → takes_value flag ≡ true → has_row (word_of flag) all ≡ false → use_passes false (flag_built flag) (word ∷ []) all ≡ true
  use_goes all Force word takes none = absurd (cc takes)
  use_goes all Label word takes none = rw none refl
  use_goes all Uuid word takes none = rw none refl
  use_goes all Options word takes none = rw none refl

  -- an option with its value
  stands_with : (all : List Row) (flag : Flag) (word : Text) → takes_value flag ≡ true → flag_of flags (word_of flag) ≡ Some flag → has_row (word_of flag) all ≡ false
      → Stands (all ++ row_for (With flag word) ∷ []) all (Some (word_of flag, word ∷ []))
  stands_with all flag word takes has none = record {
    settled = ap (λ (o : Option Rule). used_by_id o (word ∷ []) all) (by_word flags flag has) ∙ used_row all flag word takes none;
    passes = ap (λ (o : Option Rule). option_map_or (λ (r : Rule). use_passes false r (word ∷ []) all) o true) (by_word flags flag has) ∙ use_goes all flag word takes none;
  }

  -- the option that takes no value
  stands_alone : (all : List Row) → has_row (codes "-f") all ≡ false → Stands (all ++ row_for (Alone Force) ∷ []) (used (flag_built Force) [] all) None
  stands_alone all none = record { settled = row_added _ _ _ _ all none; passes = refl }

  -- the directory
  stands_other : (all : List Row) (word : Text) → has_row (codes "DIR") all ≡ false → Stands (all ++ row_for (Other word) ∷ []) all (Some (codes "DIR", word ∷ []))
  stands_other all word none = record { settled = row_added _ _ _ _ all none; passes = rw none refl }

  -- ---- all words

  abbrev Idle : List Text → List Part → Type 0
  Idle words parts =
      (all rows : List Row) (pending : Option (Text × List Text)) (position : ℕ) → Stands all rows pending → position ≡ suc (count_rows (codes "DIR") all) → Room all parts
      → Ends all parts words (between (held rows pending) position)

  abbrev Waits : List Text → (Option Flag → List Part) → Type 0
  Waits words parts =
      (all : List Row) (flag : Flag) (position : ℕ) → flag_of flags (word_of flag) ≡ Some flag → takes_value flag ≡ true → position ≡ suc (count_rows (codes "DIR") all) → Room all (parts (Some flag))
      → Ends all (parts (Some flag)) words (waits (held all (Some (word_of flag, []))) position (word_of flag))

  -- an option doesn't move the place
  same_place : (all : List Row) (flag : Flag) (word : Text) (position : ℕ) → position ≡ suc (count_rows (codes "DIR") all) → position ≡ suc (count_rows (codes "DIR") (all ++ row_for (With flag word) ∷ []))
  same_place all flag word position at = omega (arith, count_rows-push (codes "DIR") all (row_for (With flag word)), no_dir flag)

  -- a value, behind its option
  value_reached : (all : List Row) (flag : Flag) (position : ℕ) (word : Text) → flag_of flags (word_of flag) ≡ Some flag → takes_value flag ≡ true → is_value word ≡ true
      → word_met c [] false (option (word_of flag)) position word (held all (Some (word_of flag, []))) ≡ (held all (Some (word_of flag, word ∷ [])), next idle)
  value_reached all flag position word has takes is =
      value_met c (option (word_of flag)) position word (held all (Some (word_of flag, []))) is
      ∙ (ap (λ (o : Option Rule). let p = option_word o (word_of flag) word (held all (Some (word_of flag, []))) in let q : Held × Step = (p.0, next p.1) in q) (by_word flags flag has)
      ∙ goes flag takes)
    where
      goes : (f : Flag) → takes_value f ≡ true
          → (let p = option_word (Some (flag_built f)) (word_of f) word (held all (Some (word_of f, []))) in let q : Held × Step = (p.0, next p.1) in q) ≡ (held all (Some (word_of f, word ∷ [])), next idle)
      goes Force takes = absurd (cc takes)
      goes Label takes = refl
      goes Uuid takes = refl
      goes Options takes = refl

  with_value : (word : Text) (words : List Text) (parts : List Part) → Idle words parts
      → (all : List Row) (flag : Flag) (position : ℕ) → flag_of flags (word_of flag) ≡ Some flag → takes_value flag ≡ true → position ≡ suc (count_rows (codes "DIR") all) → Room all (With flag word ∷ parts)
      → Ends all (With flag word ∷ parts) (word ∷ words) (waits (held all (Some (word_of flag, []))) position (word_of flag))
  unfolding walked
  with_value word words parts rest all flag position has takes at room =
      let is = (and_parts (is_value word) (list_all is_fit parts) room.fit).0 in
      let w = waits (held all (Some (word_of flag, []))) position (word_of flag) in
      let met = value_reached all flag position word has takes is in
      let none = first_use all flag (With flag word) parts room has (itself flag) in
      one_more all (With flag word) parts w (between (held all (Some (word_of flag, word ∷ []))) position) word words
      (ap₂ (λ (b : Bool) (p : Held × Step). b && step_passes s position p.0 p.1) (value_passes s (option (word_of flag)) word (held all (Some (word_of flag, []))) is) met)
      (ap (λ (p : Held × Step). after_step c word w p.0 p.1) met)
      (rest (all ++ row_for (With flag word) ∷ []) all (Some (word_of flag, word ∷ [])) position (stands_with all flag word takes has none) (same_place all flag word position at) (room_more all (With flag word) parts room))
    where
      itself : (f : Flag) → bytes_eq (word_of f) (word_of f) ≡ true
      itself Force = refl
      itself Label = refl
      itself Uuid = refl
      itself Options = refl

  -- an option that waits for its value
  flag_waits : (flag : Flag) (words : List Text) (parts : Option Flag → List Part) → Waits words parts → flag_of flags (word_of flag) ≡ Some flag → takes_value flag ≡ true → Idle (word_of flag ∷ words) (parts (Some flag))
  flag_waits flag words parts rest has takes all rows pending position stands at room =
      let h = held rows pending in
      let to = waits (held all (Some (word_of flag, []))) position (word_of flag) in
      let rule = by_letter flags flag has in
      let met = letter_met rows pending position flag ∙ (ap (met_by rows pending position (word_of flag)) rule ∙ (waiting_met rows pending position flag takes
      ∙ ap (λ (rs : List Row). let q : Held × Step = (held rs (Some (word_of flag, [])), next (option (word_of flag))) in q) stands.settled)) in
      let passes = letter_passes rows pending position flag ∙ (ap (passes_by rows pending position) rule ∙ (waiting_passes rows pending position flag takes ∙ stands.passes)) in
      later all (parts (Some flag)) (between h position) to (word_of flag) words
      (turn_on h position (word_of flag) (held all (Some (word_of flag, []))) (option (word_of flag)) met passes)
      (goes_on h position (word_of flag) (held all (Some (word_of flag, []))) (option (word_of flag)) met)
      (rest all flag position has takes at room)

  -- the option that takes no value
  flag_alone : (words : List Text) (parts : List Part) → Idle words parts → flag_of flags (codes "-f") ≡ Some Force → Idle (codes "-f" ∷ words) (Alone Force ∷ parts)
  flag_alone words parts rest has all rows pending position stands at room =
      let h = held rows pending in
      let to = held (used (flag_built Force) [] all) None in
      let rule = by_letter flags Force has in
      let none = first_use all Force (Alone Force) parts room has refl in
      let met = letter_met rows pending position Force ∙ (ap (met_by rows pending position (codes "-f")) rule ∙ (alone_met rows pending position
      ∙ ap (λ (rs : List Row). let q : Held × Step = (held (used (flag_built Force) [] rs) None, next idle) in q) stands.settled)) in
      let goes : react_passes c false (flag_built Force) [] h ≡ true =
      ap₂ (λ (b : Bool) (rs : List Row). b && use_passes false (flag_built Force) [] rs) stands.passes stands.settled ∙ force_goes none in
      let passes = letter_passes rows pending position Force ∙ (ap (passes_by rows pending position) rule ∙ (alone_passes rows pending position ∙ ap (λ (b : Bool). b && true) goes)) in
      one_more all (Alone Force) parts (between h position) (between to position) (codes "-f") words
      (turn_on h position (codes "-f") to idle met passes)
      (goes_on h position (codes "-f") to idle met)
      (rest (all ++ row_for (Alone Force) ∷ []) (used (flag_built Force) [] all) None position (stands_alone all none)
      (omega (arith, at, count_rows-push (codes "DIR") all (row_for (Alone Force)))) (room_more all (Alone Force) parts room))
    where
      force_goes : has_row (codes "-f") all ≡ false → use_passes false (flag_built Force) [] all ≡ true
      force_goes none = rw none refl

  -- the directory
  other_word : (word : Text) (words : List Text) (parts : List Part) → Idle words parts → Idle (word ∷ words) (Other word ∷ parts)
  unfolding walked
  other_word word words parts rest all rows pending position stands at room =
      let h = held rows pending in
      let none : count_rows (codes "DIR") all ≡ 0 = omega (arith, room.one) in
      let first : position ≡ 1 = omega arith in
      let is = (and_parts (is_value word) (list_all is_fit parts) room.fit).0 in
      let met : word_met c [] false idle 1 word h ≡ (h, value) = value_met c idle 1 word h is in
      let pending_is = and_false (is_pending dir_built pending) in
      let place : step_passes s 1 h value ≡ true = ap₂ (λ (a b : Bool). a || b) pending_is stands.passes in
      let turn : turn_passes s [] (between h 1) word ≡ true = ap₂ (λ (b : Bool) (p : Held × Step). b && step_passes s 1 p.0 p.1) (value_passes s idle word h is) met ∙ place in
      let goes : walked c [] (between h 1) word ≡ between (held all (Some (codes "DIR", word ∷ []))) 2 =
      ap (λ (p : Held × Step). after_step c word (between h 1) p.0 p.1) met
      ∙ (ap (λ (b : Bool). between (pushed (codes "DIR") word (cond b h (settled c h))) 2) pending_is
      ∙ ap (λ (rs : List Row). between (held rs (Some (codes "DIR", word ∷ []))) 2) stands.settled) in
      subst (λ (n : ℕ). Ends all (Other word ∷ parts) (word ∷ words) (between h n)) (sym first)
      (one_more all (Other word) parts (between h 1) (between (held all (Some (codes "DIR", word ∷ []))) 2) word words turn goes
      (rest (all ++ row_for (Other word) ∷ []) all (Some (codes "DIR", word ∷ [])) 2 (stands_other all word (absent (codes "DIR") all none))
      (omega (arith, count_rows-push (codes "DIR") all (row_for (Other word)))) (room_more all (Other word) parts room)))

  -- the first word between two parts
  idle_on : (word : Text) (words : List Text) (parts : Option Flag → List Part) → Idle words (parts None) → Waits words parts → (found : Option Flag) → flag_of flags word ≡ found
      → Idle (word ∷ words) (begun found word parts)
  idle_on word words parts rest behind None is = other_word word words (parts None) rest
  idle_on word words parts rest behind (Some flag) is =
      let same = flag_word flags word flag is in
      subst (λ (w : Text). Idle (w ∷ words) (begun (Some flag) w parts)) same (by_flag flag (subst (λ (w : Text). flag_of flags w ≡ Some flag) (sym same) is))
    where
      by_flag : (f : Flag) → flag_of flags (word_of f) ≡ Some f → Idle (word_of f ∷ words) (begun (Some f) (word_of f) parts)
      by_flag Force has = flag_alone words (parts None) rest has
      by_flag Label has = flag_waits Label words parts behind has refl
      by_flag Uuid has = flag_waits Uuid words parts behind has refl
      by_flag Options has = flag_waits Options words parts behind has refl

  nothing_read : (w : Walk) → Reads w [] w
  unfolding walk_passes
  nothing_read w = record { passes = refl; ends = refl }

  words_end : (words : List Text) → Idle words (parts_from flags words None) × Waits words (parts_from flags words)
  words_end [] = (
    λ all rows pending position stands at room. record {
      rows = rows;
      pending = pending;
      position = position;
      reads = nothing_read (between (held rows pending) position);
      stands = subst (λ (rs : List Row). Stands rs rows pending) (sym (append-nil all)) stands;
    },
    λ all flag position has takes at room. let bad : false ≡ true = room.fit in absurd (cc bad),
  )
  words_end (word ∷ words) =
      let rest = words_end words in (
        idle_on word words (parts_from flags words) rest.0 rest.1 (flag_of flags word) refl,
        λ all flag position has takes at room. with_value word words (parts_from flags words None) rest.0 all flag position has takes at room,
      )

  -- ---- the whole walk

  -- The walk over words whose parts have room ends behind all of them.
  pub record Walked (parts : List Part) (words : List Text) : Type 0 where
    pub end : Walk
    pub passes : walk_passes s [] (walk_from nothing_held) words ≡ true
    pub ends : walk c [] nothing_held words ≡ end
    pub whole : end.stopped ≡ None
    pub settles : settle_passes c false end.held ≡ true
    pub rows : (settled c end.held).rows ≡ map row_for parts

  pub walk_whole : (words : List Text) → list_all is_fit (parts_of flags words) ≡ true → ((flag : Flag) → flag_of flags (word_of flag) ≡ Some flag → uses flag (parts_of flags words) ≤ 1)
      → length (others_in (parts_of flags words)) ≤ 1 → Walked (parts_of flags words) words
  walk_whole words fit once one =
      let ends = (words_end words).0 [] [] None 1 (record { settled = refl; passes = refl }) refl (record {
        fit = fit;
        once = λ flag has. omega (arith, once flag has);
        one = omega (arith, one);
      }) in
      record {
        end = between (held ends.rows ends.pending) ends.position;
        passes = ends.reads.passes;
        ends = ends.reads.ends;
        whole = refl;
        settles = ends.stands.passes;
        rows = ends.stands.settled;
      }
