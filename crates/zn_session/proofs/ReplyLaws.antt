-- Laws of the texts of replies.
use Rattle.std.proofs.Common.{◌≡◌, ℕ, ◌+◌, ◌<◌, List, [], ◌∷◌, ◌++◌, get_or, length, take, drop, Option, sym, ap, subst, arith, ◌∙◌, Result, append_assoc}
use Rattle.std.specs.Prelude.{codes}
use Rattle.std.specs.List.{flat_map, enumerate_from}
use Rattle.std.specs.Fmt.{decimal}
use Rattle.std.proofs.lemmas.List.{take-append-drop, flat_map_more, take_more, take_all}
use Rattle.std.proofs.lemmas.List.Concat.{flat_map-append}
use Rattle.std.proofs.lemmas.List.FromFn.{length-map-range_with_len, get_or-map-range_with_len, length-enumerate_from, get_or-enumerate_from}
use Rattle.zn_base.specs.Texts.{◌⧺◌}
use Rattle.zn_base.specs.Runs.{data_text}
use Rattle.zn_base.specs.States.{SinkState, Writes}
use Rattle.zn_base.specs.Told.{Grew, GrewToward}
use Rattle.zn_base.proofs.ToldLaws.{grew_then, grew_toward, toward_more}
use Rattle.zn_lines.specs.ReplyTexts.{number_text, read_text, name_line, list_text}
use Rattle.zn_model.specs.ZoneFiles.{names_to}
use Rattle.zn_model.specs.declared.files.Stat.{Stat}
use Rattle.zn_session.specs.Replies.{front_text, told_line, told_zones}
use Rattle.zn_session.specs.declared.room.ZoneTold.{ZoneTold}

-- a writer of one text writes another that is the same
pub writes_as : {T E : Type 0} {old new : SinkState} {r : Result T E} {a b : List ℕ} → a ≡ b → Writes r a old new → Writes r b old new
writes_as {old = old} {new = new} {r = r} same writes = subst (λ (due : List ℕ). Writes r due old new) same writes

-- the bytes of a read that gave some
pub read_some : (bytes : List ℕ) → 0 < length bytes → front_text (length bytes) ++ (data_text bytes ++ codes "\n") ≡ read_text bytes
read_some [] some = absurd (omega arith)
read_some (b ∷ bytes) some = ap (λ xs. codes "ok " ++ xs) (append_assoc (decimal (length (b ∷ bytes))) (codes " ") (data_text (b ∷ bytes) ++ codes "\n"))

-- what is told of a file, with its mode as a text
abbrev pub told_file : List ℕ → List ℕ → Stat → List ℕ
told_file path mode stat =
    codes "ok file " ⧺ path ⧺ codes " zone " ⧺ decimal stat.zone ⧺ codes " zones " ⧺ decimal stat.zones ⧺ codes " size " ⧺ decimal stat.size
    ⧺ codes " blocks " ⧺ decimal stat.blocks ⧺ codes " mode " ⧺ mode ⧺ codes " uid " ⧺ decimal stat.uid
    ⧺ codes " gid " ⧺ decimal stat.gid ⧺ codes " writers " ⧺ decimal stat.writers ⧺ codes "\n"

-- ---- lines one after another, behind a front

module _ {X : Type 0} (line : X → List ℕ) (front : List ℕ) (xs : List X) where
  -- the front and the first lines
  abbrev pub lines_so_far : ℕ → List ℕ
  lines_so_far i = front ++ flat_map line (take i xs)

  -- and all of them
  abbrev pub lines_of : List ℕ
  lines_of = front ++ flat_map line xs

  module _ (i : ℕ) (d : X) (below : i < length xs) where
    one_more : lines_so_far i ++ line (get_or xs i d) ≡ lines_so_far (i + 1)
    one_more =
        append_assoc front (flat_map line (take i xs)) (line (get_or xs i d))
        ∙ ap (λ rest. front ++ rest) (flat_map_more line [] (take i xs) (get_or xs i d) ∙ ap (flat_map line) (sym (take_more xs i d below)))

    behind : lines_so_far (i + 1) ++ flat_map line (drop (i + 1) xs) ≡ lines_of
    behind =
        append_assoc front (flat_map line (take (i + 1) xs)) (flat_map line (drop (i + 1) xs))
        ∙ ap (λ rest. front ++ rest) (sym (flat_map-append line (take (i + 1) xs) (drop (i + 1) xs)) ∙ ap (flat_map line) (take-append-drop (i + 1) xs))

    pub lines_more : (told0 told told' : Option (List ℕ)) → Grew told0 told (lines_so_far i) → Grew told told' (line (get_or xs i d)) → Grew told0 told' (lines_so_far (i + 1))
    lines_more told0 told told' so_far more =
        subst (λ (due : List ℕ). Grew told0 told' due) one_more (grew_then told0 told told' (lines_so_far i) (line (get_or xs i d)) so_far more)

    pub lines_cut : (told0 told told' : Option (List ℕ)) → Grew told0 told (lines_so_far i) → GrewToward told told' (line (get_or xs i d)) → GrewToward told0 told' lines_of
    lines_cut told0 told told' so_far more =
        let grown = grew_toward told0 told told' (lines_so_far i) (line (get_or xs i d)) so_far more in
        let rest = flat_map line (drop (i + 1) xs) in
        subst (λ (due : List ℕ). GrewToward told0 told' due) (ap (λ all. all ++ rest) one_more ∙ behind) (toward_more told0 told' (lines_so_far i ++ line (get_or xs i d)) rest grown)

  pub lines_all : (told0 told : Option (List ℕ)) (i : ℕ) → i ≡ length xs → Grew told0 told (lines_so_far i) → Grew told0 told lines_of
  lines_all told0 told i end so_far =
      subst (λ (due : List ℕ). Grew told0 told due) (ap (λ all. front ++ flat_map line all) (take_all i xs (omega (arith, end)))) so_far

-- ---- names

pub name_at : (n i : ℕ) → i < n → get_or (names_to n) i [] ≡ decimal i
name_at n i below = get_or-map-range_with_len decimal 0 n i i [] below (omega arith)

pub names_count : (n : ℕ) → length (names_to n) ≡ n
names_count n = length-map-range_with_len decimal 0 n

-- the number of the names and the first ones
abbrev pub names_so_far : ℕ → ℕ → List ℕ
names_so_far n i = lines_so_far name_line (number_text n) (names_to n) i

-- the text of all names
pub listed : (n : ℕ) → number_text n ++ flat_map name_line (names_to n) ≡ list_text (names_to n)
listed n = ap (λ k. number_text k ++ flat_map name_line (names_to n)) (sym (names_count n))

module _ (told0 told told' : Option (List ℕ)) (n i : ℕ) (below : i < n) (so_far : Grew told0 told (names_so_far n i)) where
  there : i < length (names_to n)
  there = subst (λ (k : ℕ). i < k) (sym (names_count n)) below

  pub so_far_more : Grew told told' (name_line (decimal i)) → Grew told0 told' (names_so_far n (i + 1))
  so_far_more more =
      lines_more name_line (number_text n) (names_to n) i [] there told0 told told' so_far (subst (λ (name : List ℕ). Grew told told' (name_line name)) (sym (name_at n i below)) more)

  pub so_far_cut : GrewToward told told' (name_line (decimal i)) → GrewToward told0 told' (list_text (names_to n))
  so_far_cut more =
      subst (λ (due : List ℕ). GrewToward told0 told' due) (listed n)
      (lines_cut name_line (number_text n) (names_to n) i [] there told0 told told' so_far (subst (λ (name : List ℕ). GrewToward told told' (name_line name)) (sym (name_at n i below)) more))

pub all_named : (told0 told : Option (List ℕ)) (n i : ℕ) → i ≡ n → Grew told0 told (names_so_far n i) → Grew told0 told (list_text (names_to n))
all_named told0 told n i end so_far =
    subst (λ (due : List ℕ). Grew told0 told due) (listed n) (lines_all name_line (number_text n) (names_to n) told0 told i (end ∙ sym (names_count n)) so_far)

-- ---- zones

-- the number of the zones and the first ones
abbrev pub zones_so_far : List ZoneTold → ℕ → List ℕ
zones_so_far zones i = lines_so_far told_line (number_text (length zones)) (enumerate_from 0 zones) i

module _ (told0 told told' : Option (List ℕ)) (zones : List ZoneTold) (i : ℕ) (d : ZoneTold) (below : i < length zones) (so_far : Grew told0 told (zones_so_far zones i)) where
  zone_there : i < length (enumerate_from 0 zones)
  zone_there = subst (λ (k : ℕ). i < k) (sym (length-enumerate_from 0 zones)) below

  zone_at : get_or (enumerate_from 0 zones) i (0, d) ≡ (i, get_or zones i d)
  zone_at = get_or-enumerate_from 0 zones i (0, d) below ∙ ap (λ (k : ℕ). let entry : ℕ × ZoneTold = (k, get_or zones i d) in entry) (omega arith)

  pub zones_more : Grew told told' (told_line (i, get_or zones i d)) → Grew told0 told' (zones_so_far zones (i + 1))
  zones_more more =
      lines_more told_line (number_text (length zones)) (enumerate_from 0 zones) i (0, d) zone_there told0 told told' so_far (subst (λ (entry : ℕ × ZoneTold). Grew told told' (told_line entry)) (sym zone_at) more)

  pub zones_cut : GrewToward told told' (told_line (i, get_or zones i d)) → GrewToward told0 told' (told_zones zones)
  zones_cut more =
      lines_cut told_line (number_text (length zones)) (enumerate_from 0 zones) i (0, d) zone_there told0 told told' so_far (subst (λ (entry : ℕ × ZoneTold). GrewToward told told' (told_line entry)) (sym zone_at) more)

pub all_told : (told0 told : Option (List ℕ)) (zones : List ZoneTold) (i : ℕ) → i ≡ length zones → Grew told0 told (zones_so_far zones i) → Grew told0 told (told_zones zones)
all_told told0 told zones i end so_far =
    lines_all told_line (number_text (length zones)) (enumerate_from 0 zones) told0 told i (end ∙ sym (length-enumerate_from 0 zones)) so_far
