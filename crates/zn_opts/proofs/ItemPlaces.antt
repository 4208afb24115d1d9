-- The items of a text, one after another.
use Rattle.std.proofs.Common.{◌≡◌, ℕ, ◌+◌, ◌-◌, ◌<◌, ◌≤◌, false, cond, nat_lt, List, [], ◌∷◌, length, take, drop, Some, None, Result, Ok, Err, refl, ap, sym, ◌∙◌, arith}
use Rattle.std.proofs.lemmas.Bool.Decides.{nat_tests}
use Rattle.std.proofs.lemmas.List.{take_rest, drop-drop, length-drop, length-take-le}
use Rattle.std.proofs.lemmas.List.Splits.{slice_split_first, slice_split_none}
use Rattle.std.proofs.lemmas.List.Sums.{fails_before_first}
use Rattle.std.specs.List.{position, slice_split, All}
use Rattle.zn_model.specs.declared.answers.OptError.{OptError}
use Rattle.zn_opts.specs.Items.{item_between}
use Rattle.zn_model.specs.Options.{Item, is_comma, placed_from, each_item, ◌>>>◌}

some_place : (at len n : ℕ) → cond (nat_lt at len) (Some at) None ≡ Some n → (at < len) × (at ≡ n)
some_place at len n is = grind (arith, nat_tests)

no_place : (at len : ℕ) → cond (nat_lt at len) (Some at) None ≡ None → len ≤ at
no_place at len is = grind (arith, nat_tests)

first_item : (bytes : List ℕ) (n : ℕ) → position is_comma bytes ≡ Some n → slice_split is_comma bytes ≡ take n bytes ∷ slice_split is_comma (drop (n + 1) bytes)
first_item bytes n is =
    let p = some_place _ _ n is in
    slice_split_first is_comma bytes 0 p.0 ∙ ap (λ k. take k bytes ∷ slice_split is_comma (drop (k + 1) bytes)) p.1

only_item : (bytes : List ℕ) → position is_comma bytes ≡ None → slice_split is_comma bytes ≡ bytes ∷ []
only_item bytes is =
    let p = no_place _ _ is in
    let one : All (λ b. is_comma b ≡ false) bytes = λ k d within. fails_before_first is_comma bytes k d (omega arith) in
    slice_split_none is_comma bytes one

within_first : (bytes : List ℕ) (n : ℕ) → position is_comma bytes ≡ Some n → n < length bytes
within_first bytes n is = let p = some_place _ _ n is in omega (arith, p.0, p.1)

-- An item of this length begins at the place, and a comma ends it.
pub record ItemAt (text : List ℕ) (at len : ℕ) : Type 0 where
  pub parted : placed_from at (slice_split is_comma (drop at text))
      ≡ item_between text at (at + len) ∷ placed_from (at + (len + 1)) (slice_split is_comma (drop (at + (len + 1)) text))
  pub within : at + len < length text

-- as the code's slices spell it
pub item_at : (text : List ℕ) (at len : ℕ) → at ≤ length text → position is_comma (take (length text - at) (drop at text)) ≡ Some len → ItemAt text at len
item_at text at len inside found =
    let is : position is_comma (drop at text) ≡ Some len = ap (position is_comma) (sym (take_rest text at)) ∙ found in
    let below : len < length (drop at text) = within_first (drop at text) len is in
    let plain : at + len - at ≡ len = omega arith in
    let sized : length (take len (drop at text)) ≡ len = length-take-le len (drop at text) (omega arith) in
    let further : at + length (take len (drop at text)) + 1 ≡ at + (len + 1) = omega (arith, sized) in
    let item : Item = record { place = at; text = take len (drop at text) } in
    record {
      parted = rw plain (ap (placed_from at) (first_item (drop at text) len is)
          ∙ ap (λ place. item ∷ placed_from place (slice_split is_comma (drop (len + 1) (drop at text)))) further
          ∙ ap (λ bytes. item ∷ placed_from (at + (len + 1)) (slice_split is_comma bytes)) (drop-drop (len + 1) at text));
      within = omega (arith, length-drop at text);
    }

-- the last item
pub last_item : (text : List ℕ) (at : ℕ) → position is_comma (take (length text - at) (drop at text)) ≡ None → placed_from at (slice_split is_comma (drop at text)) ≡ item_between text at (length text) ∷ []
last_item text at none =
    let rest = take_rest text at in
    ap (placed_from at) (only_item (drop at text) (ap (position is_comma) (sym rest) ∙ none)) ∙ ap (λ bytes. record { place = at; text = bytes } ∷ []) (sym rest)

-- ---- what the items ask for

pub item_taken : {S : Type 0} (step : S → Item → Result S OptError) (state after : S) (item : Item) (items : List Item) → step state item ≡ Ok after → each_item step state (item ∷ items) ≡ each_item step after items
item_taken step state after item items is = ap (λ r. r >>> (λ after. each_item step after items)) is

pub item_refused : {S : Type 0} (step : S → Item → Result S OptError) (state : S) (error : OptError) (item : Item) (items : List Item) → step state item ≡ Err error → each_item step state (item ∷ items) ≡ Err error
item_refused step state error item items is = ap (λ r. r >>> (λ after. each_item step after items)) is

then_nothing : {S : Type 0} (r : Result S OptError) → r >>> (λ after. Ok after) ≡ r
then_nothing (Ok after) = refl
then_nothing (Err error) = refl

pub item_alone : {S : Type 0} (step : S → Item → Result S OptError) (state : S) (item : Item) → each_item step state (item ∷ []) ≡ step state item
item_alone step state item = then_nothing (step state item)
