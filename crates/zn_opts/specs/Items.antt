-- Items of option texts, as they are read. (own)
use Rattle.std.specs.Prelude.{◌≡◌, ℕ, ◌+◌, ◌-◌, List, length, take, drop, Some, Result, Ok, Err}
use Rattle.zn_model.specs.Options as options
use Rattle.zn_opts.specs.declared.items.Item.{Item}

-- the item as the definitions have it
abbrev pub item_meant : Item → options.Item
item_meant item = record { place = item.place; text = item.text.now }

-- the item between two places of a text
abbrev pub item_between : List ℕ → ℕ → ℕ → options.Item
item_between text at end = record { place = at; text = take (end - at) (drop at text) }

-- the value is what stands behind this name in the item, and begins there
pub record IsBehind (name : List ℕ) (item value : options.Item) : Type 0 where
  pub found : options.value_behind name item.text ≡ Some value.text
  pub place : value.place ≡ item.place + length name

-- the value by a function; an error stays
abbrev pub mapped : {A B E : Type 0} → (A → B) → Result A E → Result B E
mapped f (Ok x) = Ok (f x)
mapped f (Err e) = Err e
