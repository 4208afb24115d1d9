-- What the items of a format mean.
use Rattle.std.specs.Prelude.{◌≤◌, ℕ, List, length, Option, IfSome}
use Rattle.std.specs.Borrow.{Bor}
use Rattle.std.specs.Option.{option_copied}
use Rattle.zn_lines.specs.declared.limits.TheConstants.{LINE_LIMIT}
use Rattle.zn_lines.specs.Lines as lines
use Rattle.zn_script.specs.declared.FormatWords.{FormatWords}
use Rattle.zn_script.specs.declared.items.FormatItem.{FormatItem}
use Rattle.zn_script.specs.declared.items.FormatItem.TheVariants.{Force, Label, Uuid, Features}

-- what a format is asked for, as the model has it
abbrev pub format_meant : FormatWords → lines.FormatWords
format_meant words =
    record {
      force = words.force;
      label = option_copied words.label;
      uuid = option_copied words.uuid;
      features = option_copied words.features;
    }

-- an item, as the model has it
abbrev pub item_meant : FormatItem → lines.FormatItem
item_meant Force = lines.Force
item_meant (Label text) = lines.Label text.now
item_meant (Uuid text) = lines.Uuid text.now
item_meant (Features text) = lines.Features text.now

-- a text that is part of a line, if there is one
abbrev pub IsShort : Option (Bor (List ℕ)) → Type 0
IsShort text = IfSome text (λ t. length t.now ≤ LINE_LIMIT)

-- the same of an item, where it is features
abbrev pub IsShortItem : FormatItem → Type 0
IsShortItem (Features text) = length text.now ≤ LINE_LIMIT
IsShortItem _ = Unit {0}
