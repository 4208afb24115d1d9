-- The permissions that a format is asked for are small.
use Rattle.std.proofs.Common.{◌≡◌, ℕ, ◌≤◌, Bool, true, false, cond, leb, ltb, length, ◌&&◌, List, [], ◌∷◌, Option, Some, None, Result, Ok, Err, refl, ap, sym, subst, ◌∙◌, arith}
use Rattle.std.specs.List.{list_all}
use Rattle.std.specs.Option.{IfSome, unwrap_or}
use Rattle.std.specs.Result.{IfOk, result_unwrap_or}
use Rattle.std.specs.Str.{bytes_eq}
use Rattle.std.specs.Prelude.{codes}
use Rattle.std.proofs.lemmas.Bool.{and_parts, leb-true}
use Rattle.zn_model.specs.declared.answers.OptError.{OptError}
use Rattle.zn_model.specs.Options.{Item, FormatGiven, ◌>>>◌, each_item, items_of, value_behind, value_once, flag_once, is_octal, octal_worth, permissions_in, with_aggr_cnv, with_uid, with_gid, with_perm, uid_item, gid_item, perm_item, format_item, no_format_options}
use Rattle.zn_opts.specs.Items.{mapped}
use Rattle.zn_opts.specs.Meant.{format_of, format_step}
use Rattle.zn_opts.specs.declared.format.FormatGiven as kept
use Rattle.zn_opts.proofs.ItemLists.{no_format, format_items}

-- the permissions have three octal digits, where they are given
abbrev AreSmall : Option ℕ → Type 0
AreSmall perm = IfSome perm (λ p. p ≤ 0o777)

abbrev IsSmall : FormatGiven → Type 0
IsSmall given = AreSmall given.perm

if_small : (test : Bool) (n : ℕ) → (test ≡ true → n ≤ 0o777) → AreSmall (cond test (Some n) None)
if_small true n small = small refl
if_small false n small = tt

read_small : (word : List ℕ) → AreSmall (permissions_in word)
read_small word =
    if_small (ltb 0 (length word) && leb (length word) 4 && list_all is_octal word && leb (octal_worth word) 0o777) (octal_worth word)
    (λ is. leb-true _ _ (and_parts (ltb 0 (length word) && leb (length word) 4 && list_all is_octal word) (leb (octal_worth word) 0o777) is).1)

-- ---- one item

flag_small : (given : FormatGiven) (r : Result Bool OptError) → IsSmall given → IfOk (r >>> with_aggr_cnv given) IsSmall
flag_small given (Ok aggr) small = small
flag_small given (Err error) small = tt

user_small : (given : FormatGiven) (r : Result (Option ℕ) OptError) → IsSmall given → IfOk (r >>> with_uid given) IsSmall
user_small given (Ok uid) small = small
user_small given (Err error) small = tt

group_small : (given : FormatGiven) (r : Result (Option ℕ) OptError) → IsSmall given → IfOk (r >>> with_gid given) IsSmall
group_small given (Ok gid) small = small
group_small given (Err error) small = tt

once_small : (given : FormatGiven) (before read : Option ℕ) (item place : ℕ) → AreSmall read → IfOk (value_once before read item place >>> with_perm given) IsSmall
once_small given (Some perm) read item place small = tt
once_small given None None item place small = tt
once_small given None (Some perm) item place small = small

perm_small : (value : Option (List ℕ)) (given : FormatGiven) (item : Item) → IsSmall given → IfOk (perm_item value given item) IsSmall
perm_small None given item small = tt
perm_small (Some value) given item small = once_small given given.perm (permissions_in value) _ _ (read_small value)

gid_small : (value : Option (List ℕ)) (given : FormatGiven) (item : Item) → IsSmall given → IfOk (gid_item value given item) IsSmall
gid_small None given item small = perm_small (value_behind (codes "perm=") item.text) given item small
gid_small (Some value) given item small = group_small given _ small

uid_small : (value : Option (List ℕ)) (given : FormatGiven) (item : Item) → IsSmall given → IfOk (uid_item value given item) IsSmall
uid_small None given item small = gid_small (value_behind (codes "gid=") item.text) given item small
uid_small (Some value) given item small = user_small given _ small

either_small : (test : Bool) (r s : Result FormatGiven OptError) → IfOk r IsSmall → IfOk s IsSmall → IfOk (cond test r s) IsSmall
either_small true r s one other = one
either_small false r s one other = other

item_small : (given : FormatGiven) (item : Item) → IsSmall given → IfOk (format_item given item) IsSmall
item_small given item small =
    either_small (bytes_eq item.text (codes "aggr_cnv")) (flag_once given.aggr_cnv item.place >>> with_aggr_cnv given) (uid_item (value_behind (codes "uid=") item.text) given item)
    (flag_small given _ small) (uid_small _ given item small)

-- ---- all items

then_small : (r : Result FormatGiven OptError) (items : List Item) → IfOk r IsSmall → ((given : FormatGiven) → IsSmall given → IfOk (each_item format_item given items) IsSmall)
    → IfOk (r >>> (λ after. each_item format_item after items)) IsSmall
then_small (Ok given) items small rest = rest given small
then_small (Err error) items small rest = tt

items_small : (given : FormatGiven) (items : List Item) → IsSmall given → IfOk (each_item format_item given items) IsSmall
items_small given [] small = small
items_small given (item ∷ items) small = then_small (format_item given item) items (item_small given item small) (λ given small. items_small given items small)

kept_small : (given : kept.FormatGiven) (r : Result FormatGiven OptError) → Ok given ≡ mapped format_of r → IfOk r IsSmall → AreSmall given.perm
kept_small given (Ok meant) is small = let S : kept.FormatGiven → Type 0 = λ g. AreSmall g.perm in subst S (sym (ap (λ r. result_unwrap_or r given) is)) small
kept_small given (Err error) is small = absurd (cc)

default_small : (perm : Option ℕ) → AreSmall perm → unwrap_or perm 0o640 ≤ 0o777
default_small None small = omega arith
default_small (Some perm) small = small

pub format_small : (text : List ℕ) (given : kept.FormatGiven) → Ok given ≡ each_item format_step no_format (items_of text) → unwrap_or given.perm 0o640 ≤ 0o777
format_small text given is =
    default_small given.perm
    (kept_small given (each_item format_item no_format_options (items_of text)) (is ∙ format_items no_format (items_of text)) (items_small no_format_options (items_of text) tt))
