-- A text that asks for features isn't long: each of them stands at most once, and numbers are short.
use Rattle.std.proofs.Common.{◌≡◌, ◌∙◌, ℕ, ◌+◌, ◌-◌, ◌*◌, ◌<◌, ◌≤◌, ◌==◌, ◌&&◌, Bool, true, false, cond, leb, ltb, drop, length, codes, List, [], ◌∷◌, Option, Some, None, Result, Ok, Err, refl, ap, subst, sym, inl, inr, eq-eqb, arith}
use Rattle.std.specs.List.{list_all, onto_first, slice_split}
use Rattle.std.specs.Option.{IfSome}
use Rattle.std.specs.Result.{IfOk}
use Rattle.std.specs.Str.{bytes_eq}
use Rattle.std.proofs.lemmas.Bool.{and_parts, cases_lt, leb-true}
use Rattle.std.proofs.lemmas.List.{length-drop}
use Rattle.std.proofs.lemmas.Slice.Eq.{bytes_eq-Decides}
use Rattle.zn_base.specs.Decimals.{digits_on, is_digit, number_in}
use Rattle.zn_base.proofs.DecimalLaws.{cond_passed, cond_taken}
use Rattle.zn_words.specs.Commands.{accepted}
use Rattle.zn_model.specs.declared.answers.OptError.{OptError}
use Rattle.zn_model.specs.Options.{Item, FormatGiven, ◌>>>◌, each_item, flag_once, format_given, format_item, format_options, gid_item, is_comma, is_octal, items_of, max_u32, no_format_options, octal_worth, perm_item, permissions_in, placed_from, uid_item, value_behind, value_once, with_aggr_cnv, with_gid, with_perm, with_uid}

-- ---- numbers

-- each digit behind a number makes it greater by 9 or more
digits_grow : (max n value : ℕ) (bytes : List ℕ) → 1 ≤ n → n ≤ max → digits_on max n bytes ≡ Some value → n + 9 * length bytes ≤ max
digits_grow max n value [] some most is = omega arith
digits_grow max n value (b ∷ bytes) some most is =
    let taken = cond_taken (is_digit b && leb (n * 10 + (b - 48)) max) (digits_on max (n * 10 + (b - 48)) bytes) value is in
    let within : n * 10 + (b - 48) ≤ max = leb-true _ _ (and_parts (is_digit b) (leb (n * 10 + (b - 48)) max) taken.0).1 in
    let rest : n * 10 + (b - 48) + 9 * length bytes ≤ max = digits_grow max (n * 10 + (b - 48)) value bytes (omega arith) within taken.1 in
    omega arith

-- a digit other than 0
above : (b : ℕ) → 48 ≤ b → (b == 48) ≡ false → 49 ≤ b
above b least other = elim (cases_lt 48 b) [
  | inl less ↦ less
  | inr most ↦
      let same : (b == 48) ≡ true = eq-eqb b 48 (omega arith) in
      absurd (cc)
]

number_short : (max n : ℕ) (word : List ℕ) → number_in max word ≡ Some n → 9 * length word ≤ max + 18
unfolding number_in
number_short max n [] is = omega arith
number_short max n (b ∷ []) is = omega arith
number_short max n (b ∷ c ∷ bytes) is =
    let passed = cond_passed (b == 48) (digits_on max 0 (b ∷ c ∷ bytes)) n is in
    let taken = cond_taken (is_digit b && leb (0 * 10 + (b - 48)) max) (digits_on max (0 * 10 + (b - 48)) (c ∷ bytes)) n passed.1 in
    let parts = and_parts (is_digit b) (leb (0 * 10 + (b - 48)) max) taken.0 in
    let digit = and_parts (leb 48 b) (leb b 57) parts.0 in
    let least : 48 ≤ b = leb-true 48 b digit.0 in
    let within : 0 * 10 + (b - 48) ≤ max = leb-true _ _ parts.1 in
    let more : 49 ≤ b = above b least passed.0 in
    let rest : 0 * 10 + (b - 48) + 9 * length (c ∷ bytes) ≤ max = digits_grow max (0 * 10 + (b - 48)) n (c ∷ bytes) (omega arith) within taken.1 in
    omega arith

abbrev IsShort : ℕ → Option ℕ → List ℕ → Type 0
IsShort most read word = IfSome read (λ _. length word ≤ most)

owner_short : (word : List ℕ) → IsShort 477218590 (number_in max_u32 word) word
owner_short word = go (number_in max_u32 word) refl
  where
    go : (read : Option ℕ) → number_in max_u32 word ≡ read → IsShort 477218590 read word
    go None is = tt
    go (Some n) is = let short : 9 * length word ≤ 4294967295 + 18 = number_short max_u32 n word is in omega arith

if_short : (test : Bool) (n : ℕ) (word : List ℕ) → (test ≡ true → length word ≤ 4) → IsShort 4 (cond test (Some n) None) word
if_short true n word short = short refl
if_short false n word short = tt

perm_short : (word : List ℕ) → IsShort 4 (permissions_in word) word
perm_short word =
    if_short (ltb 0 (length word) && leb (length word) 4 && list_all is_octal word && leb (octal_worth word) 0o777) (octal_worth word) word
    (λ is.
    let first = and_parts (ltb 0 (length word) && leb (length word) 4 && list_all is_octal word) (leb (octal_worth word) 0o777) is in
    let second = and_parts (ltb 0 (length word) && leb (length word) 4) (list_all is_octal word) first.0 in
    leb-true _ _ (and_parts (ltb 0 (length word)) (leb (length word) 4) second.0).1)

-- ---- one item

-- the bytes that an owner may still take, and the permissions
abbrev owner_room : Option ℕ → ℕ
owner_room None = 500000000
owner_room (Some n) = 0

abbrev perm_room : Option ℕ → ℕ
perm_room None = 10
perm_room (Some n) = 0

-- the bytes that items may still take, with a comma behind each
abbrev room : FormatGiven → ℕ
room given = cond given.aggr_cnv 0 9 + (owner_room given.uid + (owner_room given.gid + perm_room given.perm))

-- so many bytes, and a comma, are taken of the room
abbrev Takes : FormatGiven → ℕ → Result FormatGiven OptError → Type 0
Takes given bytes after = IfOk after (λ given'. bytes + 1 + room given' ≤ room given)

-- a value behind a name
behind : (name text value : List ℕ) → value_behind name text ≡ Some value → length text ≤ length name + length value
behind name text value is =
    let same = cond_taken _ (Some (drop (length name) text)) value is in
    let value_is : drop (length name) text ≡ value = cc in
    let rest : length value ≡ length text - length name = ap (length {A = ℕ}) (sym value_is) ∙ length-drop (length name) text in
    omega arith

flag_takes : (given : FormatGiven) (aggr : Bool) (item : ℕ) → given.aggr_cnv ≡ aggr → Takes given 8 (flag_once aggr item >>> with_aggr_cnv given)
flag_takes given true item is = tt
flag_takes given false item is = let none : cond {A = ℕ} given.aggr_cnv 0 9 ≡ 9 = ap (λ (b : Bool). cond {A = ℕ} b 0 9) is in omega arith

perm_takes : (given : FormatGiven) (before read : Option ℕ) (bytes item place : ℕ) → given.perm ≡ before → IfSome read (λ _. bytes ≤ 9) → Takes given bytes (value_once before read item place >>> with_perm given)
perm_takes given (Some perm) read bytes item place is short = tt
perm_takes given None None bytes item place is short = tt
perm_takes given None (Some perm) bytes item place is short = let none : perm_room given.perm ≡ 10 = ap perm_room is in omega arith

gid_takes : (given : FormatGiven) (before read : Option ℕ) (bytes item place : ℕ) → given.gid ≡ before → IfSome read (λ _. bytes ≤ 477218594) → Takes given bytes (value_once before read item place >>> with_gid given)
gid_takes given (Some gid) read bytes item place is short = tt
gid_takes given None None bytes item place is short = tt
gid_takes given None (Some gid) bytes item place is short = let none : owner_room given.gid ≡ 500000000 = ap owner_room is in omega arith

uid_takes : (given : FormatGiven) (before read : Option ℕ) (bytes item place : ℕ) → given.uid ≡ before → IfSome read (λ _. bytes ≤ 477218594) → Takes given bytes (value_once before read item place >>> with_uid given)
uid_takes given (Some uid) read bytes item place is short = tt
uid_takes given None None bytes item place is short = tt
uid_takes given None (Some uid) bytes item place is short = let none : owner_room given.uid ≡ 500000000 = ap owner_room is in omega arith

-- a short value makes a short item
item_short : (read : Option ℕ) (value : List ℕ) (most name bytes : ℕ) → bytes ≤ name + length value → IsShort most read value → IfSome read (λ _. bytes ≤ name + most)
item_short None value most name bytes within short = tt
item_short (Some n) value most name bytes within short = omega arith

perm_item_takes : (given : FormatGiven) (item : Item) (value : Option (List ℕ)) → value_behind (codes "perm=") item.text ≡ value → Takes given (length item.text) (perm_item value given item)
perm_item_takes given item None is = tt
perm_item_takes given item (Some value) is =
    perm_takes given given.perm (permissions_in value) (length item.text) _ _ refl
    (item_short (permissions_in value) value 4 5 (length item.text) (behind (codes "perm=") item.text value is) (perm_short value))

gid_item_takes : (given : FormatGiven) (item : Item) (value : Option (List ℕ)) → value_behind (codes "gid=") item.text ≡ value → Takes given (length item.text) (gid_item value given item)
gid_item_takes given item None is = perm_item_takes given item _ refl
gid_item_takes given item (Some value) is =
    gid_takes given given.gid (number_in max_u32 value) (length item.text) _ _ refl
    (item_short (number_in max_u32 value) value 477218590 4 (length item.text) (behind (codes "gid=") item.text value is) (owner_short value))

uid_item_takes : (given : FormatGiven) (item : Item) (value : Option (List ℕ)) → value_behind (codes "uid=") item.text ≡ value → Takes given (length item.text) (uid_item value given item)
uid_item_takes given item None is = gid_item_takes given item _ refl
uid_item_takes given item (Some value) is =
    uid_takes given given.uid (number_in max_u32 value) (length item.text) _ _ refl
    (item_short (number_in max_u32 value) value 477218590 4 (length item.text) (behind (codes "uid=") item.text value is) (owner_short value))

item_takes : (given : FormatGiven) (item : Item) → Takes given (length item.text) (format_item given item)
item_takes given item = go (bytes_eq item.text (codes "aggr_cnv")) refl
  where
    go : (b : Bool) → bytes_eq item.text (codes "aggr_cnv") ≡ b
        → Takes given (length item.text) (cond b (flag_once given.aggr_cnv item.place >>> with_aggr_cnv given) (uid_item (value_behind (codes "uid=") item.text) given item))
    go true is =
        let same : item.text ≡ codes "aggr_cnv" = (bytes_eq-Decides item.text (codes "aggr_cnv")).0 is in
        let long : length item.text ≡ 8 = ap (length {A = ℕ}) same in
        subst (λ (n : ℕ). Takes given n (flag_once given.aggr_cnv item.place >>> with_aggr_cnv given)) (sym long) (flag_takes given given.aggr_cnv item.place refl)
    go false is = uid_item_takes given item _ refl

-- ---- all items

-- the bytes of texts, with a comma behind each
total : List (List ℕ) → ℕ
total [] = 0
total (text ∷ texts) = length text + 1 + total texts

abbrev TakesAll : FormatGiven → ℕ → Result FormatGiven OptError → Type 0
TakesAll given bytes last = IfOk last (λ given'. bytes + room given' ≤ room given)

-- an item, and those behind it
one_takes : (given : FormatGiven) (bytes more : ℕ) (step : FormatGiven → Result FormatGiven OptError) (after : Result FormatGiven OptError) → Takes given bytes after
    → ((next : FormatGiven) → TakesAll next more (step next)) → TakesAll given (bytes + 1 + more) (after >>> step)
one_takes given bytes more step (Err error) took rest = tt
one_takes given bytes more step (Ok next) took rest = go (step next) (rest next)
  where
    go : (last : Result FormatGiven OptError) → TakesAll next more last → TakesAll given (bytes + 1 + more) last
    go (Err error) takes = tt
    go (Ok after) takes = omega arith

items_take : (given : FormatGiven) (place : ℕ) (texts : List (List ℕ)) → TakesAll given (total texts) (each_item format_item given (placed_from place texts))
unfolding total
items_take given place [] = omega arith
items_take given place (text ∷ texts) =
    let item : Item = record { place = place; text = text } in
    let items = placed_from (place + length text + 1) texts in
    one_takes given (length text) (total texts) (λ next. each_item format_item next items) (format_item given item) (item_takes given item)
    (λ next. items_take next (place + length text + 1) texts)

onto_total : (x : ℕ) (texts : List (List ℕ)) → 0 < total texts → total (onto_first x texts) ≡ 1 + total texts
unfolding total
onto_total x [] some = absurd (omega arith)
onto_total x (text ∷ texts) some = omega arith

split_total : (text : List ℕ) → total (slice_split is_comma text) ≡ length text + 1
unfolding total
split_total [] = refl
split_total (x ∷ text) = go (is_comma x) (slice_split is_comma text) (split_total text)
  where
    go : (b : Bool) (texts : List (List ℕ)) → total texts ≡ length text + 1 → total (cond b ([] ∷ texts) (onto_first x texts)) ≡ length (x ∷ text) + 1
    go true texts rest = omega (arith, rest)
    go false texts rest = omega (arith, rest, onto_total x texts (omega (arith, rest)))

-- so a text whose places have no numbers of 32 bits asks for none
pub long_refused : (text : List ℕ) → 4294967295 < length text → accepted (format_options text) ≡ None
unfolding format_options
long_refused [] long = absurd (omega arith)
long_refused (b ∷ text) long = go (each_item format_item no_format_options (items_of (b ∷ text))) (items_take no_format_options 0 (slice_split is_comma (b ∷ text)))
  where
    go : (last : Result FormatGiven OptError) → TakesAll no_format_options (total (slice_split is_comma (b ∷ text))) last → accepted (last >>> format_given) ≡ None
    go (Err error) takes = refl
    go (Ok after) takes = absurd (omega (arith, split_total (b ∷ text)))
