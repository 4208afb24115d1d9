-- The option texts of a mount and of a format: the options that they mean, or the first item that is faulty.
-- ("filesystems/zonefs", mount options; "mkzonefs", features; the refusals are own)
use Rattle.std.specs.Prelude.{ℕ, ◌+◌, ◌-◌, ◌*◌, Bool, true, false, ◌&&◌, ◌==◌, nat_lt, nat_le, nat_eq, List, [], ◌∷◌, length, drop, if◌then◌else◌, Option, Some, None, unwrap_or, Result, Ok, Err, codes}
use Rattle.std.specs.List.{slice_split, starts_with, list_all, fold}
use Rattle.std.specs.Str.{bytes_eq}
use Rattle.zn_base.specs.Decimals.{number_in}
use Rattle.zn_model.specs.declared.answers.OptError.{OptError}
use Rattle.zn_model.specs.declared.answers.OptError.TheVariants.{UnknownOption, Repeated, BadValue}
use Rattle.zn_model.specs.declared.files.FormatOpts.{FormatOpts}
use Rattle.zn_model.specs.declared.files.MountOpts.{MountOpts}
use Rattle.zn_model.specs.declared.files.Policy.{Policy}
use Rattle.zn_model.specs.declared.files.Policy.TheVariants.{RemountRo, ZoneRo, ZoneOffline, Repair}

-- ---- items

-- An item of a text, and the byte place where it begins.
pub record Item : Type 0 where
  pub place : ℕ
  pub text : List ℕ

-- the byte `,`, which parts items
abbrev pub is_comma : ℕ → Bool
is_comma b = b == 44

-- each text as an item, the first at this place; one comma stands between two
abbrev pub placed_from : ℕ → List (List ℕ) → List Item
placed_from place [] = []
placed_from place (text ∷ texts) = record { place = place; text = text } ∷ placed_from (place + length text + 1) texts

-- the items that commas part; an empty text has none
abbrev pub items_of : List ℕ → List Item
items_of [] = []
items_of (b ∷ text) = placed_from 0 (slice_split is_comma (b ∷ text))

-- the value behind a name and `=`, and where it begins
abbrev pub value_behind : List ℕ → List ℕ → Option (List ℕ)
value_behind name text = if starts_with nat_eq text name then Some (drop (length name) text) else None

-- the value read, once; the item's place is told where it was given before, and the value's where it can't
-- be read
abbrev pub value_once : {A : Type 0} → Option A → Option A → ℕ → ℕ → Result (Option A) OptError
value_once (Some before) read item place = Err (Repeated item)
value_once None None item place = Err (BadValue place)
value_once None (Some value) item place = Ok (Some value)

-- a flag given once
abbrev pub flag_once : Bool → ℕ → Result Bool OptError
flag_once true item = Err (Repeated item)
flag_once false item = Ok true

-- one result behind another
infixl 10 ◌>>>◌
-- the second goes on from the first's value; an error of the first ends both
abbrev pub ◌>>>◌ : {A B : Type 0} → Result A OptError → (A → Result B OptError) → Result B OptError
(Ok x) >>> f = f x
(Err e) >>> f = Err e

-- the items one after another, up to the first that is faulty
abbrev pub each_item : {S : Type 0} → (S → Item → Result S OptError) → S → List Item → Result S OptError
each_item step state [] = Ok state
each_item step state (item ∷ items) = step state item >>> (λ after. each_item step after items)

-- ---- mount

-- each policy by its name; any other word is none
abbrev pub policy_named : List ℕ → Option Policy
policy_named word =
    if bytes_eq word (codes "remount-ro") then Some RemountRo
    else if bytes_eq word (codes "zone-ro") then Some ZoneRo
    else if bytes_eq word (codes "zone-offline") then Some ZoneOffline
    else if bytes_eq word (codes "repair") then Some Repair
    else None

-- the options given so far
pub record MountGiven : Type 0 where
  pub policy : Option Policy
  pub explicit_open : Bool

-- what was given so far, with this policy
abbrev pub with_policy : MountGiven → Option Policy → Result MountGiven OptError
with_policy given policy = Ok (record given { policy = policy })

-- what was given so far, with this flag for explicit opens
abbrev pub with_explicit_open : MountGiven → Bool → Result MountGiven OptError
with_explicit_open given explicit = Ok (record given { explicit_open = explicit })

-- the policy behind `errors=` (from byte 7 on), given once; an item that begins otherwise is unknown
abbrev pub errors_item : Option (List ℕ) → MountGiven → Item → Result MountGiven OptError
errors_item None given item = Err (UnknownOption item.place)
errors_item (Some value) given item = value_once given.policy (policy_named value) item.place (item.place + 7) >>> with_policy given

-- `explicit-open`, or `errors=` and a policy
abbrev pub mount_item : MountGiven → Item → Result MountGiven OptError
mount_item given item =
    if bytes_eq item.text (codes "explicit-open") then flag_once given.explicit_open item.place >>> with_explicit_open given
    else errors_item (value_behind (codes "errors=") item.text) given item

-- what is given before the first item: nothing
abbrev pub no_mount_options : MountGiven
no_mount_options = record { policy = None; explicit_open = false }

-- without `errors=` the policy is remount-ro
abbrev pub mount_given : MountGiven → Result MountOpts OptError
mount_given given = Ok (record { policy = unwrap_or given.policy RemountRo; explicit_open = given.explicit_open })

-- What an option text asks of a mount, or its first faulty item.
unfoldable pub mount_options : List ℕ → Result MountOpts OptError
mount_options text = each_item mount_item no_mount_options (items_of text) >>> mount_given

-- ---- format

-- the greatest user and group: the greatest number of 32 bits
abbrev pub max_u32 : ℕ
max_u32 = 4294967295

-- an ASCII digit from 0 to 7
abbrev pub is_octal : ℕ → Bool
is_octal b = nat_le 48 b && nat_le b 55

-- the number that octal digits stand for, the highest digit first
abbrev pub octal_worth : List ℕ → ℕ
octal_worth digits = fold (λ n b. n * 8 + (b - 48)) 0 digits

-- one to four octal digits, at most 777
abbrev pub permissions_in : List ℕ → Option ℕ
permissions_in word =
    if nat_lt 0 (length word) && nat_le (length word) 4 && list_all is_octal word && nat_le (octal_worth word) 0o777
    then Some (octal_worth word) else None

-- the options of a format given so far
pub record FormatGiven : Type 0 where
  pub aggr_cnv : Bool
  pub uid : Option ℕ
  pub gid : Option ℕ
  pub perm : Option ℕ

-- what was given so far, with this flag for aggregated conventional zones
abbrev pub with_aggr_cnv : FormatGiven → Bool → Result FormatGiven OptError
with_aggr_cnv given aggr = Ok (record given { aggr_cnv = aggr })

-- what was given so far, with this user
abbrev pub with_uid : FormatGiven → Option ℕ → Result FormatGiven OptError
with_uid given uid = Ok (record given { uid = uid })

-- what was given so far, with this group
abbrev pub with_gid : FormatGiven → Option ℕ → Result FormatGiven OptError
with_gid given gid = Ok (record given { gid = gid })

-- what was given so far, with these permissions
abbrev pub with_perm : FormatGiven → Option ℕ → Result FormatGiven OptError
with_perm given perm = Ok (record given { perm = perm })

-- the permissions behind `perm=` (from byte 5 on), given once; an item that begins otherwise is unknown
abbrev pub perm_item : Option (List ℕ) → FormatGiven → Item → Result FormatGiven OptError
perm_item None given item = Err (UnknownOption item.place)
perm_item (Some value) given item = value_once given.perm (permissions_in value) item.place (item.place + 5) >>> with_perm given

-- the group behind `gid=` (from byte 4 on), given once; any other item is read as one of permissions
abbrev pub gid_item : Option (List ℕ) → FormatGiven → Item → Result FormatGiven OptError
gid_item None given item = perm_item (value_behind (codes "perm=") item.text) given item
gid_item (Some value) given item = value_once given.gid (number_in max_u32 value) item.place (item.place + 4) >>> with_gid given

-- the user behind `uid=` (from byte 4 on), given once; any other item is read as one of a group
abbrev pub uid_item : Option (List ℕ) → FormatGiven → Item → Result FormatGiven OptError
uid_item None given item = gid_item (value_behind (codes "gid=") item.text) given item
uid_item (Some value) given item = value_once given.uid (number_in max_u32 value) item.place (item.place + 4) >>> with_uid given

-- `aggr_cnv`, or `uid=` or `gid=` and a number, or `perm=` and octal digits
abbrev pub format_item : FormatGiven → Item → Result FormatGiven OptError
format_item given item =
    if bytes_eq item.text (codes "aggr_cnv") then flag_once given.aggr_cnv item.place >>> with_aggr_cnv given
    else uid_item (value_behind (codes "uid=") item.text) given item

-- what is given before the first item: nothing
abbrev pub no_format_options : FormatGiven
no_format_options = record { aggr_cnv = false; uid = None; gid = None; perm = None }

-- without options the owner is 0, 0 and the permissions are 640
abbrev pub format_given : FormatGiven → Result FormatOpts OptError
format_given given = Ok (record { aggr_cnv = given.aggr_cnv; uid = unwrap_or given.uid 0; gid = unwrap_or given.gid 0; perm = unwrap_or given.perm 0o640 })

-- What an option text asks of a format, or its first faulty item.
unfoldable pub format_options : List ℕ → Result FormatOpts OptError
format_options text = each_item format_item no_format_options (items_of text) >>> format_given
