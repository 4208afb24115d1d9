-- Words that begin with a key: users and groups, and the items of a format.
use Rattle.std.proofs.Common.{◌≡◌, ℕ, ◌+◌, ◌≤◌, true, List, [], ◌∷◌, ◌++◌, map, length, drop, Option, Some, None, Ok, refl, ap, ◌∙◌, sym, subst, arith}
use Rattle.std.specs.Fmt.{decimal}
use Rattle.std.specs.List.{All}
use Rattle.std.specs.List.Sorted.{IsPermutation}
use Rattle.std.specs.Option.{option_map, option_or, option_and_then}
use Rattle.std.proofs.Math.Seq.{take-append_seam, drop-append_seam}
use Rattle.std.proofs.lemmas.Bool.{and_from, cond-true}
use Rattle.std.proofs.lemmas.List.{take-append-drop}
use Rattle.std.proofs.lemmas.List.Elements.{All-nil, All-cons, All-head, All-tail}
use Rattle.std.proofs.lemmas.List.Sorted.{IsPermutation-sym, All-permutation}
use Rattle.std.proofs.lemmas.Option.{same_Some, none-some, cond_some, option_and_then_some}
use Rattle.std.proofs.lemmas.Slice.Eq.{bytes_eq-Decides}
use Rattle.zn_base.specs.Decimals.{number_in}
use Rattle.zn_lines.specs.Lines.{FormatWords, FormatItem, Force, Label, Uuid, Features, plain_format, items_of}
use Rattle.zn_lines.specs.Grammar.{last_u32, after_key, text_after, user_after, uid_key, gid_key, force_word, label_key, uuid_key, features_key, text_item_of, item_of, with_item, item_then, items_on}
use Rattle.zn_lines.specs.LineTexts.{IsPath, item_word, IsItem}
use Rattle.zn_lines.proofs.Separated.{lacks, all_lack, lacks-append}
use Rattle.zn_lines.proofs.LineWords.{IsWordKind, chosen}
use Rattle.zn_lines.proofs.WordKinds.{numbers, paths}
use Rattle.zn_lines.proofs.FormatItems.{gathered, gathered-known, gathered-written}

-- ---- keys

after_key-written : (key text : List ℕ) → after_key key (key ++ text) ≡ Some text
unfolding after_key
after_key-written key text = cond-true _ _ _ ((bytes_eq-Decides _ _).1 (take-append_seam key text)) ∙ ap Some (drop-append_seam key text)

after_key-known : (key word text : List ℕ) → after_key key word ≡ Some text → word ≡ key ++ text
unfolding after_key
after_key-known key word text is =
    let taken = cond_some _ _ text is in
    sym (take-append-drop (length key) word) ∙ ap (λ k. k ++ drop (length key) word) ((bytes_eq-Decides _ _).0 taken.0) ∙ ap (λ t. key ++ t) taken.1

-- a kind of words behind a key
pub keyed : {A : Type 0} {read : List ℕ → Option A} {word_of : A → List ℕ} {Fits : A → Type 0} → IsWordKind read word_of Fits → (key : List ℕ) → lacks 32 key ≡ true → IsWordKind (λ word. option_and_then read (after_key key word)) (λ x. key ++ word_of x) Fits
keyed {read = read} {word_of = word_of} {Fits = Fits} kind key whole = record {
  written = λ x fits. ap (option_and_then read) (after_key-written key (word_of x)) ∙ kind.written x fits;
  known = λ word x is. option_and_then_some read (after_key key word) x is (λ text here taken.
      let known = kind.known text x taken in (after_key-known key word text here ∙ ap (λ t. key ++ t) known.0, known.1));
  whole = λ x fits. lacks-append 32 key (word_of x) whole (kind.whole x fits);
}

-- ---- users

pub u32s : IsWordKind (number_in last_u32) decimal (λ n. n ≤ last_u32)
u32s = numbers last_u32 (omega arith)

pub uids : IsWordKind (user_after uid_key) (λ n. uid_key ++ decimal n) (λ n. n ≤ last_u32)
uids = keyed u32s uid_key refl

pub gids : IsWordKind (user_after gid_key) (λ n. gid_key ++ decimal n) (λ n. n ≤ last_u32)
gids = keyed u32s gid_key refl

-- a group is no user
pub gid-no_uid : (n : ℕ) → user_after uid_key (gid_key ++ decimal n) ≡ None
unfolding after_key
gid-no_uid n = refl

-- ---- items

labels : IsWordKind (text_after label_key) (λ text. label_key ++ text) IsPath
labels = keyed paths label_key refl

uuids : IsWordKind (text_after uuid_key) (λ text. uuid_key ++ text) IsPath
uuids = keyed paths uuid_key refl

features : IsWordKind (text_after features_key) (λ text. features_key ++ text) IsPath
features = keyed paths features_key refl

uuid-no_label : (text : List ℕ) → text_after label_key (uuid_key ++ text) ≡ None
unfolding after_key
uuid-no_label text = refl

features-no_label : (text : List ℕ) → text_after label_key (features_key ++ text) ≡ None
unfolding after_key
features-no_label text = refl

features-no_uuid : (text : List ℕ) → text_after uuid_key (features_key ++ text) ≡ None
unfolding after_key
features-no_uuid text = refl

-- the first of three
first_of_three : Option (List ℕ) → Option (List ℕ) → Option (List ℕ) → Option FormatItem
first_of_three label uuid feature = option_or (option_map Label label) (option_or (option_map Uuid uuid) (option_map Features feature))

text_item-is : (word : List ℕ) → text_item_of word ≡ first_of_three (text_after label_key word) (text_after uuid_key word) (text_after features_key word)
unfolding text_item_of first_of_three
text_item-is word = refl

item-written : (item : FormatItem) → IsItem item → item_of (item_word item) ≡ Some item
unfolding item_of first_of_three
item-written Force fits = refl
item-written (Label text) fits =
    let word = label_key ++ text in
    text_item-is word ∙ ap (λ o. first_of_three o (text_after uuid_key word) (text_after features_key word)) (labels.written text fits)
item-written (Uuid text) fits =
    let word = uuid_key ++ text in
    text_item-is word ∙ ap (λ o. first_of_three o (text_after uuid_key word) (text_after features_key word)) (uuid-no_label text)
    ∙ ap (λ o. first_of_three None o (text_after features_key word)) (uuids.written text fits)
item-written (Features text) fits =
    let word = features_key ++ text in
    text_item-is word ∙ ap (λ o. first_of_three o (text_after uuid_key word) (text_after features_key word)) (features-no_label text)
    ∙ ap (λ o. first_of_three None o (text_after features_key word)) (features-no_uuid text)
    ∙ ap (first_of_three None None) (features.written text fits)

-- whichever of three there is
three-known : (P : FormatItem → Type 0) (label uuid feature : Option (List ℕ)) (item : FormatItem) → first_of_three label uuid feature ≡ Some item
    → ((t : List ℕ) → label ≡ Some t → P (Label t)) → ((t : List ℕ) → uuid ≡ Some t → P (Uuid t)) → ((t : List ℕ) → feature ≡ Some t → P (Features t)) → P item
unfolding first_of_three
three-known P (Some t) uuid feature item is first second third = subst P (same_Some (Label t) item is) (first t refl)
three-known P None (Some t) feature item is first second third = subst P (same_Some (Uuid t) item is) (second t refl)
three-known P None None (Some t) item is first second third = subst P (same_Some (Features t) item is) (third t refl)
three-known P None None None item is first second third = absurd (none-some item is)

-- what is read as an item is its word
abbrev Items : List ℕ → FormatItem → Type 0
Items word item = (word ≡ item_word item) × IsItem item

item-known : (word : List ℕ) (item : FormatItem) → item_of word ≡ Some item → Items word item
unfolding item_of
item-known word item is =
    chosen (Items word) word force_word Force item (text_item_of word) is (λ e. (e, tt)) (λ is.
    three-known (Items word) _ _ _ item (sym (text_item-is word) ∙ is) (λ t. labels.known word t) (λ t. uuids.known word t) (λ t. features.known word t))

item-lacks : (item : FormatItem) → IsItem item → lacks 32 (item_word item) ≡ true
item-lacks Force fits = refl
item-lacks (Label text) fits = labels.whole text fits
item-lacks (Uuid text) fits = uuids.whole text fits
item-lacks (Features text) fits = features.whole text fits

pub items : IsWordKind item_of item_word IsItem
items = record { written = item-written; known = item-known; whole = item-lacks }

-- ---- items, one after another

pub items-lack : (list : List FormatItem) → All IsItem list → all_lack 32 (map item_word list) ≡ true
items-lack [] all = refl
items-lack (item ∷ list) all = and_from _ _ (item-lacks item (All-head IsItem item list all)) (items-lack list (All-tail IsItem item list all))

-- the words of an item and others, by how those of the others are read
item-read : (item : FormatItem) (list : List FormatItem) (found asked : FormatWords) (column : ℕ) → IsItem item
    → ((more : FormatWords) (column : ℕ) → gathered more list ≡ Some asked → items_on more column (map item_word list) ≡ Ok asked)
    → (o : Option FormatWords) → with_item found item ≡ o → option_and_then (λ more. gathered more list) o ≡ Some asked → items_on found column (map item_word (item ∷ list)) ≡ Ok asked
unfolding items_on
item-read item list found asked column fits further None here is = absurd (none-some asked is)
item-read item list found asked column fits further (Some more) here is =
    let column' = column + length (item_word item) + 1 in
    ap (λ o. item_then (option_and_then (with_item found) o) column (λ more. items_on more column' (map item_word list))) (item-written item fits)
    ∙ ap (λ o. item_then o column (λ more. items_on more column' (map item_word list))) here
    ∙ further more column' is

-- words of items are read as what the items are put together to
gathered-read : (list : List FormatItem) (found asked : FormatWords) (column : ℕ) → All IsItem list → gathered found list ≡ Some asked → items_on found column (map item_word list) ≡ Ok asked
unfolding items_on
gathered-read [] found asked column all is = ap Ok (same_Some found asked is)
gathered-read (item ∷ list) found asked column all is =
    item-read item list found asked column (All-head IsItem item list all) (λ more column is. gathered-read list more asked column (All-tail IsItem item list all) is) (with_item found item) refl is

-- Words that are items, put together to what was asked.
record AreItems (words : List (List ℕ)) (found asked : FormatWords) : Type 0 where
  list : List FormatItem
  spelled : words ≡ map item_word list
  fit : All IsItem list
  is : gathered found list ≡ Some asked

-- what stands behind a word, as it is read
abbrev Further : List (List ℕ) → ℕ → FormatWords → Type 0
Further words column asked = (more : FormatWords) → items_on more column words ≡ Ok asked → AreItems words more asked

-- a word that is an item, and the words behind it
item-gathered : (word : List ℕ) (words : List (List ℕ)) (found asked : FormatWords) (column column' : ℕ) → Further words column' asked → (item : FormatItem) → Items word item
    → (o : Option FormatWords) → with_item found item ≡ o → item_then o column (λ more. items_on more column' words) ≡ Ok asked → AreItems (word ∷ words) found asked
item-gathered word words found asked column column' further item known None here is = absurd cc
item-gathered word words found asked column column' further item known (Some more) here is =
    let rest = further more is in
    record {
      list = item ∷ rest.list;
      spelled = cc (known.0, rest.spelled);
      fit = All-cons IsItem item rest.list known.1 rest.fit;
      is = ap (option_and_then (λ more. gathered more rest.list)) here ∙ rest.is;
    }

-- a word, if it is an item, and the words behind it
word-gathered : (word : List ℕ) (words : List (List ℕ)) (found asked : FormatWords) (column column' : ℕ) → Further words column' asked
    → (o : Option FormatItem) → item_of word ≡ o → item_then (option_and_then (with_item found) o) column (λ more. items_on more column' words) ≡ Ok asked → AreItems (word ∷ words) found asked
word-gathered word words found asked column column' further None here is = absurd cc
word-gathered word words found asked column column' further (Some item) here is =
    item-gathered word words found asked column column' further item (item-known word item here) (with_item found item) refl is

-- what is read as items is their words
read-gathered : (words : List (List ℕ)) (found asked : FormatWords) (column : ℕ) → items_on found column words ≡ Ok asked → AreItems words found asked
unfolding items_on
read-gathered [] found asked column is = record { list = []; spelled = refl; fit = All-nil IsItem; is = cc }
read-gathered (word ∷ words) found asked column is =
    let column' = column + length word + 1 in
    word-gathered word words found asked column column' (λ more is. read-gathered words more asked column' is) (item_of word) refl is

-- ---- all items of a format

-- the items in any order are read as the format
pub format-read : (asked : FormatWords) (list : List FormatItem) (column : ℕ) → IsPermutation (items_of asked) list → All IsItem list → items_on plain_format column (map item_word list) ≡ Ok asked
format-read asked list column order fit = gathered-read list plain_format asked column fit (gathered-written list plain_format asked (IsPermutation-sym _ _ order))

-- What is read as a format: its items, in some order.
pub record IsFormat (words : List (List ℕ)) (asked : FormatWords) : Type 0 where
  pub list : List FormatItem
  pub order : IsPermutation (items_of asked) list
  pub spelled : words ≡ map item_word list
  pub fit : All IsItem (items_of asked)

pub format-known : (words : List (List ℕ)) (asked : FormatWords) (column : ℕ) → items_on plain_format column words ≡ Ok asked → IsFormat words asked
format-known words asked column is =
    let all = read-gathered words plain_format asked column is in
    let order = gathered-known all.list plain_format asked all.is in
    record { list = all.list; order = IsPermutation-sym _ _ order; spelled = all.spelled; fit = All-permutation IsItem _ _ order all.fit }
