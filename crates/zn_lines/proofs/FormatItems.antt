-- The items of a format, in any order: put together one after another, they are what the format is asked for.
use Rattle.std.proofs.Common.{◌≡◌, ℕ, ◌+◌, ◌≤◌, Bool, true, false, cond, eqb, List, [], ◌∷◌, ◌++◌, Option, Some, None, refl, ap, sym, ◌∙◌, subst, arith, append-nil}
use Rattle.std.specs.List.{All, sum_by}
use Rattle.std.specs.List.Sorted.{IsPermutation}
use Rattle.std.specs.Option.{option_map, option_to_list, option_and_then, is_some}
use Rattle.std.proofs.lemmas.Bool.Decides.{nat_tests}
use Rattle.std.proofs.lemmas.List.Elements.{All-nil, All-cons, All-head, All-tail, All-append}
use Rattle.std.proofs.lemmas.List.Sorted.{IsPermutation-refl, IsPermutation-sym, IsPermutation-trans, IsPermutation-to_front, IsPermutation-middle, IsPermutation-append_left, All-permutation, sum_by-IsPermutation}
use Rattle.std.proofs.lemmas.List.Sums.{sum_by-append, sum_by-cons}
use Rattle.std.proofs.lemmas.Option.{same_Some, none-some}
use Rattle.zn_lines.specs.Lines.{FormatWords, FormatItem, Force, Label, Uuid, Features, items_of}
use Rattle.zn_lines.specs.Grammar.{with_item}

-- items, one after another, each of a kind that is not there yet
abbrev pub gathered : FormatWords → List FormatItem → Option FormatWords
gathered found [] = Some found
gathered found (item ∷ items) = option_and_then (λ more. gathered more items) (with_item found item)

-- ---- the items of words

abbrev force_items : Bool → List FormatItem
force_items force = cond force (Force ∷ []) []

abbrev text_items : (List ℕ → FormatItem) → Option (List ℕ) → List FormatItem
text_items item text = option_to_list (option_map item text)

abbrev items_by : Bool → Option (List ℕ) → Option (List ℕ) → Option (List ℕ) → List FormatItem
items_by force label uuid features = force_items force ++ text_items Label label ++ text_items Uuid uuid ++ text_items Features features

-- an item that comes last
at_end : (item : FormatItem) (front : List FormatItem) → IsPermutation (item ∷ (front ++ [])) (front ++ item ∷ [])
at_end item front =
    let P : List FormatItem → Type 0 = λ xs. IsPermutation (item ∷ xs) (front ++ item ∷ []) in
    subst P (sym (append-nil front)) (IsPermutation-sym _ _ (IsPermutation-to_front front item))

-- with one item more there is that one more, but for the order
with_item-known : (found : FormatWords) (item : FormatItem) (more : FormatWords) → with_item found item ≡ Some more → IsPermutation (item ∷ items_of found) (items_of more)
unfolding with_item
with_item-known found Force more is = go found.force is
  where
    go : (force : Bool) → cond force None (Some (record found { force = true })) ≡ Some more → IsPermutation (Force ∷ items_by force found.label found.uuid found.features) (items_of more)
    go true is = absurd (none-some more is)
    go false is =
        let P : FormatWords → Type 0 = λ w. IsPermutation (Force ∷ items_by false found.label found.uuid found.features) (items_of w) in
        subst P (same_Some _ more is) (IsPermutation-refl _)
with_item-known found (Label text) more is = go found.label is
  where
    go : (label : Option (List ℕ)) → cond (is_some label) None (Some (record found { label = Some text })) ≡ Some more → IsPermutation (Label text ∷ items_by found.force label found.uuid found.features) (items_of more)
    go (Some t) is = absurd (none-some more is)
    go None is =
        let P : FormatWords → Type 0 = λ w. IsPermutation (Label text ∷ items_by found.force None found.uuid found.features) (items_of w) in
        let here = at_end (Label text) (force_items found.force) in
        subst P (same_Some _ more is) (IsPermutation-append_left (text_items Features found.features) _ _ (IsPermutation-append_left (text_items Uuid found.uuid) _ _ here))
with_item-known found (Uuid text) more is = go found.uuid is
  where
    go : (uuid : Option (List ℕ)) → cond (is_some uuid) None (Some (record found { uuid = Some text })) ≡ Some more → IsPermutation (Uuid text ∷ items_by found.force found.label uuid found.features) (items_of more)
    go (Some t) is = absurd (none-some more is)
    go None is =
        let P : FormatWords → Type 0 = λ w. IsPermutation (Uuid text ∷ items_by found.force found.label None found.features) (items_of w) in
        let here = at_end (Uuid text) (force_items found.force ++ text_items Label found.label) in
        subst P (same_Some _ more is) (IsPermutation-append_left (text_items Features found.features) _ _ here)
with_item-known found (Features text) more is = go found.features is
  where
    go : (features : Option (List ℕ)) → cond (is_some features) None (Some (record found { features = Some text })) ≡ Some more → IsPermutation (Features text ∷ items_by found.force found.label found.uuid features) (items_of more)
    go (Some t) is = absurd (none-some more is)
    go None is =
        let P : FormatWords → Type 0 = λ w. IsPermutation (Features text ∷ items_by found.force found.label found.uuid None) (items_of w) in
        subst P (same_Some _ more is) (at_end (Features text) (force_items found.force ++ text_items Label found.label ++ text_items Uuid found.uuid))

-- an item that moves from those that are left to those that were found
moves : (found : FormatWords) (item : FormatItem) (more : FormatWords) (items : List FormatItem) → with_item found item ≡ Some more → IsPermutation (items_of found ++ item ∷ items) (items_of more ++ items)
moves found item more items is =
    IsPermutation-trans _ _ _ (IsPermutation-middle (items_of found) item items)
    (IsPermutation-append_left items (item ∷ items_of found) (items_of more) (with_item-known found item more is))

-- what an item and others were put together to, by what the others are put together to
moved-known : (found : FormatWords) (item : FormatItem) (items : List FormatItem) (asked : FormatWords)
    → ((more others : FormatWords) → gathered more items ≡ Some others → IsPermutation (items_of more ++ items) (items_of others))
    → (o : Option FormatWords) → with_item found item ≡ o → option_and_then (λ more. gathered more items) o ≡ Some asked → IsPermutation (items_of found ++ item ∷ items) (items_of asked)
moved-known found item items asked further None here is = absurd (none-some asked is)
moved-known found item items asked further (Some more) here is = IsPermutation-trans _ _ _ (moves found item more items here) (further more asked is)

-- what items were put together to has just these, but for the order
pub gathered-known : (items : List FormatItem) (found asked : FormatWords) → gathered found items ≡ Some asked → IsPermutation (items_of found ++ items) (items_of asked)
gathered-known [] found asked is =
    let P : FormatWords → Type 0 = λ w. IsPermutation (items_of found ++ []) (items_of w) in
    let Q : List FormatItem → Type 0 = λ xs. IsPermutation xs (items_of found) in
    subst P (same_Some found asked is) (subst Q (sym (append-nil (items_of found))) (IsPermutation-refl _))
gathered-known (item ∷ items) found asked is = moved-known found item items asked (gathered-known items) (with_item found item) refl is

-- ---- how many items of a kind there are

kind : FormatItem → ℕ
kind Force = 0
kind (Label text) = 1
kind (Uuid text) = 2
kind (Features text) = 3

-- 1 for an item of the kind
one : ℕ → FormatItem → ℕ
unfolding kind
one k item = cond (eqb (kind item) k) 1 0

count : ℕ → List FormatItem → ℕ
unfolding one
count k items = sum_by (one k) items

one-own : (item : FormatItem) → one (kind item) item ≡ 1
unfolding kind one
one-own Force = refl
one-own (Label text) = refl
one-own (Uuid text) = refl
one-own (Features text) = refl

count-cons : (k : ℕ) (item : FormatItem) (items : List FormatItem) → count k (item ∷ items) ≡ one k item + count k items
unfolding count
count-cons k item items = sum_by-cons (one k) item items

count-append : (k : ℕ) (xs ys : List FormatItem) → count k (xs ++ ys) ≡ count k xs + count k ys
unfolding count
count-append k xs ys = sum_by-append (one k) xs ys

count-moved : (k : ℕ) (xs ys : List FormatItem) → IsPermutation xs ys → count k ys ≡ count k xs
unfolding count
count-moved k xs ys moved = sum_by-IsPermutation (one k) xs ys moved

count-items : (k : ℕ) (force : Bool) (label uuid features : Option (List ℕ)) → count k (items_by force label uuid features) ≡ count k (force_items force) + count k (text_items Label label) + count k (text_items Uuid uuid) + count k (text_items Features features)
count-items k force label uuid features =
    count-append k _ (text_items Features features)
    ∙ ap (λ n. n + count k (text_items Features features)) (count-append k _ (text_items Uuid uuid)
    ∙ ap (λ n. n + count k (text_items Uuid uuid)) (count-append k (force_items force) (text_items Label label)))

-- 1 where the kinds are the same
same_kind : ℕ → ℕ → ℕ
same_kind n k = cond (eqb n k) 1 0

force-count : (k : ℕ) → count k (force_items true) ≡ same_kind 0 k
unfolding kind one count same_kind
force-count k = omega arith

no-force-count : (k : ℕ) → count k (force_items false) ≡ 0
unfolding count
no-force-count k = refl

label-count : (k : ℕ) (t : List ℕ) → count k (text_items Label (Some t)) ≡ same_kind 1 k
unfolding kind one count same_kind
label-count k t = omega arith

uuid-count : (k : ℕ) (t : List ℕ) → count k (text_items Uuid (Some t)) ≡ same_kind 2 k
unfolding kind one count same_kind
uuid-count k t = omega arith

features-count : (k : ℕ) (t : List ℕ) → count k (text_items Features (Some t)) ≡ same_kind 3 k
unfolding kind one count same_kind
features-count k t = omega arith

no-text-count : (k : ℕ) (item : List ℕ → FormatItem) → count k (text_items item None) ≡ 0
unfolding count
no-text-count k item = refl

force-le : (k : ℕ) (force : Bool) → count k (force_items force) ≤ same_kind 0 k
force-le k true = omega (arith, force-count k)
force-le k false = omega (arith, no-force-count k)

text-le : (k n : ℕ) (item : List ℕ → FormatItem) → ((t : List ℕ) → count k (text_items item (Some t)) ≡ same_kind n k) → (text : Option (List ℕ)) → count k (text_items item text) ≤ same_kind n k
text-le k n item counts None = omega (arith, no-text-count k item)
text-le k n item counts (Some t) = omega (arith, counts t)

kinds-differ : (k : ℕ) → same_kind 0 k + same_kind 1 k + same_kind 2 k + same_kind 3 k ≤ 1
unfolding same_kind
kinds-differ k = grind (arith, nat_tests)

own-kind : (k : ℕ) → same_kind k k ≡ 1
unfolding same_kind
own-kind k = grind (arith, nat_tests)

-- words have at most one item of each kind
count-le : (k : ℕ) (words : FormatWords) → count k (items_of words) ≤ 1
count-le k words =
    let all = count-items k words.force words.label words.uuid words.features in
    let force = force-le k words.force in
    let label = text-le k 1 Label (label-count k) words.label in
    let uuid = text-le k 2 Uuid (uuid-count k) words.uuid in
    let features = text-le k 3 Features (features-count k) words.features in
    omega (arith, all, force, label, uuid, features, kinds-differ k)

force-none : (found : FormatWords) (force : Bool) → cond force None (Some (record found { force = true })) ≡ None → 1 ≤ count 0 (items_by force found.label found.uuid found.features)
force-none found true is = omega (arith, count-items 0 true found.label found.uuid found.features, force-count 0, own-kind 0)
force-none found false is = absurd (none-some _ (sym is))

label-none : (found : FormatWords) (text : List ℕ) (label : Option (List ℕ)) → cond (is_some label) None (Some (record found { label = Some text })) ≡ None → 1 ≤ count 1 (items_by found.force label found.uuid found.features)
label-none found text (Some t) is = omega (arith, count-items 1 found.force (Some t) found.uuid found.features, label-count 1 t, own-kind 1)
label-none found text None is = absurd (none-some _ (sym is))

uuid-none : (found : FormatWords) (text : List ℕ) (uuid : Option (List ℕ)) → cond (is_some uuid) None (Some (record found { uuid = Some text })) ≡ None → 1 ≤ count 2 (items_by found.force found.label uuid found.features)
uuid-none found text (Some t) is = omega (arith, count-items 2 found.force found.label (Some t) found.features, uuid-count 2 t, own-kind 2)
uuid-none found text None is = absurd (none-some _ (sym is))

features-none : (found : FormatWords) (text : List ℕ) (features : Option (List ℕ)) → cond (is_some features) None (Some (record found { features = Some text })) ≡ None → 1 ≤ count 3 (items_by found.force found.label found.uuid features)
features-none found text (Some t) is = omega (arith, count-items 3 found.force found.label found.uuid (Some t), features-count 3 t, own-kind 3)
features-none found text None is = absurd (none-some _ (sym is))

-- an item is refused only where there is one of its kind
with_item-none : (found : FormatWords) (item : FormatItem) → with_item found item ≡ None → 1 ≤ count (kind item) (items_of found)
unfolding with_item kind
with_item-none found Force is = force-none found found.force is
with_item-none found (Label text) is = label-none found text found.label is
with_item-none found (Uuid text) is = uuid-none found text found.uuid is
with_item-none found (Features text) is = features-none found text found.features is

-- Items that go together, and to what.
record GoTogether (found : FormatWords) (items : List FormatItem) : Type 0 where
  asked : FormatWords
  is : gathered found items ≡ Some asked

-- none of these items repeats
abbrev IsOnce : FormatWords → List FormatItem → Type 0
IsOnce found items = (k : ℕ) → count k (items_of found ++ items) ≤ 1

one-gathers : (found : FormatWords) (item : FormatItem) (items : List FormatItem) → IsOnce found (item ∷ items) → ((more : FormatWords) → IsOnce more items → GoTogether more items)
    → (o : Option FormatWords) → with_item found item ≡ o → GoTogether found (item ∷ items)
one-gathers found item items once further None here =
    let k = kind item in
    absurd (omega (arith, once k, with_item-none found item here, count-append k (items_of found) (item ∷ items), count-cons k item items, one-own item))
one-gathers found item items once further (Some more) here =
    let rest = further more (λ k. omega (arith, once k, count-moved k _ _ (moves found item more items here))) in
    record { asked = rest.asked; is = ap (option_and_then (λ m. gathered m items)) here ∙ rest.is }

-- items of which none repeats go together
gathers : (items : List FormatItem) (found : FormatWords) → IsOnce found items → GoTogether found items
gathers [] found once = record { asked = found; is = refl }
gathers (item ∷ items) found once = one-gathers found item items once (gathers items) (with_item found item) refl

-- ---- words with the same items

-- the item is one of the words
abbrev IsOf : FormatWords → FormatItem → Type 0
IsOf words Force = words.force ≡ true
IsOf words (Label text) = words.label ≡ Some text
IsOf words (Uuid text) = words.uuid ≡ Some text
IsOf words (Features text) = words.features ≡ Some text

-- What holds of each item of words.
record OfEach (words : FormatWords) (P : FormatItem → Type 0) : Type 0 where
  force : words.force ≡ true → P Force
  label : (text : List ℕ) → words.label ≡ Some text → P (Label text)
  uuid : (text : List ℕ) → words.uuid ≡ Some text → P (Uuid text)
  features : (text : List ℕ) → words.features ≡ Some text → P (Features text)

All-force : (P : FormatItem → Type 0) (force : Bool) → (force ≡ true → P Force) → All P (force_items force)
All-force P true all = All-cons P Force [] (all refl) (All-nil P)
All-force P false all = All-nil P

All-text : (P : FormatItem → Type 0) (item : List ℕ → FormatItem) (text : Option (List ℕ)) → ((t : List ℕ) → text ≡ Some t → P (item t)) → All P (text_items item text)
All-text P item (Some t) all = All-cons P (item t) [] (all t refl) (All-nil P)
All-text P item None all = All-nil P

each-all : (words : FormatWords) (P : FormatItem → Type 0) → OfEach words P → All P (items_of words)
each-all words P each =
    All-append P _ _ (All-append P _ _ (All-append P _ _ (All-force P words.force each.force) (All-text P Label words.label each.label)) (All-text P Uuid words.uuid each.uuid))
    (All-text P Features words.features each.features)

all-front : (P : FormatItem → Type 0) (xs ys : List FormatItem) → All P (xs ++ ys) → All P xs
all-front P [] ys all = All-nil P
all-front P (x ∷ xs) ys all = All-cons P x xs (All-head P x (xs ++ ys) all) (all-front P xs ys (All-tail P x (xs ++ ys) all))

all-back : (P : FormatItem → Type 0) (xs ys : List FormatItem) → All P (xs ++ ys) → All P ys
all-back P [] ys all = all
all-back P (x ∷ xs) ys all = all-back P xs ys (All-tail P x (xs ++ ys) all)

force-of : (P : FormatItem → Type 0) (force : Bool) → All P (force_items force) → force ≡ true → P Force
force-of P true all is = All-head P Force [] all
force-of P false all is = absurd cc

text-of : (P : FormatItem → Type 0) (item : List ℕ → FormatItem) (text : Option (List ℕ)) → All P (text_items item text) → (t : List ℕ) → text ≡ Some t → P (item t)
text-of P item None all t is = absurd (none-some t is)
text-of P item (Some u) all t is = let Q : List ℕ → Type 0 = λ t. P (item t) in subst Q (same_Some u t is) (All-head P (item u) [] all)

all-each : (words : FormatWords) (P : FormatItem → Type 0) → All P (items_of words) → OfEach words P
all-each words P all =
    let third = all-front P _ (text_items Features words.features) all in
    let second = all-front P _ (text_items Uuid words.uuid) third in
    record {
      force = force-of P words.force (all-front P _ (text_items Label words.label) second);
      label = text-of P Label words.label (all-back P (force_items words.force) _ second);
      uuid = text-of P Uuid words.uuid (all-back P (force_items words.force ++ text_items Label words.label) _ third);
      features = text-of P Features words.features (all-back P (force_items words.force ++ text_items Label words.label ++ text_items Uuid words.uuid) _ all);
    }

-- the items of one are items of the other
within : (words others : FormatWords) → IsPermutation (items_of words) (items_of others) → OfEach others (IsOf words)
within words others same =
    let own = each-all words (IsOf words) (record { force = λ e. e; label = λ t e. e; uuid = λ t e. e; features = λ t e. e }) in
    all-each others (IsOf words) (All-permutation (IsOf words) _ _ same own)

same_bool : (a b : Bool) → (a ≡ true → b ≡ true) → (b ≡ true → a ≡ true) → a ≡ b
same_bool true b there back = sym (there refl)
same_bool false true there back = back refl
same_bool false false there back = refl

same_option : (a b : Option (List ℕ)) → ((t : List ℕ) → a ≡ Some t → b ≡ Some t) → ((t : List ℕ) → b ≡ Some t → a ≡ Some t) → a ≡ b
same_option (Some t) b there back = sym (there t refl)
same_option None (Some t) there back = back t refl
same_option None None there back = refl

-- words are known by their items
same_words : (words others : FormatWords) → IsPermutation (items_of words) (items_of others) → words ≡ others
same_words words others same =
    let there = within words others same in
    let back = within others words (IsPermutation-sym _ _ same) in
    let make : Bool → Option (List ℕ) → Option (List ℕ) → Option (List ℕ) → FormatWords = λ force label uuid features. record { force = force; label = label; uuid = uuid; features = features } in
    let force = same_bool words.force others.force back.force there.force in
    let label = same_option words.label others.label back.label there.label in
    let uuid = same_option words.uuid others.uuid back.uuid there.uuid in
    let features = same_option words.features others.features back.features there.features in
    let all : make words.force words.label words.uuid words.features ≡ make others.force others.label others.uuid others.features =
    ap (λ f. make f words.label words.uuid words.features) force ∙ ap (λ l. make others.force l words.uuid words.features) label
    ∙ ap (λ u. make others.force others.label u words.features) uuid ∙ ap (make others.force others.label others.uuid) features in
    all

-- the items of words, in any order, are put together to these words
pub gathered-written : (items : List FormatItem) (found asked : FormatWords) → IsPermutation (items_of found ++ items) (items_of asked) → gathered found items ≡ Some asked
gathered-written items found asked order =
    let all = gathers items found (λ k. omega (arith, count-moved k _ _ order, count-le k asked)) in
    let same = gathered-known items found all.asked all.is in
    all.is ∙ ap Some (same_words all.asked asked (IsPermutation-trans _ _ _ (IsPermutation-sym _ _ same) order))
