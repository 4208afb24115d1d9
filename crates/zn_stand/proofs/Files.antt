-- What calls make of a file.
use Rattle.std.proofs.Common.{◌≡◌, ◌⊎◌, inl, inr, ℕ, ◌+◌, ◌-◌, ◌<◌, ◌≤◌, ◌||◌, List, length, get_or, Option, Some, None, refl, sym, subst, arith, max}
use Rattle.std.proofs.lemmas.List.{places, ext_get_or}
use Rattle.std.proofs.lemmas.Bool.Decides.{nat_tests}
use Rattle.std.proofs.lemmas.Option.{same_Some}
use Rattle.std.specs.Prelude.{IsTrue, MatchOption}
use Rattle.zn_truth.specs.Orders.{replaced}
use Rattle.zn_stand.specs.File.{File, created, at_rest, written, resized, synced, is_synced, value_left, synced_bytes, IsByte, IsImage, IsSoundFile, AreBytes}

-- nothing but its bytes is left of a file at rest
pub rest_only : (bytes image : List ℕ) → IsImage (at_rest bytes) image → image ≡ bytes
rest_only bytes image is =
    let same : length image ≡ length bytes = grind (arith, nat_tests, is.len) in
    ext_get_or 0 image bytes same (λ i h. grind (arith, nat_tests, is.each i h))

-- ---- what they keep to

pub created_sound : IsSoundFile created
created_sound = record {
  bytes = λ i. omega arith;
  image = record { len = refl; each = λ i h. absurd (omega arith) };
  at_sync = λ i. omega arith;
  synced_image = λ bytes is. absurd (cc);
  known = λ n i is h. grind (arith, nat_tests);
}

rest_image : (bytes : List ℕ) → AreBytes bytes → IsImage (at_rest bytes) bytes
rest_image bytes small = record {
  len = grind (arith, nat_tests);
  each = λ i h. grind (arith, nat_tests);
}

pub rest_sound : (bytes : List ℕ) → AreBytes bytes → IsSoundFile (at_rest bytes)
rest_sound bytes small = record {
  bytes = small;
  image = rest_image bytes small;
  at_sync = small;
  synced_image = λ others is. subst (IsImage (at_rest bytes)) (same_Some bytes others is) (rest_image bytes small);
  known = λ n i is h. grind (arith, nat_tests);
}

pub synced_sound : (f : File) → IsSoundFile f → IsSoundFile (synced f)
synced_sound f sound = rest_sound f.bytes sound.bytes

-- a byte that a file is left with is a byte
byte_left : (f : File) (i byte : ℕ) → AreBytes (synced_bytes f) → IsByte f i byte → byte < 256
byte_left f i byte small is = left (value_left f i) refl is
  where
    left : (o : Option ℕ) → value_left f i ≡ o → MatchOption o (byte < 256) (λ value. byte ≡ value) → byte < 256
    left None e is = is
    left (Some value) e is = grind (arith, nat_tests, small i)

-- a byte that a write touched may be any
pub written_byte : (f : File) (at : ℕ) (new : List ℕ) (i byte : ℕ) → byte < 256 → at ≤ i → i < at + length new → IsByte (written f at new) i byte
written_byte f at new i byte small le lt = grind (arith, nat_tests)

-- any other is as it was
pub unwritten_byte : (f : File) (at : ℕ) (new : List ℕ) (i byte : ℕ) → (i < at) ⊎ (at + length new ≤ i) → IsByte f i byte → IsByte (written f at new) i byte
unwritten_byte f at new i byte apart is = subst (λ o. MatchOption o (byte < 256) (λ value. byte ≡ value)) same is
  where
    same : value_left f i ≡ value_left (written f at new) i
    same = grind (arith, nat_tests)

among_or_apart : (at end i : ℕ) → ((at ≤ i) × (i < end)) ⊎ ((i < at) ⊎ (end ≤ i))
among_or_apart at end i = grind (arith, nat_tests)

-- ---- a write

length_written : (f : File) (at : ℕ) (new : List ℕ) → at ≤ length f.bytes → length (replaced f.bytes at new) ≡ max (length f.bytes) (at + length new)
length_written f at new le = grind (arith, places)

byte_apart : (f : File) (at : ℕ) (new : List ℕ) (i : ℕ) → at ≤ length f.bytes → (i < at) ⊎ (at + length new ≤ i) → get_or (replaced f.bytes at new) i 0 ≡ get_or f.bytes i 0
byte_apart f at new i le (inl before) = grind (arith, places)
byte_apart f at new i le (inr behind) = grind (arith, places)

byte_among : (f : File) (at : ℕ) (new : List ℕ) (i : ℕ) → at ≤ length f.bytes → at ≤ i → i < at + length new → get_or (replaced f.bytes at new) i 0 ≡ get_or new (i - at) 0
byte_among f at new i le from to = grind (arith, places)

-- what a stop may leave before a write, it may leave inside it
pub written_keeps : (f : File) (at : ℕ) (new image : List ℕ) → AreBytes (synced_bytes f) → IsImage f image → IsImage (written f at new) image
written_keeps f at new image small is = record {
  len = grind (arith, nat_tests, is.len);
  each = λ i h. elim (among_or_apart at (at + length new) i) [
    | inl among ↦ written_byte f at new i (get_or image i 0) (byte_left f i (get_or image i 0) small (is.each i h)) among.0 among.1
    | inr apart ↦ unwritten_byte f at new i (get_or image i 0) apart (is.each i h)
  ];
}

bytes_written : (f : File) (at : ℕ) (new : List ℕ) → at ≤ length f.bytes → AreBytes new → AreBytes f.bytes → AreBytes (replaced f.bytes at new)
bytes_written f at new le small old i = elim (among_or_apart at (at + length new) i) [
  | inl among ↦ subst (λ b. b < 256) (sym (byte_among f at new i le among.0 among.1)) (small (i - at))
  | inr apart ↦ subst (λ b. b < 256) (sym (byte_apart f at new i le apart)) (old i)
]

pub written_sound : (f : File) (at : ℕ) (new : List ℕ) → at ≤ length f.bytes → AreBytes new → IsSoundFile f → IsSoundFile (written f at new)
written_sound f at new le small sound = record {
  bytes = bytes_written f at new le small sound.bytes;
  image = record {
    len = grind (arith, nat_tests);
    each = λ i h. elim (among_or_apart at (at + length new) i) [
      | inl among ↦ written_byte f at new i _ (bytes_written f at new le small sound.bytes i) among.0 among.1
      | inr apart ↦ unwritten_byte f at new i _ apart (subst (IsByte f i) (sym (byte_apart f at new i le apart)) (sound.image.each i (omega (arith, length_written f at new le))))
    ];
  };
  at_sync = sound.at_sync;
  synced_image = λ bytes is. written_keeps f at new bytes sound.at_sync (sound.synced_image bytes is);
  known = λ n i is h. grind (arith, nat_tests, length_written f at new le, sound.known n i, sound.known (length f.bytes) i, sound.image.len);
}

-- ---- a change of length

pub length_resized : (f : File) (len : ℕ) → length (resized f len).bytes ≡ len
length_resized f len = grind (arith, places)

resized_apart : (f : File) (len i : ℕ) → i < length f.bytes → i < len → get_or (resized f len).bytes i 0 ≡ get_or f.bytes i 0
resized_apart f len i old new = grind (arith, places)

resized_among : (f : File) (len i : ℕ) → length f.bytes ≤ i → get_or (resized f len).bytes i 0 ≡ 0
resized_among f len i le = grind (arith, places)

-- a byte that a change of length didn't add is as it was
unadded_byte : (f : File) (len i byte : ℕ) → (i < length f.bytes) ⊎ (len ≤ i) → IsByte f i byte → IsByte (resized f len) i byte
unadded_byte f len i byte apart is = subst (λ o. MatchOption o (byte < 256) (λ value. byte ≡ value)) same is
  where
    same : value_left f i ≡ value_left (resized f len) i
    same = grind (arith, nat_tests)

-- one that it added is zero, or any
added_byte : (f : File) (len i : ℕ) → length f.bytes ≤ i → i < len → IsByte (resized f len) i 0
added_byte f len i from to = grind (arith, nat_tests)

-- what may be left of a byte that was known may be left where it is added again
added_again : (f : File) (len i byte : ℕ) → AreBytes (synced_bytes f) → IsTrue (is_synced f i || f.is_written i || f.is_added i) → length f.bytes ≤ i → i < len → IsByte f i byte → IsByte (resized f len) i byte
added_again f len i byte small known from to is =
    let fits : byte < 256 = byte_left f i byte small is in
    grind (arith, nat_tests)

-- what a stop may leave before a change of length, it may leave inside it
pub resized_keeps : (f : File) (len : ℕ) (image : List ℕ) → IsSoundFile f → IsImage f image → IsImage (resized f len) image
resized_keeps f len image sound is = record {
  len = grind (arith, nat_tests, is.len);
  each = λ i h. elim (among_or_apart (length f.bytes) len i) [
    | inl among ↦ added_again f len i (get_or image i 0) sound.at_sync (sound.known (length image) i is.len h) among.0 among.1 (is.each i h)
    | inr apart ↦ unadded_byte f len i (get_or image i 0) apart (is.each i h)
  ];
}

bytes_resized : (f : File) (len : ℕ) → AreBytes f.bytes → AreBytes (resized f len).bytes
bytes_resized f len old i = elim (among_or_apart (length f.bytes) len i) [
  | inl among ↦ subst (λ b. b < 256) (sym (resized_among f len i among.0)) (omega arith)
  | inr apart ↦ grind (arith, places, old i)
]

pub resized_sound : (f : File) (len : ℕ) → IsSoundFile f → IsSoundFile (resized f len)
resized_sound f len sound = record {
  bytes = bytes_resized f len sound.bytes;
  image = record {
    len = grind (arith, nat_tests, length_resized f len);
    each = λ i h. elim (among_or_apart (length f.bytes) len i) [
      | inl among ↦ subst (IsByte (resized f len) i) (sym (resized_among f len i among.0)) (added_byte f len i among.0 among.1)
      | inr apart ↦ let below : i < len = omega (arith, length_resized f len) in
          let old : i < length f.bytes = omega arith in
          unadded_byte f len i _ apart (subst (IsByte f i) (sym (resized_apart f len i old below)) (sound.image.each i old))
    ];
  };
  at_sync = sound.at_sync;
  synced_image = λ bytes is. resized_keeps f len bytes sound (sound.synced_image bytes is);
  known = λ n i is h. grind (arith, nat_tests, sound.known n i, sound.known (length f.bytes) i, sound.image.len);
}
