-- What is left by a choice is what a stop may leave.
use Rattle.std.proofs.Common.{arith, zero-add, ◌≡◌, ℕ, ◌<◌, List, length, get_or, Option, Some, None, refl, sym, ap, ◌∙◌, subst}
use Rattle.std.specs.Prelude.{is_some, if◌then◌else◌, IsTrue}
use Rattle.std.specs.List.{range_with_len}
use Rattle.std.specs.Option.{option_map, option_and_then, MatchOption}
use Rattle.std.proofs.lemmas.List.{get_or-map, length-map}
use Rattle.std.proofs.lemmas.List.FromFn.{get_or-range_with_len, length-range_with_len}
use Rattle.zn_stand.specs.File.{File, AreBytes, value_left, is_length, IsByte, IsSoundFile, at_rest}
use Rattle.zn_stand.specs.Maps.{Name}
use Rattle.zn_stand.specs.Directory.{Directory, file_at, bytes_at, contents, rested, MayHave, IsImageOf, IsSoundDirectory}
use Rattle.zn_stand.proofs.NameMaps.{get-mapped}
use Rattle.zn_stand.proofs.Directories.{bytes-contents, file-rested}
use Rattle.zn_files.specs.declared.images.Choice.{Choice}
use Rattle.zn_files.specs.declared.images.Choice.TheVariants.{Least, Most, Filled}
use Rattle.zn_files.specs.Images.{filled, left_by, image_by}

pub length-filled : (value : ℕ) (f : File) → length (filled value f) ≡ length f.bytes
length-filled value f = length-map (range_with_len 0 (length f.bytes)) (λ i. if is_some (value_left f i) then get_or f.bytes i 0 else value) ∙ length-range_with_len 0 (length f.bytes)

pub filled_at : (value : ℕ) (f : File) (i : ℕ) → i < length f.bytes → get_or (filled value f) i 0 ≡ (if is_some (value_left f i) then get_or f.bytes i 0 else value)
filled_at value f i h =
    get_or-map (λ k. if is_some (value_left f k) then get_or f.bytes k 0 else value) (range_with_len 0 (length f.bytes)) i 0 0 (omega (arith, length-range_with_len 0 (length f.bytes)))
    ∙ ap (λ k. if is_some (value_left f k) then get_or f.bytes k 0 else value) (get_or-range_with_len 0 (length f.bytes) i 0 h ∙ zero-add i)

-- a byte that is filled in is what a stop may leave of it
filled_byte : (value : ℕ) (f : File) (i : ℕ) → IsSoundFile f → i < length f.bytes → get_or (filled value f) i 0 < 256 → IsByte f i (get_or (filled value f) i 0)
filled_byte value f i sound h small = by_case (value_left f i) refl
  where
    by_case : (o : Option ℕ) → value_left f i ≡ o → IsByte f i (get_or (filled value f) i 0)
    by_case None is = subst (λ (o : Option ℕ). MatchOption o (get_or (filled value f) i 0 < 256) (λ value'. get_or (filled value f) i 0 ≡ value')) (sym is) small
    by_case (Some byte) is = subst (λ (o : Option ℕ). MatchOption o (get_or (filled value f) i 0 < 256) (λ value'. get_or (filled value f) i 0 ≡ value')) (sym is)
        (filled_at value f i h ∙ ap (λ (o : Option ℕ). if is_some o then get_or f.bytes i 0 else value) is
        ∙ subst (λ (o : Option ℕ). MatchOption o (get_or f.bytes i 0 < 256) (λ value'. get_or f.bytes i 0 ≡ value')) is (sound.image.each i h))

-- of one file
left_of : (choice : Choice) (f : File) (o : Option (List ℕ)) → IsSoundFile f → left_by choice f ≡ o → ((bytes : List ℕ) → o ≡ Some bytes → AreBytes bytes) → MayHave (Some f) o
left_of Least f None sound is small = is
left_of Least f (Some bytes) sound is small = sound.synced_image bytes is
left_of Most f o sound is small = subst (MayHave (Some f)) is sound.image
left_of (Filled value) f o sound is small = subst (MayHave (Some f)) is (record {
  len = subst (λ n. IsTrue (is_length f n)) (sym (length-filled value f)) sound.image.len;
  each = λ i h. filled_byte value f i sound (omega (arith, length-filled value f)) (small (filled value f) (sym is) i);
})

-- of all
pub left_stands : (choice : Choice) (d image : Directory) → IsSoundDirectory d → IsSoundDirectory image → image ≡ rested (image_by choice d) → IsImageOf d (contents image)
left_stands choice d image sound left_sound is = record { each = λ q. at q (file_at d q) refl }
  where
    here : (q : Name) → file_at image q ≡ option_map at_rest (option_and_then (left_by choice) (file_at d q))
    here q = ap (λ e. file_at e q) is ∙ file-rested (image_by choice d) q ∙ ap (option_map at_rest) (get-mapped (left_by choice) d q)

    read : (q : Name) (o : Option File) (left : Option (List ℕ)) → file_at d q ≡ o → option_and_then (left_by choice) o ≡ left → bytes_at (contents image) q ≡ left
    read q o left there is_left = bytes-contents image q ∙ ap (option_map (λ f. f.bytes)) (here q ∙ ap (λ x. option_map at_rest (option_and_then (left_by choice) x)) there ∙ ap (option_map at_rest) is_left) ∙ as_is left
      where
        as_is : (left : Option (List ℕ)) → option_map (λ f. f.bytes) (option_map at_rest left) ≡ left
        as_is None = refl
        as_is (Some bytes) = refl

    small : (q : Name) (o : Option File) (bytes : List ℕ) → file_at d q ≡ o → option_and_then (left_by choice) o ≡ Some bytes → AreBytes bytes
    small q o bytes there is_left = (left_sound q (at_rest bytes) (here q ∙ ap (λ x. option_map at_rest (option_and_then (left_by choice) x)) there ∙ ap (option_map at_rest) is_left)).bytes

    at : (q : Name) (o : Option File) → file_at d q ≡ o → MayHave (file_at d q) (bytes_at (contents image) q)
    at q None there = subst (λ (x : Option File). MayHave x (bytes_at (contents image) q)) (sym there) (subst (MayHave None) (sym (read q None None there refl)) tt)
    at q (Some f) there = subst (λ (x : Option File). MayHave x (bytes_at (contents image) q)) (sym there) (subst (MayHave (Some f)) (sym (read q (Some f) (left_by choice f) there refl))
        (left_of choice f (left_by choice f) (sound q f there) refl (λ bytes is_left. small q (Some f) bytes there is_left)))
