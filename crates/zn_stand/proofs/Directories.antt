-- What calls make of a directory.
use Rattle.std.proofs.Common.{◌≡◌, ◌⊎◌, ◌≢◌, inl, inr, ℕ, ◌<◌, Bool, true, false, cond, List, [], length, get_or, Option, Some, None, refl, sym, ap, ◌∙◌, subst, arith}
use Rattle.std.specs.Prelude.{IsTrue, IsSome, is_some, ◌↔◌}
use Rattle.std.specs.Option.{option_map, option_and_then}
use Rattle.std.proofs.lemmas.Option.{same_Some}
use Rattle.std.proofs.lemmas.List.{nil_from_length}
use Rattle.zn_stand.specs.File.{File, created, at_rest, written, resized, synced, IsImage, IsSoundFile, AreBytes, is_kept, synced_bytes}
use Rattle.zn_stand.specs.Maps.{Name}
use Rattle.zn_stand.specs.Directory.{Directory, Contents, file_at, bytes_at, with_file, contents, rested, MayHave, IsImageOf, IsSoundDirectory}
use Rattle.zn_stand.specs.Calls.{Call, TellNames, TellLen, ReadFrom, WriteFrom, SetLength, CreateFile, SyncFile, made, during, changed, named, IsCallFor}
use Rattle.zn_stand.proofs.Files.{rest_only, created_sound, rest_sound, synced_sound, written_keeps, written_sound, resized_keeps, resized_sound, length_resized}
use Rattle.zn_stand.proofs.NameMaps.{same_name, at_same, at_other, maps_same, get-mapped}

-- ---- files in place

with_other : (d : Directory) (name : Name) (o : Option File) (q : Name) → q ≢ name → file_at (with_file d name o) q ≡ file_at d q
with_other d name None q apart = refl
with_other d name (Some f) q apart = at_other d name f q apart

with_same : (d : Directory) (name : Name) (o p : Option File) → file_at d name ≡ p → is_some o ≡ is_some p → file_at (with_file d name o) name ≡ o
with_same d name None None is both = is
with_same d name None (Some f) is both = absurd (cc)
with_same d name (Some f) p is both = at_same d name f

map_there : (g : File → File) (o : Option File) → is_some (option_map g o) ≡ is_some o
map_there g None = refl
map_there g (Some f) = refl

pub changed_other : (d : Directory) (name : Name) (g : File → File) (q : Name) → q ≢ name → file_at (changed d name g) q ≡ file_at d q
changed_other d name g q apart = with_other d name (option_map g (file_at d name)) q apart

pub changed_same : (d : Directory) (name : Name) (g : File → File) → file_at (changed d name g) name ≡ option_map g (file_at d name)
changed_same d name g = with_same d name (option_map g (file_at d name)) (file_at d name) refl (map_there g (file_at d name))

pub bytes-contents : (d : Directory) (name : Name) → bytes_at (contents d) name ≡ option_map (λ f. f.bytes) (file_at d name)
bytes-contents d name = get-mapped (λ f. Some f.bytes) d name ∙ as_map (file_at d name)
  where
    as_map : (o : Option File) → option_and_then (λ f. Some f.bytes) o ≡ option_map (λ f. f.bytes) o
    as_map None = refl
    as_map (Some f) = refl

pub file-rested : (c : Contents) (name : Name) → file_at (rested c) name ≡ option_map at_rest (bytes_at c name)
file-rested c name = get-mapped (λ bytes. Some (at_rest bytes)) c name ∙ as_map (bytes_at c name)
  where
    as_map : (o : Option (List ℕ)) → option_and_then (λ bytes. Some (at_rest bytes)) o ≡ option_map at_rest o
    as_map None = refl
    as_map (Some bytes) = refl

-- ---- reading

read_of : (o : Option File) → ((f : File) → o ≡ Some f → IsSoundFile f) → MayHave o (option_map (λ f. f.bytes) o)
read_of None sound = tt
read_of (Some f) sound = (sound f refl).image

pub read_is_image : (d : Directory) → IsSoundDirectory d → IsImageOf d (contents d)
read_is_image d sound = record { each = λ name. subst (λ (o : Option (List ℕ)). MayHave (file_at d name) o) (sym (bytes-contents d name)) (read_of (file_at d name) (sound name)) }

-- ---- at rest

rest_left : (o : Option (List ℕ)) (left : Option (List ℕ)) → MayHave (option_map at_rest o) left → left ≡ o
rest_left None None may = refl
rest_left None (Some bytes) may = absurd may
rest_left (Some old) None may = absurd (cc)
rest_left (Some old) (Some bytes) may = ap Some (rest_only old bytes may)

pub rest_stays : (c image : Contents) → IsImageOf (rested c) image → image ≡ c
rest_stays c image is = maps_same image c (λ name. rest_left (bytes_at c name) (bytes_at image name) (subst (λ (o : Option File). MayHave o (bytes_at image name)) (file-rested c name) (is.each name)))

pub rested_sound : (c : Contents) → ((name : Name) (bytes : List ℕ) → bytes_at c name ≡ Some bytes → AreBytes bytes) → IsSoundDirectory (rested c)
rested_sound c small name f is = sound (bytes_at c name) refl
  where
    sound : (o : Option (List ℕ)) → bytes_at c name ≡ o → IsSoundFile f
    sound None there = absurd (cc (is, file-rested c name))
    sound (Some bytes) there = subst IsSoundFile (same_Some (at_rest bytes) f (sym (ap (option_map at_rest) there) ∙ sym (file-rested c name) ∙ is)) (rest_sound bytes (small name bytes there))

pub sync_leaves_read : (d : Directory) (name : Name) (f : File) (image : Contents) → file_at d name ≡ Some f → IsImageOf (made (SyncFile name) d) image → bytes_at image name ≡ Some f.bytes
sync_leaves_read d name f image there is = rest_left (Some f.bytes) (bytes_at image name) (subst (λ (o : Option File). MayHave o (bytes_at image name)) (changed_same d name synced ∙ ap (option_map synced) there) (is.each name))

resized_to_none : (f : File) → (resized f 0).bytes ≡ []
resized_to_none f = nil_from_length (resized f 0).bytes (length_resized f 0)

pub emptied_is_empty : (d : Directory) (name : Name) (image : Contents) → IsSome (file_at d name) → IsImageOf (made (SyncFile name) (made (SetLength name 0) d)) image → bytes_at image name ≡ Some []
emptied_is_empty d name image some is = at (file_at d name) refl some
  where
    at : (o : Option File) → file_at d name ≡ o → IsSome o → bytes_at image name ≡ Some []
    at None there some = absurd (cc)
    at (Some f) there some = sync_leaves_read (made (SetLength name 0) d) name (resized f 0) image (changed_same d name (λ f. resized f 0) ∙ ap (option_map (λ f. resized f 0)) there) is ∙ ap Some (resized_to_none f)

pub untouched_stays : (f : File) (i : ℕ) (image : List ℕ) → IsTrue (is_kept f i) → IsImage f image → i < length image → get_or image i 0 ≡ get_or (synced_bytes f) i 0
untouched_stays f i image kept is h = grind (arith, kept, is.each i h)

-- ---- calls

-- a change of one file keeps what each file keeps to
changed_all : (P : File → Type 0) (d : Directory) (name : Name) (g : File → File) → ((q : Name) (f : File) → file_at d q ≡ Some f → P f) → ((f : File) → file_at d name ≡ Some f → P f → P (g f))
    → (q : Name) (f : File) → file_at (changed d name g) q ≡ Some f → P f
changed_all P d name g all step q f is = elim (same_name q name) [
  | inl same ↦ here (file_at d name) refl (sym (changed_same d name g) ∙ ap (file_at (changed d name g)) (sym same.0) ∙ is)
  | inr other ↦ all q f (sym (changed_other d name g q other.0) ∙ is)
]
  where
    here : (o : Option File) → file_at d name ≡ o → option_map g o ≡ Some f → P f
    here None there is = absurd (cc)
    here (Some old) there is = subst P (same_Some (g old) f is) (step old there (all name old there))

created_all : (P : File → Type 0) (d : Directory) (name : Name) (b : Bool) → ((q : Name) (f : File) → file_at d q ≡ Some f → P f) → P created
    → (q : Name) (f : File) → file_at (cond b d (with_file d name (Some created))) q ≡ Some f → P f
created_all P d name true all new q f is = all q f is
created_all P d name false all new q f is = elim (same_name q name) [
  | inl same ↦ subst P (same_Some created f (sym (at_same d name created) ∙ ap (file_at (with_file d name (Some created))) (sym same.0) ∙ is)) new
  | inr other ↦ all q f (sym (at_other d name created q other.0) ∙ is)
]

pub calls_keep_sound : (call : Call) (d : Directory) → IsSoundDirectory d → IsCallFor d call → IsSoundDirectory (made call d)
calls_keep_sound TellNames d sound fits = sound
calls_keep_sound (TellLen name) d sound fits = sound
calls_keep_sound (ReadFrom name at n) d sound fits = sound
calls_keep_sound (WriteFrom name at bytes) d sound fits = changed_all IsSoundFile d name (λ f. written f at bytes) sound (λ f there old. written_sound f at bytes (fits.0 f there) fits.1 old)
calls_keep_sound (SetLength name len) d sound fits = changed_all IsSoundFile d name (λ f. resized f len) sound (λ f there old. resized_sound f len old)
calls_keep_sound (CreateFile name) d sound fits = created_all IsSoundFile d name (is_some (file_at d name)) sound created_sound
calls_keep_sound (SyncFile name) d sound fits = changed_all IsSoundFile d name synced sound (λ f there old. synced_sound f old)

pub made_other : (call : Call) (d : Directory) (name : Name) → named call ≢ Some name → file_at (made call d) name ≡ file_at d name
made_other TellNames d q apart = refl
made_other (TellLen name) d q apart = refl
made_other (ReadFrom name at n) d q apart = refl
made_other (WriteFrom name at bytes) d q apart = changed_other d name (λ f. written f at bytes) q (λ same. apart (ap Some (sym same)))
made_other (SetLength name len) d q apart = changed_other d name (λ f. resized f len) q (λ same. apart (ap Some (sym same)))
made_other (CreateFile name) d q apart = at (is_some (file_at d name))
  where
    at : (b : Bool) → file_at (cond b d (with_file d name (Some created))) q ≡ file_at d q
    at true = refl
    at false = at_other d name created q (λ same. apart (ap Some (sym same)))
made_other (SyncFile name) d q apart = changed_other d name synced q (λ same. apart (ap Some (sym same)))

pub made_image : (call : Call) (d : Directory) (name : Name) (left : Option (List ℕ)) → named call ≢ Some name → MayHave (file_at (made call d) name) left ↔ MayHave (file_at d name) left
made_image call d name left apart = (subst (λ (o : Option File). MayHave o left) (made_other call d name apart), subst (λ (o : Option File). MayHave o left) (sym (made_other call d name apart)))

-- what a call makes of the file that it is on
abbrev own : Call → Option File → Option File
own TellNames o = o
own (TellLen name) o = o
own (ReadFrom name at n) o = o
own (WriteFrom name at bytes) o = option_map (λ f. written f at bytes) o
own (SetLength name len) o = option_map (λ f. resized f len) o
own (CreateFile name) None = Some created
own (CreateFile name) (Some f) = Some f
own (SyncFile name) o = option_map synced o

made_own : (call : Call) (d : Directory) (name : Name) → named call ≡ Some name → file_at (made call d) name ≡ own call (file_at d name)
made_own TellNames d q is = absurd (cc)
made_own (TellLen name) d q is = refl
made_own (ReadFrom name at n) d q is = refl
made_own (WriteFrom name at bytes) d q is = subst (λ n. file_at (changed d name (λ f. written f at bytes)) n ≡ option_map (λ f. written f at bytes) (file_at d n)) (same_Some name q is) (changed_same d name (λ f. written f at bytes))
made_own (SetLength name len) d q is = subst (λ n. file_at (changed d name (λ f. resized f len)) n ≡ option_map (λ f. resized f len) (file_at d n)) (same_Some name q is) (changed_same d name (λ f. resized f len))
made_own (CreateFile name) d q is = subst (λ n. file_at (made (CreateFile name) d) n ≡ own (CreateFile name) (file_at d n)) (same_Some name q is) (at (file_at d name) refl)
  where
    at : (o : Option File) → file_at d name ≡ o → file_at (cond (is_some o) d (with_file d name (Some created))) name ≡ own (CreateFile name) o
    at None there = at_same d name created
    at (Some f) there = there
made_own (SyncFile name) d q is = subst (λ n. file_at (changed d name synced) n ≡ option_map synced (file_at d n)) (same_Some name q is) (changed_same d name synced)

on_or_not : (o : Option Name) (q : Name) → (o ≡ Some q) ⊎ (o ≢ Some q)
on_or_not None q = inr (λ is. absurd (cc))
on_or_not (Some name) q = elim (same_name name q) [
  | inl same ↦ inl (ap Some same.0)
  | inr other ↦ inr (λ is. absurd (other.0 (same_Some name q is)))
]

pub any_order : (a b : Call) (d : Directory) → named a ≢ named b → made a (made b d) ≡ made b (made a d)
any_order a b d apart = maps_same (made a (made b d)) (made b (made a d)) (λ q. elim (on_or_not (named a) q) [
  | inl on ↦
      let not_b : named b ≢ Some q = λ is. apart (on ∙ sym is) in
      made_own a (made b d) q on ∙ ap (own a) (made_other b d q not_b) ∙ sym (made_own a d q on) ∙ sym (made_other b (made a d) q not_b)
  | inr off ↦ made_other a (made b d) q off ∙ elim (on_or_not (named b) q) [
    | inl on ↦ made_own b d q on ∙ ap (own b) (sym (made_other a d q off)) ∙ sym (made_own b (made a d) q on)
    | inr not_b ↦ made_other b d q not_b ∙ sym (made_other a d q off) ∙ sym (made_other b (made a d) q not_b)
  ]
])

-- ---- inside a call

-- where a change of one file keeps its images, it keeps those of the directory
changed_keeps : (d : Directory) (name : Name) (g : File → File) (image : Contents) → ((f : File) (left : Option (List ℕ)) → file_at d name ≡ Some f → MayHave (Some f) left → MayHave (Some (g f)) left)
    → IsImageOf d image → IsImageOf (changed d name g) image
changed_keeps d name g image step is = record {
  each = λ q. elim (same_name q name) [
    | inl same ↦ subst (λ n. MayHave (file_at (changed d name g) n) (bytes_at image n)) (sym same.0)
        (subst (λ (o : Option File). MayHave o (bytes_at image name)) (sym (changed_same d name g)) (here (file_at d name) refl (is.each name)))
    | inr other ↦ subst (λ (o : Option File). MayHave o (bytes_at image q)) (sym (changed_other d name g q other.0)) (is.each q)
  ];
}
  where
    here : (o : Option File) → file_at d name ≡ o → MayHave o (bytes_at image name) → MayHave (option_map g o) (bytes_at image name)
    here None there may = may
    here (Some f) there may = step f (bytes_at image name) there may

written_left : (f : File) (at : ℕ) (bytes : List ℕ) (left : Option (List ℕ)) → IsSoundFile f → MayHave (Some f) left → MayHave (Some (written f at bytes)) left
written_left f at bytes None sound may = may
written_left f at bytes (Some image) sound may = written_keeps f at bytes image sound.at_sync may

resized_left : (f : File) (len : ℕ) (left : Option (List ℕ)) → IsSoundFile f → MayHave (Some f) left → MayHave (Some (resized f len)) left
resized_left f len None sound may = may
resized_left f len (Some image) sound may = resized_keeps f len image sound may

-- a file that is created need not be there
created_left : (left : Option (List ℕ)) → MayHave None left → MayHave (Some created) left
created_left None may = refl
created_left (Some image) may = absurd may

created_keeps : (d : Directory) (name : Name) (image : Contents) → IsImageOf d image → IsImageOf (made (CreateFile name) d) image
created_keeps d name image is = at (file_at d name) refl
  where
    at : (o : Option File) → file_at d name ≡ o → IsImageOf (cond (is_some o) d (with_file d name (Some created))) image
    at (Some f) there = is
    at None there = record {
      each = λ q. elim (same_name q name) [
        | inl same ↦ subst (λ n. MayHave (file_at (with_file d name (Some created)) n) (bytes_at image n)) (sym same.0)
            (subst (λ (o : Option File). MayHave o (bytes_at image name)) (sym (at_same d name created)) (created_left (bytes_at image name) (subst (λ (o : Option File). MayHave o (bytes_at image name)) there (is.each name))))
        | inr other ↦ subst (λ (o : Option File). MayHave o (bytes_at image q)) (sym (at_other d name created q other.0)) (is.each q)
      ];
    }

pub before_inside : (call : Call) (d : Directory) (image : Contents) → IsSoundDirectory d → IsImageOf d image → IsImageOf (during call d) image
before_inside TellNames d image sound is = is
before_inside (TellLen name) d image sound is = is
before_inside (ReadFrom name at n) d image sound is = is
before_inside (WriteFrom name at bytes) d image sound is = changed_keeps d name (λ f. written f at bytes) image (λ f left there may. written_left f at bytes left (sound name f there) may) is
before_inside (SetLength name len) d image sound is = changed_keeps d name (λ f. resized f len) image (λ f left there may. resized_left f len left (sound name f there) may) is
before_inside (CreateFile name) d image sound is = created_keeps d name image is
before_inside (SyncFile name) d image sound is = is

synced_left : (o : Option File) (left : Option (List ℕ)) → ((f : File) → o ≡ Some f → IsSoundFile f) → MayHave (option_map synced o) left → MayHave o left
synced_left None left sound may = may
synced_left (Some f) None sound may = absurd (cc)
synced_left (Some f) (Some image) sound may = subst (IsImage f) (sym (rest_only f.bytes image may)) (sound f refl).image

pub after_inside : (call : Call) (d : Directory) (image : Contents) → IsSoundDirectory d → IsImageOf (made call d) image → IsImageOf (during call d) image
after_inside TellNames d image sound is = is
after_inside (TellLen name) d image sound is = is
after_inside (ReadFrom name at n) d image sound is = is
after_inside (WriteFrom name at bytes) d image sound is = is
after_inside (SetLength name len) d image sound is = is
after_inside (CreateFile name) d image sound is = is
after_inside (SyncFile name) d image sound is = record {
  each = λ q. elim (same_name q name) [
    | inl same ↦ subst (λ n. MayHave (file_at d n) (bytes_at image n)) (sym same.0) (synced_left (file_at d name) (bytes_at image name) (sound name) (subst (λ (o : Option File). MayHave o (bytes_at image name)) (changed_same d name synced) (is.each name)))
    | inr other ↦ subst (λ (o : Option File). MayHave o (bytes_at image q)) (changed_other d name synced q other.0) (is.each q)
  ];
}

pub ruleset InsideCalls = (before_inside, after_inside)
