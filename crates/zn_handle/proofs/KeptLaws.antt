-- What stays true of the fields of the handles, and what they stand for.
use Rattle.std.proofs.Common.{◌≡◌, ◌≢◌, ℕ, ◌+◌, ◌<◌, ◌≤◌, ◌==◌, ◌&&◌, cond, [], ◌∷◌, length, Some, None, refl, sym, ap, ◌∙◌, subst, inl, inr, arith, get_or, count_by, sum_by, is_some, replicate, ◌^◌, length-append}
use Rattle.std.proofs.lemmas.Bool.{cases_eq}
use Rattle.std.proofs.lemmas.List.{get_or-replicate, length-replicate}
use Rattle.std.proofs.lemmas.List.Sums.{sum_by-cons, sum_by-append, sum_by_push}
use Rattle.zn_model.specs.declared.limits.TheConstants.{MAX_HANDLES}
use Rattle.slab.specs.Slab.{Slab, get, slab_len, Updates}
use Rattle.zn_model.specs.declared.handles.Handle.{Handle}
use Rattle.zn_model.specs.Access.{writes}
use Rattle.zn_model.specs.Volume.{Live, Handles, is_same_handle, with_live, without_live, writers_of}
use Rattle.zn_handle.specs.declared.handles.Entry.{Entry}
use Rattle.zn_handle.specs.declared.handles.Handles.TheInside.{Inside}
use Rattle.zn_handle.specs.Slots.{live_of, of_generation, IsApart}
use Rattle.zn_handle.specs.Writers.{Counts, IsOneMore, as_writer}
use Rattle.zn_handle.specs.Kept.{handles_of, seen_of, IsKept}
use Rattle.zn_handle.proofs.Told.{Split, told-none}
use Rattle.zn_handle.proofs.SlotSteps.{apart_of_put, lives_of_put, apart_of_taken, lives_of_taken, split_at_entry, filter_absent}

-- ---- the counts of a list of handles with one more

pub length-with_live : (handles : Handles) (live : Live) → length (with_live handles live).live ≡ length handles.live + 1
length-with_live handles live = length-append handles.live (live ∷ [])

pub writers_of-with_live : (handles : Handles) (live : Live) (f : ℕ) → writers_of (with_live handles live) f ≡ writers_of handles f + as_writer live.file live.mode f
writers_of-with_live handles live f =
    sum_by_push (λ x. cond ((x.file == f) && writes x.mode) 1 0) handles.live live

-- ---- the first fields

module _ (slots : Slab Entry) (writers : Counts) (empty : slots.slots ≡ []) where
  pub handles_of_none : handles_of (record { slots = slots; opened = 0; writers = writers }) ≡ record { live = []; opened = 0 }
  handles_of_none = ap (λ live. record { live = live; opened = 0 }) (told-none (of_generation 0 slots.slots))

  pub seen_of_none : (cnv files : ℕ) → writers ≡ record { counts = replicate files 0; cnv = cnv } → seen_of (record { slots = slots; opened = 0; writers = writers }) ≡ record { handles = record { live = []; opened = 0 }; cnv = cnv; files = files }
  seen_of_none cnv files zeros =
      let count = ap (λ w. length w.counts) zeros ∙ length-replicate {A = ℕ} files 0 in
      let first = ap (λ w. w.cnv) zeros in
      rw (handles_of_none, count, first) refl

  pub kept_none : (files : ℕ) → writers.counts ≡ replicate files 0 → writers.cnv ≤ files → MAX_HANDLES ≤ slots.capacity → slots.capacity ≤ 2 ^ 32 → IsKept (record { slots = slots; opened = 0; writers = writers })
  kept_none files zeros some room keys =
      let none = ap (λ handles. length handles.live) handles_of_none in
      record {
        room = room;
        keys = keys;
        cnv = omega (arith, some, ap length zeros, length-replicate {A = ℕ} files 0);
        apart = record { below = λ k e there. absurd (vacant k e there); apart = λ j k d e at there same. absurd (vacant j d at) };
        len = ap (count_by is_some) empty ∙ sym none;
        limit = omega (arith, none);
        within = λ k e there. absurd (vacant k e there);
        counted = uncounted;
      }
    where
      vacant : (k : ℕ) (e : Entry) → get slots k ≡ Some e → ⊥
      vacant k e there =
          let none = ap (λ xs. get_or xs k None) empty in
          cc

      uncounted : (f : ℕ) → f < length writers.counts → get_or writers.counts f 0 ≡ writers_of (handles_of (record { slots = slots; opened = 0; writers = writers })) f
      uncounted f below =
          let within : f < files = omega (arith, ap length zeros, length-replicate {A = ℕ} files 0) in
          ap (λ xs. get_or xs f 0) zeros ∙ get_or-replicate files f 0 0 within ∙ sym (ap (λ handles. writers_of handles f) handles_of_none)

-- ---- the fields after a handle was opened

module _ (a : Inside) (kept : IsKept a) (slots : Slab Entry) (writers : Counts) (key : ℕ) (e : Entry) (room : length (handles_of a).live < MAX_HANDLES) (last : e.generation ≡ a.opened) (file : e.file < length a.writers.counts) (vacant : get a.slots key ≡ None) (put : Updates a.slots slots key (Some e)) (len : slab_len slots ≡ slab_len a.slots + 1) (capacity : slots.capacity ≡ a.slots.capacity) (more : IsOneMore a.writers writers e.file e.mode) where
  pub handles_of_put : handles_of (record { slots = slots; opened = a.opened + 1; writers = writers }) ≡ with_live (handles_of a) (live_of key e)
  handles_of_put =
      ap (λ live. record { live = live; opened = a.opened + 1 }) (lives_of_put a.slots slots key a.opened e kept.apart last vacant put)

  pub kept_put : IsKept (record { slots = slots; opened = a.opened + 1; writers = writers })
  kept_put =
      let longer = ap (λ handles. length handles.live) handles_of_put ∙ length-with_live (handles_of a) (live_of key e) in
      record {
        room = rw capacity kept.room;
        keys = rw capacity kept.keys;
        cnv = omega (arith, kept.cnv, more.cnv, more.files);
        apart = apart_of_put a.slots slots key a.opened e kept.apart last vacant put;
        len = omega (arith, longer, len, kept.len);
        limit = omega (arith, longer, room);
        within = within_put;
        counted = counted_put;
      }
    where
      within_put : (k : ℕ) (d : Entry) → get slots k ≡ Some d → d.file < length writers.counts
      within_put k d there =
          elim (cases_eq k key) [
            | inl same ↦
                let here = ap (get slots) same ∙ put.changed in
                let one : d ≡ e = cc in
                omega (arith, ap (λ x. x.file) one, file, more.files)
            | inr differs ↦ omega (arith, kept.within k d (sym (put.others k differs) ∙ there), more.files)
          ]

      counted_put : (f : ℕ) → f < length writers.counts → get_or writers.counts f 0 ≡ writers_of (handles_of (record { slots = slots; opened = a.opened + 1; writers = writers })) f
      counted_put f below =
          let before : f < length a.writers.counts = omega (arith, more.files) in
          let told = ap (λ handles. writers_of handles f) handles_of_put ∙ writers_of-with_live (handles_of a) (live_of key e) f in
          more.counts f before ∙ ap (λ n. n + as_writer e.file e.mode f) (kept.counted f before) ∙ sym told

  pub seen_of_put : seen_of (record { slots = slots; opened = a.opened + 1; writers = writers }) ≡ record { handles = with_live (handles_of a) (live_of key e); cnv = a.writers.cnv; files = length a.writers.counts }
  seen_of_put = rw (handles_of_put, more.cnv, more.files) refl

-- ---- the counts of a list of handles with one less

module _ (handles : Handles) (h : Handle) (live : Live) (split : Split (λ x. is_same_handle x.handle h) handles.live live) where
  pub length-without_live : length (without_live handles h).live + 1 ≡ length handles.live
  length-without_live =
      omega (arith, ap length split.whole, ap length split.others, length-append split.front split.back, length-append split.front (live ∷ split.back))

  pub writers_of-without_live : (f : ℕ) → writers_of handles f ≡ writers_of (without_live handles h) f + as_writer live.file live.mode f
  writers_of-without_live f =
      let w = λ (x : Live). cond ((x.file == f) && writes x.mode) 1 0 in
      let whole = ap (sum_by w) split.whole ∙ sum_by-append w split.front (live ∷ split.back) in
      let others = ap (sum_by w) split.others ∙ sum_by-append w split.front split.back in
      omega (arith, whole, others, sum_by-cons w live split.back)

-- ---- a handle with its entry

module _ (a : Inside) (apart : IsApart a.slots.slots a.opened) (h : Handle) (e : Entry) (there : get a.slots h.key ≡ Some e) (own : e.generation ≡ h.generation) where
  pub of_entry : ◌≡◌ {A = Handle} (record { key = h.key; generation = e.generation }) h
  of_entry = ap {B = Handle} (λ g. record { key = h.key; generation = g }) own

  pub split_at_handle : Split (λ x. is_same_handle x.handle h) (handles_of a).live (live_of h.key e)
  split_at_handle =
      subst (λ own_handle. Split (λ x. is_same_handle x.handle own_handle) (handles_of a).live (live_of h.key e)) of_entry (split_at_entry a.slots.slots a.opened h.key e apart there)

-- ---- the fields after a handle was closed

module _ (a : Inside) (kept : IsKept a) (slots : Slab Entry) (writers : Counts) (h : Handle) (e : Entry) (there : get a.slots h.key ≡ Some e) (own : e.generation ≡ h.generation) (taken : Updates a.slots slots h.key None) (len : slab_len slots + 1 ≡ slab_len a.slots) (capacity : slots.capacity ≡ a.slots.capacity) (less : IsOneMore writers a.writers e.file e.mode) where
  pub handles_of_taken : handles_of (record { slots = slots; opened = a.opened; writers = writers }) ≡ without_live (handles_of a) h
  handles_of_taken =
      ap (λ live. record { live = live; opened = a.opened }) (lives_of_taken a.slots slots h.key a.opened kept.apart taken e there) ∙ ap (without_live (handles_of a)) (of_entry a kept.apart h e there own)

  pub kept_taken : IsKept (record { slots = slots; opened = a.opened; writers = writers })
  kept_taken =
      let split = split_at_handle a kept.apart h e there own in
      let shorter = length-without_live (handles_of a) h (live_of h.key e) split in
      let new_len = ap (λ handles. length handles.live) handles_of_taken in
      record {
        room = rw capacity kept.room;
        keys = rw capacity kept.keys;
        cnv = omega (arith, kept.cnv, less.cnv, less.files);
        apart = apart_of_taken a.slots slots h.key a.opened kept.apart taken;
        len = omega (arith, shorter, new_len, len, kept.len);
        limit = omega (arith, shorter, new_len, kept.limit);
        within = within_taken;
        counted = counted_taken split;
      }
    where
      within_taken : (k : ℕ) (d : Entry) → get slots k ≡ Some d → d.file < length writers.counts
      within_taken k d found =
          elim (cases_eq k h.key) [
            | inl same ↦
                let none = ap (get slots) same ∙ taken.changed in
                absurd cc
            | inr differs ↦ omega (arith, kept.within k d (sym (taken.others k differs) ∙ found), less.files)
          ]

      counted_taken : Split (λ x. is_same_handle x.handle h) (handles_of a).live (live_of h.key e) → (f : ℕ) → f < length writers.counts → get_or writers.counts f 0 ≡ writers_of (handles_of (record { slots = slots; opened = a.opened; writers = writers })) f
      counted_taken split f below =
          let before : f < length a.writers.counts = omega (arith, less.files) in
          let told = ap (λ handles. writers_of handles f) handles_of_taken in
          let fewer = writers_of-without_live (handles_of a) h (live_of h.key e) split f in
          omega (arith, less.counts f below, kept.counted f before, fewer, told)

  pub seen_of_taken : seen_of (record { slots = slots; opened = a.opened; writers = writers }) ≡ record { handles = without_live (handles_of a) h; cnv = a.writers.cnv; files = length a.writers.counts }
  seen_of_taken = rw (handles_of_taken, less.cnv, less.files) refl

-- a handle that isn't live: to leave it out changes nothing
pub seen_of_absent : (a : Inside) (h : Handle) → ((e : Entry) → get a.slots h.key ≡ Some e → e.generation ≢ h.generation) → seen_of a ≡ record (seen_of a) { handles = without_live (handles_of a) h }
seen_of_absent a h absent =
    ap (λ live. record (seen_of a) { handles = record { live = live; opened = a.opened } }) (sym (filter_absent a.slots.slots a.opened h absent))
