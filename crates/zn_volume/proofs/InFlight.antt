-- The requests that wait stay in line.
use Rattle.std.proofs.Common.{◌≡◌, ℕ, ◌+◌, ◌<◌, ◌≤◌, Bool, true, false, not, eqb, cond, ◌||◌, List, [], ◌∷◌, ◌++◌, length, filter, refl, sym, ap, ◌∙◌, subst, inl, inr, arith}
use Rattle.std.specs.Prelude.{slice_index_or, if◌then◌else◌}
use Rattle.std.specs.List.{sum_by, list_any}
use Rattle.std.proofs.lemmas.Bool.{false≢true, eqb-true, eq-eqb, ne_eqb, cases_eq, cases_lt}
use Rattle.std.proofs.lemmas.List.{get_or-set_same, get_or-set_other, set_past}
use Rattle.std.proofs.lemmas.List.Sums.{sum_by-cons}
use Rattle.zn_truth.specs.declared.Shape.{Shape}
use Rattle.zn_model.specs.declared.files.Shown.{Shown}
use Rattle.zn_model.specs.ZoneFiles.{Layout, files_of, capacity_of}
use Rattle.zn_model.specs.ShownStates.{showing}
use Rattle.zn_model.specs.Volume.{Inodes, Queue, Request, file_at, capacity_at, shown_at, with_shown, no_file, queued_bytes, is_queued}
use Rattle.zn_model.specs.Writing.{grown}
use Rattle.zn_io.specs.Files.{IsWritable}
use Rattle.zn_volume.specs.InFlight.{bytes_to, ends_behind, IsInPlace, AreInLine, AreInFlight}

-- ---- lines

-- a request stays in place on files of the same layout and shape, where its file ends as before
in_place_on : (a b : Inodes) (f g : ℕ → ℕ) (r : Request) → b.layout ≡ a.layout → b.shape ≡ a.shape → ((file_at a r.file).seq ≡ true → g r.file ≡ f r.file) → IsInPlace a f r → IsInPlace b g r
in_place_on a b f g r layout shape ends is = record {
  known = subst (λ (l : Layout). r.file < length (files_of l)) (sym layout) is.known;
  aligned = is.aligned;
  whole = is.whole;
  some = is.some;
  most = is.most;
  inside = subst (λ (l : Layout). r.offset + length r.bytes ≤ capacity_of b.shape (slice_index_or (files_of l) r.file no_file)) (sym layout)
      (subst (λ (s : Shape). r.offset + length r.bytes ≤ capacity_of s (file_at a r.file)) (sym shape) is.inside);
  follows = λ seq. (let sequential = subst (λ (l : Layout). (slice_index_or (files_of l) r.file no_file).seq ≡ true) layout seq in is.follows sequential ∙ sym (ends sequential));
}

-- so do all, where each sequential file ends as before
line_on : (a b : Inodes) (f g : ℕ → ℕ) (l : List Request) → b.layout ≡ a.layout → b.shape ≡ a.shape → ((k : ℕ) → (file_at a k).seq ≡ true → g k ≡ f k) → AreInLine a f l → AreInLine b g l
line_on a b f g [] layout shape ends line = tt
line_on a b f g (r ∷ l) layout shape ends line = (
  in_place_on a b f g r layout shape (ends r.file) line.0,
  line_on a b (ends_behind f r) (ends_behind g r) l layout shape (λ k seq. ap (λ (n : ℕ). n + bytes_to r k) (ends k seq)) line.1,
)

-- a request to a file leaves where others end
no_bytes : (r : Request) (x k : ℕ) → r.file ≡ x → (k ≡ x → ⊥) → bytes_to r k ≡ 0
no_bytes r x k is other = ap (λ (b : Bool). cond b (length r.bytes) 0) (ne_eqb r.file k (λ same. other (sym same ∙ is)))

-- and so do all but those of a file, wherever that ends now
line_without : (a b : Inodes) (x : ℕ) (f g : ℕ → ℕ) (l : List Request) → b.layout ≡ a.layout → b.shape ≡ a.shape → ((k : ℕ) → (k ≡ x → ⊥) → g k ≡ f k)
    → AreInLine a f l → AreInLine b g (filter (λ r. not (eqb r.file x)) l)
line_without a b x f g [] layout shape ends line = tt
line_without a b x f g (r ∷ l) layout shape ends line =
    elim (eqb r.file x) as (λ (c : Bool). eqb r.file x ≡ c → AreInLine b g (cond (not c) (r ∷ filter (λ r. not (eqb r.file x)) l) (filter (λ r. not (eqb r.file x)) l))) [
      | true ↦ λ same.
          line_without a b x (ends_behind f r) g l layout shape (λ k other. ends k other ∙ (let none = no_bytes r x k (eqb-true r.file x same) other in omega (arith, none))) line.1
      | false ↦ λ other. (
        in_place_on a b f g r layout shape (λ seq. ends r.file (λ same. false≢true (sym other ∙ eq-eqb r.file x same))) line.0,
        line_without a b x (ends_behind f r) (ends_behind g r) l layout shape (λ k apart. ap (λ (n : ℕ). n + bytes_to r k) (ends k apart)) line.1,
      )
    ] refl

-- one more, where the last of its file ends
line_more : (a : Inodes) (f : ℕ → ℕ) (l : List Request) (r : Request) → AreInLine a f l → IsInPlace a (λ k. f k + sum_by (λ q. bytes_to q k) l) r → AreInLine a f (l ++ r ∷ [])
line_more a f [] r line is = (in_place_on a a _ f r refl refl (λ seq. omega arith) is, tt)
line_more a f (q ∷ l) r line is = (
  line.0,
  line_more a (ends_behind f q) l r line.1 (in_place_on a a _ _ r refl refl (λ seq. let e = sum_by-cons (λ (p : Request). bytes_to p r.file) q l in omega (arith, e)) is),
)

-- ---- the requests that wait on a volume

-- with this request behind them, which begins at its file's last issued write
pub one_more : (inodes : Inodes) (queue : Queue) (r : Request) → AreInFlight inodes queue.queued → IsInPlace inodes (λ f. (shown_at inodes f).size + queued_bytes queue f) r
    → AreInFlight inodes (queue.queued ++ r ∷ [])
one_more inodes queue r flight is = record { line = line_more inodes (λ f. (shown_at inodes f).size) queue.queued r flight.line is }

-- what a file shows, or what it showed
size_there : (inodes : Inodes) (f : ℕ) (shown : Shown) → shown.size ≡ (shown_at inodes f).size → (k : ℕ) → (shown_at (with_shown inodes f shown) k).size ≡ (shown_at inodes k).size
size_there inodes f shown same k = elim (cases_eq k f) [
  | inl is ↦ subst (λ (k : ℕ). (shown_at (with_shown inodes f shown) k).size ≡ (shown_at inodes k).size) (sym is) (there)
  | inr other ↦ ap (λ (s : Shown). s.size) (get_or-set_other inodes.shown f k shown _ other)
]
  where
    there : (shown_at (with_shown inodes f shown) f).size ≡ (shown_at inodes f).size
    there = elim (cases_lt f (length inodes.shown)) [
      | inl below ↦ ap (λ (s : Shown). s.size) (get_or-set_same inodes.shown f shown _ below) ∙ same
      | inr past ↦ ap (λ (l : List Shown). (slice_index_or l f (showing 0 false false false)).size) (set_past inodes.shown f shown past)
    ]

-- where a file shows the same size
pub size_stays : (inodes : Inodes) (f : ℕ) (shown : Shown) (queued : List Request) → AreInFlight inodes queued → shown.size ≡ (shown_at inodes f).size → AreInFlight (with_shown inodes f shown) queued
size_stays inodes f shown queued flight same =
    record { line = line_on inodes (with_shown inodes f shown) (λ k. (shown_at inodes k).size) (λ k. (shown_at (with_shown inodes f shown) k).size) queued refl refl (λ k seq. size_there inodes f shown same k) flight.line }

-- without the requests of a file, whatever that shows now
pub without_file : (before after : Inodes) (f : ℕ) (queued : List Request) → after.layout ≡ before.layout → after.shape ≡ before.shape
    → ((k : ℕ) → (k ≡ f → ⊥) → (shown_at after k).size ≡ (shown_at before k).size) → AreInFlight before queued → AreInFlight after (filter (λ r. not (eqb r.file f)) queued)
without_file before after f queued layout shape others flight =
    record { line = line_without before after f (λ k. (shown_at before k).size) (λ k. (shown_at after k).size) queued layout shape others flight.line }

none_left : (f : ℕ) (queued : List Request) → list_any (λ r. eqb r.file f) queued ≡ false → filter (λ r. not (eqb r.file f)) queued ≡ queued
none_left f [] none = refl
none_left f (r ∷ queued) none =
    elim (eqb r.file f) as (λ (b : Bool). (b || list_any (λ r. eqb r.file f) queued) ≡ false → cond (not b) (r ∷ filter (λ r. not (eqb r.file f)) queued) (filter (λ r. not (eqb r.file f)) queued) ≡ r ∷ queued) [
      | true ↦ λ e. absurd (false≢true (sym e))
      | false ↦ λ e. ap (λ (l : List Request). r ∷ l) (none_left f queued e)
    ] none

-- where none waits for the file that shows something else
pub idle_set : (inodes : Inodes) (f : ℕ) (shown : Shown) (queue : Queue) → AreInFlight inodes queue.queued → is_queued queue f ≡ false → AreInFlight (with_shown inodes f shown) queue.queued
idle_set inodes f shown queue flight idle =
    subst (λ (l : List Request). AreInFlight (with_shown inodes f shown) l) (none_left f queue.queued idle)
    (without_file inodes (with_shown inodes f shown) f queue.queued refl refl (λ k other. ap (λ (s : Shown). s.size) (get_or-set_other inodes.shown f k shown _ other)) flight)

-- ---- the oldest

pub first_in_place : (inodes : Inodes) (queued : List Request) (oldest : Request) (waiting : List Request) → queued ≡ oldest ∷ waiting → AreInFlight inodes queued → IsInPlace inodes (λ f. (shown_at inodes f).size) oldest
first_in_place inodes queued oldest waiting first flight = (subst (λ (l : List Request). AreInFlight inodes l) first flight).line.0

-- it can be written
pub first_writable : (inodes : Inodes) (queued : List Request) (oldest : Request) (waiting : List Request) → queued ≡ oldest ∷ waiting → AreInFlight inodes queued
    → IsWritable inodes.shape (file_at inodes oldest.file) (shown_at inodes oldest.file) oldest.offset (length oldest.bytes)
first_writable inodes queued oldest waiting first flight =
    let is = first_in_place inodes queued oldest waiting first flight in
    record {
      aligned = is.aligned;
      whole = is.whole;
      some = is.some;
      inside = is.inside;
      behind = λ seq. omega (arith, is.follows seq, is.inside);
    }

-- what its file shows then
pub grown_by : (seq : Bool) (size len capacity : ℕ) → size ≤ capacity → (seq ≡ true → size + len ≤ capacity) → (if seq then size + len else size) ≤ capacity
grown_by true size len capacity below more = more refl
grown_by false size len capacity below more = below

pub grown_size : (inodes : Inodes) (queued : List Request) (oldest : Request) (waiting : List Request) → queued ≡ oldest ∷ waiting → AreInFlight inodes queued → (shown_at inodes oldest.file).size ≤ capacity_at inodes oldest.file
    → (grown inodes.shape (file_at inodes oldest.file) (shown_at inodes oldest.file) (length oldest.bytes)).size ≤ capacity_at inodes oldest.file
grown_size inodes queued oldest waiting first flight below =
    grown_by (file_at inodes oldest.file).seq (shown_at inodes oldest.file).size (length oldest.bytes) (capacity_at inodes oldest.file) below (λ seq. (first_writable inodes queued oldest waiting first flight).behind seq)

-- and those behind it can be carried out after it
pub first_done : (inodes : Inodes) (queued : List Request) (oldest : Request) (waiting : List Request) (shown : Shown) → queued ≡ oldest ∷ waiting → AreInFlight inodes queued → oldest.file < length inodes.shown
    → shown ≡ grown inodes.shape (file_at inodes oldest.file) (shown_at inodes oldest.file) (length oldest.bytes) → AreInFlight (with_shown inodes oldest.file shown) waiting
first_done inodes queued oldest waiting shown first flight known grows = record {
  line = line_on inodes (with_shown inodes oldest.file shown) (ends_behind (λ k. (shown_at inodes k).size) oldest) (λ k. (shown_at (with_shown inodes oldest.file shown) k).size) waiting refl refl ends
      (subst (λ (l : List Request). AreInFlight inodes l) first flight).line.1;
}
  where
    ends : (k : ℕ) → (file_at inodes k).seq ≡ true → (shown_at (with_shown inodes oldest.file shown) k).size ≡ (shown_at inodes k).size + bytes_to oldest k
    ends k seq = elim (cases_eq k oldest.file) [
      | inl same ↦ subst (λ (k : ℕ). (file_at inodes k).seq ≡ true → (shown_at (with_shown inodes oldest.file shown) k).size ≡ (shown_at inodes k).size + bytes_to oldest k) (sym same) own seq
      | inr other ↦ ap (λ (s : Shown). s.size) (get_or-set_other inodes.shown oldest.file k shown _ other) ∙ (let none = no_bytes oldest oldest.file k refl other in omega (arith, none))
    ]
      where
        own : (file_at inodes oldest.file).seq ≡ true → (shown_at (with_shown inodes oldest.file shown) oldest.file).size ≡ (shown_at inodes oldest.file).size + bytes_to oldest oldest.file
        own seq =
            ap (λ (s : Shown). s.size) (get_or-set_same inodes.shown oldest.file shown _ known ∙ grows)
            ∙ ap (λ (b : Bool). if b then (shown_at inodes oldest.file).size + length oldest.bytes else (shown_at inodes oldest.file).size) seq
            ∙ ap (λ (b : Bool). (shown_at inodes oldest.file).size + cond b (length oldest.bytes) 0) (sym (eq-eqb oldest.file oldest.file refl))
