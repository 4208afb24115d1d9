-- A volume that agrees with its device, and what may change of it.
use Rattle.std.proofs.Common.{◌≡◌, inl, inr, ℕ, ◌+◌, ◌*◌, ◌/◌, ◌<◌, ◌≤◌, Bool, true, false, cond, List, [], ◌∷◌, length, refl, sym, ap, ◌∙◌, subst, get_or, arith}
use Rattle.std.specs.Prelude.{if◌then◌else◌, not, ◌==◌, sum_by, filter, ◌||◌}
use Rattle.std.specs.List.{All, list_any}
use Rattle.std.proofs.lemmas.Bool.{cases_eq, cases_lt, true≢false}
use Rattle.std.proofs.lemmas.List.{get_or-set_same, get_or-set_other, set_past}
use Rattle.std.proofs.lemmas.List.Sums.{sum_by-cons}
use Rattle.zn_truth.specs.Truth.{Geometry}
use Rattle.zn_model.specs.declared.files.Shown.{Shown}
use Rattle.zn_model.specs.ShownStates.{showing}
use Rattle.zn_model.specs.Volume.{Inodes, Request, file_at, capacity_at, shown_at, with_shown}
use Rattle.zn_remains.proofs.Areas.{IsFileIn}

-- the bytes that wait for a file
abbrev pub waiting_bytes : List Request → ℕ → ℕ
waiting_bytes requests f = sum_by (λ (request : Request). if request.file == f then length request.bytes else 0) requests

-- a request is whole blocks of its file, and not none
pub record IsRequestFor (inodes : Inodes) (request : Request) : Type 0 where
  pub some : 0 < length request.bytes
  pub aligned : 4096 * (request.offset / 4096) ≡ request.offset
  pub whole : 4096 * (length request.bytes / 4096) ≡ length request.bytes
  pub inside : request.offset + length request.bytes ≤ capacity_at inodes request.file

-- Files and requests that agree with a device: each file's zones are there, no file shows more than it has room for, nor a
-- sequential one with what waits for it, only sequential ones are held open, and what waits fits.
pub record Agrees (g : Geometry) (inodes : Inodes) (requests : List Request) : Type 0 where
  pub files : (f : ℕ) → IsFileIn g (file_at inodes f)
  pub shape : inodes.shape ≡ g.shape
  pub sizes : (f : ℕ) → (shown_at inodes f).size ≤ capacity_at inodes f
  pub ends : (f : ℕ) → (file_at inodes f).seq ≡ true → (shown_at inodes f).size + waiting_bytes requests f ≤ capacity_at inodes f
  pub held : (f : ℕ) → (shown_at inodes f).held_open ≡ true → (file_at inodes f).seq ≡ true
  pub waiting : All (IsRequestFor inodes) requests

-- ---- one file's state

-- what holds of the new state and of each old one holds of each after the change
pub shown_cases : (P : Shown → Type 0) (inodes : Inodes) (f k : ℕ) (shown : Shown) → (f ≡ k → P shown) → P (shown_at inodes k) → P (shown_at (with_shown inodes f shown) k)
shown_cases P inodes f k shown here there = elim (cases_eq f k) [
  | inl same ↦ elim (cases_lt f (length inodes.shown)) [
    | inl below ↦ subst P (sym (ap (λ (n : ℕ). shown_at (with_shown inodes n shown) k) same ∙ get_or-set_same inodes.shown k shown (showing 0 false false false) (subst (λ (n : ℕ). n < length inodes.shown) same below))) (here same)
    | inr past ↦ subst P (sym (ap (λ (states : List Shown). get_or states k (showing 0 false false false)) (set_past inodes.shown f shown past))) there
  ]
  | inr other ↦ subst P (sym (get_or-set_other inodes.shown f k shown (showing 0 false false false) (λ same. other (sym same)))) there
]

-- What changes of a volume: the state of one file, whether all is read-only, and what waits.
abbrev pub changed : Inodes → ℕ → Shown → Bool → Inodes
changed inodes f shown read_only = record (with_shown inodes f shown) { read_only = read_only }

-- requests of which no more wait for any file
abbrev pub Fewer : List Request → List Request → Type 0
Fewer before after = (f : ℕ) → waiting_bytes after f ≤ waiting_bytes before f

pub agrees_changed : (g : Geometry) (inodes : Inodes) (requests after : List Request) (f : ℕ) (shown : Shown) (read_only : Bool) → Agrees g inodes requests
    → shown.size ≤ capacity_at inodes f → ((file_at inodes f).seq ≡ true → shown.size + waiting_bytes after f ≤ capacity_at inodes f) → (shown.held_open ≡ true → (file_at inodes f).seq ≡ true)
    → Fewer requests after → All (IsRequestFor inodes) after → Agrees g (changed inodes f shown read_only) after
agrees_changed g inodes requests after f shown read_only agrees size end held fewer waiting = record {
  files = agrees.files;
  shape = agrees.shape;
  sizes = λ k. shown_cases (λ (s : Shown). s.size ≤ capacity_at inodes k) inodes f k shown (λ same. subst (λ (n : ℕ). shown.size ≤ capacity_at inodes n) same size) (agrees.sizes k);
  ends = λ k seq. shown_cases (λ (s : Shown). s.size + waiting_bytes after k ≤ capacity_at inodes k) inodes f k shown
      (λ same. subst (λ (n : ℕ). (file_at inodes n).seq ≡ true → shown.size + waiting_bytes after n ≤ capacity_at inodes n) same end seq)
      (omega (arith, agrees.ends k seq, fewer k));
  held = λ k. shown_cases (λ (s : Shown). s.held_open ≡ true → (file_at inodes k).seq ≡ true) inodes f k shown (λ same. subst (λ (n : ℕ). shown.held_open ≡ true → (file_at inodes n).seq ≡ true) same held) (agrees.held k);
  waiting = λ k d below. let fits = waiting k d below in record { some = fits.some; aligned = fits.aligned; whole = fits.whole; inside = fits.inside };
}

-- ---- requests

pub bytes-cons : (request : Request) (requests : List Request) (f : ℕ) → waiting_bytes (request ∷ requests) f ≡ (if request.file == f then length request.bytes else 0) + waiting_bytes requests f
bytes-cons request requests f = sum_by-cons (λ (r : Request). if r.file == f then length r.bytes else 0) request requests

pub no_fewer : (requests : List Request) → Fewer requests requests
no_fewer requests f = omega arith

-- the requests that wait for other files
abbrev pub others : ℕ → List Request → List Request
others f requests = filter (λ (request : Request). not (request.file == f)) requests

dropped_fewer : (f k : ℕ) (b : Bool) (request : Request) (rest : List Request) (n : ℕ) → waiting_bytes rest k ≤ n → waiting_bytes (cond b (request ∷ rest) rest) k ≤ (if request.file == k then length request.bytes else 0) + n
dropped_fewer f k true request rest n h = omega (arith, bytes-cons request rest k, h)
dropped_fewer f k false request rest n h = omega (arith, h)

pub others_fewer : (f : ℕ) (requests : List Request) → Fewer requests (others f requests)
others_fewer f [] k = omega arith
others_fewer f (request ∷ requests) k =
    omega (arith, bytes-cons request requests k, dropped_fewer f k (not (request.file == f)) request (others f requests) (waiting_bytes requests k) (others_fewer f requests k))

-- none of them waits for the file
none_here : (f : ℕ) (request : Request) (rest : List Request) (same : Bool) → (request.file == f) ≡ same → waiting_bytes rest f ≡ 0 → waiting_bytes (cond (not same) (request ∷ rest) rest) f ≡ 0
none_here f request rest true is none = none
none_here f request rest false is none = bytes-cons request rest f ∙ ap (λ (b : Bool). (if b then length request.bytes else 0) + waiting_bytes rest f) is ∙ omega (arith, none)

pub others_none : (f : ℕ) (requests : List Request) → waiting_bytes (others f requests) f ≡ 0
others_none f [] = refl
others_none f (request ∷ requests) =
    none_here f request (others f requests) (request.file == f) refl (others_none f requests)

-- a file for which nothing waits
pub none_waits : (f : ℕ) (requests : List Request) → list_any (λ (request : Request). request.file == f) requests ≡ false → waiting_bytes requests f ≡ 0
none_waits f [] none = refl
none_waits f (request ∷ requests) none = bytes-cons request requests f ∙ by_test (request.file == f) (none_waits f requests) none
  where
    by_test : (b : Bool) → (list_any (λ (r : Request). r.file == f) requests ≡ false → waiting_bytes requests f ≡ 0) → (b || list_any (λ (r : Request). r.file == f) requests) ≡ false → (if b then length request.bytes else 0) + waiting_bytes requests f ≡ 0
    by_test true waits is = absurd (true≢false is)
    by_test false waits is = omega (arith, waits is)
