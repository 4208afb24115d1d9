-- The bytes of a file's requests, and which handles requests were submitted through.
use Rattle.std.proofs.Common.{◌≡◌, ℕ, ◌+◌, ◌*◌, ◌<◌, ◌≤◌, Bool, true, false, ◌||◌, eqb, cond, List, [], ◌∷◌, length, map, filter, sum, IsTrue, Option, refl, sym, ap, ◌∙◌, arith}
use Rattle.std.specs.List.{AllByRecursion, sum_by, list_any}
use Rattle.std.proofs.lemmas.List.Sums.{sum_by-cons}
use Rattle.zn_truth.specs.declared.limits.TheConstants.{BLOCK_SIZE}
use Rattle.zn_model.specs.declared.handles.Handle.{Handle}
use Rattle.zn_model.specs.Volume.{Request, is_same_handle}
use Rattle.zn_pool.specs.PoolState.{LeaseState}
use Rattle.zn_queue.specs.declared.queue.Waiting.{Waiting}
use Rattle.zn_queue.specs.Kept.{request_in, HasLease, blocks_in}
use Rattle.zn_queue.proofs.LeaseLaws.{blocks_in-cons}

-- the bytes of requests that a test lets pass
abbrev pub passed : (Waiting → Bool) → List Waiting → ℕ
passed p all = sum (map (λ w. w.request.len) (filter p all))

passed-cons : (p : Waiting → Bool) (w : Waiting) (all : List Waiting) → passed p (w ∷ all) ≡ cond (p w) w.request.len 0 + passed p all
passed-cons p w all = by_test (p w)
  where
    by_test : (b : Bool) → sum (map (λ v. v.request.len) (cond b (w ∷ filter p all) (filter p all))) ≡ cond b w.request.len 0 + passed p all
    by_test true = sum_by-cons (λ n. n) w.request.len (map (λ v. v.request.len) (filter p all))
    by_test false = omega arith

module _ (file : ℕ) (live : List (Option LeaseState)) where
  pub passed_bytes : (all : List Waiting) → AllByRecursion (HasLease live) all → passed (λ w. eqb w.request.file file) all ≡ sum_by (λ r. cond (eqb r.file file) (length r.bytes) 0) (map (request_in live) all)
  passed_bytes [] each = refl
  passed_bytes (w ∷ all) each =
      let r = request_in live w in
      let test = eqb w.request.file file in
      passed-cons (λ v. eqb v.request.file file) w all
      ∙ ap (λ n. cond test w.request.len 0 + n) (passed_bytes all each.1)
      ∙ ap (λ n. cond test n 0 + sum_by (λ (q : Request). cond (eqb q.file file) (length q.bytes) 0) (map (request_in live) all)) (sym each.0.bytes)
      ∙ sym (sum_by-cons (λ (q : Request). cond (eqb q.file file) (length q.bytes) 0) r (map (request_in live) all))

  pub passed_most : (all : List Waiting) → AllByRecursion (HasLease live) all → passed (λ w. eqb w.request.file file) all ≤ BLOCK_SIZE * blocks_in all
  passed_most [] each = omega arith
  passed_most (w ∷ all) each =
      let part : cond (eqb w.request.file file) w.request.len 0 ≤ w.request.len = no_more (eqb w.request.file file) w.request.len in
      let most = passed_most all each.1 in
      omega (arith, passed-cons (λ v. eqb v.request.file file) w all, each.0.len, blocks_in-cons w all)
    where
      no_more : (b : Bool) (n : ℕ) → cond b n 0 ≤ n
      no_more true n = omega arith
      no_more false n = omega arith

  pub passed_some : (all : List Waiting) → AllByRecursion (HasLease live) all → 0 < passed (λ w. eqb w.request.file file) all → IsTrue (list_any (λ r. eqb r.file file) (map (request_in live) all))
  passed_some [] each some = absurd (omega arith)
  passed_some (w ∷ all) each some =
      by_test (passed_some all each.1) (eqb w.request.file file) (omega (arith, passed-cons (λ v. eqb v.request.file file) w all))
    where
      by_test : (0 < passed (λ v. eqb v.request.file file) all → IsTrue (list_any (λ r. eqb r.file file) (map (request_in live) all))) → (b : Bool) → 0 < cond b w.request.len 0 + passed (λ v. eqb v.request.file file) all → (b || list_any (λ r. eqb r.file file) (map (request_in live) all)) ≡ true
      by_test later true more = refl
      by_test later false more = later (omega arith)

  pub some_passed : (all : List Waiting) → AllByRecursion (HasLease live) all → IsTrue (list_any (λ r. eqb r.file file) (map (request_in live) all)) → 0 < passed (λ w. eqb w.request.file file) all
  some_passed [] each any = absurd cc
  some_passed (w ∷ all) each any =
      let more = by_test (some_passed all each.1) (eqb w.request.file file) any in
      omega (arith, more, passed-cons (λ v. eqb v.request.file file) w all)
    where
      by_test : (IsTrue (list_any (λ r. eqb r.file file) (map (request_in live) all)) → 0 < passed (λ v. eqb v.request.file file) all) → (b : Bool) → (b || list_any (λ r. eqb r.file file) (map (request_in live) all)) ≡ true → 0 < cond b w.request.len 0 + passed (λ v. eqb v.request.file file) all
      by_test later true any = let long : 1 ≤ w.request.len = omega (arith, each.0.len, each.0.some) in omega arith
      by_test later false any = omega (arith, later any)

pub any_through : (live : List (Option LeaseState)) (key : Handle) (all : List Waiting) → list_any (λ w. is_same_handle w.request.key key) all ≡ list_any (λ r. is_same_handle r.handle key) (map (request_in live) all)
any_through live key [] = refl
any_through live key (w ∷ all) = ap (λ b. is_same_handle w.request.key key || b) (any_through live key all)
