-- The requests of a file end, and the others go round once.
use Rattle.std.proofs.Common.{◌≡◌, ℕ, ◌+◌, ◌<◌, ◌≤◌, Bool, true, false, not, eqb, cond, List, [], ◌∷◌, ◌++◌, length, get_or, take, drop, map, filter, Option, Some, None, refl, sym, ap, ◌∙◌, arith}
use Rattle.std.specs.Option.{option_map}
use Rattle.std.proofs.lemmas.List.{append-nil, append_assoc, length-append, drop_more, drop_all, take_all, map_push}
use Rattle.std.proofs.lemmas.List.Elements.{filter_more}
use Rattle.zn_model.specs.declared.handles.Done.{Done}
use Rattle.zn_model.specs.declared.answers.Outcome.TheVariants.{IoError}
use Rattle.zn_model.specs.Volume.{failed_request}
use Rattle.zn_pool.specs.PoolState.{PoolState, LeaseState, size_of, blocks_of, given}
use Rattle.zn_queue.specs.declared.queue.Waiting.{Waiting}
use Rattle.zn_queue.specs.Kept.{first_block, request_in, IsShared}
use Rattle.zn_queue.proofs.LeaseLaws.{requests-given, leased-rotated, blocks_in-cons, blocks_in-push}

-- a request is of a file, or of another one
abbrev pub is_of : ℕ → Waiting → Bool
is_of file w = eqb w.request.file file

abbrev pub is_other : ℕ → Waiting → Bool
is_other file w = not (eqb w.request.file file)

-- it ends with an input or output error
abbrev pub failed_done : Waiting → Done
failed_done w = record { ticket = w.request.ticket; outcome = IoError }

-- After so many requests went by, the others of these stand behind the rest, and those of the file have ended.
pub record IsRotated (file k : ℕ) (pool pool' : PoolState) (all all' : List Waiting) (ended ended' : List Done) : Type 0 where
  pub shared : IsShared pool' all'
  pub order : all' ≡ drop k all ++ filter (is_other file) (take k all)
  pub done : ended' ≡ ended ++ map failed_done (filter (is_of file) (take k all))
  pub requests : map (request_in pool'.live) all' ≡ map (request_in pool.live) all'

pub rotated_none : (file : ℕ) (pool : PoolState) (all : List Waiting) (ended : List Done) → IsShared pool all → IsRotated file 0 pool pool all all ended ended
rotated_none file pool all ended shared = record {
  shared = shared;
  order = sym (append-nil all);
  done = sym (append-nil ended);
  requests = refl;
}

-- the blocks of a lease that has a size
size_blocks : (o : Option LeaseState) (n : ℕ) → option_map (λ (lease : LeaseState). length lease.blocks) o ≡ Some n → length (blocks_of o) ≡ n
size_blocks None n is = absurd cc
size_blocks (Some l) n is = cc

same_head : {X : Type 0} (x y : X) (xs ys : List X) → x ∷ xs ≡ y ∷ ys → x ≡ y
same_head x y xs ys same = cc

same_tail : {X : Type 0} (x y : X) (xs ys : List X) → x ∷ xs ≡ y ∷ ys → xs ≡ ys
same_tail x y xs ys same = cc

module _ (file k : ℕ) (pool pool' : PoolState) (all : List Waiting) (w : Waiting) (rest : List Waiting) (ended ended' : List Done) (more : k < length all) (it : IsRotated file k pool pool' all (w ∷ rest) ended ended') where
  next_is : w ∷ rest ≡ get_or all k w ∷ (drop (k + 1) all ++ filter (is_other file) (take k all))
  next_is = it.order ∙ ap (λ xs. xs ++ filter (is_other file) (take k all)) (drop_more all k w more)

  first_is : w ≡ get_or all k w
  first_is = same_head w (get_or all k w) rest (drop (k + 1) all ++ filter (is_other file) (take k all)) next_is

  rest_is : rest ≡ drop (k + 1) all ++ filter (is_other file) (take k all)
  rest_is = same_tail w (get_or all k w) rest (drop (k + 1) all ++ filter (is_other file) (take k all)) next_is

  -- one more that goes by, by a test
  filter_next : (p : Waiting → Bool) → filter p (take (k + 1) all) ≡ filter p (take k all) ++ cond (p w) (w ∷ []) []
  filter_next p = filter_more p all k w more ∙ ap (λ x. filter p (take k all) ++ cond (p x) (x ∷ []) []) (sym first_is)

  -- a request of another file goes behind the rest
  pub rotated_other : eqb w.request.file file ≡ false → IsRotated file (k + 1) pool pool' all (rest ++ w ∷ []) ended ended'
  rotated_other other =
      let kept = filter_next (is_other file) ∙ ap (λ b. filter (is_other file) (take k all) ++ cond (not b) (w ∷ []) []) other in
      let gone = filter_next (is_of file) ∙ ap (λ b. filter (is_of file) (take k all) ++ cond b (w ∷ []) []) other ∙ append-nil (filter (is_of file) (take k all)) in
      let here = same_head (request_in pool'.live w) (request_in pool.live w) (map (request_in pool'.live) rest) (map (request_in pool.live) rest) it.requests in
      let there = same_tail (request_in pool'.live w) (request_in pool.live w) (map (request_in pool'.live) rest) (map (request_in pool.live) rest) it.requests in
      record {
        shared = record {
          leased = leased-rotated w rest pool'.live it.shared.leased;
          total = omega (arith, it.shared.total, blocks_in-cons w rest, blocks_in-push rest w);
        };
        order =
            ap (λ xs. xs ++ w ∷ []) rest_is
            ∙ append_assoc (drop (k + 1) all) (filter (is_other file) (take k all)) (w ∷ [])
            ∙ ap (λ xs. drop (k + 1) all ++ xs) (sym kept);
        done = it.done ∙ ap (λ xs. ended ++ map failed_done xs) (sym gone);
        requests =
            map_push (request_in pool'.live) rest w
            ∙ ap (λ rs. rs ++ request_in pool'.live w ∷ []) there
            ∙ ap (λ r. map (request_in pool.live) rest ++ r ∷ []) here
            ∙ sym (map_push (request_in pool.live) rest w);
      }

  -- a request of the file ends
  pub rotated_failed : eqb w.request.file file ≡ true → IsRotated file (k + 1) pool (given pool' (first_block w)) all rest ended (ended' ++ failed_done w ∷ [])
  rotated_failed same =
      let f = first_block w in
      let kept = filter_next (is_other file) ∙ ap (λ b. filter (is_other file) (take k all) ++ cond (not b) (w ∷ []) []) same ∙ append-nil (filter (is_other file) (take k all)) in
      let gone = filter_next (is_of file) ∙ ap (λ b. filter (is_of file) (take k all) ++ cond b (w ∷ []) []) same in
      let there = same_tail (request_in pool'.live w) (request_in pool.live w) (map (request_in pool'.live) rest) (map (request_in pool.live) rest) it.requests in
      let back = size_blocks (get_or pool'.live f None) (size_of w.lease) it.shared.leased.0.size in
      record {
        shared = record {
          leased = it.shared.leased.1;
          total = omega (arith, it.shared.total, blocks_in-cons w rest, back, length-append (blocks_of (get_or pool'.live f None)) pool'.free);
        };
        order = rest_is ∙ ap (λ xs. drop (k + 1) all ++ xs) (sym kept);
        done =
            ap (λ xs. xs ++ failed_done w ∷ []) it.done
            ∙ append_assoc ended (map failed_done (filter (is_of file) (take k all))) (failed_done w ∷ [])
            ∙ ap (λ xs. ended ++ xs) (sym (map_push failed_done (filter (is_of file) (take k all)) w))
            ∙ ap (λ xs. ended ++ map failed_done xs) (sym gone);
        requests = requests-given rest pool'.live f it.shared.leased.1 ∙ there;
      }

-- ---- once all went by

filter_requests : (file : ℕ) (live : List (Option LeaseState)) (all : List Waiting) → map (request_in live) (filter (is_other file) all) ≡ filter (λ r. not (eqb r.file file)) (map (request_in live) all)
filter_requests file live [] = refl
filter_requests file live (w ∷ all) = by_test (filter_requests file live all) (not (eqb w.request.file file))
  where
    by_test : map (request_in live) (filter (is_other file) all) ≡ filter (λ r. not (eqb r.file file)) (map (request_in live) all) → (b : Bool) → map (request_in live) (cond b (w ∷ filter (is_other file) all) (filter (is_other file) all)) ≡ cond b (request_in live w ∷ filter (λ r. not (eqb r.file file)) (map (request_in live) all)) (filter (λ r. not (eqb r.file file)) (map (request_in live) all))
    by_test same true = ap (λ rs. request_in live w ∷ rs) same
    by_test same false = same

pub rotated_requests : (file k : ℕ) (pool pool' : PoolState) (all all' : List Waiting) (ended ended' : List Done) → length all ≤ k → IsRotated file k pool pool' all all' ended ended' → map (request_in pool'.live) all' ≡ filter (λ r. not (eqb r.file file)) (map (request_in pool.live) all)
rotated_requests file k pool pool' all all' ended ended' over it =
    let whole = it.order ∙ ap (λ xs. xs ++ filter (is_other file) (take k all)) (drop_all k all over) ∙ ap (filter (is_other file)) (take_all k all over) in
    it.requests ∙ ap (map (request_in pool.live)) whole ∙ filter_requests file pool.live all

pub rotated_ended : (file k : ℕ) (pool pool' : PoolState) (all all' : List Waiting) (ended ended' : List Done) → length all ≤ k → IsRotated file k pool pool' all all' ended ended' → ended' ≡ ended ++ map failed_done (filter (is_of file) all)
rotated_ended file k pool pool' all all' ended ended' over it =
    it.done ∙ ap (λ xs. ended ++ map failed_done (filter (is_of file) xs)) (take_all k all over)

-- the outcomes of a file's requests
pub failed_requests : (file : ℕ) (live : List (Option LeaseState)) (all : List Waiting) → map failed_done (filter (is_of file) all) ≡ map failed_request (filter (λ r. eqb r.file file) (map (request_in live) all))
failed_requests file live [] = refl
failed_requests file live (w ∷ all) = by_test (failed_requests file live all) (eqb w.request.file file)
  where
    by_test : map failed_done (filter (is_of file) all) ≡ map failed_request (filter (λ r. eqb r.file file) (map (request_in live) all)) → (b : Bool) → map failed_done (cond b (w ∷ filter (is_of file) all) (filter (is_of file) all)) ≡ map failed_request (cond b (request_in live w ∷ filter (λ r. eqb r.file file) (map (request_in live) all)) (filter (λ r. eqb r.file file) (map (request_in live) all)))
    by_test same true = ap (λ ds. failed_done w ∷ ds) same
    by_test same false = same
