use Rattle.std.proofs.Common.{arith, ◌≡◌, ◌+◌, true, false, subst, refl, ℕ, ◌<◌, List, length, get_or, sym, ap, ◌∙◌}
use Rattle.std.proofs.lemmas.Grind.{get_or-set_at}
use Rattle.std.specs.Prelude.{Bool, slice_set, is_some, nat_lt, not, ◌&&◌, if◌then◌else◌}
use Rattle.std.proofs.lemmas.Bool.Decides.{nat_tests}
use Rattle.std.proofs.lemmas.List.{ext_get_or, get_or-set_other, length-set}
use Rattle.zn_stand.specs.File.{value_left}
use Rattle.zn_files.specs.Images.{filled}
use Rattle.zn_files.specs.Traces.{TracesSync}
use Rattle.zn_files.specs.declared.traced.Traced.{Traced}
use Rattle.zn_files.proofs.Leaving.{length-filled, filled_at}
use Rattle.zn_files.proofs.traced.Traced.filled.Goals as goal
use Rattle.zn_files.proofs.traced.Traced.filled.Goals.{then-is_free, else-is_free}

fill_here : (i n len value byte : ℕ) (b : Bool) → i < n → i < len → (if nat_lt i n && not b && nat_lt i len then value else byte) ≡ (if b then byte else value)
fill_here i n len value byte b in_n in_len = grind (arith, nat_tests)

pub returns : goal.returns
returns c = λ f traces. ext_get_or 0 c.loop-i.file.bytes.items (filled c.args.value f) (c.loop-i.invariant.len ∙ ap length traces.bytes ∙ sym (length-filled c.args.value f)) (λ i h.
    let within : i < length c.args.self.bytes.items = omega (arith, c.loop-i.invariant.len) in
    let done : i < c.loop-i.i = omega (arith, c.loop-i-test.false, c.len-i-end.ensures) in
    c.loop-i.invariant.fill f traces i ∙ fill_here i c.loop-i.i (length c.args.self.bytes.items) c.args.value (get_or f.bytes i 0) (is_some (value_left f i)) done within
    ∙ sym (filled_at c.args.value f i (omega (arith, ap length traces.bytes))))

-- one place more, which is free
fill_free : (bytes : List ℕ) (i n value : ℕ) (b : ℕ → Bool) (byte : ℕ → ℕ) → length bytes ≡ n → i < n → b i ≡ false → ((k : ℕ) → get_or bytes k 0 ≡ (if nat_lt k i && not (b k) && nat_lt k n then value else byte k))
    → (k : ℕ) → get_or (slice_set bytes i value) k 0 ≡ (if nat_lt k (i + 1) && not (b k) && nat_lt k n then value else byte k)
fill_free bytes i n value b byte len within free fill k = grind (arith, nat_tests, get_or-set_at bytes i k value 0, get_or-set_other bytes i k value 0, fill k)

-- one place more, which is not
fill_known : (bytes : List ℕ) (i n value : ℕ) (b : ℕ → Bool) (byte : ℕ → ℕ) → b i ≡ true → ((k : ℕ) → get_or bytes k 0 ≡ (if nat_lt k i && not (b k) && nat_lt k n then value else byte k))
    → (k : ℕ) → get_or bytes k 0 ≡ (if nat_lt k (i + 1) && not (b k) && nat_lt k n then value else byte k)
fill_known bytes i n value b byte known fill k = grind (arith, nat_tests, fill k)

not_free : (b known : Bool) → b ≡ true → b ≡ not known → known ≡ false
not_free true false is same = refl
not_free true true is same = same
not_free false known is same = absurd (cc)

not_known : (b known : Bool) → b ≡ false → b ≡ not known → known ≡ true
not_known false true is same = refl
not_known false false is same = same
not_known true known is same = absurd (cc)

pub loop-i-preserved : goal.loop-i-preserved
loop-i-preserved c = elim c.if-is_free.branch [
  | then-is_free w ↦ record {
    sync = λ f traces. let was = c.loop-i.invariant.sync f traces in subst (λ (t : Traced). TracesSync t f) (sym w.file-is) (record { at_sync = was.at_sync; is_written = was.is_written; is_added = was.is_added });
    len = ap (λ (t : Traced). length t.bytes.items) w.file-is ∙ length-set c.loop-i.file.bytes.items c.loop-i.i c.args.value ∙ c.loop-i.invariant.len;
    fill = λ f traces k. ap (λ (t : Traced). get_or t.bytes.items k 0) w.file-is
        ∙ fill_free c.loop-i.file.bytes.items c.loop-i.i (length c.args.self.bytes.items) c.args.value (λ i. is_some (value_left f i)) (λ i. get_or f.bytes i 0) c.loop-i.invariant.len (omega (arith, c.loop-i-test.true, c.len-i-end.ensures))
        (not_free c.is_free.result (is_some (value_left f c.loop-i.i)) w.if-is_free.true (c.is_free.ensures f (c.loop-i.invariant.sync f traces.sync))) (c.loop-i.invariant.fill f traces) k;
  }
  | else-is_free w ↦ record {
    sync = λ f traces. subst (λ (t : Traced). TracesSync t f) (sym w.file-is) (c.loop-i.invariant.sync f traces);
    len = ap (λ (t : Traced). length t.bytes.items) w.file-is ∙ c.loop-i.invariant.len;
    fill = λ f traces k. ap (λ (t : Traced). get_or t.bytes.items k 0) w.file-is
        ∙ fill_known c.loop-i.file.bytes.items c.loop-i.i (length c.args.self.bytes.items) c.args.value (λ i. is_some (value_left f i)) (λ i. get_or f.bytes i 0)
        (not_known c.is_free.result (is_some (value_left f c.loop-i.i)) w.if-is_free.false (c.is_free.ensures f (c.loop-i.invariant.sync f traces.sync))) (c.loop-i.invariant.fill f traces) k;
  }
]
