-- Sums of coefficients times samples, in 64 bits and in 128.
use Rattle.std.proofs.Common.{◌≡◌, ℕ, ◌+◌, ◌-◌, ◌*◌, ◌^◌, ◌<◌, ◌≤◌, List, length, take, drop, get_or, ℤ, pos, sym, ap, ◌∙◌, arith, add-one}
use Rattle.std.specs.Prelude.{unsigned_abs, neg_ℤ, ◌+ℤ◌, ◌-ℤ◌, ◌*ℤ◌}
use Rattle.std.proofs.lemmas.Int.{ints, clamps, unsigned_abs-mul}
use Rattle.std.proofs.lemmas.List.{get_or-drop, take_all}
use Rattle.std.proofs.lemmas.List.Sums.{sum_by_more, sum_by-take-le}
use Rattle.std.proofs.Math.Nat.{add-mul, mul-le-mul_left, mul-le-mul_right}
use Rattle.graph_model.specs.Bounds.{weight}
use Rattle.graph_model.specs.Filters.{products}
use Rattle.graph_model.specs.Rounding.{clamped, rounded}
use Rattle.fixed_kernels.specs.Sums.{IsPart, IsSum, IsWidePart, IsWideSum}
use Rattle.fixed_kernels.specs.Sections.{IsSmallTail, next_tail}
use Rattle.fixed_kernels.specs.declared.section.Section.{Section}
use Rattle.fixed_kernels.specs.declared.section.Tail.{Tail}
use Rattle.fixed_kernels.proofs.SumLaws.{products-take_more}

pub abs-within : (t x : ℤ) (b : ℕ) → unsigned_abs x ≤ b → unsigned_abs (t *ℤ x) ≤ unsigned_abs t * b
abs-within t x b h = let e = unsigned_abs-mul t x in let l = mul-le-mul_left (unsigned_abs t) h in omega arith

abs-clamped : (a : ℤ) (m : ℕ) → unsigned_abs (clamped a (neg_ℤ (pos m)) (pos m)) ≤ m
abs-clamped a m = omega (arith, ints, clamps)

-- what is kept after a step is small again
pub small_next : (s : Section) (m : ℕ) (t : Tail) (x : ℤ) → IsSmallTail s m t → unsigned_abs x ≤ m → IsSmallTail s m (next_tail s t x)
small_next s m t x small within = record {
  x1 = within;
  x2 = small.x1;
  y1 = let size = abs-clamped
      (rounded (((((s.b0 *ℤ x) +ℤ (s.b1 *ℤ t.x1)) +ℤ (s.b2 *ℤ t.x2)) -ℤ (s.a1 *ℤ t.y1)) -ℤ (s.a2 *ℤ t.y2)) s.shift) (2 ^ s.bits - 1) in omega arith;
  y2 = small.y1;
}

-- the weight of one coefficient more, times the greatest sample
pub weight_more : (ts : List ℤ) (k most : ℕ) → k < length ts
    → weight (take (k + 1) ts) * most ≡ weight (take k ts) * most + unsigned_abs (get_or ts k (pos 0)) * most
weight_more ts k most lt =
    ap (λ w. w * most) (sum_by_more unsigned_abs ts k (pos 0) lt) ∙ add-mul (weight (take k ts)) (unsigned_abs (get_or ts k (pos 0))) most

pub weight_part : (ts : List ℤ) (k most : ℕ) → weight (take k ts) * most ≤ weight ts * most
weight_part ts k most = mul-le-mul_right most (sum_by-take-le unsigned_abs ts k)

-- one coefficient more, from j on
pub part_fits : (most : ℕ) (ts xs : List ℤ) (j k : ℕ) (sum : ℤ) → k < length ts → weight ts * most ≤ 2 ^ 62 → IsPart most ts xs j k sum
    → unsigned_abs sum + unsigned_abs (get_or ts k (pos 0)) * most ≤ 2 ^ 62
part_fits most ts xs j k sum lt small part =
    let more = weight_more ts k most lt in
    let all = weight_part ts (k + 1) most in
    let size = part.size in
    omega arith

pub part_more : (most : ℕ) (ts xs : List ℤ) (j k : ℕ) (sum new : ℤ) → k < length ts → IsPart most ts xs j k sum
    → new ≡ sum +ℤ (get_or ts k (pos 0) *ℤ get_or xs (j + k) (pos 0)) → unsigned_abs new ≤ unsigned_abs sum + unsigned_abs (get_or ts k (pos 0)) * most
    → IsPart most ts xs j (k + 1) new
part_more most ts xs j k sum new lt part is small = record {
  value = is
      ∙ ap (λ s. s +ℤ (get_or ts k (pos 0) *ℤ get_or xs (j + k) (pos 0))) part.value
      ∙ ap (λ y. products (take k ts) (drop j xs) +ℤ (get_or ts k (pos 0) *ℤ y)) (sym (get_or-drop j xs k (pos 0)))
      ∙ sym (products-take_more ts (drop j xs) k)
      ∙ ap (λ i. products (take i ts) (drop j xs)) (sym (add-one k));
  size = let more = weight_more ts k most lt in let size = part.size in omega arith;
}

pub part_all : (most : ℕ) (ts xs : List ℤ) (j k : ℕ) (sum : ℤ) → length ts ≤ k → weight ts * most ≤ 2 ^ 62 → IsPart most ts xs j k sum → IsSum ts xs j sum
part_all most ts xs j k sum le small part =
    let whole : take k ts ≡ ts = take_all k ts le in
    record {
      value = part.value ∙ ap (λ zs. products zs (drop j xs)) whole;
      size = let all = weight_part ts k most in let size = part.size in omega arith;
    }

-- the same of samples of any size
pub wide_more : (ts xs : List ℤ) (j k : ℕ) (sum new : ℤ) → IsWidePart ts xs j k sum
    → new ≡ sum +ℤ (get_or ts k (pos 0) *ℤ get_or xs (j + k) (pos 0)) → unsigned_abs new ≤ unsigned_abs sum + 2 ^ 94
    → IsWidePart ts xs j (k + 1) new
wide_more ts xs j k sum new part is small = record {
  value = is
      ∙ ap (λ s. s +ℤ (get_or ts k (pos 0) *ℤ get_or xs (j + k) (pos 0))) part.value
      ∙ ap (λ y. products (take k ts) (drop j xs) +ℤ (get_or ts k (pos 0) *ℤ y)) (sym (get_or-drop j xs k (pos 0)))
      ∙ sym (products-take_more ts (drop j xs) k)
      ∙ ap (λ i. products (take i ts) (drop j xs)) (sym (add-one k));
  size = let size = part.size in omega arith;
}

pub wide_all : (ts xs : List ℤ) (j k : ℕ) (sum : ℤ) → length ts ≤ k → k ≤ 2 ^ 12 → IsWidePart ts xs j k sum → IsWideSum ts xs j sum
wide_all ts xs j k sum le few part =
    let whole : take k ts ≡ ts = take_all k ts le in
    record {
      value = part.value ∙ ap (λ zs. products zs (drop j xs)) whole;
      size = let size = part.size in omega arith;
    }
