-- The first member out of range is none exactly where all are in range.
use Rattle.std.proofs.Common.{◌≡◌, ℕ, ◌^◌, ◌<◌, ◌≤◌, List, [], ◌∷◌, length, refl, ◌∙◌, ap, Bool, true, false, cond, ℤ, Some, None}
use Rattle.std.specs.Prelude.{nat_lt, unsigned_abs}
use Rattle.std.specs.List.{All, AllByRecursion, list_all}
use Rattle.std.proofs.lemmas.List.Elements.{All-from_recursion, recursion_from_All}
use Rattle.std.specs.Cmp.{first_so, second_so}
use Rattle.std.proofs.lemmas.Bool.{eqb-true, leb-true, ltb-true, le-leb, lt-ltb, eq-eqb}
use Rattle.graph_model.specs.Ranges.{IsFrom, HasRange, IsInRange}
use Rattle.graph_model.specs.Members.{is_from, is_small, tests_of, first_failing, bad_member}
use Rattle.graph_model.specs.Laws.{RangesAreTested}
use Rattle.graph_model.proofs.PathLaws.{and_both}
use Rattle.graph_model.specs.declared.kind.Kind.{Kind}
use Rattle.graph_model.specs.declared.kind.Kind.TheVariants.{Input, Output, Gain, Mixer, Fir, Biquad, Limiter, Delay, Insert}
use Rattle.graph_model.specs.declared.member.Member.{Member}
use Rattle.graph_model.specs.declared.member.Member.TheVariants as member
use Rattle.graph_model.specs.declared.graph.Node.{Node}

abbrev Passed : List (Member × Bool) → Type 0
Passed [] = Unit {0}
Passed (t ∷ ts) = (t.1 ≡ true) × Passed ts

passes : (ts : List (Member × Bool)) → first_failing ts ≡ None → Passed ts
passes [] e = tt
passes ((m, b) ∷ ts) e = go b e (λ k. passes ts k)
  where
    go : (c : Bool) → cond c (first_failing ts) (Some m) ≡ None → (first_failing ts ≡ None → Passed ts) → (c ≡ true) × Passed ts
    go true k rest = (refl, rest k)
    go false k rest = absurd (cc)

joined : (ts : List (Member × Bool)) → Passed ts → first_failing ts ≡ None
joined [] h = refl
joined ((m, b) ∷ ts) h = ap (λ c. cond c (first_failing ts) (Some m)) h.0 ∙ joined ts h.1

from_test : (low high n : ℕ) → is_from low high n ≡ true → IsFrom low high n
from_test low high n e = (leb-true low n (first_so _ _ e), leb-true n high (second_so _ _ e))

to_test : (low high n : ℕ) → IsFrom low high n → is_from low high n ≡ true
to_test low high n f = and_both _ _ (le-leb low n f.0) (le-leb n high f.1)

all_from : (p : ℤ → Bool) (P : ℤ → Type 0) → ((z : ℤ) → p z ≡ true → P z) → (zs : List ℤ) → list_all p zs ≡ true → All P zs
all_from p P f zs e = All-from_recursion P zs (go zs e)
  where
    go : (ys : List ℤ) → list_all p ys ≡ true → AllByRecursion P ys
    go [] e = tt
    go (y ∷ ys) e = (f y (first_so _ _ e), go ys (second_so _ _ e))

all_to : (p : ℤ → Bool) (P : ℤ → Type 0) → ((z : ℤ) → P z → p z ≡ true) → (zs : List ℤ) → All P zs → list_all p zs ≡ true
all_to p P f zs h = go zs (recursion_from_All P zs h)
  where
    go : (ys : List ℤ) → AllByRecursion P ys → list_all p ys ≡ true
    go [] k = refl
    go (y ∷ ys) k = and_both _ _ (f y k.0) (go ys k.1)

small_from : (most : ℕ) (z : ℤ) → is_small most z ≡ true → unsigned_abs z ≤ most
small_from most z e = leb-true (unsigned_abs z) most e

below_from : (most : ℕ) (z : ℤ) → nat_lt (unsigned_abs z) most ≡ true → unsigned_abs z < most
below_from most z e = ltb-true (unsigned_abs z) most e

small_to : (most : ℕ) (z : ℤ) → unsigned_abs z ≤ most → is_small most z ≡ true
small_to most z l = le-leb (unsigned_abs z) most l

below_to : (most : ℕ) (z : ℤ) → unsigned_abs z < most → nat_lt (unsigned_abs z) most ≡ true
below_to most z l = lt-ltb (unsigned_abs z) most l

range_from : (kind : Kind) → Passed (tests_of kind) → HasRange kind
range_from (Input channels) a = from_test 1 32 channels a.0
range_from (Output channels) a = from_test 1 32 channels a.0
range_from (Gain channels gain) a = let b = a.1 in (from_test 1 32 channels a.0, small_from (2 ^ 20) gain b.0)
range_from (Mixer ins outs gains) a =
    let b = a.1 in let c = b.1 in (
      from_test 1 32 ins a.0,
      from_test 1 32 outs b.0,
      eqb-true _ _ (first_so _ _ c.0),
      all_from (is_small (2 ^ 20)) (λ g. unsigned_abs g ≤ 2 ^ 20) (small_from (2 ^ 20)) gains (second_so _ _ c.0),
    )
range_from (Fir channels taps shift latency) a =
    let b = a.1 in let c = b.1 in let d = c.1 in (
      from_test 1 32 channels a.0,
      from_test 1 4096 (length taps) (first_so _ _ b.0),
      all_from (λ h. nat_lt (unsigned_abs h) (2 ^ 24)) (λ h. unsigned_abs h < 2 ^ 24) (below_from (2 ^ 24)) taps (second_so _ _ b.0),
      leb-true shift 30 c.0,
      ltb-true latency (length taps) d.0,
    )
range_from (Biquad channels b0 b1 b2 a1 a2 shift bits) a =
    let b = a.1 in let c = b.1 in let d = c.1 in let f = d.1 in let h = f.1 in let i = h.1 in let j = i.1 in (
      from_test 1 32 channels a.0,
      below_from (2 ^ 31) b0 b.0,
      below_from (2 ^ 31) b1 c.0,
      below_from (2 ^ 31) b2 d.0,
      below_from (2 ^ 31) a1 f.0,
      below_from (2 ^ 31) a2 h.0,
      from_test 1 30 shift i.0,
      from_test 16 40 bits j.0,
    )
range_from (Limiter channels threshold lookahead) a =
    let b = a.1 in let c = b.1 in
    (from_test 1 32 channels a.0, from_test 1 (2 ^ 46) threshold b.0, from_test 1 8192 lookahead c.0)
range_from (Delay channels samples) a = let b = a.1 in (from_test 1 32 channels a.0, from_test 1 (2 ^ 20) samples b.0)
range_from (Insert channels samples) a = let b = a.1 in (from_test 1 32 channels a.0, leb-true samples (2 ^ 20) b.0)

range_to : (kind : Kind) → HasRange kind → Passed (tests_of kind)
range_to (Input channels) r = (to_test 1 32 channels r, tt)
range_to (Output channels) r = (to_test 1 32 channels r, tt)
range_to (Gain channels gain) r = (to_test 1 32 channels r.0, (small_to (2 ^ 20) gain r.1, tt))
range_to (Mixer ins outs gains) r = (
  to_test 1 32 ins r.0,
  (
    to_test 1 32 outs r.1,
    (and_both _ _ (eq-eqb _ _ r.2) (all_to (is_small (2 ^ 20)) (λ g. unsigned_abs g ≤ 2 ^ 20) (small_to (2 ^ 20)) gains r.3), tt),
  ),
)
range_to (Fir channels taps shift latency) r = (
  to_test 1 32 channels r.0,
  (
    and_both _ _ (to_test 1 4096 (length taps) r.1)
        (all_to (λ h. nat_lt (unsigned_abs h) (2 ^ 24)) (λ h. unsigned_abs h < 2 ^ 24) (below_to (2 ^ 24)) taps r.2),
    (le-leb shift 30 r.3, (lt-ltb latency (length taps) r.4, tt)),
  ),
)
range_to (Biquad channels b0 b1 b2 a1 a2 shift bits) r = (
  to_test 1 32 channels r.0,
  (
    below_to (2 ^ 31) b0 r.1,
    (
      below_to (2 ^ 31) b1 r.2,
      (
        below_to (2 ^ 31) b2 r.3,
        (below_to (2 ^ 31) a1 r.4, (below_to (2 ^ 31) a2 r.5, (to_test 1 30 shift r.6, (to_test 16 40 bits r.7, tt)))),
      ),
    ),
  ),
)
range_to (Limiter channels threshold lookahead) r =
    (to_test 1 32 channels r.0, (to_test 1 (2 ^ 46) threshold r.1, (to_test 1 8192 lookahead r.2, tt)))
range_to (Delay channels samples) r = (to_test 1 32 channels r.0, (to_test 1 (2 ^ 20) samples r.1, tt))
range_to (Insert channels samples) r = (to_test 1 32 channels r.0, (le-leb samples (2 ^ 20) r.1, tt))

abbrev tests : Node → List (Member × Bool)
tests n = (member.Uid, is_from 1 2147483647 n.uid.0) ∷ tests_of n.kind

pub in_range : (n : Node) → bad_member n ≡ None → IsInRange n
in_range n e = let a = passes (tests n) e in (from_test 1 2147483647 n.uid.0 a.0, range_from n.kind a.1)

pub ranges_are_tested : RangesAreTested
ranges_are_tested n = (λ e. in_range n e, λ r. joined (tests n) (to_test 1 2147483647 n.uid.0 r.0, range_to n.kind r.1))
