-- Weighed sums, kept bounds, and how many bounds a kind gives.
use Rattle.std.proofs.Common.{◌≡◌, ℕ, zero, suc, ◌+◌, ◌-◌, ◌*◌, ◌%◌, ◌^◌, ◌<◌, ◌≤◌, min, List, [], ◌∷◌, ◌++◌, length, map, take, get_or, replicate, ℤ, pos, refl, ap, sym, ◌∙◌, arith}
use Rattle.std.specs.Prelude.{unsigned_abs, Result, Ok, Err, IfOk}
use Rattle.std.specs.List.{range_with_len}
use Rattle.std.proofs.Math.Nat.{mod-eq_of_lt}
use Rattle.std.proofs.Math.Pow.{pow_mono}
use Rattle.std.proofs.lemmas.List.{length-map, length-replicate}
use Rattle.std.proofs.lemmas.List.FromFn.{length-map-range_with_len, map-range_with_len_more}
use Rattle.graph_model.specs.Bounds.{weighed, weight, out_bounds}
use Rattle.graph_model.specs.Filters.{gains_to}
use Rattle.graph_model.specs.Kinds.{ins_of, outs_of}
use Rattle.graph_model.specs.Rounding.{rounded_nat}
use Rattle.graph_model.specs.declared.kind.Kind.{Kind}
use Rattle.graph_model.specs.declared.kind.Kind.TheVariants.{Input, Output, Gain, Mixer, Fir, Biquad, Limiter, Delay, Insert}
use Rattle.headroom.specs.Loud.{kept}

weighed_next : (ts : List ℤ) (bs : List ℕ) (i : ℕ) → i < length ts → i < length bs
    → weighed (take (suc i) ts) (take (suc i) bs) ≡ weighed (take i ts) (take i bs) + unsigned_abs (get_or ts i (pos 0)) * get_or bs i 0
weighed_next [] bs i lt l = absurd (omega arith)
weighed_next (t ∷ ts) [] i lt l = absurd (omega arith)
weighed_next (t ∷ ts) (b ∷ bs) zero lt l = omega arith
weighed_next (t ∷ ts) (b ∷ bs) (suc i) lt l = let rest = weighed_next ts bs i (omega arith) (omega arith) in omega arith

-- one gain and one bound more
pub weighed_more : (ts : List ℤ) (bs : List ℕ) (i : ℕ) → i < length ts → i < length bs
    → weighed (take (i + 1) ts) (take (i + 1) bs) ≡ weighed (take i ts) (take i bs) + unsigned_abs (get_or ts i (pos 0)) * get_or bs i 0
weighed_more ts bs i lt l = let e : i + 1 ≡ suc i = omega arith in ap (λ n. weighed (take n ts) (take n bs)) e ∙ weighed_next ts bs i lt l

-- what is kept of each number that f gives
pub kept_each : {X : Type 0} (f : X → ℕ) (xs : List X) → map (λ x. kept (f x)) xs ≡ map kept (map f xs)
kept_each f [] = refl
kept_each f (x ∷ xs) = ap (λ ys. kept (f x) ∷ ys) (kept_each f xs)

pub kept_copies : (n b : ℕ) → b ≤ 2 ^ 64 - 1 → replicate n b ≡ map kept (replicate n b)
kept_copies zero b le = refl
kept_copies (suc n) b le = let e : b ≡ kept b = omega arith in λ i. e i ∷ kept_copies n b le i

pub copies_each : (b : ℕ) (bs : List ℕ) → replicate (length bs) b ≡ map (λ _. b) bs
copies_each b [] = refl
copies_each b (x ∷ bs) = ap (λ ys. b ∷ ys) (copies_each b bs)

-- numbers of 64 bits are kept as they are
pub kept_same : (bs : List ℕ) → ((i : ℕ) → get_or bs i 0 ≤ 2 ^ 64 - 1) → map kept bs ≡ bs
kept_same [] le = refl
kept_same (b ∷ bs) le = let e : kept b ≡ b = (let l : b ≤ 2 ^ 64 - 1 = le 0 in omega arith) in λ i. e i ∷ kept_same bs (λ j. le (suc j)) i

-- a kind gives a bound for each output channel
-- ---- the arms of a kind
pub ok_same : {A E : Type 0} (r : Result A E) (x y : A) → IfOk r (λ z. z ≡ x) → x ≡ y → IfOk r (λ z. z ≡ y)
ok_same (Ok z) x y h e = h ∙ e
ok_same (Err f) x y h e = tt

-- one more value of a function of the place
pub pushed : (f : ℕ → ℕ) (k : ℕ) (old new : List ℕ) (x : ℕ) → old ≡ map f (range_with_len 0 k) → x ≡ f k → new ≡ old ++ x ∷ [] → new ≡ map f (range_with_len 0 (k + 1))
pushed f k old new x h e p = p ∙ (λ i. h i ++ e i ∷ []) ∙ sym (map-range_with_len_more f 0 k k (omega arith))

-- a threshold keeps numbers of 64 bits within 64 bits
pub limited_fits : (t : ℕ) (bs : List ℕ) → ((i : ℕ) → get_or bs i 0 ≤ 2 ^ 64 - 1) → (i : ℕ) → get_or (map (λ b. min b t) bs) i 0 ≤ 2 ^ 64 - 1
limited_fits t [] le i = omega arith
limited_fits t (b ∷ bs) le zero = let l : b ≤ 2 ^ 64 - 1 = le 0 in omega arith
limited_fits t (b ∷ bs) le (suc i) = limited_fits t bs (λ j. le (suc j)) i

-- 2 ^ m fits 64 bits
pub power_small : (m : ℕ) → m ≤ 40 → 2 ^ m ≤ 2 ^ 40
power_small m le = pow_mono le

pub power_fits : (m : ℕ) → m ≤ 40 → (1 * 2 ^ m) % 2 ^ 64 ≡ 2 ^ m
power_fits m le = let l = power_small m le in let e : 1 * 2 ^ m ≡ 2 ^ m = omega arith in ap (λ n. n % 2 ^ 64) e ∙ mod-eq_of_lt (omega arith)
