-- Sums of coefficients times samples that are no larger than a number.
use Rattle.std.specs.Prelude.{◌≡◌, ℕ, ◌*◌, ◌^◌, ◌<◌, ◌≤◌, List, length, take, drop, get_or, ℤ, pos, unsigned_abs}
use Rattle.graph_model.specs.Bounds.{weight}
use Rattle.graph_model.specs.Filters.{products}

-- no sample is larger
abbrev pub AreWithin : ℕ → List ℤ → Type 0
AreWithin most xs = (k : ℕ) → k < length xs → unsigned_abs (get_or xs k (pos 0)) ≤ most

-- the sum of the coefficients times the samples from j on, as of the first k coefficients
pub record IsPart (most : ℕ) (ts xs : List ℤ) (j k : ℕ) (sum : ℤ) : Type 0 where
  pub value : sum ≡ products (take k ts) (drop j xs)
  pub size : unsigned_abs sum ≤ weight (take k ts) * most

-- and of all
pub record IsSum (ts xs : List ℤ) (j : ℕ) (sum : ℤ) : Type 0 where
  pub value : sum ≡ products ts (drop j xs)
  pub size : unsigned_abs sum ≤ 2 ^ 62

-- the same of samples of any size
pub record IsWidePart (ts xs : List ℤ) (j k : ℕ) (sum : ℤ) : Type 0 where
  pub value : sum ≡ products (take k ts) (drop j xs)
  pub size : unsigned_abs sum ≤ k * 2 ^ 94

pub record IsWideSum (ts xs : List ℤ) (j : ℕ) (sum : ℤ) : Type 0 where
  pub value : sum ≡ products ts (drop j xs)
  pub size : unsigned_abs sum ≤ 2 ^ 106
