-- What holds while values are placed into buffers, one after another in the order of their births.
use Rattle.std.specs.Prelude.{◌≡◌, ℕ, ◌+◌, ◌-◌, ◌<◌, ◌≤◌, nat_lt, nat_le, Bool, ◌⊎◌, Option, List, length, map, slice_index_or, position, min, count_by, All, AllPairs}
use Rattle.std.specs.Option.{option_or}
use Rattle.plan_model.specs.Buffers.{is_born, is_born_of, is_freed, MayShare}
use Rattle.plan_model.specs.declared.buffers.Home.{Home}
use Rattle.plan_model.specs.declared.buffers.Life.{Life}
use Rattle.plan_model.proofs.CountFacts.{sum_below, is_before}
use Rattle.buffer_plan.specs.declared.packing.Placed.{Placed}

-- the buffer that a value takes: the first that it takes over in place, or else the first whose value died before
abbrev pub first_free : List Life → Life → Option ℕ
first_free holders x = option_or (position (is_freed x.born x.uid.0) holders) (position (λ held. nat_lt held.dies x.born) holders)

-- the values that are placed
abbrev pub lives_in : List Placed → List Life
lives_in zs = map (λ z. z.life) zs

-- not dead before wave s
abbrev pub is_alive : ℕ → Life → Bool
is_alive s x = nat_le s x.dies

-- how many values are active in wave s, born there of node a, freed there for it
abbrev pub active : List Placed → ℕ → ℕ
active zs s = count_by (λ z. is_before s z.life) zs + count_by (λ z. is_born s z.life) zs

abbrev pub borne : List Placed → ℕ → ℕ → ℕ
borne zs s a = count_by (λ z. is_born_of s a z.life) zs

abbrev pub freed : List Placed → ℕ → ℕ → ℕ
freed zs s a = count_by (λ z. is_freed s a z.life) zs

-- what the nodes below m take over in place in wave s
unfoldable pub saved_by : ℕ → List Placed → ℕ → ℕ
saved_by m zs s = sum_below m (λ a. min (borne zs s a) (freed zs s a))

-- the values stand in buffers as few as wave `peak`, and no earlier one, needs
pub record IsPacked (holders : List Life) (zs : List Placed) (peak : ℕ) : Type 0 where
  pub lasting : All (λ z. z.life.born < z.life.dies) zs
  -- an assignment of what is placed
  pub apart : AllPairs (λ x y. x.buffer ≡ y.buffer → MayShare x.life y.life) zs
  pub below : All (λ z. z.buffer < length holders) zs
  pub few : length holders ≤ length zs
  -- a buffer's holder is the last value that it had
  pub last :
      All (λ z. (d : Life) → (slice_index_or holders z.buffer d ≡ z.life) ⊎ (z.life.dies < (slice_index_or holders z.buffer d).dies)) zs
  -- from the last birth on: all that is alive is held, but for what was taken over in place
  pub held :
      (s m : ℕ) → All (λ z. z.life.born ≤ s) zs → All (λ z. z.life.uid.0 < m) zs →
      count_by (is_alive s) holders + saved_by m zs s ≡ count_by (λ z. is_alive s z.life) zs
  -- what a node may still take over
  pub takeable : (s a : ℕ) → All (λ z. z.life.born ≤ s) zs → count_by (is_freed s a) holders ≡ freed zs s a - borne zs s a
  -- wave `peak` is no later than the last birth; it needs all the buffers, and no earlier one does
  pub reached : (s : ℕ) → All (λ z. z.life.born ≤ s) zs → peak ≤ s
  pub full : (m : ℕ) → All (λ z. z.life.uid.0 < m) zs → active zs peak ≡ length holders + saved_by m zs peak
  pub earlier :
      (t m : ℕ) → t < peak → All (λ z. z.life.uid.0 < m) zs →
      (0 < length holders) × (active zs t < length holders + saved_by m zs t)

-- the home of a value
abbrev pub home_of : Placed → Home
home_of z = record { uid = z.life.uid; channel = z.life.channel; buffer = z.buffer }
