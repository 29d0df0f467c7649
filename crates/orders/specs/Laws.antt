-- What follows of orders.
use Rattle.std.specs.Prelude.{◌≡◌, ℕ, ◌≤◌, true, ℤ, List}
use Rattle.orders.specs.Orders.{AreApart, AreDistinct, AreOrdersOf, Core, Home, IsApart, IsOrderOf, IsSame, State, WaveHasRun, after, after_wave, in_turn, is_in, is_read, samples_of, writes}

-- any two orders of all waves leave the same
abbrev pub OrdersAgree : Type 0 → Type 0
OrdersAgree K = (g : Core K) (n : ℕ) (waves first second : List (List ℕ)) (s : State K)
    → AreApart g waves → AreOrdersOf n waves first → AreOrdersOf n waves second → IsSame (after g first s) (after g second s)

-- every order of the events of a wave leaves the closed form
abbrev pub OrdersRun : Type 0 → Type 0
OrdersRun K = (g : Core K) (n : ℕ) (wave order : List ℕ) (s : State K)
    → IsApart g wave → IsOrderOf n wave order → WaveHasRun g n wave s (after_wave g order s)

-- which is one state
abbrev pub RunIsOne : Type 0 → Type 0
RunIsOne K = (g : Core K) (n : ℕ) (wave : List ℕ) (s s' t t' : State K)
    → IsSame s s' → WaveHasRun g n wave s t → WaveHasRun g n wave s' t' → IsApart g wave → IsSame t t'

-- there is an order of every wave in which no node stands twice
abbrev pub OrderExists : Type 0
OrderExists = (n : ℕ) (wave : List ℕ) → AreDistinct wave → IsOrderOf n wave (in_turn n wave)

-- a node that reads sample k of each of its buffers reads alone where no other node of the wave writes in one of them
abbrev pub WiresReadAlone : Type 0
WiresReadAlone = (buffers : List ℕ) (homes : ℕ → List Home) (wave : List ℕ) (v k : ℕ) (p q : ℕ → ℕ → ℤ)
    → ((u b : ℕ) → is_in u wave ≡ true → writes (homes u) b ≡ true → is_read buffers b ≡ true → u ≡ v)
    → ((b j : ℕ) → ((u : ℕ) → is_in u wave ≡ true → writes (homes u) b ≡ true → (u ≡ v) × (k ≤ j)) → p b j ≡ q b j)
    → samples_of buffers k p ≡ samples_of buffers k q
