-- The frames of the exit.
use Rattle.std.specs.Prelude.{◌≡◌, ◌≢◌, ℕ, ◌-◌, ◌+◌, ◌*◌, ◌<◌, ◌≤◌, ℤ, pos, List, [], length, reverse, slice_index_or}
use Rattle.players.specs.declared.leaving.Leaving.{Leaving}

-- the lines of the exit are as many as its channels, and hold n samples at least
pub record CanLeave (n channels : ℕ) (e : Leaving) : Type 0 where
  pub wide : length e.lines.items ≡ channels
  pub long : (c : ℕ) → c < channels → n ≤ length (slice_index_or e.lines.items c [])

-- one channel of n frames is the newest n samples of a line, and no other channel changes
pub record HasWrittenRow (line : List ℤ) (n c channels : ℕ) (before after : List ℤ) : Type 0 where
  pub samples : (k : ℕ) → k < n → slice_index_or after (k * channels + c) (pos 0) ≡ slice_index_or (reverse line) (n - 1 - k) (pos 0)
  pub rest : (k d : ℕ) → d < channels → d ≢ c
      → slice_index_or after (k * channels + d) (pos 0) ≡ slice_index_or before (k * channels + d) (pos 0)

-- frame k of a block is among the newest n of the lines
abbrev pub HasWritten : ℕ → ℕ → Leaving → List ℤ → Type 0
HasWritten n channels e output = (k c : ℕ) → k < n → c < channels →
    slice_index_or output (k * channels + c) (pos 0) ≡ slice_index_or (reverse (slice_index_or e.lines.items c [])) (n - 1 - k) (pos 0)
