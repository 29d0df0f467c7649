-- What follows of lines.
use Rattle.std.specs.Prelude.{◌≡◌, ℕ, ◌+◌, ◌<◌, ℤ, pos, List, ◌++◌, length, replicate, reverse, slice_index_or}
use Rattle.delay_lines.specs.Lines.{kept, passed}
use Rattle.delay_lines.specs.NewestFirst.{come, held}

-- of two lists that make up what was held and what came in, the one as long as what came in has come out
abbrev pub PassesOn : Type 0
PassesOn = (line samples out rest : List ℤ) → out ++ rest ≡ line ++ samples → length out ≡ length samples
    → (out ≡ passed line samples) × (rest ≡ kept line samples)

-- a new line gives as many zeros as it is long, and then the samples that went in
abbrev pub DelaysByItsLength : Type 0
DelaysByItsLength = (delay : ℕ) (samples : List ℤ) (k : ℕ) → k < length samples
    → (k < delay → slice_index_or (passed (replicate delay (pos 0)) samples) k (pos 0) ≡ pos 0)
    × ((j : ℕ) → delay + j ≡ k → slice_index_or (passed (replicate delay (pos 0)) samples) k (pos 0) ≡ slice_index_or samples j (pos 0))

-- two blocks, one after the other, are one
abbrev pub BlocksJoin : Type 0
BlocksJoin = (line first second : List ℤ)
    → (passed line (first ++ second) ≡ passed line first ++ passed (kept line first) second)
    × (kept line (first ++ second) ≡ kept (kept line first) second)

-- a line with the newest sample first holds the same, and gives the same sample by sample, of any stream that begins
-- with the samples
abbrev pub ViewsAgree : Type 0
ViewsAgree = (line samples : List ℤ) (stream : ℕ → ℤ)
    → ((k : ℕ) → k < length samples → slice_index_or samples k (pos 0) ≡ stream k)
    → (reverse (kept line samples) ≡ held (reverse line) stream (length samples))
    × ((k : ℕ) → k < length samples → slice_index_or (passed line samples) k (pos 0) ≡ come (held (reverse line) stream k) (stream k))
