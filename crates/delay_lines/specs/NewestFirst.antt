-- A line as the list of the samples that it holds, the newest first, which takes a stream of samples one by one.
use Rattle.std.specs.Prelude.{ℕ, zero, suc, ℤ, pos, List, ◌∷◌, length, take, slice_index_or}

-- what comes out as a sample goes in, and what it holds then
abbrev pub come : List ℤ → ℤ → ℤ
come line sample = slice_index_or (sample ∷ line) (length line) (pos 0)

abbrev pub hold : List ℤ → ℤ → List ℤ
hold line sample = take (length line) (sample ∷ line)

-- what it holds after n samples of the stream
abbrev pub held : List ℤ → (ℕ → ℤ) → ℕ → List ℤ
held line stream zero = line
held line stream (suc n) = hold (held line stream n) (stream n)
