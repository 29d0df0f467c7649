-- Samples that are kept in rows, one after the other, the oldest first in each.
use Rattle.std.specs.Prelude.{◌≡◌, ℕ, suc, ◌<◌, List, ◌++◌, length, map, take, drop, reverse, ℤ}
use Rattle.std.specs.List.{range_with_len}
use Rattle.graph_model.specs.Filters.{products}
use Rattle.graph_model.specs.Histories.{frame_in}
use Rattle.graph_model.specs.Rounding.{rounded}

-- the rows of m channels, n samples each, the newest first
abbrev pub kept_rows : ℕ → ℕ → List ℤ → List (List ℤ)
kept_rows m n past = map (λ c. reverse (frame_in n past c)) (range_with_len 0 m)

-- the rows that n samples of each of m channels came into
abbrev pub AreFedRows : ℕ → ℕ → List ℤ → ℕ → List ℤ → List ℤ → Type 0
AreFedRows m n past k ins new = (c : ℕ) → c < m → frame_in n new c ≡ drop k (frame_in n past c ++ frame_in k ins c)

-- what a filter gives at sample t of a row that stands after the samples that are kept, the taps backward
abbrev pub filtered_at : List ℤ → ℕ → List ℤ → ℕ → ℤ
filtered_at backward q line t = rounded (products backward (take (length backward) (drop (suc t) line))) q

-- the samples that are kept when the first t samples of a row have come
abbrev pub kept_after : List ℤ → List ℤ → ℕ → List ℤ
kept_after past row t = take (length past) (drop t (past ++ row))
