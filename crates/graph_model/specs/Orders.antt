-- The order in which the nodes of a graph are taken: a topological order, the least name first
-- (Kahn, Topological sorting of large networks, 1962; Cormen, Leiserson, Rivest and Stein, Introduction to
-- Algorithms, section 20.4).
use Rattle.std.specs.Prelude.{◌≡◌, ℕ, ◌<◌, ◌≤◌, List, length, get_or}
use Rattle.std.specs.List.{All}
use Rattle.graph_model.specs.Graphs.{IsNode}
use Rattle.graph_model.specs.declared.graph.Graph.{Graph}

-- v stands before place k of the order
abbrev pub StandsBefore : List ℕ → ℕ → ℕ → Type 0
StandsBefore os k v = (j : ℕ) × (j < k) × (get_or os j 0 ≡ v)

-- all sources of v stand before place k
abbrev pub HasSources : Graph → List ℕ → ℕ → ℕ → Type 0
HasSources g os k v = All (λ c. c.dst.0 ≡ v → StandsBefore os k c.src.0) g.connections

-- v is the least of the nodes that are not taken by place k and whose sources are
pub record IsNext (g : Graph) (os : List ℕ) (k v : ℕ) : Type 0 where
  pub node : IsNode g v
  pub fresh : ¬ StandsBefore os k v
  pub ready : HasSources g os k v
  pub least : (w : ℕ) → IsNode g w → ¬ StandsBefore os k w → HasSources g os k w → v ≤ w

-- again and again the least name whose sources are all taken, until all nodes are
pub record IsOrder (g : Graph) (os : List ℕ) : Type 0 where
  pub all : (v : ℕ) → IsNode g v → StandsBefore os (length os) v
  pub next : (k : ℕ) → k < length os → IsNext g os k (get_or os k 0)
