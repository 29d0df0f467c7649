-- What the sources of a node give it.
use Rattle.std.specs.Prelude.{ℕ, ◌≡◌, ◌+◌, ◌<◌, ◌≤◌, ◌⊎◌, List, ◌∷◌, length, get_or, map, Option, MatchOption}
use Rattle.graph_model.specs.Graphs.{output_name}
use Rattle.graph_model.specs.Paths.{IsPrinted, reach}
use Rattle.graph_model.specs.declared.graph.Uid.{Uid}
use Rattle.graph_model.specs.declared.graph.Graph.{Graph}
use Rattle.topology.specs.declared.ends.Link.{Link}
use Rattle.topology.specs.Links.{source, target}

-- what the source of link e gives: the number at it with its latency
abbrev pub given : List Link → List ℕ → List ℕ → ℕ → ℕ
given ls latencies at e = get_or at (source ls e) 0 + get_or latencies (source ls e) 0

-- n is the greatest of what is given to v along the first m links, and 0 where there are none
pub record PulledUpTo (ls : List Link) (latencies at : List ℕ) (m v n : ℕ) : Type 0 where
  pub most : (e : ℕ) → e < m → target ls e ≡ v → given ls latencies at e ≤ n
  pub met : (n ≡ 0) ⊎ ((e : ℕ) × (e < length ls) × (target ls e ≡ v) × (n ≡ given ls latencies at e))

abbrev pub IsPulled : List Link → List ℕ → List ℕ → ℕ → ℕ → Type 0
IsPulled ls latencies at v n = PulledUpTo ls latencies at (length ls) v n

-- link e leads into v and gives it the number at it
abbrev pub IsTight : List Link → List ℕ → List ℕ → ℕ → ℕ → Type 0
IsTight ls latencies at v e = (target ls e ≡ v) × (given ls latencies at e ≡ get_or at v 0)

-- the source of least name among the tight links into v, of the first m, if there is one
abbrev pub FirstTightUpTo : List ℕ → List Link → List ℕ → List ℕ → ℕ → ℕ → Option ℕ → Type 0
FirstTightUpTo uids ls latencies at m v found = MatchOption found
    ((e : ℕ) → e < m → IsTight ls latencies at v e → ⊥)
    (λ u. ((e : ℕ) × (e < length ls) × (source ls e ≡ u) × IsTight ls latencies at v e)
    × ((e : ℕ) → e < m → IsTight ls latencies at v e → get_or uids u 0 ≤ get_or uids (source ls e) 0))

abbrev pub IsFirstTight : List ℕ → List Link → List ℕ → List ℕ → ℕ → Option ℕ → Type 0
IsFirstTight uids ls latencies at v found = FirstTightUpTo uids ls latencies at (length ls) v found

-- the reach of each node, by index
abbrev pub AreReaches : Graph → List ℕ → Type 0
AreReaches g at = at ≡ map (λ n. reach g n.uid.0) g.nodes

-- the printed path, its last node first
abbrev pub IsPathBack : Graph → List Uid → Type 0
IsPathBack g path = (us : List ℕ) × IsPrinted g (output_name g) us × (map (λ u. u.0) path ≡ output_name g ∷ us)
