-- Connections by the indexes of their nodes.
use Rattle.std.specs.Prelude.{ℕ, ◌≡◌, ◌<◌, List, length, get_or, map, nat_eq, MatchOption}
use Rattle.std.specs.HashMap.{HashMap, get}
use Rattle.graph_model.specs.Graphs.{IsNode}
use Rattle.graph_model.specs.declared.graph.Graph.{Graph}
use Rattle.graph_model.specs.Named.{uid_at}
use Rattle.topology.specs.declared.ends.Link.{Link}

abbrev pub no_link : Link
no_link = record { from = 0; to = 0 }

abbrev pub source : List Link → ℕ → ℕ
source ls e = (get_or ls e no_link).from

abbrev pub target : List Link → ℕ → ℕ
target ls e = (get_or ls e no_link).to

-- both ends of each link are below n
abbrev pub AreWithin : ℕ → List Link → Type 0
AreWithin n ls = (e : ℕ) → e < length ls → (source ls e < n) × (target ls e < n)

-- a link for each connection, between the same nodes
pub record AreLinks (g : Graph) (ls : List Link) : Type 0 where
  pub within : AreWithin (length g.nodes) ls
  pub sources : map (λ l. uid_at g l.from) ls ≡ map (λ c. c.src.0) g.connections
  pub targets : map (λ l. uid_at g l.to) ls ≡ map (λ c. c.dst.0) g.connections

-- the index of a node for each name that is one's, and nothing for the others
abbrev pub AreIndexes : {S : Type 0} → Graph → HashMap ℕ ℕ S → Type 0
AreIndexes g m = (v : ℕ) → MatchOption (get nat_eq m v) (¬ (IsNode g v)) (λ i. (i < length g.nodes) × (uid_at g i ≡ v))
