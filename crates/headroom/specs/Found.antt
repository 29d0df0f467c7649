-- The bounds that are found while the order is followed.
use Rattle.std.specs.Prelude.{◌≡◌, ℕ, ◌<◌, List, [], length, get_or, map}
use Rattle.std.specs.List.{All}
use Rattle.graph_model.specs.Bounds.{bounds, IsBounded}
use Rattle.graph_model.specs.declared.graph.Bound.{Bound}
use Rattle.graph_model.specs.declared.graph.Graph.{Graph}
use Rattle.graph_model.specs.Named.{uid_at}
use Rattle.headroom.specs.Loud.{kept}

-- the bounds of a node whose inputs fit in 64 bits, as they are kept
abbrev pub kept_bound : Bound → Bound
kept_bound n = record { ins = n.ins; outs = map kept n.outs }

-- of a node that is not found yet there are none
abbrev pub no_bound : Bound
no_bound = record { ins = []; outs = [] }

-- the bounds of node i stand in the list, and none of them passes 2 ^ 46
pub record IsFound (g : Graph) (bs : List Bound) (i : ℕ) : Type 0 where
  pub is : get_or bs i no_bound ≡ bounds g (uid_at g i)
  pub bounded : IsBounded (bounds g (uid_at g i))

-- so it is with each source of node v
abbrev pub AreSourcesFound : Graph → List Bound → ℕ → Type 0
AreSourcesFound g bs v = All (λ c. c.dst.0 ≡ v → (i : ℕ) → i < length g.nodes → uid_at g i ≡ c.src.0 → IsFound g bs i) g.connections
