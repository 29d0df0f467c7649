-- What the flags of the nodes say while an order grows.
use Rattle.std.specs.Prelude.{ℕ, ◌≡◌, ◌<◌, List, length, map, get_or, Option, Bool, true}
use Rattle.std.specs.List.{All}
use Rattle.graph_model.specs.Orders.{StandsBefore, IsNext}
use Rattle.graph_model.specs.declared.graph.Graph.{Graph}
use Rattle.graph_model.specs.Named.{uid_at}
use Rattle.topology.specs.Blocks.{AreBlocks, is_taken}
use Rattle.topology.specs.declared.ends.Link.{Link}

-- the nodes with a flag are those that stand in os, each of which was the next one at its place, and links block the
-- others
pub record AreTaken (g : Graph) (ls : List Link) (taken : List Bool) (blocks : List (Option ℕ)) (os : List ℕ) : Type 0 where
  pub flags : length taken ≡ length g.nodes
  pub slots : length blocks ≡ length g.nodes
  pub noted : AreBlocks ls taken blocks
  pub indexes : All (λ k. k < length g.nodes) os
  pub marked : (v : ℕ) → v < length g.nodes → is_taken taken v ≡ true → StandsBefore os (length os) v
  pub stands : (v : ℕ) → StandsBefore os (length os) v → is_taken taken v ≡ true
  pub next : (k : ℕ) → k < length os → IsNext g (map (uid_at g) os) k (get_or (map (uid_at g) os) k 0)
