-- Where the nodes of a graph stand, by index.
use Rattle.std.specs.Prelude.{◌≡◌, ℕ, ◌==◌, List, length, get_or}
use Rattle.std.specs.List.{position_or_len}
use Rattle.graph_model.specs.Graphs.{output_name}
use Rattle.graph_model.specs.declared.graph.Graph.{Graph}
use Rattle.plan_model.specs.Alignments.{IsAlignment}

-- the position that a list by index gives to a name, 0 to one that no node has
abbrev pub position_at : Graph → List ℕ → ℕ → ℕ
position_at g ps v = get_or ps (position_or_len (λ n. n.uid.0 == v) g.nodes) 0

-- a position for each node; those of live nodes are an alignment, with the output node where p has it
pub record AreAligned (g : Graph) (p : ℕ → ℕ) (ps : List ℕ) : Type 0 where
  pub count : length ps ≡ length g.nodes
  pub alignment : IsAlignment g (position_at g ps)
  pub output : position_at g ps (output_name g) ≡ p (output_name g)
