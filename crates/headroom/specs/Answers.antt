-- What is answered of a graph.
use Rattle.std.specs.Prelude.{◌≡◌, List, map}
use Rattle.std.specs.List.{All}
use Rattle.graph_model.specs.Bounds.{bounds, IsBounded}
use Rattle.graph_model.specs.declared.graph.Bound.{Bound}
use Rattle.graph_model.specs.declared.graph.Graph.{Graph}
use Rattle.graph_model.specs.declared.refused.Refused.{Refused}
use Rattle.graph_model.specs.declared.refused.Refused.TheVariants.{Fault, Memory}
use Rattle.headroom.specs.declared.loud.TooLoud.{TooLoud}
use Rattle.headroom.specs.Loud.{IsTooLoud}

-- the bounds of each node, by index
abbrev pub AreBounds : Graph → List Bound → Type 0
AreBounds g bs = bs ≡ map (λ n. bounds g n.uid.0) g.nodes

-- no bound passes 2 ^ 46
abbrev pub AllBounded : Graph → Type 0
AllBounded g = All (λ n. IsBounded (bounds g n.uid.0)) g.nodes

-- a fault is the first place whose bound passes 2 ^ 46, and then not all are within it
abbrev pub IsTooLoudOf : Graph → Refused TooLoud → Type 0
IsTooLoudOf g (Fault loud) = IsTooLoud g loud × ¬ AllBounded g
IsTooLoudOf g Memory = Unit {0}
