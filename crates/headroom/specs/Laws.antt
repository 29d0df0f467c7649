-- What is proved of the definitions.
use Rattle.std.specs.Prelude.{◌≡◌}
use Rattle.graph_model.specs.declared.graph.Graph.{Graph}
use Rattle.headroom.specs.declared.loud.TooLoud.{TooLoud}
use Rattle.headroom.specs.Loud.{IsTooLoud}
use Rattle.headroom.specs.Answers.{AllBounded}

-- where a place is too loud, not all bounds are within the limit
abbrev pub TooLoudRefutes : Type 0
TooLoudRefutes = (g : Graph) (loud : TooLoud) → IsTooLoud g loud → AllBounded g → ⊥

-- and a graph has one first place at most
abbrev pub TooLoudIsUnique : Type 0
TooLoudIsUnique = (g : Graph) (a b : TooLoud) → IsTooLoud g a → IsTooLoud g b → a ≡ b
