-- The first place of a graph whose bound passes the limit of 2 ^ 46.
use Rattle.std.specs.Prelude.{◌≡◌, ℕ, ◌-◌, ◌^◌, ◌<◌, ◌≤◌, min, List, length, get_or}
use Rattle.std.specs.List.{All}
use Rattle.graph_model.specs.Bounds.{bounds, IsBounded}
use Rattle.graph_model.specs.Orders.{IsOrder}
use Rattle.graph_model.specs.declared.graph.Bound.{Bound}
use Rattle.graph_model.specs.declared.graph.Graph.{Graph}
use Rattle.graph_model.specs.declared.graph.Side.{Side}
use Rattle.graph_model.specs.declared.graph.Side.TheVariants.{In, Out}
use Rattle.headroom.specs.declared.loud.TooLoud.{TooLoud}

-- a bound as it is kept in 64 bits: a greater one is kept as the greatest of these numbers
abbrev pub kept : ℕ → ℕ
kept n = min n (2 ^ 64 - 1)

-- all are at most 2 ^ 46
abbrev pub AreBelow : List ℕ → Type 0
AreBelow bs = All (λ b. b ≤ 2 ^ 46) bs

-- channel c is the first whose bound passes 2 ^ 46, and that bound is kept as b
pub record IsFirstAbove (bs : List ℕ) (c b : ℕ) : Type 0 where
  pub channel : c < length bs
  pub earlier : (d : ℕ) → d < c → get_or bs d 0 ≤ 2 ^ 46
  pub above : 2 ^ 46 < get_or bs c 0
  pub bound : b ≡ kept (get_or bs c 0)

-- the same over both sides of a node, its inputs before its outputs
abbrev pub IsFirstOf : Bound → Side → ℕ → ℕ → Type 0
IsFirstOf n In c b = IsFirstAbove n.ins c b
IsFirstOf n Out c b = AreBelow n.ins × IsFirstAbove n.outs c b
IsFirstOf n side c b = ⊥

-- v is the first node in the order of the graph that has a bound above 2 ^ 46, if it has one: those before it have none
abbrev pub AreBoundedBefore : Graph → ℕ → Type 0
AreBoundedBefore g v =
    (os : List ℕ) × IsOrder g os × ((k : ℕ) × (k < length os) × (get_or os k 0 ≡ v)
    × ((j : ℕ) → j < k → IsBounded (bounds g (get_or os j 0))))

-- the first place: all nodes in their order, idle ones too, and of each its inputs before its outputs
pub record IsTooLoud (g : Graph) (loud : TooLoud) : Type 0 where
  pub earlier : AreBoundedBefore g loud.uid.0
  pub first : IsFirstOf (bounds g loud.uid.0) loud.side loud.channel loud.bound
