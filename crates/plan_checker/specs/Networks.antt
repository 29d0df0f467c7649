-- The difference constraints of a graph, as the code keeps them.
use Rattle.std.specs.Prelude.{ℕ, ◌≤◌, ◌^◌, List, unsigned_abs}
use Rattle.std.specs.List.{All}
use Rattle.plan_model.specs.Networks.{Difference}
use Rattle.plan_checker.specs.declared.network.Constraint.{Constraint}

abbrev pub difference : Constraint → Difference ℕ
difference a = record { tail = a.tail; head = a.head; least = a.least }

-- no least difference is beyond 32 bits, so that sums over a flow fit
abbrev pub AreSmall : List Constraint → Type 0
AreSmall arcs = All (λ a. unsigned_abs a.least ≤ 2 ^ 32) arcs
