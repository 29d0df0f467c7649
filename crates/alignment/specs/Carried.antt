-- A flow by the names of its points.
use Rattle.std.specs.Prelude.{ℕ, List}
use Rattle.min_cost_flow.specs.declared.network.Arc.{Arc}
use Rattle.plan_model.specs.declared.flow.Units.{Units}
use Rattle.alignment.specs.Numbered.{entries_by}

abbrev pub unit_entry : ℕ → ℕ → ℕ → Units
unit_entry u v n = record { tail = u; head = v; units = n }

-- the arcs that carry units, in their order
abbrev pub carried_by : List ℕ → List Arc → List ℕ → List Units
carried_by points arcs flow = entries_by unit_entry 0 points arcs flow
