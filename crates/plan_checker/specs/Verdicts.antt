-- Verdicts.
use Rattle.std.specs.Prelude.{⊤}
use Rattle.graph_model.specs.declared.graph.Graph.{Graph}
use Rattle.graph_model.specs.declared.refused.Refused.{Refused}
use Rattle.graph_model.specs.declared.refused.Refused.TheVariants.{Fault, Memory}
use Rattle.plan_model.specs.Places.{IsNo}
use Rattle.plan_model.specs.declared.plan.Plan.{Plan}
use Rattle.plan_checker.specs.declared.verdicts.No.{No}

-- the first rule that fails, with its place; of want of memory nothing is said
abbrev pub IsRefusal : Graph → Plan → Refused No → Type 0
IsRefusal g plan (Fault n) = IsNo g plan n.rule n.place
IsRefusal g plan Memory = ⊤
