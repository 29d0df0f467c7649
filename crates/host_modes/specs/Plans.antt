-- Plans that a run makes or judges.
use Rattle.std.specs.Prelude.{ℕ, List, Option}
use Rattle.graph_model.specs.Sound.{IsSound}
use Rattle.graph_model.specs.declared.graph.Graph.{Graph}
use Rattle.plan_model.specs.Certified.{IsCertified}
use Rattle.plan_model.specs.Optimal.{IsOptimal}
use Rattle.plan_model.specs.Places.{IsNo}
use Rattle.plan_model.specs.Results.{IsPlan}
use Rattle.plan_model.specs.declared.plan.Plan.{Plan}
use Rattle.plan_model.specs.declared.schedule.Mode.{Mode}
use Rattle.gh_outside.specs.Holdings.{Holding}
use Rattle.command_words.specs.Checking.{CheckRequest}
use Rattle.host_modes.specs.Readings.{FindsGraph, FindsPlan}
use Rattle.host_modes.specs.declared.ends.End.{End}
use Rattle.host_modes.specs.declared.ends.End.TheVariants.{Done, No}

-- The plan of the graph in that mode: certified, with its schedule and its printed path. No alignment has less latency,
-- none of that latency less delay in all, and no assignment of buffers for its schedule fewer channels.
pub record IsBestPlan (g : Graph) (mode : Mode) (plan : Plan) : Type 0 where
  pub plan_is : IsPlan g mode plan
  pub optimal : IsOptimal g plan

-- that of the sound graph under a name
abbrev pub IsPlanUnder : List ℕ → Mode → Option Holding → Plan → Type 0
IsPlanUnder name mode held plan = (g : Graph) × IsSound g × FindsGraph name g held × IsBestPlan g mode plan

-- What a checker says of a plan, as an end: yes is Done, and then the plan is optimal, whoever made it; or no, by the
-- first rule that fails and its place.
abbrev pub IsVerdict : Graph → Plan → End → Type 0
IsVerdict g plan Done = IsCertified g plan × IsOptimal g plan
IsVerdict g plan (No rule place) = IsNo g plan rule place
IsVerdict g plan end = ⊥

-- that of the plan that a request names, for the graph that it names
abbrev pub IsJudged : CheckRequest → Option Holding → Plan → End → Type 0
IsJudged q held plan end = (g : Graph) × IsSound g × FindsGraph q.graph g held × FindsPlan q.plan plan held × IsVerdict g plan end
