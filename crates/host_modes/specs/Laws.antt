-- What is proved of the definitions.
use Rattle.std.specs.Prelude.{◌≡◌, Some}
use Rattle.gh_outside.specs.Holdings.{Holding}
use Rattle.plan_model.specs.declared.plan.Plan.{Plan}
use Rattle.plan_model.specs.declared.schedule.Mode.{Mode}
use Rattle.plan_text.specs.Texts.{text_of, IsInRange}
use Rattle.command_words.specs.Checking.{CheckRequest}
use Rattle.host_modes.specs.Asked.{Asked}
use Rattle.host_modes.specs.Causes.{IsCheckEnd, IsEndBy, plain}
use Rattle.host_modes.specs.Plans.{IsPlanUnder}
use Rattle.host_modes.specs.declared.ends.End.{End}
use Rattle.host_modes.specs.declared.ends.End.TheVariants.{Done}

-- with what is held there is one end, but for the walk of a cycle
abbrev pub EndIsOne : Type 0
EndIsOne = (asked : Asked) (files : Holding) (a b : End) → IsEndBy asked (Some files) a → IsEndBy asked (Some files) b → plain a ≡ plain b

-- the text of a plan that was compiled of a graph is judged yes for that graph
abbrev pub CompiledIsYes : Type 0
CompiledIsYes = (q : CheckRequest) (mode : Mode) (files : Holding) (plan : Plan) (end : End) → IsPlanUnder q.graph mode (Some files) plan →
    files q.plan ≡ Some (text_of plan) → IsInRange plan → IsCheckEnd q (Some files) end → end ≡ Done
