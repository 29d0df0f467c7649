-- What a run has ready before it reports, and what it reports.
use Rattle.std.specs.Prelude.{◌≡◌, ℕ, List, [], ◌∷◌, ◌++◌, codes, Option, Some, None, Ok, Err, ◌⊎◌, ⊤}
use Rattle.std.specs.Fmt.{decimal}
use Rattle.plan_model.specs.declared.plan.Plan.{Plan}
use Rattle.plan_model.specs.declared.rule.Rule.{Rule}
use Rattle.plan_model.specs.declared.rule.Rule.TheVariants.{At, Input, Alignment, Latency, Lines, Total, Path, Longest, Arcs, Need, Bound, Least, Waves, Homes, Channels, Peak}
use Rattle.plan_model.specs.declared.schedule.Mode.TheVariants.{OneByOne}
use Rattle.plan_text.specs.Texts.{text_of}
use Rattle.gh_outside.specs.Holdings.{Holding, GainsAll, GainsPrefix}
use Rattle.command_words.specs.Requests.{render, compile, check, demo}
use Rattle.host_modes.specs.Asked.{mode_of, Asked, IsRender}
use Rattle.host_modes.specs.Demos.{demo_graph, demo_text}
use Rattle.host_modes.specs.Plans.{IsBestPlan, IsJudged, IsPlanUnder}
use Rattle.host_modes.specs.Readings.{MayRender}
use Rattle.host_modes.specs.declared.ends.End.{End}
use Rattle.host_modes.specs.declared.ends.End.TheVariants.{Done, No, ReadFault, WriteFault, ReportFault}

abbrev pub rule_name : Rule → List ℕ
rule_name At = codes "at"
rule_name Input = codes "input"
rule_name Alignment = codes "alignment"
rule_name Latency = codes "latency"
rule_name Lines = codes "lines"
rule_name Total = codes "total"
rule_name Path = codes "path"
rule_name Longest = codes "longest"
rule_name Arcs = codes "arcs"
rule_name Need = codes "need"
rule_name Bound = codes "bound"
rule_name Least = codes "least"
rule_name Waves = codes "waves"
rule_name Homes = codes "homes"
rule_name Channels = codes "channels"
rule_name Peak = codes "peak"

-- the line of a verdict: `yes`, or `no RULE PLACE`
abbrev pub verdict_line : End → List ℕ
verdict_line (No rule place) = codes "no " ++ (rule_name rule ++ (32 ∷ (decimal place ++ 10 ∷ [])))
verdict_line end = codes "yes" ++ 10 ∷ []

-- the plan, the text for the report, and the end that comes where nothing fails any more
abbrev pub IsWork : Asked → Option Holding → Plan → List ℕ → End → Type 0
IsWork (Ok (render q)) held plan text end =
    IsPlanUnder q.graph (mode_of q.waves) held plan × (text ≡ text_of plan) × (end ≡ Done) × MayRender q held
IsWork (Ok (compile q)) held plan text end = IsPlanUnder q.graph (mode_of q.waves) held plan × (text ≡ text_of plan) × (end ≡ Done)
IsWork (Ok (check q)) held plan text end = IsJudged q held plan end × (text ≡ verdict_line end)
IsWork (Ok (demo q)) held plan text end = IsBestPlan (demo_graph q) OneByOne plan × (text ≡ demo_text q plan) × (end ≡ Done)
IsWork (Err fault) held plan text end = ⊥

abbrev pub HasWork : Asked → Option Holding → Type 0
HasWork asked held = (plan : Plan) × (text : List ℕ) × (end : End) × IsWork asked held plan text end

-- nothing was reported, and no plan is handed back
abbrev pub IsUnanswered : Option Plan → Option (List ℕ) → Option (List ℕ) → Type 0
IsUnanswered kept old new = (kept ≡ None) × (new ≡ old)

-- the whole text of a work was reported, and its plan is handed back
abbrev pub IsReported : Asked → Option Holding → End → Option Plan → Option (List ℕ) → Option (List ℕ) → Type 0
IsReported asked held end kept old new =
    (plan : Plan) × (text : List ℕ) × (kept ≡ Some plan) × IsWork asked held plan text end × GainsAll text old new

-- What a run hands back and has reported, by its end. With a work that is done, or whose output could not be written,
-- the whole text has been reported, and so it has where a block could not be read; where the report failed, the first
-- of it; and at any other end nothing, and no plan is there.
abbrev pub IsAnswered : Asked → Option Holding → End → Option Plan → Option (List ℕ) → Option (List ℕ) → Type 0
IsAnswered asked held Done kept old new = IsReported asked held Done kept old new
IsAnswered asked held (No rule place) kept old new = IsReported asked held (No rule place) kept old new
IsAnswered asked held WriteFault kept old new = IsReported asked held Done kept old new
IsAnswered asked held ReadFault kept old new =
    IsUnanswered kept old new ⊎ (IsRender asked (λ q. ⊤) × IsReported asked held Done kept old new)
IsAnswered asked held ReportFault kept old new =
    (plan : Plan) × (text : List ℕ) × (end : End) × (kept ≡ Some plan) × IsWork asked held plan text end × GainsPrefix text old new
IsAnswered asked held end kept old new = IsUnanswered kept old new
