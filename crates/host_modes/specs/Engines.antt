-- The engine that a run hands back.
use Rattle.std.specs.Prelude.{◌≡◌, ℕ, ◌+◌, ℤ, List, [], take, Option, Some, None, Ok, ◌⊎◌, ⊤}
use Rattle.graph_model.specs.Sound.{IsSound}
use Rattle.gh_outside.specs.Holdings.{Holding}
use Rattle.plan_model.specs.declared.plan.Plan.{Plan}
use Rattle.plan_model.specs.declared.schedule.Mode.TheVariants.{OneByOne}
use Rattle.wav_pcm.specs.declared.head.Head.{Head}
use Rattle.engine_model.specs.Engines.{Parts, Stands}
use Rattle.command_words.specs.Demos.{DemoRequest}
use Rattle.command_words.specs.Rendering.{RenderRequest}
use Rattle.command_words.specs.Requests.{render, demo}
use Rattle.host_modes.specs.Asked.{mode_of, Asked}
use Rattle.host_modes.specs.Demos.{demo_graph, demo_input}
use Rattle.host_modes.specs.Outputs.{all_input, first_of, output_after, output_of, silent_frames}
use Rattle.host_modes.specs.Plans.{IsBestPlan}
use Rattle.host_modes.specs.Readings.{FindsGraph, IsJob}
use Rattle.host_modes.specs.declared.ends.End.{End}
use Rattle.host_modes.specs.declared.ends.End.TheVariants.{Done, ReadFault, WriteFault, ReportFault}

-- it keeps the graph of the request, and the plan that is handed back, which is the best of that graph
pub record IsEngineOf (q : RenderRequest) (held : Option Holding) (kept : Option Plan) (e : Parts) : Type 0 where
  pub sound : IsSound e.graph
  pub graph : FindsGraph q.graph e.graph held
  pub plan : kept ≡ Some e.plan
  pub best : IsBestPlan e.graph (mode_of q.waves) e.plan

-- it stands for all frames of the input and of the silence after them
abbrev pub HasPlayed : RenderRequest → Option Holding → Parts → Type 0
HasPlayed q None e = ⊤
HasPlayed q (Some files) e =
    (head : Head) × (samples : List ℤ) × IsJob q e.graph head samples files × Stands e (all_input q e.graph samples)

-- it stands for the first of them, and the output holds the head and just those of these that are kept
abbrev pub HasHalted : RenderRequest → Option Holding → Option Holding → Parts → Type 0
HasHalted q (Some old) (Some new) e =
    (head : Head) × (samples : List ℤ) × IsJob q e.graph head samples old
    × Stands e (first_of e.frames (all_input q e.graph samples)) × (new q.output ≡ Some (output_after q e.graph head samples e.frames))
HasHalted q old new e = ⊤

-- it stands for the first of them, and the output holds what it held, a first part of what they make, or, where they
-- are all, of the whole file
abbrev pub HasBroken : RenderRequest → Option Holding → Option Holding → Parts → Type 0
HasBroken q (Some old) (Some new) e =
    (head : Head) × (samples : List ℤ) × IsJob q e.graph head samples old × Stands e (first_of e.frames (all_input q e.graph samples))
    × ((new q.output ≡ old q.output)
    ⊎ (((n : ℕ) × (new q.output ≡ Some (take n (output_after q e.graph head samples e.frames))))
    ⊎ ((e.frames ≡ head.frames + silent_frames q e.graph) × ((n : ℕ) × (new q.output ≡ Some (take n (output_of q e.graph head samples)))))))
HasBroken q old new e = ⊤

-- such an engine is there
abbrev pub HasEngine : RenderRequest → Option Holding → Option Plan → (Parts → Type 0) → Option Parts → Type 0
HasEngine q held kept P engine = (e : Parts) × (engine ≡ Some e) × IsEngineOf q held kept e × P e

-- the engine of a request to render, by its end
abbrev pub IsRenderedBy : RenderRequest → Option Holding → Option Holding → End → Option Plan → Option Parts → Type 0
IsRenderedBy q old new Done kept engine = HasEngine q old kept (HasPlayed q old) engine
IsRenderedBy q old new WriteFault kept engine = HasEngine q old kept (HasBroken q old new) engine
IsRenderedBy q old new ReportFault kept engine = HasEngine q old kept (λ e. Stands e []) engine
IsRenderedBy q old new ReadFault kept engine = ((kept ≡ None) × (engine ≡ None)) ⊎ HasEngine q old kept (HasHalted q old new) engine
IsRenderedBy q old new end kept engine = engine ≡ None

-- the engine of a demonstration: it stands for all frames of samples and of the silence after them
pub record IsDemoEngine (q : DemoRequest) (kept : Option Plan) (e : Parts) : Type 0 where
  pub graph : e.graph ≡ demo_graph q
  pub plan : kept ≡ Some e.plan
  pub best : IsBestPlan (demo_graph q) OneByOne e.plan
  pub stands : Stands e (demo_input q e.plan.latency)

abbrev pub IsDemonstratedBy : DemoRequest → End → Option Plan → Option Parts → Type 0
IsDemonstratedBy q Done kept engine = (e : Parts) × (engine ≡ Some e) × IsDemoEngine q kept e
IsDemonstratedBy q ReportFault kept engine = (e : Parts) × (engine ≡ Some e) × IsDemoEngine q kept e
IsDemonstratedBy q end kept engine = engine ≡ None

-- the engine that is handed back, by what is asked and by the end
abbrev pub IsPlayed : Asked → Option Holding → Option Holding → End → Option Plan → Option Parts → Type 0
IsPlayed (Ok (render q)) old new end kept engine = IsRenderedBy q old new end kept engine
IsPlayed (Ok (demo q)) old new end kept engine = IsDemonstratedBy q end kept engine
IsPlayed asked old new end kept engine = engine ≡ None

-- the engine that comes with a plan where no file is written
abbrev pub IsWorkEngine : Asked → Plan → Option Parts → Type 0
IsWorkEngine (Ok (demo q)) plan engine = (e : Parts) × (engine ≡ Some e) × IsDemoEngine q (Some plan) e
IsWorkEngine asked plan engine = engine ≡ None
