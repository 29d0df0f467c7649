-- Why a run ends as it does.
use Rattle.std.specs.Prelude.{◌≡◌, ◌≢◌, ℕ, ◌^◌, ◌-◌, ◌<◌, min, List, Option, Some, None, Ok, Err, ◌⊎◌, ⊤}
use Rattle.graph_model.specs.Graphs.{in_channels}
use Rattle.graph_model.specs.declared.graph.Graph.{Graph}
use Rattle.graph_records.specs.Walk.{walk}
use Rattle.connections.specs.Faults.{IsFirstFault}
use Rattle.connections.specs.Laws.{without_walk}
use Rattle.plan_model.specs.declared.plan.Plan.{Plan}
use Rattle.plan_text.specs.Order.{order, IsFirstBad}
use Rattle.gh_outside.specs.Holdings.{Holding}
use Rattle.wav_pcm.specs.Files.{ReadsAs}
use Rattle.wav_pcm.specs.Heads.{most_data}
use Rattle.wav_pcm.specs.declared.head.Head.{Head}
use Rattle.wav_pcm.specs.declared.head.WavFault.{WavFault}
use Rattle.wav_pcm.specs.declared.head.WavFault.TheVariants.{TooLong}
use Rattle.command_words.specs.Checking.{CheckRequest}
use Rattle.command_words.specs.Compiling.{CompileRequest}
use Rattle.command_words.specs.Rendering.{RenderRequest}
use Rattle.command_words.specs.Requests.{render, compile, check, demo}
use Rattle.command_words.specs.declared.fault.WordsFault.TheVariants.{NoRequest, OutOfRange}
use Rattle.host_modes.specs.Asked.{Asked, IsRender}
use Rattle.host_modes.specs.Outputs.{data_bytes}
use Rattle.host_modes.specs.Plans.{IsJudged}
use Rattle.host_modes.specs.Readings.{FindsGraph, HoldsRecords, HoldsGraph, MayBeReady, MayHoldGraph, MayRender}
use Rattle.host_modes.specs.Works.{HasWork}
use Rattle.host_modes.specs.declared.ends.End.{End}
use Rattle.host_modes.specs.declared.ends.End.TheVariants.{Done, Words, SameName, Seed, Records, Graph as Checks, Wav, ReadFault, WriteFault, ReportFault, Memory, PlanText}

-- where the folder does not tell what it holds, what was read of it may have been refused for any fault
abbrev pub IsRefusal : End → Type 0
IsRefusal (Records fault) = ⊤
IsRefusal (Checks fault) = ⊤
IsRefusal (Wav fault) = ⊤
IsRefusal end = ⊥

-- the graph ends it so: the name is not held, or its bytes are no records, or the first check that fails
abbrev pub IsGraphEnd : List ℕ → Option Holding → End → Type 0
IsGraphEnd name None end = IsRefusal end
IsGraphEnd name (Some files) ReadFault = files name ≡ None
IsGraphEnd name (Some files) (Records fault) = (bytes : List ℕ) × (files name ≡ Some bytes) × (walk bytes ≡ Err fault)
IsGraphEnd name (Some files) (Checks fault) = (g : Graph) × HoldsRecords name g files × IsFirstFault g fault
IsGraphEnd name (Some files) end = ⊥

-- the file has this fault for the graph, or its output would have so many bytes of frames, which are kept in 64 bits
abbrev pub HasWavFault : RenderRequest → Graph → List ℕ → WavFault → Type 0
HasWavFault q g bytes fault =
    ReadsAs (in_channels g) bytes (Err fault)
    ⊎ ((head : Head) × ReadsAs (in_channels g) bytes (Ok head) × (most_data < data_bytes q g head)
    × (fault ≡ TooLong (min (data_bytes q g head) (2 ^ 64 - 1))))

-- the input ends it so, for a graph
abbrev pub IsInputEnd : RenderRequest → Graph → Option Holding → End → Type 0
IsInputEnd q g None end = IsRefusal end
IsInputEnd q g (Some files) ReadFault = files q.input ≡ None
IsInputEnd q g (Some files) (Wav fault) = (bytes : List ℕ) × (files q.input ≡ Some bytes) × HasWavFault q g bytes fault
IsInputEnd q g (Some files) end = ⊥

-- the same, for the request's graph
abbrev pub HasInputEnd : RenderRequest → Option Holding → End → Type 0
HasInputEnd q None end = IsRefusal end
HasInputEnd q (Some files) end = (g : Graph) × HoldsGraph q.graph g files × IsInputEnd q g (Some files) end

-- the graph is read and checked, and then the input
abbrev pub IsReadEnd : RenderRequest → Option Holding → End → Type 0
IsReadEnd q held end = IsGraphEnd q.graph held end ⊎ HasInputEnd q held end

-- where no call of the folder fails and there is memory, what is not refused so is done
abbrev pub HasEnd : RenderRequest → Option Holding → End → Type 0
HasEnd q held end = IsReadEnd q held end ⊎ ((end ≡ Done) × MayBeReady q held)

-- but first the two names of files have to differ
abbrev pub IsEndOf : RenderRequest → Option Holding → End → Type 0
IsEndOf q held end = ((q.input ≡ q.output) × (end ≡ SameName)) ⊎ ((q.input ≢ q.output) × HasEnd q held end)

-- a plan is compiled of a graph that is sound
abbrev pub IsCompileEnd : CompileRequest → Option Holding → End → Type 0
IsCompileEnd q held end = IsGraphEnd q.graph held end ⊎ ((end ≡ Done) × MayHoldGraph q.graph held)

-- the text of a plan ends it so: the name is not held, or a line is bad
abbrev pub IsTextEnd : List ℕ → Option Holding → End → Type 0
IsTextEnd name None (PlanText line) = ⊤
IsTextEnd name (Some files) ReadFault = files name ≡ None
IsTextEnd name (Some files) (PlanText line) = (bytes : List ℕ) × (files name ≡ Some bytes) × IsFirstBad order bytes line
IsTextEnd name held end = ⊥

-- a plan is judged for a graph that is sound
abbrev pub IsCheckEnd : CheckRequest → Option Holding → End → Type 0
IsCheckEnd q held end =
    IsGraphEnd q.graph held end
    ⊎ (((g : Graph) × FindsGraph q.graph g held × IsTextEnd q.plan held end)
    ⊎ ((plan : Plan) × IsJudged q held plan end))

-- how what is asked ends, where no call of the outside fails and there is memory
abbrev pub IsEndBy : Asked → Option Holding → End → Type 0
IsEndBy (Ok (render q)) held end = IsEndOf q held end
IsEndBy (Ok (compile q)) held end = IsCompileEnd q held end
IsEndBy (Ok (check q)) held end = IsCheckEnd q held end
IsEndBy (Ok (demo q)) held end = end ≡ Done
IsEndBy (Err NoRequest) held end = end ≡ Words
IsEndBy (Err OutOfRange) held end = end ≡ Seed

-- the same where the folder tells, if a file is read
abbrev pub IsToldEnd : Asked → Option Holding → End → Type 0
IsToldEnd (Ok (render q)) None end = ⊥
IsToldEnd (Ok (compile q)) None end = ⊥
IsToldEnd (Ok (check q)) None end = ⊥
IsToldEnd asked held end = IsEndBy asked held end

-- a step ends by a cause of its own, or a read failed, or there was no memory
abbrev pub Stops : (End → Type 0) → Type 0 → End → Type 0
Stops Cause read_failed end = Cause end ⊎ ((end ≡ ReadFault) × read_failed) ⊎ (end ≡ Memory)

-- no read can end what reads no file
abbrev pub Reads : Asked → Type 0 → Type 0
Reads (Ok (render q)) failed = (q.input ≢ q.output) × failed
Reads (Ok (compile q)) failed = failed
Reads (Ok (check q)) failed = failed
Reads (Ok (demo q)) failed = ⊥
Reads (Err fault) failed = ⊥

-- and so does a run, or a write or its report failed where all was ready
abbrev pub IsCaused : Asked → Option Holding → Type 0 → Type 0 → Type 0 → End → Type 0
IsCaused asked held read_failed write_failed report_failed end =
    Stops (IsEndBy asked held) (Reads asked read_failed) end
    ⊎ (((end ≡ WriteFault) × write_failed × IsRender asked (λ q. MayRender q held))
    ⊎ ((end ≡ ReportFault) × report_failed × HasWork asked held))

-- an end, but for which closed walk was found
abbrev pub plain : End → End
plain (Checks fault) = Checks (without_walk fault)
plain end = end

-- it ends so just where this holds, but for want of memory
abbrev pub EndsJust : End → End → Type 0 → Type 0
EndsJust end which cause = (end ≡ which → cause) × (cause → (end ≡ which) ⊎ (end ≡ Memory))

-- these three ends come just where the words say so
pub record IsByWords (asked : Asked) (end : End) : Type 0 where
  pub words : EndsJust end Words (asked ≡ Err NoRequest)
  pub seed : EndsJust end Seed (asked ≡ Err OutOfRange)
  pub same_name : EndsJust end SameName (IsRender asked (λ q. q.input ≡ q.output))
