-- The output file, as it is written.
use Rattle.std.specs.Prelude.{◌≡◌, ℕ, ◌+◌, ◌%◌, ◌^◌, ◌≤◌, List, [], ◌++◌, ◌⊎◌, Option, replicate}
use Rattle.graph_model.specs.Graphs.{in_channels, out_channels}
use Rattle.graph_model.specs.Sound.{IsSound}
use Rattle.graph_model.specs.declared.graph.Graph.{Graph}
use Rattle.gh_outside.specs.Holdings.{Holding, IsPast}
use Rattle.plan_text.specs.Texts.{text_of}
use Rattle.wav_pcm.specs.Files.{data_size, IsHead}
use Rattle.wav_pcm.specs.Heads.{head_of, most_data}
use Rattle.wav_pcm.specs.Samples.{IsSize}
use Rattle.wav_pcm.specs.declared.head.Head.{Head}
use Rattle.engine_model.specs.Engines.{Stands}
use Rattle.streaming.specs.Appends.{IsPart}
use Rattle.streaming.specs.Blocks.{all_frames, answer_put, AreLengths, HasRoom}
use Rattle.command_words.specs.Rendering.{RenderRequest}
use Rattle.host_modes.specs.Asked.{mode_of}
use Rattle.host_modes.specs.Outputs.{data_bytes, left_out, sample_size, silent_frames}
use Rattle.host_modes.specs.Plans.{IsBestPlan}
use Rattle.host_modes.specs.Readings.{FindsGraph}
use Rattle.host_modes.specs.Steps.{FindsHead}
use Rattle.host_modes.specs.declared.modes.render.Job.{Job}
use Rattle.host_modes.specs.declared.output.files.Rendering.{Rendering}

-- what stands in the file once the first k frames were rendered, where the input has these bytes
abbrev pub part_of : Rendering → Graph → List ℕ → ℕ → List ℕ
part_of r g file k = r.head ++ answer_put r.from r.to g file k

-- the whole file: all frames, and a byte 0 where their bytes are odd in number
abbrev pub whole_of : Rendering → Graph → List ℕ → List ℕ
whole_of r g file = part_of r g file (all_frames r.from) ++ replicate (r.data_bytes % 2) 0

-- what may stand there where a write failed once the first k frames were rendered: what the name held, a first part of
-- what these make, or, where they are all frames, of the whole file
abbrev pub IsBroken : Rendering → Graph → List ℕ → ℕ → Option Holding → Option Holding → Type 0
IsBroken r g file k old new =
    IsPart r.to.name.now (part_of r g file k) old new ⊎ ((k ≡ all_frames r.from) × IsPart r.to.name.now (whole_of r g file) old new)

-- it is that of a request, for a graph and the head of its input
pub record IsRenderingOf (q : RenderRequest) (g : Graph) (head : Head) (r : Rendering) : Type 0 where
  pub input : r.from.name.now ≡ q.input
  pub head_is : r.from.head ≡ head
  pub silent : r.from.silent ≡ silent_frames q g
  pub output : r.to.name.now ≡ q.output
  pub channels : r.to.channels ≡ out_channels g
  pub bits : r.to.bits ≡ sample_size q head
  pub skipped : r.to.skipped ≡ left_out q g
  pub start : r.head ≡ head_of (out_channels g) head.rate (sample_size q head) (data_bytes q g head)
  pub bytes : r.data_bytes ≡ data_bytes q g head
  pub few : all_frames r.from ≤ 2 ^ 34
  pub most : r.to.channels ≤ 32
  pub size : IsSize r.to.bits

-- what is made of them: the plan, its text, a new engine for that plan, and room for its blocks
pub record IsJobOf (q : RenderRequest) (g : Graph) (head : Head) (j : Job) : Type 0 where
  pub best : IsBestPlan g (mode_of q.waves) j.plan
  pub text : j.text.items ≡ text_of j.plan
  pub rendering : IsRenderingOf q g head j.rendering
  pub of_graph : j.engine.graph ≡ g
  pub by_plan : j.engine.plan ≡ j.plan
  pub new : Stands j.engine []
  pub lengths : AreLengths j.engine.block q.cutting
  pub room : HasRoom j.rendering.from j.rendering.to j.engine.block j.room

-- the head of the request's input, which can be rendered
pub record IsInputOf (q : RenderRequest) (g : Graph) (head : Head) (held : Option Holding) : Type 0 where
  pub found : FindsHead q.input g head held
  pub good : IsHead head
  pub channels : head.channels ≡ in_channels g
  pub there : ¬ IsPast q.input (head.from + data_size head) held
  pub short : data_bytes q g head ≤ most_data

-- all is ready to be written
pub record IsReadyJob (q : RenderRequest) (held : Option Holding) (j : Job) : Type 0 where
  pub g : Graph
  pub head : Head
  pub sound : IsSound g
  pub graph : FindsGraph q.graph g held
  pub input : IsInputOf q g head held
  pub job : IsJobOf q g head j
