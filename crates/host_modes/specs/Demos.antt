-- What a demonstration shows: a generated graph, its plan, and its answer to generated samples.
use Rattle.std.specs.Prelude.{ℕ, ◌+◌, ◌*◌, List, [], ◌∷◌, ◌++◌, codes, length, sum}
use Rattle.std.specs.Fmt.{decimal}
use Rattle.graph_model.specs.Graphs.{in_channels}
use Rattle.graph_model.specs.Histories.{History, frames_of, silence}
use Rattle.graph_model.specs.Paths.{latency_of_graph}
use Rattle.graph_model.specs.declared.graph.Graph.{Graph}
use Rattle.graph_gen.specs.Draws.{samples_drawn}
use Rattle.graph_gen.specs.Generated.{generated}
use Rattle.plan_model.specs.declared.plan.Plan.{Plan}
use Rattle.wav_pcm.specs.Samples.{bytes_of}
use Rattle.command_words.specs.Demos.{DemoRequest}
use Rattle.host_modes.specs.Outputs.{answered}

abbrev pub demo_graph : DemoRequest → Graph
demo_graph q = generated q.seed q.nodes

-- how many frames of samples come in
unfoldable pub demo_frames : ℕ
demo_frames = 4800

-- the graph's answer to so many frames of two channels, and then to silence as long as its latency, in samples of 16
-- bits
unfoldable pub demo_bytes : DemoRequest → List ℕ
demo_bytes q = let g = demo_graph q in bytes_of 16 (answered g (latency_of_graph g) (samples_drawn q.seed (demo_frames * 2)))

-- the history of the frames that come in, where so many of silence come after the samples
abbrev pub demo_input : DemoRequest → ℕ → History
demo_input q silent =
    silence silent (in_channels (demo_graph q)) ++ frames_of (in_channels (demo_graph q)) (samples_drawn q.seed (demo_frames * 2))

-- a word, a space, a number, and byte 10
unfoldable pub row : List ℕ → ℕ → List ℕ
row word n = word ++ (32 ∷ (decimal n ++ 10 ∷ []))

-- how many frames were rendered, and the sum of their bytes
unfoldable pub sum_row : ℕ → ℕ → List ℕ
sum_row frames bytes = codes "frames " ++ (decimal frames ++ (codes " sum " ++ (decimal bytes ++ 10 ∷ [])))

-- the six lines of a demonstration: sizes of the graph, what its plan says, and what was rendered
abbrev pub demo_lines : Graph → Plan → ℕ → List ℕ
demo_lines g plan bytes =
    row (codes "nodes") (length g.nodes)
    ++ row (codes "connections") (length g.connections)
    ++ row (codes "latency") plan.latency
    ++ row (codes "total") plan.total
    ++ row (codes "channels") plan.channels
    ++ sum_row (demo_frames + plan.latency) bytes

abbrev pub demo_text : DemoRequest → Plan → List ℕ
demo_text q plan = demo_lines (demo_graph q) plan (sum (demo_bytes q))
