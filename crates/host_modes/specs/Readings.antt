-- What a request reads, and what it leaves.
use Rattle.std.specs.Prelude.{◌≡◌, ◌≢◌, ℕ, ℤ, ◌≤◌, List, take, Option, Some, None, Ok, ◌⊎◌, ⊤}
use Rattle.graph_model.specs.Sound.{IsSound}
use Rattle.graph_model.specs.declared.graph.Graph.{Graph}
use Rattle.graph_records.specs.Walk.{walk}
use Rattle.gh_outside.specs.Holdings.{Holding}
use Rattle.plan_model.specs.declared.plan.Plan.{Plan}
use Rattle.plan_text.specs.Texts.{text_of, IsInRange}
use Rattle.wav_pcm.specs.Files.{ReadsAs, recorded}
use Rattle.wav_pcm.specs.Heads.{most_data}
use Rattle.wav_pcm.specs.declared.head.Head.{Head}
use Rattle.graph_model.specs.Graphs.{in_channels}
use Rattle.host_modes.specs.Outputs.{data_bytes, output_of}
use Rattle.command_words.specs.Rendering.{RenderRequest}

-- the name holds the records of this graph
abbrev pub HoldsRecords : List ℕ → Graph → Holding → Type 0
HoldsRecords name g files = (bytes : List ℕ) × (files name ≡ Some bytes) × (walk bytes ≡ Ok g)

-- the name holds the records of this sound graph
pub record HoldsGraph (name : List ℕ) (g : Graph) (files : Holding) : Type 0 where
  pub records : HoldsRecords name g files
  pub sound : IsSound g

-- the name holds the text of this plan
abbrev pub HoldsPlan : List ℕ → Plan → Holding → Type 0
HoldsPlan name plan files = (files name ≡ Some (text_of plan)) × IsInRange plan

-- the name holds a WAV file with this head for the graph, and these are the samples of its frames
pub record HoldsRecording (name : List ℕ) (g : Graph) (head : Head) (samples : List ℤ) (files : Holding) : Type 0 where
  pub bytes : List ℕ
  pub held : files name ≡ Some bytes
  pub head_is : ReadsAs (in_channels g) bytes (Ok head)
  pub samples_are : samples ≡ recorded head bytes

-- the request can be done: its graph, its input, and an output that is not too long for a WAV file
pub record IsJob (q : RenderRequest) (g : Graph) (head : Head) (samples : List ℤ) (files : Holding) : Type 0 where
  pub graph : HoldsGraph q.graph g files
  pub recording : HoldsRecording q.input g head samples files
  pub short : data_bytes q g head ≤ most_data

-- ---- where the folder tells what it holds

abbrev pub FindsRecords : List ℕ → Graph → Option Holding → Type 0
FindsRecords name g None = ⊤
FindsRecords name g (Some files) = HoldsRecords name g files

abbrev pub FindsGraph : List ℕ → Graph → Option Holding → Type 0
FindsGraph name g None = ⊤
FindsGraph name g (Some files) = HoldsGraph name g files

abbrev pub FindsPlan : List ℕ → Plan → Option Holding → Type 0
FindsPlan name plan None = ⊤
FindsPlan name plan (Some files) = HoldsPlan name plan files

-- the name holds a sound graph
abbrev pub MayHoldGraph : List ℕ → Option Holding → Type 0
MayHoldGraph name None = ⊤
MayHoldGraph name (Some files) = (g : Graph) × HoldsGraph name g files

-- the request can be done with what is held
abbrev pub IsReady : RenderRequest → Holding → Type 0
IsReady q files = (g : Graph) × (head : Head) × (samples : List ℤ) × IsJob q g head samples files

abbrev pub MayBeReady : RenderRequest → Option Holding → Type 0
MayBeReady q None = ⊤
MayBeReady q (Some files) = IsReady q files

-- and its input and output are two files
abbrev pub MayRender : RenderRequest → Option Holding → Type 0
MayRender q held = (q.input ≢ q.output) × MayBeReady q held

-- the output holds the file that the request asks for
abbrev pub IsWritten : RenderRequest → Option Holding → Option Holding → Type 0
IsWritten q (Some old) (Some new) =
    (g : Graph) × (head : Head) × (samples : List ℤ) × IsJob q g head samples old × (new q.output ≡ Some (output_of q g head samples))
IsWritten q old new = ⊤

-- the output is as it was, or holds a first part of that file
abbrev pub IsBegun : RenderRequest → Option Holding → Option Holding → Type 0
IsBegun q (Some old) (Some new) =
    (new q.output ≡ old q.output)
    ⊎ ((g : Graph) × (head : Head) × (samples : List ℤ) × IsJob q g head samples old
    × ((n : ℕ) × (new q.output ≡ Some (take n (output_of q g head samples)))))
IsBegun q old new = ⊤
