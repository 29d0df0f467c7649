-- What the steps of a run find under a name, where the folder tells.
use Rattle.std.specs.Prelude.{◌≡◌, ℕ, ◌-◌, ◌^◌, ◌<◌, min, List, Option, Some, None, Ok, Err, ⊤}
use Rattle.graph_model.specs.declared.graph.Graph.{Graph}
use Rattle.connections.specs.Faults.{IsFirstFault}
use Rattle.gh_outside.specs.Holdings.{Holding}
use Rattle.wav_pcm.specs.Files.{ReadsAs}
use Rattle.wav_pcm.specs.Heads.{most_data}
use Rattle.wav_pcm.specs.declared.head.Head.{Head}
use Rattle.wav_pcm.specs.declared.head.WavFault.TheVariants.{TooLong}
use Rattle.host_modes.specs.Causes.{IsRefusal}
use Rattle.graph_model.specs.Graphs.{in_channels}
use Rattle.host_modes.specs.Outputs.{data_bytes}
use Rattle.command_words.specs.Rendering.{RenderRequest}
use Rattle.host_modes.specs.declared.ends.End.{End}
use Rattle.host_modes.specs.declared.ends.End.TheVariants.{Graph as Checks, Wav, ReadFault, Memory}

-- the checks of a graph end it so
abbrev pub Refuses : Graph → End → Type 0
Refuses g (Checks fault) = IsFirstFault g fault
Refuses g Memory = ⊤
Refuses g end = ⊥

-- the name holds a file with this head
abbrev pub FindsHead : List ℕ → Graph → Head → Option Holding → Type 0
FindsHead name g head None = ⊤
FindsHead name g head (Some files) = (bytes : List ℕ) × (files name ≡ Some bytes) × ReadsAs (in_channels g) bytes (Ok head)

-- or it ends by a fault of the file, or by its absence
abbrev pub IsHeadEnd : List ℕ → Graph → Option Holding → End → Type 0
IsHeadEnd name g None end = IsRefusal end
IsHeadEnd name g (Some files) ReadFault = files name ≡ None
IsHeadEnd name g (Some files) (Wav fault) = (bytes : List ℕ) × (files name ≡ Some bytes) × ReadsAs (in_channels g) bytes (Err fault)
IsHeadEnd name g (Some files) end = ⊥

-- the output has more bytes of frames than a WAV file can
abbrev pub IsTooLong : RenderRequest → Graph → Head → End → Type 0
IsTooLong q g head end = (most_data < data_bytes q g head) × (end ≡ Wav (TooLong (min (data_bytes q g head) (2 ^ 64 - 1))))
