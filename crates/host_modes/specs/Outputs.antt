-- The file that a graph makes of a recording.
use Rattle.std.specs.Prelude.{ℕ, ℤ, List, ◌+◌, ◌-◌, ◌*◌, ◌/◌, ◌++◌, drop, length, if◌then◌else◌, Option, Some, None}
use Rattle.graph_model.specs.Histories.{History, frames_of, interleaved, silence}
use Rattle.graph_model.specs.Graphs.{in_channels, out_channels}
use Rattle.graph_model.specs.Paths.{latency_of_graph}
use Rattle.graph_model.specs.Answers.{answer}
use Rattle.graph_model.specs.declared.graph.Graph.{Graph}
use Rattle.wav_pcm.specs.Heads.{head_of, wave_file_of}
use Rattle.wav_pcm.specs.Samples.{bytes_of}
use Rattle.wav_pcm.specs.declared.head.Head.{Head}
use Rattle.command_words.specs.Rendering.{RenderRequest}

-- how many frames of silence come after the input: as many as the graph's latency, and the tail
abbrev pub silent_frames : RenderRequest → Graph → ℕ
silent_frames q g = latency_of_graph g + q.tail

-- the graph's answer to the frames of the samples and then k frames of silence, interleaved
abbrev pub answered : Graph → ℕ → List ℤ → List ℤ
answered g k samples = interleaved (answer g (silence k (in_channels g) ++ frames_of (in_channels g) samples))

-- the size of the samples that are written: as asked, or else that of the input
abbrev pub chosen : Option ℕ → ℕ → ℕ
chosen None bits = bits
chosen (Some asked) bits = asked

abbrev pub sample_size : RenderRequest → Head → ℕ
sample_size q head = chosen q.bits head.bits

-- how many of the answer's first frames are left out: as many as the graph's latency, where that is asked
abbrev pub left_out : RenderRequest → Graph → ℕ
left_out q g = if q.compensate then latency_of_graph g else 0

-- the output file
abbrev pub output_of : RenderRequest → Graph → Head → List ℤ → List ℕ
output_of q g head samples =
    wave_file_of (out_channels g) head.rate (sample_size q head)
    (drop (left_out q g * out_channels g) (answered g (silent_frames q g) samples))

-- the history of all frames that come in
abbrev pub all_input : RenderRequest → Graph → List ℤ → History
all_input q g samples = silence (silent_frames q g) (in_channels g) ++ frames_of (in_channels g) samples

-- the first k frames of a history
abbrev pub first_of : ℕ → History → History
first_of k h = drop (length h - k) h

-- the bytes of its frames: one frame for each that is read, and for each of silence, but for those that are left out
abbrev pub data_bytes : RenderRequest → Graph → Head → ℕ
data_bytes q g head = (head.frames + silent_frames q g - left_out q g) * (out_channels g * (sample_size q head / 8))

-- what stands in the output file once the first k frames were rendered: the head of the whole, and the bytes of those
-- that are kept
abbrev pub output_after : RenderRequest → Graph → Head → List ℤ → ℕ → List ℕ
output_after q g head samples k =
    head_of (out_channels g) head.rate (sample_size q head) (data_bytes q g head)
    ++ bytes_of (sample_size q head) (drop (left_out q g * out_channels g) (interleaved (answer g (first_of k (all_input q g samples)))))
