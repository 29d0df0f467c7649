-- The form of an output file.
use Rattle.std.specs.Prelude.{◌≡◌, ℕ, ◌+◌, ◌-◌, ◌≤◌}
use Rattle.graph_model.specs.declared.graph.Graph.{Graph}
use Rattle.wav_pcm.specs.Samples.{IsSize}
use Rattle.wav_pcm.specs.declared.head.Head.{Head}
use Rattle.graph_model.specs.Graphs.{out_channels}
use Rattle.host_modes.specs.Outputs.{left_out, sample_size, silent_frames}
use Rattle.command_words.specs.Rendering.{RenderRequest}
use Rattle.host_modes.specs.declared.output.forms.Form.{Form}

-- how many frames are written
abbrev pub written_frames : Form → ℕ
written_frames f = f.frames - f.skipped

-- a form in which frames can be written
pub record IsForm (f : Form) : Type 0 where
  pub channels_least : 1 ≤ f.channels
  pub channels_most : f.channels ≤ 32
  pub rate_least : 1 ≤ f.rate
  pub rate_most : f.rate ≤ 1000000
  pub size : IsSize f.bits

-- it is that of a request's output, for the head of its input
pub record IsFormOf (q : RenderRequest) (g : Graph) (head : Head) (f : Form) : Type 0 where
  pub channels : f.channels ≡ out_channels g
  pub rate : f.rate ≡ head.rate
  pub bits : f.bits ≡ sample_size q head
  pub silent : f.silent ≡ silent_frames q g
  pub frames : f.frames ≡ head.frames + f.silent
  pub skipped : f.skipped ≡ left_out q g
