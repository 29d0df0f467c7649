-- Frames out of a file, through an engine, and onto the end of another file.
use Rattle.std.specs.Prelude.{◌≡◌, ◌≤◌, ◌<◌, ◌≢◌, ℕ, ◌+◌, ◌-◌, ◌*◌, ◌/◌, ◌^◌, ℤ, pos, List, ◌++◌, length, take, drop, replicate, All, Option}
use Rattle.graph_model.specs.Answers.{answer}
use Rattle.graph_model.specs.Histories.{History, frames_of, interleaved}
use Rattle.graph_model.specs.Sound.{IsSound}
use Rattle.graph_model.specs.declared.graph.Graph.{Graph}
use Rattle.gh_outside.specs.Holdings.{Holding, HeldBytes, IsPast}
use Rattle.wav_pcm.specs.Files.{data_size, recorded, IsHead}
use Rattle.wav_pcm.specs.Samples.{bytes_of, IsSize}
use Rattle.engine_model.specs.Cuttings.{HasRendered}
use Rattle.engine_model.specs.Engines.{ins, outs, Parts, Stands}
use Rattle.streaming.specs.Appends.{IsAppended, IsPartAppended}
use Rattle.streaming.specs.declared.ends.Incoming.{Incoming}
use Rattle.streaming.specs.declared.ends.Outgoing.{Outgoing}
use Rattle.streaming.specs.declared.room.Room.{Room}

-- the lengths of blocks, in frames
abbrev pub AreLengths : ℕ → List ℕ → Type 0
AreLengths longest lengths = (0 < length lengths) × All (λ n. (1 ≤ n) × (n ≤ longest)) lengths

-- how many frames come in
abbrev pub all_frames : Incoming → ℕ
all_frames i = i.head.frames + i.silent

-- their samples, where the file has these bytes
abbrev pub all_samples : Incoming → List ℕ → List ℤ
all_samples i file = recorded i.head file ++ replicate (i.silent * i.head.channels) (pos 0)

-- the samples of n of these frames, from the k-th on, where the folder tells
abbrev pub AreFrames : Incoming → ℕ → ℕ → List ℤ → Option Holding → Type 0
AreFrames i k n samples held =
    HeldBytes i.name.now held (λ file. samples ≡ take (n * i.head.channels) (drop (k * i.head.channels) (all_samples i file)))

-- what is appended of the frames that went out, from the k-th on
abbrev pub put_of : Outgoing → ℕ → List ℤ → List ℕ
put_of o k went = bytes_of o.bits (drop ((o.skipped - k) * o.channels) went)

-- n frames, from the k-th on, came in and were rendered by the engine e, which they leave as e'
pub record Comes (i : Incoming) (k n : ℕ) (came went : List ℤ) (held : Option Holding) (e e' : Parts) : Type 0 where
  pub frames : AreFrames i k n came held
  pub long : length came ≡ n * i.head.channels
  pub gone : length went ≡ n * outs e
  pub rendered : HasRendered e came went e'

-- this is what went out of n such frames
abbrev pub IsRendered : Incoming → ℕ → ℕ → List ℤ → Option Holding → Parts → Parts → Type 0
IsRendered i k n went held e e' = (came : List ℤ) × Comes i k n came went held e e'

-- and all that is kept of what went out was appended
abbrev pub HasStreamed : Incoming → Outgoing → ℕ → ℕ → Option Holding → Parts → Option Holding → Parts → Type 0
HasStreamed i o k n old e new e' = (came went : List ℤ) × Comes i k n came went old e e' × IsAppended o.name.now (put_of o k went) old new

-- or the first part of it
abbrev pub BreaksOff : Incoming → Outgoing → ℕ → ℕ → Option Holding → Parts → Option Holding → Parts → Type 0
BreaksOff i o k n old e new e' = (came went : List ℤ) × Comes i k n came went old e e' × IsPartAppended o.name.now (put_of o k went) old new

-- ---- a whole stream
-- the samples of the first k frames that come in, where the file has these bytes
abbrev pub first_samples : Incoming → List ℕ → ℕ → List ℤ
first_samples i file k = take (k * i.head.channels) (all_samples i file)

-- the history that they make
abbrev pub first_frames : Incoming → List ℕ → ℕ → History
first_frames i file k = frames_of i.head.channels (first_samples i file k)

-- what is appended of the graph's answer to them
abbrev pub answer_put : Incoming → Outgoing → Graph → List ℕ → ℕ → List ℕ
answer_put i o g file k = put_of o 0 (interleaved (answer g (first_frames i file k)))

-- a new engine has rendered the first k frames, and what is kept of the answer was appended
abbrev pub HasPut : Incoming → Outgoing → ℕ → Option Holding → Parts → Option Holding → Parts → Type 0
HasPut i o k old e new e' =
    HeldBytes i.name.now old (λ file. Stands e' (first_frames i file k) × IsAppended o.name.now (answer_put i o e.graph file k) old new)

-- or the first part of that
abbrev pub HasPutPart : Incoming → Outgoing → ℕ → Option Holding → Parts → Option Holding → Parts → Type 0
HasPutPart i o k old e new e' =
    HeldBytes i.name.now old (λ file. Stands e' (first_frames i file k) × IsPartAppended o.name.now (answer_put i o e.graph file k) old new)

-- room for blocks of so many frames
pub record HasRoom (i : Incoming) (o : Outgoing) (block : ℕ) (room : Room) : Type 0 where
  pub read : length room.read.items ≡ block * i.head.channels * (i.head.bits / 8)
  pub came : length room.came.items ≡ block * i.head.channels
  pub went : length room.went.items ≡ block * o.channels
  pub put : length room.put.items ≡ block * o.channels * (o.bits / 8)

-- the two ends are two files, the first of which has its frames, and the engine has their channels
pub record MayStream (i : Incoming) (o : Outgoing) (e : Parts) (held : Option Holding) : Type 0 where
  pub differs : i.name.now ≢ o.name.now
  pub head : IsHead i.head
  pub there : ¬ IsPast i.name.now (i.head.from + data_size i.head) held
  pub size : IsSize o.bits
  pub sound : IsSound e.graph
  pub come : ins e ≡ i.head.channels
  pub go : outs e ≡ o.channels
  pub most : o.channels ≤ 32
  pub few : all_frames i ≤ 2 ^ 34
