-- How the bytes of a file are read: as a head and frames, or as what is wrong with them first.
use Rattle.std.specs.Prelude.{◌≡◌, ◌≤◌, ◌<◌, ℕ, ◌+◌, ◌-◌, ◌*◌, ◌/◌, ◌%◌, ◌^◌, ◌==◌, ◌&&◌, List, codes, length, take, drop, Bool, nat_le, if◌then◌else◌, find, ℤ, Option, Some, None, Result, Ok, Err}
use Rattle.std.specs.Str.{bytes_eq}
use Rattle.graph_model.specs.Refusals.{and_then}
use Rattle.wav_pcm.specs.Samples.{IsSize, samples_in}
use Rattle.wav_pcm.specs.Chunks.{mark_at, is_format, is_data, AreChunks}
use Rattle.wav_pcm.specs.Formats.{whole_format, format_in, checked_format}
use Rattle.wav_pcm.specs.declared.chunk.Chunk.{Chunk}
use Rattle.wav_pcm.specs.declared.format.Format.{Format}
use Rattle.wav_pcm.specs.declared.head.Head.{Head}
use Rattle.wav_pcm.specs.declared.head.WavFault.{WavFault}
use Rattle.wav_pcm.specs.declared.head.WavFault.TheVariants as fault

-- the first 12 bytes of RIFF/WAVE; the size at 4 may be anything
abbrev pub is_wave_start : List ℕ → Bool
is_wave_start bytes = bytes_eq (mark_at 0 bytes) (codes "RIFF") && bytes_eq (mark_at 8 bytes) (codes "WAVE")

-- a file that begins so
abbrev pub is_wave : List ℕ → Bool
is_wave bytes = nat_le 12 (length bytes) && is_wave_start bytes

-- how many frames of a size stand in data of a size, of which so many bytes are there; 2^32 - 1 is a size that was
-- left open
abbrev pub frames_in : ℕ → ℕ → ℕ → Result ℕ WavFault
frames_in frame size there =
    if size == 2 ^ 32 - 1 then Ok (there / frame)
    else (if nat_le size there
    then (if size % frame == 0 then Ok (size / frame) else Err (fault.Ragged size frame))
    else Err (fault.Short size there))

-- the head by the format and the chunk of data, in a file of so many bytes
abbrev pub head_in : ℕ → Format → Option Chunk → Result Head WavFault
head_in bytes format None = Err fault.NoData
head_in bytes format (Some chunk) =
    and_then
    (λ frames. Ok (record {
      channels = format.channels;
      rate = format.rate;
      bits = format.bits;
      frames = frames;
      from = chunk.from;
    }))
    (frames_in (format.channels * (format.bits / 8)) chunk.size (bytes - chunk.from))

-- the head by the chunks of format and of data
abbrev pub head_by : ℕ → List ℕ → Option Chunk → Option Chunk → Result Head WavFault
head_by graph bytes first chunk =
    and_then
    (λ whole. and_then (λ format. head_in (length bytes) format chunk) (checked_format graph (format_in bytes whole)))
    (whole_format (length bytes) first)

-- how a file with these chunks is read for a graph whose input has so many channels
abbrev pub reading : ℕ → List ℕ → List Chunk → Result Head WavFault
reading graph bytes chunks = if is_wave bytes then head_by graph bytes (find is_format chunks) (find is_data chunks) else Err fault.NotRiff

-- the file is read as this head, or refused by this fault; the chunks begin at 12
abbrev pub ReadsAs : ℕ → List ℕ → Result Head WavFault → Type 0
ReadsAs graph bytes answer = (chunks : List Chunk) × AreChunks 12 bytes chunks × (answer ≡ reading graph bytes chunks)

-- the bytes of a frame, and of all frames together
abbrev pub frame_size : Head → ℕ
frame_size head = head.channels * (head.bits / 8)

abbrev pub data_size : Head → ℕ
data_size head = head.frames * frame_size head

-- a head whose frames can be read
pub record IsHead (head : Head) : Type 0 where
  pub channels_least : 1 ≤ head.channels
  pub channels_most : head.channels ≤ 32
  pub rate_least : 1 ≤ head.rate
  pub rate_most : head.rate ≤ 1000000
  pub size : IsSize head.bits
  pub room : head.from + data_size head < 2 ^ 64

-- the samples of a file under its head, interleaved and scaled to 32 bits
abbrev pub recorded : Head → List ℕ → List ℤ
recorded head bytes = samples_in head.bits (take (data_size head) (drop head.from bytes))
