-- Laws of the definitions.
use Rattle.std.specs.Prelude.{◌≡◌, ◌≤◌, ◌<◌, ◌↔◌, ℕ, ◌+◌, ◌*◌, ◌/◌, ◌%◌, ◌^◌, ℤ, ◌≤ℤ◌, List, length, All, Result, Ok}
use Rattle.wav_pcm.specs.Samples.{IsSize, least, greatest, scaled}
use Rattle.wav_pcm.specs.Heads.{most_data, wave_file_of}
use Rattle.wav_pcm.specs.Files.{ReadsAs, recorded, data_size}
use Rattle.wav_pcm.specs.declared.head.Head.{Head}
use Rattle.wav_pcm.specs.declared.head.WavFault.{WavFault}

-- a sample of this size, scaled to 32 bits
abbrev pub IsScaledFrom : ℕ → ℤ → Type 0
IsScaledFrom bits x = (s : ℤ) × (least bits ≤ℤ s) × (s ≤ℤ greatest bits) × (x ≡ scaled bits s)

-- every file is read in one way
abbrev pub ReadingIsOne : Type 0
ReadingIsOne =
    (graph : ℕ) (bytes : List ℕ)
    → (answer : Result Head WavFault) × ReadsAs graph bytes answer
    × ((other : Result Head WavFault) → ReadsAs graph bytes other → other ≡ answer)

-- what a head that is read says is in range, it has the graph's channels, and all its frames stand in the file
abbrev pub FramesAreThere : Type 0
FramesAreThere =
    (graph : ℕ) (bytes : List ℕ) (head : Head) → ReadsAs graph bytes (Ok head)
    → (head.channels ≡ graph) × (1 ≤ head.rate) × (head.rate ≤ 1000000) × IsSize head.bits × (head.from + data_size head ≤ length bytes)

-- the number of bytes behind `RIFF` and itself fits 32 bits just where the frames have no more bytes than that
abbrev pub MostDataIsCounted : Type 0
MostDataIsCounted = (data_bytes : ℕ) → (36 + data_bytes + data_bytes % 2 < 2 ^ 32) ↔ (data_bytes ≤ most_data)

-- the head of a written file
abbrev pub written_head : ℕ → ℕ → ℕ → ℕ → Head
written_head channels rate bits frames = record { channels = channels; rate = rate; bits = bits; frames = frames; from = 44 }

-- what is written of samples of a size is read as a head that says what was written, and as the same samples
abbrev pub WrittenIsReadBack : Type 0
WrittenIsReadBack =
    (channels rate bits frames : ℕ) (samples : List ℤ) → 1 ≤ channels → channels ≤ 32 → 1 ≤ rate → rate ≤ 1000000 → IsSize bits
    → length samples ≡ frames * channels → All (IsScaledFrom bits) samples → length samples * (bits / 8) ≤ most_data
    → ReadsAs channels (wave_file_of channels rate bits samples) (Ok (written_head channels rate bits frames))
    × (recorded (written_head channels rate bits frames) (wave_file_of channels rate bits samples) ≡ samples)
