-- The head of a RIFF/WAVE file of PCM with one chunk of format and one of data: 44 bytes. All numbers stand lowest
-- byte first.
use Rattle.std.specs.Prelude.{ℕ, ◌+◌, ◌-◌, ◌*◌, ◌/◌, ◌%◌, ◌^◌, List, ◌++◌, codes, length, replicate, ℤ}
use Rattle.byteorder.specs.Endian.{little_bytes}
use Rattle.wav_pcm.specs.Samples.{bytes_of}

-- the most bytes of frames: a file's head counts 36 bytes and a pad byte beside them, in 32 bits
abbrev pub most_data : ℕ
most_data = 2 ^ 32 - 38

-- `RIFF` with the number of bytes that follow it, pad included, `WAVE`, and `fmt ` with the size of its body
abbrev pub riff_of : ℕ → List ℕ
riff_of data_bytes = codes "RIFF" ++ little_bytes 4 (36 + data_bytes + data_bytes % 2) ++ codes "WAVE" ++ codes "fmt " ++ little_bytes 4 16

-- the body: the tag 1, channels, rate, bytes for each second, bytes for each frame, and bits
abbrev pub format_of : ℕ → ℕ → ℕ → List ℕ
format_of channels rate bits =
    little_bytes 2 1 ++ little_bytes 2 channels ++ little_bytes 4 rate
    ++ little_bytes 4 (rate * (channels * (bits / 8))) ++ little_bytes 2 (channels * (bits / 8)) ++ little_bytes 2 bits

-- all that stands before the frames
abbrev pub head_of : ℕ → ℕ → ℕ → ℕ → List ℕ
head_of channels rate bits data_bytes = riff_of data_bytes ++ format_of channels rate bits ++ codes "data" ++ little_bytes 4 data_bytes

-- a written file: the head, the frames, and one byte 0 where their bytes are odd in number
abbrev pub wave_file_of : ℕ → ℕ → ℕ → List ℤ → List ℕ
wave_file_of channels rate bits samples =
    head_of channels rate bits (length samples * (bits / 8)) ++ bytes_of bits samples ++ replicate (length samples * (bits / 8) % 2) 0
