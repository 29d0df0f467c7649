-- What a chunk of format says, and which formats are read.
use Rattle.std.specs.Prelude.{ℕ, ◌+◌, ◌==◌, ◌&&◌, ◌||◌, List, [], ◌∷◌, take, drop, Bool, false, nat_le, if◌then◌else◌, Option, Some, None, Result, Ok, Err}
use Rattle.std.specs.Str.{bytes_eq}
use Rattle.wav_pcm.specs.Chunks.{u16_at, u32_at}
use Rattle.wav_pcm.specs.Samples.{is_size}
use Rattle.wav_pcm.specs.declared.chunk.Chunk.{Chunk}
use Rattle.wav_pcm.specs.declared.format.Extension.{Extension}
use Rattle.wav_pcm.specs.declared.format.Format.{Format}
use Rattle.wav_pcm.specs.declared.head.WavFault.{WavFault}
use Rattle.wav_pcm.specs.declared.head.WavFault.TheVariants as fault

-- the chunk of format of a file of so many bytes, if its size is one of a format and its body is whole
abbrev pub whole_format : ℕ → Option Chunk → Result Chunk WavFault
whole_format bytes None = Err fault.NoFormat
whole_format bytes (Some chunk) =
    if (chunk.size == 16 || chunk.size == 18) || chunk.size == 40
    then (if nat_le (chunk.from + chunk.size) bytes then Ok chunk else Err fault.NoFormat)
    else Err (fault.FormatSize chunk.size)

-- what WAVE_FORMAT_EXTENSIBLE adds: the valid bits of a sample and the sixteen bytes of a subformat
abbrev pub extension_at : ℕ → List ℕ → Extension
extension_at from bytes = record { valid_bits = u16_at (from + 2) bytes; subformat = take 16 (drop (from + 8) bytes) }

-- the extension of a chunk of 40 bytes
abbrev pub extension_in : List ℕ → Chunk → Option Extension
extension_in bytes chunk = if chunk.size == 40 then Some (extension_at (chunk.from + 16) bytes) else None

-- what a format says; bytes for each second and for each frame, at 8 and 12, may be anything
abbrev pub format_in : List ℕ → Chunk → Format
format_in bytes chunk = record {
  tag = u16_at chunk.from bytes;
  channels = u16_at (chunk.from + 2) bytes;
  rate = u32_at (chunk.from + 4) bytes;
  bits = u16_at (chunk.from + 14) bytes;
  extension = extension_in bytes chunk;
}

-- KSDATAFORMAT_SUBTYPE_PCM
abbrev pub pcm_subformat : List ℕ
pcm_subformat = 1 ∷ 0 ∷ 0 ∷ 0 ∷ 0 ∷ 0 ∷ 16 ∷ 0 ∷ 128 ∷ 0 ∷ 0 ∷ 170 ∷ 0 ∷ 56 ∷ 155 ∷ 113 ∷ []

-- the extension says PCM, and all bits are valid
abbrev pub is_pcm_extension : ℕ → Option Extension → Bool
is_pcm_extension bits None = false
is_pcm_extension bits (Some extension) = extension.valid_bits == bits && bytes_eq extension.subformat pcm_subformat

-- linear PCM of 8, 16, 24 or 32 bits, by its own tag or by an extension
abbrev pub is_pcm : Format → Bool
is_pcm format =
    is_size format.bits
    && (format.tag == 1 || (format.tag == 65534 && is_pcm_extension format.bits format.extension))

-- a format that is read for so many channels, or what is wrong with it first
abbrev pub checked_format : ℕ → Format → Result Format WavFault
checked_format graph format =
    if is_pcm format
    then (if nat_le 1 format.rate && nat_le format.rate 1000000
    then (if format.channels == graph then Ok format else Err (fault.Channels format.channels graph))
    else Err (fault.Rate format.rate))
    else Err (fault.Form format.tag format.bits)
