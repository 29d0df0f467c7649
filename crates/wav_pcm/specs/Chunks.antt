-- The chunks of a RIFF file. All numbers stand lowest byte first.
use Rattle.std.specs.Prelude.{◌≡◌, ◌≤◌, ◌<◌, ℕ, ◌+◌, ◌%◌, List, [], ◌∷◌, codes, length, take, drop, Bool, true, false, ◌⊎◌}
use Rattle.std.specs.Str.{bytes_eq}
use Rattle.byteorder.specs.Endian.{little_number}
use Rattle.wav_pcm.specs.declared.chunk.Chunk.{Chunk}

-- the four characters at an offset
abbrev pub mark_at : ℕ → List ℕ → List ℕ
mark_at from bytes = take 4 (drop from bytes)

-- the numbers of 16 and of 32 bits at an offset
abbrev pub u16_at : ℕ → List ℕ → ℕ
u16_at from bytes = little_number 2 (drop from bytes)

abbrev pub u32_at : ℕ → List ℕ → ℕ
u32_at from bytes = little_number 4 (drop from bytes)

-- the chunk at an offset: its mark, the size of its body, and where the body begins
abbrev pub chunk_at : ℕ → List ℕ → Chunk
chunk_at at bytes = record { mark = mark_at at bytes; size = u32_at (at + 4) bytes; from = at + 8 }

abbrev pub is_format : Chunk → Bool
is_format chunk = bytes_eq chunk.mark (codes "fmt ")

abbrev pub is_data : Chunk → Bool
is_data chunk = bytes_eq chunk.mark (codes "data")

-- where the next chunk begins: behind the body, and behind a pad byte where the size is odd
abbrev pub after : Chunk → ℕ
after chunk = chunk.from + chunk.size + chunk.size % 2

-- The chunks of a file from an offset on. They end with the first `data`, and where fewer than 8 bytes are left.
abbrev pub AreChunks : ℕ → List ℕ → List Chunk → Type 0
AreChunks at bytes [] = length bytes < at + 8
AreChunks at bytes (chunk ∷ rest) =
    (at + 8 ≤ length bytes) × (chunk ≡ chunk_at at bytes)
    × (((is_data chunk ≡ true) × (rest ≡ [])) ⊎ ((is_data chunk ≡ false) × AreChunks (after chunk) bytes rest))
