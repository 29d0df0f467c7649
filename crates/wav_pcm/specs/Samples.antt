-- Samples of linear PCM as bytes, and scaled to 32 bits.
use Rattle.std.specs.Prelude.{◌≡◌, ◌≤ℤ◌, ℕ, ◌*◌, ◌/◌, ◌^◌, ◌-◌, ◌==◌, ◌||◌, Bool, ℤ, pos, ◌+ℤ◌, ◌-ℤ◌, ◌*ℤ◌, ◌⊎◌, List, length, drop, map}
use Rattle.std.specs.Prelude.{if◌then◌else◌}
use Rattle.std.specs.List.{flat_map, range_with_len}
use Rattle.std.specs.Int.{w64}
use Rattle.byteorder.specs.Endian.{little_bytes, little_number, low_bytes, twos_complement}
use Rattle.graph_model.specs.Rounding.{rounded, clamped}

-- the sizes of a sample, in bits
abbrev pub IsSize : ℕ → Type 0
IsSize bits = (bits ≡ 8) ⊎ (bits ≡ 16) ⊎ (bits ≡ 24) ⊎ (bits ≡ 32)

-- whether a number is one of them
abbrev pub is_size : ℕ → Bool
is_size bits = ((bits == 8 || bits == 16) || bits == 24) || bits == 32

-- the least and the greatest sample of a size
abbrev pub least : ℕ → ℤ
least bits = pos 0 -ℤ pos (2 ^ (bits - 1))

abbrev pub greatest : ℕ → ℤ
greatest bits = pos (2 ^ (bits - 1)) -ℤ pos 1

-- the bytes of a sample: two's complement, the lowest byte first; with 8 bits the sample plus 128
abbrev pub sample_bytes : ℕ → ℤ → List ℕ
sample_bytes bits s =
    if bits == 8 then little_bytes 1 (low_bytes w64 1 (s +ℤ pos 128)) else little_bytes (bits / 8) (low_bytes w64 (bits / 8) s)

-- the sample in the first bytes of a list
abbrev pub sample_of : ℕ → List ℕ → ℤ
sample_of bits bytes =
    if bits == 8 then pos (little_number 1 bytes) -ℤ pos 128 else twos_complement (bits / 8) (little_number (bits / 8) bytes)

-- a sample scaled to 32 bits
abbrev pub scaled : ℕ → ℤ → ℤ
scaled bits s = s *ℤ pos (2 ^ (32 - bits))

-- a sample of 32 bits
abbrev pub IsScaled : ℤ → Type 0
IsScaled x = (least 32 ≤ℤ x) × (x ≤ℤ greatest 32)

-- the bytes of a sample of 32 bits in another size: rounded, a half upward, and clamped
abbrev pub written : ℕ → ℤ → List ℕ
written bits x = sample_bytes bits (clamped (rounded x (32 - bits)) (least bits) (greatest bits))

-- the scaled samples of a body of bytes, one for each bits / 8 of them
abbrev pub samples_in : ℕ → List ℕ → List ℤ
samples_in bits body = map (λ k. scaled bits (sample_of bits (drop (k * (bits / 8)) body))) (range_with_len 0 (length body / (bits / 8)))

-- the bytes of samples, one after the other
abbrev pub bytes_of : ℕ → List ℤ → List ℕ
bytes_of bits samples = flat_map (written bits) samples
