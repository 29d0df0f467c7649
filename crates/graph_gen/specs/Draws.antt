-- Numbers drawn from a linear congruential generator of 64 bits, with the constants of Knuth's MMIX
-- (The Art of Computer Programming, volume 2, 3.3.4). A state is a number below 2 ^ 64.
use Rattle.std.specs.Prelude.{ℕ, zero, suc, ◌+◌, ◌*◌, ◌/◌, ◌%◌, ◌^◌, List, [], ◌∷◌, ℤ, pos, ◌*ℤ◌}
use Rattle.std.specs.Int.{cast_signed, w16}

-- the state after a step
unfoldable pub next : ℕ → ℕ
next s = (s * 6364136223846793005 + 1442695040888963407) % 2 ^ 64

-- the state after some steps
abbrev pub stepped : ℕ → ℕ → ℕ
stepped zero s = s
stepped (suc n) s = stepped n (next s)

-- a draw of a number below k: a step, and what the upper 31 bits leave
abbrev pub drawn : ℕ → ℕ → ℕ
drawn s k = next s / 2 ^ 33 % k

-- a sample: a step, and the upper 16 bits as a number in two's complement, scaled to 32 bits
abbrev pub sample_drawn : ℕ → ℤ
sample_drawn s = cast_signed w16 (next s / 2 ^ 48) *ℤ pos 65536

-- so many samples
abbrev pub samples_drawn : ℕ → ℕ → List ℤ
samples_drawn s zero = []
samples_drawn s (suc n) = sample_drawn s ∷ samples_drawn (next s) n
