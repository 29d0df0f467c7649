-- The sizes of a sample, one by one.
use Rattle.std.proofs.Common.{◌≡◌, ℕ, ◌-◌, ◌*◌, ◌/◌, ◌%◌, ◌^◌, ℤ, pos, inl, inr, ◌≤ℤ◌, ◌-ℤ◌, ◌+ℤ◌, ◌*ℤ◌, sym, ap, ◌∙◌, subst, refl, arith, to_z, of_z, w64, length}
use mir.Val.{SFits}
use Rattle.std.proofs.lemmas.Int.{ints, clamps, to_z-of_z}
use Rattle.byteorder.specs.Endian.{low_bytes}
use Rattle.byteorder.specs.Numbers.{length-bytes_low_first}
use Rattle.graph_model.specs.Rounding.{rounded, clamped}
use Rattle.wav_pcm.specs.Samples.{IsSize, least, greatest, IsScaled, sample_bytes, written}

pub by_size : (P : ℕ → Type 0) (bits : ℕ) → IsSize bits → P 8 → P 16 → P 24 → P 32 → P bits
by_size P bits size a b c d = elim size [
  | inl e ↦ subst P (sym e) a
  | inr more ↦ elim more [
    | inl e ↦ subst P (sym e) b
    | inr last ↦ elim last [
      | inl e ↦ subst P (sym e) c
      | inr e ↦ subst P (sym e) d
    ]
  ]
]

-- a sample of the size, scaled to 32 bits, as the code has it
abbrev product : ℕ → ℤ → ℤ
product bits s = to_z w64 (of_z w64 (to_z w64 (of_z w64 s) *ℤ to_z w64 (1 * 2 ^ (32 - bits) % 18446744073709551616)))

abbrev IsProduct : ℤ → ℕ → Type 0
IsProduct s bits = least bits ≤ℤ s → s ≤ℤ greatest bits → (product bits s ≡ s *ℤ pos (2 ^ (32 - bits))) × IsScaled (product bits s)

pub scaled_product : (bits : ℕ) (s : ℤ) → IsSize bits → IsProduct s bits
scaled_product bits s size = by_size (IsProduct s) bits size
    (λ low high. (omega (arith, ints), (omega (arith, ints), omega (arith, ints))))
    (λ low high. (omega (arith, ints), (omega (arith, ints), omega (arith, ints))))
    (λ low high. (omega (arith, ints), (omega (arith, ints), omega (arith, ints))))
    (λ low high. (omega (arith, ints), (omega (arith, ints), omega (arith, ints))))

-- the limits of the size, as the code has them
abbrev low_limit : ℕ → ℤ
low_limit bits = to_z w64 (of_z w64 (pos 0 -ℤ to_z w64 (1 * 2 ^ (bits - 1) % 18446744073709551616)))

abbrev high_limit : ℕ → ℤ
high_limit bits = to_z w64 (of_z w64 (to_z w64 (1 * 2 ^ (bits - 1) % 18446744073709551616) -ℤ pos 1))

limits : (bits : ℕ) → IsSize bits → (low_limit bits ≡ least bits) × (high_limit bits ≡ greatest bits)
limits bits size = by_size (λ b. (low_limit b ≡ least b) × (high_limit b ≡ greatest b)) bits size (refl, refl) (refl, refl) (refl, refl) (refl, refl)

abbrev Within : ℤ → ℕ → Type 0
Within x bits = (least bits ≤ℤ clamped x (least bits) (greatest bits)) × (clamped x (least bits) (greatest bits) ≤ℤ greatest bits)

pub clamped_within : (bits : ℕ) (x : ℤ) → IsSize bits → Within x bits
clamped_within bits x size = by_size (Within x) bits size
    (omega (arith, ints, clamps), omega (arith, ints, clamps))
    (omega (arith, ints, clamps), omega (arith, ints, clamps))
    (omega (arith, ints, clamps), omega (arith, ints, clamps))
    (omega (arith, ints, clamps), omega (arith, ints, clamps))

-- what the code clamps to is the clamped sample
pub clamped_is : (bits : ℕ) (x r k : ℤ) → IsSize bits → SFits w64 x → SFits w64 r → SFits w64 k
    → r ≡ rounded (to_z w64 (of_z w64 x)) (32 - bits)
    → k ≡ clamped (to_z w64 (of_z w64 r)) (low_limit bits) (high_limit bits)
    → to_z w64 (of_z w64 k) ≡ clamped (rounded x (32 - bits)) (least bits) (greatest bits)
clamped_is bits x r k size x_fits r_fits k_fits r_is k_is =
    let l = limits bits size in
    to_z-of_z w64 k k_fits ∙ k_is
    ∙ ap (λ y. clamped y (low_limit bits) (high_limit bits)) (to_z-of_z w64 r r_fits ∙ r_is ∙ ap (λ y. rounded y (32 - bits)) (to_z-of_z w64 x x_fits))
    ∙ ap (λ y. clamped (rounded x (32 - bits)) y (high_limit bits)) l.0
    ∙ ap (clamped (rounded x (32 - bits)) (least bits)) l.1

-- a sample has bits / 8 bytes
pub length-sample_bytes : (bits : ℕ) (s : ℤ) → IsSize bits → length (sample_bytes bits s) ≡ bits / 8
length-sample_bytes bits s size = by_size (λ b. length (sample_bytes b s) ≡ b / 8) bits size
    (length-bytes_low_first 0 1 (low_bytes w64 1 (s +ℤ pos 128)))
    (length-bytes_low_first 0 2 (low_bytes w64 2 s))
    (length-bytes_low_first 0 3 (low_bytes w64 3 s))
    (length-bytes_low_first 0 4 (low_bytes w64 4 s))

pub length-written : (bits : ℕ) (x : ℤ) → IsSize bits → length (written bits x) ≡ bits / 8
length-written bits x size = length-sample_bytes bits (clamped (rounded x (32 - bits)) (least bits) (greatest bits)) size
