-- A sample reads as it was written.
use Rattle.std.proofs.Common.{◌≡◌, ◌<◌, ◌+◌, ◌-◌, ◌*◌, ◌/◌, ◌∙◌, ◌++◌, ℕ, ℤ, pos, negsuc, suc, List, ap, arith, w64, ◌≤ℤ◌, ◌+ℤ◌, ◌-ℤ◌}
use Rattle.std.specs.Int.{int_shr}
use Rattle.std.proofs.lemmas.Int.{ints, clamps}
use Rattle.std.proofs.lemmas.Bool.Decides.{nat_tests}
use Rattle.byteorder.specs.Endian.{low_bytes, twos_complement}
use Rattle.byteorder.specs.Numbers.{little_number-reads_back}
use Rattle.graph_model.specs.Rounding.{rounded, clamped}
use Rattle.wav_pcm.specs.Samples.{IsSize, least, greatest, sample_bytes, sample_of, scaled, written}
use Rattle.wav_pcm.proofs.SizeFacts.{by_size}

signs_16 : (s : ℤ) → least 16 ≤ℤ s → s ≤ℤ greatest 16 → twos_complement 2 (low_bytes w64 2 s) ≡ s
signs_16 (pos n) low high = let e : low_bytes w64 2 (pos n) ≡ n = omega (arith, ints) in ap (twos_complement 2) e ∙ (let h : n < 32768 = omega (arith, ints) in grind (arith, nat_tests))
signs_16 (negsuc n) low high =
    let h : n < 32768 = omega (arith, ints) in
    let e : low_bytes w64 2 (negsuc n) ≡ 65536 - suc n = omega (arith, ints) in
    let f : 65536 - suc (65536 - suc n) ≡ n = omega arith in
    ap (twos_complement 2) e ∙ (grind (arith, nat_tests))

signs_24 : (s : ℤ) → least 24 ≤ℤ s → s ≤ℤ greatest 24 → twos_complement 3 (low_bytes w64 3 s) ≡ s
signs_24 (pos n) low high = let e : low_bytes w64 3 (pos n) ≡ n = omega (arith, ints) in ap (twos_complement 3) e ∙ (let h : n < 8388608 = omega (arith, ints) in grind (arith, nat_tests))
signs_24 (negsuc n) low high =
    let h : n < 8388608 = omega (arith, ints) in
    let e : low_bytes w64 3 (negsuc n) ≡ 16777216 - suc n = omega (arith, ints) in
    let f : 16777216 - suc (16777216 - suc n) ≡ n = omega arith in
    ap (twos_complement 3) e ∙ (grind (arith, nat_tests))

signs_32 : (s : ℤ) → least 32 ≤ℤ s → s ≤ℤ greatest 32 → twos_complement 4 (low_bytes w64 4 s) ≡ s
signs_32 (pos n) low high = let e : low_bytes w64 4 (pos n) ≡ n = omega (arith, ints) in ap (twos_complement 4) e ∙ (let h : n < 2147483648 = omega (arith, ints) in grind (arith, nat_tests))
signs_32 (negsuc n) low high =
    let h : n < 2147483648 = omega (arith, ints) in
    let e : low_bytes w64 4 (negsuc n) ≡ 4294967296 - suc n = omega (arith, ints) in
    let f : 4294967296 - suc (4294967296 - suc n) ≡ n = omega arith in
    ap (twos_complement 4) e ∙ (grind (arith, nat_tests))

low_8 : (s : ℤ) → least 8 ≤ℤ s → s ≤ℤ greatest 8 → pos (low_bytes w64 1 (s +ℤ pos 128)) -ℤ pos 128 ≡ s
low_8 s low high = omega (arith, ints)

-- the scaled sample of a negative one
abbrev IsBack : ℕ → ℤ → Type 0
IsBack bits s = rounded (scaled bits s) (32 - bits) ≡ s

back_pos : (bits n : ℕ) → IsSize bits → IsBack bits (pos n)
back_pos bits n size = by_size (λ b. IsBack b (pos n)) bits size
    (let e : (n * 16777216 + 8388608) / 16777216 ≡ n = omega arith in ap pos e)
    (let e : (n * 65536 + 32768) / 65536 ≡ n = omega arith in ap pos e)
    (let e : (n * 256 + 128) / 256 ≡ n = omega arith in ap pos e)
    (omega (arith, ints))

back_neg : (bits n : ℕ) → IsSize bits → IsBack bits (negsuc n)
back_neg bits n size = by_size (λ b. IsBack b (negsuc n)) bits size
    (let a : scaled 8 (negsuc n) +ℤ pos 8388608 ≡ negsuc (suc n * 16777216 - 8388609) = omega (arith, ints) in
    let e : (suc n * 16777216 - 8388609) / 16777216 ≡ n = omega arith in ap (λ z. int_shr z 24) a ∙ ap negsuc e)
    (let a : scaled 16 (negsuc n) +ℤ pos 32768 ≡ negsuc (suc n * 65536 - 32769) = omega (arith, ints) in
    let e : (suc n * 65536 - 32769) / 65536 ≡ n = omega arith in ap (λ z. int_shr z 16) a ∙ ap negsuc e)
    (let a : scaled 24 (negsuc n) +ℤ pos 128 ≡ negsuc (suc n * 256 - 129) = omega (arith, ints) in
    let e : (suc n * 256 - 129) / 256 ≡ n = omega arith in ap (λ z. int_shr z 8) a ∙ ap negsuc e)
    (omega (arith, ints))

-- a scaled sample is rounded to the sample
rounded-scaled : (bits : ℕ) (s : ℤ) → IsSize bits → rounded (scaled bits s) (32 - bits) ≡ s
rounded-scaled bits (pos n) size = back_pos bits n size
rounded-scaled bits (negsuc n) size = back_neg bits n size

abbrev IsKept : ℤ → ℕ → Type 0
IsKept s bits = least bits ≤ℤ s → s ≤ℤ greatest bits → clamped s (least bits) (greatest bits) ≡ s

-- a sample of the size is not clamped
clamped_kept : (bits : ℕ) (s : ℤ) → IsSize bits → IsKept s bits
clamped_kept bits s size = by_size (IsKept s) bits size
    (λ low high. omega (arith, ints, clamps)) (λ low high. omega (arith, ints, clamps))
    (λ low high. omega (arith, ints, clamps)) (λ low high. omega (arith, ints, clamps))

written-scaled : (bits : ℕ) (s : ℤ) → IsSize bits → least bits ≤ℤ s → s ≤ℤ greatest bits → written bits (scaled bits s) ≡ sample_bytes bits s
written-scaled bits s size low high =
    ap (λ x. sample_bytes bits (clamped x (least bits) (greatest bits))) (rounded-scaled bits s size) ∙ ap (sample_bytes bits) (clamped_kept bits s size low high)

abbrev ReadsBack : ℤ → List ℕ → ℕ → Type 0
ReadsBack s rest bits = least bits ≤ℤ s → s ≤ℤ greatest bits → sample_of bits (sample_bytes bits s ++ rest) ≡ s

-- a sample reads as it was written
sample_of-sample_bytes : (bits : ℕ) (s : ℤ) (rest : List ℕ) → IsSize bits → ReadsBack s rest bits
sample_of-sample_bytes bits s rest size = by_size (ReadsBack s rest) bits size
    (λ low high. ap (λ n. pos n -ℤ pos 128) (little_number-reads_back 1 (low_bytes w64 1 (s +ℤ pos 128)) rest (omega arith)) ∙ low_8 s low high)
    (λ low high. ap (twos_complement 2) (little_number-reads_back 2 (low_bytes w64 2 s) rest (omega arith)) ∙ signs_16 s low high)
    (λ low high. ap (twos_complement 3) (little_number-reads_back 3 (low_bytes w64 3 s) rest (omega arith)) ∙ signs_24 s low high)
    (λ low high. ap (twos_complement 4) (little_number-reads_back 4 (low_bytes w64 4 s) rest (omega arith)) ∙ signs_32 s low high)

pub written_reads_back : (bits : ℕ) (s : ℤ) (rest : List ℕ) → IsSize bits → least bits ≤ℤ s → s ≤ℤ greatest bits → sample_of bits (written bits (scaled bits s) ++ rest) ≡ s
written_reads_back bits s rest size low high =
    ap (λ bytes. sample_of bits (bytes ++ rest)) (written-scaled bits s size low high) ∙ sample_of-sample_bytes bits s rest size low high
