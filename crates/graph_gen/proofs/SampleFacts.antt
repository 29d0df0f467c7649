-- How many samples there are, and how large they are.
use Rattle.std.proofs.Common.{ℕ, zero, suc, ◌+◌, ◌*◌, ◌/◌, ◌^◌, ◌<◌, ◌≤◌, refl, pos, arith}
use Rattle.std.specs.Prelude.{unsigned_abs}
use Rattle.std.specs.Int.{cast_signed, w16}
use Rattle.std.proofs.lemmas.Int.{ints, unsigned_abs-mul}
use Rattle.std.proofs.lemmas.Nat.{mod_below}
use Rattle.std.proofs.lemmas.List.Elements.{All-nil, All-cons}
use Rattle.graph_gen.specs.Draws.{next, sample_drawn, samples_drawn}
use Rattle.graph_gen.specs.Laws.{SamplesAreInput}

next_fits : (s : ℕ) → next s < 2 ^ 64
unfolding next
next_fits s = mod_below (s * 6364136223846793005 + 1442695040888963407) (2 ^ 64) (omega arith)

sixteen_bits : (n : ℕ) → n < 2 ^ 16 → unsigned_abs (cast_signed w16 n) ≤ 2 ^ 15
sixteen_bits n fits = omega (arith, ints)

sample_small : (s : ℕ) → unsigned_abs (sample_drawn s) ≤ 2 ^ 31
sample_small s =
    let fits = next_fits s in
    let top : next s / 2 ^ 48 < 2 ^ 16 = omega arith in
    let small = sixteen_bits (next s / 2 ^ 48) top in
    let scaled = unsigned_abs-mul (cast_signed w16 (next s / 2 ^ 48)) (pos 65536) in
    omega arith

pub samples_are_input : SamplesAreInput
samples_are_input s zero = (refl, All-nil (λ x. unsigned_abs x ≤ 2 ^ 31))
samples_are_input s (suc n) =
    let rest = samples_are_input (next s) n in
    let count = rest.0 in
    (omega arith, All-cons (λ x. unsigned_abs x ≤ 2 ^ 31) (sample_drawn s) (samples_drawn (next s) n) (sample_small s) rest.1)
