-- Two nodes in one wave, each with a value: in buffers of their own, and in one buffer, where the order shows.
use Rattle.std.proofs.Common.{◌≡◌, ℕ, suc, ℤ, pos, List, [], ◌∷◌, refl}
use Rattle.orders.specs.Orders.{Core, State, after_wave}

-- every node gives its name
abbrev named : (ℕ → ℕ) → Core ℕ
named buffer_of = record {
  reads = λ v k pool. pool 0 k ∷ [];
  homes = λ v. record { channel = 0; buffer = buffer_of v } ∷ [];
  step = λ v k kept frame. suc kept;
  gives = λ v kept. pos v ∷ [];
}

abbrev at_start : State ℕ
at_start = record { kept = λ v. 0; pool = λ b j. pos 0 }

-- what stands in buffer 3 after one frame of the nodes 3 and 4, in this order
abbrev after_frame : (ℕ → ℕ) → List ℕ → ℤ
after_frame buffer_of order = (after_wave (named buffer_of) order at_start).pool 3 0

own_buffers : (after_frame (λ v. v) (3 ∷ 4 ∷ []) ≡ pos 3) × (after_frame (λ v. v) (4 ∷ 3 ∷ []) ≡ pos 3)
own_buffers = (refl, refl)

one_buffer : (after_frame (λ v. 3) (3 ∷ 4 ∷ []) ≡ pos 4) × (after_frame (λ v. 3) (4 ∷ 3 ∷ []) ≡ pos 3)
one_buffer = (refl, refl)
