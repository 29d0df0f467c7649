-- Two values and their buffers.
use Rattle.std.specs.Prelude.{◌≡◌, ℕ, List, Some, slice_get}
use Rattle.plan_model.specs.Buffers.{MayShare}
use Rattle.plan_model.specs.declared.buffers.Home.{Home}
use Rattle.plan_model.specs.declared.buffers.Life.{Life}

-- values j and k may share the buffer where they have the same
abbrev pub AreApart : List Life → List Home → ℕ → ℕ → Type 0
AreApart lives homes j k =
    (y x : Life) (i h : Home) → slice_get lives j ≡ Some y → slice_get lives k ≡ Some x → slice_get homes j ≡ Some i
    → slice_get homes k ≡ Some h
    → i.buffer ≡ h.buffer → MayShare y x
