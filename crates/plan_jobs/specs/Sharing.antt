-- Which waves are worth more than one thread.
use Rattle.std.specs.Prelude.{ℕ, ◌*◌, ◌^◌, Bool, nat_le}

-- what other threads take off one, so many instructions a frame, is worth starting them in a block of so many frames
abbrev pub is_worth : ℕ → ℕ → Bool
is_worth frames spare = nat_le (2 ^ 19) (spare * frames)
