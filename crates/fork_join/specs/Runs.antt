-- What runs of jobs leave.
use Rattle.std.specs.Prelude.{◌≡◌, ℕ, ◌<◌, List, length, slice_index_or}

-- each job is left as a run of it leaves it
pub record HaveRun {J : Type 0} (Done : J → J → Type 0) (old new : List J) : Type 0 where
  pub len : length new ≡ length old
  pub each : (i : ℕ) (d : J) → i < length old → Done (slice_index_or old i d) (slice_index_or new i d)
