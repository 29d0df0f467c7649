-- Why a call of the outside failed.
use Rattle.std.specs.Prelude.{◌≡◌, ℕ, ◌+◌, ◌-◌, ◌^◌, ◌≤◌, ◌⊎◌, min, Result, OnOk, OnErr, IsErr}

-- A count is a number of 64 bits.
abbrev pub IsCount : ℕ → Type 0
IsCount n = n ≤ 2 ^ 64 - 1

-- How many reads and how many writes have failed: all that is told of a folder of the system.
pub record FaultCounts : Type 0 where
  pub read_faults : ℕ
  pub write_faults : ℕ

-- One more, up to the last number of 64 bits.
abbrev pub one_more : ℕ → ℕ
one_more n = min (n + 1) (2 ^ 64 - 1)

-- A count rose, or it stands at the last number of 64 bits.
abbrev pub Rose : ℕ → ℕ → Type 0
Rose before now = one_more before ≤ now

-- The count of the faults of this kind of call, and the other count, before and after a call that may miss.
pub record HasCause {T E : Type 0} (miss : Type 0) (before now other_before other_now : ℕ) (result : Result T E) : Type 0 where
  pub later : before ≤ now
  pub small : IsCount now
  pub other_small : IsCount other_now
  pub other_stays : other_now ≡ other_before
  -- The call fails only where the count rose, or at a miss.
  pub failed : OnErr result (miss ⊎ Rose before now)
  -- A miss fails and leaves the count.
  pub missed : miss → OnOk result ⊥
  pub stays : miss → now ≡ before

-- The call fails exactly at a miss and at a fault. A fault that is no miss raises the count by one, and else it stays.
pub record FailsExactly {T E : Type 0} (miss fault : Type 0) (before now : ℕ) (result : Result T E) : Type 0 where
  pub failed : OnErr result (miss ⊎ (fault × (now ≡ one_more before)))
  pub answered : OnOk result (now ≡ before)
  pub missed : miss → IsErr result
  pub stays : miss → now ≡ before
  pub faulted : fault → IsErr result
