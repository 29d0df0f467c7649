-- What lies outside of a run.
use Rattle.std.specs.Prelude.{ℕ, List, Option}
use Rattle.gh_outside.specs.Holdings.{Holding}

-- what the folder holds and what the report has, where they tell, and how often reads, writes and reports have failed
pub record Outside : Type 0 where
  pub files : Option Holding
  pub report : Option (List ℕ)
  pub read_faults : ℕ
  pub write_faults : ℕ
  pub report_faults : ℕ

abbrev pub outside : Option Holding → ℕ → ℕ → Option (List ℕ) → ℕ → Outside
outside files reads writes report reports =
    record { files = files; report = report; read_faults = reads; write_faults = writes; report_faults = reports }
