-- A run as a whole: how it ends, why, and what it leaves.
use Rattle.std.specs.Prelude.{◌≡◌, ◌≢◌, ◌≤◌, ◌⊎◌, Option, None, Ok, Err, ⊤}
use Rattle.gh_outside.specs.Causes.{Rose}
use Rattle.gh_outside.specs.Holdings.{Holding, KeepsOthers}
use Rattle.plan_model.specs.declared.plan.Plan.{Plan}
use Rattle.engine_model.specs.Engines.{Parts}
use Rattle.command_words.specs.Requests.{render, compile, check, demo}
use Rattle.host_modes.specs.Asked.{Asked, IfRender}
use Rattle.host_modes.specs.Causes.{IsByWords, IsCaused}
use Rattle.host_modes.specs.Outside.{Outside}
use Rattle.host_modes.specs.Readings.{IsBegun, IsWritten}
use Rattle.host_modes.specs.Engines.{IsPlayed}
use Rattle.host_modes.specs.Works.{IsAnswered}
use Rattle.host_modes.specs.declared.ends.End.{End}
use Rattle.host_modes.specs.declared.ends.End.TheVariants.{Done, ReadFault, WriteFault}

-- only the output changes, and in no other mode than rendering
abbrev pub KeepsFiles : Asked → Option Holding → Option Holding → Type 0
KeepsFiles (Ok (render q)) old new = KeepsOthers q.output old new
KeepsFiles (Ok (compile q)) old new = new ≡ old
KeepsFiles (Ok (check q)) old new = new ≡ old
KeepsFiles (Ok (demo q)) old new = new ≡ old
KeepsFiles (Err fault) old new = new ≡ old

-- the output may have been begun
abbrev pub MayHaveBegun : End → Option Plan → Type 0
MayHaveBegun Done kept = ⊤
MayHaveBegun WriteFault kept = ⊤
MayHaveBegun ReadFault kept = kept ≢ None
MayHaveBegun end kept = ⊥

pub record IsRun (asked : Asked) (old new : Outside) (end : End) (kept : Option Plan) (engine : Option Parts) : Type 0 where
  -- the output file whole, or a first part of it
  pub done : end ≡ Done → IfRender asked (λ q. IsWritten q old.files new.files)
  pub begun : IfRender asked (λ q. IsBegun q old.files new.files)
  pub others : KeepsFiles asked old.files new.files
  pub untouched : MayHaveBegun end kept ⊎ (new.files ≡ old.files)
  -- the plan and the report
  pub answered : IsAnswered asked old.files end kept old.report new.report
  -- the engine
  pub played : IsPlayed asked old.files new.files end kept engine
  -- why
  pub by_words : IsByWords asked end
  pub cause : IsCaused asked old.files (Rose old.read_faults new.read_faults) (Rose old.write_faults new.write_faults)
      (Rose old.report_faults new.report_faults) end
  -- the counts
  pub reads : old.read_faults ≤ new.read_faults
  pub writes : old.write_faults ≤ new.write_faults
  pub unwritten : MayHaveBegun end kept ⊎ (new.write_faults ≡ old.write_faults)
  pub reports : old.report_faults ≤ new.report_faults
  pub unreported : (kept ≢ None) ⊎ (new.report_faults ≡ old.report_faults)

-- no file is written
abbrev pub IsQuiet : Asked → Type 0
IsQuiet (Ok (render q)) = ⊥
IsQuiet (Ok (compile q)) = ⊤
IsQuiet (Ok (check q)) = ⊤
IsQuiet (Ok (demo q)) = ⊤
IsQuiet (Err fault) = ⊤
