-- The status of each end.
use Rattle.std.specs.Prelude.{ℕ}
use Rattle.host_modes.specs.declared.ends.End.{End}
use Rattle.host_modes.specs.declared.ends.End.TheVariants.{Done, No, Words, SameName, Seed, Records, Graph, Wav, ReadFault, WriteFault, ReportFault, Memory, PlanText}

abbrev pub status_of : End → ℕ
status_of Done = 0
status_of (No rule place) = 1
status_of Words = 2
status_of SameName = 2
status_of Seed = 2
status_of (Records fault) = 3
status_of (Graph fault) = 3
status_of (Wav fault) = 4
status_of ReadFault = 5
status_of WriteFault = 6
status_of ReportFault = 7
status_of Memory = 8
status_of (PlanText line) = 9
