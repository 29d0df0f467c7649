-- Which ends come before anything is reported.
use Rattle.std.specs.Prelude.{Result, Ok, Err, ⊤}
use Rattle.streaming.specs.declared.ends.StreamFault.{StreamFault}
use Rattle.streaming.specs.declared.ends.StreamFault.TheVariants.{Read, Write}
use Rattle.host_modes.specs.declared.ends.End.{End}
use Rattle.host_modes.specs.declared.ends.End.TheVariants.{Done, No, Records, Graph, Wav, ReadFault, WriteFault, ReportFault, Memory, PlanText}

-- it comes before the report is put
abbrev pub IsEarly : End → Type 0
IsEarly Done = ⊥
IsEarly (No rule place) = ⊥
IsEarly WriteFault = ⊥
IsEarly ReportFault = ⊥
IsEarly end = ⊤

-- what is read causes it, or want of memory
abbrev pub IsOfFiles : End → Type 0
IsOfFiles (Records fault) = ⊤
IsOfFiles (Graph fault) = ⊤
IsOfFiles (Wav fault) = ⊤
IsOfFiles ReadFault = ⊤
IsOfFiles (PlanText line) = ⊤
IsOfFiles Memory = ⊤
IsOfFiles end = ⊥

-- what has been reported ends so, by how the output was written
abbrev pub end_by : Result ⊤ StreamFault → End
end_by (Ok u) = Done
end_by (Err Read) = ReadFault
end_by (Err Write) = WriteFault
