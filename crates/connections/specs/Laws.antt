-- What is proved of the definitions.
use Rattle.std.specs.Prelude.{◌≡◌, []}
use Rattle.graph_model.specs.Sound.{IsSound}
use Rattle.graph_model.specs.declared.graph.Graph.{Graph}
use Rattle.connections.specs.declared.fault.GraphFault.{GraphFault}
use Rattle.connections.specs.declared.fault.GraphFault.TheVariants.{Cycle}
use Rattle.connections.specs.Faults.{IsFirstFault}

-- a graph with a first fault is not sound
abbrev pub FaultsAreUnsound : Type 0
FaultsAreUnsound = (g : Graph) (fault : GraphFault) → IsFirstFault g fault → IsSound g → ⊥

abbrev pub without_walk : GraphFault → GraphFault
without_walk (Cycle walk) = Cycle []
without_walk fault = fault

-- there is one first fault, but for the walk of a cycle
abbrev pub FirstFaultIsUnique : Type 0
FirstFaultIsUnique = (g : Graph) (a b : GraphFault) → IsFirstFault g a → IsFirstFault g b → without_walk a ≡ without_walk b
