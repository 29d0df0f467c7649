-- What is proved of the definitions.
use Rattle.std.specs.Prelude.{◌≡◌, Ok}
use Rattle.graph_model.specs.Sound.{Fits}
use Rattle.graph_model.specs.declared.graph.Graph.{Graph}
use Rattle.graph_records.specs.Typed.{IsTyped}
use Rattle.graph_records.specs.Walk.{walk}
use Rattle.graph_records.specs.Written.{text_of}

-- reading what was written gives the graph
abbrev pub WrittenIsRead : Type 0
WrittenIsRead = (g : Graph) → Fits g → IsTyped g → walk (text_of g) ≡ Ok g
