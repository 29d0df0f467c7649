-- The walk over the records: the graph that they are, or the first fault.
use Rattle.std.specs.Prelude.{ℕ, List, [], if◌then◌else◌, is_some, Option, Some, None, option_map, option_and_then, Result, Ok, Err}
use Rattle.std.specs.Str.{is_utf8}
use Rattle.serde_json.specs.Data.{Data}
use Rattle.serde_json.specs.Find.{as_object, get}
use Rattle.serde_json.specs.Read.{read}
use Rattle.graph_model.specs.Members.{name_of}
use Rattle.graph_model.specs.declared.graph.Graph.{Graph}
use Rattle.graph_model.specs.declared.member.Member.TheVariants as member
use Rattle.graph_records.specs.Entries.{Record, taking, each_from, place_of, or_shape, list_in}
use Rattle.graph_records.specs.Rows.{connection_of, node_of}
use Rattle.graph_records.specs.declared.fault.Part.TheVariants as part
use Rattle.graph_records.specs.declared.fault.RecordFault.{RecordFault}
use Rattle.graph_records.specs.declared.fault.RecordFault.TheVariants.{Text}

abbrev pub top : Data → Record
top d = record { part = part.Top; index = 0; value = d }

-- the object that holds a graph's records
abbrev pub records_of : Data → Result Data RecordFault
records_of d = or_shape (place_of (top d) member.Graph)
    (option_and_then (λ g. option_map (λ _. g) (as_object g)) (get (name_of member.Graph) d))

-- the list of connections may be absent
abbrev pub connections_in : Record → Result (List Data) RecordFault
connections_in r = if is_some (get (name_of member.Connection) r.value) then list_in 8192 r member.Connection else Ok []

-- both lists are taken before any of their entries is read, and all nodes before the connections
abbrev pub graph_in : Data → Result Graph RecordFault
graph_in d = taking (list_in 512 (top d) member.Filter) (λ filters. taking (connections_in (top d)) (λ links.
    taking (each_from node_of 0 filters) (λ nodes. taking (each_from connection_of 0 links) (λ connections.
    Ok (record { nodes = nodes; connections = connections })))))

abbrev pub graph_of : Data → Result Graph RecordFault
graph_of d = taking (records_of d) graph_in

-- ---- the text

-- serde_json's reading of the bytes: UTF-8, and at most 127 levels of objects and arrays
abbrev pub reading : List ℕ → Option Data
reading bytes = if is_utf8 bytes then read bytes else None

abbrev pub walk_of : Option Data → Result Graph RecordFault
walk_of None = Err Text
walk_of (Some d) = graph_of d

unfoldable pub walk : List ℕ → Result Graph RecordFault
walk bytes = walk_of (reading bytes)
