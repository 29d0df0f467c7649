-- Values in code.
use Rattle.std.specs.Prelude.{ℕ, get_or}
use Rattle.std.specs.List.{position_or_len}
use Rattle.std.specs.Ordering.{nat_cmp, ordering_then}
use Rattle.std.specs.declared.cmp.Ordering.{Ordering}
use Rattle.graph_model.specs.declared.graph.Connection.{Connection}
use Rattle.graph_model.specs.declared.graph.Graph.{Graph}
use Rattle.plan_model.specs.Lives.{Port, values}
use Rattle.plan_model.specs.Places.{same_port}
use Rattle.alignment.specs.declared.links.Link.{Link}
use Rattle.alignment.specs.declared.values.Value.{Value}

abbrev pub port : Value → Port
port x = record { uid = record { 0 = x.uid }; channel = x.channel }

-- the value that a connection reads
abbrev pub read_at : Connection → Value
read_at c = record { uid = c.src.0; channel = c.src_channel }

-- the value that a link's connection reads
abbrev pub read_of : Graph → Link → Value
read_of g l = read_at (get_or g.connections l.index (
    record { src = record { 0 = 0 }; src_channel = 0; dst = record { 0 = 0 }; dst_channel = 0 }))

-- by node, then by channel
abbrev pub value_order : Value → Value → Ordering
value_order x y = ordering_then (nat_cmp x.uid y.uid) (nat_cmp x.channel y.channel)

-- the place of a value among all
abbrev pub place_of_value : Graph → Port → ℕ
place_of_value g x = position_or_len (λ y. same_port y x) (values g)
