use Rattle.std.proofs.Common.{◌≡◌, length, map, take}
use Rattle.graph_model.specs.Named.{uid_at}
use Rattle.topology.specs.Links.{AreWithin}
use Rattle.topology.specs.declared.ends.Link.{Link}
use Rattle.graph_model.specs.declared.graph.Connection.{Connection}
use Rattle.topology.proofs.ends.links.Given as goal

abbrev pub invariant-loop-connection : goal.invariant-loop-connection
invariant-loop-connection l = record {
  within : AreWithin (length l.graph.nodes) l.links.items;
  sources : map (λ (k : Link). uid_at l.graph k.from) l.links.items ≡ map (λ (c : Connection). c.src.0) (take l.connection-index l.graph.connections);
  targets : map (λ (k : Link). uid_at l.graph k.to) l.links.items ≡ map (λ (c : Connection). c.dst.0) (take l.connection-index l.graph.connections);
}
