-- What is kept of a sound graph.
use Rattle.std.specs.Prelude.{◌≡◌, map}
use Rattle.graph_model.specs.Paths.{is_live}
use Rattle.graph_model.specs.Bounds.{bounds}
use Rattle.graph_model.specs.Sound.{IsSound}
use Rattle.topology.specs.Answers.{IsOrderOfNodes, IsReachOf}
use Rattle.topology.specs.Links.{AreLinks}
use Rattle.connections.specs.declared.checked.Checked.TheInside.{Inside}

-- the graph is sound, and the rest is what the definitions give of it, by node index; the links are the connections,
-- by node indexes
pub record AreFacts (c : Inside) : Type 0 where
  pub sound : IsSound c.graph
  pub order : IsOrderOfNodes c.graph c.order
  pub reach : IsReachOf c.graph c.reach
  pub live : c.live ≡ map (λ n. is_live c.graph n.uid.0) c.graph.nodes
  pub bounds : c.bounds ≡ map (λ n. bounds c.graph n.uid.0) c.graph.nodes
  pub links : AreLinks c.graph c.links.items
