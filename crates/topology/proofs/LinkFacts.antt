-- Connections and their links.
use Rattle.std.proofs.Common.{◌≡◌, ℕ, ◌<◌, List, length, get_or, sym, ◌∙◌, ap, Some, arith}
use Rattle.std.specs.Prelude.{slice_get}
use Rattle.std.specs.List.{Contains}
use Rattle.std.proofs.lemmas.List.{get_or-map, get_or_default, length-map}
use Rattle.std.proofs.lemmas.List.Elements.{All-same, Contains-get_or}
use Rattle.std.proofs.lemmas.Option.{slice_get-get_or}
use Rattle.graph_model.specs.Graphs.{IsJoined, IsNode}
use Rattle.graph_model.specs.declared.graph.Connection.{Connection}
use Rattle.graph_model.specs.declared.graph.Graph.{Graph}
use Rattle.graph_model.specs.Named.{IsNamed, uid_at}
use Rattle.topology.specs.Links.{no_link, source, target, AreLinks}
use Rattle.topology.specs.declared.ends.Link.{Link}

abbrev pub any_connection : Connection
any_connection = record { src = record { 0 = 0 }; src_channel = 0; dst = record { 0 = 0 }; dst_channel = 0 }

abbrev pub connection_at : Graph → ℕ → Connection
connection_at g e = get_or g.connections e any_connection

-- both ends of a connection that was read are nodes
pub ends_exist : (g : Graph) → IsNamed g → (cs : List Connection) → cs ≡ g.connections → (k : ℕ) (d : Connection) → k < length cs
    → IsNode g (get_or cs k d).src.0 × IsNode g (get_or cs k d).dst.0
ends_exist g named cs same k d lt = All-same (λ c. IsNode g c.src.0 × IsNode g c.dst.0) cs g.connections same named.nodes_exist k d lt

module _ (g : Graph) (ls : List Link) (links : AreLinks g ls) where
  pub count : length ls ≡ length g.connections
  count = sym (length-map ls (λ (l : Link). uid_at g l.from)) ∙ ap length links.sources ∙ length-map g.connections (λ (c : Connection). c.src.0)

  pub source_is : (e : ℕ) → e < length ls → uid_at g (source ls e) ≡ (connection_at g e).src.0
  source_is e lt =
      sym (get_or-map (λ (l : Link). uid_at g l.from) ls e no_link 0 lt) ∙ ap (λ xs. get_or xs e 0) links.sources
      ∙ get_or-map (λ (c : Connection). c.src.0) g.connections e any_connection 0 (let n = count in omega arith)

  pub target_is : (e : ℕ) → e < length ls → uid_at g (target ls e) ≡ (connection_at g e).dst.0
  target_is e lt =
      sym (get_or-map (λ (l : Link). uid_at g l.to) ls e no_link 0 lt) ∙ ap (λ xs. get_or xs e 0) links.targets
      ∙ get_or-map (λ (c : Connection). c.dst.0) g.connections e any_connection 0 (let n = count in omega arith)

  pub connection_is : (e : ℕ) → e < length ls → slice_get g.connections e ≡ Some (connection_at g e)
  connection_is e lt = slice_get-get_or g.connections e any_connection (let n = count in omega arith)

  pub has_connection : (e : ℕ) → e < length ls → Contains g.connections (connection_at g e)
  has_connection e lt = Contains-get_or g.connections e any_connection (let n = count in omega arith)

  -- each link joins, and each joint is a link
  pub joined : (e : ℕ) → e < length ls → IsJoined g (uid_at g (source ls e)) (uid_at g (target ls e))
  joined e lt = (connection_at g e, has_connection e lt, sym (source_is e lt), sym (target_is e lt))

  pub link_of : (u v : ℕ) → IsJoined g u v → (e : ℕ) × (e < length ls) × (uid_at g (source ls e) ≡ u) × (uid_at g (target ls e) ≡ v)
  link_of u v (c, (e, within, at), src, dst) =
      let lt : e < length ls = (let n = count in omega arith) in
      let is : connection_at g e ≡ c = get_or_default g.connections e any_connection c within ∙ at in
      (e, lt, source_is e lt ∙ ap (λ (d : Connection). d.src.0) is ∙ src, target_is e lt ∙ ap (λ (d : Connection). d.dst.0) is ∙ dst)
