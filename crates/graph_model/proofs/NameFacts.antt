-- Names and indexes of nodes.
use Rattle.std.proofs.Common.{◌≡◌, ℕ, ◌<◌, List, length, get_or, sym, ◌∙◌, ap, subst, Some, arith, ◌==◌, inl, inr}
use Rattle.std.specs.Prelude.{is_some}
use Rattle.std.specs.List.{Contains, position_or_len, slice_get}
use Rattle.std.proofs.lemmas.List.{get_or-map, get_or_default, length-map}
use Rattle.std.proofs.lemmas.Bool.{cases_lt, cases_eq}
use Rattle.std.proofs.lemmas.List.Folds.{find_at}
use Rattle.std.proofs.lemmas.List.Sums.{position_or_len_is}
use Rattle.std.proofs.lemmas.Option.{slice_get-get_or}
use Rattle.graph_model.proofs.CommonFacts.{not_same}
use Rattle.graph_model.specs.Graphs.{node_named, IsNode, latency_at, or_zero}
use Rattle.graph_model.specs.Kinds.{latency_of}
use Rattle.graph_model.specs.declared.kind.Kind.TheVariants.{Input}
use Rattle.graph_model.specs.declared.graph.Uid.{Uid}
use Rattle.std.proofs.lemmas.List.Elements.{All-same}
use Rattle.graph_model.specs.declared.graph.Connection.{Connection}
use Rattle.graph_model.specs.declared.graph.Node.{Node}
use Rattle.graph_model.specs.declared.graph.Graph.{Graph}
use Rattle.graph_model.proofs.PathLaws.{same_name}
use Rattle.graph_model.proofs.RankLaws.{node_in}
use Rattle.graph_model.specs.Named.{IsNamed, uids_of, uid_at, latencies_of}

abbrev pub any_node : Node
any_node = record { uid = record { 0 = 0 }; kind = Input 0 }

abbrev node_at : Graph → ℕ → Node
node_at g i = get_or g.nodes i any_node

pub same_uid : (u v : Uid) → u.0 ≡ v.0 → u ≡ v
same_uid u v e = λ i. record { 0 = e i }

pub name_is : (g : Graph) (i : ℕ) → i < length g.nodes → uid_at g i ≡ (get_or g.nodes i any_node).uid.0
name_is g i lt = get_or-map (λ (n : Node). n.uid.0) g.nodes i any_node 0 lt

-- some index of a name
pub index_of : (g : Graph) (v : ℕ) → IsNode g v → (i : ℕ) × (i < length g.nodes) × (uid_at g i ≡ v)
index_of g v node =
    let at : Contains (uids_of g) v = node_in v g.nodes node in
    let len = length-map g.nodes (λ (n : Node). n.uid.0) in
    (at.0, omega (arith, at.1), get_or_default (uids_of g) at.0 0 v at.1 ∙ at.2)

module _ (g : Graph) (named : IsNamed g) where
  earlier : (i j : ℕ) → i < j → j < length g.nodes → uid_at g i ≡ uid_at g j → ⊥
  earlier i j less lt same =
      named.uids_differ i j any_node less lt
      (same_uid (get_or g.nodes i any_node).uid (get_or g.nodes j any_node).uid (sym (name_is g i (omega arith)) ∙ same ∙ name_is g j lt))

  -- two nodes of one name are one node
  pub same_index : (i j : ℕ) → i < length g.nodes → j < length g.nodes → uid_at g i ≡ uid_at g j → i ≡ j
  same_index i j li lj same =
      elim (cases_lt i j) [
        | inl less ↦ absurd (earlier i j less lj same)
        | inr no_less ↦
            elim (cases_eq i j) [
              | inl equal ↦ equal
              | inr other ↦ (let less : j < i = omega arith in absurd (earlier j i less li (sym same)))
            ]
      ]

  -- the first place of a node's name is its index
  first_there : (j : ℕ) (d : Node) → j < length g.nodes → position_or_len (λ n. n.uid.0 == (get_or g.nodes j d).uid.0) g.nodes ≡ j
  first_there j d lt =
      position_or_len_is (λ n. n.uid.0 == (get_or g.nodes j d).uid.0) g.nodes j d (omega arith)
      (λ k l. not_same (get_or g.nodes k d).uid.0 (get_or g.nodes j d).uid.0
      (λ e. named.uids_differ k j d l lt (same_uid (get_or g.nodes k d).uid (get_or g.nodes j d).uid e)))
      (λ _. same_name (get_or g.nodes j d).uid.0)

  pub named_there : (j : ℕ) (d : Node) → j < length g.nodes → node_named g (get_or g.nodes j d).uid.0 ≡ Some (get_or g.nodes j d)
  named_there j d lt =
      find_at (λ n. n.uid.0 == (get_or g.nodes j d).uid.0) g.nodes ∙ ap (slice_get g.nodes) (first_there j d lt) ∙ slice_get-get_or g.nodes j d lt

  -- the first place of the name at an index is the index
  pub first_place : (i : ℕ) (d : Node) → i < length g.nodes → position_or_len (λ n. n.uid.0 == uid_at g i) g.nodes ≡ i
  first_place i d lt = ap (λ v. position_or_len (λ n. n.uid.0 == v) g.nodes) (get_or-map (λ (n : Node). n.uid.0) g.nodes i d 0 lt) ∙ first_there i d lt

  -- the node at an index is the one of its name
  pub node_is : (i : ℕ) (d : Node) → i < length g.nodes → node_named g (uid_at g i) ≡ Some (get_or g.nodes i d)
  node_is i d lt = ap (node_named g) (get_or-map (λ (n : Node). n.uid.0) g.nodes i d 0 lt) ∙ named_there i d lt

  pub is_node : (i : ℕ) → i < length g.nodes → IsNode g (uid_at g i)
  is_node i lt = ap is_some (node_is i any_node lt)

  pub latency_is : (i : ℕ) → i < length g.nodes → latency_at g (uid_at g i) ≡ get_or (latencies_of g) i 0
  latency_is i lt = ap (or_zero latency_of) (node_is i any_node lt) ∙ sym (get_or-map (λ (n : Node). latency_of n.kind) g.nodes i any_node 0 lt)

-- both names of a connection stand in the list of names
pub names_in : (g : Graph) → IsNamed g → (us : List ℕ) (cs : List Connection) → us ≡ uids_of g → cs ≡ g.connections
    → (i : ℕ) (d : Connection) → i < length cs → Contains us (get_or cs i d).src.0 × Contains us (get_or cs i d).dst.0
names_in g named us cs same all i d lt =
    let both = All-same (λ c. IsNode g c.src.0 × IsNode g c.dst.0) cs g.connections all named.nodes_exist i d lt in
    let src : Contains (uids_of g) (get_or cs i d).src.0 = node_in (get_or cs i d).src.0 g.nodes both.0 in
    let dst : Contains (uids_of g) (get_or cs i d).dst.0 = node_in (get_or cs i d).dst.0 g.nodes both.1 in
    (subst (λ (xs : List ℕ). Contains xs (get_or cs i d).src.0) (sym same) src, subst (λ (xs : List ℕ). Contains xs (get_or cs i d).dst.0) (sym same) dst)
