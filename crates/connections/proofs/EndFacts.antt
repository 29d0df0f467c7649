-- The two ends of a sound graph: their places, and their 1 to 32 channels.
use Rattle.std.proofs.Common.{◌≡◌, ℕ, ◌<◌, ◌≤◌, List, length, get_or, Bool, true, Some, sym, ap, ◌∙◌, subst, arith}
use Rattle.std.specs.List.{position, find}
use Rattle.std.specs.Option.{IsSome, is_some}
use Rattle.std.proofs.lemmas.Bool.{false≢true}
use Rattle.graph_model.specs.Kinds.{ins_of, outs_of}
use Rattle.graph_model.specs.Ranges.{HasRange}
use Rattle.graph_model.specs.Graphs.{is_input, is_output, ins_at, input_name, output_name, name_or_zero, in_channels, out_channels}
use Rattle.graph_model.specs.Named.{uid_at}
use Rattle.graph_model.specs.Sound.{IsSound}
use Rattle.graph_model.specs.declared.kind.Kind.{Kind}
use Rattle.graph_model.specs.declared.kind.Kind.TheVariants.{Input, Output}
use Rattle.graph_model.specs.declared.graph.Node.{Node}
use Rattle.graph_model.specs.declared.graph.Graph.{Graph}
use Rattle.std.proofs.lemmas.List.{get_or_default}
use Rattle.graph_model.specs.declared.graph.Connection.{Connection}
use Rattle.topology.specs.Links.{AreLinks, no_link}
use Rattle.topology.specs.declared.ends.Link.{Link}
use Rattle.topology.proofs.LinkFacts.{any_connection, count, source_is, target_is}
use Rattle.graph_model.proofs.NameFacts.{any_node, name_is}
use Rattle.topology.proofs.OutputFacts.{output_found, output_named}
use Rattle.graph_model.proofs.NodeFacts.{has_place, input_exists, input_found, ins_is, position_found, range_at}
use Rattle.std.proofs.lemmas.List.Quantifiers.{position-Some}

input_range : (kind : Kind) → HasRange kind → is_input kind ≡ true → (1 ≤ outs_of kind) × (outs_of kind ≤ 32)
input_range (Input n) r e = r
input_range kind r e = absurd (false≢true e)

output_range : (kind : Kind) → HasRange kind → is_output kind ≡ true → (1 ≤ ins_of kind) × (ins_of kind ≤ 32)
output_range (Output n) r e = r
output_range kind r e = absurd (false≢true e)

first_named : (p : Node → Bool) (g : Graph) (i : ℕ) → position p g.nodes ≡ Some i → (i < length g.nodes) × (uid_at g i ≡ name_or_zero (find p g.nodes))
first_named p g i e =
    let at = position_found p g.nodes i any_node e in
    (at.0, name_is g i at.0 ∙ sym (ap name_or_zero at.1))

module _ (g : Graph) (sound : IsSound g) where
  pub input_there : IsSome (position (λ n. is_input n.kind) g.nodes)
  input_there = has_place (λ n. is_input n.kind) g.nodes (input_exists g sound)

  pub output_there : IsSome (position (λ n. is_output n.kind) g.nodes)
  output_there = ap is_some (output_found g sound.shaped.ends.1)

  -- the node at the first place of an input node
  pub ins_found : (k : ℕ) (d : Node) → position (λ n. is_input n.kind) g.nodes ≡ Some k
      → (outs_of (get_or g.nodes k d).kind ≡ in_channels g) × (1 ≤ outs_of (get_or g.nodes k d).kind) × (outs_of (get_or g.nodes k d).kind ≤ 32)
  ins_found k d e =
      let at = position_found (λ n. is_input n.kind) g.nodes k d e in
      let passes : is_input (get_or g.nodes k d).kind ≡ true = (position-Some (λ n. is_input n.kind) g.nodes k d e).1 in
      let range = input_range (get_or g.nodes k d).kind (range_at g sound k d at.0).1 passes in
      ((input_found g sound (get_or g.nodes k d) at.1).0, range.0, range.1)

  -- and of an output node
  pub outs_found : (k : ℕ) (d : Node) → position (λ n. is_output n.kind) g.nodes ≡ Some k
      → (ins_of (get_or g.nodes k d).kind ≡ out_channels g) × (1 ≤ ins_of (get_or g.nodes k d).kind) × (ins_of (get_or g.nodes k d).kind ≤ 32)
  outs_found k d e =
      let at = position_found (λ n. is_output n.kind) g.nodes k d e in
      let passes : is_output (get_or g.nodes k d).kind ≡ true = (position-Some (λ n. is_output n.kind) g.nodes k d e).1 in
      let range = output_range (get_or g.nodes k d).kind (range_at g sound k d at.0).1 passes in
      (sym (ins_is g sound k d at.0) ∙ ap (ins_at g) (output_named g sound.shaped.ends.1 k e), range.0, range.1)

  -- the index of an input node, or of an output node
  pub input_at : (i : ℕ) → position (λ n. is_input n.kind) g.nodes ≡ Some i → (i < length g.nodes) × (uid_at g i ≡ input_name g)
  input_at i e = first_named (λ n. is_input n.kind) g i e

  pub output_at : (i : ℕ) → position (λ n. is_output n.kind) g.nodes ≡ Some i → (i < length g.nodes) × (uid_at g i ≡ output_name g)
  output_at i e = first_named (λ n. is_output n.kind) g i e

-- ---- the ends of a connection
pub record AreEnds (g : Graph) (k : ℕ) (l : Link) : Type 0 where
  pub within : (l.from < length g.nodes) × (l.to < length g.nodes)
  pub source : (d : Connection) → uid_at g l.from ≡ (get_or g.connections k d).src.0
  pub destination : (d : Connection) → uid_at g l.to ≡ (get_or g.connections k d).dst.0

ends_at : (g : Graph) (ls : List Link) (k : ℕ) (l : Link) → AreLinks g ls → k < length g.connections → l ≡ get_or ls k l → AreEnds g k l
ends_at g ls k l links lt is =
    let inside : k < length ls = (let n = count g ls links in omega arith) in
    let at : l ≡ get_or ls k no_link = is ∙ get_or_default ls k l no_link inside in
    record {
      within = subst (λ (m : Link). (m.from < length g.nodes) × (m.to < length g.nodes)) (sym at) (links.within k inside);
      source = λ d. ap (λ (m : Link). uid_at g m.from) at ∙ source_is g ls links k inside ∙ ap (λ (c : Connection). c.src.0) (get_or_default g.connections k any_connection d lt);
      destination = λ d. ap (λ (m : Link). uid_at g m.to) at ∙ target_is g ls links k inside ∙ ap (λ (c : Connection). c.dst.0) (get_or_default g.connections k any_connection d lt);
    }

-- what is kept of the graph g, at the index of a connection of v, which is g
pub kept_ends : (v g : Graph) (ls : List Link) (k : ℕ) (l : Link) → g ≡ v → AreLinks g ls → k < length v.connections → l ≡ get_or ls k l → AreEnds v k l
kept_ends v g ls k l same links = ends_at v ls k l (subst (λ h. AreLinks h ls) same links)

pub links_reach : (v g : Graph) (ls : List Link) (k : ℕ) → g ≡ v → AreLinks g ls → k < length v.connections → k < length ls
links_reach v g ls k same links lt = let n = count v ls (subst (λ h. AreLinks h ls) same links) in omega arith
