-- The output node of a sound graph.
use Rattle.std.proofs.Common.{◌≡◌, ℕ, ◌+◌, ◌<◌, List, [], ◌∷◌, Bool, true, false, cond, refl, ap, subst, ◌∙◌, arith, Some, None, count_by}
use Rattle.std.specs.List.{find, Contains}
use Rattle.std.proofs.lemmas.Bool.{cond-false}
use Rattle.std.proofs.lemmas.List.Elements.{All-contains}
use Rattle.std.proofs.lemmas.List.Sums.{sum_by-cons}
use Rattle.graph_model.specs.Graphs.{name_or_zero, or_zero, node_named, is_input, is_output, output_name, out_channels}
use Rattle.graph_model.specs.Kinds.{ins_of}
use Rattle.graph_model.specs.Members.{bad_member}
use Rattle.graph_model.specs.Ranges.{HasRange}
use Rattle.graph_model.specs.Sound.{IsSound}
use Rattle.graph_model.specs.declared.kind.Kind.{Kind}
use Rattle.graph_model.specs.declared.kind.Kind.TheVariants.{Input, Output}
use Rattle.graph_model.specs.declared.graph.Node.{Node}
use Rattle.graph_model.specs.declared.graph.Graph.{Graph}
use Rattle.graph_model.proofs.NameFacts.{named_there}
use Rattle.graph_model.proofs.NodeFacts.{named}
use Rattle.graph_model.proofs.PathLaws.{at_tail}
use Rattle.graph_model.proofs.RangeLaws.{in_range}

one_output : (ns : List Node) → count_by (λ n. is_output n.kind) ns ≡ 1 → (m : Node) × Contains ns m × (is_output m.kind ≡ true) × (name_or_zero (find (λ n. is_output n.kind) ns) ≡ m.uid.0)
one_output [] e = absurd (omega (arith, e))
one_output (n ∷ ns) e = go (is_output n.kind) refl (sum_by-cons (λ (m : Node). cond (is_output m.kind) 1 0) n ns) e (one_output ns)
  where
    go : (b : Bool) → is_output n.kind ≡ b → count_by (λ m. is_output m.kind) (n ∷ ns) ≡ cond {A = ℕ} (is_output n.kind) 1 0 + count_by (λ m. is_output m.kind) ns → count_by (λ m. is_output m.kind) (n ∷ ns) ≡ 1
        → (count_by (λ n. is_output n.kind) ns ≡ 1 → (m : Node) × Contains ns m × (is_output m.kind ≡ true) × (name_or_zero (find (λ n. is_output n.kind) ns) ≡ m.uid.0))
        → (m : Node) × Contains (n ∷ ns) m × (is_output m.kind ≡ true) × (name_or_zero (cond b (Some n) (find (λ n. is_output n.kind) ns)) ≡ m.uid.0)
    go true t k one rest = (n, (0, omega arith, refl), t, refl)
    go false t k one rest =
        let z : cond {A = ℕ} (is_output n.kind) 1 0 ≡ 0 = cond-false {A = ℕ} (is_output n.kind) 1 0 t in
        let r = rest (omega (arith, k, one)) in (r.0, at_tail n r.0 ns r.1, r.2, r.3)

no_input : (kind : Kind) → is_output kind ≡ true → is_input kind ≡ false
no_input (Input channels) e = absurd (cc)
no_input kind e = refl

some_ins : (kind : Kind) → HasRange kind → is_output kind ≡ true → 0 < ins_of kind
some_ins (Output channels) range e = let l = range.0 in omega arith
some_ins kind range e = absurd (cc)

module _ (g : Graph) (sound : IsSound g) where
  found : (n : Node) × Contains g.nodes n × (is_output n.kind ≡ true) × (output_name g ≡ n.uid.0)
  found = one_output g.nodes sound.shaped.ends.1

  there : (n : Node) → Contains g.nodes n → node_named g n.uid.0 ≡ Some n
  there n (k, lt, at) = subst (λ (m : Node). node_named g m.uid.0 ≡ Some m) at (named_there g (named g sound) k n lt)

  pub output_node : (n : Node) × (node_named g (output_name g) ≡ Some n) × (is_output n.kind ≡ true) × (is_input n.kind ≡ false)
  output_node = (found.0, ap (node_named g) found.3 ∙ there found.0 found.1, found.2, no_input found.0.kind found.2)

  -- it has some channels
  pub output_some : 0 < out_channels g
  unfolding found output_node
  output_some =
      let o = output_node in
      let range = in_range found.0 (All-contains (λ n. bad_member n ≡ None) g.nodes found.0 sound.shaped.in_range found.1) in
      let some = some_ins found.0.kind range.1 found.2 in
      let same : out_channels g ≡ ins_of found.0.kind = ap (or_zero ins_of) o.1 in
      omega arith
