-- What the making of a player asks holds of each live node of a certified plan.
use Rattle.std.proofs.Common.{◌≡◌, ℕ, ◌^◌, ◌<◌, ◌≤◌, List, [], ◌∷◌, get_or, refl, sym, ap, ◌∙◌, subst, arith, true, false, Some, None, Bool, cond, ◌==◌}
use Rattle.std.specs.List.{All, Contains, find}
use Rattle.std.proofs.lemmas.Bool.{eqb-true}
use Rattle.std.proofs.lemmas.List.Elements.{All-contains, Contains-get_or}
use Rattle.graph_model.specs.Graphs.{node_named, ins_at, or_zero}
use Rattle.graph_model.specs.Kinds.{ins_of}
use Rattle.graph_model.specs.Members.{bad_member}
use Rattle.graph_model.specs.Ranges.{HasRange}
use Rattle.graph_model.specs.Bounds.{bounds, IsBounded}
use Rattle.graph_model.specs.Paths.{is_live, live_connections}
use Rattle.graph_model.specs.Answers.{delay}
use Rattle.graph_model.specs.Sound.{IsSound}
use Rattle.graph_model.specs.declared.graph.Node.{Node}
use Rattle.graph_model.specs.declared.graph.Graph.{Graph}
use Rattle.graph_model.proofs.PathLaws.{at_tail}
use Rattle.graph_model.proofs.RangeLaws.{ranges_are_tested}
use Rattle.graph_model.proofs.ReachLaws.{filter_has}
use Rattle.plan_model.specs.Alignments.{IsAfter}
use Rattle.plan_model.specs.Certified.{IsCertified, positions}
use Rattle.plan_model.specs.declared.plan.Plan.{Plan}
use Rattle.plan_model.proofs.CertifiedLaws.{alignment_of}
use Rattle.graph_model.proofs.BoundFacts.{outs_are, length-ins}
use Rattle.engine_model.proofs.HeadroomLaws.{delays_are_bounded}
use Rattle.graph_model.specs.Kernels.{IsBoundOf}

there : (ns : List Node) (v : ℕ) (m : Node) → find (λ k. k.uid.0 == v) ns ≡ Some m → Contains ns m × (m.uid.0 ≡ v)
there [] v m e = absurd (cc)
there (k ∷ ns) v m e = go (k.uid.0 == v) refl e (there ns v m)
  where
    go : (b : Bool) → (k.uid.0 == v) ≡ b → cond b (Some k) (find (λ l. l.uid.0 == v) ns) ≡ Some m → (find (λ l. l.uid.0 == v) ns ≡ Some m → Contains ns m × (m.uid.0 ≡ v)) → Contains (k ∷ ns) m × (m.uid.0 ≡ v)
    go true t f rest = let same : k ≡ m = cc in ((0, omega arith, same), ap (λ (l : Node). l.uid.0) (sym same) ∙ eqb-true k.uid.0 v t)
    go false t f rest = let r = rest f in (at_tail k m ns r.0, r.1)

module _ (g : Graph) (plan : Plan) (sound : IsSound g) (c : IsCertified g plan) (v : ℕ) (m : Node) (named : node_named g v ≡ Some m) where
  pub range : HasRange m.kind
  range = ((ranges_are_tested m).0 (All-contains (λ (n : Node). bad_member n ≡ None) g.nodes m sound.shaped.in_range (there g.nodes v m named).0)).1

  pub bound : IsBoundOf m.kind (bounds g v)
  bound = record {
    ins = length-ins g v ∙ ap (or_zero ins_of) named;
    outs = outs_are g sound.shaped v m named;
    bounded = let f = there g.nodes v m named in subst (λ u. IsBounded (bounds g u)) f.1 (All-contains (λ (n : Node). IsBounded (bounds g n.uid.0)) g.nodes m sound.headroom f.0);
  }

  pub channels : All (λ e. e.dst.0 ≡ v → e.dst_channel < ins_of m.kind) g.connections
  channels k d lt at =
      let ok = (sound.shaped.connections k d lt).destination_channel in
      subst (λ n. (get_or g.connections k d).dst_channel < n) (ap (or_zero ins_of) named) (subst (λ u. (get_or g.connections k d).dst_channel < ins_at g u) at ok)

  pub after : is_live g v ≡ true → All (λ e. e.dst.0 ≡ v → IsAfter g (positions plan) e × (delay g (positions plan) e ≤ 2 ^ 26)) g.connections
  after live k d lt at =
      let has : Contains (live_connections g) (get_or g.connections k d) = filter_has (λ e. is_live g e.dst.0) g.connections (get_or g.connections k d) (Contains-get_or g.connections k d lt) (ap (is_live g) at ∙ live) in
      (All-contains (IsAfter g (positions plan)) (live_connections g) (get_or g.connections k d) (alignment_of g plan c).after has, delays_are_bounded g plan (get_or g.connections k d) sound c has)
