-- The routes of a sound graph's live connections.
use Rattle.std.proofs.Common.{◌≡◌, ℕ, ◌+◌, ◌-◌, ◌<◌, ◌≤◌, Bool, true, false, cond, List, [], ◌∷◌, ◌++◌, length, get_or, take, inl, inr, sym, ◌∙◌, ap, subst, arith, Some, ◌==◌}
use Rattle.std.specs.Prelude.{IsSome}
use Rattle.std.specs.List.{position, filter, Contains}
use Rattle.std.proofs.lemmas.Bool.{cases_lt}
use Rattle.std.proofs.lemmas.List.{append-nil, get_or_append_left, get_or_push, length_push, take_all}
use Rattle.std.proofs.lemmas.List.Elements.{All-contains, filter_more}
use Rattle.graph_model.specs.Kinds.{ins_of, outs_of, latency_of}
use Rattle.graph_model.specs.Graphs.{IsNode, ins_at, outs_at, latency_at}
use Rattle.graph_model.specs.Paths.{is_live, live_connections, depth}
use Rattle.graph_model.specs.Sound.{IsSound}
use Rattle.graph_model.proofs.PathLaws.{live_source}
use Rattle.graph_model.proofs.RankLaws.{nodes_exist, sound_is_ranked}
use Rattle.graph_model.proofs.ReachLaws.{filter_from, filter_has}
use Rattle.graph_model.specs.declared.graph.Connection.{Connection}
use Rattle.graph_model.specs.declared.graph.Node.{Node}
use Rattle.graph_model.specs.declared.graph.Graph.{Graph}
use Rattle.plan_model.specs.Alignments.{IsAlignment, IsAfter}
use Rattle.graph_model.specs.Named.{uid_at}
use Rattle.graph_model.proofs.NameFacts.{any_node}
use Rattle.renderer.specs.Positions.{position_at}
use Rattle.renderer.specs.Routes.{IsRoute, AreRoutes, AreRoutesOf}
use Rattle.renderer.specs.declared.routes.Route.{Route}
use Rattle.graph_model.proofs.NodeFacts.{has_place, place_is, outs_is, ins_is, latency_is}
use Rattle.renderer.proofs.PositionFacts.{position_is}

-- ---- live connections
-- a live connection is one of the graph's, and its destination is live
pub kept : (g : Graph) (c : Connection) → Contains (live_connections g) c → Contains g.connections c × (is_live g c.dst.0 ≡ true)
kept g c has = filter_from (λ d. is_live g d.dst.0) g.connections c has

pub keeps : (g : Graph) (c : Connection) → Contains g.connections c → is_live g c.dst.0 ≡ true → Contains (live_connections g) c
keeps g c has is = filter_has (λ d. is_live g d.dst.0) g.connections c has is

module _ (g : Graph) (sound : IsSound g) where
  -- so is its source
  pub source_live : (c : Connection) → Contains (live_connections g) c → is_live g c.src.0 ≡ true
  source_live c has = let k = kept g c has in live_source g (depth g) (sound_is_ranked g sound) c k.0 k.1

  ends : (c : Connection) → Contains g.connections c → IsNode g c.src.0 × IsNode g c.dst.0
  ends c has = All-contains (λ d. IsNode g d.src.0 × IsNode g d.dst.0) g.connections c (nodes_exist g sound.shaped) has

  pub source_found : (c : Connection) → Contains g.connections c → IsSome (position (λ n. n.uid.0 == c.src.0) g.nodes)
  source_found c has = has_place (λ n. n.uid.0 == c.src.0) g.nodes (ends c has).0

  pub destination_found : (c : Connection) → Contains g.connections c → IsSome (position (λ n. n.uid.0 == c.dst.0) g.nodes)
  destination_found c has = has_place (λ n. n.uid.0 == c.dst.0) g.nodes (ends c has).1

  module _ (c : Connection) (src dst : ℕ)
      (src_is : position (λ n. n.uid.0 == c.src.0) g.nodes ≡ Some src) (dst_is : position (λ n. n.uid.0 == c.dst.0) g.nodes ≡ Some dst) where
    pub from_index : (src < length g.nodes) × (uid_at g src ≡ c.src.0)
    from_index = place_is g sound c.src.0 src any_node src_is

    pub to_index : (dst < length g.nodes) × (uid_at g dst ≡ c.dst.0)
    to_index = place_is g sound c.dst.0 dst any_node dst_is

    module _ (ps : List ℕ) (source : Node) (late : ℕ)
        (source_is : source ≡ get_or g.nodes src source) (late_is : late ≡ latency_of source.kind) where
      late_at : late ≡ latency_at g c.src.0
      late_at = late_is ∙ ap (λ (n : Node). latency_of n.kind) source_is ∙ sym (latency_is g sound src source from_index.0) ∙ ap (latency_at g) from_index.1

      early_at : get_or ps src 0 ≡ position_at g ps c.src.0
      early_at = sym (position_is g sound ps src from_index.0) ∙ ap (position_at g ps) from_index.1

      ready_at : get_or ps dst 0 ≡ position_at g ps c.dst.0
      ready_at = sym (position_is g sound ps dst to_index.0) ∙ ap (position_at g ps) to_index.1

      -- no delay is below 0
      pub not_early : Contains (live_connections g) c → IsAlignment g (position_at g ps) → get_or ps src 0 + late ≤ get_or ps dst 0
      not_early has al =
          let after : position_at g ps c.src.0 + latency_at g c.src.0 ≤ position_at g ps c.dst.0 =
          All-contains (IsAfter g (position_at g ps)) (live_connections g) c al.after has in
          let a = early_at in let b = ready_at in let l = late_at in
          omega arith

      pub route_is : (destination : Node) (outs ins : ℕ) → destination ≡ get_or g.nodes dst destination → outs ≡ outs_of source.kind → ins ≡ ins_of destination.kind
          → IsRoute g (position_at g ps) c (record {
            src = src;
            from = record { at = c.src_channel; of = outs };
            dst = dst;
            to = record { at = c.dst_channel; of = ins };
            delay = get_or ps dst 0 - (get_or ps src 0 + late);
          })
      route_is destination outs ins destination_is outs_are ins_are = record {
        source = from_index.0;
        source_name = from_index.1;
        destination = to_index.0;
        destination_name = to_index.1;
        from = λ i. record { at = c.src_channel; of = from_of i };
        to = λ i. record { at = c.dst_channel; of = to_of i };
        holds_back = λ i. ready_at i - (early_at i + late_at i);
      }
        where
          from_of : outs ≡ outs_at g c.src.0
          from_of = outs_are ∙ ap (λ (n : Node). outs_of n.kind) source_is ∙ sym (outs_is g sound src source from_index.0) ∙ ap (outs_at g) from_index.1

          to_of : ins ≡ ins_at g c.dst.0
          to_of = ins_are ∙ ap (λ (n : Node). ins_of n.kind) destination_is ∙ sym (ins_is g sound dst destination to_index.0) ∙ ap (ins_at g) to_index.1

-- ---- one connection after another
pub routes_push : (g : Graph) (p : ℕ → ℕ) (cs : List Connection) (rs : List Route) (c : Connection) (x : Route) → AreRoutesOf g p cs rs → IsRoute g p c x
    → AreRoutesOf g p (cs ++ c ∷ []) (rs ++ x ∷ [])
routes_push g p cs rs c x are is = record {
  count = length_push rs x ∙ ap (λ m. m + 1) are.count ∙ sym (length_push cs c);
  each = λ k d r l.
      elim (cases_lt k (length rs)) [
        | inl before ↦
            subst (λ y. IsRoute g p y (get_or (rs ++ x ∷ []) k r)) (sym (get_or_append_left cs (c ∷ []) d k (let n = are.count in omega arith)))
            (subst (IsRoute g p (get_or cs k d)) (sym (get_or_append_left rs (x ∷ []) r k before)) (are.each k d r before))
        | inr past ↦
            (let last : length rs ≡ k = omega (arith, length_push rs x) in
            subst (λ y. IsRoute g p y (get_or (rs ++ x ∷ []) k r)) (sym (get_or_push cs c d k (sym are.count ∙ last)))
            (subst (IsRoute g p c) (sym (get_or_push rs x r k last)) is))
      ];
}

-- the routes of the live ones of the first n connections
abbrev pub AreRoutesUpTo : ℕ → Graph → (ℕ → ℕ) → List Route → Type 0
AreRoutesUpTo n g p rs = AreRoutesOf g p (filter (λ c. is_live g c.dst.0) (take n g.connections)) rs

module _ (n : ℕ) (g : Graph) (p : ℕ → ℕ) (d : Connection) (lt : n < length g.connections) where
  one_more : (b : Bool) → is_live g (get_or g.connections n d).dst.0 ≡ b
      → filter (λ c. is_live g c.dst.0) (take (n + 1) g.connections) ≡ filter (λ c. is_live g c.dst.0) (take n g.connections) ++ cond b (get_or g.connections n d ∷ []) []
  one_more b is =
      filter_more (λ c. is_live g c.dst.0) g.connections n d lt
      ∙ ap (λ b. filter (λ c. is_live g c.dst.0) (take n g.connections) ++ cond b (get_or g.connections n d ∷ []) []) is

  pub routes_more : (rs new : List Route) (x : Route) → AreRoutesUpTo n g p rs → is_live g (get_or g.connections n d).dst.0 ≡ true → IsRoute g p (get_or g.connections n d) x
      → new ≡ rs ++ x ∷ [] → AreRoutesUpTo (n + 1) g p new
  routes_more rs new x are live is e =
      subst (λ cs. AreRoutesOf g p cs new) (sym (one_more true live)) (subst (AreRoutesOf g p (filter (λ c. is_live g c.dst.0) (take n g.connections) ++ get_or g.connections n d ∷ [])) (sym e)
      (routes_push g p (filter (λ c. is_live g c.dst.0) (take n g.connections)) rs (get_or g.connections n d) x are is))

  pub routes_same : (rs : List Route) → AreRoutesUpTo n g p rs → is_live g (get_or g.connections n d).dst.0 ≡ false → AreRoutesUpTo (n + 1) g p rs
  routes_same rs are idle = subst (λ cs. AreRoutesOf g p cs rs) (sym (one_more false idle ∙ append-nil (filter (λ c. is_live g c.dst.0) (take n g.connections)))) are

pub routes_all : (n : ℕ) (g : Graph) (p : ℕ → ℕ) (rs : List Route) → length g.connections ≤ n → AreRoutesUpTo n g p rs → AreRoutes g p rs
routes_all n g p rs past are = subst (λ cs. AreRoutesOf g p (filter (λ c. is_live g c.dst.0) cs) rs) (take_all n g.connections past) are
