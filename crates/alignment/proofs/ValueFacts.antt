-- Live nodes of a sound graph, and values of its points that keep the differences of its network.
use Rattle.std.proofs.Common.{◌≡◌, ℕ, ◌+◌, ◌≤◌, ℤ, pos, ◌+ℤ◌, ◌-ℤ◌, neg_ℤ, ◌≤ℤ◌, List, [], ◌∷◌, map, get_or, refl, sym, ap, subst, ◌∙◌, arith, cond, true, None, inl, inr}
use Rattle.std.specs.List.{Contains}
use Rattle.std.proofs.lemmas.Int.{ints}
use Rattle.std.proofs.lemmas.List.Elements.{All-contains, All-map, All-weaker, Contains-get_or, Contains-append_left, Contains-append_right}
use Rattle.graph_model.specs.Graphs.{latency_at, input_name, output_name}
use Rattle.graph_model.specs.Paths.{IsPathTo, IsLive, is_live, live_nodes, live_connections, depth, latency_of_graph}
use Rattle.graph_model.specs.Sound.{IsSound}
use Rattle.graph_model.specs.Members.{bad_member}
use Rattle.graph_model.proofs.PathLaws.{live_source, first_or_later}
use Rattle.graph_model.proofs.RangeLaws.{in_range}
use Rattle.graph_model.proofs.RankLaws.{sound_is_ranked}
use Rattle.graph_model.proofs.ReachLaws.{filter_has}
use Rattle.graph_model.specs.declared.graph.Node.{Node}
use Rattle.graph_model.specs.declared.graph.Connection.{Connection}
use Rattle.graph_model.specs.declared.graph.Graph.{Graph}
use Rattle.plan_model.specs.Alignments.{IsAlignment}
use Rattle.plan_model.specs.Duality.{rooted}
use Rattle.plan_model.specs.Flows.{IsPoint, along, from_root, to_root, network}
use Rattle.plan_model.specs.Networks.{Difference}
use Rattle.plan_model.proofs.DualityLaws.{rooted_at}
use Rattle.graph_model.proofs.LiveLaws.{ends_live, live_test, output_live}
use Rattle.plan_model.proofs.ExampleTools.{listed}
use Rattle.plan_model.proofs.SavedLaws.{Contains-map}
use Rattle.plan_model.proofs.ShiftLaws.{reach_least}

-- ---- live nodes of a sound graph
module _ (g : Graph) (sound : IsSound g) where
  -- its name is not 0
  pub live_is_named : (v : ℕ) → IsLive g v → 1 ≤ v
  live_is_named v live =
      All-contains (λ u. 1 ≤ u) (map (λ n. n.uid.0) g.nodes) v
      (All-map (λ u. 1 ≤ u) (λ (n : Node). n.uid.0) g.nodes (All-weaker (λ n. bad_member n ≡ None) (λ n. 1 ≤ n.uid.0) (λ n e. (in_range n e).0.0) g.nodes sound.shaped.in_range))
      (listed g v live)

  -- and it is listed among the live nodes
  pub live_listed : (v : ℕ) → IsLive g v → Contains (live_nodes g) v
  live_listed v live = filter_has (is_live g) (map (λ n. n.uid.0) g.nodes) v (listed g v live) (live_test g sound v live)

  -- what holds of the output node, and of the source of a live connection where it holds of its destination, holds of each live node
  pub each_live : (Q : ℕ → Type 0) → Q (output_name g) → ((c : Connection) → Contains (live_connections g) c → Q c.dst.0 → Q c.src.0) → (v : ℕ) → IsLive g v → Q v
  each_live Q last back v live = on_path (output_name g) live.0 live.1 (live_test g sound (output_name g) (output_live g sound)) last v live.2
    where
      on_path : (u : ℕ) (us : List ℕ) → IsPathTo g u us → is_live g u ≡ true → Q u → (w : ℕ) → Contains (u ∷ us) w → Q w
      on_path u [] path is q w has = elim (first_or_later u w [] has) [ inl same ↦ subst Q same q | inr there ↦ (let l = there.1 in absurd (omega arith)) ]
      on_path u (x ∷ us) (node, (c, joined, src, dst), path) is q w has =
          elim (first_or_later u w (x ∷ us) has) [
            | inl same ↦ subst Q same q
            | inr there ↦
                (let here : is_live g c.dst.0 ≡ true = ap (is_live g) dst ∙ is in
                let kept = filter_has (λ d. is_live g d.dst.0) g.connections c joined here in
                on_path x us path (ap (is_live g) (sym src) ∙ live_source g (depth g) (sound_is_ranked g sound) c joined here)
                (subst Q src (back c kept (subst Q (sym dst) q))) w there)
          ]

  -- ---- what the network has
  -- the arc along a live connection
  pub along_there : (c : Connection) → Contains (live_connections g) c → Contains (network g (latency_of_graph g)) (along g c)
  along_there c has = Contains-append_left (map (along g) (live_connections g)) _ (along g c) (Contains-map (along g) (live_connections g) c has)

  -- that from the root to a live node
  pub from_root_there : (v : ℕ) → IsLive g v → Contains (network g (latency_of_graph g)) (from_root v)
  from_root_there v live =
      Contains-append_right (map (along g) (live_connections g)) _ (from_root v)
      (Contains-append_left (map from_root (live_nodes g)) _ (from_root v)
      (Contains-map from_root (live_nodes g) v (live_listed v live)))

  -- those to the root, from a live input node and from the output node
  to_root_there : (d : Difference ℕ) → Contains (to_root g (latency_of_graph g)) d → Contains (network g (latency_of_graph g)) d
  to_root_there d has = Contains-append_right (map (along g) (live_connections g)) _ d (Contains-append_right (map from_root (live_nodes g)) _ d has)

  pub input_there : IsLive g (input_name g) → Contains (network g (latency_of_graph g)) (record { tail = input_name g; head = 0; least = pos 0 })
  input_there live =
      to_root_there (record { tail = input_name g; head = 0; least = pos 0 })
      (Contains-append_left (cond (is_live g (input_name g)) (record { tail = input_name g; head = 0; least = pos 0 } ∷ []) []) _ (record { tail = input_name g; head = 0; least = pos 0 })
      (rw (live_test g sound (input_name g) live) (0, omega arith, refl)))

  pub output_there : Contains (network g (latency_of_graph g)) (record { tail = output_name g; head = 0; least = neg_ℤ (pos (latency_of_graph g)) })
  output_there =
      to_root_there (record { tail = output_name g; head = 0; least = neg_ℤ (pos (latency_of_graph g)) })
      (Contains-append_right (cond (is_live g (input_name g)) (record { tail = input_name g; head = 0; least = pos 0 } ∷ []) []) _
      (record { tail = output_name g; head = 0; least = neg_ℤ (pos (latency_of_graph g)) }) (0, omega arith, refl))

-- ---- values that keep the differences
module _ (g : Graph) (sound : IsSound g) (value : ℕ → ℤ) (root : value 0 ≡ pos 0)
    (rises : (d : Difference ℕ) → Contains (network g (latency_of_graph g)) d → d.least ≤ℤ (value d.head -ℤ value d.tail)) where
  -- along a live connection they rise by the latency of its source
  pub value_after : (c : Connection) → Contains (live_connections g) c → (value c.src.0 +ℤ pos (latency_at g c.src.0)) ≤ℤ value c.dst.0
  value_after c has = let r = rises (along g c) (along_there g sound c has) in omega (arith, ints)

  -- at the output node they are at most the latency
  value_of_output : value (output_name g) ≤ℤ pos (latency_of_graph g)
  value_of_output =
      let r = rises (record { tail = output_name g; head = 0; least = neg_ℤ (pos (latency_of_graph g)) }) (output_there g sound) in
      let z = root in
      omega (arith, ints)

  -- at a live node they are from 0 to the latency
  pub live_within : (v : ℕ) → IsLive g v → (pos 0 ≤ℤ value v) × (value v ≤ℤ pos (latency_of_graph g))
  live_within v live =
      let r = rises (from_root v) (from_root_there g sound v live) in
      let z = root in
      let top = each_live g sound (λ w. value w ≤ℤ pos (latency_of_graph g)) value_of_output (λ c has le. let a = value_after c has in omega (arith, ints)) v live in
      (omega (arith, ints), omega (arith, ints))

  -- and so at a point
  pub point_within : (v : ℕ) → IsPoint g v → (pos 0 ≤ℤ value v) × (value v ≤ℤ pos (latency_of_graph g))
  point_within v (inl same) = let z = ap value same ∙ root in (omega (arith, ints), omega (arith, ints))
  point_within v (inr live) = live_within v live

  -- ---- positions that are the values
  module _ (p : ℕ → ℕ) (is : (v : ℕ) → IsLive g v → pos (p v) ≡ value v) where
    -- the position of a point is its value
    pub rooted_is : (v : ℕ) → IsPoint g v → pos (rooted p v) ≡ value v
    rooted_is v (inl same) = ap (λ u. pos (rooted p u)) same ∙ sym root ∙ ap value (sym same)
    rooted_is v (inr live) = ap pos (rooted_at p v (live_is_named g sound v live)) ∙ is v live

    -- a destination stands no earlier than its source and the latency of that
    position_after : (c : Connection) → Contains (live_connections g) c → p c.src.0 + latency_at g c.src.0 ≤ p c.dst.0
    position_after c has =
        let ends = ends_live g sound c has in
        let s = is c.src.0 ends.0 in
        let t = is c.dst.0 ends.1 in
        let a = value_after c has in
        omega (arith, ints)

    -- they are an alignment
    pub is_alignment : IsAlignment g p
    is_alignment = record {
      input = λ live.
          let r = rises (record { tail = input_name g; head = 0; least = pos 0 }) (input_there g sound live) in
          let z = root in
          let e = is (input_name g) live in
          omega (arith, ints);
      after = λ k d lt. position_after (get_or (live_connections g) k d) (Contains-get_or (live_connections g) k d lt);
    }

    -- whose latency is the graph's
    pub ends_at_latency : p (output_name g) ≡ latency_of_graph g
    ends_at_latency =
        let e = is (output_name g) (output_live g sound) in
        let l = value_of_output in
        let r = reach_least g (depth g) sound (sound_is_ranked g sound) p is_alignment (output_name g) (live_test g sound (output_name g) (output_live g sound)) in
        omega (arith, ints)
