-- Where the nodes stand.
use Rattle.std.proofs.Common.{◌≡◌, ℕ, ◌+◌, ◌<◌, ◌≤◌, List, [], ◌∷◌, ◌++◌, length, get_or, sym, ◌∙◌, ap, subst, arith, inl, inr}
use Rattle.std.specs.List.{Contains}
use Rattle.std.proofs.lemmas.Bool.{cases_lt}
use Rattle.std.proofs.lemmas.List.{get_or_append_left, get_or_push, length_push}
use Rattle.std.proofs.lemmas.List.Elements.{All-contains, Contains-get_or}
use Rattle.graph_model.specs.Graphs.{IsNode, input_name, output_name, latency_at}
use Rattle.graph_model.specs.Paths.{is_live, live_connections, reach, depth}
use Rattle.graph_model.specs.Sound.{IsSound}
use Rattle.graph_model.proofs.RankLaws.{nodes_exist, sound_is_ranked}
use Rattle.graph_model.proofs.ReachLaws.{filter_from, reach_after}
use Rattle.graph_model.specs.declared.graph.Connection.{Connection}
use Rattle.graph_model.specs.declared.graph.Graph.{Graph}
use Rattle.plan_model.specs.Alignments.{IsAlignment}
use Rattle.graph_model.specs.Named.{uid_at}
use Rattle.renderer.specs.Positions.{position_at, AreAligned}
use Rattle.graph_model.proofs.NameFacts.{any_node, first_place, index_of}
use Rattle.graph_model.proofs.NodeFacts.{named, at_input, input_reach, output_is_node}

-- the first k nodes have the positions p
pub record AreListed (g : Graph) (p : ℕ → ℕ) (k : ℕ) (ps : List ℕ) : Type 0 where
  pub count : length ps ≡ k
  pub each : (i : ℕ) → i < k → get_or ps i 0 ≡ p (uid_at g i)

pub listed_more : (g : Graph) (p : ℕ → ℕ) (k : ℕ) (ps new : List ℕ) (x : ℕ) → AreListed g p k ps → x ≡ p (uid_at g k) → new ≡ ps ++ x ∷ [] → AreListed g p (k + 1) new
listed_more g p k ps new x listed is e = subst (AreListed g p (k + 1)) (sym e) (record {
  count = length_push ps x ∙ ap (λ m. m + 1) listed.count;
  each = λ i l.
      elim (cases_lt i (length ps)) [
        | inl before ↦ get_or_append_left ps (x ∷ []) 0 i before ∙ listed.each i (let n = listed.count in omega arith)
        | inr past ↦
            (let last : length ps ≡ i = (let n = listed.count in omega arith) in
            get_or_push ps x 0 i last ∙ is ∙ ap (λ j. p (uid_at g j)) (sym listed.count ∙ last))
      ];
})

module _ (g : Graph) (sound : IsSound g) where
  -- the position of the node at an index
  pub position_is : (ps : List ℕ) (i : ℕ) → i < length g.nodes → position_at g ps (uid_at g i) ≡ get_or ps i 0
  position_is ps i lt = ap (λ k. get_or ps k 0) (first_place g (named g sound) i any_node lt)

  -- the positions of all nodes, in the order of the list
  module _ (p : ℕ → ℕ) (ps : List ℕ) (listed : AreListed g p (length g.nodes) ps) where
    at_node : (v : ℕ) → IsNode g v → position_at g ps v ≡ p v
    at_node v node =
        let at = index_of g v node in
        ap (position_at g ps) (sym at.2) ∙ position_is ps at.0 at.1 ∙ listed.each at.0 at.1 ∙ ap p at.2

    after : IsAlignment g p → (c : Connection) → Contains (live_connections g) c → p c.src.0 + latency_at g c.src.0 ≤ p c.dst.0
        → position_at g ps c.src.0 + latency_at g c.src.0 ≤ position_at g ps c.dst.0
    after al c has le =
        let kept = filter_from (λ d. is_live g d.dst.0) g.connections c has in
        let ends = All-contains (λ d. IsNode g d.src.0 × IsNode g d.dst.0) g.connections c (nodes_exist g sound.shaped) kept.0 in
        let a = at_node c.src.0 ends.0 in
        let b = at_node c.dst.0 ends.1 in
        omega arith

    pub aligned : IsAlignment g p → AreAligned g p ps
    aligned al = record {
      count = listed.count;
      alignment = record {
        input = λ live. at_node (input_name g) (at_input g sound).0 ∙ al.input live;
        after = λ k d lt. after al (get_or (live_connections g) k d) (Contains-get_or (live_connections g) k d lt) (al.after k d lt);
      };
      output = at_node (output_name g) (output_is_node g sound);
    }

  -- the reaches are an alignment
  pub reach_is : IsAlignment g (reach g)
  reach_is = record {
    input = λ live. input_reach g sound;
    after = λ k d lt.
        let kept = filter_from (λ d. is_live g d.dst.0) g.connections (get_or (live_connections g) k d) (Contains-get_or (live_connections g) k d lt) in
        reach_after g (depth g) (sound_is_ranked g sound) (get_or (live_connections g) k d) kept.0;
  }
