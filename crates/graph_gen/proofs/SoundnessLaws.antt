-- Every generated graph is sound.
use Rattle.std.proofs.Common.{◌≡◌, ℕ, zero, suc, ◌+◌, ◌-◌, ◌*◌, ◌^◌, ◌<◌, ◌≤◌, ◌==◌, List, ◌∷◌, ◌++◌, length, map, take, get_or, Bool, true, false, cond, not, Option, Some, None, inl, inr, refl, sym, ap, subst, ◌∙◌, length-append, arith}
use Rattle.std.specs.Prelude.{◌≢◌, AllPairs, is_some, sum_by, count_by}
use Rattle.std.specs.List.{All, Contains, find, list_any, range_with_len}
use Rattle.std.proofs.Math.Nat.{mul-le-mul, mul-le-mul_right}
use Rattle.std.proofs.lemmas.Bool.{cases_lt, cases_eq, eqb-true}
use Rattle.std.proofs.lemmas.List.{get_or-take, get_or_default, get_or_past, length-take}
use Rattle.std.proofs.lemmas.List.Elements.{All-nil, All-cons, All-append, All-weaker, All-replicate, All-map, All-contains, recursion_from_All}
use Rattle.std.proofs.lemmas.List.Kept.{AllPairs-cons}
use Rattle.std.proofs.lemmas.List.Sums.{sum_by-cons, sum_by-le, length-filter, count_by-le-length}
use Rattle.graph_model.specs.Kinds.{ins_of, outs_of, latency_of, cells_of}
use Rattle.graph_model.specs.Members.{bad_member}
use Rattle.graph_model.specs.Graphs.{IsRanked, IsNode, node_named, or_zero, ins_at, outs_at, latency_at, connections_to, is_input, is_output}
use Rattle.graph_model.specs.Paths.{live_connections, latency_of_graph, is_live}
use Rattle.graph_model.specs.Checks.{AreConnections}
use Rattle.graph_model.specs.Bounds.{bounds, bounds_within, in_bounds, given_bounds, IsBounded}
use Rattle.graph_model.specs.Sound.{IsSound}
use Rattle.graph_model.specs.declared.kind.Kind.{Kind}
use Rattle.graph_model.specs.declared.kind.Kind.TheVariants.{Input, Output}
use Rattle.graph_model.specs.declared.graph.Uid.{Uid}
use Rattle.graph_model.specs.declared.graph.Node.{Node}
use Rattle.graph_model.specs.declared.graph.Connection.{Connection}
use Rattle.graph_model.specs.declared.graph.Graph.{Graph}
use Rattle.graph_model.proofs.CommonFacts.{not_same}
use Rattle.graph_model.proofs.RangeLaws.{ranges_are_tested}
use Rattle.graph_model.proofs.RankLaws.{ranked_is_acyclic, node_in}
use Rattle.graph_model.proofs.ReachLaws.{reach_below}
use Rattle.graph_model.proofs.NodeFacts.{find-all}
use Rattle.graph_gen.specs.Generated.{node_of, sources, nodes_drawn, connections_drawn, ending, unread}
use Rattle.graph_gen.specs.Laws.{GeneratedIsSound, GeneratedIsAsWanted}
use Rattle.graph_gen.proofs.KindFacts.{IsTame, IsGentle}
use Rattle.graph_gen.proofs.SourceFacts.{IsFrom, IsOnward, IsEnding, all_onward, all_pairs, few_drawn, all_endings, endings_differ, few_endings}
use Rattle.graph_gen.proofs.LookUpFacts.{IsDrawn, all_drawn, length-drawn, other_uids, uids_differ, drawn_there, leads_to, none_kept, few_sources}

-- ---- lists
at_most : (b : ℕ) (bs : List ℕ) (k : ℕ) → All (λ n. n ≤ b) bs → get_or bs k 0 ≤ b
at_most b bs k all =
    elim (cases_lt k (length bs)) [
      | inl here ↦ all k 0 here
      | inr past ↦ (let none = get_or_past bs k 0 past in omega arith)
    ]

-- of a list without equals no item stands before its place
not_before : (cs : List Connection) (k : ℕ) (d : Connection) → AllPairs (λ a b. a ≢ b) cs → k < length cs → Contains (take k cs) (get_or cs k d) → ⊥
not_before cs k d pairs lt (j, within, at) =
    let x : Connection = get_or cs k d in
    let count = length-take k cs in
    let early : j < k = omega arith in
    pairs j k x early lt (sym (get_or-take k cs j x early) ∙ at ∙ get_or_default cs k d x lt)

-- ---- the graph of some drawn nodes, with connections to its output node
abbrev input : Node
input = node_of 1 (Input 2)

abbrev output : Node
output = node_of 2 (Output 2)

module _ (seed n : ℕ) (tail : List Connection) (few : n ≤ 510) (endings : All (IsEnding (3 + n)) tail) (differ : AllPairs (λ c d. c ≢ d) tail) (short : length tail ≤ n) where
  abbrev g : Graph
  g = record { nodes = input ∷ output ∷ nodes_drawn seed 3 n; connections = connections_drawn seed 3 n ++ tail }

  to_output : All (λ c. c.dst.0 ≡ 2) tail
  to_output = All-weaker (IsEnding (3 + n)) (λ c. c.dst.0 ≡ 2) (λ c e. e.output) tail endings

  drawn : All (IsDrawn 3 (3 + n)) (nodes_drawn seed 3 n)
  drawn = all_drawn seed 3 n (3 + n) (omega arith)

  count : length g.nodes ≡ 2 + n
  count = let e = length-drawn seed 3 n in omega arith

  few_connections : length g.connections ≤ 1530
  few_connections = let w = few_drawn seed 3 n in omega (arith, length-append (connections_drawn seed 3 n) tail)

  -- ---- nodes by name
  named : (v : ℕ) → 3 ≤ v → v < 3 + n → (kind : Kind) × IsTame kind × (node_named g v ≡ Some (node_of v kind))
  named v low high =
      let there = drawn_there seed 3 n v low high in (
        there.0,
        there.1,
        ap (λ t. cond t (Some input) (cond (2 == v) (Some output) (find-drawn v))) (not_same 1 v (λ e. absurd (omega arith)))
            ∙ ap (λ t. cond t (Some output) (find-drawn v)) (not_same 2 v (λ e. absurd (omega arith))) ∙ there.2,
      )
    where
      find-drawn : ℕ → Option Node
      find-drawn v = find (λ m. m.uid.0 == v) (nodes_drawn seed 3 n)

  -- ---- ranks: the output node is last
  rank : ℕ → ℕ
  rank v = cond (v == 2) (n + 1) (v - 2)

  rank_other : (v : ℕ) → (v ≡ 2 → ⊥) → rank v ≡ v - 2
  unfolding rank
  rank_other v other = ap (λ t. cond t (n + 1) (v - 2)) (not_same v 2 other)

  rank_output : rank 2 ≡ n + 1
  unfolding rank
  rank_output = refl

  -- ---- the ends of each connection
  record HasEnds (c : Connection) : Type 0 where
    source_exists : IsNode g c.src.0
    destination_exists : IsNode g c.dst.0
    other : c.src ≢ c.dst
    source_channel : c.src_channel < outs_at g c.src.0
    destination_channel : c.dst_channel < ins_at g c.dst.0
    rises : rank c.src.0 < rank c.dst.0
    soon : latency_at g c.src.0 ≤ 63

  record IsSource (v channel : ℕ) : Type 0 where
    exists : IsNode g v
    has : channel < outs_at g v
    soon : latency_at g v ≤ 63
    ranked : rank v ≡ v - 2
    below : v < 3 + n
    other : v ≢ 2

  from_one : (channel : ℕ) → channel < 2 → IsSource 1 channel
  from_one channel within = record {
    exists = refl;
    has = within;
    soon = omega arith;
    ranked = rank_other 1 (λ e. absurd (omega arith));
    below = omega arith;
    other = λ e. absurd (omega arith);
  }

  from_later : (v channel : ℕ) → 3 ≤ v → v < 3 + n → channel ≡ 0 → IsSource v channel
  from_later v channel low high first =
      let there = named v low high in
      let outs = ap (or_zero outs_of) there.2 ∙ there.1.one_out in
      let late = ap (or_zero latency_of) there.2 in
      let soon = there.1.soon in
      record {
        exists = ap is_some there.2;
        has = omega arith;
        soon = omega arith;
        ranked = rank_other v (λ e. absurd (omega arith));
        below = high;
        other = λ e. absurd (omega arith);
      }

  source_of : (c : Connection) → IsFrom (3 + n) c → IsSource c.src.0 c.src_channel
  source_of c from =
      elim from [
        | inl one ↦ subst (λ v. IsSource v c.src_channel) (sym one.0) (from_one c.src_channel one.1)
        | inr later ↦ from_later c.src.0 c.src_channel later.0 later.1 later.2
      ]

  ends_of_onward : (c : Connection) → IsOnward 3 (3 + n) c → HasEnds c
  ends_of_onward c on =
      let source = source_of c on.source in
      let there = named c.dst.0 on.from on.below in
      let ins = ap (or_zero ins_of) there.2 ∙ there.1.one_in in
      let first = on.channel in
      let up = on.rises in
      let low = on.from in
      let from = source.ranked in
      let to = rank_other c.dst.0 (λ e. absurd (omega arith)) in
      let other = source.other in
      record {
        source_exists = source.exists;
        destination_exists = ap is_some there.2;
        other = λ e. let same : c.src.0 ≡ c.dst.0 = ap (λ (u : Uid). u.0) e in absurd (omega arith);
        source_channel = source.has;
        destination_channel = omega arith;
        rises = omega arith;
        soon = source.soon;
      }

  ends_of_ending : (c : Connection) → IsEnding (3 + n) c → HasEnds c
  ends_of_ending c ending =
      let source = from_later c.src.0 c.src_channel ending.late ending.below ending.source in
      let from = source.ranked in
      let below = source.below in
      let late = ending.late in
      let to : rank c.dst.0 ≡ n + 1 = ap rank ending.output ∙ rank_output in
      let at = ending.output in
      record {
        source_exists = source.exists;
        destination_exists = subst (IsNode g) (sym ending.output) refl;
        other = λ e. let same : c.src.0 ≡ c.dst.0 = ap (λ (u : Uid). u.0) e in absurd (omega arith);
        source_channel = source.has;
        destination_channel = subst (λ v. c.dst_channel < ins_at g v) (sym ending.output) ending.channel;
        rises = omega arith;
        soon = source.soon;
      }

  all_ends : All HasEnds g.connections
  all_ends =
      All-append HasEnds (connections_drawn seed 3 n) tail
      (All-weaker (IsOnward 3 (3 + n)) HasEnds ends_of_onward (connections_drawn seed 3 n) (all_onward seed 3 n (3 + n) (omega arith) (omega arith)))
      (All-weaker (IsEnding (3 + n)) HasEnds ends_of_ending tail endings)

  -- ---- the shape
  connected : AreConnections g (length g.connections)
  connected k d lt =
      let ends = all_ends k d lt in
      record {
        source_exists = ends.source_exists;
        destination_exists = ends.destination_exists;
        nodes_differ = ends.other;
        source_channel = ends.source_channel;
        destination_channel = ends.destination_channel;
        new = not_before g.connections k d (all_pairs seed 3 n tail (omega arith) to_output differ) lt;
      }

  below : All (λ m. m.uid.0 < 3 + n) g.nodes
  below =
      All-cons (λ m. m.uid.0 < 3 + n) input (output ∷ nodes_drawn seed 3 n) (omega arith)
      (All-cons (λ m. m.uid.0 < 3 + n) output (nodes_drawn seed 3 n) (omega arith)
      (All-weaker (IsDrawn 3 (3 + n)) (λ m. m.uid.0 < 3 + n) (λ m d. d.below) (nodes_drawn seed 3 n) drawn))

  ranked : IsRanked rank g
  ranked = record {
    nodes = All-weaker HasEnds (λ c. IsNode g c.src.0 × IsNode g c.dst.0) (λ c e. (e.source_exists, e.destination_exists)) g.connections all_ends;
    rises = All-weaker HasEnds (λ c. rank c.src.0 < rank c.dst.0) (λ c e. e.rises) g.connections all_ends;
    below = λ v node.
        let low : v < 3 + n = All-contains (λ w. w < 3 + n) (map (λ m. m.uid.0) g.nodes) v (All-map (λ w. w < 3 + n) (λ m. m.uid.0) g.nodes below) (node_in v g.nodes node) in
        let all = count in
        elim (cases_eq v 2) [
          | inl two ↦ (let e = ap rank two ∙ rank_output in omega arith)
          | inr other ↦ (let e = rank_other v other in omega arith)
        ];
  }

  differing : AllPairs (λ m k. m.uid ≢ k.uid) g.nodes
  differing =
      AllPairs-cons (λ m k. m.uid ≢ k.uid) input (output ∷ nodes_drawn seed 3 n)
      (other_uids input (output ∷ nodes_drawn seed 3 n) (All-cons (λ m. 1 < m.uid.0) output (nodes_drawn seed 3 n) (omega arith)
      (All-weaker (IsDrawn 3 (3 + n)) (λ m. 1 < m.uid.0) (λ m d. let l = d.from in omega arith) (nodes_drawn seed 3 n) drawn)))
      (AllPairs-cons (λ m k. m.uid ≢ k.uid) output (nodes_drawn seed 3 n)
      (other_uids output (nodes_drawn seed 3 n) (All-weaker (IsDrawn 3 (3 + n)) (λ m. 2 < m.uid.0) (λ m d. let l = d.from in omega arith) (nodes_drawn seed 3 n) drawn))
      (uids_differ seed 3 n))

  in_range : All (λ m. bad_member m ≡ None) g.nodes
  in_range =
      All-cons (λ m. bad_member m ≡ None) input (output ∷ nodes_drawn seed 3 n) refl
      (All-cons (λ m. bad_member m ≡ None) output (nodes_drawn seed 3 n) refl
      (All-weaker (IsDrawn 3 (3 + n)) (λ m. bad_member m ≡ None)
      (λ m d. let low = d.from in let high = d.below in (ranges_are_tested m).1 ((omega arith, omega arith), d.tame.range)) (nodes_drawn seed 3 n) drawn))

  only : (p : Kind → Bool) → ((kind : Kind) → IsTame kind → p kind ≡ false) → count_by (λ m. p m.kind) (nodes_drawn seed 3 n) ≡ 0
  only p none =
      sym (length-filter (λ m. p m.kind) (nodes_drawn seed 3 n))
      ∙ none_kept (λ m. p m.kind) (nodes_drawn seed 3 n)
      (All-weaker (IsDrawn 3 (3 + n)) (λ m. p m.kind ≡ false) (λ m d. none m.kind d.tame) (nodes_drawn seed 3 n) drawn)

  one_each : (count_by (λ m. is_input m.kind) g.nodes ≡ 1) × (count_by (λ m. is_output m.kind) g.nodes ≡ 1)
  one_each = (
    let none = only is_input (λ kind tame. tame.no_input) in
        let first = sum_by-cons (λ m. cond (is_input m.kind) 1 0) input (output ∷ nodes_drawn seed 3 n) in
        let second = sum_by-cons (λ m. cond (is_input m.kind) 1 0) output (nodes_drawn seed 3 n) in
        omega arith,
    let none = only is_output (λ kind tame. tame.no_output) in
        let first = sum_by-cons (λ m. cond (is_output m.kind) 1 0) input (output ∷ nodes_drawn seed 3 n) in
        let second = sum_by-cons (λ m. cond (is_output m.kind) 1 0) output (nodes_drawn seed 3 n) in
        omega arith,
  )

  -- ---- few delays, and few cells
  soon : latency_of_graph g ≤ 63 * (n + 1)
  soon =
      let below = reach_below g (λ _. true) (λ v. 63 * rank v)
      (All-weaker HasEnds (λ c. true ≡ true → (true ≡ true) × (63 * rank c.src.0 + latency_at g c.src.0 ≤ 63 * rank c.dst.0))
      (λ c e _. (refl, (let up = e.rises in let l = e.soon in omega arith))) g.connections all_ends)
      (length g.nodes) 2 refl in
      let last = rank_output in
      omega arith

  few_delays : length (live_connections g) * latency_of_graph g ≤ 2 ^ 26
  few_delays =
      let live : length (live_connections g) ≤ 1530
      = (let kept = length-filter (λ c. is_live g c.dst.0) g.connections in
      let all = count_by-le-length (λ c. is_live g c.dst.0) g.connections in
      let most = few_connections in
      omega arith) in
      let late : latency_of_graph g ≤ 32193 = (let l = soon in omega arith) in
      let product : length (live_connections g) * latency_of_graph g ≤ 1530 * 32193 = mul-le-mul live late in
      omega arith

  few_cells : sum_by (λ m. cells_of m.kind) g.nodes ≤ 2 ^ 25
  few_cells =
      let all = sum_by-le (λ m. cells_of m.kind) 100 g.nodes
      (All-cons (λ m. cells_of m.kind ≤ 100) input (output ∷ nodes_drawn seed 3 n) (omega arith)
      (All-cons (λ m. cells_of m.kind ≤ 100) output (nodes_drawn seed 3 n) (omega arith)
      (All-weaker (IsDrawn 3 (3 + n)) (λ m. cells_of m.kind ≤ 100) (λ m d. d.tame.small) (nodes_drawn seed 3 n) drawn))) in
      let most = count in
      omega arith

  -- ---- headroom
  -- nothing larger than 2 ^ 32 goes out of a node if nothing larger comes from its sources
  record IsPlain (m : Node) : Type 0 where
    fan : ℕ
    few_sources : (channel : ℕ) → length (connections_to g m.uid.0 channel) ≤ fan
    gentle : IsGentle m.kind fan

  kept_few : (v channel : ℕ) → length (connections_to g v channel) ≤ 1530
  kept_few v channel =
      let kept = length-filter (leads_to v channel) g.connections in
      let all = count_by-le-length (leads_to v channel) g.connections in
      let most = few_connections in
      omega arith

  plain : All IsPlain g.nodes
  plain =
      All-cons IsPlain input (output ∷ nodes_drawn seed 3 n)
      (record { fan = 1530; few_sources = kept_few 1; gentle = λ bs h. All-replicate (λ b. b ≤ 2 ^ 32) 2 (2 ^ 31) (omega arith) })
      (All-cons IsPlain output (nodes_drawn seed 3 n)
      (record { fan = 1530; few_sources = kept_few 2; gentle = λ bs h. All-nil (λ b. b ≤ 2 ^ 32) })
      (λ k d lt.
      let few = few_sources seed 3 n tail (omega arith) to_output k d lt in
      let kind = drawn k d lt in
      record { fan = sources (get_or (nodes_drawn seed 3 n) k d).kind; few_sources = few.few; gentle = kind.tame.gentle }))

  ins_small : (v fan : ℕ) (outs : ℕ → List ℕ) → ((u : ℕ) → All (λ b. b ≤ 2 ^ 32) (outs u)) → ((channel : ℕ) → length (connections_to g v channel) ≤ fan)
      → All (λ b. b ≤ fan * 2 ^ 32) (in_bounds g outs v)
  ins_small v fan outs small few =
      All-map (λ b. b ≤ fan * 2 ^ 32) (λ d. sum_by (λ c. get_or (outs c.src.0) c.src_channel 0) (connections_to g v d)) (range_with_len 0 (ins_at g v))
      (λ k e lt.
      let d : ℕ = get_or (range_with_len 0 (ins_at g v)) k e in
      let sum = sum_by-le (λ c. get_or (outs c.src.0) c.src_channel 0) (2 ^ 32) (connections_to g v d)
      (λ j x l. at_most (2 ^ 32) (outs (get_or (connections_to g v d) j x).src.0) (get_or (connections_to g v d) j x).src_channel (small (get_or (connections_to g v d) j x).src.0)) in
      let product = mul-le-mul_right (2 ^ 32) (few d) in
      omega arith)

  outs_small : (k v : ℕ) → All (λ b. b ≤ 2 ^ 32) (bounds_within g k v)
  unfolding bounds_within
  outs_small zero v = All-nil (λ b. b ≤ 2 ^ 32)
  outs_small (suc k) v =
      elim (node_named g v) as (λ o. node_named g v ≡ o → All (λ b. b ≤ 2 ^ 32) (given_bounds o (in_bounds g (bounds_within g k) v))) [
        | None ↦ λ e. All-nil (λ b. b ≤ 2 ^ 32)
        | Some m ↦ λ e.
            (let found = find-all (λ m. m.uid.0 == v) IsPlain g.nodes m (recursion_from_All IsPlain g.nodes plain) e in
            let is : m.uid.0 ≡ v = eqb-true m.uid.0 v found.1 in
            found.0.gentle (in_bounds g (bounds_within g k) v)
            (ins_small v found.0.fan (bounds_within g k) (outs_small k) (subst (λ w. (channel : ℕ) → length (connections_to g w channel) ≤ found.0.fan) is found.0.few_sources)))
      ] refl

  bounded : All (λ m. IsBounded (bounds g m.uid.0)) g.nodes
  bounded = λ k d lt.
      let v : ℕ = (get_or g.nodes k d).uid.0 in (
        All-weaker (λ b. b ≤ 1530 * 2 ^ 32) (λ b. b ≤ 2 ^ 46) (λ b l. omega arith) (bounds g v).ins
            (ins_small v 1530 (bounds_within g (length g.nodes)) (outs_small (length g.nodes)) (kept_few v)),
        All-weaker (λ b. b ≤ 2 ^ 32) (λ b. b ≤ 2 ^ 46) (λ b l. omega arith) (bounds g v).outs (outs_small (length g.nodes) v),
      )

  pub sound : IsSound g
  sound = record {
    fits = ((let c = count in omega arith), (let c = few_connections in omega arith));
    shaped = record {
      uids_differ = differing;
      in_range = in_range;
      ends = one_each;
      connections = connected;
      acyclic = ranked_is_acyclic g rank ranked;
    };
    few_delays = few_delays;
    few_cells = few_cells;
    headroom = bounded;
  }

pub generated_is_sound : GeneratedIsSound
generated_is_sound seed nodes some most =
    let unread_by : ℕ → Bool = λ i. not (list_any (λ c. c.src.0 == i) (connections_drawn seed 3 (nodes - 2))) in
    sound seed (nodes - 2) (map ending (unread (connections_drawn seed 3 (nodes - 2)) nodes)) (omega arith)
    (all_endings unread_by (nodes - 2)) (endings_differ unread_by (nodes - 2)) (few_endings unread_by (nodes - 2))

pub generated_is_as_wanted : GeneratedIsAsWanted
generated_is_as_wanted seed nodes some = ((let e = length-drawn seed 3 (nodes - 2) in omega arith), refl, refl)
