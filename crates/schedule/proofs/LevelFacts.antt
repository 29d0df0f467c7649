-- Levels are the schedule by waves.
use Rattle.std.proofs.Common.{◌≡◌, ℕ, zero, suc, ◌+◌, ◌<◌, ◌≤◌, ◌==◌, List, [], ◌∷◌, length, map, take, get_or, slice_index, refl, sym, ap, subst, ◌∙◌, arith, true, false, cond, filter, All, Contains, ⊎_elim, inl, inr, Some, IsPermutation}
use Rattle.std.specs.Prelude.{slice_get}
use Rattle.std.specs.List.{flat_map, AllByRecursion}
use Rattle.std.specs.List.Sorted.{IsStrictlyIncreasing, IsNonDecreasingBy}
use Rattle.std.proofs.lemmas.Bool.{eqb-true, cases_eq, cases_order}
use Rattle.std.proofs.lemmas.List.{get_or-map, get_or-take, length-map, length-take}
use Rattle.std.proofs.lemmas.List.Elements.{All-contains, Contains-get_or, recursion_from_All}
use Rattle.std.proofs.lemmas.List.Kept.{IsStrictlyIncreasing-filter}
use Rattle.std.proofs.lemmas.List.Sorted.{All-permutation, Contains-permutation, IsPermutation-map, IsPermutation-sym}
use Rattle.std.proofs.lemmas.Option.{get_or_from_slice_get, slice_get-get_or, slice_get_within}
use Rattle.graph_model.specs.Graphs.{IsNode, IsJoined, output_name}
use Rattle.graph_model.specs.Paths.{IsPathTo, IsLive, is_live, live_nodes, live_connections, depth, IsDepth}
use Rattle.graph_model.specs.Sound.{IsSound}
use Rattle.graph_model.specs.declared.graph.Uid.{Uid}
use Rattle.graph_model.specs.declared.graph.Connection.{Connection}
use Rattle.graph_model.specs.declared.graph.Graph.{Graph}
use Rattle.graph_model.proofs.CommonFacts.{some_same}
use Rattle.graph_model.proofs.NodeFacts.{output_is_node}
use Rattle.graph_model.proofs.LiveLaws.{ends_live, live_by, output_is_live}
use Rattle.graph_model.proofs.PathLaws.{first_or_later, live_source, same_name}
use Rattle.graph_model.proofs.RankLaws.{depth_is_deepest, node_of, sound_is_ranked}
use Rattle.graph_model.proofs.ReachLaws.{filter_from, filter_has}
use Rattle.plan_model.specs.Places.{IsWaveAt}
use Rattle.plan_model.specs.Schedules.{IsSchedule, IsByWaves, names, wave_of}
use Rattle.plan_model.specs.declared.schedule.Wave.{Wave}
use Rattle.plan_model.proofs.CertifiedLaws.{stands_in}
use Rattle.plan_model.proofs.DistinctFacts.{Differ, differ_permuted}
use Rattle.plan_model.proofs.SavedLaws.{Contains-map}
use Rattle.plan_model.proofs.WaveLaws.{each_entry, first_with, in_any, in_earlier, kept, live_differ, waves_by_entries}
use Rattle.schedule.specs.Groups.{AreGroups, items_of}
use Rattle.schedule.specs.Levels.{AreByDepth}
use Rattle.schedule.specs.declared.groups.Entry.{Entry}

-- ---- nodes of each depth
module _ (g : Graph) (sound : IsSound g) where
  -- a node that is not first has a source that is one connection less deep
  source_before : (v n : ℕ) → IsNode g v → depth g v ≡ suc n → (u : ℕ) × IsJoined g u v × (depth g u ≡ n)
  source_before v n node is = go (depth_is_deepest g sound.shaped v node).reached
    where
      go : (us : List ℕ) × IsPathTo g v us × (length us ≡ depth g v) → (u : ℕ) × IsJoined g u v × (depth g u ≡ n)
      go ([], path, long) = absurd (omega (arith, long, is))
      go (u ∷ us, path, long) =
          let j = path.1 in
          let most = (depth_is_deepest g sound.shaped u (node_of g u us path.2)).most us path.2 in
          let rises = All-contains (λ c. depth g c.src.0 < depth g c.dst.0) g.connections j.0 (sound_is_ranked g sound).rises j.1 in
          let src = ap (depth g) j.2 in
          let dst = ap (depth g) j.3 in
          (u, path.1, omega (arith, long, is))

  -- so there are live nodes of each depth up to a live node's
  inhabited : (n k v : ℕ) → IsNode g v → depth g v ≡ n → is_live g v ≡ true → k ≤ n → (u : ℕ) × (is_live g u ≡ true) × (depth g u ≡ k)
  inhabited zero k v node is live le = (v, live, omega arith)
  inhabited (suc n) k v node is live le =
      elim (cases_eq k (suc n)) [
        | inl same ↦ (v, live, is ∙ sym same)
        | inr other ↦
            (let before = source_before v n node is in
            let j = before.1 in
            let exist = All-contains (λ c. IsNode g c.src.0 × IsNode g c.dst.0) g.connections j.0 (sound_is_ranked g sound).nodes j.1 in
            let goes_on = live_source g (depth g) (sound_is_ranked g sound) j.0 j.1 (ap (is_live g) j.3 ∙ live) in
            inhabited n k before.0 (subst (IsNode g) j.2 exist.0) before.2 (ap (is_live g) (sym j.2) ∙ goes_on) (omega arith))
      ]

  -- what stands on a path is a node, and no deeper than its end
  on_path : (w : ℕ) (us : List ℕ) (v : ℕ) → IsPathTo g w us → Contains (w ∷ us) v → IsNode g v × (depth g v ≤ depth g w)
  on_path w [] v path has =
      elim (first_or_later w v [] has) [
        | inl same ↦ (let e = ap (depth g) same in (subst (IsNode g) same path, omega arith))
        | inr there ↦ (let l = there.1 in absurd (omega arith))
      ]
  on_path w (u ∷ us) v path has =
      elim (first_or_later w v (u ∷ us) has) [
        | inl same ↦ (let e = ap (depth g) same in (subst (IsNode g) same path.0, omega arith))
        | inr there ↦
            (let j = path.1 in
            let rises = All-contains (λ c. depth g c.src.0 < depth g c.dst.0) g.connections j.0 (sound_is_ranked g sound).rises j.1 in
            let src = ap (depth g) j.2 in
            let dst = ap (depth g) j.3 in
            let rest = on_path u us v path.2 there in
            let below = rest.1 in
            (rest.0, omega arith))
      ]

  -- no live node is deeper than the output node
  pub live_within : (v : ℕ) → IsLive g v → IsNode g v × (depth g v ≤ depth g (output_name g))
  live_within v live = on_path (output_name g) live.0 v live.1 live.2

-- ---- the live nodes, sorted
-- a list that never falls and has no item twice rises
rising_from : (xs : List ℕ) → Differ xs → IsNonDecreasingBy (λ x. x) xs → IsStrictlyIncreasing xs
rising_from [] differ sorted k lt = absurd (omega arith)
rising_from (x ∷ xs) differ sorted zero lt =
    let le : x ≤ slice_index xs 0 = sorted 0 1 0 (omega arith) lt in
    let apart : x ≡ slice_index xs 0 → ⊥ = λ e. differ.0 (subst (Contains xs) (sym e) (Contains-get_or xs 0 0 (omega arith))) in
    ⊎_elim (λ e. absurd (apart e)) (λ o. ⊎_elim (λ l. l) (λ l. absurd (omega (arith, l, le))) o) (cases_order x (slice_index xs 0))
rising_from (x ∷ xs) differ sorted (suc k) lt =
    let next : suc k + 1 ≡ suc (k + 1) = omega arith in
    rw next (rising_from xs differ.1 (λ i j d le l. sorted (suc i) (suc j) d (omega arith) (omega arith)) k (omega arith))

sorted_names : (es : List (Entry Uid)) → IsNonDecreasingBy (λ (e : Entry Uid). e.item.0) es → IsNonDecreasingBy (λ x. x) (map (λ (e : Entry Uid). e.item.0) es)
sorted_names es sorted i j d le lt =
    let lj : j < length es = omega (arith, length-map es (λ (e : Entry Uid). e.item.0)) in
    let none : Entry Uid = record { group = 0; item = record { 0 = d } } in
    rw (get_or-map (λ (e : Entry Uid). e.item.0) es i (record { group = 0; item = record { 0 = d } }) d (omega arith), get_or-map (λ (e : Entry Uid). e.item.0) es j (record { group = 0; item = record { 0 = d } }) d lj)
    (sorted i j (record { group = 0; item = record { 0 = d } }) le lj)

pub by_depth : (g : Graph) → IsSound g → (found sorted : List (Entry Uid)) → map (λ (e : Entry Uid). e.item.0) found ≡ live_nodes g
    → All (λ (e : Entry Uid). e.group ≡ depth g e.item.0) found → IsPermutation found sorted → IsNonDecreasingBy (λ (e : Entry Uid). e.item.0) sorted → AreByDepth g sorted
by_depth g sound found sorted all deep moved rises = record {
  live = live;
  rising = rising_from (map (λ (e : Entry Uid). e.item.0) sorted) (differ_permuted (live_nodes g) (map (λ (e : Entry Uid). e.item.0) sorted) live (live_differ g sound [])) (sorted_names sorted rises);
  deep = All-permutation (λ (e : Entry Uid). e.group ≡ depth g e.item.0) found sorted moved deep;
}
  where
    live : IsPermutation (live_nodes g) (map (λ (e : Entry Uid). e.item.0) sorted)
    live = subst (λ vs. IsPermutation vs (map (λ (e : Entry Uid). e.item.0) sorted)) all (IsPermutation-map (λ (e : Entry Uid). e.item.0) found sorted moved)

-- each is in the group of a depth up to the output node's
pub groups_within : (g : Graph) → IsSound g → (es : List (Entry Uid)) → AreByDepth g es → All (λ (e : Entry Uid). e.group < suc (depth g (output_name g))) es
groups_within g sound es by = each_entry (λ (e : Entry Uid). e.group < suc (depth g (output_name g))) es (λ e has. below e (Contains-map (λ (x : Entry Uid). x.item.0) es e has)
    (All-contains (λ (x : Entry Uid). x.group ≡ depth g x.item.0) es e by.deep has))
  where
    below : (e : Entry Uid) → Contains (map (λ (x : Entry Uid). x.item.0) es) e.item.0 → e.group ≡ depth g e.item.0 → e.group < suc (depth g (output_name g))
    below e has deep =
        let among = Contains-permutation (map (λ (x : Entry Uid). x.item.0) es) (live_nodes g) e.item.0 (IsPermutation-sym (live_nodes g) (map (λ (x : Entry Uid). x.item.0) es) by.live) has in
        let live = live_by g sound e.item.0 (filter_from (is_live g) (map (λ n. n.uid.0) g.nodes) e.item.0 among).1 in
        let within = live_within g sound e.item.0 live in
        omega (arith, within.1)

-- ---- the levels
-- the names of a level are those of its depth
names_at : (g : Graph) (k : ℕ) (es : List (Entry Uid)) → AllByRecursion (λ (e : Entry Uid). e.group ≡ depth g e.item.0) es
    → map (λ (u : Uid). u.0) (items_of es k) ≡ filter (λ v. depth g v == k) (map (λ (e : Entry Uid). e.item.0) es)
names_at g k [] deep = refl
names_at g k (e ∷ es) deep =
    let rest = names_at g k es deep.1 in
    let test : (e.group == k) ≡ (depth g e.item.0 == k) = ap (λ n. n == k) deep.0 in
    elim (e.group == k) as (λ b. b ≡ (depth g e.item.0 == k) → map (λ (u : Uid). u.0) (map (λ (x : Entry Uid). x.item) (cond b (e ∷ filter (λ x. x.group == k) es) (filter (λ x. x.group == k) es)))
    ≡ filter (λ v. depth g v == k) (map (λ (x : Entry Uid). x.item.0) (e ∷ es))) [
      | true ↦ λ t. ap (λ vs. e.item.0 ∷ vs) rest ∙ ap (λ b. cond b (e.item.0 ∷ filter (λ v. depth g v == k) (map (λ (x : Entry Uid). x.item.0) es)) (filter (λ v. depth g v == k) (map (λ (x : Entry Uid). x.item.0) es))) t
      | false ↦ λ f. rest ∙ ap (λ b. cond b (e.item.0 ∷ filter (λ v. depth g v == k) (map (λ (x : Entry Uid). x.item.0) es)) (filter (λ v. depth g v == k) (map (λ (x : Entry Uid). x.item.0) es))) f
    ] test

module _ (g : Graph) (sound : IsSound g) (es : List (Entry Uid)) (by : AreByDepth g es) (waves : List Wave)
    (are : AreGroups (suc (depth g (output_name g))) es (map (λ (w : Wave). w.nodes) waves)) where
  abbrev no_wave : Wave
  no_wave = record { nodes = [] }

  abbrev vs : List ℕ
  vs = map (λ (e : Entry Uid). e.item.0) es

  count : length waves ≡ suc (depth g (output_name g))
  count = sym (length-map waves (λ (w : Wave). w.nodes)) ∙ are.count_is

  names_are : (k : ℕ) (w : Wave) → slice_get waves k ≡ Some w → names w ≡ filter (λ v. depth g v == k) vs
  names_are k w e =
      let lt = slice_get_within waves k w e in
      let at : w.nodes ≡ get_or (map (λ (x : Wave). x.nodes) waves) k [] = sym (get_or-map (λ (x : Wave). x.nodes) waves k w [] lt ∙ ap (λ (x : Wave). x.nodes) (get_or_from_slice_get waves k w w e)) in
      ap (map (λ (u : Uid). u.0)) (at ∙ are.each k (omega (arith, count))) ∙ names_at g k es (recursion_from_All (λ (x : Entry Uid). x.group ≡ depth g x.item.0) es by.deep)

  -- what stands in a wave is live, and the wave's index is its depth
  stands : (k : ℕ) (w : Wave) (v : ℕ) → slice_get waves k ≡ Some w → Contains (names w) v → IsLive g v × (depth g v ≡ k)
  stands k w v e has =
      let from = filter_from (λ u. depth g u == k) vs v (subst (λ us. Contains us v) (names_are k w e) has) in
      let among = Contains-permutation vs (live_nodes g) v (IsPermutation-sym (live_nodes g) vs by.live) from.0 in
      (live_by g sound v (filter_from (is_live g) (map (λ n. n.uid.0) g.nodes) v among).1, eqb-true (depth g v) k from.1)

  -- each live node stands in the wave of its depth
  found : (v : ℕ) → IsLive g v → (w : Wave) × (slice_get waves (depth g v) ≡ Some w) × Contains (names w) v
  found v live =
      let lt : depth g v < length waves = omega (arith, count, (live_within g sound v live).1) in
      let is = slice_get-get_or waves (depth g v) no_wave lt in
      let among = Contains-permutation (live_nodes g) vs v by.live (kept g sound waves v live) in (
        get_or waves (depth g v) no_wave,
        is,
        subst (λ us. Contains us v) (sym (names_are (depth g v) (get_or waves (depth g v) no_wave) is))
            (filter_has (λ u. depth g u == depth g v) vs v among (same_name (depth g v))),
      )

  at : (k : ℕ) → IsWaveAt g waves k
  at k = record {
    next = λ w e. record {
      filled = some_node w (one_there w e);
      rising = subst IsStrictlyIncreasing (sym (names_are k w e)) (IsStrictlyIncreasing-filter (λ v. depth g v == k) vs by.rising);
      live = each_entry (IsLive g) (names w) (λ v has. (stands k w v e has).0);
      fresh = each_entry (λ v. Contains (flat_map names (take k waves)) v → ⊥) (names w) (λ v has before. not_before_it v (stands k w v e has).1 before);
      ready = each_entry (λ c. Contains (names w) c.dst.0 → Contains (flat_map names (take k waves)) c.src.0) (live_connections g) (λ c has reads. comes_before c has (stands k w c.dst.0 e reads).1);
    };
    all = λ e v live. (let f = found v live in in_any waves (depth g v) f.0 v f.1 f.2);
  }
    where
      one_there : (w : Wave) → slice_get waves k ≡ Some w → (v : ℕ) × Contains (names w) v
      one_there w e =
          let lt = slice_get_within waves k w e in
          let some = inhabited g sound (depth g (output_name g)) k (output_name g) (output_is_node g sound) refl (output_is_live g sound) (omega (arith, count)) in
          let f = found some.0 (live_by g sound some.0 some.1) in
          let same : f.0 ≡ w = some_same (sym (ap (slice_get waves) (sym some.2) ∙ f.1) ∙ e) in
          (some.0, subst (λ x. Contains (names x) some.0) same f.2)

      some_node : (w : Wave) → (v : ℕ) × Contains (names w) v → 0 < length w.nodes
      some_node w (v, has) = let lt = has.1 in omega (arith, length-map w.nodes (λ (u : Uid). u.0))

      not_before_it : (v : ℕ) → depth g v ≡ k → Contains (flat_map names (take k waves)) v → ⊥
      not_before_it v deep before =
          let first = first_with (take k waves) v (stands_in v (take k waves) before) in
          let j = wave_of (take k waves) v in
          let there = slice_get_within (take k waves) (wave_of (take k waves) v) first.0 first.1 in
          let size = length-take k waves in
          let less : wave_of (take k waves) v < k = omega arith in
          let within : wave_of (take k waves) v < length waves = omega arith in
          let here : get_or waves (wave_of (take k waves) v) first.0 ≡ first.0
          = sym (get_or-take k waves (wave_of (take k waves) v) first.0 less) ∙ get_or_from_slice_get (take k waves) (wave_of (take k waves) v) first.0 first.0 first.1 in
          let is = stands (wave_of (take k waves) v) first.0 v (slice_get-get_or waves (wave_of (take k waves) v) first.0 within ∙ ap Some here) first.2 in
          absurd (omega (arith, is.1))

      comes_before : (c : Connection) → Contains (live_connections g) c → depth g c.dst.0 ≡ k → Contains (flat_map names (take k waves)) c.src.0
      comes_before c has deep =
          let from = filter_from (λ d. is_live g d.dst.0) g.connections c has in
          let rises = All-contains (λ d. depth g d.src.0 < depth g d.dst.0) g.connections c (sound_is_ranked g sound).rises from.0 in
          let f = found c.src.0 (ends_live g sound c has).0 in
          in_earlier waves (depth g c.src.0) k f.0 c.src.0 f.1 (omega arith) f.2

  is_schedule : IsSchedule g waves
  is_schedule = (waves_by_entries g waves sound).0 at

  -- the first wave with a live node is that of its depth
  wave_is : (v : ℕ) → IsLive g v → wave_of waves v ≡ depth g v
  wave_is v live =
      let f = found v live in
      let first = first_with waves v (stands_in v waves (in_any waves (depth g v) f.0 v f.1 f.2)) in
      sym (stands (wave_of waves v) first.0 v first.1 first.2).1

  pub are_by_waves : IsByWaves g waves
  are_by_waves = record {
    schedule = is_schedule;
    deepest = λ v live. subst (IsDepth g v) (sym (wave_is v live)) (depth_is_deepest g sound.shaped v (live_within g sound v live).0);
  }
