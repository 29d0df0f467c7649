-- The rule on waves holds where each wave may come after those before it.
use Rattle.std.proofs.Common.{◌≡◌, ◌≢◌, ℕ, zero, suc, ◌+◌, ◌<◌, ◌≤◌, ◌==◌, ◌||◌, ◌⊎◌, Bool, true, false, cond, not, List, [], ◌∷◌, ◌++◌, length, map, take, drop, get_or, inl, inr, refl, ap, sym, ◌∙◌, subst, arith, Some}
use Rattle.std.specs.Prelude.{slice_get, AllPairs}
use Rattle.std.specs.List.{All, Contains, flat_map, list_any}
use Rattle.std.specs.List.Sorted.{IsStrictlyIncreasing}
use Rattle.std.proofs.lemmas.Bool.{eqb-true}
use Rattle.std.proofs.lemmas.Grind.{flat_map-append}
use Rattle.std.proofs.lemmas.Option.{slice_get-get_or}
use Rattle.std.proofs.lemmas.List.{take-append-drop}
use Rattle.std.proofs.lemmas.List.Elements.{All-contains, Contains-append_cases, Contains-append_left, Contains-append_right, Contains-get_or}
use Rattle.std.proofs.lemmas.List.Sorted.{Contains-permutation, IsPermutation-sym}
use Rattle.graph_model.specs.Paths.{IsLive, is_live, live_nodes, live_connections}
use Rattle.graph_model.specs.Sound.{IsSound}
use Rattle.graph_model.specs.declared.graph.Uid.{Uid}
use Rattle.graph_model.specs.declared.graph.Node.{Node}
use Rattle.graph_model.specs.declared.graph.Connection.{Connection}
use Rattle.graph_model.specs.declared.graph.Graph.{Graph}
use Rattle.graph_model.proofs.PathLaws.{at_tail, first_or_later}
use Rattle.graph_model.proofs.LiveLaws.{live_by, live_test}
use Rattle.graph_model.proofs.ReachLaws.{filter_has, filter_from}
use Rattle.plan_model.specs.Schedules.{IsSchedule, names, wave_of}
use Rattle.plan_model.specs.Places.{IsNextWave, IsWaveAt, WavesByEntries}
use Rattle.plan_model.specs.declared.schedule.Wave.{Wave}
use Rattle.plan_model.proofs.CertifiedLaws.{in_wave, stands_in}
use Rattle.plan_model.proofs.DistinctFacts.{Differ, differ_append, differ_parts, differ_permuted, differ_rising, differ_filtered, permutes}
use Rattle.plan_model.proofs.ExampleTools.{names_of, listed}
use Rattle.plan_model.proofs.PlaceLaws.{has_item}

-- ---- which wave has a node
wave_with : (ws : List Wave) (v : ℕ) → Contains (flat_map names ws) v → (k : ℕ) × (w : Wave) × (slice_get ws k ≡ Some w) × Contains (names w) v
wave_with [] v has = let l = has.1 in absurd (omega arith)
wave_with (w ∷ ws) v has =
    elim (Contains-append_cases (names w) (flat_map names ws) v has) [
      | inl here ↦ (0, w, refl, here)
      | inr there ↦ (let r = wave_with ws v there in (suc r.0, r.1, r.2, r.3))
    ]

-- the waves before place k have the nodes of each of them, the waves from it on those of it
pub in_earlier : (ws : List Wave) (j k : ℕ) (w : Wave) (v : ℕ) → slice_get ws j ≡ Some w → j < k → Contains (names w) v → Contains (flat_map names (take k ws)) v
in_earlier [] j k w v e l has = absurd (cc)
in_earlier (x ∷ ws) j zero w v e l has = absurd (omega arith)
in_earlier (x ∷ ws) zero (suc k) w v e l has = let same : w ≡ x = cc in Contains-append_left (names x) (flat_map names (take k ws)) v (subst (λ y. Contains (names y) v) same has)
in_earlier (x ∷ ws) (suc j) (suc k) w v e l has = Contains-append_right (names x) (flat_map names (take k ws)) v (in_earlier ws j k w v e (omega arith) has)

in_later : (ws : List Wave) (k : ℕ) (w : Wave) (v : ℕ) → slice_get ws k ≡ Some w → Contains (names w) v → Contains (flat_map names (drop k ws)) v
in_later [] k w v e has = absurd (cc)
in_later (x ∷ ws) zero w v e has = let same : w ≡ x = cc in Contains-append_left (names x) (flat_map names ws) v (subst (λ y. Contains (names y) v) same has)
in_later (x ∷ ws) (suc k) w v e has = in_later ws k w v e has

pub in_any : (ws : List Wave) (k : ℕ) (w : Wave) (v : ℕ) → slice_get ws k ≡ Some w → Contains (names w) v → Contains (flat_map names ws) v
in_any [] k w v e has = absurd (cc)
in_any (x ∷ ws) zero w v e has = let same : w ≡ x = cc in Contains-append_left (names x) (flat_map names ws) v (subst (λ y. Contains (names y) v) same has)
in_any (x ∷ ws) (suc k) w v e has = Contains-append_right (names x) (flat_map names ws) v (in_any ws k w v e has)

-- the wave that has a node by the test
from_wave : (v : ℕ) (us : List Uid) → list_any (λ u. u.0 == v) us ≡ true → Contains (map (λ u. u.0) us) v
from_wave v [] e = absurd (cc)
from_wave v (u ∷ us) e = go (u.0 == v) refl e (from_wave v us)
  where
    go : (b : Bool) → (u.0 == v) ≡ b → (b || list_any (λ w. w.0 == v) us) ≡ true → (list_any (λ w. w.0 == v) us ≡ true → Contains (map (λ w. w.0) us) v)
        → Contains (map (λ w. w.0) (u ∷ us)) v
    go true t e rest = (0, omega arith, eqb-true u.0 v t)
    go false t e rest = at_tail u.0 v (map (λ w. w.0) us) (rest e)

-- a wave that has the node is not before the first that has it, and the first has it
pub not_before : (ws : List Wave) (k : ℕ) (w : Wave) (v : ℕ) → slice_get ws k ≡ Some w → Contains (names w) v → wave_of ws v ≤ k
not_before [] k w v e has = absurd (cc)
not_before (x ∷ ws) zero w v e has =
    let same : w ≡ x = cc in
    let t : list_any (λ u. u.0 == v) x.nodes ≡ true = in_wave v x.nodes (subst (λ y. Contains (names y) v) same has) in
    first (list_any (λ u. u.0 == v) x.nodes) t
  where
    first : (b : Bool) → b ≡ true → cond (not b) (1 + wave_of ws v) 0 ≤ 0
    first true t = omega arith
    first false t = absurd (cc)
not_before (x ∷ ws) (suc k) w v e has = later (list_any (λ u. u.0 == v) x.nodes) (not_before ws k w v e has)
  where
    later : (b : Bool) → wave_of ws v ≤ k → cond (not b) (1 + wave_of ws v) 0 ≤ suc k
    later true l = omega arith
    later false l = omega arith

pub first_with : (ws : List Wave) (v : ℕ) → wave_of ws v < length ws → (w : Wave) × (slice_get ws (wave_of ws v) ≡ Some w) × Contains (names w) v
first_with [] v l = absurd (omega arith)
first_with (x ∷ ws) v l = go (list_any (λ u. u.0 == v) x.nodes) refl l (first_with ws v)
  where
    go : (b : Bool) → list_any (λ u. u.0 == v) x.nodes ≡ b → cond (not b) (1 + wave_of ws v) 0 < length (x ∷ ws)
        → (wave_of ws v < length ws → (w : Wave) × (slice_get ws (wave_of ws v) ≡ Some w) × Contains (names w) v)
        → (w : Wave) × (slice_get (x ∷ ws) (cond (not b) (1 + wave_of ws v) 0) ≡ Some w) × Contains (names w) v
    go true t l rest = (x, refl, from_wave v x.nodes t)
    go false t l rest =
        let r = rest (omega arith) in
        let place : suc (wave_of ws v) ≡ 1 + wave_of ws v = omega arith in
        (r.0, subst (λ i. slice_get (x ∷ ws) i ≡ Some r.0) place r.1, r.2)

earlier_wave : (ws : List Wave) (k v : ℕ) → Contains (flat_map names (take k ws)) v → wave_of ws v < k
earlier_wave ws zero v has = let l = has.1 in absurd (omega arith)
earlier_wave [] (suc k) v has = let l = has.1 in absurd (omega arith)
earlier_wave (x ∷ ws) (suc k) v has =
    go (list_any (λ u. u.0 == v) x.nodes) refl (Contains-append_cases (names x) (flat_map names (take k ws)) v has) (earlier_wave ws k v)
  where
    go : (b : Bool) → list_any (λ u. u.0 == v) x.nodes ≡ b → Contains (names x) v ⊎ Contains (flat_map names (take k ws)) v
        → (Contains (flat_map names (take k ws)) v → wave_of ws v < k) → cond (not b) (1 + wave_of ws v) 0 < suc k
    go true t c rest = omega arith
    go false t (inl here) rest = let e = in_wave v x.nodes here in absurd (cc)
    go false t (inr there) rest = omega (arith, rest there)

-- ---- nodes that differ
disjoint : (ws : List Wave) → ((j k : ℕ) (w x : Wave) (v : ℕ) → j < k → slice_get ws j ≡ Some w → slice_get ws k ≡ Some x → Contains (names w) v → Contains (names x) v → ⊥)
    → ((k : ℕ) (w : Wave) → slice_get ws k ≡ Some w → Differ (names w)) → Differ (flat_map names ws)
disjoint [] apart each = tt
disjoint (w ∷ ws) apart each =
    differ_append (names w) (flat_map names ws) (each 0 w refl)
    (disjoint ws (λ j k x y v l. apart (suc j) (suc k) x y v (omega arith)) (λ k x. each (suc k) x))
    (λ v a b. let r = wave_with ws v b in apart 0 (suc r.0) w r.1 v (omega arith) refl r.2 a r.3)

node_with : (ns : List Node) (v : ℕ) → Contains (map (λ n. n.uid.0) ns) v → (n : Node) × Contains ns n × (n.uid.0 ≡ v)
node_with [] v has = let l = has.1 in absurd (omega arith)
node_with (n ∷ ns) v has =
    elim (first_or_later n.uid.0 v (map (λ m. m.uid.0) ns) has) [
      | inl same ↦ (n, (0, omega arith, refl), same)
      | inr there ↦ (let r = node_with ns v there in (r.0, at_tail n r.0 ns r.1, r.2))
    ]

abbrev named : ℕ → Uid
named v = record { 0 = v }

names_differ : (ns : List Node) → AllPairs (λ m n. m.uid ≢ n.uid) ns → Differ (map (λ n. n.uid.0) ns)
names_differ [] h = tt
names_differ (n ∷ ns) h = (first, names_differ ns (λ i j d lt l. h (suc i) (suc j) d (omega arith) (omega arith)))
  where
    first : Contains (map (λ m. m.uid.0) ns) n.uid.0 → ⊥
    first has =
        let r = node_with ns n.uid.0 has in
        let others : All (λ m. n.uid ≢ m.uid) ns = λ k d l. h 0 (suc k) d (omega arith) (omega arith) in
        let same : n.uid ≡ r.0.uid = ap named (sym r.2) in
        All-contains (λ m. n.uid ≢ m.uid) ns r.0 others r.1 same

-- what holds of each entry
pub each_entry : {X : Type 0} (P : X → Type 0) (xs : List X) → ((x : X) → Contains xs x → P x) → All P xs
each_entry P xs h = λ k d l. h (get_or xs k d) (Contains-get_or xs k d l)

module _ (g : Graph) (sound : IsSound g) (waves : List Wave) where
  pub kept : (v : ℕ) → IsLive g v → Contains (live_nodes g) v
  kept v live = filter_has (is_live g) (names_of g) v (listed g v live) (live_test g sound v live)

  pub live_differ : Differ (live_nodes g)
  live_differ = differ_filtered (is_live g) (names_of g) (names_differ g.nodes sound.shaped.uids_differ)

  to_schedule : ((k : ℕ) → IsWaveAt g waves k) → IsSchedule g waves
  to_schedule h = record {
    filled = λ k d l. (next k (get_or waves k d) (slice_get-get_or waves k d l)).filled;
    rising = λ k d l. (next k (get_or waves k d) (slice_get-get_or waves k d l)).rising;
    once = permutes (live_nodes g) (flat_map names waves) live_differ all_differ (λ v has. everywhere v (live_by g sound v (filter_from (is_live g) (names_of g) v has).1)) only_live;
    later = each_entry (λ c. wave_of waves c.src.0 < wave_of waves c.dst.0) (live_connections g) goes_on;
  }
    where
      next : (k : ℕ) (w : Wave) → slice_get waves k ≡ Some w → IsNextWave g (take k waves) w
      next k w e = (h k).next w e

      everywhere : (v : ℕ) → IsLive g v → Contains (flat_map names waves) v
      everywhere v live = (h (length waves)).all refl v live

      all_differ : Differ (flat_map names waves)
      all_differ = disjoint waves
          (λ j k w x v l ej ek a b. All-contains (λ u. Contains (flat_map names (take k waves)) u → ⊥) (names x) v (next k x ek).fresh b (in_earlier waves j k w v ej l a))
          (λ k w e. differ_rising (names w) (next k w e).rising)

      only_live : (v : ℕ) → Contains (flat_map names waves) v → Contains (live_nodes g) v
      only_live v has = let r = wave_with waves v has in kept v (All-contains (IsLive g) (names r.1) v (next r.0 r.1 r.2).live r.3)

      goes_on : (c : Connection) → Contains (live_connections g) c → wave_of waves c.src.0 < wave_of waves c.dst.0
      goes_on c has =
          let live = live_by g sound c.dst.0 (filter_from (λ d. is_live g d.dst.0) g.connections c has).1 in
          let f = first_with waves c.dst.0 (stands_in c.dst.0 waves (everywhere c.dst.0 live)) in
          let k = wave_of waves c.dst.0 in
          earlier_wave waves k c.src.0
          (All-contains (λ d. Contains (names f.0) d.dst.0 → Contains (flat_map names (take k waves)) d.src.0) (live_connections g) c (next k f.0 f.1).ready has f.2)

  from_schedule : IsSchedule g waves → (k : ℕ) → IsWaveAt g waves k
  from_schedule s k = record {
    next = λ w e. record {
      filled = All-contains (λ x. 0 < length x.nodes) waves w s.filled (has_item waves k w e);
      rising = All-contains (λ x. IsStrictlyIncreasing (names x)) waves w s.rising (has_item waves k w e);
      live = each_entry (IsLive g) (names w) (λ v has. live_by g sound v (filter_from (is_live g) (names_of g) v (back v (in_any waves k w v e has))).1);
      fresh = each_entry (λ v. Contains (flat_map names (take k waves)) v → ⊥) (names w)
          (λ v has before. differ_parts (flat_map names (take k waves)) (flat_map names (drop k waves)) parts v before (in_later waves k w v e has));
      ready = each_entry (λ c. Contains (names w) c.dst.0 → Contains (flat_map names (take k waves)) c.src.0) (live_connections g) (λ c has reads. comes_before c has w e reads);
    };
    all = λ e v live. Contains-permutation (live_nodes g) (flat_map names waves) v s.once (kept v live);
  }
    where
      back : (v : ℕ) → Contains (flat_map names waves) v → Contains (live_nodes g) v
      back v has = Contains-permutation (flat_map names waves) (live_nodes g) v (IsPermutation-sym (live_nodes g) (flat_map names waves) s.once) has

      parts : Differ (flat_map names (take k waves) ++ flat_map names (drop k waves))
      parts = subst Differ (ap (flat_map names) (sym (take-append-drop k waves)) ∙ flat_map-append names (take k waves) (drop k waves))
          (differ_permuted (live_nodes g) (flat_map names waves) s.once live_differ)

      comes_before : (c : Connection) → Contains (live_connections g) c → (w : Wave) → slice_get waves k ≡ Some w → Contains (names w) c.dst.0 → Contains (flat_map names (take k waves)) c.src.0
      comes_before c has w e there =
          let later = All-contains (λ d. wave_of waves d.src.0 < wave_of waves d.dst.0) (live_connections g) c s.later has in
          let le = not_before waves k w c.dst.0 e there in
          let within = stands_in c.dst.0 waves (in_any waves k w c.dst.0 e there) in
          let f = first_with waves c.src.0 (omega arith) in
          in_earlier waves (wave_of waves c.src.0) k f.0 c.src.0 f.1 (omega arith) f.2

pub waves_by_entries : WavesByEntries
waves_by_entries g waves sound = (to_schedule g sound waves, from_schedule g sound waves)
