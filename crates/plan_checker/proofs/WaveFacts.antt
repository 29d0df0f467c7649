-- Nodes of waves, as the tests find them.
use Rattle.std.proofs.Common.{◌≡◌, ℕ, suc, ◌<◌, ◌≤◌, ◌==◌, ◌||◌, inl, inr, List, [], ◌∷◌, length, map, get_or, take, refl, sym, ap, ◌∙◌, subst, true, false, Bool, arith, Some, Contains}
use Rattle.std.specs.Prelude.{slice_get, slice_index}
use Rattle.std.specs.List.{All, flat_map, list_any}
use Rattle.std.specs.List.Sorted.{IsStrictlyIncreasing}
use Rattle.std.proofs.lemmas.Bool.{eqb-true}
use Rattle.std.proofs.lemmas.List.{get_or-map, length-map}
use Rattle.std.proofs.lemmas.List.Elements.{All-contains, Contains-append_cases}
use Rattle.std.proofs.lemmas.Option.{slice_get-get_or}
use Rattle.graph_model.specs.Paths.{IsLive, is_live, live_connections}
use Rattle.graph_model.specs.declared.graph.Connection.{Connection}
use Rattle.graph_model.specs.declared.graph.Graph.{Graph}
use Rattle.graph_model.specs.declared.graph.Uid.{Uid}
use Rattle.graph_model.proofs.PathLaws.{at_tail}
use Rattle.graph_model.proofs.ReachLaws.{filter_has, filter_from}
use Rattle.plan_model.specs.Places.{IsNextWave, IsWaveAt}
use Rattle.plan_model.specs.Rules.{AreLiveNodes}
use Rattle.plan_model.specs.Schedules.{names}
use Rattle.plan_model.specs.declared.schedule.Wave.{Wave}
use Rattle.plan_model.proofs.CertifiedLaws.{in_wave}
use Rattle.plan_model.proofs.PlaceLaws.{has_item}
use Rattle.plan_model.proofs.WaveLaws.{in_any, each_entry}
use Rattle.plan_checker.specs.Waves.{IsNew, IsReady}

abbrev no_uid : Uid
no_uid = record { 0 = 0 }

-- an item of a list is the one at its place
pub at_place : {X : Type 0} (xs : List X) (k : ℕ) (x : X) → k < length xs → x ≡ get_or xs k x → slice_get xs k ≡ Some x
at_place xs k x lt is = slice_get-get_or xs k x lt ∙ ap (λ y. Some y) (sym is)

pub name_at : (us : List Uid) (k : ℕ) (d : Uid) → k < length us → slice_index (map (λ u. u.0) us) k ≡ (get_or us k d).0
name_at us k d lt = get_or-map (λ (u : Uid). u.0) us k d 0 lt

-- a node that the test finds is there
pub found : (v : ℕ) (us : List Uid) → list_any (λ u. u.0 == v) us ≡ true → Contains (map (λ u. u.0) us) v
found v [] e = absurd (cc)
found v (u ∷ us) e = go (u.0 == v) refl e (found v us)
  where
    go : (b : Bool) → (u.0 == v) ≡ b → (b || list_any (λ w. w.0 == v) us) ≡ true → (list_any (λ w. w.0 == v) us ≡ true → Contains (map (λ w. w.0) us) v)
        → Contains (map (λ w. w.0) (u ∷ us)) v
    go true t e rest = (0, omega arith, eqb-true u.0 v t)
    go false t e rest = at_tail u.0 v (map (λ w. w.0) us) (rest e)

-- and one that it does not find is not
pub not_found : (v : ℕ) (us : List Uid) → list_any (λ u. u.0 == v) us ≡ false → Contains (map (λ u. u.0) us) v → ⊥
not_found v us e has = let t = in_wave v us has in absurd (cc)

pub stands_in : (ws : List Wave) (k : ℕ) (w : Wave) (v : ℕ) → slice_get ws k ≡ Some w → list_any (λ u. u.0 == v) w.nodes ≡ true → Contains (flat_map names ws) v
stands_in ws k w v at is = in_any ws k w v at (found v w.nodes is)

pub stands_nowhere : (ws : List Wave) (v : ℕ) → ((k : ℕ) (w : Wave) → slice_get ws k ≡ Some w → list_any (λ u. u.0 == v) w.nodes ≡ false)
    → Contains (flat_map names ws) v → ⊥
stands_nowhere [] v none has = let l = has.1 in omega arith
stands_nowhere (w ∷ ws) v none has =
    elim (Contains-append_cases (names w) (flat_map names ws) v has) [
      | inl here ↦ not_found v w.nodes (none 0 w refl) here
      | inr there ↦ stands_nowhere ws v (λ k x at. none (suc k) x at) there
    ]

-- ---- a connection into a wave
module _ (g : Graph) (before : List Wave) (nodes : List Uid) (k : ℕ) (c : Connection) (at : slice_get g.connections k ≡ Some c) where
  pub ready_beside : list_any (λ u. u.0 == c.dst.0) nodes ≡ false → IsReady g before nodes k
  ready_beside none x here is into =
      let same : c ≡ x = cc in
      absurd (not_found x.dst.0 nodes (subst (λ (y : Connection). list_any (λ u. u.0 == y.dst.0) nodes ≡ false) same none) into)

  pub ready_idle : is_live g c.dst.0 ≡ false → IsReady g before nodes k
  ready_idle idle x here is into = let same : c ≡ x = cc in let no : is_live g x.dst.0 ≡ false = subst (λ (y : Connection). is_live g y.dst.0 ≡ false) same idle in absurd (cc)

  pub ready_from : Contains (flat_map names before) c.src.0 → IsReady g before nodes k
  ready_from has x here is into = let same : c ≡ x = cc in subst (λ (y : Connection). Contains (flat_map names before) y.src.0) same has

  pub comes_from : list_any (λ u. u.0 == c.dst.0) nodes ≡ true → is_live g c.dst.0 ≡ true → IsReady g before nodes k → Contains (flat_map names before) c.src.0
  comes_from into is ready = ready c at is (found c.dst.0 nodes into)

-- ---- a wave
module _ (g : Graph) (live : List ℕ) (are : AreLiveNodes g live) (before : List Wave) (w : Wave) where
  pub next_wave : 0 < length w.nodes → IsStrictlyIncreasing (names w) → All (λ u. IsNew live before u.0) w.nodes
      → ((k : ℕ) → k < length g.connections → IsReady g before w.nodes k) → IsNextWave g before w
  next_wave filled rising new ready = record {
    filled = filled;
    rising = rising;
    live = λ k d lt. All-contains (IsLive g) live (get_or (names w) k d) are.each (named k d lt).0;
    fresh = λ k d lt. (named k d lt).1;
    ready = each_entry (λ c. Contains (names w) c.dst.0 → Contains (flat_map names before) c.src.0) (live_connections g)
        (λ c has into. comes c (filter_from (λ d. is_live g d.dst.0) g.connections c has).0 (filter_from (λ d. is_live g d.dst.0) g.connections c has).1 into);
  }
    where
      named : (k d : ℕ) → k < length (names w) → IsNew live before (get_or (names w) k d)
      named k d lt =
          let long = length-map w.nodes (λ (u : Uid). u.0) in
          subst (IsNew live before) (sym (get_or-map (λ (u : Uid). u.0) w.nodes k no_uid d (omega arith))) (new k no_uid (omega arith))

      comes : (c : Connection) → Contains g.connections c → is_live g c.dst.0 ≡ true → Contains (names w) c.dst.0 → Contains (flat_map names before) c.src.0
      comes c (k, lt, at) is into = ready k lt c (slice_get-get_or g.connections k c lt ∙ ap (λ x. Some x) at) is into

  pub next_new : IsNextWave g before w → All (λ u. IsNew live before u.0) w.nodes
  next_new n k d lt =
      let long = length-map w.nodes (λ (u : Uid). u.0) in
      let here : get_or (names w) k 0 ≡ (get_or w.nodes k d).0 = get_or-map (λ (u : Uid). u.0) w.nodes k d 0 lt in
      let both : IsNew live before (get_or (names w) k 0) = (are.all (get_or (names w) k 0) (n.live k 0 (omega arith)), n.fresh k 0 (omega arith)) in
      subst (IsNew live before) here both

  pub next_ready : IsNextWave g before w → (k : ℕ) → k < length g.connections → IsReady g before w.nodes k
  next_ready n k lt c at is into =
      All-contains (λ d. Contains (names w) d.dst.0 → Contains (flat_map names before) d.src.0) (live_connections g) c n.ready
      (filter_has (λ d. is_live g d.dst.0) g.connections c (has_item g.connections k c at) is) into

-- ---- all waves
module _ (g : Graph) (ws : List Wave) where
  pub waves_before : (k : ℕ) → k ≤ length ws → ((j : ℕ) → j < k → (w : Wave) → slice_get ws j ≡ Some w → IsNextWave g (take j ws) w) → (j : ℕ) → j < k → IsWaveAt g ws j
  waves_before k le next j lt = record { next = λ w at. next j lt w at; all = λ end. absurd (omega arith) }

  pub bad_wave : (k : ℕ) (w : Wave) → slice_get ws k ≡ Some w → (IsNextWave g (take k ws) w → ⊥) → IsWaveAt g ws k → ⊥
  bad_wave k w at bad here = bad (here.next w at)

module _ (g : Graph) (live : List ℕ) (are : AreLiveNodes g live) (ws : List Wave) where
  pub missing_node : (All (λ v. Contains (flat_map names ws) v) live → ⊥) → IsWaveAt g ws (length ws) → ⊥
  missing_node missing here = missing (λ k d lt. here.all refl (get_or live k d) (are.each k d lt))

  pub all_waves : ((j : ℕ) (w : Wave) → slice_get ws j ≡ Some w → IsNextWave g (take j ws) w) → All (λ v. Contains (flat_map names ws) v) live → (k : ℕ) → IsWaveAt g ws k
  all_waves next all k = record {
    next = λ w at. next k w at;
    all = λ end v is. All-contains (λ u. Contains (flat_map names ws) u) live v all (are.all v is);
  }
