-- All waves of a block, in any orders, take the nodes of a graph from one time to a later one.
use Rattle.std.proofs.Common.{◌≡◌, ℕ, zero, suc, ◌+◌, ◌<◌, ◌≤◌, ◌==◌, ◌||◌, Bool, true, false, cond, List, [], ◌∷◌, length, map, drop, ℤ, pos, inl, inr, refl, ap, sym, ◌∙◌, subst, arith, Some}
use Rattle.std.specs.Prelude.{slice_get, slice_index_or}
use Rattle.std.specs.List.{Contains, filter, find, flat_map}
use Rattle.std.proofs.lemmas.List.Sorted.{Contains-permutation}
use Rattle.plan_model.proofs.CertifiedLaws.{stands_in}
use Rattle.std.proofs.lemmas.Bool.{eqb-true, cases_Bool, cases_lt, or_left, or_right, cond-true, cond-false, false_from_ne_true}
use Rattle.graph_model.specs.Histories.{Frame}
use Rattle.graph_model.specs.Graphs.{IsRanked, node_named, connections_into}
use Rattle.graph_model.specs.Paths.{is_live, live_nodes, live_connections, depth}
use Rattle.graph_model.specs.Sound.{IsSound}
use Rattle.graph_model.specs.declared.graph.Node.{Node}
use Rattle.graph_model.specs.declared.graph.Connection.{Connection}
use Rattle.graph_model.specs.declared.graph.Graph.{Graph}
use Rattle.graph_model.proofs.PathLaws.{same_name, at_tail, first_or_later}
use Rattle.graph_model.proofs.LiveLaws.{live_by, live_test}
use Rattle.graph_model.proofs.RankLaws.{sound_is_ranked}
use Rattle.graph_model.proofs.ReachLaws.{filter_has, filter_from}
use Rattle.plan_model.specs.Schedules.{names, wave_of}
use Rattle.plan_model.specs.Lives.{life_of}
use Rattle.plan_model.specs.Certified.{IsCertified}
use Rattle.plan_model.specs.declared.plan.Plan.{Plan}
use Rattle.plan_model.specs.declared.buffers.Home.{Home}
use Rattle.plan_model.specs.declared.schedule.Wave.{Wave}
use Rattle.plan_model.proofs.ExampleTools.{listed}
use Rattle.plan_model.proofs.SavedLaws.{Contains-map, Contains-from_map}
use Rattle.orders.specs.Orders as core
use Rattle.orders.proofs.CountLaws.{orders_run, wires_read_alone}
use Rattle.graph_model.specs.Streams.{on, out_at}
use Rattle.engine_model.specs.Machines.{Kept, machine, sources, buffer_for, homes_at}
use Rattle.engine_model.specs.States.{kept_at}
use Rattle.engine_model.proofs.MachineLaws.{local_is, told_is}
use Rattle.engine_model.proofs.PlanLaws.{is_in_of, of_is_in, schedule, home_for, buffer_read, read_within, born_apart, read_apart, kept_apart, in_wave_at, of_wave_at, live_in_wave}

-- ---- what a node writes and reads
-- the home of a node that has a buffer in which the node writes
pub writes_home : (hs : List core.Home) (b : ℕ) → core.writes hs b ≡ true → (h : core.Home) × Contains hs h × (h.buffer ≡ b)
writes_home [] b e = absurd (cc)
writes_home (h ∷ hs) b e = go (h.buffer == b) refl e (writes_home hs b)
  where
    go : (t : Bool) → (h.buffer == b) ≡ t → (t || core.writes hs b) ≡ true → (core.writes hs b ≡ true → (i : core.Home) × Contains hs i × (i.buffer ≡ b))
        → (i : core.Home) × Contains (h ∷ hs) i × (i.buffer ≡ b)
    go true t w rest = (h, (0, omega arith, refl), eqb-true h.buffer b t)
    go false t w rest = let r = rest w in (r.0, at_tail h r.0 hs r.1, r.2)

abbrev at_home : Home → core.Home
at_home h = record { channel = h.channel; buffer = h.buffer }

pub written_by : (homes : List Home) (v b : ℕ) → core.writes (homes_at homes v) b ≡ true → (h : Home) × Contains homes h × (h.uid.0 ≡ v) × (h.buffer ≡ b)
written_by homes v b e =
    let r = writes_home (homes_at homes v) b e in
    let f = Contains-from_map (λ (h : Home). at_home h) (filter (λ h. h.uid.0 == v) homes) r.0 r.1 in
    let k = filter_from (λ h. h.uid.0 == v) homes f.0 f.1 in
    (f.0, k.0, eqb-true f.0.uid.0 v k.1, ap (λ (h : core.Home). h.buffer) f.2 ∙ r.2)

pub home_writes : (hs : List core.Home) (h : core.Home) → Contains hs h → core.writes hs h.buffer ≡ true
home_writes [] h has = let l = has.1 in absurd (omega arith)
home_writes (i ∷ hs) h has =
    elim (first_or_later i h hs has) [
      | inl same ↦ or_left (i.buffer == h.buffer) (core.writes hs h.buffer) (ap (λ (k : core.Home). k.buffer == h.buffer) same ∙ same_name h.buffer)
      | inr there ↦ or_right (i.buffer == h.buffer) (core.writes hs h.buffer) (home_writes hs h there)
    ]

at_node : (homes : List Home) (h : Home) → Contains homes h → Contains (homes_at homes h.uid.0) (at_home h)
at_node homes h has = Contains-map (λ (k : Home). at_home k) (filter (λ k. k.uid.0 == h.uid.0) homes) h (filter_has (λ k. k.uid.0 == h.uid.0) homes h has (same_name h.uid.0))

pub writes_own : (homes : List Home) (h : Home) → Contains homes h → core.writes (homes_at homes h.uid.0) h.buffer ≡ true
writes_own homes h has = home_writes (homes_at homes h.uid.0) (at_home h) (at_node homes h has)

-- what stands in a buffer is the channel of its one home
pub value_of : (hs : List core.Home) (h : core.Home) (y : List ℤ) → Contains hs h → ((i : core.Home) → Contains hs i → i.buffer ≡ h.buffer → i ≡ h)
    → core.value_at hs y h.buffer (pos 0) ≡ slice_index_or y h.channel (pos 0)
value_of [] h y has one = let l = has.1 in absurd (omega arith)
value_of (i ∷ hs) h y has one =
    elim (cases_Bool (i.buffer == h.buffer)) [
      | inl t ↦
          let same : i ≡ h = one i (0, omega arith, refl) (eqb-true i.buffer h.buffer t) in
          cond-true (i.buffer == h.buffer) _ _ t ∙ ap (λ (k : core.Home). slice_index_or y k.channel (pos 0)) same
      | inr f ↦
          cond-false (i.buffer == h.buffer) _ _ f
          ∙ elim (first_or_later i h hs has) [
            | inl same ↦ (let t : (i.buffer == h.buffer) ≡ true = ap (λ (k : core.Home). k.buffer == h.buffer) same ∙ same_name h.buffer in absurd (cc))
            | inr there ↦ value_of hs h y there (λ k ck e. one k (at_tail i k hs ck) e)
          ]
    ]

pub read_by : (g : Graph) (homes : List Home) (cs : List Connection) (b : ℕ) → core.is_read (map (λ c. buffer_for homes c) cs) b ≡ true
    → (c : Connection) × Contains cs c × (buffer_for homes c ≡ b)
read_by g homes [] b e = absurd (cc)
read_by g homes (c ∷ cs) b e = go (buffer_for homes c == b) refl e (read_by g homes cs b)
  where
    go : (t : Bool) → (buffer_for homes c == b) ≡ t → (t || core.is_read (map (λ d. buffer_for homes d) cs) b) ≡ true
        → (core.is_read (map (λ d. buffer_for homes d) cs) b ≡ true → (d : Connection) × Contains cs d × (buffer_for homes d ≡ b))
        → (d : Connection) × Contains (c ∷ cs) d × (buffer_for homes d ≡ b)
    go true t w rest = (c, (0, omega arith, refl), eqb-true _ b t)
    go false t w rest = let r = rest w in (r.0, at_tail c r.0 cs r.1, r.2)

pub some_node : (ns : List Node) (v : ℕ) → Contains (map (λ n. n.uid.0) ns) v → (m : Node) × (find (λ n. n.uid.0 == v) ns ≡ Some m)
some_node [] v has = let l = has.1 in absurd (omega arith)
some_node (n ∷ ns) v has =
    elim (first_or_later n.uid.0 v (map (λ m. m.uid.0) ns) has) [
      | inl same ↦ (n, (let e : (n.uid.0 == v) ≡ true = ap (λ w. w == v) same ∙ same_name v in rw e refl))
      | inr there ↦ go (n.uid.0 == v) (some_node ns v there)
    ]
  where
    go : (b : Bool) → ((m : Node) × (find (λ k. k.uid.0 == v) ns ≡ Some m)) → (m : Node) × (cond b (Some n) (find (λ k. k.uid.0 == v) ns) ≡ Some m)
    go true r = (n, refl)
    go false r = r

module _ (g : Graph) (plan : Plan) (sound : IsSound g) (c : IsCertified g plan) (p : ℕ → ℕ) (block : ℕ → Frame) where
  ranked : IsRanked (depth g) g
  ranked = sound_is_ranked g sound

  -- a connection into a live node is live
  pub into_live : (v : ℕ) (e : Connection) → is_live g v ≡ true → Contains (connections_into g v) e → Contains (live_connections g) e × (e.dst.0 ≡ v)
  into_live v e on has =
      let k = filter_from (λ d. d.dst.0 == v) g.connections e has in
      let at = eqb-true e.dst.0 v k.1 in
      (filter_has (λ d. is_live g d.dst.0) g.connections e k.0 (ap (is_live g) at ∙ on), at)

  pub on_in : (k v : ℕ) (w : Wave) → slice_get plan.waves k ≡ Some w → core.is_in v (names w) ≡ true → is_live g v ≡ true
  on_in k v w at i = live_test g sound v (live_in_wave g plan sound c k v w at (of_is_in v (names w) i))

  pub wave_is : (k v : ℕ) (w : Wave) → slice_get plan.waves k ≡ Some w → core.is_in v (names w) ≡ true → wave_of plan.waves v ≡ k
  wave_is k v w at i = in_wave_at g plan sound c k v w at (of_is_in v (names w) i)

  -- what a node of a wave reads, no other node of it writes
  pub read_alone : (k : ℕ) (w : Wave) → slice_get plan.waves k ≡ Some w → (u v b : ℕ) → core.is_in u (names w) ≡ true → core.is_in v (names w) ≡ true
      → core.writes (homes_at plan.homes u) b ≡ true → core.is_read (sources g plan.homes v) b ≡ true → u ≡ v
  read_alone k w at u v b iu iv wu rv =
      let hu = written_by plan.homes u b wu in
      let e = read_by g plan.homes (connections_into g v) b rv in
      let live = into_live v e.0 (on_in k v w at iv) e.1 in
      let h = home_for g plan sound c e.0 live.0 in
      let buffer = buffer_read g plan sound c e.0 h.0 h.1 h.2 h.3 in
      sym hu.2 ∙ read_apart g plan sound c e.0 h.0 hu.0 live.0 h.1 h.2 h.3 hu.1 (sym buffer ∙ e.2 ∙ sym hu.3)
      (ap (wave_of plan.waves) hu.2 ∙ wave_is k u w at iu ∙ sym (wave_is k v w at iv) ∙ ap (wave_of plan.waves) (sym live.1))
      ∙ live.1

  -- a node has one home with a buffer
  pub one_home : (v : ℕ) (a b : core.Home) → Contains (homes_at plan.homes v) a → Contains (homes_at plan.homes v) b → a.buffer ≡ b.buffer → a ≡ b
  one_home v a b ca cb e =
      let f = Contains-from_map (λ (q : Home). at_home q) (filter (λ q. q.uid.0 == v) plan.homes) a ca in
      let q = filter_from (λ q. q.uid.0 == v) plan.homes f.0 f.1 in
      let f2 = Contains-from_map (λ (q : Home). at_home q) (filter (λ q. q.uid.0 == v) plan.homes) b cb in
      let q2 = filter_from (λ q. q.uid.0 == v) plan.homes f2.0 f2.1 in
      let one = born_apart g plan sound c f.0 f2.0 q.0 q2.0 (ap (λ (z : core.Home). z.buffer) f.2 ∙ e ∙ sym (ap (λ (z : core.Home). z.buffer) f2.2))
      (ap (wave_of plan.waves) (eqb-true f.0.uid.0 v q.1 ∙ sym (eqb-true f2.0.uid.0 v q2.1))) in
      sym f.2 ∙ ap (λ (z : Home). at_home z) one ∙ f2.2

  pub node_in : (k v : ℕ) (w : Wave) → slice_get plan.waves k ≡ Some w → core.is_in v (names w) ≡ true → (m : Node) × (node_named g v ≡ Some m)
  node_in k v w at i = some_node g.nodes v (listed g v (live_in_wave g plan sound c k v w at (of_is_in v (names w) i)))

  -- the buffers of a wave are apart
  pub apart : (k : ℕ) (w : Wave) → slice_get plan.waves k ≡ Some w → core.IsApart (machine g p plan.homes block) (names w)
  apart k w at = record {
    no_write = λ u v b iu iv wu wv.
        let hu = written_by plan.homes u b wu in
        let hv = written_by plan.homes v b wv in
        let same = born_apart g plan sound c hu.0 hv.0 hu.1 hv.1 (hu.3 ∙ sym hv.3)
        (ap (wave_of plan.waves) hu.2 ∙ wave_is k u w at iu ∙ sym (wave_is k v w at iv) ∙ ap (wave_of plan.waves) (sym hv.2)) in
        sym hu.2 ∙ ap (λ (h : Home). h.uid.0) same ∙ hv.2;
    reads_alone = λ v j q r iv same.
        wires_read_alone (sources g plan.homes v) (λ u. homes_at plan.homes u) (names w) v j q r
        (λ u b iu wu rv. read_alone k w at u v b iu iv wu rv)
        same;
  }

  module _ (x : ℕ → Frame) (T n : ℕ) (brings : (k : ℕ) → k < n → block k ≡ x (T + k)) where
    -- before wave s: the nodes of the earlier waves have taken n frames more, and the pool has the samples that are
    -- needed from here on
    pub record IsBefore (s : ℕ) (st : core.State Kept) : Type 0 where
      pub done : (v : ℕ) → is_live g v ≡ true → wave_of plan.waves v < s → st.kept v ≡ kept_at g p x (T + n) v
      pub ahead : (v : ℕ) → is_live g v ≡ true → s ≤ wave_of plan.waves v → st.kept v ≡ kept_at g p x T v
      pub has : (h : Home) → Contains plan.homes h → wave_of plan.waves h.uid.0 < s → s ≤ (life_of g plan.waves h.uid h.channel).dies
          → (k : ℕ) → k < n → st.pool h.buffer k ≡ on (out_at g p x h.uid.0) h.channel (T + k)

    pub reads_right : (s : ℕ) (w : Wave) (st : core.State Kept) → slice_get plan.waves s ≡ Some w → IsBefore s st → (v : ℕ) → core.is_in v (names w) ≡ true
        → (k : ℕ) → k < n → core.samples_of (sources g plan.homes v) k st.pool ≡ map (λ e. on (out_at g p x e.src.0) e.src_channel (T + k)) (connections_into g v)
    reads_right s w st at b v i k lt = through (connections_into g v) (λ e has. has)
      where
        through : (es : List Connection) → ((e : Connection) → Contains es e → Contains (connections_into g v) e)
            → map (λ a. st.pool a k) (map (λ e. buffer_for plan.homes e) es) ≡ map (λ e. on (out_at g p x e.src.0) e.src_channel (T + k)) es
        through [] within = refl
        through (e ∷ es) within =
            let live = into_live v e (on_in s v w at i) (within e (0, omega arith, refl)) in
            let h = home_for g plan sound c e live.0 in
            let r = read_within g plan sound c e h.0 live.0 h.2 h.3 in
            let r0 = r.0 in
            let r1 = r.1 in
            let here = wave_is s v w at i in
            let there : wave_of plan.waves e.dst.0 ≡ wave_of plan.waves v = ap (wave_of plan.waves) live.1 in
            let first : st.pool (buffer_for plan.homes e) k ≡ on (out_at g p x e.src.0) e.src_channel (T + k) =
            ap (λ a. st.pool a k) (buffer_read g plan sound c e h.0 h.1 h.2 h.3)
            ∙ b.has h.0 h.1 (omega arith) (omega arith) k lt
            ∙ ap (λ u. on (out_at g p x u.0) h.0.channel (T + k)) h.2 ∙ ap (λ d. on (out_at g p x e.src.0) d (T + k)) h.3 in
            let rest = through es (λ d has. within d (at_tail e d es has)) in
            cc

    pub next : (s : ℕ) (w : Wave) (st st' : core.State Kept) → slice_get plan.waves s ≡ Some w → IsBefore s st → core.WaveHasRun (machine g p plan.homes block) n (names w) st st' → IsBefore (suc s) st'
    next s w st st' at b run = record {
      done = λ v on before.
          elim (cases_Bool (core.is_in v (names w))) [
            | inl i ↦ run.kept v i ∙ local_is g p (depth g) plan.homes x block T n v st ranked brings (b.ahead v on (let e = wave_is s v w at i in omega arith)) (reads_right s w st at b v i) n (omega arith)
            | inr f ↦ run.idle v f ∙ b.done v on (earlier v f before)
          ];
      ahead = λ v on after. run.idle v (false_from_ne_true (core.is_in v (names w)) (λ i. let e = wave_is s v w at i in omega arith)) ∙ b.ahead v on (omega arith);
      has = λ h ch born dies k lt.
          elim (cases_lt (wave_of plan.waves h.uid.0) s) [
            | inl before ↦
                run.others h.buffer k (λ v i. false_from_ne_true _ (λ wv.
                let r = written_by plan.homes v h.buffer wv in
                kept_apart g plan sound c s h r.0 ch r.1 before (omega arith) (sym r.3) (ap (wave_of plan.waves) r.2 ∙ wave_is s v w at i)))
                ∙ b.has h ch before (omega arith) k lt
            | inr here ↦ (
                let is : wave_of plan.waves h.uid.0 ≡ s = omega arith in
                let i = is_in_of h.uid.0 (names w) (of_wave_at g plan sound c s h.uid.0 w at is) in
                let m = named h.uid.0 i in
                run.written h.uid.0 h.buffer k i (writes_own plan.homes h ch) lt
                ∙ value_of (homes_at plan.homes h.uid.0) (at_home h) (core.told (machine g p plan.homes block) st h.uid.0 k) (at_node plan.homes h ch)
                (λ a ca e.
                let f = Contains-from_map (λ (q : Home). at_home q) (filter (λ q. q.uid.0 == h.uid.0) plan.homes) a ca in
                let q = filter_from (λ q. q.uid.0 == h.uid.0) plan.homes f.0 f.1 in
                let one = born_apart g plan sound c f.0 h q.0 ch (ap (λ (z : core.Home). z.buffer) f.2 ∙ e) (ap (wave_of plan.waves) (eqb-true f.0.uid.0 h.uid.0 q.1)) in
                sym f.2 ∙ ap (λ (z : Home). at_home z) one)
                ∙ ap (λ y. slice_index_or y h.channel (pos 0))
                (told_is g p (depth g) plan.homes x block T n h.uid.0 st ranked brings (b.ahead h.uid.0 (on_in s h.uid.0 w at i) (omega arith)) (reads_right s w st at b h.uid.0 i) m.0 m.1 k lt))
          ];
    }
      where
        earlier : (v : ℕ) → core.is_in v (names w) ≡ false → wave_of plan.waves v < suc s → wave_of plan.waves v < s
        earlier v f before =
            elim (cases_lt (wave_of plan.waves v) s) [
              | inl lt ↦ lt
              | inr ge ↦ (let i = is_in_of v (names w) (of_wave_at g plan sound c s v w at (omega arith)) in absurd (cc))
            ]

        named : (v : ℕ) → core.is_in v (names w) ≡ true → (m : Node) × (node_named g v ≡ Some m)
        named v i = some_node g.nodes v (listed g v (live_in_wave g plan sound c s v w at (of_is_in v (names w) i)))

    -- the waves from s on, in any orders
    after_from : (s : ℕ) (ws : List Wave) (orders : List (List ℕ)) (st : core.State Kept) → drop s plan.waves ≡ ws → core.AreOrdersOf n (map names ws) orders → IsBefore s st
        → IsBefore (s + length ws) (core.after (machine g p plan.homes block) orders st)
    after_from s [] [] st rest o b = let e : s ≡ s + 0 = omega arith in subst (λ k. IsBefore k st) e b
    after_from s [] (y ∷ ys) st rest o b = absurd o
    after_from s (w ∷ ws) [] st rest o b = absurd o
    after_from s (w ∷ ws) (y ∷ ys) st rest o b =
        let at = first_of plan.waves s w ws rest in
        let e : suc s + length ws ≡ s + length (w ∷ ws) = omega arith in
        subst (λ k. IsBefore k (core.after (machine g p plan.homes block) (y ∷ ys) st)) e
        (after_from (suc s) ws ys (core.after_wave (machine g p plan.homes block) y st) at.1 o.1
        (next s w st (core.after_wave (machine g p plan.homes block) y st) at.0 b
        (orders_run (machine g p plan.homes block) n (names w) y st (apart s w at.0) o.0)))
      where
        first_of : (xs : List Wave) (k : ℕ) (y : Wave) (ys : List Wave) → drop k xs ≡ y ∷ ys → (slice_get xs k ≡ Some y) × (drop (suc k) xs ≡ ys)
        first_of [] zero y ys e = absurd (cc)
        first_of [] (suc k) y ys e = absurd (cc)
        first_of (z ∷ xs) zero y ys e = let a : z ≡ y = cc in let d : xs ≡ ys = cc in (ap Some a, d)
        first_of (z ∷ xs) (suc k) y ys e = first_of xs k y ys e

    -- **a block, in any orders, takes every live node from time T to time T + n**
    pub block_runs : (orders : List (List ℕ)) (st : core.State Kept) → core.AreOrdersOf n (map names plan.waves) orders
        → ((v : ℕ) → is_live g v ≡ true → st.kept v ≡ kept_at g p x T v)
        → (v : ℕ) → is_live g v ≡ true → (core.after (machine g p plan.homes block) orders st).kept v ≡ kept_at g p x (T + n) v
    block_runs orders st o at v on =
        let b = after_from 0 plan.waves orders st refl o (record { done = λ u i lt. absurd (omega arith); ahead = λ u i le. at u i; has = λ h ch lt. absurd (omega arith) }) in
        b.done v on (stands v on)
      where
        stands : (v : ℕ) → is_live g v ≡ true → wave_of plan.waves v < 0 + length plan.waves
        stands v on =
            let l = stands_in v plan.waves (Contains-permutation (live_nodes g) (flat_map names plan.waves) v (schedule g plan sound c).once
            (filter_has (is_live g) (map (λ m. m.uid.0) g.nodes) v (listed g v (live_by g sound v on)) on)) in
            omega arith

  -- and the buffers of every wave are apart
  pub all_apart : core.AreApart (machine g p plan.homes block) (map names plan.waves)
  all_apart = each plan.waves (λ k w at. apart k w at)
    where
      each : (ws : List Wave) → ((k : ℕ) (w : Wave) → slice_get ws k ≡ Some w → core.IsApart (machine g p plan.homes block) (names w)) → core.AreApart (machine g p plan.homes block) (map names ws)
      each [] h = tt
      each (w ∷ ws) h = (h 0 w refl, each ws (λ k v e. h (suc k) v e))
