-- A wave may run.
use Rattle.std.proofs.Common.{◌≡◌, ℕ, ◌+◌, ◌*◌, ◌^◌, ◌<◌, ◌≤◌, zero, suc, cond, Bool, true, false, ℤ, pos, List, [], ◌∷◌, length, map, take, get_or, refl, sym, ◌∙◌, ap, subst, arith, ⊎_elim, Option, Some, None, ◌==◌}
use Rattle.std.specs.Prelude.{slice_get, AllPairs, unsigned_abs, FitsSigned}
use Rattle.std.specs.Int.{w64}
use Rattle.std.specs.List.{All, Contains, filter, range_with_len}
use Rattle.std.specs.List.Sorted.{IsStrictlyIncreasing}
use Rattle.std.proofs.lemmas.Int.{ints, fits_signed_from_abs}
use Rattle.std.proofs.lemmas.Bool.{cases_lt, cases_order, eqb-true, ne_eqb, cond-false}
use Rattle.std.proofs.lemmas.List.{get_or-map, length-map, get_or_past, take_all}
use Rattle.std.proofs.lemmas.List.FromFn.{get_or-map-range_with_len, length-map-range_with_len}
use Rattle.std.proofs.lemmas.List.Elements.{All-contains, Contains-get_or}
use Rattle.graph_model.specs.Histories.{Frame, before, frame_in}
use Rattle.graph_model.specs.Graphs.{node_named, ins_at, outs_at, connections_into}
use Rattle.graph_model.specs.Paths.{depth, is_live, live_connections}
use Rattle.graph_model.specs.Bounds.{bounds, IsBounded, IsInputFor}
use Rattle.graph_model.specs.Sound.{IsSound}
use Rattle.graph_model.specs.declared.graph.Node.{Node}
use Rattle.graph_model.specs.declared.graph.Bound.{Bound}
use Rattle.graph_model.specs.declared.graph.Connection.{Connection}
use Rattle.graph_model.specs.declared.graph.Graph.{Graph}
use Rattle.graph_model.proofs.PathLaws.{at_tail, same_name}
use Rattle.std.proofs.lemmas.Bool.{or_left, or_right}
use Rattle.plan_model.proofs.PlaceLaws.{has_item}
use Rattle.graph_model.proofs.RankLaws.{sound_is_ranked}
use Rattle.graph_model.proofs.ReachLaws.{filter_from}
use Rattle.plan_model.specs.Pairs.{ComesBefore}
use Rattle.plan_model.specs.Lives.{IsBefore as PortBefore, Port, ports_of}
use Rattle.plan_model.specs.Certified.{IsCertified, positions}
use Rattle.plan_model.specs.Schedules.{names}
use Rattle.plan_model.specs.declared.plan.Plan.{Plan}
use Rattle.plan_model.specs.declared.schedule.Wave.{Wave}
use Rattle.plan_model.specs.declared.buffers.Home.{Home as PlanHome}
use Rattle.plan_model.proofs.DistinctFacts.{Differ, differ_rising}
use Rattle.plan_model.proofs.SavedLaws.{Contains-map, Contains-from_map}
use Rattle.orders.specs.Orders as core
use Rattle.graph_model.specs.Streams.{tap, out_at}
use Rattle.engine_model.specs.Machines.{sum_on}
use Rattle.engine_model.specs.Machines.{Kept, taps, machine, sources, homes_at, channels_into, delays_into}
use Rattle.engine_model.specs.States.{kept_at}
use Rattle.engine_model.proofs.HeadroomLaws.{sums_are_bounded}
use Rattle.pool_waves.specs.declared.job.Home.{Home}
use Rattle.pool_waves.specs.declared.job.Desk.{Desk}
use Rattle.pool_waves.specs.declared.job.Job.{Job}
use Rattle.pool_waves.specs.Exchanges.{desks}
use Rattle.pool_waves.specs.Waves.{IsFree, IsLent, IsWave}
use Rattle.pool_waves.specs.Waves as waves
use Rattle.pool_waves.proofs.ExchangeFacts.{desk_at}
use Rattle.graph_model.specs.Kernels.{IsFrameWithin}
use Rattle.std.specs.List.{find}
use Rattle.plan_model.specs.Lives.{source as source_of}
use Rattle.engine_model.proofs.PlanLaws.{below, values, home_for, buffer_read, schedule}
use Rattle.engine_model.proofs.RunLaws.{IsBefore, reads_right, on_in, apart, one_home, node_in, read_by, into_live}
use Rattle.engine_model.proofs.RunLaws.{wave_is as wave_at}
use Rattle.engine_model.proofs.MachineLaws.{local_is, out_of_lines}
use Rattle.players.specs.declared.gathering.Wire.{Wire}
use Rattle.players.specs.declared.playing.Player.{Player}
use Rattle.players.specs.declared.playing.Server.{Server}
use Rattle.players.specs.declared.playing.Server.TheVariants.{Entry, Exit, Between}
use Rattle.players.specs.Servers.{IsWithinServer}
use Rattle.players.specs.Plays.{samples, run_from, delays_of, CanPlay}
use Rattle.plan_jobs.specs.Hinges.{AreJobsOf, AreAt}
use Rattle.plan_jobs.proofs.HingeFacts.{no_wire, no_home, in_it, desk_job, desk_has, run_same_as, is_free, pick}
use Rattle.plan_jobs.specs.Jobs.{core_home, IsOwnRight, Serves}
use Rattle.players.specs.Reads.{SumsFit, CanRead, CanReadOwn, channels_of}

-- ---- the homes of a node have channels that rise
abbrev pub Rising : List core.Home → Type 0
Rising [] = Unit {0}
Rising (h ∷ hs) = ((k : core.Home) → Contains hs k → h.channel < k.channel) × Rising hs

rises : (homes : List PlanHome) (v : ℕ) → AllPairs PortBefore (ports_of homes) → Rising (homes_at homes v)
rises [] v up = tt
rises (h ∷ homes) v up = go (h.uid.0 == v) refl (rises homes v (λ i j d lt l. up (suc i) (suc j) d (omega arith) (omega arith)))
  where
    later : (h.uid.0 == v) ≡ true → (k : core.Home) → Contains (homes_at homes v) k → h.channel < k.channel
    later t k has =
        let f = Contains-from_map (λ (q : PlanHome). record { channel = q.channel; buffer = q.buffer }) (filter (λ q. q.uid.0 == v) homes) k has in
        let q = filter_from (λ q. q.uid.0 == v) homes f.0 f.1 in
        let after : All (λ (y : Port). ComesBefore (h.uid.0, h.channel) (y.uid.0, y.channel)) (ports_of homes) = λ i d l. up 0 (suc i) d (omega arith) (omega arith) in
        let r = All-contains (λ (y : Port). ComesBefore (h.uid.0, h.channel) (y.uid.0, y.channel)) (ports_of homes) (record { uid = f.0.uid; channel = f.0.channel }) after
        (Contains-map (λ (z : PlanHome). record { uid = z.uid; channel = z.channel }) homes f.0 q.0) in
        let same : h.uid.0 ≡ f.0.uid.0 = eqb-true h.uid.0 v t ∙ sym (eqb-true f.0.uid.0 v q.1) in
        let ch : f.0.channel ≡ k.channel = ap (λ (z : core.Home). z.channel) f.2 in
        ⊎_elim (λ lt. absurd (omega (arith, same))) (λ e. omega (arith, e.1, ch)) r

    go : (b : Bool) → (h.uid.0 == v) ≡ b → Rising (homes_at homes v)
        → Rising (map (λ (q : PlanHome). record { channel = q.channel; buffer = q.buffer }) (cond b (h ∷ filter (λ q. q.uid.0 == v) homes) (filter (λ q. q.uid.0 == v) homes)))
    go true t rest = (later t, rest)
    go false t rest = rest

rising_at : (hs : List core.Home) → Rising hs → (o q : ℕ) (e : core.Home) → o < q → q < length hs → (get_or hs o e).channel < (get_or hs q e).channel
rising_at [] r o q e lt l = absurd (omega arith)
rising_at (h ∷ hs) r o zero e lt l = absurd (omega arith)
rising_at (h ∷ hs) r zero (suc q) e lt l = r.0 (get_or hs q e) (Contains-get_or hs q e (omega arith))
rising_at (h ∷ hs) r (suc o) (suc q) e lt l = rising_at hs r.1 o q e (omega arith) (omega arith)

pub differ_index : (xs : List ℕ) → Differ xs → (i j : ℕ) → i < length xs → j < length xs → get_or xs i 0 ≡ get_or xs j 0 → i ≡ j
differ_index [] d i j li lj e = absurd (omega arith)
differ_index (x ∷ xs) d zero zero li lj e = refl
differ_index (x ∷ xs) d zero (suc j) li lj e = absurd (d.0 (subst (Contains xs) (sym e) (Contains-get_or xs j 0 (omega arith))))
differ_index (x ∷ xs) d (suc i) zero li lj e = absurd (d.0 (subst (Contains xs) e (Contains-get_or xs i 0 (omega arith))))
differ_index (x ∷ xs) d (suc i) (suc j) li lj e = ap suc (differ_index xs d.1 i j (omega arith) (omega arith) e)

pub same_place : (hs : List Home) (L : List core.Home) → map core_home hs ≡ L → Rising L → ((a b : core.Home) → Contains L a → Contains L b → a.buffer ≡ b.buffer → a ≡ b)
    → (o q : ℕ) (e : Home) → o < length hs → q < length hs → (get_or hs o e).buffer ≡ (get_or hs q e).buffer → o ≡ q
same_place hs L is up one o q e lo lq same =
    let at : (k : ℕ) → k < length hs → get_or (map core_home hs) k (core_home e) ≡ core_home (get_or hs k e) = λ k lt. get_or-map core_home hs k e (core_home e) lt in
    let lm = length-map hs core_home in
    let has : (k : ℕ) → k < length hs → Contains (map core_home hs) (core_home (get_or hs k e)) = λ k lt. subst (Contains (map core_home hs)) (at k lt) (Contains-get_or (map core_home hs) k (core_home e) (omega (arith, lm))) in
    let eq : core_home (get_or hs o e) ≡ core_home (get_or hs q e) = one _ _ (subst (λ z. Contains z (core_home (get_or hs o e))) is (has o lo)) (subst (λ z. Contains z (core_home (get_or hs q e))) is (has q lq)) same in
    let ch : (get_or hs o e).channel ≡ (get_or hs q e).channel = ap (λ (z : core.Home). z.channel) eq in
    let up' : Rising (map core_home hs) = subst Rising (sym is) up in
    ⊎_elim (λ x. x) (λ r. absurd (⊎_elim
    (λ lt. let l = rising_at (map core_home hs) up' o q (core_home e) lt (omega (arith, lm)) in let a = ap (λ (z : core.Home). z.channel) (at o lo) in let b = ap (λ (z : core.Home). z.channel) (at q lq) in omega arith)
    (λ lt. let l = rising_at (map core_home hs) up' q o (core_home e) lt (omega (arith, lm)) in let a = ap (λ (z : core.Home). z.channel) (at o lo) in let b = ap (λ (z : core.Home). z.channel) (at q lq) in omega arith)
    r)) (cases_order o q)

-- ---- sums
none_on : (d m : ℕ) (chs : List ℕ) (ys : List ℤ) → ((i : ℕ) → i < length chs → get_or chs i 0 < d) → sum_on d (take m chs) (take m ys) ≡ pos 0
none_on d zero chs ys h = refl
none_on d (suc m) [] ys h = refl
none_on d (suc m) (c ∷ chs) [] h = refl
none_on d (suc m) (c ∷ chs) (y ∷ ys) h =
    let no : (c == d) ≡ false = ne_eqb c d (λ e. let l : c < d = h 0 (omega arith) in omega arith) in
    let rest = none_on d m chs ys (λ i lt. h (suc i) (omega arith)) in
    let here : cond (c == d) y (pos 0) ≡ pos 0 = cond-false (c == d) y (pos 0) no in
    omega (arith, ints)

small_fits : (y : ℤ) → unsigned_abs y ≤ 2 ^ 46 → FitsSigned w64 y
small_fits y le = fits_signed_from_abs w64 y (omega (arith, le))

named_in : (ns : List Node) (v : ℕ) (m : Node) → find (λ k. k.uid.0 == v) ns ≡ Some m → Contains ns m × (m.uid.0 ≡ v)
named_in [] v m e = absurd (cc)
named_in (k ∷ ns) v m e = go (k.uid.0 == v) refl e (named_in ns v m)
  where
    go : (b : Bool) → (k.uid.0 == v) ≡ b → cond b (Some k) (find (λ l. l.uid.0 == v) ns) ≡ Some m → (find (λ l. l.uid.0 == v) ns ≡ Some m → Contains ns m × (m.uid.0 ≡ v)) → Contains (k ∷ ns) m × (m.uid.0 ≡ v)
    go true t f rest = let same : k ≡ m = cc in ((0, omega arith, same), ap (λ (l : Node). l.uid.0) (sym same) ∙ eqb-true k.uid.0 v t)
    go false t f rest = let r = rest f in (at_tail k m ns r.0, r.1)

bound_at : (bs : List ℕ) (d : ℕ) → All (λ b. b ≤ 2 ^ 46) bs → get_or bs d 0 ≤ 2 ^ 46
bound_at bs d all = ⊎_elim (λ lt. all d 0 lt) (λ ge. let z : get_or bs d 0 ≡ 0 = get_or_past bs d 0 ge in omega arith) (cases_lt d (length bs))

module _ (g : Graph) (plan : Plan) (sound : IsSound g) (c : IsCertified g plan) (x : ℕ → Frame) (T n : ℕ) (input : List ℤ) (chans : ℕ)
    (brings : (k : ℕ) → k < n → frame_in chans input k ≡ x (T + k)) (small : (t : ℕ) → IsInputFor g (before x t))
    (k0 : ℕ) (w : Wave) (at : slice_get plan.waves k0 ≡ Some w)
    (pool : List (List ℤ)) (jobs : List (Job Player)) (js : AreJobsOf g (positions plan) plan (names w) jobs) (st : core.State Kept) (here : AreAt (names w) jobs pool st)
    (it : IsBefore g plan sound c (positions plan) (frame_in chans input) x T n brings k0 st)
    (pool_len : length pool ≡ plan.channels) (room : (b : ℕ) → b < length pool → n ≤ length (get_or pool b [])) (size : n < 2 ^ 63) (entry : n * chans ≤ length input)
    (outs : (i : ℕ) (d : Job Player) → i < length jobs → length (get_or jobs i d).desk.outs.items ≡ length (get_or jobs i d).desk.homes.items) where
  -- a home of a job is one of the plan's
  plan_home : (i o : ℕ) (d : Job Player) (e : Home) → i < length jobs → o < length (get_or jobs i d).desk.homes.items
      → (h : PlanHome) × Contains plan.homes h × (h.uid.0 ≡ get_or (names w) i 0) × (h.buffer ≡ (get_or (get_or jobs i d).desk.homes.items o e).buffer) × (h.channel ≡ (get_or (get_or jobs i d).desk.homes.items o e).channel)
  plan_home i o d e lt lo =
      let has = subst (λ z. Contains z (core_home (get_or (get_or jobs i d).desk.homes.items o e))) (js.each i d lt).homes_are (desk_has (get_or jobs i d).desk.homes.items o e lo) in
      let f = Contains-from_map (λ (q : PlanHome). record { channel = q.channel; buffer = q.buffer }) (filter (λ q. q.uid.0 == get_or (names w) i 0) plan.homes) (core_home (get_or (get_or jobs i d).desk.homes.items o e)) has in
      let q = filter_from (λ q. q.uid.0 == get_or (names w) i 0) plan.homes f.0 f.1 in
      (f.0, q.0, eqb-true f.0.uid.0 (get_or (names w) i 0) q.1, ap (λ (z : core.Home). z.buffer) f.2, ap (λ (z : core.Home). z.channel) f.2)

  in_pool : (i o : ℕ) (d : Job Player) (e : Home) → i < length jobs → o < length (get_or jobs i d).desk.homes.items → (get_or (get_or jobs i d).desk.homes.items o e).buffer < length pool
  in_pool i o d e lt lo =
      let h = plan_home i o d e lt lo in
      let b = below g plan sound c h.0 h.1 in
      let s = h.3 in
      omega (arith, pool_len, s)

  values_in : (i o : ℕ) (d : Job Player) (e : Home) → i < length jobs → o < length (get_or jobs i d).desk.homes.items → (get_or (get_or jobs i d).desk.homes.items o e).channel < outs_at g (get_or (names w) i 0)
  values_in i o d e lt lo =
      let h = plan_home i o d e lt lo in
      let v = values g plan sound c in
      let port = Contains-map (λ (z : PlanHome). record { uid = z.uid; channel = z.channel }) plan.homes h.0 h.1 in
      let r = All-contains (λ (y : Port). (b : Connection) × Contains (live_connections g) b × (source_of b ≡ y)) (ports_of plan.homes) (record { uid = h.0.uid; channel = h.0.channel }) v.each port in
      let there = (filter_from (λ b. is_live g b.dst.0) g.connections r.0 r.1).0 in
      let ok = sound.shaped.connections there.0 r.0 there.1 in
      let lt2 : (get_or g.connections there.0 r.0).src_channel < outs_at g (get_or g.connections there.0 r.0).src.0 = ok.source_channel in
      let lt3 : r.0.src_channel < outs_at g r.0.src.0 = subst (λ (b : Connection). b.src_channel < outs_at g b.src.0) there.2 lt2 in
      let u : r.0.src.0 ≡ get_or (names w) i 0 = ap (λ (y : Port). y.uid.0) r.2 ∙ h.2 in
      let ch : r.0.src_channel ≡ (get_or (get_or jobs i d).desk.homes.items o e).channel = ap (λ (y : Port). y.channel) r.2 ∙ h.4 in
      subst (λ z. z < outs_at g (get_or (names w) i 0)) ch (subst (λ z. r.0.src_channel < outs_at g z) u lt3)

  -- ---- its sums
  module _ (i : ℕ) (d : Job Player) (lt : i < length jobs) where
    abbrev v : ℕ
    v = get_or (names w) i 0

    live : is_live g (get_or (names w) i 0) ≡ true
    live = on_in g plan sound c (positions plan) (frame_in chans input) k0 (get_or (names w) i 0) w at (in_it g plan sound c (frame_in chans input) k0 w at n pool jobs js st here i lt)

    kept_is : (m : ℕ) → m ≤ n → core.kept_after (machine g (positions plan) plan.homes (frame_in chans input)) st (get_or (names w) i 0) m ≡ kept_at g (positions plan) x (T + m) (get_or (names w) i 0)
    kept_is m le =
        let i_in = in_it g plan sound c (frame_in chans input) k0 w at n pool jobs js st here i lt in
        let wv = wave_at g plan sound c (positions plan) (frame_in chans input) k0 (get_or (names w) i 0) w at i_in in
        local_is g (positions plan) (depth g) plan.homes x (frame_in chans input) T n (get_or (names w) i 0) st (sound_is_ranked g sound) brings
        (it.ahead (get_or (names w) i 0) live (omega arith))
        (reads_right g plan sound c (positions plan) (frame_in chans input) x T n brings k0 w st at it (get_or (names w) i 0) i_in) m le

    taps_are : (q : List (List ℤ)) → IsLent (desks jobs) pool q → (t : ℕ) → t < n
        → taps (delays_of (get_or jobs i d).part) (run_from (get_or jobs i d).part (frame_in chans input) (samples q (waves.taken pool (get_or jobs i d).desk.homes.items) (get_or jobs i d).part.wires.items) 0 (suc t) (st.kept (get_or (names w) i 0))).passed
        ≡ map (λ e. tap g (positions plan) (out_at g (positions plan) x) e (T + t)) (connections_into g (get_or (names w) i 0))
    taps_are q lent t small_t =
        let next : T + suc t ≡ suc (T + t) = omega arith in
        ap (λ ds. taps ds (run_from (get_or jobs i d).part (frame_in chans input) (samples q (waves.taken pool (get_or jobs i d).desk.homes.items) (get_or jobs i d).part.wires.items) 0 (suc t) (st.kept (get_or (names w) i 0))).passed) (js.each i d lt).delays
        ∙ ap (λ (z : Kept). taps (delays_into g (positions plan) (get_or (names w) i 0)) z.passed)
        (run_same_as g plan sound c (frame_in chans input) k0 w at n pool jobs js st here q lent i d lt (suc t) ∙ kept_is (suc t) (omega arith) ∙ ap (λ m. kept_at g (positions plan) x m (get_or (names w) i 0)) next)
        ∙ out_of_lines g (positions plan) x (T + t) (connections_into g (get_or (names w) i 0))

    bounded : (m : Node) → node_named g (get_or (names w) i 0) ≡ Some m → All (λ b. b ≤ 2 ^ 46) (bounds g (get_or (names w) i 0)).ins
    bounded m named =
        let f = named_in g.nodes (get_or (names w) i 0) m named in
        subst (λ u. All (λ b. b ≤ 2 ^ 46) (bounds g u).ins) f.1 (All-contains (λ (k : Node). IsBounded (bounds g k.uid.0)) g.nodes m sound.headroom f.0).0

    part_bound : (dd m t : ℕ) → dd < ins_at g (get_or (names w) i 0) → unsigned_abs (sum_on dd (take m (channels_into g (get_or (names w) i 0))) (take m (map (λ e. tap g (positions plan) (out_at g (positions plan) x) e (T + t)) (connections_into g (get_or (names w) i 0))))) ≤ get_or (bounds g (get_or (names w) i 0)).ins dd 0
    part_bound dd m t ld = sums_are_bounded g (positions plan) x (get_or (names w) i 0) dd m (T + t) (small (T + t + 1)) ld

    channels_below : (j : ℕ) → j < length (channels_into g (get_or (names w) i 0)) → get_or (channels_into g (get_or (names w) i 0)) j 0 < ins_at g (get_or (names w) i 0)
    channels_below j lj =
        let p = js.each i d lt in
        let lw : j < length (get_or jobs i d).part.wires.items = subst (λ z. j < z) (sym (ap length p.channels) ∙ length-map (get_or jobs i d).part.wires.items (λ (u : Wire). u.channel)) lj in
        subst (λ z. get_or (channels_into g (get_or (names w) i 0)) j 0 < z) p.ins
        (subst (λ cs. get_or cs j 0 < (get_or jobs i d).part.ins) p.channels
        (subst (λ z. z < (get_or jobs i d).part.ins) (sym (get_or-map (λ (u : Wire). u.channel) (get_or jobs i d).part.wires.items j no_wire 0 lw)) (p.whole.channels j no_wire lw)))

    all_fit : (m : Node) → node_named g (get_or (names w) i 0) ≡ Some m → (t : ℕ) → SumsFit (channels_into g (get_or (names w) i 0)) (map (λ e. tap g (positions plan) (out_at g (positions plan) x) e (T + t)) (connections_into g (get_or (names w) i 0)))
    all_fit m named t = λ dd k.
        ⊎_elim
        (λ ld. let b = part_bound dd k t ld in let l = bound_at (bounds g (get_or (names w) i 0)).ins dd (bounded m named) in small_fits _ (omega arith))
        (λ ge.
        let z = none_on dd k (channels_into g (get_or (names w) i 0)) (map (λ e. tap g (positions plan) (out_at g (positions plan) x) e (T + t)) (connections_into g (get_or (names w) i 0))) (λ j lj. let l = channels_below j lj in omega arith) in
        subst (λ y. FitsSigned w64 y) (sym z) (small_fits (pos 0) (omega arith)))
        (cases_lt dd (ins_at g (get_or (names w) i 0)))

    frame_within : (t : ℕ) → IsFrameWithin (bounds g (get_or (names w) i 0)).ins (map (λ dd. sum_on dd (channels_into g (get_or (names w) i 0)) (map (λ e. tap g (positions plan) (out_at g (positions plan) x) e (T + t)) (connections_into g (get_or (names w) i 0)))) (range_with_len 0 (ins_at g (get_or (names w) i 0))))
    frame_within t = λ dd.
        let ys = map (λ e. tap g (positions plan) (out_at g (positions plan) x) e (T + t)) (connections_into g (get_or (names w) i 0)) in
        let f : ℕ → ℤ = λ k. sum_on k (channels_into g (get_or (names w) i 0)) (map (λ e. tap g (positions plan) (out_at g (positions plan) x) e (T + t)) (connections_into g (get_or (names w) i 0))) in
        let m = length (connections_into g (get_or (names w) i 0)) in
        ⊎_elim
        (λ ld.
        let whole1 = take_all (length (connections_into g (get_or (names w) i 0))) (channels_into g (get_or (names w) i 0)) (omega (arith, length-map (connections_into g (get_or (names w) i 0)) (λ (e : Connection). e.dst_channel))) in
        let whole2 = take_all (length (connections_into g (get_or (names w) i 0))) (map (λ e. tap g (positions plan) (out_at g (positions plan) x) e (T + t)) (connections_into g (get_or (names w) i 0))) (omega (arith, length-map (connections_into g (get_or (names w) i 0)) (λ (e : Connection). tap g (positions plan) (out_at g (positions plan) x) e (T + t)))) in
        let b = part_bound dd (length (connections_into g (get_or (names w) i 0))) t ld in
        let at_it = get_or-map-range_with_len f 0 (ins_at g (get_or (names w) i 0)) dd dd (pos 0) ld (omega arith) in
        subst (λ y. unsigned_abs y ≤ get_or (bounds g (get_or (names w) i 0)).ins dd 0) (sym at_it)
        (subst (λ z. unsigned_abs (sum_on dd (channels_into g (get_or (names w) i 0)) z) ≤ get_or (bounds g (get_or (names w) i 0)).ins dd 0) whole2
        (subst (λ z. unsigned_abs (sum_on dd z (take (length (connections_into g (get_or (names w) i 0))) (map (λ e. tap g (positions plan) (out_at g (positions plan) x) e (T + t)) (connections_into g (get_or (names w) i 0))))) ≤ get_or (bounds g (get_or (names w) i 0)).ins dd 0) whole1 b)))
        (λ ge.
        let z = get_or_past (map f (range_with_len 0 (ins_at g (get_or (names w) i 0)))) dd (pos 0) (omega (arith, length-map-range_with_len f 0 (ins_at g (get_or (names w) i 0)))) in
        subst (λ y. unsigned_abs y ≤ get_or (bounds g (get_or (names w) i 0)).ins dd 0) (sym z) (omega arith))
        (cases_lt dd (ins_at g (get_or (names w) i 0)))

  -- ---- what it reads is there
  wire_reads : (i : ℕ) (d : Job Player) (lt : i < length jobs) (j : ℕ) (e : Wire) → j < length (get_or jobs i d).part.wires.items
      → (core.is_read (sources g plan.homes (get_or (names w) i 0)) (get_or (get_or jobs i d).part.wires.items j e).buffer ≡ true) × ((get_or (get_or jobs i d).part.wires.items j e).buffer < length pool)
  wire_reads i d lt j e lj =
      let p = js.each i d lt in
      let b_is : get_or (sources g plan.homes (get_or (names w) i 0)) j 0 ≡ (get_or (get_or jobs i d).part.wires.items j e).buffer =
      ap (λ bs. get_or bs j 0) (sym p.buffers) ∙ get_or-map (λ (u : Wire). u.buffer) (get_or jobs i d).part.wires.items j e 0 lj in
      let ls : j < length (sources g plan.homes (get_or (names w) i 0)) = subst (λ bs. j < length bs) p.buffers (subst (λ z. j < z) (sym (length-map (get_or jobs i d).part.wires.items (λ (u : Wire). u.buffer))) lj) in
      let r = read_there (sources g plan.homes (get_or (names w) i 0)) j ls in
      let cn = read_by g plan.homes (connections_into g (get_or (names w) i 0)) (get_or (sources g plan.homes (get_or (names w) i 0)) j 0) r in
      let on = into_live g plan sound c (positions plan) (frame_in chans input) (get_or (names w) i 0) cn.0 (live i d lt) cn.1 in
      let h = home_for g plan sound c cn.0 on.0 in
      let b = below g plan sound c h.0 h.1 in
      let same = buffer_read g plan sound c cn.0 h.0 h.1 h.2 h.3 in
      let eq = cn.2 in
      (subst (λ z. core.is_read (sources g plan.homes (get_or (names w) i 0)) z ≡ true) b_is r, omega (arith, same, eq, b_is, pool_len, b))
    where
      read_there : (bs : List ℕ) (k : ℕ) → k < length bs → core.is_read bs (get_or bs k 0) ≡ true
      read_there [] k lk = absurd (omega arith)
      read_there (b ∷ bs) zero lk = or_left (b == b) (core.is_read bs b) (same_name b)
      read_there (b ∷ bs) (suc k) lk = or_right (b == get_or bs k 0) (core.is_read bs (get_or bs k 0)) (read_there bs k (omega arith))

  can_read : (i : ℕ) (d : Job Player) (lt : i < length jobs) (q : List (List ℤ)) → IsLent (desks jobs) pool q → (j : ℕ) (e : Wire) → j < length (get_or jobs i d).part.wires.items
      → CanRead q (waves.taken pool (get_or jobs i d).desk.homes.items) n (get_or (get_or jobs i d).part.wires.items j e)
  can_read i d lt q lent j e lj =
      let r = wire_reads i d lt j e lj in
      own (get_or (get_or jobs i d).part.wires.items j e).own (get_or (get_or jobs i d).part.wires.items j e).buffer r.0 r.1 ((js.each i d lt).own j e lj)
    where
      own : (o : Option ℕ) (b : ℕ) → core.is_read (sources g plan.homes (get_or (names w) i 0)) b ≡ true → b < length pool → IsOwnRight (get_or jobs i d).desk.homes.items b o
          → CanReadOwn o q (waves.taken pool (get_or jobs i d).desk.homes.items) b n
      own None b r within right =
          let f = is_free g plan sound c (frame_in chans input) k0 w at n pool jobs js st here i d lt b r right in
          (subst (λ z. b < z) (sym lent.len) within, subst (λ l. n ≤ length l) (sym (lent.free b f)) (room b within))
      own (Some o) b r within right =
          let lm = length-map (get_or jobs i d).desk.homes.items (λ (h : Home). get_or pool h.buffer []) in
          let is : get_or (waves.taken pool (get_or jobs i d).desk.homes.items) o [] ≡ get_or pool b [] = get_or-map (λ (h : Home). get_or pool h.buffer []) (get_or jobs i d).desk.homes.items o no_home [] right.0 ∙ ap (λ z. get_or pool z []) (right.1 no_home) in
          (let l = right.0 in omega (arith, lm), subst (λ l. n ≤ length l) (sym is) (room b within))

  server_within : (i : ℕ) (d : Job Player) (lt : i < length jobs) (m : Node) → node_named g (get_or (names w) i 0) ≡ Some m → (t : ℕ)
      → IsWithinServer (get_or jobs i d).part.server (map (λ dd. sum_on dd (channels_into g (get_or (names w) i 0)) (map (λ e. tap g (positions plan) (out_at g (positions plan) x) e (T + t)) (connections_into g (get_or (names w) i 0)))) (range_with_len 0 (ins_at g (get_or (names w) i 0))))
  server_within i d lt m named t = go (get_or jobs i d).part.server ((js.each i d lt).server m named)
    where
      go : (sv : Server) → Serves m.kind (bounds g (get_or (names w) i 0)) sv → IsWithinServer sv (map (λ dd. sum_on dd (channels_into g (get_or (names w) i 0)) (map (λ e. tap g (positions plan) (out_at g (positions plan) x) e (T + t)) (connections_into g (get_or (names w) i 0)))) (range_with_len 0 (ins_at g (get_or (names w) i 0))))
      go Entry s = tt
      go (Exit x) s = tt
      go (Between p) s = subst (λ (b : Bound). IsFrameWithin b.ins (map (λ dd. sum_on dd (channels_into g (get_or (names w) i 0)) (map (λ e. tap g (positions plan) (out_at g (positions plan) x) e (T + t)) (connections_into g (get_or (names w) i 0)))) (range_with_len 0 (ins_at g (get_or (names w) i 0))))) (sym s.3) (frame_within i d lt t)

  -- **a wave of a certified plan may run**
  pub wave_ready : IsWave (λ q hs os a. CanPlay input chans q hs os n a) pool jobs
  wave_ready = record {
    outs = outs;
    within = λ i o d e lt lo. in_pool i o d e lt lo;
    apart = record {
      apart = λ i j o q d e li lj lo lq same.
          let a = desk_job g plan sound c (frame_in chans input) k0 w at n pool jobs js st here i o d e li lo in
          let b = desk_job g plan sound c (frame_in chans input) k0 w at n pool jobs js st here j q d e lj lq in
          let wa : core.writes (homes_at plan.homes (get_or (names w) i 0)) (get_or (get_or (desks jobs) j d).homes.items q e).buffer ≡ true = subst (λ z. core.writes (homes_at plan.homes (get_or (names w) i 0)) z ≡ true) same a.1 in
          let nodes = (apart g plan sound c (positions plan) (frame_in chans input) k0 w at).no_write (get_or (names w) i 0) (get_or (names w) j 0) (get_or (get_or (desks jobs) j d).homes.items q e).buffer
          (in_it g plan sound c (frame_in chans input) k0 w at n pool jobs js st here i a.0) (in_it g plan sound c (frame_in chans input) k0 w at n pool jobs js st here j b.0) wa b.1 in
          let rising : IsStrictlyIncreasing (names w) = All-contains (λ y. IsStrictlyIncreasing (names y)) plan.waves w (schedule g plan sound c).rising (has_item plan.waves k0 w at) in
          let ij = differ_index (names w) (differ_rising (names w) rising) i j (subst (λ z. i < z) js.len a.0) (subst (λ z. j < z) js.len b.0) nodes in
          let jd = pick jobs i a.0 in
          let di = desk_at jobs i (pick jobs i a.0) d a.0 in
          let hs = (get_or jobs i (pick jobs i a.0)).desk.homes.items in
          let lo2 : o < length (get_or jobs i (pick jobs i a.0)).desk.homes.items = subst (λ (z : Desk). o < length z.homes.items) di lo in
          let lq2 : q < length (get_or jobs i (pick jobs i a.0)).desk.homes.items = subst (λ (z : Desk). q < length z.homes.items) di (subst (λ k. q < length (get_or (desks jobs) k d).homes.items) (sym ij) lq) in
          let same2 : (get_or (get_or jobs i (pick jobs i a.0)).desk.homes.items o e).buffer ≡ (get_or (get_or jobs i (pick jobs i a.0)).desk.homes.items q e).buffer =
          ap (λ (z : Desk). (get_or z.homes.items o e).buffer) (sym di) ∙ same ∙ ap (λ k. (get_or (get_or (desks jobs) k d).homes.items q e).buffer) (sym ij) ∙ ap (λ (z : Desk). (get_or z.homes.items q e).buffer) di in (
            ij,
            same_place (get_or jobs i (pick jobs i a.0)).desk.homes.items (homes_at plan.homes (get_or (names w) i 0)) (js.each i (pick jobs i a.0) a.0).homes_are
                (rises plan.homes (get_or (names w) i 0) (values g plan sound c).ascending)
                (λ y z cy cz eq. one_home g plan sound c (positions plan) (frame_in chans input) (get_or (names w) i 0) y z cy cz eq) o q e lo2 lq2 same2,
          );
    };
    each = λ q lent i d lt.
        let p = js.each i d lt in
        let nd = node_in g plan sound c (positions plan) (frame_in chans input) k0 (get_or (names w) i 0) w at (in_it g plan sound c (frame_in chans input) k0 w at n pool jobs js st here i lt) in
        let lm = length-map (get_or jobs i d).desk.homes.items (λ (h : Home). get_or pool h.buffer []) in
        record {
          whole = p.whole;
          size = size;
          sources = λ j e lj. can_read i d lt q lent j e lj;
          homes_len = sym lm;
          values = λ o e lo. subst (λ z. (get_or (get_or jobs i d).desk.homes.items o e).channel < z) (sym p.outs) (values_in i o d e lt lo);
          room = λ o lo.
              let lo2 : o < length (get_or jobs i d).desk.homes.items = omega (arith, lm) in
              let is = get_or-map (λ (h : Home). get_or pool h.buffer []) (get_or jobs i d).desk.homes.items o no_home [] lo2 in
              subst (λ l. n ≤ length l) (sym is) (room (get_or (get_or jobs i d).desk.homes.items o no_home).buffer (in_pool i o d no_home lt lo2));
          state = st.kept (get_or (names w) i 0);
          holds = here.holds i d lt;
          fit = λ t small_t.
              subst (λ ys. SumsFit (channels_of (get_or jobs i d).part.wires.items) ys) (sym (taps_are i d lt q lent t small_t))
              (subst (λ cs. SumsFit cs (map (λ e. tap g (positions plan) (out_at g (positions plan) x) e (T + t)) (connections_into g (get_or (names w) i 0)))) (sym p.channels) (all_fit i d lt nd.0 nd.1 t));
          within = λ t small_t.
              subst (λ ys. IsWithinServer (get_or jobs i d).part.server (map (λ dd. sum_on dd (channels_of (get_or jobs i d).part.wires.items) ys) (range_with_len 0 (get_or jobs i d).part.ins))) (sym (taps_are i d lt q lent t small_t))
              (subst (λ cs. IsWithinServer (get_or jobs i d).part.server (map (λ dd. sum_on dd cs (map (λ e. tap g (positions plan) (out_at g (positions plan) x) e (T + t)) (connections_into g (get_or (names w) i 0)))) (range_with_len 0 (get_or jobs i d).part.ins))) (sym p.channels)
              (subst (λ k. IsWithinServer (get_or jobs i d).part.server (map (λ dd. sum_on dd (channels_into g (get_or (names w) i 0)) (map (λ e. tap g (positions plan) (out_at g (positions plan) x) e (T + t)) (connections_into g (get_or (names w) i 0)))) (range_with_len 0 k))) (sym p.ins)
              (server_within i d lt nd.0 nd.1 t)));
          entry = entry;
        };
  }
