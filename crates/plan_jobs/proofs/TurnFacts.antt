-- Wave after wave.
use Rattle.std.proofs.Common.{◌≡◌, ℕ, ◌+◌, ◌-◌, ◌<◌, ◌≤◌, zero, suc, false, ℤ, List, [], ◌∷◌, ◌++◌, length, map, take, drop, get_or, refl, sym, ◌∙◌, ap, subst, arith, inl, inr, ⊎_elim, Some}
use Rattle.std.specs.Prelude.{◌⊎◌, slice_get}
use Rattle.std.specs.List.{flat_map}
use Rattle.std.proofs.lemmas.Bool.{cases_lt, false_from_ne_true}
use Rattle.std.proofs.lemmas.List.{get_or_default, get_or-take, get_or-drop, get_or_append_left, get_or-append_right, length-take, length-drop, length-append, length-map, take_all}
use borrow.Rule.Slice.PartMut.{put_mid, post_of}
use Rattle.graph_model.specs.Histories.{frame_in}
use Rattle.graph_model.specs.Bounds.{bounds}
use Rattle.graph_model.specs.Paths.{live_nodes}
use Rattle.graph_model.specs.Sound.{IsSound}
use Rattle.graph_model.specs.declared.kind.Kind.{Kind}
use Rattle.graph_model.specs.declared.graph.Bound.{Bound}
use Rattle.graph_model.specs.declared.graph.Graph.{Graph}
use Rattle.plan_model.specs.Certified.{IsCertified, positions}
use Rattle.plan_model.specs.Schedules.{names}
use Rattle.plan_model.specs.declared.plan.Plan.{Plan}
use Rattle.plan_model.specs.declared.schedule.Wave.{Wave}
use Rattle.plan_model.specs.declared.buffers.Home.{Home as PlanHome}
use Rattle.plan_model.proofs.DistinctFacts.{Differ, differ_permuted}
use Rattle.plan_model.proofs.WaveLaws.{live_differ}
use Rattle.orders.specs.Orders as core
use Rattle.orders.proofs.CountLaws.{orders_run}
use Rattle.engine_model.specs.Machines.{Kept, machine}
use Rattle.engine_model.proofs.PlanLaws.{schedule, of_is_in}
use Rattle.engine_model.proofs.RunLaws.{IsBefore, next, apart}
use Rattle.engine_model.proofs.OrderLaws.{some_order, orders_never_show}
use Rattle.pool_waves.specs.declared.job.Home.{Home}
use Rattle.pool_waves.specs.declared.job.Job.{Job}
use Rattle.pool_waves.specs.Waves.{IsWave, WaveRan}
use Rattle.players.specs.declared.gathering.Wire.{Wire}
use Rattle.players.specs.declared.playing.Player.{Player}
use Rattle.players.specs.declared.playing.Server.{Server}
use Rattle.players.specs.declared.playing.Server.TheVariants.{Entry, Exit, Between}
use Rattle.players.specs.Servers.{SameServer}
use Rattle.players.specs.Plays.{CanPlay, PlayerDone, IsOfSame, IsWhole, Holds}
use Rattle.plan_jobs.specs.Jobs.{IsOwnRight, Serves, IsPlayerOf}
use Rattle.plan_jobs.specs.Hinges.{AreJobsOf, AreAt}
use Rattle.plan_jobs.specs.Blocks.{AreEnds, nodes_before, all_nodes, JobStays, CanRunBlock, BlockHasRun}
use Rattle.plan_jobs.proofs.HingeFacts.{wave_is, lengths_then}
use Rattle.plan_jobs.proofs.ReadyFacts.{wave_ready, differ_index}

-- ---- parts of a list
put_before : {X : Type 0} (a k : ℕ) (xs ys : List X) (i : ℕ) (d : X) → i < a → a ≤ length xs → get_or (put_mid a k xs ys) i d ≡ get_or xs i d
put_before a k xs ys i d lt le =
    get_or_append_left (take a xs) (ys ++ post_of a k xs) d i (let e = length-take a xs in omega (arith, e)) ∙ get_or-take a xs i d lt

put_at : {X : Type 0} (a k : ℕ) (xs ys : List X) (i : ℕ) (d : X) → i < length ys → a ≤ length xs → get_or (put_mid a k xs ys) (a + i) d ≡ get_or ys i d
put_at a k xs ys i d lt le =
    let e : length (take a xs) ≡ a = length-take a xs ∙ omega arith in
    get_or-append_right (take a xs) (ys ++ post_of a k xs) a (a + i) d e (omega arith)
    ∙ (ap (λ z. get_or (ys ++ post_of a k xs) z d) (omega arith) ∙ get_or_append_left ys (post_of a k xs) d i lt)

put_after : {X : Type 0} (a k : ℕ) (xs ys : List X) (i : ℕ) (d : X) → length ys ≡ k → a + k ≤ i → a ≤ length xs → get_or (put_mid a k xs ys) i d ≡ get_or xs i d
put_after a k xs ys i d ly le la =
    let e : length (take a xs) ≡ a = length-take a xs ∙ omega arith in
    get_or-append_right (take a xs) (ys ++ post_of a k xs) a i d e (omega arith)
    ∙ (get_or-append_right ys (post_of a k xs) k (i - a) d ly (omega arith)
    ∙ (get_or-drop k (drop a xs) (i - a - k) d ∙ (get_or-drop a xs (k + (i - a - k)) d ∙ ap (λ z. get_or xs z d) (omega arith))))

slice_len : {X : Type 0} (a e : ℕ) (xs : List X) → e ≤ length xs → length (take (e - a) (drop a xs)) ≡ e - a
slice_len a e xs le = length-take (e - a) (drop a xs) ∙ (let q = length-drop a xs in omega (arith, q))

slice_at : {X : Type 0} (a e : ℕ) (xs : List X) (i : ℕ) (d : X) → i < e - a → get_or (take (e - a) (drop a xs)) i d ≡ get_or xs (a + i) d
slice_at a e xs i d lt = get_or-take (e - a) (drop a xs) i d lt ∙ get_or-drop a xs i d

past_front : {X : Type 0} (a b : List X) (j : ℕ) (d : X) → get_or (a ++ b) (length a + j) d ≡ get_or b j d
past_front [] b j d = let e : 0 + j ≡ j = omega arith in ap (λ k. get_or b k d) e
past_front (x ∷ a) b j d = let e : length (x ∷ a) + j ≡ suc (length a + j) = omega arith in ap (λ k. get_or (x ∷ (a ++ b)) k d) e ∙ past_front a b j d

-- ---- the nodes of a wave in the list of all
flat_at : (ws : List Wave) (k : ℕ) (w : Wave) (i : ℕ) → slice_get ws k ≡ Some w → i < length (names w) → get_or (flat_map names ws) (length (flat_map names (take k ws)) + i) 0 ≡ get_or (names w) i 0
flat_at [] k w i e lt = absurd (cc)
flat_at (x ∷ ws) zero w i e lt =
    let same : x ≡ w = cc in
    let z : 0 + i ≡ i = omega arith in
    ap (λ k. get_or (names x ++ flat_map names ws) k 0) z ∙ get_or_append_left (names x) (flat_map names ws) 0 i (subst (λ (y : Wave). i < length (names y)) (sym same) lt) ∙ ap (λ (y : Wave). get_or (names y) i 0) same
flat_at (x ∷ ws) (suc k) w i e lt =
    let l = length-append (names x) (flat_map names (take k ws)) in
    let z : length (flat_map names (take (suc k) (x ∷ ws))) + i ≡ length (names x) + (length (flat_map names (take k ws)) + i) = omega (arith, l) in
    ap (λ j. get_or (names x ++ flat_map names ws) j 0) z ∙ past_front (names x) (flat_map names ws) (length (flat_map names (take k ws)) + i) 0 ∙ flat_at ws k w i e lt

flat_len : (ws : List Wave) (k : ℕ) (w : Wave) → slice_get ws k ≡ Some w → length (flat_map names (take (suc k) ws)) ≡ length (flat_map names (take k ws)) + length (names w)
flat_len [] k w e = absurd (cc)
flat_len (x ∷ ws) zero w e = let same : x ≡ w = cc in length-append (names x) [] ∙ (let l = ap (λ (y : Wave). length (names y)) same in omega (arith, l))
flat_len (x ∷ ws) (suc k) w e =
    let a = length-append (names x) (flat_map names (take (suc k) ws)) in
    let b = length-append (names x) (flat_map names (take k ws)) in
    let r = flat_len ws k w e in
    omega (arith, a, b, r)

flat_most : (ws : List Wave) (k : ℕ) → length (flat_map names (take k ws)) ≤ length (flat_map names ws)
flat_most ws zero = omega arith
flat_most [] (suc k) = omega arith
flat_most (x ∷ ws) (suc k) = let a = length-append (names x) (flat_map names (take k ws)) in let b = length-append (names x) (flat_map names ws) in let r = flat_most ws k in omega (arith, a, b, r)

item_of : {X : Type 0} (xs : List X) (k : ℕ) → k < length xs → (x : X) × (slice_get xs k ≡ Some x)
item_of [] k lt = absurd (omega arith)
item_of (x ∷ xs) zero lt = (x, refl)
item_of (x ∷ xs) (suc k) lt = item_of xs k (omega arith)

flat_differ : (g : Graph) (plan : Plan) (sound : IsSound g) (c : IsCertified g plan) → Differ (all_nodes plan)
flat_differ g plan sound c =
    differ_permuted (live_nodes g) (all_nodes plan) (schedule g plan sound c).once (live_differ g sound plan.waves)

-- ---- a player stays that of its node
pub itself : (s : Server) → SameServer s s
itself Entry = tt
itself (Exit x) = (refl, refl)
itself (Between p) = (refl, refl)

same_twice : (a b c : Server) → SameServer a b → SameServer b c → SameServer a c
same_twice Entry Entry Entry s t = tt
same_twice (Exit x) (Exit y) (Exit z) s t = (t.0 ∙ s.0, t.1 ∙ s.1)
same_twice (Between p) (Between q) (Between r) s t = (t.0 ∙ s.0, t.1 ∙ s.1)
same_twice Entry Entry (Exit x) s t = absurd t
same_twice Entry Entry (Between r) s t = absurd t
same_twice Entry (Exit x) c s t = absurd s
same_twice Entry (Between q) c s t = absurd s
same_twice (Exit x) Entry c s t = absurd s
same_twice (Exit x) (Exit y) Entry s t = absurd t
same_twice (Exit x) (Exit y) (Between r) s t = absurd t
same_twice (Exit x) (Between q) c s t = absurd s
same_twice (Between p) Entry c s t = absurd s
same_twice (Between p) (Exit x) c s t = absurd s
same_twice (Between p) (Between q) Entry s t = absurd t
same_twice (Between p) (Between q) (Exit x) s t = absurd t

serves_stays : (kind : Kind) (bound : Bound) (a b : Server) → SameServer a b → Serves kind bound a → Serves kind bound b
serves_stays kind bound Entry Entry s h = h
serves_stays kind bound Entry (Exit x) s h = absurd s
serves_stays kind bound Entry (Between q) s h = absurd s
serves_stays kind bound (Exit x) Entry s h = absurd s
serves_stays kind bound (Exit x) (Exit y) s h = (h.0, s.1 ∙ h.1)
serves_stays kind bound (Exit x) (Between q) s h = absurd s
serves_stays kind bound (Between p) Entry s h = absurd s
serves_stays kind bound (Between p) (Exit x) s h = absurd s
serves_stays kind bound (Between p) (Between q) s h = (h.0, h.1, s.0 ∙ h.2, s.1 ∙ h.3)

player_stays : (g : Graph) (p : ℕ → ℕ) (hs : List PlanHome) (v : ℕ) (own : List Home) (a b : Player) → IsOfSame a b → IsWhole b → IsPlayerOf g p hs v own a → IsPlayerOf g p hs v own b
player_stays g p hs v own a b same whole is = record {
  buffers = ap (map (λ (w : Wire). w.buffer)) same.wires ∙ is.buffers;
  channels = ap (map (λ (w : Wire). w.channel)) same.wires ∙ is.channels;
  delays = same.delays ∙ is.delays;
  own = λ i d lt. subst (λ ws. IsOwnRight own (get_or ws i d).buffer (get_or ws i d).own) (sym same.wires) (is.own i d (subst (λ ws. i < length ws) same.wires lt));
  homes_are = is.homes_are;
  ins = same.ins ∙ is.ins;
  outs = same.outs ∙ is.outs;
  server = λ n e. serves_stays n.kind (bounds g v) a.server b.server same.server (is.server n e);
  whole = whole;
}

-- ---- the loop
abbrev pub orders_of : ℕ → Plan → List (List ℕ)
orders_of n plan = map (λ w. core.in_turn n (names w)) plan.waves

abbrev pub state_at : Graph → Plan → List ℤ → ℕ → ℕ → core.State Kept → ℕ → core.State Kept
state_at g plan input channels n s k = core.after (machine g (positions plan) plan.homes (frame_in channels input)) (take k (orders_of n plan)) s

after_take : (m : core.Core Kept) (os : List (List ℕ)) (k : ℕ) (o : List ℕ) (s : core.State Kept) → slice_get os k ≡ Some o → core.after m (take (suc k) os) s ≡ core.after_wave m o (core.after m (take k os) s)
after_take m [] k o s e = absurd (cc)
after_take m (x ∷ os) zero o s e = let same : x ≡ o = cc in ap (λ z. core.after_wave m z s) same
after_take m (x ∷ os) (suc k) o s e = after_take m os k o (core.after_wave m x s) e

order_at : (n : ℕ) (ws : List Wave) (k : ℕ) (w : Wave) → slice_get ws k ≡ Some w → slice_get (map (λ y. core.in_turn n (names y)) ws) k ≡ Some (core.in_turn n (names w))
order_at n [] k w e = absurd (cc)
order_at n (x ∷ ws) zero w e = let same : x ≡ w = cc in ap (λ (y : Wave). Some (core.in_turn n (names y))) same
order_at n (x ∷ ws) (suc k) w e = order_at n ws k w e

one_order : (n : ℕ) (ws : List Wave) (k : ℕ) (w : Wave) → slice_get ws k ≡ Some w → core.AreOrdersOf n (map names ws) (map (λ y. core.in_turn n (names y)) ws) → core.IsOrderOf n (names w) (core.in_turn n (names w))
one_order n [] k w e o = absurd (cc)
one_order n (x ∷ ws) zero w e o = let same : x ≡ w = cc in subst (λ (y : Wave). core.IsOrderOf n (names y) (core.in_turn n (names y))) same o.0
one_order n (x ∷ ws) (suc k) w e o = one_order n ws k w e o.1

pub stays_itself : (a : Job Player) → JobStays a a
stays_itself a = record { node = refl; server = itself a.part.server }

pub stays_twice : (a b c : Job Player) → JobStays a b → JobStays b c → JobStays a c
stays_twice a b c x y = record { node = y.node ∙ x.node; server = same_twice a.part.server b.part.server c.part.server x.server y.server }

-- what is asked of a plan, its jobs and a state
pub record Suits (ends : List ℕ) (jobs : List (Job Player)) (pool : List (List ℤ)) (g : Graph) (plan : Plan) (s : core.State Kept) : Type 0 where
  pub sound : IsSound g
  pub certified : IsCertified g plan
  pub jobs_are : AreJobsOf g (positions plan) plan (all_nodes plan) jobs
  pub here : AreAt (all_nodes plan) jobs pool s
  pub ends_are : AreEnds plan (length plan.waves) ends

pub record Turning (input : List ℤ) (channels : ℕ) (ends : List ℕ) (n : ℕ) (jobs : List (Job Player)) (pool : List (List ℤ)) (k start : ℕ) (jobs' : List (Job Player)) (pool' : List (List ℤ)) : Type 0 where
  pub start_is : start ≡ get_or (0 ∷ ends) k 0
  pub jobs_len : length jobs' ≡ length jobs
  pub pool_len : length pool' ≡ length pool
  pub lengths : (b : ℕ) → length (get_or pool' b []) ≡ length (get_or pool b [])
  pub outs : (i : ℕ) (d : Job Player) → i < length jobs' → length (get_or jobs' i d).desk.outs.items ≡ length (get_or jobs' i d).desk.homes.items
  pub stays : (i : ℕ) (d : Job Player) → i < length jobs → JobStays (get_or jobs i d) (get_or jobs' i d)
  pub ran : (g : Graph) (plan : Plan) (s : core.State Kept) → Suits ends jobs pool g plan s
      → AreJobsOf g (positions plan) plan (all_nodes plan) jobs' × AreAt (all_nodes plan) jobs' pool' (state_at g plan input channels n s k)

-- a wave of the list
module _ (input : List ℤ) (channels : ℕ) (ends : List ℕ) (n : ℕ) (jobs : List (Job Player)) (pool : List (List ℤ)) (k start : ℕ) (jobs' : List (Job Player)) (pool' : List (List ℤ))
    (lt : k < length ends) (t : Turning input channels ends n jobs pool k start jobs' pool') (g : Graph) (plan : Plan) (s : core.State Kept) (suits : Suits ends jobs pool g plan s) where
  pub wave : (w : Wave) × (slice_get plan.waves k ≡ Some w)
  wave = item_of plan.waves k (subst (λ z. k < z) suits.ends_are.len lt)

  abbrev end : ℕ
  end = get_or ends k 0

  starts : start ≡ length (nodes_before plan k)
  starts = t.start_is ∙ suits.ends_are.at k (omega arith)

  pub ends_then : get_or ends k 0 ≡ length (nodes_before plan k) + length (names wave.0)
  ends_then = suits.ends_are.at (suc k) (omega arith) ∙ flat_len plan.waves k wave.0 wave.1

  pub bounded : (start ≤ get_or ends k 0) × (get_or ends k 0 ≤ length jobs')
  bounded =
      let a = starts in let b = ends_then in
      let c = flat_most plan.waves (suc k) in
      let d = flat_len plan.waves k wave.0 wave.1 in
      let e = suits.jobs_are.len in
      let f = t.jobs_len in
      (omega arith, omega arith)

  wide : get_or ends k 0 - start ≡ length (names wave.0)
  wide = let a = starts in let b = ends_then in omega arith

  abbrev part : List (Job Player)
  part = take (get_or ends k 0 - start) (drop start jobs')

  part_len : length (take (get_or ends k 0 - start) (drop start jobs')) ≡ length (names wave.0)
  part_len = slice_len start (get_or ends k 0) jobs' bounded.1 ∙ wide

  name_at : (i : ℕ) → i < length (names wave.0) → get_or (all_nodes plan) (start + i) 0 ≡ get_or (names wave.0) i 0
  name_at i li = ap (λ z. get_or (all_nodes plan) (z + i) 0) starts ∙ flat_at plan.waves k wave.0 i wave.1 li

  job_at : (i : ℕ) (d : Job Player) → i < length (names wave.0) → get_or (take (get_or ends k 0 - start) (drop start jobs')) i d ≡ get_or jobs' (start + i) d
  job_at i d li = slice_at start (get_or ends k 0) jobs' i d (subst (λ z. i < z) (sym wide) li)

  inside : (i : ℕ) → i < length (names wave.0) → start + i < length jobs'
  inside i li = let b = bounded.1 in let w = wide in let c = bounded.0 in omega arith

  pub part_jobs : AreJobsOf g (positions plan) plan (names wave.0) (take (get_or ends k 0 - start) (drop start jobs'))
  part_jobs = record {
    len = part_len;
    each = λ i d li.
        let ln : i < length (names wave.0) = subst (λ z. i < z) part_len li in
        subst (λ v. IsPlayerOf g (positions plan) plan.homes v (get_or (take (get_or ends k 0 - start) (drop start jobs')) i d).desk.homes.items (get_or (take (get_or ends k 0 - start) (drop start jobs')) i d).part) (name_at i ln)
        (subst (λ (j : Job Player). IsPlayerOf g (positions plan) plan.homes (get_or (all_nodes plan) (start + i) 0) j.desk.homes.items j.part) (sym (job_at i d ln))
        ((t.ran g plan s suits).0.each (start + i) d (inside i ln)));
  }

  pub part_at : AreAt (names wave.0) (take (get_or ends k 0 - start) (drop start jobs')) pool' (state_at g plan input channels n s k)
  part_at = record {
    holds = λ i d li.
        let ln : i < length (names wave.0) = subst (λ z. i < z) part_len li in
        subst (λ v. Holds (get_or (take (get_or ends k 0 - start) (drop start jobs')) i d).part ((state_at g plan input channels n s k).kept v)) (name_at i ln)
        (subst (λ (j : Job Player). Holds j.part ((state_at g plan input channels n s k).kept (get_or (all_nodes plan) (start + i) 0))) (sym (job_at i d ln))
        ((t.ran g plan s suits).1.holds (start + i) d (inside i ln)));
    samples = (t.ran g plan s suits).1.samples;
  }

  order : core.IsOrderOf n (names wave.0) (core.in_turn n (names wave.0))
  order = one_order n plan.waves k wave.0 wave.1 (some_order n plan.waves (schedule g plan suits.sound suits.certified).rising)

  then_state : state_at g plan input channels n s (suc k) ≡ core.after_wave (machine g (positions plan) plan.homes (frame_in channels input)) (core.in_turn n (names wave.0)) (state_at g plan input channels n s k)
  then_state = after_take (machine g (positions plan) plan.homes (frame_in channels input)) (orders_of n plan) k (core.in_turn n (names wave.0)) s (order_at n plan.waves k wave.0 wave.1)

  pub has_run : core.WaveHasRun (machine g (positions plan) plan.homes (frame_in channels input)) n (names wave.0) (state_at g plan input channels n s k) (state_at g plan input channels n s (suc k))
  has_run = subst (λ z. core.WaveHasRun (machine g (positions plan) plan.homes (frame_in channels input)) n (names wave.0) (state_at g plan input channels n s k) z) (sym then_state)
      (orders_run (machine g (positions plan) plan.homes (frame_in channels input)) n (names wave.0) (core.in_turn n (names wave.0)) (state_at g plan input channels n s k)
      (apart g plan suits.sound suits.certified (positions plan) (frame_in channels input) k wave.0 wave.1) order)

  module _ (part' : List (Job Player)) (pool'' : List (List ℤ))
      (ran : WaveRan (λ q hs os a os' b. PlayerDone (frame_in channels input) n q hs os a os' b) pool' (take (get_or ends k 0 - start) (drop start jobs')) pool'' part') where
    now : AreAt (names wave.0) part' pool'' (state_at g plan input channels n s (suc k))
    now = wave_is g plan suits.sound suits.certified (frame_in channels input) k wave.0 wave.1 n pool' (take (get_or ends k 0 - start) (drop start jobs')) part_jobs (state_at g plan input channels n s k) part_at
        pool'' part' ran (state_at g plan input channels n s (suc k)) has_run

    pub lengths_now : (b : ℕ) → length (get_or pool'' b []) ≡ length (get_or pool' b [])
    lengths_now b = lengths_then g plan suits.sound suits.certified (frame_in channels input) k wave.0 wave.1 n pool' (take (get_or ends k 0 - start) (drop start jobs')) part_jobs (state_at g plan input channels n s k) part_at
        pool'' part' ran (state_at g plan input channels n s (suc k)) has_run b

    part_len' : length part' ≡ get_or ends k 0 - start
    part_len' = ran.jobs_len ∙ part_len ∙ sym wide

    -- a node outside of the wave
    outside : (i : ℕ) → i < length jobs' → (i < start) ⊎ (get_or ends k 0 ≤ i) → core.is_in (get_or (all_nodes plan) i 0) (names wave.0) ≡ false
    outside i li out = false_from_ne_true _ (λ is.
        let has = of_is_in (get_or (all_nodes plan) i 0) (names wave.0) is in
        let ln : has.0 < length (names wave.0) = has.1 in
        let flat_is = suits.jobs_are.len in
        let jl = t.jobs_len in
        let there = inside has.0 ln in
        let same : get_or (all_nodes plan) i 0 ≡ get_or (all_nodes plan) (start + has.0) 0 = sym (get_or_default (names wave.0) has.0 0 (get_or (all_nodes plan) i 0) has.1 ∙ has.2) ∙ sym (name_at has.0 ln) in
        let e = differ_index (all_nodes plan) (flat_differ g plan suits.sound suits.certified) i (start + has.0) (omega arith) (omega arith) same in
        let w = wide in let b = bounded.0 in
        ⊎_elim (λ l. omega arith) (λ l. omega arith) out)

    pub then_ran : AreJobsOf g (positions plan) plan (all_nodes plan) (put_mid start (get_or ends k 0 - start) jobs' part') × AreAt (all_nodes plan) (put_mid start (get_or ends k 0 - start) jobs' part') pool'' (state_at g plan input channels n s (suc k))
    then_ran = (
      record {
        len = put_len start (get_or ends k 0 - start) jobs' part' part_len' (let a = bounded.0 in let b = bounded.1 in omega arith) ∙ (t.ran g plan s suits).0.len;
        each = λ i d li.
            let lj : i < length jobs' = subst (λ z. i < z) (put_len start (get_or ends k 0 - start) jobs' part' part_len' (let a = bounded.0 in let b = bounded.1 in omega arith)) li in
            by_place i (λ z. IsPlayerOf g (positions plan) plan.homes (get_or (all_nodes plan) i 0) z.desk.homes.items z.part) d lj
            ((t.ran g plan s suits).0.each i d lj)
            (λ j at lp.
            let ln : j < length (names wave.0) = subst (λ z. j < z) (ran.jobs_len ∙ part_len) lp in
            let lq : j < length (take (get_or ends k 0 - start) (drop start jobs')) = subst (λ z. j < z) ran.jobs_len lp in
            let done = ran.ran j d lq in
            subst (λ v. IsPlayerOf g (positions plan) plan.homes v (get_or part' j d).desk.homes.items (get_or part' j d).part) (sym (name_at j ln) ∙ ap (λ z. get_or (all_nodes plan) z 0) at)
            (subst (λ hs. IsPlayerOf g (positions plan) plan.homes (get_or (names wave.0) j 0) hs (get_or part' j d).part) (sym (ran.homes j d lq))
            (player_stays g (positions plan) plan.homes (get_or (names wave.0) j 0) _ _ (get_or part' j d).part done.played.same done.whole (part_jobs.each j d lq))));
      },
      record {
        holds = λ i d li.
            let lj : i < length jobs' = subst (λ z. i < z) (put_len start (get_or ends k 0 - start) jobs' part' part_len' (let a = bounded.0 in let b = bounded.1 in omega arith)) li in
            by_place2 i d lj;
        samples = now.samples;
      },
    )
      where
        put_len : {X : Type 0} (a m : ℕ) (xs ys : List X) → length ys ≡ m → a + m ≤ length xs → length (put_mid a m xs ys) ≡ length xs
        put_len a m xs ys e le =
            let p = length-append (take a xs) (ys ++ post_of a m xs) in
            let q = length-append ys (post_of a m xs) in
            let r = length-take a xs in
            let u = length-drop m (drop a xs) in
            let v = length-drop a xs in
            omega (arith, p, q, r, u, v, e)

        by_place : (i : ℕ) (P : Job Player → Type 0) (d : Job Player) → i < length jobs' → P (get_or jobs' i d) → ((j : ℕ) → start + j ≡ i → j < length part' → P (get_or part' j d)) → P (get_or (put_mid start (get_or ends k 0 - start) jobs' part') i d)
        by_place i P d lj old new =
            let a = bounded.0 in let b = bounded.1 in let l = part_len' in
            ⊎_elim
            (λ before. subst P (sym (put_before start (get_or ends k 0 - start) jobs' part' i d before (omega arith))) old)
            (λ after.
            ⊎_elim
            (λ inside. let at : start + (i - start) ≡ i = omega arith in
            subst P (sym (ap (λ z. get_or (put_mid start (get_or ends k 0 - start) jobs' part') z d) (sym at) ∙ put_at start (get_or ends k 0 - start) jobs' part' (i - start) d (omega arith) (omega arith))) (new (i - start) at (omega arith)))
            (λ past. subst P (sym (put_after start (get_or ends k 0 - start) jobs' part' i d part_len' (omega arith) (omega arith))) old)
            (cases_lt i (get_or ends k 0)))
            (cases_lt i start)

        by_place2 : (i : ℕ) (d : Job Player) → i < length jobs' → Holds (get_or (put_mid start (get_or ends k 0 - start) jobs' part') i d).part ((state_at g plan input channels n s (suc k)).kept (get_or (all_nodes plan) i 0))
        by_place2 i d lj =
            let a = bounded.0 in let b = bounded.1 in let l = part_len' in
            ⊎_elim
            (λ before. subst (λ (z : Job Player). Holds z.part ((state_at g plan input channels n s (suc k)).kept (get_or (all_nodes plan) i 0))) (sym (put_before start (get_or ends k 0 - start) jobs' part' i d before (omega arith)))
            (subst (Holds (get_or jobs' i d).part) (sym (has_run.idle (get_or (all_nodes plan) i 0) (outside i lj (inl before)))) ((t.ran g plan s suits).1.holds i d lj)))
            (λ after.
            ⊎_elim
            (λ inside. let at : start + (i - start) ≡ i = omega arith in
            let lp : i - start < length part' = omega arith in
            let ln : i - start < length (names wave.0) = subst (λ z. i - start < z) (ran.jobs_len ∙ part_len) lp in
            subst (λ (z : Job Player). Holds z.part ((state_at g plan input channels n s (suc k)).kept (get_or (all_nodes plan) i 0))) (sym (ap (λ z. get_or (put_mid start (get_or ends k 0 - start) jobs' part') z d) (sym at) ∙ put_at start (get_or ends k 0 - start) jobs' part' (i - start) d lp (omega arith)))
            (subst (λ v. Holds (get_or part' (i - start) d).part ((state_at g plan input channels n s (suc k)).kept v)) (sym (name_at (i - start) ln) ∙ ap (λ z. get_or (all_nodes plan) z 0) at)
            (now.holds (i - start) d lp)))
            (λ past. subst (λ (z : Job Player). Holds z.part ((state_at g plan input channels n s (suc k)).kept (get_or (all_nodes plan) i 0))) (sym (put_after start (get_or ends k 0 - start) jobs' part' i d part_len' (omega arith) (omega arith)))
            (subst (Holds (get_or jobs' i d).part) (sym (has_run.idle (get_or (all_nodes plan) i 0) (outside i lj (inr past)))) ((t.ran g plan s suits).1.holds i d lj)))
            (cases_lt i (get_or ends k 0)))
            (cases_lt i start)

-- ---- the loop, from what a block may ask
module _ (input : List ℤ) (channels : ℕ) (ends : List ℕ) (n : ℕ) (jobs : List (Job Player)) (pool : List (List ℤ)) (c : CanRunBlock input channels ends n jobs pool) where
  pub suits : Suits ends jobs pool c.graph c.plan c.state
  suits = record { sound = c.sound; certified = c.certified; jobs_are = c.jobs_are; here = c.here; ends_are = c.ends_are }

  before_at : (k : ℕ) → k ≤ length c.plan.waves → IsBefore c.graph c.plan c.sound c.certified (positions c.plan) (frame_in channels input) c.x c.time n c.brings k (state_at c.graph c.plan input channels n c.state k)
  before_at zero le = record { done = λ v live lt. absurd (omega arith); ahead = λ v live l. c.stands v live; has = λ h ch lt. absurd (omega arith) }
  before_at (suc k) le =
      let w = item_of c.plan.waves k (omega arith) in
      let o = one_order n c.plan.waves k w.0 w.1 (some_order n c.plan.waves (schedule c.graph c.plan c.sound c.certified).rising) in
      let m = machine c.graph (positions c.plan) c.plan.homes (frame_in channels input) in
      next c.graph c.plan c.sound c.certified (positions c.plan) (frame_in channels input) c.x c.time n c.brings k w.0 (state_at c.graph c.plan input channels n c.state k) (state_at c.graph c.plan input channels n c.state (suc k)) w.1
      (before_at k (omega arith))
      (subst (λ z. core.WaveHasRun (machine c.graph (positions c.plan) c.plan.homes (frame_in channels input)) n (names w.0) (state_at c.graph c.plan input channels n c.state k) z)
      (sym (after_take (machine c.graph (positions c.plan) c.plan.homes (frame_in channels input)) (orders_of n c.plan) k (core.in_turn n (names w.0)) c.state (order_at n c.plan.waves k w.0 w.1)))
      (orders_run (machine c.graph (positions c.plan) c.plan.homes (frame_in channels input)) n (names w.0) (core.in_turn n (names w.0)) (state_at c.graph c.plan input channels n c.state k)
      (apart c.graph c.plan c.sound c.certified (positions c.plan) (frame_in channels input) k w.0 w.1) o))

  pub turning_none : Turning input channels ends n jobs pool 0 0 jobs pool
  turning_none = record {
    start_is = refl;
    jobs_len = refl;
    pool_len = refl;
    lengths = λ b. refl;
    outs = c.outs;
    stays = λ i d li. stays_itself (get_or jobs i d);
    ran = λ g plan s q. (q.jobs_are, q.here);
  }

  module _ (k start : ℕ) (jobs' : List (Job Player)) (pool' : List (List ℤ)) (lt : k < length ends) (t : Turning input channels ends n jobs pool k start jobs' pool') where
    pub bounds_of : (start ≤ get_or ends k 0) × (get_or ends k 0 ≤ length jobs') × (length jobs' ≤ 512)
    bounds_of =
        let b = bounded input channels ends n jobs pool k start jobs' pool' lt t c.graph c.plan c.state suits in
        let f = c.few in let l = t.jobs_len in (b.0, b.1, omega arith)

    slice_outs : (i : ℕ) (d : Job Player) → i < length (take (get_or ends k 0 - start) (drop start jobs'))
        → length (get_or (take (get_or ends k 0 - start) (drop start jobs')) i d).desk.outs.items ≡ length (get_or (take (get_or ends k 0 - start) (drop start jobs')) i d).desk.homes.items
    slice_outs i d li =
        let b1 = bounds_of.1 in
        let l = slice_len start (get_or ends k 0) jobs' bounds_of.1 in
        subst (λ (j : Job Player). length j.desk.outs.items ≡ length j.desk.homes.items) (sym (slice_at start (get_or ends k 0) jobs' i d (omega arith)))
        (t.outs (start + i) d (let y = bounds_of.0 in omega arith))

    pub turn_ready : IsWave (λ q hs os a. CanPlay input channels q hs os n a) pool' (take (get_or ends k 0 - start) (drop start jobs'))
    turn_ready =
        let w = wave input channels ends n jobs pool k start jobs' pool' lt t c.graph c.plan c.state suits in
        wave_ready c.graph c.plan c.sound c.certified c.x c.time n input channels c.brings c.small k w.0 w.1 pool' (take (get_or ends k 0 - start) (drop start jobs'))
        (part_jobs input channels ends n jobs pool k start jobs' pool' lt t c.graph c.plan c.state suits)
        (state_at c.graph c.plan input channels n c.state k)
        (part_at input channels ends n jobs pool k start jobs' pool' lt t c.graph c.plan c.state suits)
        (before_at k (let l = c.ends_are.len in omega arith))
        (t.pool_len ∙ c.pool_len)
        (λ b lb. let r = c.room b (subst (λ z. b < z) t.pool_len lb) in let l = t.lengths b in omega arith)
        c.size c.entry slice_outs

    pub turning_more : (part' : List (Job Player)) (pool'' : List (List ℤ))
        → WaveRan (λ q hs os a os' b. PlayerDone (frame_in channels input) n q hs os a os' b) pool' (take (get_or ends k 0 - start) (drop start jobs')) pool'' part'
        → Turning input channels ends n jobs pool (k + 1) (get_or ends k 0) (put_mid start (get_or ends k 0 - start) jobs' part') pool''
    turning_more part' pool'' ran =
        let b = bounds_of in
        let b0 = b.0 in let b1 = b.1 in
        let sl = slice_len start (get_or ends k 0) jobs' b.1 in
        let pl : length part' ≡ get_or ends k 0 - start = ran.jobs_len ∙ sl in
        let all : length (put_mid start (get_or ends k 0 - start) jobs' part') ≡ length jobs' = mid_len start (get_or ends k 0 - start) jobs' part' pl (omega arith) in
        record {
          start_is = let z : suc k ≡ k + 1 = omega arith in ap (λ j. get_or (0 ∷ ends) j 0) z;
          jobs_len = all ∙ t.jobs_len;
          pool_len = ran.pool_len ∙ t.pool_len;
          lengths = λ a. lengths_now input channels ends n jobs pool k start jobs' pool' lt t c.graph c.plan c.state suits part' pool'' ran a ∙ t.lengths a;
          outs = λ i d li. each_out i d (subst (λ z. i < z) all li) pl ran;
          stays = λ i d li. stays_twice (get_or jobs i d) (get_or jobs' i d) (get_or (put_mid start (get_or ends k 0 - start) jobs' part') i d) (t.stays i d li) (each_stay i d (subst (λ z. i < z) (sym t.jobs_len) li) pl ran);
          ran = λ g plan s q. let z : suc k ≡ k + 1 = omega arith in
              subst (λ j. AreJobsOf g (positions plan) plan (all_nodes plan) (put_mid start (get_or ends k 0 - start) jobs' part') × AreAt (all_nodes plan) (put_mid start (get_or ends k 0 - start) jobs' part') pool'' (state_at g plan input channels n s j)) z
              (then_ran input channels ends n jobs pool k start jobs' pool' lt t g plan s q part' pool'' ran);
        }
      where
        mid_len : (a m : ℕ) (xs ys : List (Job Player)) → length ys ≡ m → a + m ≤ length xs → length (put_mid a m xs ys) ≡ length xs
        mid_len a m xs ys e le =
            let p = length-append (take a xs) (ys ++ post_of a m xs) in
            let q = length-append ys (post_of a m xs) in
            let r = length-take a xs in
            let u = length-drop m (drop a xs) in
            let v = length-drop a xs in
            omega (arith, p, q, r, u, v, e)

        each_out : (i : ℕ) (d : Job Player) → i < length jobs' → length part' ≡ get_or ends k 0 - start
            → WaveRan (λ q hs os a os' b. PlayerDone (frame_in channels input) n q hs os a os' b) pool' (take (get_or ends k 0 - start) (drop start jobs')) pool'' part'
            → length (get_or (put_mid start (get_or ends k 0 - start) jobs' part') i d).desk.outs.items ≡ length (get_or (put_mid start (get_or ends k 0 - start) jobs' part') i d).desk.homes.items
        each_out i d li pl ran =
            let b = bounds_of in let b0 = b.0 in let b1 = b.1 in
            ⊎_elim
            (λ before. subst (λ (z : Job Player). length z.desk.outs.items ≡ length z.desk.homes.items) (sym (put_before start (get_or ends k 0 - start) jobs' part' i d before (omega arith))) (t.outs i d li))
            (λ after. ⊎_elim
            (λ inside. let at : start + (i - start) ≡ i = omega arith in
            let lq : i - start < length (take (get_or ends k 0 - start) (drop start jobs')) = let z = ran.jobs_len in omega arith in
            subst (λ (z : Job Player). length z.desk.outs.items ≡ length z.desk.homes.items) (sym (ap (λ z. get_or (put_mid start (get_or ends k 0 - start) jobs' part') z d) (sym at) ∙ put_at start (get_or ends k 0 - start) jobs' part' (i - start) d (omega arith) (omega arith)))
            (ap length (ran.outs (i - start) d lq) ∙ slice_outs (i - start) d lq ∙ sym (ap length (ran.homes (i - start) d lq))))
            (λ past. subst (λ (z : Job Player). length z.desk.outs.items ≡ length z.desk.homes.items) (sym (put_after start (get_or ends k 0 - start) jobs' part' i d pl (omega arith) (omega arith))) (t.outs i d li))
            (cases_lt i (get_or ends k 0)))
            (cases_lt i start)

        each_stay : (i : ℕ) (d : Job Player) → i < length jobs' → length part' ≡ get_or ends k 0 - start
            → WaveRan (λ q hs os a os' b. PlayerDone (frame_in channels input) n q hs os a os' b) pool' (take (get_or ends k 0 - start) (drop start jobs')) pool'' part'
            → JobStays (get_or jobs' i d) (get_or (put_mid start (get_or ends k 0 - start) jobs' part') i d)
        each_stay i d li pl ran =
            let b = bounds_of in let b0 = b.0 in let b1 = b.1 in
            ⊎_elim
            (λ before. subst (λ (z : Job Player). JobStays (get_or jobs' i d) z) (sym (put_before start (get_or ends k 0 - start) jobs' part' i d before (omega arith))) (stays_itself (get_or jobs' i d)))
            (λ after. ⊎_elim
            (λ inside. let at : start + (i - start) ≡ i = omega arith in
            let lq : i - start < length (take (get_or ends k 0 - start) (drop start jobs')) = let z = ran.jobs_len in omega arith in
            let done = ran.ran (i - start) d lq in
            let step : JobStays (get_or (take (get_or ends k 0 - start) (drop start jobs')) (i - start) d) (get_or part' (i - start) d) = record { node = ran.nodes (i - start) d lq; server = done.played.same.server } in
            subst (λ (z : Job Player). JobStays (get_or jobs' i d) z) (sym (ap (λ z. get_or (put_mid start (get_or ends k 0 - start) jobs' part') z d) (sym at) ∙ put_at start (get_or ends k 0 - start) jobs' part' (i - start) d (omega arith) (omega arith)))
            (subst (λ (z : Job Player). JobStays z (get_or part' (i - start) d)) (slice_at start (get_or ends k 0) jobs' (i - start) d (omega arith) ∙ ap (λ z. get_or jobs' z d) at) step))
            (λ past. subst (λ (z : Job Player). JobStays (get_or jobs' i d) z) (sym (put_after start (get_or ends k 0 - start) jobs' part' i d pl (omega arith) (omega arith))) (stays_itself (get_or jobs' i d)))
            (cases_lt i (get_or ends k 0)))
            (cases_lt i start)

  -- every order leaves the same, up to what the pool and the kept states show
  same_at : (vs : List ℕ) (js : List (Job Player)) (q : List (List ℤ)) (a b : core.State Kept) → core.IsSame a b → AreAt vs js q a → AreAt vs js q b
  same_at vs js q a b same at = record {
    holds = λ i d lt. subst (Holds (get_or js i d).part) (same.kept (get_or vs i 0)) (at.holds i d lt);
    samples = λ z k. sym (same.pool z k) ∙ at.samples z k;
  }

  pub block_has_run : (k start : ℕ) (jobs' : List (Job Player)) (pool' : List (List ℤ)) → length ends ≤ k → Turning input channels ends n jobs pool k start jobs' pool' → BlockHasRun input channels ends n jobs pool jobs' pool'
  block_has_run k start jobs' pool' le t = record {
    jobs_len = t.jobs_len;
    pool_len = t.pool_len;
    lengths = t.lengths;
    outs = t.outs;
    stays = t.stays;
    ran = λ g plan s orders sound certified js here ends_are o.
        let q : Suits ends jobs pool g plan s = record { sound = sound; certified = certified; jobs_are = js; here = here; ends_are = ends_are } in
        let r = t.ran g plan s (record { sound = sound; certified = certified; jobs_are = js; here = here; ends_are = ends_are }) in
        let whole : take k (orders_of n plan) ≡ orders_of n plan = take_all k (orders_of n plan) (omega (arith, length-map plan.waves (λ w. core.in_turn n (names w)))) in
        let same = orders_never_show g plan (frame_in channels input) n (orders_of n plan) orders s sound certified (some_order n plan.waves (schedule g plan sound certified).rising) o in (
          r.0,
          same_at (all_nodes plan) jobs' pool' (core.after (machine g (positions plan) plan.homes (frame_in channels input)) (orders_of n plan) s) (core.after (machine g (positions plan) plan.homes (frame_in channels input)) orders s) same
              (subst (λ os. AreAt (all_nodes plan) jobs' pool' (core.after (machine g (positions plan) plan.homes (frame_in channels input)) os s)) whole r.1),
        );
  }
