-- A wave of jobs runs as the frame events of its nodes, in whatever order.
use Rattle.std.proofs.Common.{◌≡◌, ℕ, ◌+◌, ◌<◌, zero, suc, cond, Bool, true, false, ℤ, pos, List, [], ◌∷◌, length, map, get_or, refl, sym, ◌∙◌, ap, subst, arith, inr, ⊎_elim, Option, Some, None, ◌==◌}
use Rattle.std.specs.Prelude.{slice_get}
use Rattle.std.specs.List.{Contains}
use Rattle.std.proofs.lemmas.Bool.{cases_lt, or_left, or_right}
use Rattle.std.proofs.lemmas.List.{get_or-map, length-map, get_or_default}
use Rattle.std.proofs.lemmas.List.Elements.{Contains-get_or}
use Rattle.graph_model.specs.Histories.{Frame, History, newest}
use Rattle.graph_model.specs.Kinds.{rule_of}
use Rattle.graph_model.specs.Bounds.{bounds}
use Rattle.graph_model.specs.Graphs.{node_named, ins_at, is_input, is_output}
use Rattle.graph_model.specs.Sound.{IsSound}
use Rattle.graph_model.specs.declared.kind.Kind.{Kind}
use Rattle.graph_model.specs.declared.kind.Kind.TheVariants.{Input, Output}
use Rattle.graph_model.specs.declared.graph.Node.{Node}
use Rattle.graph_model.specs.declared.graph.Bound.{Bound}
use Rattle.graph_model.specs.declared.graph.Graph.{Graph}
use Rattle.plan_model.specs.Certified.{IsCertified, positions}
use Rattle.plan_model.specs.Schedules.{names}
use Rattle.plan_model.specs.declared.plan.Plan.{Plan}
use Rattle.plan_model.specs.declared.schedule.Wave.{Wave}
use Rattle.orders.specs.Orders as core
use Rattle.graph_model.proofs.PathLaws.{same_name}
use Rattle.engine_model.specs.Machines.{Kept, passed_then, summed, taken, takes_in, made, machine, sources, homes_at, channels_into, delays_into}
use Rattle.engine_model.proofs.PlanLaws.{is_in_of, of_is_in}
use Rattle.engine_model.proofs.RunLaws.{value_of, read_alone, one_home, node_in}
use Rattle.orders.proofs.CountLaws.{writer}
use Rattle.std.specs.Prelude.{◌||◌}
use Rattle.std.proofs.lemmas.Bool.{eqb-true}
use Rattle.graph_model.proofs.PathLaws.{at_tail}
use Rattle.pool_waves.specs.declared.job.Home.{Home}
use Rattle.pool_waves.specs.declared.job.Desk.{Desk}
use Rattle.pool_waves.specs.declared.job.Job.{Job}
use Rattle.pool_waves.specs.Exchanges.{desks}
use Rattle.pool_waves.specs.Waves.{IsFree, IsLent, WaveRan}
use Rattle.pool_waves.specs.Waves as waves
use Rattle.pool_waves.proofs.ExchangeFacts.{desk_at}
use Rattle.players.specs.declared.gathering.Wire.{Wire}
use Rattle.players.specs.declared.playing.Server.{Server}
use Rattle.players.specs.declared.playing.Server.TheVariants.{Entry, Exit, Between}
use Rattle.players.specs.declared.playing.Player.{Player}
use Rattle.players.specs.Reads.{own_or, channels_of}
use Rattle.players.specs.Servers.{taken_by, given_by}
use Rattle.players.specs.Plays.{samples, step_of, run_from, delays_of, Holds, PlayerDone}
use Rattle.plan_jobs.specs.Jobs.{core_home, IsOwnRight, Serves, IsPlayerOf}
use Rattle.plan_jobs.specs.Hinges.{AreJobsOf, AreAt}

abbrev pub no_home : Home
no_home = record { channel = 0; buffer = 0 }

abbrev pub no_wire : Wire
no_wire = record { channel = 0; buffer = 0; own = None; first = false }

-- ---- one node: its player takes the machine's steps
serves_taken : (g : Graph) (p : ℕ → ℕ) (block : ℕ → Frame) (v k : ℕ) (ls : List (List ℤ)) (o : Option Node) (bound : Bound) (sv : Server) → ((n : Node) → o ≡ Some n → Serves n.kind bound sv) → (n : Node) → o ≡ Some n
    → taken_by sv block k (summed (ins_at g v) (channels_into g v) (delays_into g p v) ls) ≡ taken g p block v k o ls
serves_taken g p block v k ls None bound sv h n e = absurd (cc)
serves_taken g p block v k ls (Some m) bound sv h n e = go sv (h m refl)
  where
    f : Frame
    f = summed (ins_at g v) (channels_into g v) (delays_into g p v) ls

    other : (kind : Kind) → is_output kind ≡ true → is_input kind ≡ false
    other (Input c) e = absurd (cc)
    other kind e = refl

    go : (sv : Server) → Serves m.kind bound sv → taken_by sv block k (summed (ins_at g v) (channels_into g v) (delays_into g p v) ls) ≡ cond (is_input m.kind) (block k) (summed (ins_at g v) (channels_into g v) (delays_into g p v) ls)
    go Entry s = ap (λ b. cond b (block k) (summed (ins_at g v) (channels_into g v) (delays_into g p v) ls)) (sym s)
    go (Exit x) s = ap (λ b. cond b (block k) (summed (ins_at g v) (channels_into g v) (delays_into g p v) ls)) (sym (other m.kind s.0))
    go (Between q) s = ap (λ b. cond b (block k) (summed (ins_at g v) (channels_into g v) (delays_into g p v) ls)) (sym s.0)

serves_made : (o : Option Node) (bound : Bound) (sv : Server) (h : History) → ((n : Node) → o ≡ Some n → Serves n.kind bound sv) → (n : Node) → o ≡ Some n → given_by sv h ≡ made o h
serves_made None bound sv h s n e = absurd (cc)
serves_made (Some m) bound sv h s n e = go sv (s m refl)
  where
    at_end : (kind : Kind) → is_output kind ≡ true → [] ≡ cond (is_input kind) (newest h) (rule_of kind h)
    at_end (Output c) e = refl
    at_end kind e = absurd (cc)

    go : (sv : Server) → Serves m.kind bound sv → given_by sv h ≡ cond (is_input m.kind) (newest h) (rule_of m.kind h)
    go Entry s = ap (λ b. cond b (newest h) (rule_of m.kind h)) (sym s)
    go (Exit x) s = at_end m.kind s.0
    go (Between q) s = ap (λ k. rule_of k h) s.2 ∙ ap (λ b. cond b (newest h) (rule_of m.kind h)) (sym s.0)

module _ (g : Graph) (p : ℕ → ℕ) (plan : Plan) (block : ℕ → Frame) (v : ℕ) (homes : List Home) (a : Player) (is : IsPlayerOf g p plan.homes v homes a) (n : Node) (named : node_named g v ≡ Some n) where
  step_is : (k : ℕ) (s : Kept) (xs : List ℤ) → step_of a block k s xs ≡ takes_in g p block v k s (passed_then xs s.passed)
  step_is k s xs =
      let f : summed a.ins (channels_of a.wires.items) (delays_of a) (passed_then xs s.passed) ≡ summed (ins_at g v) (channels_into g v) (delays_into g p v) (passed_then xs s.passed) =
      ap (λ m. summed m (channels_of a.wires.items) (delays_of a) (passed_then xs s.passed)) is.ins
      ∙ ap (λ cs. summed (ins_at g v) cs (delays_of a) (passed_then xs s.passed)) is.channels
      ∙ ap (λ ds. summed (ins_at g v) (channels_into g v) ds (passed_then xs s.passed)) is.delays in
      let t = ap (taken_by a.server block k) f ∙ serves_taken g p block v k (passed_then xs s.passed) (node_named g v) (bounds g v) a.server is.server n named in
      ap (λ z. record { came = z ∷ s.came; passed = passed_then xs s.passed }) t

  -- where it reads what the events read, its run is the machine's
  pub run_is : (st : core.State Kept) (xs : ℕ → List ℤ) (m : ℕ) → ((k : ℕ) → k < m → xs k ≡ core.samples_of (sources g plan.homes v) k st.pool)
      → run_from a block xs 0 m (st.kept v) ≡ core.kept_after (machine g p plan.homes block) st v m
  run_is st xs zero same = refl
  run_is st xs (suc m) same =
      let z : 0 + m ≡ m = omega arith in
      ap (λ k. step_of a block k (run_from a block xs 0 m (st.kept v)) (xs k)) z
      ∙ ap (λ r. step_of a block m r (xs m)) (run_is st xs m (λ k lt. same k (omega arith)))
      ∙ ap (λ x. step_of a block m (core.kept_after (machine g p plan.homes block) st v m) x) (same m (omega arith))
      ∙ step_is m (core.kept_after (machine g p plan.homes block) st v m) (core.samples_of (sources g plan.homes v) m st.pool)

  pub given_is : (h : History) → given_by a.server h ≡ made (node_named g v) h
  given_is h = serves_made (node_named g v) (bounds g v) a.server h is.server n named

  -- ---- what it reads
  module _ (st : core.State Kept) (pool q : List (List ℤ)) (samples_are : (b k : ℕ) → st.pool b k ≡ get_or (get_or pool b []) k (pos 0))
      (free : (b : ℕ) → core.is_read (sources g plan.homes v) b ≡ true → ((o : ℕ) (e : Home) → o < length homes → (get_or homes o e).buffer ≡ b → ⊥) → get_or q b [] ≡ get_or pool b []) where
    one_read : (w : Wire) → core.is_read (sources g plan.homes v) w.buffer ≡ true → (own : Option ℕ) → IsOwnRight homes w.buffer own → (k : ℕ)
        → get_or (own_or own (get_or q w.buffer []) (waves.taken pool homes)) k (pos 0) ≡ st.pool w.buffer k
    one_read w r None right k = ap (λ z. get_or z k (pos 0)) (free w.buffer r right) ∙ sym (samples_are w.buffer k)
    one_read w r (Some o) right k =
        ap (λ z. get_or z k (pos 0)) (get_or-map (λ (h : Home). get_or pool h.buffer []) homes o no_home [] right.0 ∙ ap (λ b. get_or pool b []) (right.1 no_home))
        ∙ sym (samples_are w.buffer k)

    reads_from : (ws : List Wire) → ((i : ℕ) → i < length ws → core.is_read (sources g plan.homes v) (get_or ws i no_wire).buffer ≡ true)
        → ((i : ℕ) → i < length ws → IsOwnRight homes (get_or ws i no_wire).buffer (get_or ws i no_wire).own) → (k : ℕ)
        → samples q (waves.taken pool homes) ws k ≡ core.samples_of (map (λ (w : Wire). w.buffer) ws) k st.pool
    reads_from [] r own k = refl
    reads_from (w ∷ ws) r own k =
        ap (λ x. x ∷ samples q (waves.taken pool homes) ws k) (one_read w (r 0 (omega arith)) w.own (own 0 (omega arith)) k)
        ∙ ap (λ xs. st.pool w.buffer k ∷ xs) (reads_from ws (λ i lt. r (suc i) (omega arith)) (λ i lt. own (suc i) (omega arith)) k)

    is_read_at : (bs : List ℕ) (i : ℕ) → i < length bs → core.is_read bs (get_or bs i 0) ≡ true
    is_read_at [] i lt = absurd (omega arith)
    is_read_at (b ∷ bs) zero lt = or_left (b == b) (core.is_read bs b) (same_name b)
    is_read_at (b ∷ bs) (suc i) lt = or_right (b == get_or bs i 0) (core.is_read bs (get_or bs i 0)) (is_read_at bs i (omega arith))

    pub reads_are : (k : ℕ) → samples q (waves.taken pool homes) a.wires.items k ≡ core.samples_of (sources g plan.homes v) k st.pool
    reads_are k =
        reads_from a.wires.items
        (λ i lt.
        let at : get_or (map (λ (w : Wire). w.buffer) a.wires.items) i 0 ≡ (get_or a.wires.items i no_wire).buffer = get_or-map (λ (w : Wire). w.buffer) a.wires.items i no_wire 0 lt in
        subst (λ b. core.is_read (sources g plan.homes v) b ≡ true) at
        (subst (λ bs. core.is_read (sources g plan.homes v) (get_or bs i 0) ≡ true) (sym is.buffers)
        (is_read_at (sources g plan.homes v) i (subst (λ bs. i < length bs) is.buffers (subst (λ m. i < m) (sym (length-map a.wires.items (λ (w : Wire). w.buffer))) lt)))))
        (λ i lt. is.own i no_wire lt) k
        ∙ ap (λ bs. core.samples_of bs k st.pool) is.buffers

-- ---- homes of a desk
pub home_index : (hs : List Home) (b : ℕ) → core.writes (map core_home hs) b ≡ true → (o : ℕ) × (o < length hs) × ((e : Home) → (get_or hs o e).buffer ≡ b)
home_index [] b e = absurd (cc)
home_index (h ∷ hs) b e = go (h.buffer == b) refl e (home_index hs b)
  where
    go : (t : Bool) → (h.buffer == b) ≡ t → (t || core.writes (map core_home hs) b) ≡ true → (core.writes (map core_home hs) b ≡ true → (o : ℕ) × (o < length hs) × ((e : Home) → (get_or hs o e).buffer ≡ b))
        → (o : ℕ) × (o < length (h ∷ hs)) × ((e : Home) → (get_or (h ∷ hs) o e).buffer ≡ b)
    go true t x rest = (0, omega arith, λ e. eqb-true h.buffer b t)
    go false t x rest = let r = rest x in (suc r.0, (let l = r.1 in omega arith), r.2)

pub desk_writes : (hs : List Home) (o : ℕ) (e : Home) → o < length hs → core.writes (map core_home hs) (get_or hs o e).buffer ≡ true
desk_writes [] o e lt = absurd (omega arith)
desk_writes (h ∷ hs) zero e lt = or_left (h.buffer == h.buffer) (core.writes (map core_home hs) h.buffer) (same_name h.buffer)
desk_writes (h ∷ hs) (suc o) e lt = or_right (h.buffer == (get_or hs o e).buffer) (core.writes (map core_home hs) (get_or hs o e).buffer) (desk_writes hs o e (omega arith))

pub desk_has : (hs : List Home) (o : ℕ) (e : Home) → o < length hs → Contains (map core_home hs) (core_home (get_or hs o e))
desk_has [] o e lt = absurd (omega arith)
desk_has (h ∷ hs) zero e lt = (0, omega arith, refl)
desk_has (h ∷ hs) (suc o) e lt = at_tail (core_home h) (core_home (get_or hs o e)) (map core_home hs) (desk_has hs o e (omega arith))

pub pick : {X : Type 0} (js : List X) (i : ℕ) → i < length js → X
pick [] i lt = absurd (omega arith)
pick (j ∷ js) i lt = j

-- ---- a wave
module _ (g : Graph) (plan : Plan) (sound : IsSound g) (c : IsCertified g plan) (block : ℕ → Frame) (k0 : ℕ) (w : Wave) (at : slice_get plan.waves k0 ≡ Some w)
    (n : ℕ) (pool : List (List ℤ)) (jobs : List (Job Player)) (js : AreJobsOf g (positions plan) plan (names w) jobs) (st : core.State Kept) (here : AreAt (names w) jobs pool st) where
  abbrev name_at : ℕ → ℕ
  name_at i = get_or (names w) i 0

  pub in_it : (i : ℕ) → i < length jobs → core.is_in (get_or (names w) i 0) (names w) ≡ true
  in_it i lt = is_in_of (get_or (names w) i 0) (names w) (Contains-get_or (names w) i 0 (subst (λ z. i < z) js.len lt))

  -- job i writes where its node writes
  pub writes_same : (i : ℕ) (d : Job Player) → i < length jobs → (b : ℕ) → core.writes (map core_home (get_or jobs i d).desk.homes.items) b ≡ core.writes (homes_at plan.homes (get_or (names w) i 0)) b
  writes_same i d lt b = ap (λ hs. core.writes hs b) (js.each i d lt).homes_are

  pub desk_job : (i o : ℕ) (d : Desk) (e : Home) → i < length (desks jobs) → o < length (get_or (desks jobs) i d).homes.items
      → (i < length jobs) × (core.writes (homes_at plan.homes (get_or (names w) i 0)) (get_or (get_or (desks jobs) i d).homes.items o e).buffer ≡ true)
  desk_job i o d e li lo =
      let lt : i < length jobs = subst (λ z. i < z) (length-map jobs (λ (j : Job Player). j.desk)) li in
      let j = pick jobs i lt in
      let same = desk_at jobs i (pick jobs i lt) d lt in (
        lt,
        sym (writes_same i (pick jobs i lt) lt (get_or (get_or (desks jobs) i d).homes.items o e).buffer)
            ∙ ap (λ (v : Desk). core.writes (map core_home v.homes.items) (get_or (get_or (desks jobs) i d).homes.items o e).buffer) (sym same)
            ∙ desk_writes (get_or (desks jobs) i d).homes.items o e lo,
      )

  -- what a job reads and does not own, no value of the wave stands in
  pub is_free : (i : ℕ) (d : Job Player) → i < length jobs → (b : ℕ) → core.is_read (sources g plan.homes (get_or (names w) i 0)) b ≡ true
      → ((o : ℕ) (e : Home) → o < length (get_or jobs i d).desk.homes.items → (get_or (get_or jobs i d).desk.homes.items o e).buffer ≡ b → ⊥) → IsFree (desks jobs) b
  is_free i d lt b r own = λ j o f e lj lo same.
      let dj = desk_job j o f e lj lo in
      let wr : core.writes (homes_at plan.homes (get_or (names w) j 0)) b ≡ true = subst (λ z. core.writes (homes_at plan.homes (get_or (names w) j 0)) z ≡ true) same dj.1 in
      let one = read_alone g plan sound c (positions plan) block k0 w at (get_or (names w) j 0) (get_or (names w) i 0) b (in_it j dj.0) (in_it i lt) wr r in
      let mine : core.writes (map core_home (get_or jobs i d).desk.homes.items) b ≡ true = writes_same i d lt b ∙ ap (λ v. core.writes (homes_at plan.homes v) b) (sym one) ∙ wr in
      let q = home_index (get_or jobs i d).desk.homes.items b mine in
      own q.0 no_home q.1 (q.2 no_home)

  -- so it reads, from what is left of the pool and its own buffers, what the events of its node read
  pub reads_same : (q : List (List ℤ)) → IsLent (desks jobs) pool q → (i : ℕ) (d : Job Player) → i < length jobs → (k : ℕ)
      → samples q (waves.taken pool (get_or jobs i d).desk.homes.items) (get_or jobs i d).part.wires.items k ≡ core.samples_of (sources g plan.homes (get_or (names w) i 0)) k st.pool
  reads_same q lent i d lt k =
      let m = node_in g plan sound c (positions plan) block k0 (get_or (names w) i 0) w at (in_it i lt) in
      reads_are g (positions plan) plan block (get_or (names w) i 0) (get_or jobs i d).desk.homes.items (get_or jobs i d).part (js.each i d lt) m.0 m.1
      st pool q here.samples (λ b r own. lent.free b (is_free i d lt b r own)) k

  pub run_same_as : (q : List (List ℤ)) → IsLent (desks jobs) pool q → (i : ℕ) (d : Job Player) → i < length jobs → (m : ℕ)
      → run_from (get_or jobs i d).part block (samples q (waves.taken pool (get_or jobs i d).desk.homes.items) (get_or jobs i d).part.wires.items) 0 m (st.kept (get_or (names w) i 0))
      ≡ core.kept_after (machine g (positions plan) plan.homes block) st (get_or (names w) i 0) m
  run_same_as q lent i d lt m =
      let nd = node_in g plan sound c (positions plan) block k0 (get_or (names w) i 0) w at (in_it i lt) in
      run_is g (positions plan) plan block (get_or (names w) i 0) (get_or jobs i d).desk.homes.items (get_or jobs i d).part (js.each i d lt) nd.0 nd.1 st
      (samples q (waves.taken pool (get_or jobs i d).desk.homes.items) (get_or jobs i d).part.wires.items) m (λ k l. reads_same q lent i d lt k)

  module _ (pool' : List (List ℤ)) (jobs' : List (Job Player)) (ran : WaveRan (λ q hs os a os' b. PlayerDone block n q hs os a os' b) pool jobs pool' jobs')
      (st' : core.State Kept) (run : core.WaveHasRun (machine g (positions plan) plan.homes block) n (names w) st st') where
    holds_then : (i : ℕ) (d : Job Player) → i < length jobs' → Holds (get_or jobs' i d).part (st'.kept (get_or (names w) i 0))
    holds_then i d l' =
        let lt : i < length jobs = subst (λ z. i < z) ran.jobs_len l' in
        subst (Holds (get_or jobs' i d).part)
        (run_same_as ran.left ran.lent i d lt n ∙ sym (run.kept (get_or (names w) i 0) (in_it i lt)))
        ((ran.ran i d lt).played.holds (st.kept (get_or (names w) i 0)) (here.holds i d lt))

    written_at : (i : ℕ) (d : Job Player) (lt : i < length jobs) (o : ℕ) (e : Home) → o < length (get_or jobs i d).desk.homes.items → (k : ℕ)
        → st'.pool (get_or (get_or jobs i d).desk.homes.items o e).buffer k ≡ get_or (get_or pool' (get_or (get_or jobs i d).desk.homes.items o e).buffer []) k (pos 0)
    written_at i d lt o e lo k =
        let v = get_or (names w) i 0 in
        let hs = (get_or jobs i d).desk.homes.items in
        let h = get_or (get_or jobs i d).desk.homes.items o e in
        let j = js.each i d lt in
        let done = (ran.ran i d lt).played in
        let out : get_or (waves.taken pool' (get_or jobs i d).desk.homes.items) o [] ≡ get_or pool' (get_or (get_or jobs i d).desk.homes.items o e).buffer [] = get_or-map (λ (z : Home). get_or pool' z.buffer []) (get_or jobs i d).desk.homes.items o e [] lo in
        let out0 : get_or (waves.taken pool (get_or jobs i d).desk.homes.items) o [] ≡ get_or pool (get_or (get_or jobs i d).desk.homes.items o e).buffer [] = get_or-map (λ (z : Home). get_or pool z.buffer []) (get_or jobs i d).desk.homes.items o e [] lo in
        let wr : core.writes (homes_at plan.homes (get_or (names w) i 0)) (get_or (get_or jobs i d).desk.homes.items o e).buffer ≡ true = sym (writes_same i d lt _) ∙ desk_writes (get_or jobs i d).desk.homes.items o e lo in
        let nd = node_in g plan sound c (positions plan) block k0 (get_or (names w) i 0) w at (in_it i lt) in
        let has : Contains (homes_at plan.homes (get_or (names w) i 0)) (core_home (get_or (get_or jobs i d).desk.homes.items o e)) = subst (λ z. Contains z (core_home (get_or (get_or jobs i d).desk.homes.items o e))) j.homes_are (desk_has (get_or jobs i d).desk.homes.items o e lo) in
        ⊎_elim
        (λ small.
        run.written (get_or (names w) i 0) (get_or (get_or jobs i d).desk.homes.items o e).buffer k (in_it i lt) wr small
        ∙ value_of (homes_at plan.homes (get_or (names w) i 0)) (core_home (get_or (get_or jobs i d).desk.homes.items o e)) (core.told (machine g (positions plan) plan.homes block) st (get_or (names w) i 0) k) has
        (λ a ca same. one_home g plan sound c (positions plan) block (get_or (names w) i 0) a (core_home (get_or (get_or jobs i d).desk.homes.items o e)) ca has same)
        ∙ ap (λ (z : Kept). get_or (made (node_named g (get_or (names w) i 0)) z.came) (get_or (get_or jobs i d).desk.homes.items o e).channel (pos 0)) (sym (run_same_as ran.left ran.lent i d lt (suc k)))
        ∙ ap (λ f. get_or f (get_or (get_or jobs i d).desk.homes.items o e).channel (pos 0)) (sym (given_is g (positions plan) plan block (get_or (names w) i 0) (get_or jobs i d).desk.homes.items (get_or jobs i d).part j nd.0 nd.1 _))
        ∙ sym (done.written (st.kept (get_or (names w) i 0)) o k e (here.holds i d lt) lo small)
        ∙ (let z : 0 + k ≡ k = omega arith in ap (λ t. get_or (get_or (waves.taken pool' (get_or jobs i d).desk.homes.items) o []) t (pos 0)) z)
        ∙ ap (λ l. get_or l k (pos 0)) out)
        (λ big.
        run.rest (get_or (get_or jobs i d).desk.homes.items o e).buffer k big ∙ here.samples (get_or (get_or jobs i d).desk.homes.items o e).buffer k
        ∙ ap (λ l. get_or l k (pos 0)) (sym out0)
        ∙ sym (done.rest o k (inr (omega arith))) ∙ ap (λ l. get_or l k (pos 0)) out)
        (cases_lt k n)

    samples_then : (b k : ℕ) → st'.pool b k ≡ get_or (get_or pool' b []) k (pos 0)
    samples_then b k =
        ⊎_elim
        (λ r.
        let has = of_is_in r.0 (names w) r.1 in
        let lt : has.0 < length jobs = subst (λ z. has.0 < z) (sym js.len) has.1 in
        let d = pick jobs has.0 lt in
        let name : get_or (names w) has.0 0 ≡ r.0 = get_or_default (names w) has.0 0 r.0 has.1 ∙ has.2 in
        let mine : core.writes (map core_home (get_or jobs has.0 (pick jobs has.0 lt)).desk.homes.items) b ≡ true = writes_same has.0 (pick jobs has.0 lt) lt b ∙ ap (λ v. core.writes (homes_at plan.homes v) b) name ∙ r.2 in
        let q = home_index (get_or jobs has.0 (pick jobs has.0 lt)).desk.homes.items b mine in
        subst (λ z. st'.pool z k ≡ get_or (get_or pool' z []) k (pos 0)) (q.2 no_home) (written_at has.0 (pick jobs has.0 lt) lt q.0 no_home q.1 k))
        (λ none.
        let free : IsFree (desks jobs) b = λ j o f e lj lo same.
        let dj = desk_job j o f e lj lo in
        let wr : core.writes (homes_at plan.homes (get_or (names w) j 0)) b ≡ true = subst (λ z. core.writes (homes_at plan.homes (get_or (names w) j 0)) z ≡ true) same dj.1 in
        let no = none (get_or (names w) j 0) (in_it j dj.0) in absurd (cc) in
        run.others b k none ∙ here.samples b k ∙ ap (λ l. get_or l k (pos 0)) (sym (ran.others b free)))
        (writer (λ v. homes_at plan.homes v) (names w) b)

    pub lengths_then : (b : ℕ) → length (get_or pool' b []) ≡ length (get_or pool b [])
    lengths_then b =
        ⊎_elim
        (λ r.
        let has = of_is_in r.0 (names w) r.1 in
        let lt : has.0 < length jobs = subst (λ z. has.0 < z) (sym js.len) has.1 in
        let name : get_or (names w) has.0 0 ≡ r.0 = get_or_default (names w) has.0 0 r.0 has.1 ∙ has.2 in
        let mine : core.writes (map core_home (get_or jobs has.0 (pick jobs has.0 lt)).desk.homes.items) b ≡ true = writes_same has.0 (pick jobs has.0 lt) lt b ∙ ap (λ v. core.writes (homes_at plan.homes v) b) name ∙ r.2 in
        let q = home_index (get_or jobs has.0 (pick jobs has.0 lt)).desk.homes.items b mine in
        let hs = (get_or jobs has.0 (pick jobs has.0 lt)).desk.homes.items in
        let out = get_or-map (λ (z : Home). get_or pool' z.buffer []) (get_or jobs has.0 (pick jobs has.0 lt)).desk.homes.items q.0 no_home [] q.1 in
        let out0 = get_or-map (λ (z : Home). get_or pool z.buffer []) (get_or jobs has.0 (pick jobs has.0 lt)).desk.homes.items q.0 no_home [] q.1 in
        subst (λ z. length (get_or pool' z []) ≡ length (get_or pool z [])) (q.2 no_home)
        (sym (ap length out) ∙ (ran.ran has.0 (pick jobs has.0 lt) lt).played.lengths q.0 ∙ ap length out0))
        (λ none.
        let free : IsFree (desks jobs) b = λ j o f e lj lo same.
        let dj = desk_job j o f e lj lo in
        let wr : core.writes (homes_at plan.homes (get_or (names w) j 0)) b ≡ true = subst (λ z. core.writes (homes_at plan.homes (get_or (names w) j 0)) z ≡ true) same dj.1 in
        let no = none (get_or (names w) j 0) (in_it j dj.0) in absurd (cc) in
        ap length (ran.others b free))
        (writer (λ v. homes_at plan.homes v) (names w) b)

    -- **the jobs and the pool are as the events of the wave leave them**
    pub wave_is : AreAt (names w) jobs' pool' st'
    wave_is = record { holds = holds_then; samples = samples_then }
