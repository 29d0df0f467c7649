-- An engine that stands for a history is in its state of the frame events, and what the events leave is what
-- contracts see.
use Rattle.std.proofs.Common.{◌≡◌, ℕ, zero, suc, ◌+◌, ◌-◌, ◌*◌, ◌^◌, ◌<◌, ◌≤◌, ℤ, List, [], ◌∷◌, ◌++◌, length, map, drop, get_or, refl, sym, ◌∙◌, ap, subst, arith, true, false, cond, Some, ⊎_elim}
use Rattle.std.specs.Prelude.{unsigned_abs, reverse}
use Rattle.std.proofs.lemmas.Bool.{false≢true}
use Rattle.std.proofs.lemmas.List.{length-replicate, get_or-replicate, reverse-reverse}
use Rattle.graph_model.specs.declared.kind.Kind.TheVariants.{Input}
use Rattle.std.specs.List.{All, flat_map}
use Rattle.std.proofs.lemmas.Bool.{cases_lt, cond-false}
use Rattle.std.proofs.lemmas.List.{length-map, length-take, length-drop, get_or-take, get_or-drop, get_or_past, get_or-map}
use Rattle.std.proofs.lemmas.List.Elements.{Contains-get_or}
use Rattle.std.proofs.lemmas.List.Sorted.{Contains-permutation, IsPermutation-sym}
use Rattle.graph_model.specs.Histories.{Frame, History, window, before, frame_in}
use Rattle.graph_model.specs.StreamLaws.{length-shifted}
use Rattle.graph_model.specs.Kinds.{ins_of, outs_of}
use Rattle.graph_model.specs.Kept.{StandsFor, Kept as KernelKept}
use Rattle.graph_model.specs.Bounds.{bounds, IsInputFor}
use Rattle.graph_model.specs.Graphs.{node_named, ins_at, outs_at, is_input, is_output, input_name, connections_into}
use Rattle.graph_model.specs.Paths.{is_live, live_nodes, reach}
use Rattle.graph_model.specs.Answers.{delay, incoming}
use Rattle.graph_model.specs.Sound.{IsSound}
use Rattle.graph_model.proofs.LiveLaws.{live_by}
use Rattle.graph_model.proofs.ReachLaws.{filter_from}
use Rattle.graph_model.specs.declared.kind.Kind.{Kind}
use Rattle.graph_model.specs.declared.graph.Node.{Node}
use Rattle.graph_model.specs.declared.graph.Connection.{Connection}
use Rattle.graph_model.specs.declared.graph.Graph.{Graph}
use Rattle.plan_model.specs.Certified.{IsCertified}
use Rattle.plan_model.specs.Schedules.{names}
use Rattle.plan_model.specs.declared.plan.Plan.{Plan}
use Rattle.plan_model.specs.declared.buffers.Home.{Home as PlanHome}
use Rattle.plan_model.proofs.ExampleTools.{listed}
use Rattle.engine_model.specs.Machines.{Kept}
use Rattle.engine_model.specs.Engines.{JobStands, came_in, gone_into}
use Rattle.engine_model.specs.Events.{JobIsLeft, came_of}
use Rattle.engine_model.specs.Machines.{windows_on, delays_into}
use Rattle.graph_model.proofs.StreamTimeLaws.{length-incoming}
use Rattle.engine_model.proofs.StateTimeLaws.{windows_are}
use Rattle.engine_model.proofs.InputLaws.{inputs_are}
use Rattle.engine_model.proofs.PlanLaws.{schedule}
use Rattle.engine_model.proofs.RunLaws.{some_node}
use Rattle.pool_waves.specs.declared.job.Home.{Home}
use Rattle.players.specs.declared.gathering.Wire.{Wire}
use Rattle.players.specs.declared.leaving.Leaving.{Leaving}
use Rattle.players.specs.declared.playing.Player.{Player}
use Rattle.players.specs.declared.playing.Server.{Server}
use Rattle.players.specs.declared.playing.Server.TheVariants.{Entry, Exit, Between}
use Rattle.players.specs.Servers.{ServerHolds, HasLeft}
use Rattle.players.specs.Plays.{delays_of, Holds}
use Rattle.plan_jobs.specs.Jobs.{Serves, IsPlayerOf}
use Rattle.plan_jobs.specs.Blocks.{all_nodes}
use Rattle.graph_model.proofs.NodeFacts.{input_is, index_of}
use Rattle.engine.specs.Views.{kernel_of}
use Rattle.engine.specs.Working.{AreSmall}

pub no_input : (kind : Kind) → is_output kind ≡ true → is_input kind ≡ false
no_input (Input n) e = absurd (false≢true e)
no_input kind e = refl

-- turned twice lines are as they were
twice : (ls : List (List ℤ)) → map reverse (map reverse ls) ≡ ls
twice [] = refl
twice (l ∷ ls) = let first : reverse (reverse l) ≡ l = reverse-reverse l in let rest = twice ls in cc

-- what a node keeps where h has come in
abbrev pub kept_of : Graph → (ℕ → ℕ) → History → ℕ → Kept
kept_of g p h v = record { came = came_of g p h (node_named g v) v; passed = map (gone_into g p h) (connections_into g v) }

length-came : (g : Graph) (p : ℕ → ℕ) (h : History) (v : ℕ) → length (came_in g p h v) ≡ length h
length-came g p h v = length-shifted (p v - reach g v) (ins_at g v) (incoming g (reach g) h v) ∙ length-incoming g (reach g) h v

-- ---- from what contracts see to the state of a node
module _ (g : Graph) (p : ℕ → ℕ) (homes : List PlanHome) (v : ℕ) (own : List Home) (a : Player) (is : IsPlayerOf g p homes v own a) (m : Node) (named : node_named g v ≡ Some m) where
  kernel_holds : (h : History) (sv : Server) → Serves m.kind (bounds g v) sv
      → (is_input m.kind ≡ false → is_output m.kind ≡ false → StandsFor m.kind (kernel_of sv) (came_in g p h v))
      → ((e : Leaving) → sv ≡ Exit e → length h ≤ e.start) → ServerHolds sv (cond (is_input m.kind) h (came_in g p h v))
  kernel_holds h Entry s kernel from = tt
  kernel_holds h (Exit e) s kernel from =
      subst (HasLeft e) (sym (cond-false (is_input m.kind) h (came_in g p h v) (no_input m.kind s.0)))
      (λ d k ld lh lk. let l = length-came g p h v in let f = from e refl in absurd (omega arith))
  kernel_holds h (Between q) s kernel from =
      subst (λ z. StandsFor q.kind q.kept z) (sym (cond-false (is_input m.kind) h (came_in g p h v) s.0))
      (subst (λ kind. StandsFor kind q.kept (came_in g p h v)) (sym s.2) (kernel s.0 s.1))

  wires_count : length (connections_into g v) ≡ length a.wires.items
  wires_count =
      sym (length-map (connections_into g v) (λ (c : Connection). c.dst_channel)) ∙ sym (ap length is.channels) ∙ length-map a.wires.items (λ (w : Wire). w.channel)

  pub holds_at : (h : History) (node : ℕ) (kernel : KernelKept) → node ≡ v → kernel ≡ kernel_of a.server → JobStands g p h (record { node = node; kernel = kernel; lines = map reverse a.lines.items })
      → ((e : Leaving) → a.server ≡ Exit e → length h ≤ e.start) → Holds a (kept_of g p h v)
  holds_at h node kernel at same stands from = record {
    lines = sym (twice a.lines.items)
        ∙ ap (map reverse)
        (subst (λ u. map reverse a.lines.items ≡ map (λ c. window (delay g p c) (gone_into g p h c)) (connections_into g u)) at stands.lines
        ∙ sym (windows_are g p (gone_into g p h) (connections_into g v))
        ∙ ap (λ ds. windows_on ds (map (gone_into g p h) (connections_into g v))) (sym is.delays));
    passed = length-map (connections_into g v) (gone_into g p h) ∙ wires_count;
    kernel = subst (ServerHolds a.server) (sym (ap (λ o. came_of g p h o v) named))
        (kernel_holds h a.server (is.server m named)
        (λ i o. subst (λ u. StandsFor m.kind (kernel_of a.server) (came_in g p h u)) at
        (subst (λ k. StandsFor m.kind k (came_in g p h node)) same
        (stands.kernel m (ap (node_named g) at ∙ named) i o))) from);
  }

  -- ---- and back
  left_kernel : (s : History) (sv : Server) → Serves m.kind (bounds g v) sv → ServerHolds sv s → is_input m.kind ≡ false → is_output m.kind ≡ false → StandsFor m.kind (kernel_of sv) s
  left_kernel s Entry is_in h i o = absurd (cc)
  left_kernel s (Exit e) is_out h i o = let t = is_out.0 in absurd (cc)
  left_kernel s (Between q) sv h i o = subst (λ kind. StandsFor kind q.kept s) sv.2 h

  pub left_at : (s : Kept) (node : ℕ) → node ≡ v → Holds a s → JobIsLeft g p s (record { node = node; kernel = kernel_of a.server; lines = map reverse a.lines.items })
  left_at s node at h = record {
    kernel = λ n e i o.
        let same : Some n ≡ Some m = sym e ∙ ap (node_named g) at ∙ named in
        let z : n ≡ m = cc in
        subst (λ (k : Node). is_input k.kind ≡ false → is_output k.kind ≡ false → StandsFor k.kind (kernel_of a.server) s.came) (sym z)
        (λ i2 o2. left_kernel s.came a.server (is.server m named) h.kernel i2 o2) i o;
    lines = ap (map reverse) h.lines ∙ twice (windows_on (delays_of a) s.passed) ∙ ap (λ ds. windows_on ds s.passed) is.delays ∙ ap (λ u. windows_on (delays_into g p u) s.passed) (sym at);
  }

  -- the server of the output node is the exit
  pub is_exit : is_output m.kind ≡ true → (e : Leaving) × (a.server ≡ Exit e) × (length e.lines.items ≡ ins_of m.kind) × ((d : ℕ) → d < length e.lines.items → length (get_or e.lines.items d []) ≡ 8192)
  is_exit out = go a.server refl (is.server m named)
    where
      go : (sv : Server) → a.server ≡ sv → Serves m.kind (bounds g v) sv → (e : Leaving) × (a.server ≡ Exit e) × (length e.lines.items ≡ ins_of m.kind) × ((d : ℕ) → d < length e.lines.items → length (get_or e.lines.items d []) ≡ 8192)
      go Entry e s = let n = no_input m.kind out in absurd (cc)
      go (Exit x) e s =
          let count = sym (length-map x.lines.items (λ (l : List ℤ). length l)) ∙ ap length s.1 ∙ length-replicate (ins_of m.kind) 8192 in (
            x,
            e,
            count,
            λ d lt.
                sym (get_or-map (λ (l : List ℤ). length l) x.lines.items d [] 0 lt) ∙ ap (λ (ls : List ℕ). get_or ls d 0) s.1 ∙ get_or-replicate (ins_of m.kind) d 8192 0 (omega (arith, count)),
          )
      go (Between q) e s = let n = s.1 in absurd (cc)

-- ---- the nodes of a plan
module _ (g : Graph) (plan : Plan) (sound : IsSound g) (c : IsCertified g plan) where
  pub live_at : (i : ℕ) → i < length (all_nodes plan) → is_live g (get_or (all_nodes plan) i 0) ≡ true
  live_at i lt =
      (filter_from (is_live g) (map (λ m. m.uid.0) g.nodes) (get_or (all_nodes plan) i 0)
      (Contains-permutation (flat_map names plan.waves) (live_nodes g) (get_or (all_nodes plan) i 0)
      (IsPermutation-sym (live_nodes g) (flat_map names plan.waves) (schedule g plan sound c).once) (Contains-get_or (all_nodes plan) i 0 lt))).1

  pub node_at : (v : ℕ) → is_live g v ≡ true → (m : Node) × (node_named g v ≡ Some m)
  node_at v live = some_node g.nodes v (listed g v (live_by g sound v live))

-- ---- small frames
abbrev pub IsSmall : ℕ → Frame → Type 0
IsSmall m f = (length f ≤ m) × All (λ y. unsigned_abs y ≤ 2 ^ 31) f

pub all_before : (P : Frame → Type 0) (x : ℕ → Frame) → ((t : ℕ) → P (x t)) → (n : ℕ) → All P (before x n)
all_before P x all zero k d lt = absurd (omega arith)
all_before P x all (suc n) zero d lt = all n
all_before P x all (suc n) (suc k) d lt = all_before P x all n k d (omega arith)

pub all_append : (P : Frame → Type 0) (a b : History) → All P a → All P b → All P (a ++ b)
all_append P [] b ha hb k d lt = hb k d lt
all_append P (f ∷ a) b ha hb zero d lt = ha 0 d (omega arith)
all_append P (f ∷ a) b ha hb (suc k) d lt = all_append P a b (λ i e l. ha (suc i) e (omega arith)) hb k d (omega arith)

pub small_at : (m : ℕ) (h : History) (k : ℕ) → AreSmall m h → IsSmall m (get_or h k [])
small_at m h k all =
    ⊎_elim (λ lt. all k [] lt)
    (λ ge. subst (IsSmall m) (sym (get_or_past h k [] ge)) (omega arith, λ i d lt. absurd (omega arith)))
    (cases_lt k (length h))

pub small_block : (m : ℕ) (input : List ℤ) (t : ℕ) → All (λ y. unsigned_abs y ≤ 2 ^ 31) input → IsSmall m (frame_in m input t)
small_block m input t all =
    let lt = length-take m (drop (t * m) input) in
    let ld = length-drop (t * m) input in (
      omega arith,
      λ i d li.
          let lm : i < m = omega arith in
          let lx : t * m + i < length input = omega arith in
          subst (λ y. unsigned_abs y ≤ 2 ^ 31) (sym (get_or-take m (drop (t * m) input) i d lm ∙ get_or-drop (t * m) input i d)) (all (t * m + i) d lx),
    )

pub input_for : (g : Graph) (sound : IsSound g) (m : ℕ) → m ≡ outs_at g (input_name g) → (h : History) → AreSmall m h → IsInputFor g h
input_for g sound m e h all = inputs_are g h (λ v n named is k d lt.
    let ix = index_of g sound v n named in
    let wide : outs_of n.kind ≡ outs_at g (input_name g) = subst (λ (z : Node). is_input z.kind ≡ true → outs_of z.kind ≡ outs_at g (input_name g)) ix.3 (λ i. input_is g sound ix.0 n ix.1 i) is in
    let a = all k d lt in (let l = a.0 in omega (arith, e, wide), a.1))
