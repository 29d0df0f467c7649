-- An event takes a node from one time to the next.
use Rattle.std.proofs.Common.{◌≡◌, ℕ, zero, suc, ◌+◌, ◌<◌, ◌≤◌, List, [], ◌∷◌, map, ℤ, refl, sym, ap, ◌∙◌, arith, true, false, Some, None, Option, cond}
use Rattle.std.specs.List.{range_with_len}
use Rattle.graph_model.specs.Histories.{Frame, channel, before, newest}
use Rattle.graph_model.specs.Kinds.{rule_of}
use Rattle.graph_model.specs.Graphs.{IsRanked, node_named, is_input, ins_at, connections_into}
use Rattle.graph_model.specs.Answers.{delay}
use Rattle.graph_model.specs.declared.graph.Node.{Node}
use Rattle.graph_model.specs.declared.graph.Connection.{Connection}
use Rattle.graph_model.specs.declared.graph.Graph.{Graph}
use Rattle.plan_model.specs.declared.buffers.Home.{Home}
use Rattle.orders.specs.Orders as core
use Rattle.graph_model.specs.Streams.{on, in_at, out_at, tap}
use Rattle.engine_model.specs.Machines.{Kept, sum_on, passed_then, taps, summed, channels_into, delays_into, taken, takes_in, made, machine, sources}
use Rattle.engine_model.specs.States.{came_at, kept_at}
use Rattle.graph_model.proofs.StreamTimeLaws.{streams_are}
use Rattle.engine_model.proofs.LineFacts.{shown}
use Rattle.engine_model.proofs.StepFacts.{sums_step}

into_lines : (f : Connection → ℤ) (h : Connection → List ℤ) (cs : List Connection) → passed_then (map f cs) (map h cs) ≡ map (λ c. f c ∷ h c) cs
into_lines f h [] = refl
into_lines f h (c ∷ cs) = ap (λ ls. (f c ∷ h c) ∷ ls) (into_lines f h cs)

pub out_of_lines : (g : Graph) (p : ℕ → ℕ) (x : ℕ → Frame) (t : ℕ) (cs : List Connection)
    → taps (map (λ c. delay g p c) cs) (map (λ c. channel c.src_channel (before (out_at g p x c.src.0) (suc t))) cs) ≡ map (λ c. tap g p (out_at g p x) c t) cs
out_of_lines g p x t [] = refl
out_of_lines g p x t (c ∷ cs) =
    ap (λ z. z ∷ taps (map (λ c. delay g p c) cs) (map (λ e. channel e.src_channel (before (out_at g p x e.src.0) (suc t))) cs)) (shown (out_at g p x c.src.0) c.src_channel (delay g p c) t)
    ∙ ap (λ zs. tap g p (out_at g p x) c t ∷ zs) (out_of_lines g p x t cs)

sums : (g : Graph) (p : ℕ → ℕ) (x : ℕ → Frame) (t v : ℕ) → summed (ins_at g v) (channels_into g v) (delays_into g p v) (map (λ c. channel c.src_channel (before (out_at g p x c.src.0) (suc t))) (connections_into g v)) ≡ in_at g p x v t
sums g p x t v =
    ap (λ ys. map (λ d. sum_on d (map (λ c. c.dst_channel) (connections_into g v)) ys) (range_with_len 0 (ins_at g v))) (out_of_lines g p x t (connections_into g v))
    ∙ sums_step g p x t v

-- the frame that a node takes is that of time t
takes : (g : Graph) (p : ℕ → ℕ) (x block : ℕ → Frame) (t k v : ℕ) (o : Option Node) → block k ≡ x t
    → taken g p block v k o (map (λ c. channel c.src_channel (before (out_at g p x c.src.0) (suc t))) (connections_into g v)) ≡ came_at g p x o v t
takes g p x block t k v None comes = refl
takes g p x block t k v (Some n) comes =
    elim (is_input n.kind) as (λ b. cond b (block k) (summed (ins_at g v) (channels_into g v) (delays_into g p v) (map (λ c. channel c.src_channel (before (out_at g p x c.src.0) (suc t))) (connections_into g v))) ≡ cond b (x t) (in_at g p x v t))
    [ true ↦ comes | false ↦ sums g p x t v ]

-- an event of v whose samples are those of time t
pub machine_step : (g : Graph) (p : ℕ → ℕ) (x block : ℕ → Frame) (t k v : ℕ) → block k ≡ x t
    → takes_in g p block v k (kept_at g p x t v) (passed_then (map (λ c. on (out_at g p x c.src.0) c.src_channel t) (connections_into g v)) (kept_at g p x t v).passed)
    ≡ kept_at g p x (suc t) v
machine_step g p x block t k v comes =
    let into = into_lines (λ c. on (out_at g p x c.src.0) c.src_channel t) (λ c. channel c.src_channel (before (out_at g p x c.src.0) t)) (connections_into g v) in
    ap (λ zs. takes_in g p block v k (kept_at g p x t v) zs) into
    ∙ ap (λ f. record { came = f ∷ before (came_at g p x (node_named g v) v) t; passed = map (λ c. channel c.src_channel (before (out_at g p x c.src.0) (suc t))) (connections_into g v) })
    (takes g p x block t k v (node_named g v) comes)

-- and the frame that it gives then
pub machine_gives : (g : Graph) (p rank : ℕ → ℕ) (x : ℕ → Frame) (t v : ℕ) → IsRanked rank g → (n : Node) → node_named g v ≡ Some n
    → made (node_named g v) (kept_at g p x (suc t) v).came ≡ out_at g p x v t
machine_gives g p rank x t v ranked n named =
    let are = streams_are g p rank x ranked in
    ap (λ o. made o (before (came_at g p x o v) (suc t))) named
    ∙ elim (is_input n.kind) as (λ b. is_input n.kind ≡ b →
    cond b (newest (before (λ s. cond b (x s) (in_at g p x v s)) (suc t))) (rule_of n.kind (before (λ s. cond b (x s) (in_at g p x v s)) (suc t))) ≡ out_at g p x v t)
    [ true ↦ λ e. sym (are.entry v t n named e) | false ↦ λ e. sym (are.gives v t n named e) ] refl

module _ (g : Graph) (p rank : ℕ → ℕ) (homes : List Home) (x block : ℕ → Frame) (T n v : ℕ) (start : core.State Kept)
    (ranked : IsRanked rank g)
    (brings : (k : ℕ) → k < n → block k ≡ x (T + k))
    (at : start.kept v ≡ kept_at g p x T v)
    (has : (k : ℕ) → k < n → core.samples_of (sources g homes v) k start.pool ≡ map (λ c. on (out_at g p x c.src.0) c.src_channel (T + k)) (connections_into g v)) where
  -- after k of its events
  pub local_is : (k : ℕ) → k ≤ n → core.kept_after (machine g p homes block) start v k ≡ kept_at g p x (T + k) v
  local_is zero le = let e : T ≡ T + 0 = omega arith in at ∙ ap (λ t. kept_at g p x t v) e
  local_is (suc k) le =
      let next : suc (T + k) ≡ T + suc k = omega arith in
      ap (λ s. takes_in g p block v k s (passed_then (core.samples_of (sources g homes v) k start.pool) s.passed)) (local_is k (omega arith))
      ∙ ap (λ xs. takes_in g p block v k (kept_at g p x (T + k) v) (passed_then xs (kept_at g p x (T + k) v).passed)) (has k (omega arith))
      ∙ machine_step g p x block (T + k) k v (brings k (omega arith))
      ∙ ap (λ t. kept_at g p x t v) next

  -- the frame that its event k gives is that of time T + k
  pub told_is : (m : Node) → node_named g v ≡ Some m → (k : ℕ) → k < n → core.told (machine g p homes block) start v k ≡ out_at g p x v (T + k)
  told_is m named k lt =
      let next : T + suc k ≡ suc (T + k) = omega arith in
      ap (λ (s : Kept). made (node_named g v) s.came) (local_is (suc k) lt ∙ ap (λ t. kept_at g p x t v) next)
      ∙ machine_gives g p rank x (T + k) v ranked m named
