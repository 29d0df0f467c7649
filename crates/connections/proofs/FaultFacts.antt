-- A fault fails its own check, and the checks before it hold.
use Rattle.std.proofs.Common.{◌≡◌, ℕ, zero, suc, ◌+◌, ◌*◌, ◌^◌, ◌<◌, ◌≤◌, List, length, map, take, get_or, sym, ◌∙◌, ap, subst, arith, Some, None, inl, inr, Option}
use Rattle.std.specs.Prelude.{slice_get, is_some}
use Rattle.std.specs.List.{position_or_len}
use Rattle.std.proofs.lemmas.List.{get_or-map, get_or-take, length-take, length-map}
use Rattle.std.proofs.lemmas.List.Folds.{find_at}
use Rattle.std.proofs.lemmas.Option.{slice_get_within, get_or_from_slice_get}
use Rattle.graph_model.specs.Members.{bad_member}
use Rattle.graph_model.specs.Checks.{IsConnection, AreConnections}
use Rattle.graph_model.specs.Paths.{IsAcyclic, live_connections, latency_of_graph}
use Rattle.graph_model.specs.Sound.{IsShaped, IsSound}
use Rattle.graph_model.specs.declared.member.Member.{Member}
use Rattle.graph_model.specs.declared.graph.Uid.{Uid}
use Rattle.graph_model.specs.declared.graph.Side.{Side}
use Rattle.graph_model.specs.declared.graph.Side.TheVariants.{Source, Destination, In, Out}
use Rattle.graph_model.specs.declared.graph.Node.{Node}
use Rattle.graph_model.specs.declared.graph.Connection.{Connection}
use Rattle.graph_model.specs.declared.graph.Graph.{Graph}
use Rattle.graph_model.proofs.WalkLaws.{closed_walk_refutes}
use Rattle.std.proofs.lemmas.Bool.{cases_lt, cases_eq}
use Rattle.headroom.proofs.LoudFacts.{too_loud_refutes}
use Rattle.headroom.specs.Answers.{AllBounded}
use Rattle.graph_model.proofs.NameFacts.{any_node}
use Rattle.connections.specs.Faults.{UidsDiffer, AreInRange, HasEnds, HasGoodNodes, HasUidAt, IsUidTwice, IsOutOfRange, IsFirstBad, LacksNode, JoinsItself, IsPastChannels, IsOffChannel, StandsAlready, HasFewDelays, HasFewCells, IsFirstFault}
use Rattle.connections.specs.declared.fault.GraphFault.{GraphFault}
use Rattle.connections.specs.declared.fault.GraphFault.TheVariants.{UidTwice, KindField, Ends, NoSuchNode, SelfConnection, ChannelRange, Twice, Cycle, DelayBound, StateBound, Headroom}

-- the place of its check in the order of checks; those of a connection are one
abbrev pub stage : GraphFault → ℕ
stage (UidTwice uid first second) = 0
stage (KindField uid field) = 1
stage (Ends inputs outputs) = 2
stage (NoSuchNode at uid) = 3
stage (SelfConnection at) = 3
stage (ChannelRange at side channel count) = 3
stage (Twice at earlier) = 3
stage (Cycle walk) = 4
stage (DelayBound latency connections) = 5
stage (StateBound cells) = 6
stage (Headroom uid side channel bound) = 7

-- the checks, in their order
abbrev pub Check : Graph → ℕ → Type 0
Check g zero = UidsDiffer g.nodes
Check g (suc zero) = AreInRange g.nodes
Check g (suc (suc zero)) = HasEnds g 1 1
Check g (suc (suc (suc zero))) = AreConnections g (length g.connections)
Check g (suc (suc (suc (suc zero)))) = IsAcyclic g
Check g (suc (suc (suc (suc (suc zero))))) = HasFewDelays g
Check g (suc (suc (suc (suc (suc (suc zero)))))) = HasFewCells g
Check g (suc (suc (suc (suc (suc (suc (suc k))))))) = AllBounded g

pub all_checks : (g : Graph) → IsSound g → (k : ℕ) → Check g k
all_checks g s zero = s.shaped.uids_differ
all_checks g s (suc zero) = s.shaped.in_range
all_checks g s (suc (suc zero)) = s.shaped.ends
all_checks g s (suc (suc (suc zero))) = s.shaped.connections
all_checks g s (suc (suc (suc (suc zero)))) = s.shaped.acyclic
all_checks g s (suc (suc (suc (suc (suc zero))))) = s.few_delays
all_checks g s (suc (suc (suc (suc (suc (suc zero)))))) = s.few_cells
all_checks g s (suc (suc (suc (suc (suc (suc (suc k))))))) = s.headroom

-- ---- what a place says
pub uid_at_place : (g : Graph) (k : ℕ) (uid : Uid) (d : Node) → HasUidAt g k uid → (k < length g.nodes) × ((get_or g.nodes k d).uid ≡ uid)
uid_at_place g k uid d has =
    let within : k < length g.nodes = omega (arith, slice_get_within (map (λ (n : Node). n.uid) g.nodes) k uid has, length-map g.nodes (λ (n : Node). n.uid)) in
    (within, sym (get_or-map (λ (n : Node). n.uid) g.nodes k d uid within) ∙ get_or_from_slice_get (map (λ (n : Node). n.uid) g.nodes) k uid uid has)

pub connection_at_place : (g : Graph) (k : ℕ) (c : Connection) → slice_get g.connections k ≡ Some c → (k < length g.connections) × (get_or g.connections k c ≡ c)
connection_at_place g k c is = (slice_get_within g.connections k c is, get_or_from_slice_get g.connections k c c is)

-- the connection at a place, after the checks of all before n
pub passes_at : (g : Graph) (n k : ℕ) (c : Connection) → AreConnections g n → k < n → slice_get g.connections k ≡ Some c → IsConnection g (take k g.connections) c
passes_at g n k c all lt is = subst (λ (d : Connection). IsConnection g (take k g.connections) d) (get_or_from_slice_get g.connections k c c is) (all k c lt)

-- ---- a fault fails its check
module _ (g : Graph) where
  twice_fails : (uid : Uid) (first second : ℕ) → IsUidTwice g uid first second → UidsDiffer g.nodes → ⊥
  twice_fails uid first second (less, one, two, before) differ =
      let a = uid_at_place g first uid any_node one in
      let b = uid_at_place g second uid any_node two in
      differ first second any_node less b.0 (a.1 ∙ sym b.1)

  range_fails : (uid : Uid) (field : Member) → IsOutOfRange g uid field → AreInRange g.nodes → ⊥
  range_fails uid field (n, found, is, bad) good =
      let p : ℕ = position_or_len (λ (m : Node). is_some (bad_member m)) g.nodes in
      let at : slice_get g.nodes p ≡ Some n = sym (find_at (λ (m : Node). is_some (bad_member m)) g.nodes) ∙ found in
      let none : bad_member n ≡ None = ap bad_member (sym (get_or_from_slice_get g.nodes p n n at)) ∙ good p n (slice_get_within g.nodes p n at) in
      differs (bad_member n) field none bad
    where
      differs : (o : Option Member) (m : Member) → o ≡ None → o ≡ Some m → ⊥
      differs o m a b = absurd (cc)

  pub lacks_fails : (before : List Connection) (uid : Uid) (c : Connection) → LacksNode g uid c → IsConnection g before c → ⊥
  lacks_fails before uid c (inl x) k = x.1 k.source_exists
  lacks_fails before uid c (inr x) k = x.2 k.destination_exists

  pub channel_fails : (before : List Connection) (side : Side) (channel count : ℕ) (c : Connection) → IsPastChannels g side channel count c → IsConnection g before c → ⊥
  channel_fails before Source channel count c x k = let a = x.0 in let b = x.1 in let d = x.2 in let e = k.source_channel in absurd (omega arith)
  channel_fails before Destination channel count c x k = let a = x.1 in let b = x.2 in let d = x.3 in let e = k.destination_channel in absurd (omega arith)
  channel_fails before In channel count c x k = x
  channel_fails before Out channel count c x k = x

  pub already_fails : (at earlier : ℕ) (c : Connection) → StandsAlready g at earlier c → IsConnection g (take at g.connections) c → ⊥
  already_fails at earlier c (alone, less, is) k =
      let place = connection_at_place g earlier c is in
      k.new (earlier, (let l = place.0 in omega (arith, length-take at g.connections)), get_or-take at g.connections earlier c less ∙ place.1)

  bad_fails : (at : ℕ) (P : Connection → Type 0) → ((c : Connection) → P c → IsConnection g (take at g.connections) c → ⊥) → IsFirstBad g at P → AreConnections g (length g.connections) → ⊥
  bad_fails at P fails (nodes, before, (c, is, bad)) all = fails c bad (passes_at g (length g.connections) at c all (slice_get_within g.connections at c is) is)

pub fails : (g : Graph) (f : GraphFault) → IsFirstFault g f → Check g (stage f) → ⊥
fails g (UidTwice uid first second) x = twice_fails g uid first second x
fails g (KindField uid field) x = range_fails g uid field x.1
fails g (Ends inputs outputs) x = x.3
fails g (NoSuchNode at uid) x = bad_fails g at (LacksNode g uid) (λ c. lacks_fails g (take at g.connections) uid c) x
fails g (SelfConnection at) x = bad_fails g at (JoinsItself g) (λ c bad k. k.nodes_differ bad.1) x
fails g (ChannelRange at side channel count) x =
    bad_fails g at (IsOffChannel g side channel count) (λ c bad. channel_fails g (take at g.connections) side channel count c bad.2) x
fails g (Twice at earlier) x = bad_fails g at (StandsAlready g at earlier) (λ c. already_fails g at earlier c) x
fails g (Cycle walk) x = closed_walk_refutes g x.1 walk x.2
fails g (DelayBound latency connections) x = λ few. too_long latency connections (latency_of_graph g) (length (live_connections g)) x.1.0 x.1.1 x.1.2 few
  where
    too_long : (a b c d : ℕ) → c ≡ a → d ≡ b → 2 ^ 26 < b * a → d * c ≤ 2 ^ 26 → ⊥
    too_long a b c d e f more few = let same : d * c ≡ b * a = (λ i. f i * e i) in absurd (omega arith)
fails g (StateBound cells) x = λ few. let a = x.2.0 in let b = x.2.1 in absurd (omega arith)
fails g (Headroom uid side channel bound) x = too_loud_refutes g (record { uid = uid; side = side; channel = channel; bound = bound }) x.3

-- ---- and the checks before it hold
module _ (g : Graph) where
  none : (k : ℕ) → k < 0 → Check g k
  none k lt = absurd (omega arith)

  next : (n : ℕ) → ((k : ℕ) → k < n → Check g k) → Check g n → (k : ℕ) → k < n + 1 → Check g k
  next n before here k lt =
      elim (cases_eq k n) [
        | inl same ↦ subst (Check g) (sym same) here
        | inr other ↦ before k (omega arith)
      ]

  nodes_pass : HasGoodNodes g → (k : ℕ) → k < 3 → Check g k
  nodes_pass good = next 2 (next 1 (next 0 none good.uids_differ) good.in_range) good.ends

  shape_passes : IsShaped g → (k : ℕ) → k < 5 → Check g k
  shape_passes shaped = next 4 (next 3 (next 2 (next 1 (next 0 none shaped.uids_differ) shaped.in_range) shaped.ends) shaped.connections) shaped.acyclic

  passes : (f : GraphFault) → IsFirstFault g f → (k : ℕ) → k < stage f → Check g k
  passes (UidTwice uid first second) x = none
  passes (KindField uid field) x = next 0 none x.0
  passes (Ends inputs outputs) x = next 1 (next 0 none x.0) x.1
  passes (NoSuchNode at uid) x = nodes_pass x.0
  passes (SelfConnection at) x = nodes_pass x.0
  passes (ChannelRange at side channel count) x = nodes_pass x.0
  passes (Twice at earlier) x = nodes_pass x.0
  passes (Cycle walk) x = next 3 (nodes_pass x.0) x.1
  passes (DelayBound latency connections) x = shape_passes x.0
  passes (StateBound cells) x = next 5 (shape_passes x.0) x.1
  passes (Headroom uid side channel bound) x = next 6 (next 5 (shape_passes x.0) x.1) x.2

-- so two first faults of a graph are of one stage
pub same_stage : (g : Graph) (a b : GraphFault) → IsFirstFault g a → IsFirstFault g b → stage a ≡ stage b
same_stage g a b x y =
    elim (cases_lt (stage a) (stage b)) [
      | inl less ↦ absurd (fails g a x (passes g b y (stage a) less))
      | inr no_less ↦
          elim (cases_eq (stage a) (stage b)) [
            | inl same ↦ same
            | inr other ↦ (let less : stage b < stage a = omega arith in absurd (fails g b y (passes g a x (stage b) less)))
          ]
    ]
