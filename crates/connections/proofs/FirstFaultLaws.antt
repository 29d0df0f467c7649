-- A graph has one first fault, but for the walk of a cycle.
use Rattle.std.proofs.Common.{◌≡◌, ℕ, zero, suc, ◌<◌, ◌≤◌, [], map, take, refl, sym, ◌∙◌, ap, subst, arith, Option, Some, inl, inr}
use Rattle.std.specs.Prelude.{slice_get, ◌≢◌}
use Rattle.std.proofs.lemmas.Bool.{cases_lt, cases_eq}
use Rattle.std.proofs.lemmas.List.{get_or-take, length-take}
use Rattle.graph_model.specs.Graphs.{ins_at, outs_at}
use Rattle.graph_model.specs.Members.{bad_member}
use Rattle.graph_model.specs.Checks.{IsConnection, AreConnections}
use Rattle.graph_model.specs.declared.member.Member.{Member}
use Rattle.graph_model.specs.declared.graph.Uid.{Uid}
use Rattle.graph_model.specs.declared.graph.Side.{Side}
use Rattle.graph_model.specs.declared.graph.Side.TheVariants.{Source, Destination, In, Out}
use Rattle.graph_model.specs.declared.graph.Node.{Node}
use Rattle.graph_model.specs.declared.graph.Connection.{Connection}
use Rattle.graph_model.specs.declared.graph.Graph.{Graph}
use Rattle.headroom.proofs.LoudFacts.{too_loud_is_unique}
use Rattle.headroom.specs.declared.loud.TooLoud.{TooLoud}
use Rattle.graph_model.proofs.NameFacts.{any_node}
use Rattle.connections.specs.Faults.{UidsDiffer, HasUidAt, IsUidTwice, IsOutOfRange, IsFirstBad, LacksNode, HasItsNodes, JoinsItself, IsPastChannels, IsOffChannel, StandsAlready, IsFirstFault}
use Rattle.connections.specs.Laws.{without_walk, FirstFaultIsUnique}
use Rattle.connections.specs.declared.fault.GraphFault.{GraphFault}
use Rattle.connections.specs.declared.fault.GraphFault.TheVariants.{UidTwice, KindField, Ends, NoSuchNode, SelfConnection, ChannelRange, Twice, Cycle, DelayBound, StateBound, Headroom}
use Rattle.connections.proofs.FaultFacts.{stage, same_stage, uid_at_place, passes_at, lacks_fails, channel_fails, already_fails}

same_some : {X : Type 0} (o : Option X) (a b : X) → o ≡ Some a → o ≡ Some b → a ≡ b
same_some o a b x y = cc

-- of two numbers neither of which is below the other
neither : (m n : ℕ) → (m < n → ⊥) → (n < m → ⊥) → m ≡ n
neither m n a b =
    elim (cases_lt m n) [
      | inl less ↦ absurd (a less)
      | inr no_less ↦
          elim (cases_eq m n) [
            | inl same ↦ same
            | inr other ↦ (let less : n < m = omega arith in absurd (b less))
          ]
    ]

module _ (g : Graph) where
  -- ---- uids
  two_places : (t i j : ℕ) (uid : Uid) → UidsDiffer (take t g.nodes) → i < j → j < t → HasUidAt g i uid → HasUidAt g j uid → ⊥
  two_places t i j uid differ less below one two =
      let a = uid_at_place g i uid any_node one in
      let b = uid_at_place g j uid any_node two in
      differ i j any_node less (let l = b.0 in omega (arith, length-take t g.nodes))
      (ap (λ (n : Node). n.uid) (get_or-take t g.nodes i any_node (omega arith)) ∙ a.1 ∙ sym b.1 ∙ ap (λ (n : Node). n.uid) (sym (get_or-take t g.nodes j any_node below)))

  same_twice : (u v : Uid) (f s h t : ℕ) → IsUidTwice g u f s → IsUidTwice g v h t → UidTwice u f s ≡ UidTwice v h t
  same_twice u v f s h t x y =
      let second : s ≡ t = neither s t (λ less. two_places t f s u y.3 x.0 less x.1 x.2) (λ less. two_places s h t v x.3 y.0 less y.1 y.2) in
      let uid : u ≡ v = same_some (slice_get (map (λ (n : Node). n.uid) g.nodes) t) u v (subst (λ (k : ℕ). HasUidAt g k u) second x.2) y.2 in
      let there : HasUidAt g f v = subst (λ (w : Uid). HasUidAt g f w) uid x.1 in
      let first : f ≡ h = neither f h (λ less. two_places t f h v y.3 less y.0 there y.1) (λ less. two_places s h f v x.3 less x.0 y.1 there) in
      λ i. UidTwice (uid i) (first i) (second i)

  same_field : (u v : Uid) (f h : Member) → IsOutOfRange g u f → IsOutOfRange g v h → KindField u f ≡ KindField v h
  same_field u v f h (n, found, is, bad) (m, found2, is2, bad2) =
      let node : n ≡ m = same_some _ n m found found2 in
      let uid : u ≡ v = sym is ∙ ap (λ (k : Node). k.uid) node ∙ is2 in
      let field : f ≡ h = same_some (bad_member m) f h (ap bad_member (sym node) ∙ bad) bad2 in
      λ i. KindField (uid i) (field i)

  -- ---- connections
  abbrev place : GraphFault → ℕ
  place (NoSuchNode at uid) = at
  place (SelfConnection at) = at
  place (ChannelRange at side channel count) = at
  place (Twice at earlier) = at
  place f = 0

  -- how the connection fails
  abbrev Fails : GraphFault → Connection → Type 0
  Fails (NoSuchNode at uid) c = LacksNode g uid c
  Fails (SelfConnection at) c = JoinsItself g c
  Fails (ChannelRange at side channel count) c = IsOffChannel g side channel count c
  Fails (Twice at earlier) c = StandsAlready g at earlier c
  Fails f c = ⊥

  is_bad : (f : GraphFault) → stage f ≡ 3 → IsFirstFault g f → IsFirstBad g (place f) (Fails f)
  is_bad (NoSuchNode at uid) e x = x
  is_bad (SelfConnection at) e x = x
  is_bad (ChannelRange at side channel count) e x = x
  is_bad (Twice at earlier) e x = x
  is_bad f e x = absurd (omega arith)

  connection_fails : (f : GraphFault) (c : Connection) → stage f ≡ 3 → Fails f c → IsConnection g (take (place f) g.connections) c → ⊥
  connection_fails (NoSuchNode at uid) c e x = lacks_fails g (take at g.connections) uid c x
  connection_fails (SelfConnection at) c e x = λ k. k.nodes_differ x.1
  connection_fails (ChannelRange at side channel count) c e x = channel_fails g (take at g.connections) side channel count c x.2
  connection_fails (Twice at earlier) c e x = already_fails g at earlier c x
  connection_fails f c e x = absurd (omega arith)

  no_earlier : (f h : GraphFault) → stage f ≡ 3 → stage h ≡ 3 → IsFirstFault g f → IsFirstFault g h → place f < place h → ⊥
  no_earlier f h d e x y less =
      let bad = is_bad f d x in
      let c = bad.2.0 in
      connection_fails f c d bad.2.2 (passes_at g (place h) (place f) c (is_bad h e y).1 less bad.2.1)

  -- the parts of a connection's check, in their order
  abbrev part : GraphFault → ℕ
  part (SelfConnection at) = 1
  part (ChannelRange at side channel count) = 2
  part (Twice at earlier) = 3
  part f = 0

  abbrev Part : Connection → ℕ → Type 0
  Part c zero = HasItsNodes g c
  Part c (suc zero) = c.src ≢ c.dst
  Part c (suc (suc k)) = (c.src_channel < outs_at g c.src.0) × (c.dst_channel < ins_at g c.dst.0)

  part_fails : (f : GraphFault) (c : Connection) → stage f ≡ 3 → part f < 3 → Fails f c → Part c (part f) → ⊥
  part_fails (NoSuchNode at uid) c e lt (inl x) k = x.1 k.0
  part_fails (NoSuchNode at uid) c e lt (inr x) k = x.2 k.1
  part_fails (SelfConnection at) c e lt x k = k x.1
  part_fails (ChannelRange at Source channel count) c e lt x k = let y = x.2 in let a = y.0 in let b = y.1 in let d = y.2 in let l = k.0 in absurd (omega arith)
  part_fails (ChannelRange at Destination channel count) c e lt x k = let y = x.2 in let a = y.1 in let b = y.2 in let d = y.3 in let l = k.1 in absurd (omega arith)
  part_fails (ChannelRange at In channel count) c e lt x k = x.2
  part_fails (ChannelRange at Out channel count) c e lt x k = x.2
  part_fails f c e lt x k = absurd (omega arith)

  part_passes : (f : GraphFault) (c : Connection) → Fails f c → (k : ℕ) → k < part f → Part c k
  part_passes (SelfConnection at) c x zero lt = x.0
  part_passes (ChannelRange at side channel count) c x zero lt = x.0
  part_passes (ChannelRange at side channel count) c x (suc zero) lt = x.1
  part_passes (Twice at earlier) c x zero lt = let k = x.0 in (k.source_exists, k.destination_exists)
  part_passes (Twice at earlier) c x (suc zero) lt = let k = x.0 in k.nodes_differ
  part_passes (Twice at earlier) c x (suc (suc zero)) lt = let k = x.0 in (k.source_channel, k.destination_channel)
  part_passes f c x k lt = absurd (omega arith)

  most_part : (f : GraphFault) → part f ≤ 3
  most_part (UidTwice uid first second) = omega arith
  most_part f = omega arith

  no_lower : (f h : GraphFault) (c : Connection) → stage f ≡ 3 → Fails f c → Fails h c → part f < part h → ⊥
  no_lower f h c e x y less = part_fails f c e (omega (arith, most_part h)) x (part_passes h c y (part f) less)

  same_lack : (at at2 : ℕ) (u v : Uid) (c : Connection) → at ≡ at2 → LacksNode g u c → LacksNode g v c → NoSuchNode at u ≡ NoSuchNode at2 v
  same_lack at at2 u v c e (inl x) (inl y) = let uid : u ≡ v = sym x.0 ∙ y.0 in λ i. NoSuchNode (e i) (uid i)
  same_lack at at2 u v c e (inl x) (inr y) = absurd (x.1 y.1)
  same_lack at at2 u v c e (inr x) (inl y) = absurd (y.1 x.1)
  same_lack at at2 u v c e (inr x) (inr y) = let uid : u ≡ v = sym x.0 ∙ y.0 in λ i. NoSuchNode (e i) (uid i)

  same_channel : (at at2 : ℕ) (s t : Side) (channel count channel2 count2 : ℕ) (c : Connection) → at ≡ at2 → IsPastChannels g s channel count c → IsPastChannels g t channel2 count2 c
      → ChannelRange at s channel count ≡ ChannelRange at2 t channel2 count2
  same_channel at at2 Source Source m n k l c e x y =
      let a : m ≡ k = sym x.0 ∙ y.0 in let b : n ≡ l = sym x.1 ∙ y.1 in λ i. ChannelRange (e i) Source (a i) (b i)
  same_channel at at2 Destination Destination m n k l c e x y =
      let a : m ≡ k = sym x.1 ∙ y.1 in let b : n ≡ l = sym x.2 ∙ y.2 in λ i. ChannelRange (e i) Destination (a i) (b i)
  same_channel at at2 Source Destination m n k l c e x y = let a = x.0 in let b = x.1 in let d = x.2 in let f = y.0 in absurd (omega arith)
  same_channel at at2 Destination Source m n k l c e x y = let a = y.0 in let b = y.1 in let d = y.2 in let f = x.0 in absurd (omega arith)
  same_channel at at2 In t m n k l c e x y = absurd x
  same_channel at at2 Out t m n k l c e x y = absurd x
  same_channel at at2 s In m n k l c e x y = absurd y
  same_channel at at2 s Out m n k l c e x y = absurd y

  -- a connection stands at one place among those that pass their checks
  no_repeat : (n i j : ℕ) (c : Connection) → AreConnections g n → i < j → j < n → slice_get g.connections i ≡ Some c → slice_get g.connections j ≡ Some c → ⊥
  no_repeat n i j c all less below one two = already_fails g j i c (alone, less, one) (passes_at g n j c all below two)
    where
      alone : IsConnection g [] c
      alone =
          let k = passes_at g n j c all below two in
          record {
            source_exists = k.source_exists;
            destination_exists = k.destination_exists;
            nodes_differ = k.nodes_differ;
            source_channel = k.source_channel;
            destination_channel = k.destination_channel;
            new = λ has. let l = has.1 in absurd (omega arith);
          }

  same_already : (at at2 i j : ℕ) (c : Connection) → AreConnections g at → at ≡ at2 → StandsAlready g at i c → StandsAlready g at2 j c → Twice at i ≡ Twice at2 j
  same_already at at2 i j c all e x y =
      let p = x.1 in let q = y.1 in
      let place : i ≡ j = neither i j (λ less. no_repeat at i j c all less (omega arith) x.2 y.2) (λ less. no_repeat at j i c all less (omega arith) y.2 x.2) in
      λ k. Twice (e k) (place k)

  same_bad : (f h : GraphFault) (c : Connection) → stage f ≡ 3 → stage h ≡ 3 → part f ≡ part h → place f ≡ place h → AreConnections g (place f) → Fails f c → Fails h c → f ≡ h
  same_bad (NoSuchNode at u) (NoSuchNode at2 v) c d e p same all x y = same_lack at at2 u v c same x y
  same_bad (SelfConnection at) (SelfConnection at2) c d e p same all x y = λ i. SelfConnection (same i)
  same_bad (ChannelRange at s m n) (ChannelRange at2 t k l) c d e p same all x y = same_channel at at2 s t m n k l c same x.2 y.2
  same_bad (Twice at i) (Twice at2 j) c d e p same all x y = same_already at at2 i j c all same x y
  same_bad f h c d e p same all x y = absurd (omega arith)

  same_connection : (f h : GraphFault) → stage f ≡ 3 → stage h ≡ 3 → IsFirstFault g f → IsFirstFault g h → f ≡ h
  same_connection f h d e x y =
      let at : place f ≡ place h = neither (place f) (place h) (no_earlier f h d e x y) (no_earlier h f e d y x) in
      let a = is_bad f d x in
      let b = is_bad h e y in
      let c = a.2.0 in
      let there : c ≡ b.2.0 = same_some (slice_get g.connections (place h)) c b.2.0 (subst (λ (k : ℕ). slice_get g.connections k ≡ Some c) at a.2.1) b.2.1 in
      let fails : Fails h c = subst (λ (k : Connection). Fails h k) (sym there) b.2.2 in
      let parts : part f ≡ part h = neither (part f) (part h) (no_lower f h c d a.2.2 fails) (no_lower h f c e fails a.2.2) in
      same_bad f h c d e parts at a.1 a.2.2 fails

  -- ---- all
  same_fault : (a b : GraphFault) → stage a ≡ stage b → IsFirstFault g a → IsFirstFault g b → without_walk a ≡ without_walk b
  same_fault (UidTwice u f s) (UidTwice v h t) e x y = same_twice u v f s h t x y
  same_fault (KindField u f) (KindField v h) e x y = same_field u v f h x.1 y.1
  same_fault (Ends m n) (Ends k l) e x y =
      let a = x.2 in let b = y.2 in
      let inputs : m ≡ k = sym a.0 ∙ b.0 in let outputs : n ≡ l = sym a.1 ∙ b.1 in λ i. Ends (inputs i) (outputs i)
  same_fault (NoSuchNode at u) b e x y = ap without_walk (same_connection (NoSuchNode at u) b refl (sym e) x y)
  same_fault (SelfConnection at) b e x y = ap without_walk (same_connection (SelfConnection at) b refl (sym e) x y)
  same_fault (ChannelRange at s m n) b e x y = ap without_walk (same_connection (ChannelRange at s m n) b refl (sym e) x y)
  same_fault (Twice at i) b e x y = ap without_walk (same_connection (Twice at i) b refl (sym e) x y)
  same_fault (Cycle walk) (Cycle other) e x y = refl
  same_fault (DelayBound m n) (DelayBound k l) e x y =
      let a = x.1 in let b = y.1 in
      let latency : m ≡ k = sym a.0 ∙ b.0 in let connections : n ≡ l = sym a.1 ∙ b.1 in λ i. DelayBound (latency i) (connections i)
  same_fault (StateBound m) (StateBound n) e x y =
      let a = x.2 in let b = y.2 in let cells : m ≡ n = sym a.0 ∙ b.0 in λ i. StateBound (cells i)
  same_fault (Headroom u s m n) (Headroom v t k l) e x y =
      let loud = too_loud_is_unique g (record { uid = u; side = s; channel = m; bound = n }) (record { uid = v; side = t; channel = k; bound = l }) x.3 y.3 in
      λ i. let at : TooLoud = loud i in Headroom at.uid at.side at.channel at.bound
  same_fault a b e x y = absurd (omega arith)

pub first_fault_is_unique : FirstFaultIsUnique
first_fault_is_unique g a b x y = same_fault g a b (same_stage g a b x y) x y
