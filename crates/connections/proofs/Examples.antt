-- First faults of small graphs, and false ones.
use Rattle.std.proofs.Common.{◌≡◌, ℕ, zero, suc, Bool, List, [], ◌∷◌, refl, sym, ◌∙◌, ap, arith, pos, None, inl, inr, true, not, ◌==◌, ◌&&◌}
use Rattle.std.specs.List.{AllByRecursion, Contains, list_all}
use Rattle.std.specs.Prelude.{◌≢◌}
use Rattle.std.proofs.lemmas.List.Kept.{AllPairs-cons}
use Rattle.std.specs.Cmp.{first_so, second_so}
use Rattle.std.proofs.lemmas.Bool.{false≢true}
use Rattle.std.proofs.lemmas.List.Elements.{All-from_recursion}
use Rattle.graph_model.specs.Members.{bad_member}
use Rattle.graph_model.specs.Checks.{IsConnection, AreConnections}
use Rattle.graph_model.specs.Paths.{leads, reach_within}
use Rattle.graph_model.specs.declared.member.Member.TheVariants as member
use Rattle.graph_model.specs.declared.kind.Kind.TheVariants.{Input, Output, Gain, Delay, Insert}
use Rattle.graph_model.specs.declared.graph.Side.TheVariants as side
use Rattle.graph_model.specs.declared.graph.Uid.{Uid}
use Rattle.graph_model.specs.declared.graph.Node.{Node}
use Rattle.graph_model.specs.declared.graph.Connection.{Connection}
use Rattle.graph_model.specs.declared.graph.Graph.{Graph}
use Rattle.graph_model.proofs.PathLaws.{first_or_later, same_name}
use Rattle.graph_model.proofs.Examples.{node, joined, fan_out}
use Rattle.graph_model.proofs.ExampleSound.{sound}
use Rattle.connections.specs.Faults.{UidsDiffer, HasGoodNodes, HasFewDelays, HasFewCells, HasLongDelays, HasManyCells, IsFirstFault}
use Rattle.connections.specs.Laws.{without_walk}
use Rattle.connections.specs.declared.fault.GraphFault.{GraphFault}
use Rattle.connections.specs.declared.fault.GraphFault.TheVariants.{UidTwice, KindField, Ends, NoSuchNode, SelfConnection, ChannelRange, Twice, Cycle}
use Rattle.connections.proofs.FaultFacts.{fails, all_checks, stage}
use Rattle.connections.proofs.FirstFaultLaws.{first_fault_is_unique}

abbrev uid : ℕ → Uid
uid v = record { 0 = v }

other : (u v : ℕ) → (u ≡ v → ⊥) → uid u ≡ uid v → ⊥
other u v differ e = differ (ap (λ (w : Uid). w.0) e)

-- a number that a fault tells
abbrev told : GraphFault → ℕ
told (UidTwice u first second) = first
told (KindField u member.Channels) = 1
told (NoSuchNode at u) = u.0
told (ChannelRange at s channel count) = channel
told (Twice at earlier) = earlier
told f = 0

-- a fault that tells another number than the first one is not the first
not_first : (g : Graph) (a b : GraphFault) → IsFirstFault g a → (told a ≡ told b → ⊥) → IsFirstFault g b → ⊥
not_first g a b x differ y = differ (told_of a ∙ ap told (first_fault_is_unique g a b x y) ∙ sym (told_of b))
  where
    told_of : (f : GraphFault) → told f ≡ told (without_walk f)
    told_of (Cycle walk) = refl
    told_of f = refl

no_fault : (fault : GraphFault) → IsFirstFault fan_out fault → ⊥
no_fault fault x = fails fan_out fault x (all_checks fan_out sound (stage fault))

-- ---- nodes
-- no node has the name of a later one
abbrev differ : List Node → Bool
differ [] = true
differ (n ∷ ns) = list_all (λ m. not (n.uid.0 == m.uid.0)) ns && differ ns

other_name : (m n : Node) → not (m.uid.0 == n.uid.0) ≡ true → m.uid ≢ n.uid
other_name m n e same =
    let names : m.uid.0 ≡ n.uid.0 = ap (λ (u : Uid). u.0) same in
    let test : (m.uid.0 == n.uid.0) ≡ true = ap (λ v. v == n.uid.0) names ∙ same_name n.uid.0 in
    false≢true (sym (ap not test) ∙ e)

all_other : (m : Node) (ns : List Node) → list_all (λ n. not (m.uid.0 == n.uid.0)) ns ≡ true → AllByRecursion (λ n. m.uid ≢ n.uid) ns
all_other m [] e = tt
all_other m (n ∷ ns) e = (other_name m n (first_so _ _ e), all_other m ns (second_so _ _ e))

differ_by : (ns : List Node) → differ ns ≡ true → UidsDiffer ns
differ_by [] e = λ i j d lt l. absurd (omega arith)
differ_by (n ∷ ns) e = AllPairs-cons (λ m n. m.uid ≢ n.uid) n ns (All-from_recursion (λ m. n.uid ≢ m.uid) ns (all_other n ns (first_so _ _ e))) (differ_by ns (second_so _ _ e))

abbrev repeated : Graph
repeated = record {
  nodes = node 2 (Output 1) ∷ node 3 (Output 33) ∷ node 2 (Output 1) ∷ node 3 (Output 1) ∷ [];
  connections = [];
}

two_stands_twice : IsFirstFault repeated (UidTwice (uid 2) 0 2)
two_stands_twice = (omega arith, refl, refl, differ_by (node 2 (Output 1) ∷ node 3 (Output 33) ∷ []) refl)

not_the_later_uid : IsFirstFault repeated (UidTwice (uid 3) 1 3) → ⊥
not_the_later_uid = not_first repeated (UidTwice (uid 2) 0 2) (UidTwice (uid 3) 1 3) two_stands_twice (λ e. absurd (omega arith))

abbrev out_of_range : Graph
out_of_range = record { nodes = node 5 (Output 32) ∷ node 0 (Output 33) ∷ []; connections = [] }

uid_before_channels : IsFirstFault out_of_range (KindField (uid 0) member.Uid)
uid_before_channels = (differ_by out_of_range.nodes refl, (node 0 (Output 33), refl, refl, refl))

not_the_last_member : IsFirstFault out_of_range (KindField (uid 0) member.Channels) → ⊥
not_the_last_member =
    not_first out_of_range (KindField (uid 0) member.Uid) (KindField (uid 0) member.Channels) uid_before_channels (λ e. absurd (omega arith))

abbrev two_inputs : Graph
two_inputs = record { nodes = node 1 (Input 1) ∷ node 2 (Output 1) ∷ node 3 (Input 1) ∷ []; connections = [] }

both_are_counted : IsFirstFault two_inputs (Ends 2 1)
both_are_counted = (
  differ_by two_inputs.nodes refl,
  All-from_recursion (λ n. bad_member n ≡ None) two_inputs.nodes (refl, (refl, (refl, tt))),
  (refl, refl),
  λ e. absurd (let inputs : 2 ≡ suc zero = e.0 in omega arith),
)

-- ---- connections between an input, an output and two gains
abbrev between : List Connection → Graph
between cs = record {
  nodes = node 1 (Input 1) ∷ node 2 (Output 1) ∷ node 3 (Gain 1 (pos 65536)) ∷ node 4 (Gain 1 (pos 65536)) ∷ [];
  connections = cs;
}

good : (cs : List Connection) → HasGoodNodes (between cs)
good cs = record {
  uids_differ = differ_by (between []).nodes refl;
  in_range = All-from_recursion (λ n. bad_member n ≡ None) (between []).nodes (refl, (refl, (refl, (refl, tt))));
  ends = (refl, refl);
}

none_before : (g : Graph) → AreConnections g 0
none_before g k d lt = absurd (omega arith)

no_such_node : IsFirstFault (between (joined 1 0 9 0 ∷ [])) (NoSuchNode 0 (uid 9))
no_such_node = (good _, none_before _, (joined 1 0 9 0, refl, inr (refl, refl, false≢true)))

source_is_told : IsFirstFault (between (joined 8 0 9 0 ∷ [])) (NoSuchNode 0 (uid 8))
source_is_told = (good _, none_before _, (joined 8 0 9 0, refl, inl (refl, false≢true)))

not_the_destination : IsFirstFault (between (joined 8 0 9 0 ∷ [])) (NoSuchNode 0 (uid 9)) → ⊥
not_the_destination = not_first (between (joined 8 0 9 0 ∷ [])) (NoSuchNode 0 (uid 8)) (NoSuchNode 0 (uid 9)) source_is_told (λ e. absurd (omega arith))

joins_itself : IsFirstFault (between (joined 3 0 3 0 ∷ [])) (SelfConnection 0)
joins_itself = (good _, none_before _, (joined 3 0 3 0, refl, ((refl, refl), refl)))

past_the_source : IsFirstFault (between (joined 1 1 2 2 ∷ [])) (ChannelRange 0 side.Source 1 1)
past_the_source = (good _, none_before _, (joined 1 1 2 2, refl, ((refl, refl), other 1 2 (λ e. absurd (omega arith)), (refl, refl, omega arith))))

not_past_the_destination : IsFirstFault (between (joined 1 1 2 2 ∷ [])) (ChannelRange 0 side.Destination 2 1) → ⊥
not_past_the_destination =
    not_first (between (joined 1 1 2 2 ∷ [])) (ChannelRange 0 side.Source 1 1) (ChannelRange 0 side.Destination 2 1) past_the_source (λ e. absurd (omega arith))

-- new after connections from other nodes
new_after : (before : List Connection) (c : Connection) → list_all (λ d. not (d.src.0 == c.src.0)) before ≡ true → Contains before c → ⊥
new_after [] c e has = let l = has.1 in absurd (omega arith)
new_after (d ∷ before) c e has =
    elim (first_or_later d c before has) [
      | inl same ↦ (let test : (d.src.0 == c.src.0) ≡ true = ap (λ (x : Connection). x.src.0 == c.src.0) same ∙ same_name c.src.0 in
          false≢true (sym (ap not test) ∙ first_so _ _ e))
      | inr there ↦ new_after before c (second_so _ _ e) there
    ]

straight : (cs : List Connection) → IsConnection (between cs) [] (joined 1 0 2 0)
straight cs = record {
  source_exists = refl;
  destination_exists = refl;
  nodes_differ = other 1 2 (λ e. absurd (omega arith));
  source_channel = omega arith;
  destination_channel = omega arith;
  new = new_after [] (joined 1 0 2 0) refl;
}

first_passes : (cs : List Connection) → AreConnections (between (joined 1 0 2 0 ∷ cs)) 1
first_passes cs zero d lt = straight (joined 1 0 2 0 ∷ cs)
first_passes cs (suc k) d lt = absurd (omega arith)

abbrev twice : List Connection → Graph
twice cs = between (joined 1 0 2 0 ∷ joined 1 0 2 0 ∷ cs)

stands_twice : (cs : List Connection) → IsFirstFault (twice cs) (Twice 1 0)
stands_twice cs = (good _, first_passes (joined 1 0 2 0 ∷ cs), (joined 1 0 2 0, refl, (straight (joined 1 0 2 0 ∷ joined 1 0 2 0 ∷ cs), omega arith, refl)))

not_the_later_place : IsFirstFault (twice []) (Twice 1 1) → ⊥
not_the_later_place = not_first (twice []) (Twice 1 0) (Twice 1 1) (stands_twice []) (λ e. absurd (omega arith))

-- not check by check: the second connection goes through all its checks before the third one
not_check_by_check : IsFirstFault (twice (joined 1 0 9 0 ∷ [])) (NoSuchNode 2 (uid 9)) → ⊥
not_check_by_check = not_first (twice (joined 1 0 9 0 ∷ [])) (Twice 1 0) (NoSuchNode 2 (uid 9)) (stands_twice (joined 1 0 9 0 ∷ [])) (λ e. absurd (omega arith))

-- ---- a cycle of idle nodes
abbrev circle : Graph
circle = between (joined 1 0 2 0 ∷ joined 3 0 4 0 ∷ joined 4 0 3 0 ∷ [])

circle_passes : AreConnections circle 3
circle_passes zero d lt = straight circle.connections
circle_passes (suc zero) d lt = record {
  source_exists = refl;
  destination_exists = refl;
  nodes_differ = other 3 4 (λ e. absurd (omega arith));
  source_channel = omega arith;
  destination_channel = omega arith;
  new = new_after (joined 1 0 2 0 ∷ []) (joined 3 0 4 0) refl;
}
circle_passes (suc (suc zero)) d lt = record {
  source_exists = refl;
  destination_exists = refl;
  nodes_differ = other 4 3 (λ e. absurd (omega arith));
  source_channel = omega arith;
  destination_channel = omega arith;
  new = new_after (joined 1 0 2 0 ∷ joined 3 0 4 0 ∷ []) (joined 4 0 3 0) refl;
}
circle_passes (suc (suc (suc k))) d lt = absurd (omega arith)

gains_in_a_circle : IsFirstFault circle (Cycle (1 ∷ 2 ∷ []))
gains_in_a_circle = (good _, circle_passes, (omega arith, (uid 3, (joined 3 0 4 0, refl, refl, (joined 4 0 3 0, refl, refl, refl)))))

not_an_open_walk : IsFirstFault circle (Cycle (1 ∷ [])) → ⊥
not_an_open_walk (nodes, all, (long, (u, (c, at, from, to)))) =
    let here : joined 3 0 4 0 ≡ c = cc in
    let same : suc (suc (suc zero)) ≡ 4 = ap (λ (d : Connection). d.src.0) here ∙ ap (λ (w : Uid). w.0) (from ∙ sym to) ∙ ap (λ (d : Connection). d.dst.0) (sym here) in
    absurd (omega arith)

-- ---- limits
abbrev large : ℕ → Node
large v = node v (Insert 1 1048576)

abbrev seven : Graph
seven = record {
  nodes = node 1 (Input 1) ∷ node 2 (Output 1) ∷ large 3 ∷ large 4 ∷ large 5 ∷ large 6 ∷ large 7 ∷ large 8 ∷ large 9 ∷ [];
  connections = joined 1 0 3 0 ∷ joined 3 0 4 0 ∷ joined 4 0 5 0 ∷ joined 5 0 6 0 ∷ joined 6 0 7 0 ∷ joined 7 0 8 0 ∷ joined 8 0 9 0 ∷ joined 9 0 2 0 ∷ [];
}

abbrev eight : Graph
eight = record {
  nodes = node 1 (Input 1) ∷ node 2 (Output 1) ∷ large 3 ∷ large 4 ∷ large 5 ∷ large 6 ∷ large 7 ∷ large 8 ∷ large 9 ∷ large 10 ∷ [];
  connections = joined 1 0 3 0 ∷ joined 3 0 4 0 ∷ joined 4 0 5 0 ∷ joined 5 0 6 0 ∷ joined 6 0 7 0 ∷ joined 7 0 8 0 ∷ joined 8 0 9 0 ∷ joined 9 0 10 0
      ∷ joined 10 0 2 0 ∷ [];
}

seven_are_few : HasFewDelays seven
unfolding leads reach_within
seven_are_few = omega arith

eight_are_many : HasLongDelays eight 8388608 9
unfolding leads reach_within
eight_are_many = (refl, refl, omega arith)

abbrev keeping : List Node → Graph
keeping ns = record { nodes = node 1 (Input 1) ∷ node 2 (Output 1) ∷ node 3 (Delay 32 1048576) ∷ ns; connections = [] }

delay_alone : HasFewCells (keeping [])
delay_alone = omega arith

delay_beside_an_insert : HasManyCells (keeping (node 4 (Insert 1 1) ∷ [])) 33554433
delay_beside_an_insert = (refl, omega arith)
