-- The answers at a small graph: an insert of 5 into one channel of the output, beside a gain into three.
use Rattle.std.proofs.Common.{◌≡◌, ℕ, zero, suc, pos, ◌<◌, ◌≤◌, List, [], ◌∷◌, get_or, true, refl, ap, ◌∙◌, subst, arith}
use Rattle.std.specs.Prelude.{reverse}
use Rattle.std.proofs.lemmas.List.{reverse-reverse}
use Rattle.std.proofs.lemmas.List.Elements.{All-from_recursion}
use Rattle.graph_model.specs.Graphs.{IsNode, IsJoined}
use Rattle.graph_model.specs.Orders.{StandsBefore, HasSources, IsNext}
use Rattle.graph_model.specs.Paths.{IsPathTo, IsPrinted, IsPrintedPath, reach_within}
use Rattle.graph_model.specs.declared.graph.Uid.{Uid}
use Rattle.graph_model.specs.declared.graph.Connection.{Connection}
use Rattle.graph_model.specs.declared.kind.Kind.TheVariants.{Input, Output, Gain, Insert}
use Rattle.graph_model.specs.declared.graph.Graph.{Graph}
use Rattle.graph_model.proofs.Examples.{node, joined}
use Rattle.graph_model.specs.Named.{uid_at}
use Rattle.topology.specs.Answers.{IsOrderOfNodes, AreLive, IsReachOf}
use Rattle.graph_model.proofs.NameFacts.{index_of}
use Rattle.graph_model.proofs.Examples.{fan_out as insert_beside_gain}
use Rattle.graph_model.proofs.ExampleSound.{sound}
use Rattle.graph_model.proofs.NodeFacts.{named}
use Rattle.topology.proofs.ReachFacts.{are_longest}

abbrev pub fan_out : Graph
fan_out = record {
  nodes = node 1 (Input 1) ∷ node 2 (Output 3) ∷ node 3 (Insert 1 5) ∷ node 4 (Gain 1 (pos 65536)) ∷ [];
  connections = joined 1 0 3 0 ∷ joined 3 0 2 0 ∷ joined 1 0 4 0 ∷ joined 4 0 2 0 ∷ joined 4 0 2 1 ∷ joined 4 0 2 2 ∷ [];
}

-- what holds of the four nodes holds of all, and so of the joints
nodes_are : (P : ℕ → Type 0) → P 1 → P 2 → P 3 → P 4 → (w : ℕ) → IsNode fan_out w → P w
nodes_are P a b c d w node = let at = index_of fan_out w node in go at.0 at.1 at.2
  where
    go : (i : ℕ) → i < 4 → uid_at fan_out i ≡ w → P w
    go zero l e = subst P e a
    go (suc zero) l e = subst P e b
    go (suc (suc zero)) l e = subst P e c
    go (suc (suc (suc zero))) l e = subst P e d
    go (suc (suc (suc (suc i)))) l e = absurd (omega arith)

joints_are : (P : ℕ → ℕ → Type 0) → P 1 3 → P 3 2 → P 1 4 → P 4 2 → (u v : ℕ) → IsJoined fan_out u v → P u v
joints_are P a b c d u v (x, (i, l, e), src, dst) = subst (λ w. P w v) src (subst (P x.src.0) dst (go i l e))
  where
    from : (y : Connection) → y ≡ x → P y.src.0 y.dst.0 → P x.src.0 x.dst.0
    from y same p = subst (λ z. P z.src.0 z.dst.0) same p

    go : (k : ℕ) → k < 6 → get_or fan_out.connections k x ≡ x → P x.src.0 x.dst.0
    go zero l e = from (joined 1 0 3 0) e a
    go (suc zero) l e = from (joined 3 0 2 0) e b
    go (suc (suc zero)) l e = from (joined 1 0 4 0) e c
    go (suc (suc (suc zero))) l e = from (joined 4 0 2 0) e d
    go (suc (suc (suc (suc zero)))) l e = from (joined 4 0 2 1) e d
    go (suc (suc (suc (suc (suc zero))))) l e = from (joined 4 0 2 2) e d
    go (suc (suc (suc (suc (suc (suc k)))))) l e = absurd (omega arith)

one_three : IsJoined fan_out 1 3
one_three = (joined 1 0 3 0, (0, omega arith, refl), refl, refl)

three_two : IsJoined fan_out 3 2
three_two = (joined 3 0 2 0, (1, omega arith, refl), refl, refl)

one_four : IsJoined fan_out 1 4
one_four = (joined 1 0 4 0, (2, omega arith, refl), refl, refl)

four_two : IsJoined fan_out 4 2
four_two = (joined 4 0 2 0, (3, omega arith, refl), refl, refl)

-- ---- the order
abbrev names : List ℕ
names = 1 ∷ 3 ∷ 4 ∷ 2 ∷ []

abbrev Here : ℕ → ℕ → Type 0
Here k v = StandsBefore names k v

ready : (k v : ℕ) → (3 ≡ v → Here k 1) → (2 ≡ v → Here k 3) → (4 ≡ v → Here k 1) → (2 ≡ v → Here k 4) → HasSources fan_out names k v
ready k v a b c d = All-from_recursion (λ x. x.dst.0 ≡ v → Here k x.src.0) fan_out.connections (a, (b, (c, (d, (d, (d, tt))))))

-- no source of node 2 stands before its place
three_later : Here 1 3 → ⊥
three_later (zero, l, e) = absurd (omega arith)
three_later (suc j, l, e) = absurd (omega arith)

four_later : Here 2 4 → ⊥
four_later (zero, l, e) = absurd (omega arith)
four_later (suc zero, l, e) = absurd (omega arith)
four_later (suc (suc j), l, e) = absurd (omega arith)

next : (k : ℕ) → k < 4 → IsNext fan_out names k (get_or names k 0)
next zero l = record {
  node = refl;
  fresh = λ s. absurd (let b = s.1 in omega arith);
  ready = ready 0 1 (λ e. absurd (omega arith)) (λ e. absurd (omega arith)) (λ e. absurd (omega arith)) (λ e. absurd (omega arith));
  least = λ w node fresh is. nodes_are (λ v. 1 ≤ v) (omega arith) (omega arith) (omega arith) (omega arith) w node;
}
next (suc zero) l = record {
  node = refl;
  fresh = three_later;
  ready = ready 1 3 (λ e. (0, omega arith, refl)) (λ e. absurd (omega arith)) (λ e. absurd (omega arith)) (λ e. absurd (omega arith));
  least = λ w node. nodes_are (λ v. ¬ Here 1 v → HasSources fan_out names 1 v → 3 ≤ v)
      (λ fresh is. absurd (fresh (0, omega arith, refl)))
      (λ fresh is. absurd (three_later (is 1 (joined 3 0 2 0) (omega arith) refl)))
      (λ fresh is. omega arith) (λ fresh is. omega arith) w node;
}
next (suc (suc zero)) l = record {
  node = refl;
  fresh = four_later;
  ready = ready 2 4 (λ e. absurd (omega arith)) (λ e. absurd (omega arith)) (λ e. (0, omega arith, refl)) (λ e. absurd (omega arith));
  least = λ w node. nodes_are (λ v. ¬ Here 2 v → HasSources fan_out names 2 v → 4 ≤ v)
      (λ fresh is. absurd (fresh (0, omega arith, refl)))
      (λ fresh is. absurd (four_later (is 3 (joined 4 0 2 0) (omega arith) refl)))
      (λ fresh is. absurd (fresh (1, omega arith, refl))) (λ fresh is. omega arith) w node;
}
next (suc (suc (suc zero))) l = record {
  node = refl;
  fresh = λ s. two_later s;
  ready = ready 3 2 (λ e. absurd (omega arith)) (λ e. (1, omega arith, refl)) (λ e. absurd (omega arith)) (λ e. (2, omega arith, refl));
  least = λ w node. nodes_are (λ v. ¬ Here 3 v → HasSources fan_out names 3 v → 2 ≤ v)
      (λ fresh is. absurd (fresh (0, omega arith, refl))) (λ fresh is. omega arith) (λ fresh is. omega arith) (λ fresh is. omega arith) w node;
}
  where
    two_later : Here 3 2 → ⊥
    two_later (zero, b, e) = absurd (omega arith)
    two_later (suc zero, b, e) = absurd (omega arith)
    two_later (suc (suc zero), b, e) = absurd (omega arith)
    two_later (suc (suc (suc j)), b, e) = absurd (omega arith)
next (suc (suc (suc (suc k)))) l = absurd (omega arith)

by_name : IsOrderOfNodes fan_out (0 ∷ 2 ∷ 3 ∷ 1 ∷ [])
by_name = record {
  indexes = All-from_recursion (λ k. k < 4) (0 ∷ 2 ∷ 3 ∷ 1 ∷ []) (omega arith, (omega arith, (omega arith, (omega arith, tt))));
  order = record {
    all = nodes_are (λ v. Here 4 v) (0, omega arith, refl) (3, omega arith, refl) (1, omega arith, refl) (2, omega arith, refl);
    next = next;
  };
}

-- not by place: the output node has sources that are not taken
not_by_place : IsOrderOfNodes fan_out (0 ∷ 1 ∷ 2 ∷ 3 ∷ []) → ⊥
not_by_place is = later ((is.order.next 1 (omega arith)).ready 1 (joined 3 0 2 0) (omega arith) refl)
  where
    later : StandsBefore (1 ∷ 2 ∷ 3 ∷ 4 ∷ []) 1 3 → ⊥
    later (zero, l, e) = absurd (omega arith)
    later (suc j, l, e) = absurd (omega arith)

-- ---- live
over_three : IsPathTo fan_out 2 (3 ∷ 1 ∷ [])
over_three = (refl, three_two, (refl, one_three, refl))

all_live : AreLive fan_out (true ∷ true ∷ true ∷ true ∷ [])
all_live = (
  ((λ t. (3 ∷ 1 ∷ [], over_three, (2, omega arith, refl))), λ live. refl),
  (
    ((λ t. (3 ∷ 1 ∷ [], over_three, (0, omega arith, refl))), λ live. refl),
    (
      ((λ t. (3 ∷ 1 ∷ [], over_three, (1, omega arith, refl))), λ live. refl),
      (((λ t. (4 ∷ 1 ∷ [], (refl, four_two, (refl, one_four, refl)), (1, omega arith, refl))), λ live. refl), tt),
    ),
  ),
)

-- ---- the reach and the printed path
abbrev uid : ℕ → Uid
uid v = record { 0 = v }

over_the_insert : IsReachOf fan_out (record { at = 0 ∷ 5 ∷ 0 ∷ 0 ∷ []; path = uid 1 ∷ uid 3 ∷ uid 2 ∷ [] })
unfolding insert_beside_gain reach_within
over_the_insert = record {
  at = refl;
  longest = are_longest fan_out (named fan_out sound) sound.shaped.acyclic (0 ∷ 5 ∷ 0 ∷ 0 ∷ []) refl;
  path = (
    3 ∷ 1 ∷ [],
    (
      three_two,
      refl,
      (λ w join meets. joints_are (λ u v. v ≡ 2 → 3 ≤ u) (λ e. absurd (omega arith)) (λ e. omega arith) (λ e. absurd (omega arith)) (λ e. omega arith) w 2 join refl),
      (one_three, refl, (λ w join meets. joints_are (λ u v. 1 ≤ u) (omega arith) (omega arith) (omega arith) (omega arith) w 3 join), refl),
    ),
    refl,
  );
}

-- not over the gain, which does not meet the reach
not_over_the_gain : IsPrintedPath fan_out (uid 1 ∷ uid 4 ∷ uid 2 ∷ []) → ⊥
unfolding reach_within
not_over_the_gain (us, is, same) =
    let back : 2 ∷ 4 ∷ 1 ∷ [] ≡ 2 ∷ us = ap reverse same ∙ reverse-reverse (2 ∷ us) in
    let rest : us ≡ 4 ∷ 1 ∷ [] = cc in
    let walked : IsPrinted fan_out 2 (4 ∷ 1 ∷ []) = subst (IsPrinted fan_out 2) rest is in
    let meets : zero ≡ 5 = walked.1 in
    absurd (omega arith)
