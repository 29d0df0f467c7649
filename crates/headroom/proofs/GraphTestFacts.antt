-- Tests of graphs that are written out: they compute, and where they pass, a list is the order and bounds are small.
use Rattle.std.proofs.Common.{◌≡◌, ℕ, zero, suc, ◌+◌, ◌^◌, ◌<◌, ◌≤◌, List, [], ◌∷◌, ◌++◌, length, map, take, get_or, not, Bool, true, false, ◌==◌, ◌&&◌, ◌||◌, refl, sym, ap, ◌∙◌, subst, arith, inl, inr, ◌⊎◌, None}
use Rattle.std.specs.Prelude.{is_some, nat_lt, nat_le, count_by}
use Rattle.std.specs.List.{AllByRecursion, Contains, list_all, list_any}
use Rattle.std.specs.Cmp.{first_so, second_so}
use Rattle.std.proofs.lemmas.Bool.{false≢true, not-true, eqb-true, leb-true, ltb-true}
use Rattle.std.proofs.lemmas.List.{append-nil, append_assoc}
use Rattle.std.proofs.lemmas.List.Elements.{All-from_recursion, recursion_from_All}
use Rattle.graph_model.specs.Members.{bad_member}
use Rattle.graph_model.specs.Bounds.{bounds, IsBounded}
use Rattle.graph_model.specs.Checks.{IsConnection}
use Rattle.graph_model.specs.Graphs.{IsNode, node_named, ins_at, outs_at, is_input, is_output}
use Rattle.graph_model.specs.Orders.{StandsBefore, HasSources, IsNext, IsOrder}
use Rattle.graph_model.specs.Sound.{IsShaped}
use Rattle.graph_model.proofs.PathLaws.{same_name, and_both, first_or_later}
use Rattle.graph_model.proofs.RankLaws.{node_in}
use Rattle.graph_model.specs.declared.graph.Bound.{Bound}
use Rattle.graph_model.specs.declared.graph.Node.{Node}
use Rattle.graph_model.specs.declared.graph.Uid.{Uid}
use Rattle.graph_model.specs.declared.graph.Connection.{Connection}
use Rattle.graph_model.specs.declared.graph.Graph.{Graph}
use Rattle.graph_model.specs.Named.{IsNamed}
use Rattle.topology.proofs.OrderFacts.{order_is_acyclic}
use Rattle.headroom.specs.declared.loud.TooLoud.{TooLoud}
use Rattle.headroom.specs.Answers.{AllBounded}
use Rattle.headroom.specs.Loud.{AreBelow, IsFirstOf, IsTooLoud}

pub test_all : {X : Type 0} (p : X → Bool) (P : X → Type 0) → ((x : X) → p x ≡ true → P x) → (xs : List X) → list_all p xs ≡ true → AllByRecursion P xs
test_all p P f [] e = tt
test_all p P f (x ∷ xs) e = (f x (first_so _ _ e), test_all p P f xs (second_so _ _ e))

-- ---- the order
abbrev stands : List ℕ → ℕ → ℕ → Bool
stands os k v = list_any (λ u. u == v) (take k os)

abbrev is_ready : Graph → List ℕ → ℕ → ℕ → Bool
is_ready g os k v = list_all (λ c. not (c.dst.0 == v) || stands os k c.src.0) g.connections

abbrev is_next : Graph → List ℕ → ℕ → ℕ → Bool
is_next g os k v =
    is_some (node_named g v)
    && (not (stands os k v) && (is_ready g os k v && list_all (λ n. stands os k n.uid.0 || (not (is_ready g os k n.uid.0) || nat_le v n.uid.0)) g.nodes))

abbrev all_next : Graph → List ℕ → List ℕ → ℕ → Bool
all_next g os [] k = true
all_next g os (v ∷ vs) k = is_next g os k v && all_next g os vs (suc k)

abbrev pub is_order : Graph → List ℕ → Bool
is_order g os = list_all (λ n. stands os (length os) n.uid.0) g.nodes && all_next g os os 0

or_either : (a b : Bool) → (a || b) ≡ true → (a ≡ true) ⊎ (b ≡ true)
or_either true b e = inl refl
or_either false b e = inr e

stands_by : (os : List ℕ) (k v : ℕ) → stands os k v ≡ true → StandsBefore os k v
stands_by os zero v e = absurd (false≢true e)
stands_by [] (suc k) v e = absurd (false≢true e)
stands_by (o ∷ os) (suc k) v e =
    elim (or_either (o == v) (stands os k v) e) [
      | inl here ↦ (0, omega arith, eqb-true _ _ here)
      | inr later ↦ (let s = stands_by os k v later in (suc s.0, omega (arith, s.1), s.2))
    ]

stands_test : (os : List ℕ) (k v : ℕ) → k ≤ length os → StandsBefore os k v → stands os k v ≡ true
stands_test os zero v le s = absurd (omega (arith, s.1))
stands_test [] (suc k) v le s = absurd (omega arith)
stands_test (o ∷ os) (suc k) v le (zero, lt, e) = ap (λ b. b || stands os k v) (ap (λ u. u == v) e ∙ same_name v)
stands_test (o ∷ os) (suc k) v le (suc j, lt, e) = go (o == v) (stands_test os k v (omega arith) (j, omega arith, e))
  where
    go : (b : Bool) → stands os k v ≡ true → (b || stands os k v) ≡ true
    go true h = refl
    go false h = h

not_or : (a : Bool) → a ≡ true → not a ≡ true → ⊥
not_or true e n = false≢true n
not_or false e n = false≢true e

ready_by : (g : Graph) (os : List ℕ) (k v : ℕ) → is_ready g os k v ≡ true → HasSources g os k v
ready_by g os k v e =
    All-from_recursion (λ c. c.dst.0 ≡ v → StandsBefore os k c.src.0) g.connections
    (test_all (λ c. not (c.dst.0 == v) || stands os k c.src.0) (λ c. c.dst.0 ≡ v → StandsBefore os k c.src.0) (λ c h into.
    elim (or_either (not (c.dst.0 == v)) (stands os k c.src.0) h) [
      | inl other ↦ absurd (not_or (c.dst.0 == v) (ap (λ u. u == v) into ∙ same_name v) other)
      | inr before ↦ stands_by os k c.src.0 before
    ]) g.connections e)

ready_test : (g : Graph) (os : List ℕ) (k v : ℕ) → k ≤ length os → HasSources g os k v → is_ready g os k v ≡ true
ready_test g os k v le h = go g.connections (recursion_from_All (λ c. c.dst.0 ≡ v → StandsBefore os k c.src.0) g.connections h)
  where
    one : (b : Bool) (c : Connection) → (c.dst.0 == v) ≡ b → (c.dst.0 ≡ v → StandsBefore os k c.src.0) → (not b || stands os k c.src.0) ≡ true
    one true c t f = stands_test os k c.src.0 le (f (eqb-true _ _ t))
    one false c t f = refl

    go : (cs : List Connection) → AllByRecursion (λ c. c.dst.0 ≡ v → StandsBefore os k c.src.0) cs → list_all (λ c. not (c.dst.0 == v) || stands os k c.src.0) cs ≡ true
    go [] f = refl
    go (c ∷ cs) f = and_both _ _ (one (c.dst.0 == v) c refl f.0) (go cs f.1)

next_by : (g : Graph) (os : List ℕ) (k v : ℕ) → k ≤ length os → is_next g os k v ≡ true → IsNext g os k v
next_by g os k v le e =
    let two = second_so _ _ e in
    let three = second_so _ _ two in
    record {
      node = first_so _ _ e;
      fresh = λ s. not_or (stands os k v) (stands_test os k v le s) (first_so _ _ two);
      ready = ready_by g os k v (first_so _ _ three);
      least = λ w node fresh ready. least w (at w node (second_so _ _ three)) fresh ready;
    }
  where
    Passes : ℕ → Type 0
    Passes w = (stands os k w || (not (is_ready g os k w) || nat_le v w)) ≡ true

    at : (w : ℕ) → IsNode g w → list_all (λ n. stands os k n.uid.0 || (not (is_ready g os k n.uid.0) || nat_le v n.uid.0)) g.nodes ≡ true → Passes w
    at w node h = go g.nodes (node_in w g.nodes node) h
      where
        go : (ns : List Node) → Contains (map (λ n. n.uid.0) ns) w → list_all (λ n. stands os k n.uid.0 || (not (is_ready g os k n.uid.0) || nat_le v n.uid.0)) ns ≡ true → Passes w
        go [] has t = let l = has.1 in absurd (omega arith)
        go (n ∷ ns) has t =
            elim (first_or_later n.uid.0 w (map (λ (m : Node). m.uid.0) ns) has) [
              | inl same ↦ subst Passes same (first_so _ _ t)
              | inr later ↦ go ns later (second_so _ _ t)
            ]

    least : (w : ℕ) → Passes w → ¬ StandsBefore os k w → HasSources g os k w → v ≤ w
    least w pass fresh ready =
        elim (or_either (stands os k w) (not (is_ready g os k w) || nat_le v w) pass) [
          | inl taken ↦ absurd (fresh (stands_by os k w taken))
          | inr free ↦
              elim (or_either (not (is_ready g os k w)) (nat_le v w) free) [
                | inl blocked ↦ absurd (not_or (is_ready g os k w) (ready_test g os k w le ready) blocked)
                | inr le_test ↦ leb-true v w le_test
              ]
        ]

each_next : (g : Graph) (os vs : List ℕ) (k : ℕ) → all_next g os vs k ≡ true → (j : ℕ) → j < length vs → is_next g os (j + k) (get_or vs j 0) ≡ true
each_next g os [] k e j lt = absurd (omega arith)
each_next g os (v ∷ vs) k e zero lt = let on : k ≡ 0 + k = omega arith in ap (λ i. is_next g os i v) (sym on) ∙ first_so (is_next g os k v) (all_next g os vs (suc k)) e
each_next g os (v ∷ vs) k e (suc j) lt =
    let on : j + suc k ≡ suc j + k = omega arith in
    ap (λ i. is_next g os i (get_or vs j 0)) (sym on) ∙ each_next g os vs (suc k) (second_so (is_next g os k v) (all_next g os vs (suc k)) e) j (omega arith)

-- where the test passes, it is the order
pub order_by : (g : Graph) (os : List ℕ) → is_order g os ≡ true → IsOrder g os
order_by g os e = record {
  all = λ v node. every v (node_in v g.nodes node) (first_so _ _ e);
  next = λ k lt.
      let on : k + 0 ≡ k = omega arith in
      next_by g os k (get_or os k 0) (omega arith) (ap (λ i. is_next g os i (get_or os k 0)) (sym on) ∙ each_next g os os 0 (second_so _ _ e) k lt);
}
  where
    every : (v : ℕ) → Contains (map (λ (n : Node). n.uid.0) g.nodes) v → list_all (λ n. stands os (length os) n.uid.0) g.nodes ≡ true → StandsBefore os (length os) v
    every v has t = stands_by os (length os) v (go g.nodes has t)
      where
        go : (ns : List Node) → Contains (map (λ n. n.uid.0) ns) v → list_all (λ n. stands os (length os) n.uid.0) ns ≡ true → stands os (length os) v ≡ true
        go [] h p = let l = h.1 in absurd (omega arith)
        go (n ∷ ns) h p =
            elim (first_or_later n.uid.0 v (map (λ (m : Node). m.uid.0) ns) h) [
              | inl same ↦ subst (λ w. stands os (length os) w ≡ true) same (first_so _ _ p)
              | inr later ↦ go ns later (second_so _ _ p)
            ]

-- ---- bounds
abbrev below_limit : List ℕ → Bool
below_limit bs = list_all (λ b. nat_le b (2 ^ 46)) bs

abbrev is_bounded : Bound → Bool
is_bounded n = below_limit n.ins && below_limit n.outs

pub below_by : (bs : List ℕ) → below_limit bs ≡ true → AreBelow bs
below_by bs e = All-from_recursion (λ b. b ≤ 2 ^ 46) bs (test_all (λ b. nat_le b (2 ^ 46)) (λ b. b ≤ 2 ^ 46) (λ b h. leb-true b (2 ^ 46) h) bs e)

bounded_by : (n : Bound) → is_bounded n ≡ true → IsBounded n
bounded_by n e = (below_by n.ins (first_so _ _ e), below_by n.outs (second_so _ _ e))

abbrev pub all_bounded : Graph → List ℕ → Bool
all_bounded g vs = list_all (λ v. is_bounded (bounds g v)) vs

pub all_bounded_by : (g : Graph) → all_bounded g (map (λ n. n.uid.0) g.nodes) ≡ true → AllBounded g
all_bounded_by g e = All-from_recursion (λ n. IsBounded (bounds g n.uid.0)) g.nodes (go g.nodes e)
  where
    go : (ns : List Node) → all_bounded g (map (λ n. n.uid.0) ns) ≡ true → AllByRecursion (λ n. IsBounded (bounds g n.uid.0)) ns
    go [] h = tt
    go (n ∷ ns) h = (bounded_by (bounds g n.uid.0) (first_so _ _ h), go ns (second_so _ _ h))

bounded_before : (g : Graph) (os : List ℕ) (k : ℕ) → all_bounded g (take k os) ≡ true → k ≤ length os → (j : ℕ) → j < k → IsBounded (bounds g (get_or os j 0))
bounded_before g os zero e le j lt = absurd (omega arith)
bounded_before g [] (suc k) e le j lt = absurd (omega arith)
bounded_before g (o ∷ os) (suc k) e le zero lt = bounded_by (bounds g o) (first_so (is_bounded (bounds g o)) (all_bounded g (take k os)) e)
bounded_before g (o ∷ os) (suc k) e le (suc j) lt =
    bounded_before g os k (second_so (is_bounded (bounds g o)) (all_bounded g (take k os)) e) (omega arith) j (omega arith)

-- the node at a place of the order, those before it being bounded
pub too_loud_by : (g : Graph) (os : List ℕ) (k : ℕ) (loud : TooLoud) → is_order g os ≡ true → k < length os → get_or os k 0 ≡ loud.uid.0 → all_bounded g (take k os) ≡ true
    → IsFirstOf (bounds g loud.uid.0) loud.side loud.channel loud.bound → IsTooLoud g loud
too_loud_by g os k loud order lt name before first = record {
  earlier = (os, order_by g os order, (k, lt, name, bounded_before g os k before (omega arith)));
  first = first;
}
