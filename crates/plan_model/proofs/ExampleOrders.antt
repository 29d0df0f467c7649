-- One node a wave: the order of three gains and a mixer, by a test that computes.
use Rattle.std.proofs.Common.{◌≡◌, ℕ, zero, suc, ◌<◌, ◌≤◌, ◌==◌, ◌||◌, ltb, Bool, true, false, not, List, [], ◌∷◌, length, map, get_or, take, refl, ap, ◌∙◌, subst, arith}
use Rattle.std.specs.Cmp.{first_so, second_so}
use Rattle.std.specs.List.{All, AllByRecursion, list_any, list_all}
use Rattle.std.proofs.lemmas.Bool.{eqb-true, ltb-false}
use Rattle.std.proofs.lemmas.List.Elements.{All-contains, All-from_recursion, All-head, All-tail}
use Rattle.graph_model.specs.Graphs.{IsNode}
use Rattle.graph_model.specs.Paths.{leads}
use Rattle.graph_model.specs.declared.graph.Connection.{Connection}
use Rattle.graph_model.specs.declared.graph.Graph.{Graph}
use Rattle.graph_model.proofs.PathLaws.{same_name, and_both}
use Rattle.graph_model.proofs.RankLaws.{node_in}
use Rattle.graph_model.specs.Orders.{StandsBefore, HasSources, IsNext, IsOrder}
use Rattle.plan_model.specs.Schedules.{IsOneByOne, names}
use Rattle.plan_model.proofs.Examples.{three_gains}
use Rattle.plan_model.proofs.ExampleTools.{names_of}
use Rattle.plan_model.proofs.ExampleSchedules.{in_turn, by_waves}

-- v is one of the first k
abbrev taken : List ℕ → ℕ → ℕ → Bool
taken os k v = list_any (λ o. o == v) (take k os)

-- each source of v is
abbrev sourced : Graph → List ℕ → ℕ → ℕ → Bool
sourced g os k v = list_all (λ c. not (c.dst.0 == v) || taken os k c.src.0) g.connections

-- no node below v could be next
abbrev none_below : Graph → List ℕ → ℕ → ℕ → Bool
none_below g os k v = list_all (λ w. not (ltb w v) || (taken os k w || not (sourced g os k w))) (names_of g)

taken-true : (os : List ℕ) (k v j : ℕ) → k ≤ length os → j < k → get_or os j 0 ≡ v → taken os k v ≡ true
taken-true [] k v j lk l e = absurd (omega arith)
taken-true (o ∷ os) zero v j lk l e = absurd (omega arith)
taken-true (o ∷ os) (suc k) v zero lk l e = let t : (o == v) ≡ true = ap (λ n. n == v) e ∙ same_name v in rw t refl
taken-true (o ∷ os) (suc k) v (suc j) lk l e = or_later (o == v) (taken os k v) (taken-true os k v j (omega arith) (omega arith) e)
  where
    or_later : (a b : Bool) → b ≡ true → (a || b) ≡ true
    or_later true b e = refl
    or_later false b e = e

taken-stands : (os : List ℕ) (k v : ℕ) → taken os k v ≡ true → StandsBefore os k v
taken-stands [] zero v e = absurd (cc)
taken-stands [] (suc k) v e = absurd (cc)
taken-stands (o ∷ os) zero v e = absurd (cc)
taken-stands (o ∷ os) (suc k) v e = go (o == v) refl e (taken-stands os k v)
  where
    go : (b : Bool) → (o == v) ≡ b → (b || taken os k v) ≡ true → (taken os k v ≡ true → StandsBefore os k v) → StandsBefore (o ∷ os) (suc k) v
    go true t e rest = (0, omega arith, eqb-true o v t)
    go false t e rest = let s = rest e in (suc s.0, (let l = s.1 in omega arith), s.2)

abbrev Comes : List ℕ → ℕ → ℕ → Connection → Type 0
Comes os k v c = c.dst.0 ≡ v → StandsBefore os k c.src.0

sourced-true : (os : List ℕ) (k v : ℕ) → k ≤ length os → (cs : List Connection) → All (Comes os k v) cs
    → list_all (λ c. not (c.dst.0 == v) || taken os k c.src.0) cs ≡ true
sourced-true os k v lk [] h = refl
sourced-true os k v lk (c ∷ cs) h = and_both _ _ (one (c.dst.0 == v) refl) (sourced-true os k v lk cs (All-tail (Comes os k v) c cs h))
  where
    one : (b : Bool) → (c.dst.0 == v) ≡ b → (not b || taken os k c.src.0) ≡ true
    one true t = let s = All-head (Comes os k v) c cs h (eqb-true _ _ t) in taken-true os k c.src.0 s.0 lk s.1 s.2
    one false t = refl

sources_from : (os : List ℕ) (k v : ℕ) (cs : List Connection) → list_all (λ c. not (c.dst.0 == v) || taken os k c.src.0) cs ≡ true
    → AllByRecursion (Comes os k v) cs
sources_from os k v [] e = tt
sources_from os k v (c ∷ cs) e = (here, sources_from os k v cs (second_so _ _ e))
  where
    here : Comes os k v c
    here same =
        let t : (c.dst.0 == v) ≡ true = ap (λ n. n == v) same ∙ same_name v in
        taken-stands os k c.src.0 (subst (λ b. (not b || taken os k c.src.0) ≡ true) t (first_so _ _ e))

abbrev IsNoEarlier : Graph → List ℕ → ℕ → ℕ → ℕ → Type 0
IsNoEarlier g os k v w = ¬ StandsBefore os k w → HasSources g os k w → v ≤ w

least_from : (g : Graph) (os : List ℕ) (k v : ℕ) → k ≤ length os → (ns : List ℕ)
    → list_all (λ w. not (ltb w v) || (taken os k w || not (sourced g os k w))) ns ≡ true → AllByRecursion (IsNoEarlier g os k v) ns
least_from g os k v lk [] e = tt
least_from g os k v lk (w ∷ ns) e =
    (λ fresh ready. go fresh (sourced-true os k w lk g.connections ready) (ltb w v) (taken os k w) refl refl (first_so _ _ e), least_from g os k v lk ns (second_so _ _ e))
  where
    go : ¬ StandsBefore os k w → sourced g os k w ≡ true → (b d : Bool) → ltb w v ≡ b → taken os k w ≡ d
        → (not b || (d || not (sourced g os k w))) ≡ true → v ≤ w
    go fresh s false d below t e = ltb-false w v below
    go fresh s true true below t e = absurd (fresh (taken-stands os k w t))
    go fresh s true false below t e = absurd (cc)

pub next_by_test : (g : Graph) (os : List ℕ) (k v : ℕ) → k ≤ length os → IsNode g v → taken os k v ≡ false → sourced g os k v ≡ true → none_below g os k v ≡ true
    → IsNext g os k v
next_by_test g os k v lk node none ready least = record {
  node = node;
  fresh = λ s. let t = taken-true os k v s.0 lk s.1 s.2 in absurd (cc);
  ready = All-from_recursion (Comes os k v) g.connections (sources_from os k v g.connections ready);
  least = λ w n. All-contains (IsNoEarlier g os k v) (names_of g) w
      (All-from_recursion (IsNoEarlier g os k v) (names_of g) (least_from g os k v lk (names_of g) least)) (node_in w g.nodes n);
}

abbrev order : List ℕ
order = 1 ∷ 3 ∷ 4 ∷ 5 ∷ 6 ∷ 2 ∷ []

nexts : (k : ℕ) → k < 6 → IsNext three_gains order k (get_or order k 0)
unfolding three_gains
nexts zero l = next_by_test three_gains order 0 1 (omega arith) refl refl refl refl
nexts (suc zero) l = next_by_test three_gains order 1 3 (omega arith) refl refl refl refl
nexts (suc (suc zero)) l = next_by_test three_gains order 2 4 (omega arith) refl refl refl refl
nexts (suc (suc (suc zero))) l = next_by_test three_gains order 3 5 (omega arith) refl refl refl refl
nexts (suc (suc (suc (suc zero)))) l = next_by_test three_gains order 4 6 (omega arith) refl refl refl refl
nexts (suc (suc (suc (suc (suc zero))))) l = next_by_test three_gains order 5 2 (omega arith) refl refl refl refl
nexts (suc (suc (suc (suc (suc (suc k)))))) l = absurd (omega arith)

stand : All (StandsBefore order 6) (names_of three_gains)
unfolding three_gains
stand = All-from_recursion (StandsBefore order 6) (names_of three_gains)
    ((0, omega arith, refl), ((5, omega arith, refl), ((1, omega arith, refl), ((2, omega arith, refl), ((3, omega arith, refl), ((4, omega arith, refl), tt))))))

ordered : IsOrder three_gains order
ordered = record { all = λ v n. All-contains (StandsBefore order 6) (names_of three_gains) v stand (node_in v three_gains.nodes n); next = nexts }

pub in_turn_one_by_one : IsOneByOne three_gains in_turn
unfolding three_gains leads
in_turn_one_by_one = (order, ordered, refl)

-- an order that takes node 4 where node 3 is ready
ready_3 : HasSources three_gains (1 ∷ 4 ∷ 3 ∷ 5 ∷ 6 ∷ 2 ∷ []) 1 3
unfolding three_gains
ready_3 = All-from_recursion (Comes (1 ∷ 4 ∷ 3 ∷ 5 ∷ 6 ∷ 2 ∷ []) 1 3) three_gains.connections
    (sources_from (1 ∷ 4 ∷ 3 ∷ 5 ∷ 6 ∷ 2 ∷ []) 1 3 three_gains.connections refl)

not_the_least : IsOrder three_gains (1 ∷ 4 ∷ 3 ∷ 5 ∷ 6 ∷ 2 ∷ []) → ⊥
unfolding three_gains
not_the_least o =
    let fresh : ¬ StandsBefore (1 ∷ 4 ∷ 3 ∷ 5 ∷ 6 ∷ 2 ∷ []) 1 3 = λ s. let t = taken-true (1 ∷ 4 ∷ 3 ∷ 5 ∷ 6 ∷ 2 ∷ []) 1 3 s.0 (omega arith) s.1 s.2 in absurd (cc) in
    let l : 4 ≤ 3 = (o.next 1 (omega arith)).least 3 refl fresh ready_3 in
    absurd (omega arith)

-- three nodes in one wave
ones : (xs : List ℕ) (k : ℕ) → get_or (map length (map (λ v. v ∷ []) xs)) k 1 ≡ 1
ones [] zero = refl
ones [] (suc k) = refl
ones (x ∷ xs) zero = refl
ones (x ∷ xs) (suc k) = ones xs k

three_at_once : IsOneByOne three_gains by_waves → ⊥
three_at_once (os, is, waves) =
    let e : get_or (map length (map names by_waves)) 1 1 ≡ 1 = ap (λ ws. get_or (map length ws) 1 1) waves ∙ ones _ 1 in
    omega (arith, e)
