-- There is one order of the nodes at most.
use Rattle.std.proofs.Common.{◌≡◌, ℕ, zero, suc, ◌<◌, ◌≤◌, List, length, get_or, sym, ◌∙◌, subst, arith, inl, inr}
use Rattle.std.proofs.lemmas.List.{ext_get_or}
use Rattle.std.proofs.lemmas.Bool.{cases_lt}
use Rattle.graph_model.specs.Laws.{OrderIsUnique}
use Rattle.graph_model.specs.Orders.{StandsBefore, IsNext, IsOrder}
use Rattle.graph_model.specs.declared.graph.Graph.{Graph}

abbrev SameBelow : ℕ → List ℕ → List ℕ → Type 0
SameBelow k os ps = (j : ℕ) → j < k → get_or os j 0 ≡ get_or ps j 0

stands_too : (k v : ℕ) (os ps : List ℕ) → SameBelow k os ps → StandsBefore os k v → StandsBefore ps k v
stands_too k v os ps same s = (s.0, s.1, sym (same s.0 s.1) ∙ s.2)

turned : (k : ℕ) (os ps : List ℕ) → SameBelow k os ps → SameBelow k ps os
turned k os ps same j lt = sym (same j lt)

next_above : (g : Graph) (os ps : List ℕ) (k v w : ℕ) → SameBelow k os ps → IsNext g os k v → IsNext g ps k w → v ≤ w
next_above g os ps k v w same n m =
    n.least w m.node (λ s. m.fresh (stands_too k w os ps same s))
    (λ e d lt t. stands_too k (get_or g.connections e d).src.0 ps os (turned k os ps same) (m.ready e d lt t))

same_below : (g : Graph) (os ps : List ℕ) → IsOrder g os → IsOrder g ps → (k : ℕ) → k ≤ length os → k ≤ length ps → SameBelow k os ps
same_below g os ps o p zero lo lp j lt = absurd (omega arith)
same_below g os ps o p (suc k) lo lp j lt =
    let before : SameBelow k os ps = same_below g os ps o p k (omega arith) (omega arith) in
    let n = o.next k (omega arith) in
    let m = p.next k (omega arith) in
    elim (cases_lt j k) [
      | inl earlier ↦ before j earlier
      | inr past ↦
          (let here : k ≡ j = omega arith in
          let up = next_above g os ps k (get_or os k 0) (get_or ps k 0) before n m in
          let down = next_above g ps os k (get_or ps k 0) (get_or os k 0) (turned k os ps before) m n in
          let same : get_or os k 0 ≡ get_or ps k 0 = omega arith in
          subst (λ i. get_or os i 0 ≡ get_or ps i 0) here same)
    ]

no_longer : (g : Graph) (os ps : List ℕ) → IsOrder g os → IsOrder g ps → length os ≤ length ps
no_longer g os ps o p =
    elim (cases_lt (length ps) (length os)) [
      | inl more ↦
          (let k = length ps in
          let n = o.next (length ps) more in
          absurd (n.fresh (stands_too (length ps) (get_or os (length ps) 0) ps os (same_below g ps os p o (length ps) (omega arith) (omega arith)) (p.all (get_or os (length ps) 0) n.node))))
      | inr le ↦ le
    ]

pub order_once : OrderIsUnique
order_once g os ps o p =
    let one = no_longer g os ps o p in
    let two = no_longer g ps os p o in
    let len : length os ≡ length ps = omega arith in
    ext_get_or 0 os ps len (same_below g os ps o p (length os) (omega arith) one)
