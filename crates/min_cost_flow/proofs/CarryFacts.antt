-- How many units the walk to a point can carry.
use Rattle.std.proofs.Common.{◌≡◌, ℕ, zero, suc, ◌+◌, ◌-◌, ◌<◌, ◌≤◌, List, length, Option, Some, None, inl, inr, refl, sym, ap, subst, ◌∙◌, arith, slice_get, slice_index, get_or, cond, min, Bool, true, false, add-one}
use Rattle.std.proofs.Math.Nat.{min-le_left, min-le_right, le-min}
use Rattle.std.proofs.lemmas.Bool.{cases_eq, cases_lt}
use Rattle.min_cost_flow.specs.declared.network.Arc.{Arc}
use Rattle.min_cost_flow.specs.declared.network.Step.{Step}
use Rattle.min_cost_flow.specs.declared.network.Network.{Network}
use Rattle.min_cost_flow.specs.declared.residual.Residual.{Residual}
use Rattle.min_cost_flow.specs.Residual.{IsMove, more, fewer}
use Rattle.min_cost_flow.specs.Search.{IsSearchOf, CanCarry}
use Rattle.min_cost_flow.proofs.SendFacts.{Here, named_there, climb_left, climb_split, climb_on}
use Rattle.shortest_paths.specs.declared.heap.Searcher.{Searcher}
use Rattle.shortest_paths.specs.Nearest.{IsLinked}
use Rattle.shortest_paths.specs.declared.edges.Edge.{Edge}
use Rattle.shortest_paths.specs.Walks.{ClimbsIn}
use Rattle.shortest_paths.proofs.WalkLaws.{some_same}

-- what holds on the way from `to` back to `from`: it has come to `at` in i steps, and these carry so many units;
-- some, if the walks were searched in this very flow
pub record IsCarrying (net : Network) (flow : List ℕ) (r : Residual) (d : Searcher) (from to most units at i : ℕ) : Type 0 where
  pub left : (n : ℕ) × (n + i < length d.last.items) × ClimbsIn r.edges.items d.last.items from n at
  pub path : ClimbsIn r.edges.items d.last.items at i to
  pub some : IsSearchOf net flow from r d → 0 < units
  pub few : units ≤ most
  pub room : (n v k : ℕ) (s : Step) → n < i → ClimbsIn r.edges.items d.last.items v n to → slice_get d.last.items v ≡ Some (Some k) → slice_get r.steps.items k ≡ Some s → s.back ≡ true → units ≤ slice_index flow s.arc

-- a step back has a unit
has_unit : (arcs : List Arc) (flow : List ℕ) (e : Edge) (s : Step) → IsMove arcs flow e s → s.back ≡ true → 0 < slice_index flow s.arc
has_unit arcs flow e s (more j a f) back = absurd (cc)
has_unit arcs flow e s (fewer j a f some) back = some

module _ (net : Network) (searched flow : List ℕ) (from to most : ℕ) (r : Residual) (d : Searcher) (search : IsSearchOf net searched from r d) where
  pub first_carrying : IsLinked d.last.items to → 0 < most → IsCarrying net flow r d from to most most to 0
  first_carrying l some = let t = search.tree to l.0 l.1 in record {
    left = (t.0, let q = search.last_each in let w = t.1 in omega arith, t.2);
    path = refl;
    some = λ s. some;
    few = omega arith;
    room = λ n v k s less. absurd (omega arith);
  }

  module _ (units at i k : ℕ) (carrying : IsCarrying net flow r d from to most units at i) (h : Here net searched r d at k) where
    carrying_on : (now : ℕ) → (IsSearchOf net flow from r d → 0 < now) → now ≤ units → (h.step.back ≡ true → now ≤ slice_index flow h.step.arc) → IsCarrying net flow r d from to most now h.edge.tail (suc i)
    carrying_on now some less there = record {
      left = climb_left r.edges.items d.last.items from carrying.left.0 i (length d.last.items) at k h.edge search.root h.named h.there carrying.left.1 carrying.left.2;
      path = climb_on r.edges.items d.last.items at i to k h.edge carrying.path h.named h.there;
      some = some;
      few = let q = carrying.few in omega arith;
      room = λ n v j s l climb named step back.
          elim (cases_eq n i) [
            | inl same ↦
                let here : at ≡ v = climb_split r.edges.items d.last.items at v i 0 n to (omega (arith, same)) carrying.path climb in
                let j_is : k ≡ j = let q = sym h.named ∙ subst (λ x. slice_get d.last.items x ≡ Some (Some j)) (sym here) named in cc in
                let s_is = some_same h.step s (sym h.step_there ∙ subst (λ x. slice_get r.steps.items x ≡ Some s) (sym j_is) step) in
                subst (λ (x : Step). now ≤ slice_index flow x.arc) s_is (there (ap (λ (x : Step). x.back) s_is ∙ back))
            | inr ne ↦ let q = carrying.room n v j s (omega arith) climb named step back in omega arith
          ];
    }

    -- a step back that is searched in this flow has a unit in it
    unit_there : h.step.back ≡ true → IsSearchOf net flow from r d → 0 < slice_index flow h.step.arc
    unit_there back s =
        let m = s.ends at k h.named in
        let is = some_same m.step h.step (sym m.step_there ∙ h.step_there) in
        has_unit net.arcs flow m.edge h.step (subst (λ x. IsMove net.arcs flow m.edge x) is m.move) back

    pub step_carrying : IsCarrying net flow r d from to most (cond h.step.back (min units (slice_index flow h.step.arc)) units) h.edge.tail (i + 1)
    step_carrying = subst (λ n. IsCarrying net flow r d from to most (cond h.step.back (min units (slice_index flow h.step.arc)) units) h.edge.tail n) (sym (add-one i)) (by h.step.back refl)
      where
        by : (b : Bool) → h.step.back ≡ b → IsCarrying net flow r d from to most (cond b (min units (slice_index flow h.step.arc)) units) h.edge.tail (suc i)
        by false is = carrying_on units carrying.some (omega arith) (λ back. absurd (let q = sym is ∙ back in cc))
        by true is =
            carrying_on (min units (slice_index flow h.step.arc)) (λ s. le-min (carrying.some s) (unit_there is s)) (min-le_left units (slice_index flow h.step.arc))
            (λ back. min-le_right units (slice_index flow h.step.arc))

  pub all_carried : (units at i : ℕ) (last : List (Option ℕ)) → IsCarrying net flow r d from to most units at i → at < net.points → last ≡ d.last.items → get_or last at None ≡ None → CanCarry flow r d to units
  all_carried units at i last carrying l same none n v k s climb named step back =
      let root = named_there d.last.items last at None (let many = search.last_each in omega arith) same none in
      elim (cases_lt n i) [
        | inl less ↦ carrying.room n v k s less climb named step back
        | inr ge ↦ absurd (beyond (n - i) root (climb_split r.edges.items d.last.items at v i (n - i) n to (omega (arith, ge)) carrying.path climb))
      ]
    where
      beyond : (m : ℕ) → slice_get d.last.items at ≡ Some None → ClimbsIn r.edges.items d.last.items v m at → ⊥
      beyond zero root c = let q = sym root ∙ subst (λ x. slice_get d.last.items x ≡ Some (Some k)) (sym c) named in cc
      beyond (suc m) root c = let q = sym root ∙ c.2 in cc
