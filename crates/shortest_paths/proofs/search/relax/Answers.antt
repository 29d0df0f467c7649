use Rattle.std.proofs.Common.{◌≡◌, w64, ◌+ℤ◌, FitsSigned, Some, ap, sym, ◌∙◌, arith, refl}
use Rattle.std.proofs.lemmas.Int.{ints, to_z-of_z}
use Rattle.shortest_paths.specs.declared.edges.Best.{Best}
use Rattle.shortest_paths.proofs.search.relax.Goals as goal
use Rattle.shortest_paths.proofs.search.relax.Goals.{in-Some-best, in-None}

cost_same : (a b : Best) → Some a ≡ Some b → a.cost ≡ b.cost
cost_same a b e = let same : a ≡ b = cc in ap (λ (x : Best). x.cost) same

pub overflow_add-cost : goal.overflow_add-cost
overflow_add-cost c =
    let b = c.requires.bounded c.args.edge.tail c.in-Some.tail c.requires.tail c.in-Some.is in
    let cost = c.requires.cost in
    omega (arith, ints, b.0, b.1, cost.0, cost.1)

pub returns-then-cheaper-clause-improved : goal.returns-then-cheaper-clause-improved
returns-then-cheaper-clause-improved c is_true =
    let b = c.requires.bounded c.args.edge.tail c.in-Some.tail c.requires.tail c.in-Some.is in
    let cost = c.requires.cost in
    let tail_fits : FitsSigned w64 c.in-Some.tail.cost = omega (arith, ints, b.0, b.1) in
    let edge_fits : FitsSigned w64 c.args.edge.cost = omega (arith, ints, cost.0, cost.1) in
    let sum_fits : FitsSigned w64 (c.in-Some.tail.cost +ℤ c.args.edge.cost) = omega (arith, ints, b.0, b.1, cost.0, cost.1) in
    record {
      tail = c.in-Some.tail;
      improves = record {
        tail_found = c.in-Some.is;
        cheaper = λ h f. elim c.match-best-edge-2.branch [
          | in-Some-best w ↦
              let is = w.in-Some-best.is in
              let same = cost_same h w.in-Some-best.head (sym f ∙ is) in
              let d = c.requires.bounded c.args.edge.head w.in-Some-best.head c.requires.head is in
              let head_fits : FitsSigned w64 w.in-Some-best.head.cost = omega (arith, ints, d.0, d.1) in
              let e = sym w.cheaper-is ∙ is_true in
              let less = simp (to_z-of_z w64 c.in-Some.tail.cost tail_fits, to_z-of_z w64 c.args.edge.cost edge_fits, to_z-of_z w64 (c.in-Some.tail.cost +ℤ c.args.edge.cost) sum_fits, to_z-of_z w64 w.in-Some-best.head.cost head_fits) at e in
              omega (arith, ints, less, same)
          | in-None w ↦ let is = w.in-None.is in absurd (cc)
        ];
      };
      written = simp (to_z-of_z w64 c.in-Some.tail.cost tail_fits, to_z-of_z w64 c.args.edge.cost edge_fits, to_z-of_z w64 (c.in-Some.tail.cost +ℤ c.args.edge.cost) sum_fits);
    }

pub returns-else-cheaper-clause-settled : goal.returns-else-cheaper-clause-settled
returns-else-cheaper-clause-settled c is_false = (
  refl,
  λ t f.
      let same_tail = cost_same t c.in-Some.tail (sym f ∙ c.in-Some.is) in
      let b = c.requires.bounded c.args.edge.tail c.in-Some.tail c.requires.tail c.in-Some.is in
      let cost = c.requires.cost in
      let tail_fits : FitsSigned w64 c.in-Some.tail.cost = omega (arith, ints, b.0, b.1) in
      let edge_fits : FitsSigned w64 c.args.edge.cost = omega (arith, ints, cost.0, cost.1) in
      let sum_fits : FitsSigned w64 (c.in-Some.tail.cost +ℤ c.args.edge.cost) = omega (arith, ints, b.0, b.1, cost.0, cost.1) in
      elim c.match-best-edge-2.branch [
        | in-Some-best w ↦
            let is = w.in-Some-best.is in
            let d = c.requires.bounded c.args.edge.head w.in-Some-best.head c.requires.head is in
            let head_fits : FitsSigned w64 w.in-Some-best.head.cost = omega (arith, ints, d.0, d.1) in
            let e = sym w.cheaper-is ∙ is_false in
            let not_less = simp (to_z-of_z w64 c.in-Some.tail.cost tail_fits, to_z-of_z w64 c.args.edge.cost edge_fits, to_z-of_z w64 (c.in-Some.tail.cost +ℤ c.args.edge.cost) sum_fits, to_z-of_z w64 w.in-Some-best.head.cost head_fits) at e in
            (w.in-Some-best.head, is, omega (arith, ints, not_less, same_tail))
        | in-None w ↦ let e = w.cheaper-is in absurd (cc)
      ],
)
