use Rattle.std.proofs.Common.{rules, arith, ◌≡◌, ℕ, ◌+◌, ◌-◌, ◌*◌, ◌<◌, ◌≤◌, List, ℤ, length, take, drop, pos, get_or, sym, ap, ◌∙◌, subst, add-one, w32, FitsSigned}
use Rattle.std.specs.Prelude.{unsigned_abs, ◌+ℤ◌, ◌*ℤ◌}
use Rattle.std.proofs.lemmas.Int.{to_z-of_z}
use Rattle.std.proofs.lemmas.List.FromFn.{get_or-map-range_with_len}
use Rattle.graph_model.specs.Bounds.{weight}
use Rattle.graph_model.specs.Filters.{products}
use Rattle.graph_model.specs.Histories.{frame_in}
use Rattle.graph_model.proofs.BlockLaws.{length-frame_in, sample_in}
use Rattle.graph_model.specs.Blocks.{planar_frame}
use Rattle.graph_model.proofs.PlanarLaws.{in_rows}
use Rattle.fixed_kernels.proofs.NarrowFacts.{abs-within, weight_more, weight_part}
use Rattle.fixed_kernels.proofs.RowFacts.{slice_row}
use Rattle.fixed_kernels.proofs.SumLaws.{abs-add, products-take_more}
use Rattle.fixed_kernels.proofs.mixer.add_rows.Goals as goal

pub add_row-requires-clause-within : goal.add_row-requires-clause-within
add_row-requires-clause-within c = λ t lt.
    let i : ℕ = c.loop-c.c in
    let row : List ℤ = c.args.row.now in
    let n : ℕ = c.args.frames in
    let ins : List ℤ = c.args.ins.now in
    let b : take (i * n + n - i * n) (drop (i * n) ins) ≡ frame_in n ins i = slice_row n i ins in
    let many : length (take (i * n + n - i * n) (drop (i * n) ins)) ≡ n = ap length b ∙ length-frame_in n (length row) ins i c.requires.ins (omega arith) in
    let inside : i * n + t < length ins = omega (arith, in_rows (length row) n i t (omega arith) (omega (arith, many)), c.requires.ins) in
    subst (λ y. unsigned_abs y ≤ c.args.most) (sym (ap (λ (zs : List ℤ). get_or zs t (pos 0)) b ∙ sample_in n ins i t (omega (arith, many))))
    (c.requires.within (i * n + t) inside)

pub add_row-requires-clause-sizes : goal.add_row-requires-clause-sizes
add_row-requires-clause-sizes c = λ t lt.
    let i : ℕ = c.loop-c.c in
    let row : List ℤ = c.args.row.now in
    let n : ℕ = c.args.frames in
    let ins : List ℤ = c.args.ins.now in
    let b : take (i * n + n - i * n) (drop (i * n) ins) ≡ frame_in n ins i = slice_row n i ins in
    let many : length (take (i * n + n - i * n) (drop (i * n) ins)) ≡ n = ap length b ∙ length-frame_in n (length row) ins i c.requires.ins (omega arith) in
    let coefficient : FitsSigned w32 (get_or row i (pos 0)) = search rules in
    let more = weight_more row i c.args.most (omega arith) in
    let part = weight_part row (i + 1) c.args.most in
    let size = c.loop-c.invariant.sizes t (omega (arith, many)) in
    rw (to_z-of_z w32 (get_or row i (pos 0)) coefficient) (omega (arith, more, part, size, c.requires.small))

pub loop-c-preserved : goal.loop-c-preserved
loop-c-preserved c =
    let i : ℕ = c.loop-c.c in
    let row : List ℤ = c.args.row.now in
    let n : ℕ = c.args.frames in
    let ins : List ℤ = c.args.ins.now in
    let outs : List ℤ = c.loop-c.outs in
    let b : take (i * n + n - i * n) (drop (i * n) ins) ≡ frame_in n ins i = slice_row n i ins in
    let many : length (take (i * n + n - i * n) (drop (i * n) ins)) ≡ n = ap length b ∙ length-frame_in n (length row) ins i c.requires.ins (omega arith) in
    let coefficient : FitsSigned w32 (get_or row i (pos 0)) = search rules in
    let added = rw (to_z-of_z w32 (get_or row i (pos 0)) coefficient) at c.add_row.ensures in
    let step : (t : ℕ) → t < n → get_or c.add_row.new.outs t (pos 0) ≡ get_or outs t (pos 0) +ℤ (get_or row i (pos 0) *ℤ get_or ins (i * n + t) (pos 0))
    = λ t lt. added t (omega (arith, many))
    ∙ ap (λ y. get_or outs t (pos 0) +ℤ (get_or row i (pos 0) *ℤ y)) (ap (λ (zs : List ℤ). get_or zs t (pos 0)) b ∙ sample_in n ins i t lt) in
    record {
      values = λ t lt.
          let frame : List ℤ = planar_frame (length row) n ins t in
          let at : get_or (planar_frame (length row) n ins t) i (pos 0) ≡ get_or ins (i * n + t) (pos 0)
          = get_or-map-range_with_len (λ d. get_or ins (d * n + t) (pos 0)) 0 (length row) i i (pos 0) (omega arith) (omega arith) in
          step t lt
          ∙ ap (λ s. s +ℤ (get_or row i (pos 0) *ℤ get_or ins (i * n + t) (pos 0))) (c.loop-c.invariant.values t lt)
          ∙ ap (λ y. products (take i row) (planar_frame (length row) n ins t) +ℤ (get_or row i (pos 0) *ℤ y)) (sym at)
          ∙ sym (products-take_more row (planar_frame (length row) n ins t) i)
          ∙ ap (λ j. products (take j row) (planar_frame (length row) n ins t)) (sym (add-one i));
      sizes = λ t lt.
          let inside : i * n + t < length ins = omega (arith, in_rows (length row) n i t (omega arith) lt, c.requires.ins) in
          let a = abs-add (get_or outs t (pos 0)) (get_or row i (pos 0) *ℤ get_or ins (i * n + t) (pos 0)) in
          let p = abs-within (get_or row i (pos 0)) (get_or ins (i * n + t) (pos 0)) c.args.most (c.requires.within (i * n + t) inside) in
          let more = weight_more row i c.args.most (omega arith) in
          let size = c.loop-c.invariant.sizes t lt in
          subst (λ y. unsigned_abs y ≤ weight (take (i + 1) row) * c.args.most) (sym (step t lt)) (omega (arith, a, p, more, size));
    }
