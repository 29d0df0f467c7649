use Rattle.std.proofs.Common.{arith, ◌≡◌, ℕ, ◌+◌, ◌-◌, ◌*◌, ◌/◌, ◌<◌, ◌≤◌, List, ℤ, length, get_or, pos, sym, ap, ◌∙◌, subst, ◌^◌}
use Rattle.std.specs.Prelude.{unsigned_abs}
use Rattle.graph_model.proofs.BlockLaws.{sample_in}
use Rattle.graph_model.proofs.PlanarLaws.{place}
use Rattle.fixed_kernels.specs.Rows.{filtered_at}
use Rattle.fixed_kernels.proofs.RowFacts.{filtered_part, rows_more}
use Rattle.fixed_kernels.proofs.fir.filter_wide.Goals as goal

pub loop-q-preserved : goal.loop-q-preserved
loop-q-preserved c =
    let q : ℕ = c.loop-q.q in
    let taps : List ℤ = c.args.taps.now in
    let line : List ℤ = c.args.line.now in
    let outs : List ℤ = c.loop-q.outs in
    let width : q * 4 + 4 ≤ length outs = omega (arith, c.loop-q.auto.outs) in
    let size : length c.filter_four_wide.new.outs ≡ 4 = omega arith in
    rows_more 4 q (λ k row. (j : ℕ) → j < 4 → get_or row j (pos 0) ≡ filtered_at taps c.args.shift line (k * 4 + j))
    outs c.filter_four_wide.new.outs width size c.loop-q.invariant
    (λ j lt. c.filter_four_wide.ensures j lt ∙ filtered_part taps c.args.shift line (q * 4) (q * 4 + 4 + length taps - q * 4) j (omega arith))

pub loop-t-init : goal.loop-t-init
loop-t-init c = λ k lt.
    let p = place (length c.args.outs.now / 4) 4 k lt in
    ap (λ i. get_or c.loop-q.outs i (pos 0)) p.is
    ∙ sym (sample_in 4 c.loop-q.outs p.c p.t p.column)
    ∙ c.loop-q.invariant p.c (omega (arith, p.row)) p.t p.column
    ∙ ap (filtered_at c.args.taps.now c.args.shift c.args.line.now) (sym p.is)

pub filter_four_wide-requires-clause-fits : goal.filter_four_wide-requires-clause-fits
filter_four_wide-requires-clause-fits c = λ j lt.
    let q : ℕ = c.loop-q.q in
    let taps : List ℤ = c.args.taps.now in
    let line : List ℤ = c.args.line.now in
    let is = filtered_part taps c.args.shift line (q * 4) (q * 4 + 4 + length taps - q * 4) j (omega arith) in
    subst (λ y. unsigned_abs y ≤ 2 ^ 46) (sym is) (c.requires.fits (q * 4 + j) (omega (arith, c.loop-q.auto.outs)))
