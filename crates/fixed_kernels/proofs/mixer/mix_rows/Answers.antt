use Rattle.std.proofs.Common.{arith, ◌≡◌, ℕ, ◌+◌, ◌-◌, ◌*◌, ◌<◌, ◌≤◌, List, ℤ, length, take, drop, pos, get_or, ap, ◌∙◌}
use Rattle.graph_model.specs.Filters.{gains_to, products}
use Rattle.graph_model.specs.Rounding.{rounded}
use Rattle.graph_model.proofs.BlockLaws.{length-frame_in, row_within}
use Rattle.graph_model.specs.Blocks.{planar_frame}
use Rattle.fixed_kernels.proofs.RowFacts.{rows_more, slice_row}
use Rattle.fixed_kernels.proofs.mixer.mix_rows.Goals as goal

pub loop-o-preserved : goal.loop-o-preserved
loop-o-preserved c =
    let o : ℕ = c.loop-o.o in
    let n : ℕ = c.args.frames in
    let wide : ℕ = c.args.wide in
    let gains : List ℤ = c.args.gains.now in
    let ins : List ℤ = c.args.ins.now in
    let outs : List ℤ = c.loop-o.outs in
    let g : take (o * wide + wide - o * wide) (drop (o * wide) gains) ≡ gains_to wide gains o = slice_row wide o gains in
    let many : length (take (o * wide + wide - o * wide) (drop (o * wide) gains)) ≡ wide
    = ap length g ∙ length-frame_in wide c.args.count gains o c.requires.gains (omega arith) in
    let width : o * n + n ≤ length outs = omega (arith, row_within o c.args.count n (omega arith), c.loop-o.auto.outs, c.requires.outs) in
    let size : length c.mix_row.new.outs ≡ n = omega arith in
    rows_more n o (λ k row. (t : ℕ) → t < n → get_or row t (pos 0) ≡ rounded (products (gains_to wide gains k) (planar_frame wide n ins t)) 16)
    outs c.mix_row.new.outs width size c.loop-o.invariant
    (λ t lt. c.mix_row.ensures t lt ∙ (λ j. rounded (products (g j) (planar_frame (many j) n ins t)) 16))
