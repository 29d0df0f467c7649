use Rattle.std.proofs.Common.{◌≡◌, ℕ, ◌+◌, ◌-◌, ◌*◌, ◌++◌, ◌<◌, ◌≤◌, List, ℤ, length, take, drop, get_or, pos, ap, ◌∙◌, arith}
use Rattle.graph_model.specs.Histories.{frame_in}
use Rattle.graph_model.proofs.BlockLaws.{length-frame_in, row_within}
use Rattle.fixed_kernels.specs.Rows.{filtered_at}
use Rattle.fixed_kernels.proofs.RowFacts.{rows_left, rows_more, slice_row}
use Rattle.fixed_kernels.proofs.fir.filter_rows.Goals as goal

pub loop-c-preserved : goal.loop-c-preserved
loop-c-preserved c =
    let i : ℕ = c.loop-c.c in
    let m : ℕ = c.args.channels in
    let n : ℕ = c.args.frames in
    let taps : List ℤ = c.args.taps.now in
    let old : List ℤ = c.args.past.now in
    let ins : List ℤ = c.args.ins.now in
    let past : List ℤ = c.loop-c.past in
    let outs : List ℤ = c.loop-c.outs in
    let a : take (i * length taps + length taps - i * length taps) (drop (i * length taps) past) ≡ frame_in (length taps) old i
    = slice_row (length taps) i past ∙ c.loop-c.invariant.left i (omega arith) in
    let b : take (i * n + n - i * n) (drop (i * n) ins) ≡ frame_in n ins i = slice_row n i ins in
    let many : length (frame_in n ins i) ≡ n = length-frame_in n m ins i c.requires.ins (omega arith) in
    let sliced : length (take (i * n + n - i * n) (drop (i * n) ins)) ≡ n = ap length b ∙ many in
    let kept : c.filter_row.new.past ≡ drop n (frame_in (length taps) old i ++ frame_in n ins i)
    = c.filter_row.ensures.past ∙ (λ j. drop (sliced j) (a j ++ b j)) in
    let room : i * length taps + length taps ≤ length past = omega (arith, row_within i m (length taps) (omega arith), c.loop-c.auto.past, c.requires.past) in
    let width : i * n + n ≤ length outs = omega (arith, row_within i m n (omega arith), c.loop-c.auto.outs, c.requires.outs) in
    let size : length c.filter_row.new.past ≡ length taps = omega arith in
    let sizes : length c.filter_row.new.outs ≡ n = omega arith in
    record {
      done = rows_more (length taps) i (λ k row. row ≡ drop n (frame_in (length taps) old k ++ frame_in n ins k)) past c.filter_row.new.past room size
          c.loop-c.invariant.done kept;
      left = rows_left (length taps) i (λ k row. row ≡ frame_in (length taps) old k) past c.filter_row.new.past room size c.loop-c.invariant.left;
      values = rows_more n i (λ k row. (t : ℕ) → t < n → get_or row t (pos 0) ≡ filtered_at taps c.args.shift (frame_in (length taps) old k ++ frame_in n ins k) t)
          outs c.filter_row.new.outs width sizes c.loop-c.invariant.values
          (λ t lt. c.filter_row.ensures.values t (omega (arith, sliced)) ∙ (λ j. filtered_at taps c.args.shift (a j ++ b j) t));
    }
