use Rattle.std.proofs.Common.{arith, ◌≡◌, ℕ, ◌+◌, ◌-◌, ◌*◌, max, length, take, drop, get_or, List, ℤ, pos, sym, ap, ◌∙◌}
use Rattle.std.specs.Prelude.{unsigned_abs}
use Rattle.graph_model.specs.Limiters.{peak}
use Rattle.graph_model.proofs.BlockLaws.{sample_in}
use Rattle.graph_model.specs.Blocks.{planar_frame}
use Rattle.fixed_kernels.proofs.RowFacts.{slice_row}
use Rattle.limiter_kernel.proofs.GainLaws.{peak_more}
use Rattle.limiter_kernel.proofs.gain.write_peaks.Goals as goal

pub loop-c-preserved : goal.loop-c-preserved
loop-c-preserved c = λ t lt.
    let i : ℕ = c.loop-c.c in
    let n : ℕ = length c.args.peaks.now in
    let ins : List ℤ = c.args.ins.now in
    let row : get_or (take (i * n + n - i * n) (drop (i * n) ins)) t (pos 0) ≡ get_or ins (i * n + t) (pos 0)
    = ap (λ (zs : List ℤ). get_or zs t (pos 0)) (slice_row n i ins) ∙ sample_in n ins i t lt in
    let below : get_or c.loop-c.peaks t 0 ≡ peak (planar_frame i n ins t) = c.loop-c.invariant t lt in
    c.raise.ensures t (omega (arith, c.loop-c.auto.peaks))
    ∙ (λ j. max (below j) (unsigned_abs (row j)))
    ∙ sym (peak_more i n ins t)
