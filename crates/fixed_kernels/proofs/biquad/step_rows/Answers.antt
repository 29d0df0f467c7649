use Rattle.std.proofs.Common.{◌≡◌, ℕ, ◌+◌, ◌-◌, ◌*◌, ◌<◌, ◌≤◌, List, ℤ, length, take, drop, get_or, pos, sym, ap, ◌∙◌, subst, arith}
use Rattle.std.specs.Prelude.{slice_set}
use Rattle.std.proofs.lemmas.List.{get_or-set_other}
use Rattle.std.proofs.lemmas.List.Edits.{fill_by_more}
use Rattle.graph_model.specs.Histories.{frame_in}
use Rattle.graph_model.proofs.BlockLaws.{length-frame_in, row_within}
use Rattle.fixed_kernels.specs.Sections.{next_out, silent_tail, tail_at, tail_upto}
use Rattle.fixed_kernels.specs.declared.section.Section.{Section}
use Rattle.fixed_kernels.specs.declared.section.Tail.{Tail}
use Rattle.fixed_kernels.proofs.RowFacts.{rows_more, slice_row}
use Rattle.fixed_kernels.proofs.biquad.step_rows.Goals as goal

pub loop-c-preserved : goal.loop-c-preserved
loop-c-preserved c =
    let s : Section = c.args.section.now in
    let i : ℕ = c.loop-c.c in
    let n : ℕ = c.args.frames in
    let old : List Tail = c.args.tails.now in
    let ins : List ℤ = c.args.ins.now in
    let tails : List Tail = c.loop-c.tails in
    let outs : List ℤ = c.loop-c.outs in
    let same : tail_at tails i ≡ tail_at old i = c.loop-c.invariant.left i (omega arith) in
    let b : take (i * n + n - i * n) (drop (i * n) ins) ≡ frame_in n ins i = slice_row n i ins in
    let many : length (take (i * n + n - i * n) (drop (i * n) ins)) ≡ n = ap length b ∙ length-frame_in n (length old) ins i c.requires.ins (omega arith) in
    let width : i * n + n ≤ length outs = omega (arith, row_within i (length old) n (omega arith), c.loop-c.auto.outs, c.requires.outs) in
    let size : length c.step_row.new.outs ≡ n = omega arith in
    let tail : c.step_row.result ≡ tail_upto s (tail_at old i) (frame_in n ins i) n
    = c.step_row.ensures.tail ∙ (λ j. tail_upto s (same j) (b j) (many j)) in
    record {
      done = subst (λ (t : Tail). (k : ℕ) → k < i + 1 → tail_at (slice_set tails i t) k ≡ tail_upto s (tail_at old k) (frame_in n ins k) n)
          (sym tail)
          (fill_by_more (λ k. tail_upto s (tail_at old k) (frame_in n ins k) n) tails i silent_tail (omega (arith, c.loop-c.auto.tails)) c.loop-c.invariant.done);
      left = λ k le. get_or-set_other tails i k c.step_row.result silent_tail (λ e. omega arith) ∙ c.loop-c.invariant.left k (omega arith);
      values = rows_more n i (λ k row. (t : ℕ) → t < n → get_or row t (pos 0) ≡ next_out s (tail_upto s (tail_at old k) (frame_in n ins k) t) (get_or (frame_in n ins k) t (pos 0)))
          outs c.step_row.new.outs width size c.loop-c.invariant.values
          (λ t lt. c.step_row.ensures.values t (omega (arith, many)) ∙ (λ j. next_out s (tail_upto s (same j) (b j) t) (get_or (b j) t (pos 0))));
    }
