use Rattle.std.proofs.Common.{◌≡◌, ℕ, ◌+◌, ◌-◌, ◌*◌, ◌++◌, ◌<◌, ◌≤◌, List, [], ℤ, length, take, drop, get_or, sym, ◌∙◌, subst, arith}
use Rattle.std.specs.Prelude.{slice_set}
use Rattle.std.proofs.lemmas.List.{get_or_default, get_or-set_other}
use Rattle.std.proofs.lemmas.List.Edits.{fill_by_more}
use Rattle.graph_model.specs.Histories.{frame_in}
use Rattle.graph_model.proofs.BlockLaws.{row_within}
use Rattle.fixed_kernels.proofs.RowFacts.{rows_more, slice_row}
use Rattle.limiter_kernel.specs.Gains.{AreLimited, at_gain, late}
use Rattle.limiter_kernel.proofs.limiter.limit_rows.Goals as goal

pub loop-c-preserved : goal.loop-c-preserved
loop-c-preserved c =
    let i : ℕ = c.loop-c.c in
    let gains : List ℕ = c.args.gains.now in
    let n : ℕ = length c.args.gains.now in
    let old : List (List ℤ) = c.args.lines.now in
    let ins : List ℤ = c.args.ins.now in
    let lines : List (List ℤ) = c.loop-c.lines in
    let outs : List ℤ = c.loop-c.outs in
    let same : get_or lines i [] ≡ get_or old i [] = c.loop-c.invariant.left i (omega arith) in
    let held : get_or lines i c.index-lines-c.result ≡ get_or old i [] = get_or_default lines i c.index-lines-c.result [] (omega (arith, c.loop-c.auto.lines)) ∙ same in
    let b : take (i * n + n - i * n) (drop (i * n) ins) ≡ frame_in n ins i = slice_row n i ins in
    let size : length c.limit_channel.new.out ≡ n = omega arith in
    let width : i * n + n ≤ length outs = omega (arith, row_within i (length old) n (omega arith), c.loop-c.auto.outs, c.requires.outs) in
    let kept : c.limit_channel.new.line ≡ drop n (get_or old i [] ++ frame_in n ins i)
    = c.limit_channel.ensures.line ∙ (λ j. drop n (held j ++ b j)) in
    record {
      done = subst (λ (z : List ℤ). (k : ℕ) → k < i + 1 → get_or (slice_set lines i z) k [] ≡ drop n (get_or old k [] ++ frame_in n ins k)) (sym kept)
          (fill_by_more (λ k. drop n (get_or old k [] ++ frame_in n ins k)) lines i [] (omega (arith, c.loop-c.auto.lines)) c.loop-c.invariant.done);
      left = λ k le. get_or-set_other lines i k c.limit_channel.new.line [] (λ e. omega arith) ∙ c.loop-c.invariant.left k (omega arith);
      values = rows_more n i (λ k row. AreLimited (get_or old k []) (frame_in n ins k) gains row)
          outs c.limit_channel.new.out width size c.loop-c.invariant.values
          (λ t lt. c.limit_channel.ensures.values t lt ∙ (λ j. at_gain (late (held j) (b j) t) (get_or gains t 0)));
    }
