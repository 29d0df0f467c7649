use Rattle.std.proofs.Common.{◌≡◌, ℕ, ◌+◌, ◌-◌, ◌*◌, ◌++◌, ◌<◌, ◌≤◌, List, [], ℤ, length, take, drop, get_or, pos, sym, ap, ◌∙◌, subst, arith}
use Rattle.std.specs.Prelude.{slice_set}
use Rattle.std.proofs.lemmas.List.{drop_at, get_or_append_left, get_or_default, get_or-set_other}
use Rattle.std.proofs.lemmas.List.Edits.{fill_by_more}
use Rattle.graph_model.specs.Histories.{frame_in}
use Rattle.graph_model.proofs.BlockLaws.{row_within}
use Rattle.fixed_kernels.proofs.RowFacts.{rows_more, slice_row}
use Rattle.fixed_kernels.proofs.hold.pass_rows.Goals as goal

pub loop-c-preserved : goal.loop-c-preserved
loop-c-preserved c =
    let i : ℕ = c.loop-c.c in
    let n : ℕ = c.args.frames in
    let old : List (List ℤ) = c.args.lines.now in
    let ins : List ℤ = c.args.ins.now in
    let lines : List (List ℤ) = c.loop-c.lines in
    let outs : List ℤ = c.loop-c.outs in
    let same : get_or lines i [] ≡ get_or old i [] = c.loop-c.invariant.left i (omega arith) in
    let held : get_or lines i c.index-lines-c.result ≡ get_or old i [] = get_or_default lines i c.index-lines-c.result [] (omega (arith, c.loop-c.auto.lines)) ∙ same in
    let b : take (i * n + n - i * n) (drop (i * n) ins) ≡ frame_in n ins i = slice_row n i ins in
    let both : c.pass_block.new.into ++ c.pass_block.new.self ≡ get_or old i [] ++ frame_in n ins i = c.pass_block.ensures.passed ∙ (λ j. held j ++ b j) in
    let size : length c.pass_block.new.into ≡ n = omega arith in
    let width : i * n + n ≤ length outs = omega (arith, row_within i (length old) n (omega arith), c.loop-c.auto.outs, c.requires.outs) in
    let kept : c.pass_block.new.self ≡ drop n (get_or old i [] ++ frame_in n ins i)
    = sym (drop_at c.pass_block.new.into c.pass_block.new.self n size) ∙ ap (drop n) both in
    record {
      done = subst (λ (z : List ℤ). (k : ℕ) → k < i + 1 → get_or (slice_set lines i z) k [] ≡ drop n (get_or old k [] ++ frame_in n ins k)) (sym kept)
          (fill_by_more (λ k. drop n (get_or old k [] ++ frame_in n ins k)) lines i [] (omega (arith, c.loop-c.auto.lines)) c.loop-c.invariant.done);
      left = λ k le. get_or-set_other lines i k c.pass_block.new.self [] (λ e. omega arith) ∙ c.loop-c.invariant.left k (omega arith);
      values = rows_more n i (λ k row. (t : ℕ) → t < n → get_or row t (pos 0) ≡ get_or (get_or old k [] ++ frame_in n ins k) t (pos 0))
          outs c.pass_block.new.into width size c.loop-c.invariant.values
          (λ t lt. sym (get_or_append_left c.pass_block.new.into c.pass_block.new.self (pos 0) t (omega (arith, size))) ∙ ap (λ (zs : List ℤ). get_or zs t (pos 0)) both);
    }
