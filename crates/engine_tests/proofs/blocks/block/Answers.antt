use Rattle.std.proofs.Common.{◌≡◌, ◌*◌, ◌<◌, ◌≤◌, length, pos, sym, ◌∙◌, ap, subst, arith}
use Rattle.std.proofs.lemmas.List.{length-replicate}
use Rattle.graph_model.specs.Histories.{frames_of}
use Rattle.graph_model.proofs.BlockLaws.{length-frames_of}
use Rattle.engine_model.specs.Engines.{ins}
use Rattle.engine_tests.proofs.blocks.block.Goals as goal

pub render-requires-clause-block : goal.render-requires-clause-block
render-requires-clause-block g c κs within = (
  c.args.frames,
  record {
    some = c.requires.some;
    most = subst (λ b. c.args.frames ≤ b) (sym c.requires.longest) c.requires.most;
    comes = c.requires.whole ∙ ap (λ k. c.args.frames * k) c.requires.ins;
    goes = ap length (c.as_mut_slice.ensures.value ∙ c.in_ok-heard.ensures) ∙ length-replicate (c.args.frames * c.args.widths.outs) (pos 0) ∙ ap (λ k. c.args.frames * k) c.requires.outs;
    small = c.requires.small;
  },
)

pub render-requires-clause-count : goal.render-requires-clause-count
render-requires-clause-count g c κs within =
    let long : length (frames_of (ins c.args.engine.now) c.args.samples.now) ≡ c.args.frames =
    length-frames_of (ins c.args.engine.now) c.args.frames c.args.samples.now (subst (λ k. 0 < k) c.requires.ins c.requires.some_in) (c.requires.whole ∙ ap (λ k. c.args.frames * k) c.requires.ins) in
    omega (arith, long, c.requires.early, c.requires.most)
