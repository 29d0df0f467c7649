use Rattle.std.proofs.Common.{◌≡◌, ◌+◌, ◌<◌, ◌^◌, ◌∙◌, subst, sym, arith, rules}
use Rattle.streaming.proofs.WholeFacts.{next_block, next_frames, next_rendered, whole_taken}
use Rattle.streaming.proofs.whole.render_whole.Goals as goal

pub render-requires-clause-block : goal.render-requires-clause-block
render-requires-clause-block g c κs within = (
  c.min.result,
  next_block c.args.engine.now c.loop-done.engine c.loop-done.done c.min.result c.args.frames c.args.ins c.args.outs c.args.input.now c.loop-done.output
      c.requires.sound c.requires.ins c.requires.outs c.loop-done.invariant.rendered.same c.requires.comes (c.loop-done.auto.output ∙ c.requires.goes) (search rules) (search rules)
      (search rules) c.requires.small,
)

pub render-requires-clause-count : goal.render-requires-clause-count
render-requires-clause-count g c κs within =
    let n = next_frames c.args.engine.now c.loop-done.engine c.loop-done.done c.min.result c.args.frames c.args.ins c.args.outs c.args.input.now c.loop-done.output
    c.requires.sound c.requires.ins c.requires.outs c.loop-done.invariant.rendered.same c.requires.comes (c.loop-done.auto.output ∙ c.requires.goes) (search rules) in
    let fits : c.loop-done.engine.frames + c.min.result < 2 ^ 63 = search rules in
    subst (λ k. c.loop-done.engine.frames + k < 2 ^ 63) (sym n) fits

pub loop-done-preserved : goal.loop-done-preserved
loop-done-preserved g c = record {
  at = search rules;
  rendered = next_rendered c.args.engine.now c.loop-done.engine c.loop-done.done c.min.result c.args.frames c.args.ins c.args.outs c.args.input.now c.loop-done.output
      c.requires.sound c.requires.ins c.requires.outs c.loop-done.invariant.rendered.same c.requires.comes (c.loop-done.auto.output ∙ c.requires.goes) (search rules)
      c.render.new.self c.render.new.output c.loop-done.invariant.rendered c.render.ensures.rendered c.render.auto.output;
  count =
      let n = next_frames c.args.engine.now c.loop-done.engine c.loop-done.done c.min.result c.args.frames c.args.ins c.args.outs c.args.input.now c.loop-done.output
      c.requires.sound c.requires.ins c.requires.outs c.loop-done.invariant.rendered.same c.requires.comes (c.loop-done.auto.output ∙ c.requires.goes) (search rules) in
      let before = c.loop-done.invariant.count in
      let now = c.render.ensures.count in
      omega (arith, n, before, now);
}

pub returns : goal.returns
returns g c =
    let over : c.loop-done.done ≡ c.args.frames = search rules in
    whole_taken c.args.engine.now c.loop-done.engine c.loop-done.done c.args.frames c.args.ins c.args.outs c.args.input.now c.loop-done.output over c.requires.comes
    (c.loop-done.auto.output ∙ c.requires.goes) c.loop-done.invariant.rendered
