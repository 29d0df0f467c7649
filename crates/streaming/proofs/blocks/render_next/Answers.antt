use Rattle.std.proofs.Common.{◌≡◌, ◌+◌, ◌*◌, ◌^◌, ◌<◌, ◌++◌, drop, length, take, sym, ap, ◌∙◌, subst}
use Rattle.std.proofs.lemmas.List.{length-take-le}
use Rattle.engine_model.specs.Cuttings.{HasRendered}
use Rattle.streaming.proofs.TakeFacts.{is_block, put_back, took, took_frames}
use Rattle.streaming.proofs.blocks.render_next.Goals as goal

pub render-requires-clause-block : goal.render-requires-clause-block
render-requires-clause-block g c κs within = (
  c.args.count,
  is_block c.args.from.now c.args.engine.now c.args.count c.take_in.new.into c.args.came.now c.requires.may.sound c.requires.may.come c.take_in.ensures.len c.requires.come
      (take (c.args.count * c.args.to.now.channels) c.args.went.now) c.requires.some c.requires.most c.in_ok-take_in.ensures.small
      (length-take-le (c.args.count * c.args.to.now.channels) c.args.went.now c.requires.go ∙ ap (λ m. c.args.count * m) (sym c.requires.may.go)),
)

pub render-requires-clause-count : goal.render-requires-clause-count
render-requires-clause-count g c κs within =
    subst (λ n. c.args.engine.now.frames + n < 2 ^ 63)
    (sym (took_frames c.args.from.now c.args.engine.now c.args.count c.take_in.new.into c.args.came.now c.requires.may.sound c.requires.may.come c.take_in.ensures.len c.requires.come))
    c.requires.frames

pub returns-clause-rendered : goal.returns-clause-rendered
returns-clause-rendered g c =
    let e = c.args.engine.now in
    let n = c.args.count * c.args.to.now.channels in
    let back : take n (c.render.new.output ++ drop n c.args.went.now) ≡ c.render.new.output = put_back n c.render.new.output c.args.went.now c.render.auto.output c.requires.go in
    let all : take (c.args.count * c.args.from.now.head.channels) (c.take_in.new.into ++ drop (c.args.count * c.args.from.now.head.channels) c.args.came.now) ≡ c.take_in.new.into =
    took c.args.from.now e c.args.count c.take_in.new.into c.args.came.now c.requires.may.sound c.requires.may.come c.take_in.ensures.len c.requires.come in (
      c.take_in.new.into,
      record {
        frames = c.in_ok-take_in.ensures.frames;
        long = c.take_in.ensures.len ∙ length-take-le (c.args.count * c.args.from.now.head.channels) c.args.came.now c.requires.come;
        gone = ap length back ∙ c.render.auto.output ∙ length-take-le n c.args.went.now c.requires.go ∙ ap (λ m. c.args.count * m) (sym c.requires.may.go);
        rendered = subst (λ xs. HasRendered e c.take_in.new.into xs c.render.new.self) (sym back)
            (subst (λ xs. HasRendered e xs c.render.new.output c.render.new.self) all c.render.ensures.rendered);
      },
    )

pub returns-clause-count : goal.returns-clause-count
returns-clause-count g c =
    c.render.ensures.count
    ∙ ap (λ n. c.args.engine.now.frames + n)
    (took_frames c.args.from.now c.args.engine.now c.args.count c.take_in.new.into c.args.came.now c.requires.may.sound c.requires.may.come c.take_in.ensures.len c.requires.come)
