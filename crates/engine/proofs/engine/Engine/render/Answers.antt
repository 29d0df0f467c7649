use Rattle.std.proofs.Common.{◌∙◌}
use Rattle.engine.proofs.RenderFacts.{take_left, may_render, now_works, now_rendered, now_orders, now_counts}
use Rattle.engine.proofs.engine.Engine.render.Goals as goal

pub render_block-count-requires-after_bounds : goal.render_block-count-requires-after_bounds
render_block-count-requires-after_bounds g c κs within =
    may_render c.self.inside.graph c.self.inside.plan c.self.inside.block c.self.inside.frames c.self.inside.shape c.self.inside.jobs.items c.self.inside.pool.items c.self.invariant.0 c.args.self.now c.self.view_is c.args.input.now c.args.output.now c.requires.block
    c.as_mut_slice.result.now c.as_mut_slice-2.result.now c.as_mut_slice.ensures.value c.as_mut_slice-2.ensures.value c.requires.count

pub invariant_of-self : goal.invariant_of-self
invariant_of-self g c = (
  now_works c.self.inside.graph c.self.inside.plan c.self.inside.block c.self.inside.frames c.self.inside.shape c.self.inside.jobs.items c.self.inside.pool.items c.self.invariant.0 c.args.self.now c.self.view_is c.args.input.now c.args.output.now c.requires.block
      c.as_mut_slice.result.now c.as_mut_slice-2.result.now c.as_mut_slice.ensures.value c.as_mut_slice-2.ensures.value
      c.render_block-count.new.jobs c.render_block-count.new.pool c.render_block-count.new.output c.render_block-count.ensures.rendered _ _
      (take_left c.render_block-count.new.jobs _ c.self.inside.jobs.len (c.render_block-count.ensures.rendered.jobs_len ∙ c.as_mut_slice.ensures.len))
      (take_left c.render_block-count.new.pool _ c.self.inside.pool.len (c.render_block-count.ensures.rendered.pool_len ∙ c.as_mut_slice-2.ensures.len))
      c.render_block-count.result c.render_block-count.ensures.count,
  c.self.invariant.1,
)

pub returns-clause-rendered : goal.returns-clause-rendered
returns-clause-rendered g c =
    now_rendered c.self.inside.graph c.self.inside.plan c.self.inside.block c.self.inside.frames c.self.inside.shape c.self.inside.jobs.items c.self.inside.pool.items c.self.invariant.0 c.args.self.now c.self.view_is c.args.input.now c.args.output.now c.requires.block
    c.as_mut_slice.result.now c.as_mut_slice-2.result.now c.as_mut_slice.ensures.value c.as_mut_slice-2.ensures.value
    c.render_block-count.new.jobs c.render_block-count.new.pool c.render_block-count.new.output c.render_block-count.ensures.rendered _ _
    (take_left c.render_block-count.new.jobs _ c.self.inside.jobs.len (c.render_block-count.ensures.rendered.jobs_len ∙ c.as_mut_slice.ensures.len))
    (take_left c.render_block-count.new.pool _ c.self.inside.pool.len (c.render_block-count.ensures.rendered.pool_len ∙ c.as_mut_slice-2.ensures.len))
    c.render_block-count.result c.render_block-count.ensures.count

pub returns-clause-orders : goal.returns-clause-orders
returns-clause-orders g c =
    now_orders c.self.inside.graph c.self.inside.plan c.self.inside.block c.self.inside.frames c.self.inside.shape c.self.inside.jobs.items c.self.inside.pool.items c.self.invariant.0 c.args.self.now c.self.view_is c.args.input.now c.args.output.now c.requires.block
    c.as_mut_slice.result.now c.as_mut_slice-2.result.now c.as_mut_slice.ensures.value c.as_mut_slice-2.ensures.value
    c.render_block-count.new.jobs c.render_block-count.new.pool c.render_block-count.new.output c.render_block-count.ensures.rendered _ _
    (take_left c.render_block-count.new.jobs _ c.self.inside.jobs.len (c.render_block-count.ensures.rendered.jobs_len ∙ c.as_mut_slice.ensures.len))
    (take_left c.render_block-count.new.pool _ c.self.inside.pool.len (c.render_block-count.ensures.rendered.pool_len ∙ c.as_mut_slice-2.ensures.len))
    c.render_block-count.result c.render_block-count.ensures.count

pub returns-clause-count : goal.returns-clause-count
returns-clause-count g c =
    now_counts c.self.inside.graph c.self.inside.plan c.self.inside.block c.self.inside.frames c.self.inside.shape c.self.inside.jobs.items c.self.inside.pool.items c.self.invariant.0 c.args.self.now c.self.view_is c.args.input.now c.args.output.now c.requires.block
    c.as_mut_slice.result.now c.as_mut_slice-2.result.now c.as_mut_slice.ensures.value c.as_mut_slice-2.ensures.value
    c.render_block-count.result c.render_block-count.ensures.count
