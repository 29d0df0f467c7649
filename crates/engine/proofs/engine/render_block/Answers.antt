use Rattle.std.proofs.Common.{◌/◌, ◌<◌, length, sym, ◌∙◌, ap, subst, arith}
use Rattle.std.proofs.lemmas.List.{get_or_default}
use Rattle.pool_waves.specs.declared.job.Job.{Job}
use Rattle.players.specs.declared.playing.Player.{Player}
use Rattle.plan_jobs.specs.Blocks.{CanRunBlock, BlockHasRun}
use Rattle.engine.proofs.BlockFacts.{may_run, may_leave, has_rendered}
use Rattle.engine.proofs.engine.render_block.Goals as goal

pub run_block-requires-after_bounds : goal.run_block-requires-after_bounds
run_block-requires-after_bounds g c κs within =
    subst (λ es. CanRunBlock c.args.input.now c.args.shape.now.ins es (length c.args.input.now / c.args.shape.now.ins) c.begin_all.new.jobs c.args.pool.now) (sym c.as_slice.ensures.value)
    (may_run c.args.frames c.args.shape.now c.args.jobs.now c.args.pool.now c.args.input.now c.args.output.now c.requires c.begin_all.new.jobs c.begin_all.ensures.len c.begin_all.ensures.each)

pub leave-requires-clause-lines : goal.leave-requires-clause-lines
leave-requires-clause-lines g c =
    may_leave c.args.frames c.args.shape.now c.args.jobs.now c.args.pool.now c.args.input.now c.args.output.now c.requires c.begin_all.new.jobs c.begin_all.ensures.len c.begin_all.ensures.each c.run_block.new.jobs c.run_block.new.pool
    (subst (λ es. BlockHasRun c.args.input.now c.args.shape.now.ins es (length c.args.input.now / c.args.shape.now.ins) c.begin_all.new.jobs c.args.pool.now c.run_block.new.jobs c.run_block.new.pool) c.as_slice.ensures.value c.run_block.ensures)
    c.index-jobs-shape.result

pub returns-clause-rendered : goal.returns-clause-rendered
returns-clause-rendered g c =
    let lt : c.args.shape.now.exit < length c.run_block.new.jobs = let e = c.requires.working.exit_in in omega (arith, c.run_block.ensures.jobs_len, c.begin_all.ensures.len) in
    has_rendered c.args.frames c.args.shape.now c.args.jobs.now c.args.pool.now c.args.input.now c.args.output.now c.requires c.begin_all.new.jobs c.begin_all.ensures.len c.begin_all.ensures.each c.run_block.new.jobs c.run_block.new.pool
    (subst (λ es. BlockHasRun c.args.input.now c.args.shape.now.ins es (length c.args.input.now / c.args.shape.now.ins) c.begin_all.new.jobs c.args.pool.now c.run_block.new.jobs c.run_block.new.pool) c.as_slice.ensures.value c.run_block.ensures)
    c.leave.new.output c.leave.auto.output
    (λ d e is. c.leave.ensures e (ap (λ (j : Job Player). j.part.server) (get_or_default c.run_block.new.jobs c.args.shape.now.exit c.index-jobs-shape.result d lt) ∙ is))
