use Rattle.std.proofs.Common.{arith, rules}
use Rattle.plan_jobs.proofs.TurnFacts.{turning_none, turning_more, turn_ready, bounds_of, block_has_run}
use Rattle.plan_jobs.proofs.block.run_block.Goals as goal

pub loop-end-init : goal.loop-end-init
loop-end-init g c = turning_none c.args.stage.now.input.now c.args.stage.now.channels c.args.ends.now c.args.frames c.args.jobs.now c.args.pool.now c.requires

pub offset_bounds-jobs-start : goal.offset_bounds-jobs-start
offset_bounds-jobs-start g c =
    let b = bounds_of c.args.stage.now.input.now c.args.stage.now.channels c.args.ends.now c.args.frames c.args.jobs.now c.args.pool.now c.requires c.loop-end.end-index c.loop-end.start c.loop-end.jobs c.loop-end.pool c.loop-end-test.true c.loop-end.invariant in
    let x = b.0 in let y = b.1 in let z = b.2 in record { fits = omega arith }

pub slice_bounds-run_wave-count : goal.slice_bounds-run_wave-count
slice_bounds-run_wave-count g c = (bounds_of c.args.stage.now.input.now c.args.stage.now.channels c.args.ends.now c.args.frames c.args.jobs.now c.args.pool.now c.requires c.loop-end.end-index c.loop-end.start c.loop-end.jobs c.loop-end.pool c.loop-end-test.true c.loop-end.invariant).0

pub slice_bounds-run_wave-start : goal.slice_bounds-run_wave-start
slice_bounds-run_wave-start g c =
    let b = bounds_of c.args.stage.now.input.now c.args.stage.now.channels c.args.ends.now c.args.frames c.args.jobs.now c.args.pool.now c.requires c.loop-end.end-index c.loop-end.start c.loop-end.jobs c.loop-end.pool c.loop-end-test.true c.loop-end.invariant in
    let x = b.0 in let y = b.1 in search rules

pub slice_bounds-run_wave-end : goal.slice_bounds-run_wave-end
slice_bounds-run_wave-end g c =
    let b = bounds_of c.args.stage.now.input.now c.args.stage.now.channels c.args.ends.now c.args.frames c.args.jobs.now c.args.pool.now c.requires c.loop-end.end-index c.loop-end.start c.loop-end.jobs c.loop-end.pool c.loop-end-test.true c.loop-end.invariant in
    let x = b.0 in let y = b.1 in search rules

pub run_wave-requires-after_bounds : goal.run_wave-requires-after_bounds
run_wave-requires-after_bounds g c κs within = turn_ready c.args.stage.now.input.now c.args.stage.now.channels c.args.ends.now c.args.frames c.args.jobs.now c.args.pool.now c.requires c.loop-end.end-index c.loop-end.start c.loop-end.jobs c.loop-end.pool c.loop-end-test.true c.loop-end.invariant

pub loop-end-preserved : goal.loop-end-preserved
loop-end-preserved g c = turning_more c.args.stage.now.input.now c.args.stage.now.channels c.args.ends.now c.args.frames c.args.jobs.now c.args.pool.now c.requires c.loop-end.end-index c.loop-end.start c.loop-end.jobs c.loop-end.pool c.loop-end-test.true c.loop-end.invariant c.run_wave.new.jobs c.run_wave.new.pool c.run_wave.ensures

pub returns : goal.returns
returns g c = block_has_run c.args.stage.now.input.now c.args.stage.now.channels c.args.ends.now c.args.frames c.args.jobs.now c.args.pool.now c.requires c.loop-end.end-index c.loop-end.start c.loop-end.jobs c.loop-end.pool (omega arith) c.loop-end.invariant
