use Rattle.std.proofs.Common.{arith}
use Rattle.pool_waves.proofs.SwapFacts.{swapping_none, swapping_next, swapped}
use Rattle.pool_waves.proofs.exchanges.swap_values.Goals as goal

pub loop-o-init : goal.loop-o-init
loop-o-init c = swapping_none c.args.homes.now c.args.outs.now c.args.pool.now

pub loop-o-preserved : goal.loop-o-preserved
loop-o-preserved c =
    swapping_next c.args.homes.now c.args.outs.now c.args.pool.now c.loop-o.o c.loop-o.outs c.loop-o.pool _ c.swap.new.x c.swap.new.y c.index-pool-b.result c.index-outs-o.result
    c.requires.outs c.requires.within c.requires.distinct c.loop-o-test.true c.swap.ensures.x_after c.swap.ensures.y_after c.loop-o.invariant

pub returns : goal.returns
returns c = swapped c.args.homes.now c.args.outs.now c.args.pool.now c.loop-o.o c.loop-o.outs c.loop-o.pool (omega arith) (omega arith) c.loop-o.invariant
