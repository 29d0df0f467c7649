use Rattle.std.proofs.Common.{arith}
use Rattle.plan_checker.proofs.ScheduleFacts.{few_waves}
use Rattle.plan_checker.proofs.judged.judge_peak.Goals as goal

pub overflow_cast-len : goal.overflow_cast-len
overflow_cast-len c = let few = few_waves c.args.g.now c.args.plan.now.waves c.requires.sound.fits c.requires.waves in let size = c.len.ensures in omega arith
