use Rattle.std.proofs.Common.{arith, subst, IfOk}
use Rattle.plan_model.specs.Buffers.{IsLeastChannels}
use Rattle.plan_compiler.proofs.WaveFacts.{few_waves, some_wave}
use Rattle.plan_compiler.proofs.shared.pooled.Goals as goal

pub overflow_cast-len : goal.overflow_cast-len
overflow_cast-len c = omega (arith, few_waves c.args.graph.now c.args.waves.now c.requires.sound c.requires.schedule, c.len.ensures)

pub assign-requires-clause-some_wave : goal.assign-requires-clause-some_wave
assign-requires-clause-some_wave c = omega (arith, some_wave c.args.graph.now c.args.waves.now c.requires.sound c.requires.schedule, c.len.ensures)

pub returns-clause-least : goal.returns-clause-least
returns-clause-least c = subst (λ lives. IfOk c.assign.result (λ h. IsLeastChannels lives h.channels)) c.in_ok-lives.ensures.lives c.assign.ensures.least
