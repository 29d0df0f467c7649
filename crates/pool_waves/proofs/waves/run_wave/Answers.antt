use Rattle.pool_waves.proofs.WaveFacts.{ready1, outs_again, within_again, apart_again, wave_ran}
use Rattle.pool_waves.proofs.waves.run_wave.Goals as goal

pub run-requires-clause-ready : goal.run-requires-clause-ready
run-requires-clause-ready g c κs within =
    ready1 (g.P.Part.ready c.args.shared.now c.args.frames) (g.P.Part.done c.args.shared.now c.args.frames)
    c.args.pool.now c.args.jobs.now c.requires
    c.exchange.new.pool c.exchange.new.jobs c.exchange.ensures.exchanged c.exchange.ensures.parts

pub exchange-requires-2-clause-outs : goal.exchange-requires-2-clause-outs
exchange-requires-2-clause-outs g c =
    outs_again (g.P.Part.ready c.args.shared.now c.args.frames) (g.P.Part.done c.args.shared.now c.args.frames)
    c.args.pool.now c.args.jobs.now c.requires
    c.exchange.new.pool c.exchange.new.jobs c.exchange.ensures.exchanged c.exchange.ensures.parts
    c.run.new.jobs c.run.ensures.len c.run.ensures.done

pub exchange-requires-2-clause-within : goal.exchange-requires-2-clause-within
exchange-requires-2-clause-within g c =
    within_again (g.P.Part.ready c.args.shared.now c.args.frames) (g.P.Part.done c.args.shared.now c.args.frames)
    c.args.pool.now c.args.jobs.now c.requires
    c.exchange.new.pool c.exchange.new.jobs c.exchange.ensures.exchanged c.exchange.ensures.parts
    c.run.new.jobs c.run.ensures.len c.run.ensures.done

pub exchange-requires-2-clause-apart : goal.exchange-requires-2-clause-apart
exchange-requires-2-clause-apart g c =
    apart_again (g.P.Part.ready c.args.shared.now c.args.frames) (g.P.Part.done c.args.shared.now c.args.frames)
    c.args.pool.now c.args.jobs.now c.requires
    c.exchange.new.pool c.exchange.new.jobs c.exchange.ensures.exchanged c.exchange.ensures.parts
    c.run.new.jobs c.run.ensures.len c.run.ensures.done

pub returns : goal.returns
returns g c =
    wave_ran (g.P.Part.ready c.args.shared.now c.args.frames) (g.P.Part.done c.args.shared.now c.args.frames)
    c.args.pool.now c.args.jobs.now c.requires
    c.exchange.new.pool c.exchange.new.jobs c.exchange.ensures.exchanged c.exchange.ensures.parts
    c.run.new.jobs c.run.ensures.len c.run.ensures.done
    c.exchange-2.new.pool c.exchange-2.new.jobs c.exchange-2.ensures.exchanged c.exchange-2.ensures.parts
