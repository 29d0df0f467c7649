use Rattle.players.proofs.ScatterFacts.{Scattering}
use Rattle.players.proofs.scattering.scatter.Given as goal

abbrev pub invariant-loop-o : goal.invariant-loop-o
invariant-loop-o l = Scattering l.homes l.told l.first l.count l.fn.outs l.o l.outs
