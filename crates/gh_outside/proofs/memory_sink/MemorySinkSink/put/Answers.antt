use Rattle.std.proofs.Common.{length, ◌/◌, arith, rules}
use Rattle.std.proofs.lemmas.Grind.{common_steps}
use Rattle.gh_outside.proofs.memory_sink.MemorySinkSink.put.Goals as goal

-- half of the piece
pub returns-then-listed-clause-failed : goal.returns-then-listed-clause-failed
returns-then-listed-clause-failed c = (length c.args.piece.now / 2, first_of (search rules, grind (arith, common_steps)))
