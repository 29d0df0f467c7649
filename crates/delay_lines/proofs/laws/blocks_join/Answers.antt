use Rattle.delay_lines.proofs.LineLaws.{blocks_join}
use Rattle.delay_lines.proofs.laws.blocks_join.Goals as goal

pub returns : goal.returns
returns c = blocks_join
