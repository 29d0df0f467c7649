use Rattle.delay_lines.proofs.LineLaws.{delays_by_its_length}
use Rattle.delay_lines.proofs.laws.delays_by_its_length.Goals as goal

pub returns : goal.returns
returns c = delays_by_its_length
