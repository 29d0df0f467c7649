use Rattle.delay_lines.proofs.LineLaws.{passes_on}
use Rattle.delay_lines.proofs.laws.passes_on.Goals as goal

pub returns : goal.returns
returns c = passes_on
