use Rattle.delay_lines.proofs.ViewLaws.{views_agree}
use Rattle.delay_lines.proofs.laws.views_agree.Goals as goal

pub returns : goal.returns
returns c = views_agree
