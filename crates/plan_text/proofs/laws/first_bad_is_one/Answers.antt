use Rattle.plan_text.proofs.OnceLaws.{first_bad_is_one as law}
use Rattle.plan_text.proofs.laws.first_bad_is_one.Goals as goal

pub returns : goal.returns
returns c = law
