use Rattle.plan_model.proofs.UniqueLaws.{values_are_unique as law}
use Rattle.plan_model.proofs.laws.values_are_unique.Goals as goal

pub returns : goal.returns
returns c = law
