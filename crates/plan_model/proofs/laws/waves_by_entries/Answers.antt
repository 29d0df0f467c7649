use Rattle.plan_model.proofs.WaveLaws.{waves_by_entries as law}
use Rattle.plan_model.proofs.laws.waves_by_entries.Goals as goal

pub returns : goal.returns
returns c = law
