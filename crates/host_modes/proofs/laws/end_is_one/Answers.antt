use Rattle.host_modes.proofs.EndOnceLaws.{end_is_one}
use Rattle.host_modes.proofs.laws.end_is_one.Goals as goal

pub returns : goal.returns
returns c = end_is_one
