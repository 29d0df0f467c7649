use Rattle.host_modes.proofs.EndOnceLaws.{compiled_is_yes}
use Rattle.host_modes.proofs.laws.compiled_is_yes.Goals as goal

pub returns : goal.returns
returns c = compiled_is_yes
