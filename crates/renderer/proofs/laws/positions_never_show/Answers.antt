use Rattle.plan_model.proofs.ShiftLaws.{positions_never_show}
use Rattle.renderer.proofs.laws.positions_never_show.Goals as goal

pub returns : goal.returns
returns c = positions_never_show
