use Rattle.headroom.proofs.LoudFacts.{too_loud_refutes}
use Rattle.headroom.proofs.laws.too_loud_refutes.Goals as goal

pub returns : goal.returns
returns c = too_loud_refutes
