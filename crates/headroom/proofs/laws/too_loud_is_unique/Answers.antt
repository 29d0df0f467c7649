use Rattle.headroom.proofs.LoudFacts.{too_loud_is_unique}
use Rattle.headroom.proofs.laws.too_loud_is_unique.Goals as goal

pub returns : goal.returns
returns c = too_loud_is_unique
