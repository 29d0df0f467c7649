use Rattle.alignment.proofs.PointFacts.{not_there}
use Rattle.alignment.proofs.points.point_of.Goals as goal

pub returns-in-Err : goal.returns-in-Err
returns-in-Err c = not_there c.args.points.now c.args.uid c.binary_search.result c.in-Err.field-0 c.requires.rising c.binary_search.ensures.position c.in-Err.is
