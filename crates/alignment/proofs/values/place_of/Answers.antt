use Rattle.alignment.specs.contracts.values.ValueOrd.TheImpl.Laws.{total-law}
use Rattle.alignment.proofs.ValueListFacts.{value_found, value_not_there}
use Rattle.alignment.proofs.values.place_of.Goals as goal

pub returns-in-Ok : goal.returns-in-Ok
returns-in-Ok c = (c.in-Ok.ensures.bound, λ d. value_found total-law c.args.values.now c.args.value.now c.binary_search.result c.in-Ok.place c.binary_search.ensures.position c.in-Ok.is d)

pub returns-in-Err : goal.returns-in-Err
returns-in-Err c = value_not_there total-law c.args.values.now c.args.value.now c.binary_search.result c.in-Err.field-0 c.requires.rising c.binary_search.ensures.position c.in-Err.is
