use Rattle.std.proofs.Common.{rules, ◌≡◌, get_or}
use Rattle.connections.proofs.EndFacts.{kept_ends}
use Rattle.connections.proofs.checked.Checked.ends.Goals as goal

pub returns-clause-source : goal.returns-clause-source
returns-clause-source c =
    let is : c.index.result.now ≡ get_or c.self.inside.links.items c.args.connection c.index.result.now = search rules in
    (kept_ends c.args.self.now c.self.inside.graph c.self.inside.links.items c.args.connection c.index.result.now c.self.view_is c.self.invariant.links c.requires is).source

pub returns-clause-destination : goal.returns-clause-destination
returns-clause-destination c =
    let is : c.index.result.now ≡ get_or c.self.inside.links.items c.args.connection c.index.result.now = search rules in
    (kept_ends c.args.self.now c.self.inside.graph c.self.inside.links.items c.args.connection c.index.result.now c.self.view_is c.self.invariant.links c.requires is).destination
