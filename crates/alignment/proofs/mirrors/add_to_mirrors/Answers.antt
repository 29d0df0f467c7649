use Rattle.std.proofs.Common.{◌<◌, length, sym, subst}
use Rattle.std.specs.List.{All, Contains}
use Rattle.plan_model.specs.Lives.{values}
use Rattle.alignment.specs.Values.{port, read_of}
use Rattle.alignment.specs.declared.links.Link.{Link}
use Rattle.alignment.proofs.ValueListFacts.{connections_there, values_read}
use Rattle.alignment.proofs.mirrors.add_to_mirrors.Goals as goal

pub mirror_of-requires-clause-there : goal.mirror_of-requires-clause-there
mirror_of-requires-clause-there c =
    subst (All (λ (l : Link). l.index < length c.args.graph.now.connections)) (sym c.requires.links) (connections_there c.args.graph.now c.args.points.now)
    c.loop-link.link-index (record { index = 0; tail = 0; head = 0; latency = 0 }) c.loop-link-test.true

pub mirror_of-requires-clause-read : goal.mirror_of-requires-clause-read
mirror_of-requires-clause-read c =
    subst (All (λ (l : Link). Contains (values c.args.graph.now) (port (read_of c.args.graph.now l)))) (sym c.requires.links) (values_read c.args.graph.now c.requires.sound c.args.points.now)
    c.loop-link.link-index (record { index = 0; tail = 0; head = 0; latency = 0 }) c.loop-link-test.true
