use Rattle.std.proofs.Common.{◌∙◌, ◌+◌, ◌-◌, sym, pos}
use Rattle.shortest_paths.specs.Walks.{number_of}
use Rattle.alignment.proofs.StepFacts.{in_frames}
use Rattle.alignment.proofs.placed.delay.Goals as goal

pub returns-clause-value : goal.returns-clause-value
returns-clause-value c =
    let link = c.args.link.now in
    let early = number_of c.args.potentials.now link.tail in
    let ready = number_of c.args.potentials.now link.head in
    let timely = c.requires.timely in
    let between = in_frames early ready link.latency (c.requires.positions link.tail (pos 0) timely.tail).0 (c.requires.positions link.head (pos 0) timely.head).0 timely.after in
    (λ i. c.position-ready.ensures.at i - (c.position.ensures.at i + link.latency)) ∙ sym between.1
