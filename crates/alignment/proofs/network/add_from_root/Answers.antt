use Rattle.std.proofs.Common.{◌≡◌, ◌-◌, ◌++◌, ◌∙◌, ap, map, arith}
use Rattle.std.specs.List.{range_with_len}
use Rattle.alignment.specs.Links.{arc_from_root}
use Rattle.alignment.proofs.StepFacts.{from_root-more}
use Rattle.alignment.proofs.network.add_from_root.Goals as goal

pub loop-point-preserved : goal.loop-point-preserved
loop-point-preserved c = record {
  some = omega arith;
  made = c.in_ok-push.ensures.items ∙ from_root-more c.args.arcs.now.items c.loop-point.arcs.items c.loop-point.point c.loop-point.auto.point c.loop-point.invariant.made;
}

pub returns : goal.returns
returns c =
    let all : c.loop-point.point ≡ c.args.points = omega (arith, c.loop-point-test.false, c.loop-point.auto.point-end c.requires.some) in
    c.loop-point.invariant.made ∙ ap (λ k. c.args.arcs.now.items ++ map arc_from_root (range_with_len 1 (k - 1))) all
