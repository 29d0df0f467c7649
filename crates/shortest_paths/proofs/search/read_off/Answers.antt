use Rattle.std.proofs.Common.{rules, ◌+◌, length, ap, ◌∙◌}
use Rattle.std.proofs.lemmas.List.{length-append}
use Rattle.shortest_paths.proofs.ReadFacts.{found_below, more_costs, more_lasts, read_cost}
use Rattle.shortest_paths.proofs.search.read_off.Goals as goal

pub loop-walk-preserved : goal.loop-walk-preserved
loop-walk-preserved c =
    let inv = c.loop-walk.invariant in
    let small = read_cost c.in-Some.walk.cost (c.requires.bounded c.loop-walk.walk-index c.in-Some.walk c.loop-walk-test.true c.in-Some.is) in
    record {
      least_len = ap length c.in_ok-push.ensures.ok ∙ length-append c.loop-walk.least _ ∙ ap (λ n. n + 1) inv.least_len;
      last_len = ap length c.in_ok-push-2.ensures.ok ∙ length-append c.loop-walk.last _ ∙ ap (λ n. n + 1) inv.last_len;
      costs = more_costs c.args.best.now c.in-Some.walk c.loop-walk.walk-index c.in-Some.is c.loop-walk.least c.push.new.self _ small inv.least_len c.in_ok-push.ensures.ok inv.costs;
      lasts = more_lasts c.args.best.now c.in-Some.walk c.loop-walk.walk-index c.in-Some.is c.loop-walk.last c.push-in-loop-walk.new.self inv.last_len c.in_ok-push-2.ensures.ok inv.lasts;
    }

pub returns-clause-read : goal.returns-clause-read
returns-clause-read c =
    let inv = c.loop-walk.invariant in
    record {
      costs = λ v b f. let below = found_below c.args.best.now v b f in inv.costs v b (search rules) f;
      lasts = λ v b f. let below = found_below c.args.best.now v b f in inv.lasts v b (search rules) f;
    }
