use Rattle.std.proofs.Common.{◌<◌, ◌-◌, get_or, sym, subst, arith}
use Rattle.std.specs.Prelude.{IsSome}
use Rattle.std.proofs.lemmas.Option.{slice_get-get_or}
use Rattle.plan_model.specs.Flows.{arc_between}
use Rattle.plan_model.specs.declared.flow.Units.{Units}
use Rattle.plan_checker.specs.Networks.{difference}
use Rattle.plan_checker.proofs.FlowFacts.{arc_found, no_units, no_arc, first_arc, later_arc, comes_after, nothing_found, something_found, mapped_some, some_mapped}
use Rattle.plan_checker.proofs.SameTestFacts.{same_test}
use Rattle.plan_checker.proofs.flow.is_arc.Goals as goal

abbrev nothing : Units
nothing = record { tail = 0; head = 0; units = 0 }

pub returns-then-arc-eq0 : goal.returns-then-arc-eq0
returns-then-arc-eq0 c g latency is before =
    let arcs = c.args.arcs.now in
    no_units g latency arcs c.args.k (get_or arcs c.args.k nothing) (slice_get-get_or arcs c.args.k nothing c.requires) c.if-arc-eq0.true

pub returns-then-is_none : goal.returns-then-is_none
returns-then-is_none c g latency is before =
    let arcs = c.args.arcs.now in
    let e : Units = get_or arcs c.args.k nothing in
    no_arc g latency arcs c.args.k e (slice_get-get_or arcs c.args.k nothing c.requires)
    (λ some.
    nothing_found c.between.result _ c.between.ensures c.if-is_none.ensures
    (some_mapped difference _ (subst IsSome (arc_found g latency c.args.constraints.now is e.tail e.head) some)))

pub returns-then-k-eq0 : goal.returns-then-k-eq0
returns-then-k-eq0 c g latency is before =
    let arcs = c.args.arcs.now in
    let e : Units = get_or arcs c.args.k nothing in
    let some : IsSome (arc_between g latency e.tail e.head) = subst IsSome (sym (arc_found g latency c.args.constraints.now is e.tail e.head))
    (mapped_some difference _ (something_found c.between.result _ c.between.ensures c.if-is_none.ensures)) in
    first_arc g latency arcs c.args.k e (slice_get-get_or arcs c.args.k nothing c.requires) c.if-k-eq0.true some (omega (arith, c.if-arc-eq0.false))

pub returns : goal.returns
returns c g latency is before =
    let arcs = c.args.arcs.now in
    let k = c.args.k in
    let e : Units = get_or arcs k nothing in
    let d : Units = get_or arcs (k - 1) nothing in
    let later : 0 < k = omega (arith, c.if-k-eq0.false) in
    let at = slice_get-get_or arcs k nothing c.requires in
    let at_before = slice_get-get_or arcs (k - 1) nothing (omega (arith, c.requires)) in
    let some : IsSome (arc_between g latency e.tail e.head) = subst IsSome (sym (arc_found g latency c.args.constraints.now is e.tail e.head))
    (mapped_some difference _ (something_found c.between.result _ c.between.ensures c.if-is_none.ensures)) in
    same_test c.is_before.result c.is_before.ensures
    (λ order. later_arc g latency arcs k e at d later at_before (before (k - 1) (omega arith)) some (omega (arith, c.if-arc-eq0.false)) order)
    (comes_after g latency arcs k e at d later at_before)
