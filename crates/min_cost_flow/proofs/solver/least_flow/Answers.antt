use Rattle.std.proofs.Common.{Option, ℕ, ◌<◌, pos, ◌≤ℤ◌, ◌<ℤ◌, ◌++◌, length, take, drop, sym, ap, ◌∙◌, subst, arith, replicate}
use Rattle.std.specs.List.{All}
use Rattle.std.specs.Option.{MatchOption}
use Rattle.std.proofs.lemmas.Int.{ints}
use Rattle.shortest_paths.specs.Walks.{number_of}
use Rattle.min_cost_flow.specs.Search.{IsReady}
use Rattle.min_cost_flow.specs.Solve.{IsMeeting}
use Rattle.min_cost_flow.proofs.SolveFacts.{IsMeeting-first, none_above, none_below, MeetsNeeds-from_zeros, first_deficit, written_back}
use Rattle.min_cost_flow.proofs.solver.least_flow.Goals as goal
use Rattle.min_cost_flow.proofs.solver.least_flow.Goals.{in_default, in_default-2}

pub augment_admissible-requires-clause-meeting : goal.augment_admissible-requires-clause-meeting
augment_admissible-requires-clause-meeting c =
    subst (λ x. IsMeeting c.args.net.now c.deref_mut.result.now x) (sym (c.deref_mut-2.ensures.value ∙ c.in_ok-unmet.ensures.items ∙ c.as_slice.ensures))
    (IsMeeting-first c.args.net.now c.deref_mut.result.now c.len.result c.requires.network c.len.ensures (c.deref_mut.ensures.value ∙ c.in_ok-flow.ensures))

pub augment_admissible-requires-clause-ready : goal.augment_admissible-requires-clause-ready
augment_admissible-requires-clause-ready c =
    subst (λ x. IsReady c.args.net.now x c.args.walks.now) (sym (c.deref_mut.ensures.value ∙ c.in_ok-flow.ensures ∙ ap (λ n. replicate n 0) c.len.ensures)) c.requires.ready

pub loop-from-init : goal.loop-from-init
loop-from-init c =
    let net = c.args.net.now in
    let old_flow = c.in_ok-flow.flow in
    let old_unmet = c.in_ok-unmet.unmet in
    let flow = c.augment_admissible.new.flow in
    let unmet = c.augment_admissible.new.unmet in
    let flow_is = written_back old_flow.len flow old_flow.items (c.augment_admissible.auto.flow ∙ c.deref_mut.ensures.len) in
    let unmet_is = written_back old_unmet.len unmet old_unmet.items (c.augment_admissible.auto.unmet ∙ c.deref_mut-2.ensures.len) in
    record {
      meeting =
          subst (λ x. IsMeeting net x (take old_unmet.len (unmet ++ drop (length unmet) old_unmet.items))) (sym flow_is)
          (subst (λ x. IsMeeting net flow x) (sym unmet_is) c.in_ok-augment_admissible.ensures.meeting);
      ready = subst (λ x. IsReady net x c.args.walks.now) (sym flow_is) c.in_ok-augment_admissible.ensures.ready;
    }

pub augment_all-requires-clause-linked : goal.augment_all-requires-clause-linked
augment_all-requires-clause-linked c =
    let from = c.in-Some-Some.from in
    let to = c.in-Some-Some.to in
    let unmet = c.deref-in-Some-Some-3.result.now in
    let searched = sym c.deref-in-Some-Some-3.ensures.value in
    let each = c.loop-from.invariant.meeting.unmet_each in
    let len = ap length c.deref-in-loop-from-2.ensures.value in
    let l = c.in-Some-Some.ensures'.0 in
    let above = subst (λ x. pos 0 <ℤ number_of x to) (c.deref-in-loop-from-2.ensures.value ∙ searched) c.in-Some-Some.ensures'.1 in
    let below = subst (λ x. number_of x from <ℤ pos 0) (c.deref.ensures.value ∙ searched) c.in-Some-Some.ensures.1 in
    (first_deficit c.args.net.now.points from to c.first_reached-first.result unmet c.search_from.new.walks.search.last.items c.in_ok-stop.stop c.in_ok-stop.ensures.stop
    c.first_reached-first.ensures.some c.first_reached-first.ensures.none (omega (arith, l, len, each)) above below).2

pub returns-clause-meets : goal.returns-clause-meets
returns-clause-meets c =
    let inv = c.loop-from.invariant.meeting in
    let total = inv.balanced in
    elim c.match-excess_point.branch [
      | in_default w ↦
          let a = subst (λ x. All (λ y. y ≤ℤ pos 0) x) c.deref-in-loop-from-2.ensures.value w.in_default.ensures' in
          MeetsNeeds-from_zeros c.args.net.now c.loop-from.flow.items c.loop-from.unmet.items inv (none_below c.loop-from.unmet.items a (omega (arith, ints, total)))
      | in_default-2 w ↦
          let unmet = c.deref.result.now in
          let none_left = subst (λ (x : Option ℕ). MatchOption x (All (λ y. pos 0 ≤ℤ y) unmet) (λ v. (v < length unmet) × (number_of unmet v <ℤ pos 0))) w.in_default.is-0 c.excess_point.ensures in
          let a = subst (λ x. All (λ y. pos 0 ≤ℤ y) x) c.deref.ensures.value none_left in
          MeetsNeeds-from_zeros c.args.net.now c.loop-from.flow.items c.loop-from.unmet.items inv (none_above c.loop-from.unmet.items a (omega (arith, ints, total)))
    ]
