use Rattle.std.proofs.Common.{◌≡◌, ◌<◌, ◌+ℤ◌, ◌-ℤ◌, ◌≤ℤ◌, pos, length, length-set, set, sym, subst, ◌∙◌, arith, w64}
use Rattle.std.proofs.lemmas.Int.{ints, fits_signed_from_abs}
use Rattle.shortest_paths.specs.Walks.{number_of}
use Rattle.min_cost_flow.specs.Solve.{IsMeeting, wanted}
use Rattle.min_cost_flow.proofs.SolveFacts.{within_needs_of, most_some, wanted_falls, room_for, fits, IsMeeting-next}
use Rattle.min_cost_flow.proofs.AdmissibleFacts.{current_set, leaves_newest, ready_with, short_sum}
use Rattle.min_cost_flow.proofs.admissible.empty_out.Goals as goal

pub loop-trail-init : goal.loop-trail-init
loop-trail-init c =
    let t = c.args.trail.now in
    let w = c.args.walks.now in
    let trail = c.requires.trail in
    let each = trail.current_each in
    let l = c.requires.from in
    record {
      meeting = c.requires.meeting;
      ready = c.requires.ready;
      trail = record {
        current_each = length-set t.current.items c.args.from c.newest.result ∙ each;
        marks_each = trail.marks_each;
        current = current_set w.residual.edges.items t.current.items c.args.from c.newest.result (omega (arith, l, each)) trail.current
            (λ k is. leaves_newest c.args.net.now.points w.residual.edges.items w.leaving c.args.from k c.requires.ready.leaving l (sym c.newest.ensures ∙ is));
      };
    }

pub unmet_at_both-units-requires-clause-to : goal.unmet_at_both-units-requires-clause-to
unmet_at_both-units-requires-clause-to c =
    let l = (c.in_ok-to.ensures.deficit c.in-Some.to c.in-Some.is).0 in
    let each = c.loop-trail.invariant.meeting.unmet_each in
    omega (arith, l, each)

pub send-requires-clause-path : goal.send-requires-clause-path
send-requires-clause-path c = (c.args.from, c.in-Some.to, c.in_ok-to.ensures.path c.in-Some.to c.in-Some.is)

pub send-requires-clause-room : goal.send-requires-clause-room
send-requires-clause-room c k =
    let net = c.args.net.now in
    let u = c.loop-trail.unmet in
    let units = c.unmet_at_both-units.result in
    let meeting = c.loop-trail.invariant.meeting in
    let deficit = c.in_ok-to.ensures.deficit c.in-Some.to c.in-Some.is in
    let w = within_needs_of net c.loop-trail.flow u c.args.from c.in-Some.to units units meeting c.requires.from deficit.0 (c.has_excess.ensures c.loop-trail-test.true, deficit.1) c.unmet_at_both-units.ensures (omega arith) in
    let falls = wanted_falls net c.loop-trail.flow u c.args.from c.in-Some.to units meeting w in
    let room = meeting.room k in
    let sum = short_sum units (length c.find.new.self.path.items) c.in_ok-to.ensures.short in
    omega (arith, falls, room, sum)

pub overflow_cast-units : goal.overflow_cast-units
overflow_cast-units c =
    let net = c.args.net.now in
    let u = c.loop-trail.unmet in
    let units = c.unmet_at_both-units.result in
    let meeting = c.loop-trail.invariant.meeting in
    let deficit = c.in_ok-to.ensures.deficit c.in-Some.to c.in-Some.is in
    let w = within_needs_of net c.loop-trail.flow u c.args.from c.in-Some.to units units meeting c.requires.from deficit.0 (c.has_excess.ensures c.loop-trail-test.true, deficit.1) c.unmet_at_both-units.ensures (omega arith) in
    fits_signed_from_abs w64 (pos units) (let r = room_for net c.loop-trail.flow u c.args.from c.in-Some.to units meeting w 0 in omega (arith, r))

pub count_sent-requires-clause-some : goal.count_sent-requires-clause-some
count_sent-requires-clause-some c =
    let net = c.args.net.now in
    let u = c.loop-trail.unmet in
    let units = c.unmet_at_both-units.result in
    let meeting = c.loop-trail.invariant.meeting in
    let deficit = c.in_ok-to.ensures.deficit c.in-Some.to c.in-Some.is in
    let w = within_needs_of net c.loop-trail.flow u c.args.from c.in-Some.to units units meeting c.requires.from deficit.0 (c.has_excess.ensures c.loop-trail-test.true, deficit.1) c.unmet_at_both-units.ensures (omega arith) in
    subst (λ z. pos 0 ≤ℤ z) (sym (fits net c.loop-trail.flow u c.args.from c.in-Some.to units meeting w)) (omega (arith, ints))

pub loop-trail-smaller : goal.loop-trail-smaller
loop-trail-smaller c =
    let net = c.args.net.now in
    let u = c.loop-trail.unmet in
    let from = c.args.from in
    let to = c.in-Some.to in
    let units = c.unmet_at_both-units.result in
    let meeting = c.loop-trail.invariant.meeting in
    let each = meeting.unmet_each in
    let lf = c.requires.from in
    let deficit = c.in_ok-to.ensures.deficit to c.in-Some.is in
    let lt = deficit.0 in
    let w = within_needs_of net c.loop-trail.flow u from to units units meeting lf lt (c.has_excess.ensures c.loop-trail-test.true, deficit.1) c.unmet_at_both-units.ensures (omega arith) in
    let fit = fits net c.loop-trail.flow u from to units meeting w in
    let counted = subst (λ z. c.count_sent.new.unmet ≡ set (set u from (number_of u from +ℤ z)) to (number_of u to -ℤ z)) fit c.count_sent.ensures in
    let falls = wanted_falls net c.loop-trail.flow u from to units meeting w in
    let some = most_some u from to units (omega (arith, each, lf), c.has_excess.ensures c.loop-trail-test.true) (omega (arith, each, lt), deficit.1) c.unmet_at_both-units.ensures in
    subst (λ x. wanted x < wanted u) (sym counted) (omega (arith, falls, some))

pub loop-trail-preserved : goal.loop-trail-preserved
loop-trail-preserved c =
    let net = c.args.net.now in
    let flow = c.loop-trail.flow in
    let u = c.loop-trail.unmet in
    let from = c.args.from in
    let to = c.in-Some.to in
    let units = c.unmet_at_both-units.result in
    let meeting = c.loop-trail.invariant.meeting in
    let ready = c.loop-trail.invariant.ready in
    let deficit = c.in_ok-to.ensures.deficit to c.in-Some.is in
    let w = within_needs_of net flow u from to units units meeting c.requires.from deficit.0 (c.has_excess.ensures c.loop-trail-test.true, deficit.1) c.unmet_at_both-units.ensures (omega arith) in
    let fit = fits net flow u from to units meeting w in
    let counted = subst (λ z. c.count_sent.new.unmet ≡ set (set u from (number_of u from +ℤ z)) to (number_of u to -ℤ z)) fit c.count_sent.ensures in
    record {
      meeting = subst (λ x. IsMeeting net c.send.new.flow x) (sym counted)
          (IsMeeting-next net flow u from to units meeting w c.send.new.flow c.send.auto.flow (c.send.ensures.sent from to (c.in_ok-to.ensures.path to c.in-Some.is))
          (λ k. let bound = c.send.ensures.bound k in let sum = short_sum units (length c.find.new.self.path.items) c.in_ok-to.ensures.short in omega (arith, bound, sum)));
      ready = ready_with net flow c.send.new.flow c.args.walks.now ready (c.send.ensures.tight ready.tight);
      trail = c.send.ensures.trail;
    }
