use Rattle.std.proofs.Common.{◌≡◌, ◌<◌, ◌≤◌, pos, neg_ℤ, ◌+ℤ◌, ◌-ℤ◌, ◌≤ℤ◌, set, sym, subst, arith, w64}
use Rattle.std.proofs.lemmas.Int.{ints, fits_signed_from_abs}
use Rattle.shortest_paths.specs.Walks.{number_of}
use Rattle.min_cost_flow.specs.Solve.{IsMeeting, wanted}
use Rattle.min_cost_flow.proofs.SolveFacts.{within_needs_of, most_some, wanted_falls, room_for, fits, IsMeeting-next}
use Rattle.min_cost_flow.proofs.augment.augment_reached.Goals as goal

pub send-units-requires-clause-room : goal.send-units-requires-clause-room
send-units-requires-clause-room c =
    let w = within_needs_of c.args.net.now c.args.flow.now c.args.unmet.now c.args.walks.now.from c.args.to c.unmet_at_both-most.result c.unmet_at_both-most.result c.requires.meeting c.requires.from c.requires.to (c.is_unmet_at_both.ensures.0 c.if-is_unmet_at_both.true) c.unmet_at_both-most.ensures (omega arith) in
    room_for c.args.net.now c.args.flow.now c.args.unmet.now c.args.walks.now.from c.args.to c.unmet_at_both-most.result c.requires.meeting w

pub send-units-requires-clause-some : goal.send-units-requires-clause-some
send-units-requires-clause-some c =
    let both = c.is_unmet_at_both.ensures.0 c.if-is_unmet_at_both.true in
    let each = c.requires.meeting.unmet_each in
    let lf = c.requires.from in
    let lt = c.requires.to in
    most_some c.args.unmet.now c.args.walks.now.from c.args.to c.unmet_at_both-most.result (omega (arith, each, lf), both.0) (omega (arith, each, lt), both.1) c.unmet_at_both-most.ensures

pub overflow_cast-units : goal.overflow_cast-units
overflow_cast-units c =
    let w = within_needs_of c.args.net.now c.args.flow.now c.args.unmet.now c.args.walks.now.from c.args.to c.unmet_at_both-most.result c.send-units.result c.requires.meeting c.requires.from c.requires.to (c.is_unmet_at_both.ensures.0 c.if-is_unmet_at_both.true) c.unmet_at_both-most.ensures c.send-units.ensures.most in
    fits_signed_from_abs w64 (pos c.send-units.result) (let r = room_for c.args.net.now c.args.flow.now c.args.unmet.now c.args.walks.now.from c.args.to c.send-units.result c.requires.meeting w 0 in omega (arith, r))

pub count_sent-requires : goal.count_sent-requires
count_sent-requires c =
    let u = c.args.unmet.now in
    let from = c.args.walks.now.from in
    let w = within_needs_of c.args.net.now c.args.flow.now u from c.args.to c.unmet_at_both-most.result c.send-units.result c.requires.meeting c.requires.from c.requires.to (c.is_unmet_at_both.ensures.0 c.if-is_unmet_at_both.true) c.unmet_at_both-most.ensures c.send-units.ensures.most in
    let fit = sym (fits c.args.net.now c.args.flow.now u from c.args.to c.send-units.result c.requires.meeting w) in
    record {
      from = w.from_in;
      to = w.to_in;
      some = subst (λ z. pos 0 ≤ℤ z) fit (omega (arith, ints));
      below = subst (λ z. number_of u from ≤ℤ neg_ℤ z) fit w.below;
      above = subst (λ z. z ≤ℤ number_of u c.args.to) fit w.above;
    }

pub returns-then-is_unmet_at_both-clause-meeting : goal.returns-then-is_unmet_at_both-clause-meeting
returns-then-is_unmet_at_both-clause-meeting c =
    let net = c.args.net.now in
    let u = c.args.unmet.now in
    let from = c.args.walks.now.from in
    let w = within_needs_of net c.args.flow.now u from c.args.to c.unmet_at_both-most.result c.send-units.result c.requires.meeting c.requires.from c.requires.to (c.is_unmet_at_both.ensures.0 c.if-is_unmet_at_both.true) c.unmet_at_both-most.ensures c.send-units.ensures.most in
    let fit = fits net c.args.flow.now u from c.args.to c.send-units.result c.requires.meeting w in
    let counted = subst (λ z. c.count_sent.new.unmet ≡ set (set u from (number_of u from +ℤ z)) c.args.to (number_of u c.args.to -ℤ z)) fit c.count_sent.ensures in
    subst (λ x. IsMeeting net c.send-units.new.flow x) (sym counted)
    (IsMeeting-next net c.args.flow.now u from c.args.to c.send-units.result c.requires.meeting w c.send-units.new.flow c.send-units.auto.flow c.send-units.ensures.sent
    (λ k. let b = c.send-units.ensures.bound k in omega (arith, b)))

pub returns-then-is_unmet_at_both-clause-no_more : goal.returns-then-is_unmet_at_both-clause-no_more
returns-then-is_unmet_at_both-clause-no_more c =
    let u = c.args.unmet.now in
    let from = c.args.walks.now.from in
    let w = within_needs_of c.args.net.now c.args.flow.now u from c.args.to c.unmet_at_both-most.result c.send-units.result c.requires.meeting c.requires.from c.requires.to (c.is_unmet_at_both.ensures.0 c.if-is_unmet_at_both.true) c.unmet_at_both-most.ensures c.send-units.ensures.most in
    let fit = fits c.args.net.now c.args.flow.now u from c.args.to c.send-units.result c.requires.meeting w in
    let counted = subst (λ z. c.count_sent.new.unmet ≡ set (set u from (number_of u from +ℤ z)) c.args.to (number_of u c.args.to -ℤ z)) fit c.count_sent.ensures in
    let falls = wanted_falls c.args.net.now c.args.flow.now u from c.args.to c.send-units.result c.requires.meeting w in
    subst (λ x. wanted x ≤ wanted u) (sym counted) (omega (arith, falls))

pub returns-then-is_unmet_at_both-clause-fewer : goal.returns-then-is_unmet_at_both-clause-fewer
returns-then-is_unmet_at_both-clause-fewer c searched below above =
    let u = c.args.unmet.now in
    let from = c.args.walks.now.from in
    let w = within_needs_of c.args.net.now c.args.flow.now u from c.args.to c.unmet_at_both-most.result c.send-units.result c.requires.meeting c.requires.from c.requires.to (c.is_unmet_at_both.ensures.0 c.if-is_unmet_at_both.true) c.unmet_at_both-most.ensures c.send-units.ensures.most in
    let fit = fits c.args.net.now c.args.flow.now u from c.args.to c.send-units.result c.requires.meeting w in
    let counted = subst (λ z. c.count_sent.new.unmet ≡ set (set u from (number_of u from +ℤ z)) c.args.to (number_of u c.args.to -ℤ z)) fit c.count_sent.ensures in
    let falls = wanted_falls c.args.net.now c.args.flow.now u from c.args.to c.send-units.result c.requires.meeting w in
    let some = c.send-units.ensures.some searched in
    subst (λ x. wanted x < wanted u) (sym counted) (omega (arith, falls, some))
