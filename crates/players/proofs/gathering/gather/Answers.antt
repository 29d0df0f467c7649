use Rattle.std.proofs.Common.{◌+◌, ◌<◌, length, get_or, sym, subst, ◌∙◌, arith, None, false}
use Rattle.std.specs.Int.{w64}
use mir.Val.{SFits}
use Rattle.std.proofs.lemmas.List.{get_or_default}
use Rattle.players.specs.declared.gathering.Wire.{Wire}
use Rattle.players.proofs.GatherFacts.{part_is, part_len, samples_len, gathering_more, gathered_lines, gathered_sums, next_sum}
use Rattle.players.proofs.gathering.gather.Goals as goal

abbrev no_wire : Wire
no_wire = record { channel = 0; buffer = 0; own = None; first = false }

pub pour_row-requires-clause-fit : goal.pour_row-requires-clause-fit
pour_row-requires-clause-fit c = λ t small.
    let lt : c.loop-i.i < length c.loop-i.lines = omega (arith, c.loop-i.invariant.lines_len, c.requires.lines) in
    let few : t < c.args.count = let z = part_len c.args.first c.args.count c.as_slice.result.now in omega arith in
    subst (SFits w64) (sym (next_sum c.args.wires.now c.args.silent.now c.args.pool.now c.args.outs.now c.args.first c.args.count c.args.lines.now (length c.args.sums.now) c.loop-i.i c.loop-i.lines c.loop-i.sums
    no_wire (get_or c.loop-i.lines c.loop-i.i c.index-lines-i.result) _ c.requires.lines c.loop-i-test.true c.requires.first (c.requires.channels c.loop-i.i no_wire c.loop-i-test.true)
    (get_or_default c.loop-i.lines c.loop-i.i c.index-lines-i.result _ lt) (part_is c.args.first c.args.count c.as_slice.result.now _ (c.as_slice.ensures ∙ c.source.ensures)) c.loop-i.invariant t few))
    (c.requires.fit t few (get_or c.args.wires.now c.loop-i.i no_wire).channel (c.loop-i.i + 1))

pub loop-i-preserved : goal.loop-i-preserved
loop-i-preserved c =
    let lt : c.loop-i.i < length c.loop-i.lines = omega (arith, c.loop-i.invariant.lines_len, c.requires.lines) in
    gathering_more c.args.wires.now c.args.silent.now c.args.pool.now c.args.outs.now c.args.first c.args.count c.args.lines.now (length c.args.sums.now) c.loop-i.i c.loop-i.lines c.loop-i.sums
    no_wire (get_or c.loop-i.lines c.loop-i.i c.index-lines-i.result) _ c.requires.lines c.loop-i-test.true c.requires.first (c.requires.channels c.loop-i.i no_wire c.loop-i-test.true)
    (get_or_default c.loop-i.lines c.loop-i.i c.index-lines-i.result _ lt) (part_is c.args.first c.args.count c.as_slice.result.now _ (c.as_slice.ensures ∙ c.source.ensures)) c.loop-i.invariant
    c.pour_row.new.line c.pour_row.new.sums
    (samples_len c.args.first c.args.count c.as_slice.result.now c.args.pool.now c.args.outs.now (get_or c.args.wires.now c.loop-i.i no_wire) (c.as_slice.ensures ∙ c.source.ensures) (c.requires.sources c.loop-i.i no_wire c.loop-i-test.true))
    c.pour_row.ensures.line c.pour_row.auto.sums c.pour_row.ensures.sums c.pour_row.ensures.rest

pub returns-clause-lines : goal.returns-clause-lines
returns-clause-lines c =
    gathered_lines c.args.wires.now c.args.silent.now c.args.pool.now c.args.outs.now c.args.first c.args.count c.args.lines.now (length c.args.sums.now) c.loop-i.i c.loop-i.lines c.loop-i.sums c.requires.lines (omega arith) c.loop-i.invariant

pub returns-clause-sums : goal.returns-clause-sums
returns-clause-sums c =
    gathered_sums c.args.wires.now c.args.silent.now c.args.pool.now c.args.outs.now c.args.first c.args.count c.args.lines.now (length c.args.sums.now) c.loop-i.i c.loop-i.lines c.loop-i.sums c.requires.lines (omega arith) c.loop-i.invariant
