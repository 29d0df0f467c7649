use Rattle.std.proofs.Common.{◌+◌, ◌-◌, ◌+ℤ◌, get_or, length, pos, ap, ◌∙◌, arith}
use Rattle.delay_lines.specs.Lines.{passed}
use Rattle.players.specs.Reads.{begun}
use Rattle.players.proofs.PartFacts.{put_at, slice_at}
use Rattle.players.proofs.gathering.pour_row.Goals as goal

pub returns-clause-sums : goal.returns-clause-sums
returns-clause-sums c = λ t lt.
    let size = c.pour.auto.row in
    put_at c.args.base (c.args.base + length c.args.samples.now - c.args.base) c.args.sums.now c.pour.new.row t (pos 0) (omega arith) (omega arith)
    ∙ c.pour.ensures.row t lt
    ∙ ap (λ x. begun c.args.first x +ℤ get_or (passed c.args.line.now c.args.samples.now) t (pos 0))
    (slice_at c.args.base (c.args.base + length c.args.samples.now) c.args.sums.now t (pos 0) (omega arith))
