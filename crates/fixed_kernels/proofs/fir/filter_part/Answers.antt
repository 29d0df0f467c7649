use Rattle.std.proofs.Common.{List, ℤ, length, arith}
use Rattle.fixed_kernels.proofs.RowFacts.{line_is}
use Rattle.fixed_kernels.proofs.fir.filter_part.Goals as goal

pub filter-requires-clause-fits : goal.filter-requires-clause-fits
filter-requires-clause-fits c = λ t lt.
    let taps : List ℤ = c.args.taps.now in
    let past : List ℤ = c.args.past.now in
    let ins : List ℤ = c.args.ins.now in
    let whole = line_is past ins c.args.line.now (length taps) (length ins) c.requires.past (omega arith) in
    rw (c.copy_from_slice.ensures.after, c.copy_from_slice-2.ensures.after, whole) (c.requires.fits t (omega (arith, c.requires.outs)))

pub returns-clause-values : goal.returns-clause-values
returns-clause-values c = λ t lt.
    let taps : List ℤ = c.args.taps.now in
    let past : List ℤ = c.args.past.now in
    let ins : List ℤ = c.args.ins.now in
    let whole = line_is past ins c.args.line.now (length taps) (length ins) c.requires.past (omega arith) in
    rw (c.copy_from_slice.ensures.after, c.copy_from_slice-2.ensures.after, whole) at (c.filter.ensures t (omega (arith, c.requires.outs)))
