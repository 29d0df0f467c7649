use Rattle.std.proofs.Common.{subst}
use Rattle.std.specs.Prelude.{MatchResult}
use Rattle.headroom.specs.Answers.{AreBounds, AllBounded}
use Rattle.headroom.specs.Loud.{IsTooLoud}
use Rattle.headroom.proofs.LoudFacts.{too_loud_refutes}
use Rattle.headroom.proofs.found.bounds.Goals as goal

pub returns-in-Err-clause-loud : goal.returns-in-Err-clause-loud
returns-in-Err-clause-loud c =
    let is : IsTooLoud c.args.graph.now c.in-Err.loud
    = subst (λ answer. MatchResult answer (λ v. AreBounds c.args.graph.now v.items × AllBounded c.args.graph.now) (IsTooLoud c.args.graph.now)) c.in-Err.is c.in_ok-found.ensures in
    (is, too_loud_refutes c.args.graph.now c.in-Err.loud is)
