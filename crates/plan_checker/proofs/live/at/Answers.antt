use Rattle.std.proofs.Common.{◌≡◌, ◌==◌, ℕ, length, map, ap, sym, subst, arith}
use Rattle.std.proofs.lemmas.Bool.{eqb-true}
use Rattle.std.proofs.lemmas.List.{length-map}
use Rattle.graph_model.proofs.PathLaws.{same_name}
use Rattle.plan_model.specs.Rules.{AreLiveNodes}
use Rattle.plan_model.specs.declared.alignment.At.{At}
use Rattle.plan_model.proofs.UniqueLaws.{live_nodes_are_unique}
use Rattle.plan_checker.proofs.PrefixFacts.{agree_whole, same_agree}
use Rattle.plan_checker.proofs.live.at.Goals as goal
use Rattle.plan_checker.proofs.live.at.Goals.{else-agreeing-at-via-then-agreeing-at+else-agreeing-live, else-agreeing-at-via-else-agreeing-at}

pub returns-then-agreeing-live : goal.returns-then-agreeing-live
returns-then-agreeing-live c g are =
    let at = c.args.at.now in
    let live = c.args.live.now in
    let long = length-map at (λ (a : At). a.uid.0) in
    let same : map (λ (a : At). a.uid.0) at ≡ live =
    agree_whole {X = ℕ} (λ x y. x == y) eqb-true same_name (map (λ (a : At). a.uid.0) at) live (omega arith) (omega arith) in
    subst (AreLiveNodes g) (sym same) are

pub returns : goal.returns
returns c g are =
    let at = c.args.at.now in
    let live = c.args.live.now in
    let long = length-map at (λ (a : At). a.uid.0) in (
      (λ here.
          let is : map (λ (a : At). a.uid.0) at ≡ live = live_nodes_are_unique g (map (λ (a : At). a.uid.0) at) live here are in
          let whole = same_agree {X = ℕ} (λ x y. x == y) eqb-true same_name (map (λ (a : At). a.uid.0) at) live is in
          let size = ap length is in
          elim c.else-agreeing-at.branch [
            | else-agreeing-at-via-then-agreeing-at+else-agreeing-live w ↦ w.if-agreeing-live.false (omega arith)
            | else-agreeing-at-via-else-agreeing-at w ↦ w.if-agreeing-at.false (omega arith)
          ]),
      (live, are, c.agreeing-agreeing.ensures),
    )
