use Rattle.std.proofs.Common.{◌≡◌, ◌==◌, ℕ, ◌∙◌, length, map, get_or, ap, arith, inl, inr}
use Rattle.std.proofs.lemmas.Bool.{cases_lt}
use Rattle.std.proofs.lemmas.List.{length-map, get_or-map}
use Rattle.graph_model.proofs.CommonFacts.{not_same}
use Rattle.graph_model.proofs.PathLaws.{same_name}
use Rattle.plan_model.specs.declared.alignment.At.{At}
use Rattle.plan_checker.proofs.PrefixFacts.{agrees, differs, first_ends, second_ends}
use Rattle.plan_checker.proofs.live.agreeing.Goals as goal

abbrev nowhere : At
nowhere = record { uid = record { 0 = 0 }; at = 0 }

pub returns-then-at-place : goal.returns-then-at-place
returns-then-at-place c =
    let at = c.args.at.now in
    let live = c.args.live.now in
    let i = c.loop-place.place in
    let long = length-map at (λ (a : At). a.uid.0) in
    let here : get_or (map (λ (a : At). a.uid.0) at) i 0 ≡ (get_or at i nowhere).uid.0 = get_or-map (λ (a : At). a.uid.0) at i nowhere 0 (omega arith) in
    differs {X = ℕ} {Y = ℕ} (λ x y. x == y) (map (λ (a : At). a.uid.0) at) live i c.loop-place.invariant 0 0 (omega arith) (omega arith)
    (ap (λ n. n == get_or live i 0) here ∙ not_same (get_or at i nowhere).uid.0 (get_or live i 0) c.if-at-place.true)

pub loop-place-preserved : goal.loop-place-preserved
loop-place-preserved c =
    let at = c.args.at.now in
    let live = c.args.live.now in
    let i = c.loop-place.place in
    let long = length-map at (λ (a : At). a.uid.0) in
    let here : get_or (map (λ (a : At). a.uid.0) at) i 0 ≡ (get_or at i nowhere).uid.0 = get_or-map (λ (a : At). a.uid.0) at i nowhere 0 (omega arith) in
    agrees {X = ℕ} {Y = ℕ} (λ x y. x == y) (map (λ (a : At). a.uid.0) at) live i c.loop-place.invariant 0 0 (omega arith) (omega arith)
    (ap (λ n. n == get_or live i 0) (here ∙ c.if-at-place.false) ∙ same_name (get_or live i 0))

pub returns : goal.returns
returns c =
    let at = c.args.at.now in
    let live = c.args.live.now in
    let i = c.loop-place.place in
    let long = length-map at (λ (a : At). a.uid.0) in
    let end : c.min-shorter.result ≡ i = omega arith in
    elim (cases_lt i (length at)) [
      | inl less ↦ end ∙ second_ends {X = ℕ} {Y = ℕ} (λ x y. x == y) (map (λ (a : At). a.uid.0) at) live i c.loop-place.invariant (omega arith)
      | inr le ↦ end ∙ first_ends {X = ℕ} {Y = ℕ} (λ x y. x == y) (map (λ (a : At). a.uid.0) at) live i c.loop-place.invariant (omega arith)
    ]
