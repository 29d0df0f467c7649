use Rattle.std.proofs.Common.{◌≡◌, ◌∙◌, sym, ap, true}
use Rattle.graph_model.specs.Graphs.{input_name}
use Rattle.graph_model.specs.Paths.{is_live}
use Rattle.graph_model.proofs.LiveLaws.{live_by, live_test}
use Rattle.plan_model.specs.Alignments.{position_in}
use Rattle.plan_checker.proofs.positions.input.Goals as goal
use Rattle.plan_checker.proofs.positions.input.Goals.{else-is_live-via-then-is_live+else-place-ne0, else-is_live-via-else-is_live}

pub returns-then-place-ne0 : goal.returns-then-place-ne0
returns-then-place-ne0 c =
    let g = c.args.g.now in
    let named = c.input-node.ensures.name in
    let place : c.position-place.result ≡ position_in c.args.at.now (input_name g) =
    c.position-place.ensures ∙ ap (position_in c.args.at.now) (c.uid.ensures ∙ named) in
    let is : is_live g (input_name g) ≡ true = sym (ap (is_live g) named) ∙ sym c.is_live.ensures ∙ c.if-is_live.true in
    ((λ h. let zero = h (live_by g c.requires.sound (input_name g) is) in absurd (c.if-place-ne0.true (place ∙ zero))), place)

pub returns : goal.returns
returns c =
    let g = c.args.g.now in
    let named = c.input-node.ensures.name in
    let place : c.position-place.result ≡ position_in c.args.at.now (input_name g) =
    c.position-place.ensures ∙ ap (position_in c.args.at.now) (c.uid.ensures ∙ named) in
    λ live.
    let is : is_live g (input_name g) ≡ true = live_test g c.requires.sound (input_name g) live in
    elim c.else-is_live.branch [
      | else-is_live-via-then-is_live+else-place-ne0 w ↦ sym place ∙ w.if-place-ne0.false
      | else-is_live-via-else-is_live w ↦
          (let no = w.if-is_live.false in let yes = c.is_live.ensures ∙ ap (is_live g) named ∙ is in absurd (cc))
    ]
