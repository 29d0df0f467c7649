use Rattle.std.proofs.Common.{◌∙◌, ◌++◌, ap, sym, map}
use Rattle.std.proofs.lemmas.List.{take_all}
use Rattle.std.proofs.lemmas.Simd.{map-map}
use Rattle.plan_model.specs.SharedFlows.{at_node, mirror}
use Rattle.alignment.specs.Values.{port}
use Rattle.alignment.specs.declared.values.Value.{Value}
use Rattle.alignment.proofs.shared_network.names.Goals as goal

pub returns : goal.returns
returns c =
    let points = c.args.points.now in
    c.loop-value.invariant
    ∙ ap (λ xs. map at_node points ++ map (λ (x : Value). mirror (port x)) xs) (take_all c.loop-value.value-index c.args.values.now c.loop-value-test.false)
    ∙ ap (λ xs. map at_node points ++ xs) (sym (map-map mirror port c.args.values.now) ∙ ap (map mirror) c.requires)
