use Rattle.std.proofs.Common.{◌≡◌, [], ◌∷◌, sym, ◌∙◌, subst}
use Rattle.min_cost_flow.specs.declared.network.Network.{Network}
use Rattle.min_cost_flow.specs.Flow.{IsNetwork}
use Rattle.min_cost_flow.proofs.Examples.{level_arcs, level_net, level_net_is_one}
use Rattle.plan_tests.proofs.flows.a_network_of_no_differences.Goals as goal

pub solve-requires : goal.solve-requires
solve-requires g c =
    let arcs : c.in_ok-from_slice.field-0 ≡ level_arcs = c.in_ok-from_slice.ensures ∙ (λ i. c.arc.ensures i ∷ c.arc-2.ensures i ∷ c.arc-3.ensures i ∷ c.arc-4.ensures i ∷ c.arc-5.ensures i ∷ []) in
    let need : c.in_ok-from_slice-2.field-0 ≡ level_net.need = c.in_ok-from_slice-2.ensures in
    let same : record { points = 3; arcs = c.in_ok-from_slice.field-0; need = c.in_ok-from_slice-2.field-0 } ≡ level_net = λ i. record { points = 3; arcs = arcs i; need = need i } in
    subst (λ (net : Network). IsNetwork net) (sym same) level_net_is_one
