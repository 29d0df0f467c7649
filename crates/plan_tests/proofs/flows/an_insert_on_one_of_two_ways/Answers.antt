use Rattle.std.proofs.Common.{◌≡◌, [], ◌∷◌, sym, ◌∙◌, subst}
use Rattle.min_cost_flow.specs.declared.network.Network.{Network}
use Rattle.min_cost_flow.specs.Flow.{IsNetwork}
use Rattle.min_cost_flow.proofs.Examples.{insert_arcs, insert_net, insert_net_is_one}
use Rattle.plan_tests.proofs.flows.an_insert_on_one_of_two_ways.Goals as goal

pub solve-requires : goal.solve-requires
solve-requires g c =
    let arcs : c.in_ok-from_slice.field-0 ≡ insert_arcs = c.in_ok-from_slice.ensures ∙ (λ i. c.arc.ensures i ∷ c.arc-2.ensures i ∷ c.arc-3.ensures i ∷ c.arc-4.ensures i ∷ c.arc-5.ensures i ∷ c.arc-6.ensures i ∷ c.arc-7.ensures i ∷ c.arc-8.ensures i ∷ []) in
    let need : c.in_ok-from_slice-2.field-0 ≡ insert_net.need = c.in_ok-from_slice-2.ensures in
    let same : record { points = 4; arcs = c.in_ok-from_slice.field-0; need = c.in_ok-from_slice-2.field-0 } ≡ insert_net = λ i. record { points = 4; arcs = arcs i; need = need i } in
    subst (λ (net : Network). IsNetwork net) (sym same) insert_net_is_one
