-- Weak duality and complementary slackness (Ahuja, Magnanti and Orlin, Network Flows, section 9.4).
--
-- Costs and supplies have the other sign here: the weight of a flow is minus its cost, so that a flow of least cost
-- is one of greatest weight, and potentials bound the weights from above.
use Rattle.std.specs.Prelude.{◌≡◌, ℕ, zero, suc, ◌<◌, ℤ, pos, ◌+ℤ◌, ◌-ℤ◌, ◌*ℤ◌, ◌≤ℤ◌, List, [], ◌∷◌, slice_get, Some}
use Rattle.std.specs.List.{All}
use Rattle.shortest_paths.specs.Walks.{number_of}
use Rattle.min_cost_flow.specs.declared.network.Arc.{Arc}
use Rattle.min_cost_flow.specs.declared.network.Network.{Network}
use Rattle.min_cost_flow.specs.Flow.{MeetsNeeds, IsTight}

-- Both ends of each arc are points.
abbrev pub JoinsPoints : Network → Type 0
JoinsPoints net = All (λ a. (a.tail < net.points) × (a.head < net.points)) net.arcs

-- The flow meets the needs of the network.
abbrev pub IsFlowOf : Network → List ℕ → Type 0
IsFlowOf net flow = MeetsNeeds net.points net.arcs net.need flow

-- Along each arc the potential rises by at least the least difference.
abbrev pub KeepsLeasts : Network → (ℕ → ℤ) → Type 0
KeepsLeasts net potential = (k : ℕ) (a : Arc) → slice_get net.arcs k ≡ Some a → a.least ≤ℤ (potential a.head -ℤ potential a.tail)

-- The sum over the arcs of the units times a number of the arc, where the flow has one unit count for each arc.
abbrev pub weighted : (Arc → ℤ) → List Arc → List ℕ → ℤ
weighted number [] flow = pos 0
weighted number (a ∷ arcs) [] = pos 0
weighted number (a ∷ arcs) (units ∷ flow) = pos units *ℤ number a +ℤ weighted number arcs flow

-- The weight of a flow is the sum over the arcs of units times least difference.
abbrev pub weight_of : Network → List ℕ → ℤ
weight_of net flow = weighted (λ a. a.least) net.arcs flow

-- The sum over the points below n.
abbrev pub sum_over : ℕ → (ℕ → ℤ) → ℤ
sum_over zero f = pos 0
sum_over (suc n) f = sum_over n f +ℤ f n

-- The bound that potentials give is the sum over the points of need times potential.
abbrev pub bound_of : Network → (ℕ → ℤ) → ℤ
bound_of net potential = sum_over net.points (λ v. number_of net.need v *ℤ potential v)

-- No flow that meets the needs has a greater weight, so none costs less.
abbrev pub IsOfLeastCost : Network → List ℕ → Type 0
IsOfLeastCost net flow = (other : List ℕ) → IsFlowOf net other → weight_of net other ≤ℤ weight_of net flow

-- No potentials that keep the least differences give a smaller bound.
abbrev pub IsOfLeastBound : Network → (ℕ → ℤ) → Type 0
IsOfLeastBound net potential = (other : ℕ → ℤ) → KeepsLeasts net other → bound_of net potential ≤ℤ bound_of net other

-- No flow that meets the needs weighs more than the bound of potentials that keep the least differences.
abbrev pub WeakDuality : Type 0
WeakDuality = (net : Network) (flow : List ℕ) (potential : ℕ → ℤ) → JoinsPoints net →
    IsFlowOf net flow → KeepsLeasts net potential → weight_of net flow ≤ℤ bound_of net potential

-- Where flow and potentials satisfy complementary slackness, the weight is the bound.
abbrev pub TightReachesBound : Type 0
TightReachesBound = (net : Network) (flow : List ℕ) (potential : ℕ → ℤ) → JoinsPoints net →
    IsFlowOf net flow → IsTight net.arcs flow potential → weight_of net flow ≡ bound_of net potential

-- Flow and potentials that satisfy complementary slackness are both optimal.
abbrev pub TightIsOptimal : Type 0
TightIsOptimal = (net : Network) (flow : List ℕ) (potential : ℕ → ℤ) → JoinsPoints net →
    IsFlowOf net flow → IsTight net.arcs flow potential → IsOfLeastCost net flow × IsOfLeastBound net potential
