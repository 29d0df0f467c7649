-- The printed path is a path whose sum is the reach, and there is one.
use Rattle.std.proofs.Common.{◌≡◌, ℕ, zero, suc, ◌+◌, ◌≤◌, ◌==◌, [], ◌∷◌, length, map, refl, sym, ap, subst, ◌∙◌, arith}
use Rattle.std.specs.List.{Contains}
use Rattle.std.proofs.lemmas.List.Sums.{sum_by-cons}
use Rattle.std.proofs.lemmas.List.Elements.{All-contains}
use Rattle.graph_model.specs.Graphs.{IsNode, IsJoined, latency_at, connections_into}
use Rattle.graph_model.specs.Paths.{IsPrinted, greatest, reach_within}
use Rattle.graph_model.specs.Laws.{PrintedIsLongest, PrintedIsOne}
use Rattle.graph_model.proofs.PathLaws.{same_name}
use Rattle.graph_model.proofs.ReachLaws.{filter_has}
use Rattle.graph_model.specs.declared.graph.Graph.{Graph}

-- without a connection into it nothing is before a node
pub none_before : (g : Graph) (v : ℕ) → connections_into g v ≡ [] → (k : ℕ) → reach_within g k v ≡ 0
unfolding reach_within
none_before g v none zero = refl
none_before g v none (suc k) = ap (λ cs. greatest (map (λ c. reach_within g k c.src.0 + latency_at g c.src.0) cs)) none

pub printed_is_longest : PrintedIsLongest
printed_is_longest g rank ranked v [] node none = (node, sym (none_before g v none (length g.nodes)))
printed_is_longest g rank ranked v (u ∷ us) node printed =
    let j = printed.0 in
    let ends = All-contains (λ c. IsNode g c.src.0 × IsNode g c.dst.0) g.connections j.0 ranked.nodes j.1 in
    let rest = printed_is_longest g rank ranked u us (subst (IsNode g) j.2 ends.0) printed.3 in
    let sum = sum_by-cons (λ w. latency_at g w) u us in
    let step = printed.1 in
    let tail = rest.1 in
    ((node, j, rest.0), omega arith)

something_leads : (g : Graph) (u v : ℕ) → IsJoined g u v → connections_into g v ≡ [] → ⊥
something_leads g u v j none =
    let has : Contains (connections_into g v) j.0 = filter_has (λ c. c.dst.0 == v) g.connections j.0 j.1 (ap (λ n. n == v) j.3 ∙ same_name v) in
    let empty : Contains [] j.0 = subst (λ cs. Contains cs j.0) none has in
    let l = empty.1 in
    absurd (omega arith)

pub printed_is_one : PrintedIsOne
printed_is_one g v [] [] a b = refl
printed_is_one g v [] (w ∷ ws) a b = absurd (something_leads g w v b.0 a)
printed_is_one g v (u ∷ us) [] a b = absurd (something_leads g u v a.0 b)
printed_is_one g v (u ∷ us) (w ∷ ws) a b =
    let less : u ≤ w = a.2 w b.0 b.1 in
    let more : w ≤ u = b.2 u a.0 a.1 in
    let same : w ≡ u = omega arith in
    let rest : us ≡ ws = printed_is_one g u us ws a.3 (subst (λ n. IsPrinted g n ws) same b.3) in
    λ i. sym same i ∷ rest i
