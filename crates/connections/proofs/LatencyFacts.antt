-- A sound graph has a latency of at most 2 ^ 26 frames.
use Rattle.std.proofs.Common.{◌≡◌, ℕ, zero, suc, ◌+◌, ◌*◌, ◌≤◌, ◌==◌, List, [], ◌∷◌, length, map, true, false, cond, refl, sym, ap, subst, arith}
use Rattle.std.specs.List.{filter}
use Rattle.std.proofs.Math.Nat.{mul-le-mul_right}
use Rattle.graph_model.specs.Graphs.{connections_into, latency_at, output_name}
use Rattle.graph_model.specs.Paths.{greatest, is_live, latency_of_graph, leads, live_connections, reach_within}
use Rattle.graph_model.specs.Sound.{IsSound}
use Rattle.graph_model.specs.declared.graph.Connection.{Connection}
use Rattle.graph_model.specs.declared.graph.Graph.{Graph}

-- the output node is live
leads_there : (g : Graph) (v : ℕ) → (v == output_name g) ≡ true → (k : ℕ) → leads g k v ≡ true
unfolding leads
leads_there g v e zero = e
leads_there g v e (suc k) = rw e refl

-- without a connection into it nothing is before a node
none_before : (g : Graph) (v : ℕ) → connections_into g v ≡ [] → (k : ℕ) → reach_within g k v ≡ 0
unfolding reach_within
none_before g v none zero = refl
none_before g v none (suc k) = ap (λ cs. greatest (map (λ c. reach_within g k c.src.0 + latency_at g c.src.0) cs)) none

-- where a connection leads into the output node, some connection is live
some_live : (g : Graph) (cs : List Connection) → 1 ≤ length (filter (λ c. c.dst.0 == output_name g) cs) → 1 ≤ length (filter (λ c. is_live g c.dst.0) cs)
some_live g [] some = some
some_live g (c ∷ cs) some =
    elim (c.dst.0 == output_name g) as (λ b. (c.dst.0 == output_name g) ≡ b → 1 ≤ length (filter (λ c. is_live g c.dst.0) (c ∷ cs))) [
      | true ↦ λ e. rw (leads_there g c.dst.0 e (length g.nodes)) (omega arith)
      | false ↦ λ e.
          let rest : 1 ≤ length (filter (λ c. is_live g c.dst.0) cs) = some_live g cs (subst (λ b. 1 ≤ length (cond b (c ∷ filter (λ c. c.dst.0 == output_name g) cs) (filter (λ c. c.dst.0 == output_name g) cs))) e some) in
          elim (is_live g c.dst.0) as (λ b. 1 ≤ length (cond b (c ∷ filter (λ c. is_live g c.dst.0) cs) (filter (λ c. is_live g c.dst.0) cs))) [
            | true ↦ omega arith
            | false ↦ rest
          ]
    ] refl

pub few_frames_late : (g : Graph) → IsSound g → latency_of_graph g ≤ 67108864
few_frames_late g sound =
    elim (connections_into g (output_name g)) as (λ cs. connections_into g (output_name g) ≡ cs → latency_of_graph g ≤ 67108864) [
      | [] ↦ λ none. let zero_late : latency_of_graph g ≡ 0 = none_before g (output_name g) none (length g.nodes) in omega arith
      | c ∷ cs ↦ λ is.
          let some : 1 ≤ length (live_connections g) = some_live g g.connections (subst (λ xs. 1 ≤ length xs) (sym is) (omega arith)) in
          let product : 1 * latency_of_graph g ≤ length (live_connections g) * latency_of_graph g = mul-le-mul_right (latency_of_graph g) some in
          let most : length (live_connections g) * latency_of_graph g ≤ 67108864 = sound.few_delays in
          omega arith
    ] refl
