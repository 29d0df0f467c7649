-- The answer at an alignment.
use Rattle.std.proofs.Common.{◌≡◌, ℕ, ◌-◌, min, ◌++◌, length, ◌∙◌, ap, arith}
use Rattle.std.proofs.lemmas.List.{append-nil}
use Rattle.graph_model.specs.Graphs.{ins_at, output_name}
use Rattle.graph_model.specs.Histories.{History, shifted, silence, interleaved}
use Rattle.graph_model.specs.Paths.{latency_of_graph, reach}
use Rattle.graph_model.specs.Answers.{answer}
use Rattle.graph_model.specs.declared.graph.Graph.{Graph}

shifted_none : (m : ℕ) (h : History) → shifted 0 m h ≡ h
shifted_none m h = let e : min 0 (length h) ≡ 0 = omega arith in ap (λ k. h ++ silence k m) e ∙ append-nil h

-- at the reaches nothing is shifted
pub answer_in_place : (g : Graph) (at : ℕ) (h : History) → at ≡ reach g (output_name g) → interleaved (shifted (at - latency_of_graph g) (ins_at g (output_name g)) (answer g h)) ≡ interleaved (answer g h)
answer_in_place g at h is =
    let none : at - latency_of_graph g ≡ 0 = omega arith in
    ap (λ k. interleaved (shifted k (ins_at g (output_name g)) (answer g h))) none ∙ ap interleaved (shifted_none (ins_at g (output_name g)) (answer g h))
