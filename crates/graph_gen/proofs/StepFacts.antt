-- One more step: of the generator, and of each loop that makes a list.
use Rattle.std.proofs.Common.{◌≡◌, ℕ, suc, ◌+◌, ◌*◌, ◌%◌, List, [], ◌∷◌, ◌++◌, ℤ, sym, ap, ◌∙◌, append_assoc, append-nil}
use Rattle.std.proofs.Math.Nat.{mod-add-mod}
use Rattle.graph_model.specs.declared.kind.Kind.{Kind}
use Rattle.graph_model.specs.declared.graph.Node.{Node}
use Rattle.graph_model.specs.declared.graph.Connection.{Connection}
use Rattle.graph_model.specs.declared.graph.Graph.{Graph}
use Rattle.graph_gen.specs.Draws.{next, stepped, sample_drawn, samples_drawn}
use Rattle.graph_gen.specs.Generated.{node_of, kind_drawn, sources, past_kind, past_node, node_drawn, connections_of, nodes_drawn, connections_drawn}

-- the product may be cut before the sum is
pub next_is : (s : ℕ) → (s * 6364136223846793005 % 18446744073709551616 + 1442695040888963407) % 18446744073709551616 ≡ next s
unfolding next
next_is s = mod-add-mod (s * 6364136223846793005) 18446744073709551616 1442695040888963407

-- what stands and what is still to come are the whole
pub one_more_sample : (s n m t : ℕ) (z : ℤ) (xs ys whole : List ℤ) → z ≡ sample_drawn s → t ≡ next s → n ≡ suc m
    → ys ≡ xs ++ z ∷ [] → xs ++ samples_drawn s n ≡ whole → ys ++ samples_drawn t m ≡ whole
one_more_sample s n m t z xs ys whole d e less pushed h =
    ap (λ zs. zs ++ samples_drawn t m) (pushed ∙ ap (λ x. xs ++ x ∷ []) d)
    ∙ ap (λ v. (xs ++ sample_drawn s ∷ []) ++ samples_drawn v m) e
    ∙ append_assoc xs (sample_drawn s ∷ []) (samples_drawn (next s) m) ∙ ap (λ k. xs ++ samples_drawn s k) (sym less) ∙ h

-- a step of the loop over the nodes: the kind is drawn, then the sources
state_is : (s t u : ℕ) (kind : Kind) → kind ≡ kind_drawn s → t ≡ past_kind s → u ≡ stepped (sources kind) t → u ≡ past_node s
state_is s t u kind k e f = f ∙ ap (λ d. stepped (sources d) t) k ∙ ap (stepped (sources (kind_drawn s))) e

pub one_more_node : (s i n m t u : ℕ) (kind : Kind) (xs ys whole : List Node)
    → kind ≡ kind_drawn s → t ≡ past_kind s → u ≡ stepped (sources kind) t → n ≡ suc m
    → ys ≡ xs ++ node_of i kind ∷ [] → xs ++ nodes_drawn s i n ≡ whole → ys ++ nodes_drawn u (i + 1) m ≡ whole
unfolding nodes_drawn
one_more_node s i n m t u kind xs ys whole k e f less pushed h =
    ap (λ zs. zs ++ nodes_drawn u (i + 1) m) (pushed ∙ ap (λ d. xs ++ node_of i d ∷ []) k)
    ∙ ap (λ v. (xs ++ node_drawn s i ∷ []) ++ nodes_drawn v (i + 1) m) (state_is s t u kind k e f)
    ∙ append_assoc xs (node_drawn s i ∷ []) (nodes_drawn (past_node s) (i + 1) m)
    ∙ ap (λ l. xs ++ nodes_drawn s i l) (sym less) ∙ h

pub more_connections : (s i n m t u : ℕ) (kind : Kind) (xs ys whole : List Connection)
    → kind ≡ kind_drawn s → t ≡ past_kind s → u ≡ stepped (sources kind) t → n ≡ suc m
    → ys ≡ xs ++ connections_of kind i t → xs ++ connections_drawn s i n ≡ whole → ys ++ connections_drawn u (i + 1) m ≡ whole
unfolding connections_drawn
more_connections s i n m t u kind xs ys whole k e f less pushed h =
    ap (λ zs. zs ++ connections_drawn u (i + 1) m) (pushed ∙ ap (λ d. xs ++ connections_of d i t) k ∙ ap (λ v. xs ++ connections_of (kind_drawn s) i v) e)
    ∙ ap (λ v. (xs ++ connections_of (kind_drawn s) i (past_kind s)) ++ connections_drawn v (i + 1) m) (state_is s t u kind k e f)
    ∙ append_assoc xs (connections_of (kind_drawn s) i (past_kind s)) (connections_drawn (past_node s) (i + 1) m)
    ∙ ap (λ l. xs ++ connections_drawn s i l) (sym less) ∙ h

-- at the end nothing is to come
pub all_nodes : (s i n : ℕ) (xs whole : List Node) → n ≡ 0 → xs ++ nodes_drawn s i n ≡ whole → xs ≡ whole
unfolding nodes_drawn
all_nodes s i n xs whole e h = sym (append-nil xs) ∙ ap (λ k. xs ++ nodes_drawn s i k) (sym e) ∙ h

pub all_connections : (s i n : ℕ) (xs whole : List Connection) → n ≡ 0 → xs ++ connections_drawn s i n ≡ whole → xs ≡ whole
unfolding connections_drawn
all_connections s i n xs whole e h = sym (append-nil xs) ∙ ap (λ k. xs ++ connections_drawn s i k) (sym e) ∙ h

pub whole_graph : (g h : Graph) → g.nodes ≡ h.nodes → g.connections ≡ h.connections → g ≡ h
whole_graph g h p q = λ j. record { nodes = p j; connections = q j }
