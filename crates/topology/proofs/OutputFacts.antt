-- The output node, by its index.
use Rattle.std.proofs.Common.{◌≡◌, subst, refl, ℕ, ◌+◌, ◌<◌, List, [], ◌∷◌, length, sym, ◌∙◌, ap, arith, Bool, true, false, cond, not, count_by, Some, None}
use Rattle.std.specs.List.{position, position_or_len, slice_get}
use Rattle.std.proofs.lemmas.List.Folds.{find_at}
use Rattle.std.proofs.lemmas.List.Sums.{sum_by-cons}
use Rattle.std.proofs.lemmas.Bool.{lt-ltb}
use Rattle.std.proofs.lemmas.Option.{slice_get-get_or}
use Rattle.graph_model.specs.Graphs.{IsNode, is_output, output_name, name_or_zero}
use Rattle.graph_model.specs.declared.graph.Node.{Node}
use Rattle.graph_model.specs.declared.graph.Graph.{Graph}
use Rattle.graph_model.specs.Named.{IsNamed, HasOneOutput, uid_at}
use Rattle.graph_model.proofs.NameFacts.{any_node, name_is, is_node}

passes_below : {X : Type 0} (p : X → Bool) (xs : List X) → 0 < count_by p xs → position_or_len p xs < length xs
passes_below p [] some = absurd (omega arith)
passes_below p (x ∷ xs) some = go (λ s. passes_below p xs s) (p x) (let e = sum_by-cons (λ y. cond (p y) 1 0) x xs in omega arith)
  where
    go : (0 < count_by p xs → position_or_len p xs < length xs) → (b : Bool) → 0 < cond b 1 0 + count_by p xs → cond (not b) (1 + position_or_len p xs) 0 < length (x ∷ xs)
    go rest true s = omega arith
    go rest false s = let l = rest (omega arith) in omega arith

output_below : (g : Graph) → HasOneOutput g → position_or_len (λ (n : Node). is_output n.kind) g.nodes < length g.nodes
output_below g one = passes_below (λ (n : Node). is_output n.kind) g.nodes (omega arith)

output_is : (g : Graph) (i : ℕ) → i < length g.nodes → i ≡ position_or_len (λ (n : Node). is_output n.kind) g.nodes → uid_at g i ≡ output_name g
output_is g i lt at =
    name_is g i lt
    ∙ sym (ap name_or_zero (find_at (λ (n : Node). is_output n.kind) g.nodes ∙ ap (λ k. slice_get g.nodes k) (sym at) ∙ slice_get-get_or g.nodes i any_node lt))

pub output_found : (g : Graph) → HasOneOutput g → position (λ (n : Node). is_output n.kind) g.nodes ≡ Some (position_or_len (λ (n : Node). is_output n.kind) g.nodes)
output_found g one = ap (λ b. cond b (Some (position_or_len (λ (n : Node). is_output n.kind) g.nodes)) None) (lt-ltb _ _ (output_below g one))

pub output_named : (g : Graph) → HasOneOutput g → (i : ℕ) → position (λ (n : Node). is_output n.kind) g.nodes ≡ Some i → uid_at g i ≡ output_name g
output_named g one i is =
    let found = output_found g one in
    let same : i ≡ position_or_len (λ (n : Node). is_output n.kind) g.nodes = cc in
    output_is g i (let l = output_below g one in omega arith) same

pub output_exists : (g : Graph) → IsNamed g → HasOneOutput g → IsNode g (output_name g)
output_exists g named one =
    subst (IsNode g) (output_is g (position_or_len (λ (n : Node). is_output n.kind) g.nodes) (output_below g one) refl)
    (is_node g named (position_or_len (λ (n : Node). is_output n.kind) g.nodes) (output_below g one))
