-- Where there is no closed walk, the live nodes are those that pass the test.
use Rattle.std.proofs.Common.{◌≡◌, ℕ, zero, suc, ◌<◌, List, [], ◌∷◌, ap, length, map, get_or, sym, ◌∙◌, arith, Bool, true, false, refl}
use Rattle.std.specs.Prelude.{IsTrue}
use Rattle.std.specs.List.{AllZip}
use Rattle.std.proofs.lemmas.List.{ext_get_or, get_or-map, length-map}
use Rattle.graph_model.specs.Paths.{IsLive, is_live, IsAcyclic, depth}
use Rattle.graph_model.specs.declared.graph.Node.{Node}
use Rattle.graph_model.specs.declared.graph.Graph.{Graph}
use Rattle.graph_model.proofs.PathLaws.{live_by_paths, live_by_test}
use Rattle.graph_model.specs.Named.{IsNamed, HasOneOutput}
use Rattle.topology.specs.Answers.{AreLive}
use Rattle.graph_model.proofs.NameFacts.{any_node}
use Rattle.topology.proofs.OutputFacts.{output_exists}
use Rattle.topology.proofs.ReachFacts.{rises}

zip_length : {A B : Type 0} (R : A → B → Type 0) (xs : List A) (ys : List B) → AllZip R xs ys → length xs ≡ length ys
zip_length R [] [] h = refl
zip_length R [] (y ∷ ys) h = absurd h
zip_length R (x ∷ xs) [] h = absurd h
zip_length R (x ∷ xs) (y ∷ ys) h = ap suc (zip_length R xs ys h.1)

zip_at : {A B : Type 0} (R : A → B → Type 0) (xs : List A) (ys : List B) (i : ℕ) (d : A) (e : B) → AllZip R xs ys → i < length xs → R (get_or xs i d) (get_or ys i e)
zip_at R [] [] i d e h l = absurd (omega arith)
zip_at R [] (y ∷ ys) i d e h l = absurd h
zip_at R (x ∷ xs) [] i d e h l = absurd h
zip_at R (x ∷ xs) (y ∷ ys) zero d e h l = h.0
zip_at R (x ∷ xs) (y ∷ ys) (suc i) d e h l = zip_at R xs ys i d e h.1 (omega arith)

same_test : (a b : Bool) (P : Type 0) → (a ≡ true → P) → (P → a ≡ true) → (b ≡ true → P) → (P → b ≡ true) → a ≡ b
same_test true b P f g h k = sym (k (f refl))
same_test false true P f g h k = g (h refl)
same_test false false P f g h k = refl

pub live_tested : (g : Graph) (marks : List Bool) → IsNamed g → HasOneOutput g → IsAcyclic g → AreLive g marks → marks ≡ map (λ n. is_live g n.uid.0) g.nodes
live_tested g marks named one acyclic are =
    let R : Node → Bool → Type 0 = λ n b. (IsTrue b → IsLive g n.uid.0) × (IsLive g n.uid.0 → IsTrue b) in
    let len : length g.nodes ≡ length marks = zip_length R g.nodes marks are in
    ext_get_or false marks (map (λ (n : Node). is_live g n.uid.0) g.nodes) (sym len ∙ sym (length-map g.nodes (λ (n : Node). is_live g n.uid.0))) (λ i lt.
    let li : i < length g.nodes = omega arith in
    let at = zip_at R g.nodes marks i any_node false are li in
    same_test (get_or marks i false) (is_live g (get_or g.nodes i any_node).uid.0) (IsLive g (get_or g.nodes i any_node).uid.0) at.0 at.1
    (live_by_paths g (depth g) (rises g named acyclic) (output_exists g named one) (get_or g.nodes i any_node).uid.0)
    (live_by_test g (depth g) (rises g named acyclic) (get_or g.nodes i any_node).uid.0)
    ∙ sym (get_or-map (λ (n : Node). is_live g n.uid.0) g.nodes i any_node false li))
