-- Names and the indexes of their nodes, kept in a map.
use Rattle.std.proofs.Common.{◌≡◌, ℕ, ◌+◌, ◌<◌, ◌≤◌, ◌==◌, List, length, get_or, refl, sym, ◌∙◌, ap, subst, arith, Bool, true, false, cond, Option, Some, None, MatchOption, Bor, inl, inr}
use Rattle.std.specs.Prelude.{nat_eq}
use Rattle.std.specs.Option.{IsSome, is_some, option_copied}
use Rattle.std.specs.HashMap.{HashMap, get}
use Rattle.std.proofs.lemmas.Bool.{eqb-true, cases_eq, false≢true}
use Rattle.graph_model.specs.Graphs.{IsNode}
use Rattle.graph_model.specs.Named.{uid_at}
use Rattle.graph_model.specs.declared.graph.Node.{Node}
use Rattle.graph_model.specs.declared.graph.Graph.{Graph}
use Rattle.graph_model.proofs.PathLaws.{same_name}
use Rattle.graph_model.proofs.NameFacts.{any_node, name_is, index_of}
use Rattle.topology.specs.Links.{AreIndexes}

-- a name that stands at none of the first k nodes
abbrev IsNewTo : List Node → ℕ → ℕ → Type 0
IsNewTo ns k v = (j : ℕ) → j < k → (get_or ns j any_node).uid.0 ≡ v → ⊥

-- an index among the first k nodes, at which the name stands
abbrev StandsAt : List Node → ℕ → ℕ → ℕ → Type 0
StandsAt ns k v i = (i < k) × ((get_or ns i any_node).uid.0 ≡ v)

-- the names of the first k nodes are in the map, each with an index at which it stands
abbrev pub AreIndexesOf : {S : Type 0} → List Node → ℕ → HashMap ℕ ℕ S → Type 0
AreIndexesOf ns k m = (v : ℕ) → MatchOption (get nat_eq m v) (IsNewTo ns k v) (StandsAt ns k v)

module _ (ns : List Node) (k u : ℕ) (is : u ≡ (get_or ns k any_node).uid.0) where
  still : (v : ℕ) → (u == v) ≡ false → (o : Option ℕ) → MatchOption o (IsNewTo ns k v) (StandsAt ns k v) → MatchOption o (IsNewTo ns (k + 1) v) (StandsAt ns (k + 1) v)
  still v other (Some i) at = (let l = at.0 in omega arith, at.1)
  still v other None new = λ j less same.
      elim (cases_eq j k) [
        | inl here ↦ false≢true (sym other ∙ ap (λ x. x == v) (is ∙ ap (λ i. (get_or ns i any_node).uid.0) (sym here) ∙ same) ∙ same_name v)
        | inr before ↦ new j (omega arith) same
      ]

  -- one name more
  pub one_name : {S : Type 0} (m n : HashMap ℕ ℕ S) → AreIndexesOf ns k m → ((v : ℕ) → get nat_eq n v ≡ cond (u == v) (Some k) (get nat_eq m v)) → AreIndexesOf ns (k + 1) n
  one_name m n before now v = go (u == v) refl (now v)
    where
      go : (b : Bool) → (u == v) ≡ b → get nat_eq n v ≡ cond b (Some k) (get nat_eq m v) → MatchOption (get nat_eq n v) (IsNewTo ns (k + 1) v) (StandsAt ns (k + 1) v)
      go true e at = subst (λ o. MatchOption o (IsNewTo ns (k + 1) v) (StandsAt ns (k + 1) v)) (sym at) (omega arith, sym is ∙ eqb-true u v e)
      go false e at = subst (λ o. MatchOption o (IsNewTo ns (k + 1) v) (StandsAt ns (k + 1) v)) (sym at) (still v e (get nat_eq m v) (before v))

-- all names
pub all_names : {S : Type 0} (g : Graph) (ns : List Node) (k : ℕ) (m : HashMap ℕ ℕ S) → ns ≡ g.nodes → length ns ≤ k → k ≤ length ns → AreIndexesOf ns k m → AreIndexes g m
all_names {S} g ns k m same le most all v = go (get nat_eq m v) (subst (λ xs. (length xs ≤ k) × (k ≤ length xs) × MatchOption (get nat_eq m v) (IsNewTo xs k v) (StandsAt xs k v)) same (le, most, all v))
  where
    go : (o : Option ℕ) → (length g.nodes ≤ k) × (k ≤ length g.nodes) × MatchOption o (IsNewTo g.nodes k v) (StandsAt g.nodes k v)
        → MatchOption o (IsNode g v → ⊥) (λ i. (i < length g.nodes) × (uid_at g i ≡ v))
    go (Some i) (a, b, at) = (let l = at.0 in omega arith, name_is g i (let l = at.0 in omega arith) ∙ at.1)
    go None (a, b, new) = λ node.
        let i = index_of g v node in
        new i.0 (let l = i.1 in omega arith) (sym (name_is g i.0 i.1) ∙ i.2)

-- where a name is a node's, the map has an index of it
pub has_index : {S : Type 0} (g : Graph) (m : HashMap ℕ ℕ S) (v : ℕ) → AreIndexes g m → IsNode g v → is_some (get nat_eq m v) ≡ true
has_index g m v all node = go (get nat_eq m v) (all v)
  where
    go : (o : Option ℕ) → MatchOption o (IsNode g v → ⊥) (λ i. (i < length g.nodes) × (uid_at g i ≡ v)) → is_some o ≡ true
    go (Some i) at = refl
    go None none = absurd (none node)

-- what the map has of a name
pub index_is : {S : Type 0} (g : Graph) (m : HashMap ℕ ℕ S) (v i : ℕ) → AreIndexes g m → get nat_eq m v ≡ Some i → (i < length g.nodes) × (uid_at g i ≡ v)
index_is g m v i all is = subst (λ o. MatchOption o (IsNode g v → ⊥) (λ i. (i < length g.nodes) × (uid_at g i ≡ v))) is (all v)

-- and a name that it has not is no node's
pub no_index : {S : Type 0} (g : Graph) (m : HashMap ℕ ℕ S) (v : ℕ) → AreIndexes g m → get nat_eq m v ≡ None → IsNode g v → ⊥
no_index g m v all is = subst (λ o. MatchOption o (IsNode g v → ⊥) (λ i. (i < length g.nodes) × (uid_at g i ≡ v))) is (all v)

-- what is lent is there where its copy is
pub copied_there : {X : Type 0} (o : Option (Bor X)) → is_some (option_copied o) ≡ true → IsSome o
copied_there (Some x) e = e
copied_there None e = e
