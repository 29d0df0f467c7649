-- Two lists in one strict order with the same entries are the same.
use Rattle.std.proofs.Common.{◌≡◌, suc, ◌<◌, ◌⊎◌, List, [], ◌∷◌, inl, inr, refl, ap, sym, ◌∙◌, subst, arith}
use Rattle.std.specs.Prelude.{AllPairs}
use Rattle.std.specs.List.{Contains}
use Rattle.std.proofs.lemmas.List.Elements.{All-contains}
use Rattle.std.proofs.lemmas.List.Kept.{AllPairs-from_increasing}
use Rattle.graph_model.specs.Paths.{IsLive, live_connections}
use Rattle.graph_model.specs.declared.graph.Connection.{Connection}
use Rattle.graph_model.specs.declared.graph.Graph.{Graph}
use Rattle.graph_model.proofs.PathLaws.{at_tail, first_or_later}
use Rattle.plan_model.specs.Lives.{Port, source, IsBefore, AreValues}
use Rattle.plan_model.specs.Places.{LiveNodesAreUnique, ValuesAreUnique}

module _ {X : Type 0} (R : X → X → Type 0) (one_way : (x y : X) → R x y → R y x → ⊥) where
  first_before : (x : X) (xs : List X) → AllPairs R (x ∷ xs) → (y : X) → Contains xs y → R x y
  first_before x xs h y has = All-contains (R x) xs y (λ k d l. h 0 (suc k) d (omega arith) (omega arith)) has

  without_first : (x : X) (xs : List X) → AllPairs R (x ∷ xs) → AllPairs R xs
  without_first x xs h i j d lt l = h (suc i) (suc j) d (omega arith) (omega arith)

  same_first : (x y : X) (xs ys : List X) → AllPairs R (x ∷ xs) → AllPairs R (y ∷ ys) → (y ≡ x) ⊎ Contains ys x → (x ≡ y) ⊎ Contains xs y → x ≡ y
  same_first x y xs ys hx hy (inl e) b = sym e
  same_first x y xs ys hx hy (inr c) (inl e) = e
  same_first x y xs ys hx hy (inr c) (inr d) = absurd (one_way x y (first_before x xs hx y d) (first_before y ys hy x c))

  -- what comes after x in one list is not the first of the other
  later_too : (x y : X) (xs ys : List X) → AllPairs R (x ∷ xs) → x ≡ y → (z : X) → Contains xs z → (y ≡ z) ⊎ Contains ys z → Contains ys z
  later_too x y xs ys hx same z has (inr there) = there
  later_too x y xs ys hx same z has (inl e) =
      let r : R z z = subst (λ w. R w z) (same ∙ e) (first_before x xs hx z has) in
      absurd (one_way z z r r)

  pub same_entries : (xs ys : List X) → AllPairs R xs → AllPairs R ys → ((x : X) → Contains xs x → Contains ys x) → ((x : X) → Contains ys x → Contains xs x) → xs ≡ ys
  same_entries [] [] hx hy there back = refl
  same_entries [] (y ∷ ys) hx hy there back = let l = (back y (0, omega arith, refl)).1 in absurd (omega arith)
  same_entries (x ∷ xs) [] hx hy there back = let l = (there x (0, omega arith, refl)).1 in absurd (omega arith)
  same_entries (x ∷ xs) (y ∷ ys) hx hy there back =
      let same : x ≡ y = same_first x y xs ys hx hy (first_or_later y x ys (there x (0, omega arith, refl))) (first_or_later x y xs (back y (0, omega arith, refl))) in
      let rest : xs ≡ ys = same_entries xs ys (without_first x xs hx) (without_first y ys hy)
      (λ z has. later_too x y xs ys hx same z has (first_or_later y z ys (there z (at_tail x z xs has))))
      (λ z has. later_too y x ys xs hy (sym same) z has (first_or_later x z xs (back z (at_tail y z ys has)))) in
      ap (λ w. w ∷ xs) same ∙ ap (λ ws. y ∷ ws) rest

pub live_nodes_are_unique : LiveNodesAreUnique
live_nodes_are_unique g vs ws a b = same_entries (λ x y. x < y) (λ x y l m. omega arith) vs ws
    (AllPairs-from_increasing vs a.ascending) (AllPairs-from_increasing ws b.ascending)
    (λ v has. b.all v (All-contains (IsLive g) vs v a.each has)) (λ v has. a.all v (All-contains (IsLive g) ws v b.each has))

before_one_way : (x y : Port) → IsBefore x y → IsBefore y x → ⊥
before_one_way x y (inl l) (inl m) = omega arith
before_one_way x y (inl l) (inr m) = omega (arith, m.0)
before_one_way x y (inr l) (inl m) = omega (arith, l.0)
before_one_way x y (inr l) (inr m) = omega (arith, l.1, m.1)

abbrev IsRead : Graph → Port → Type 0
IsRead g x = (c : Connection) × Contains (live_connections g) c × (source c ≡ x)

-- a value of one list is a value of the other
value_too : (g : Graph) (xs ys : List Port) → AreValues g xs → AreValues g ys → (x : Port) → Contains xs x → Contains ys x
value_too g xs ys a b x has =
    let read : IsRead g x = All-contains (IsRead g) xs x a.each has in
    subst (Contains ys) read.2 (All-contains (λ c. Contains ys (source c)) (live_connections g) read.0 b.all read.1)

pub values_are_unique : ValuesAreUnique
values_are_unique g xs ys a b = same_entries IsBefore before_one_way xs ys a.ascending b.ascending (value_too g xs ys a b) (value_too g ys xs b a)
