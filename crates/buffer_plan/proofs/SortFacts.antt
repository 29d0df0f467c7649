-- Lists whose pairs stand in a relation, through a sort and back.
use Rattle.std.proofs.Common.{◌≡◌, ◌⊎◌, ℕ, zero, suc, ◌+◌, ◌<◌, true, false, List, [], ◌∷◌, length, get_or, map, refl, sym, ◌∙◌, ap, subst, inl, inr, ⊎_elim, arith, AllPairs, Ordering}
use Rattle.std.specs.Ordering.{is_lt, nat_cmp, ordering_then}
use Rattle.std.specs.Cmp.{IsTotalOrder}
use Rattle.std.specs.List.{swap}
use Rattle.std.specs.List.Sorted.{IsPermutation, IsSortedByKey}
use Rattle.std.specs.Fn.{Called, ComputesKey}
use denote.Param.Members.{Mut}
use denote.Ref.{Bor}
use Rattle.std.proofs.lemmas.Bool.{true≢false, cases_eq, cases_order, eq-eqb, lt-ltb, le-ltb}
use Rattle.std.proofs.lemmas.Fn.{always_returns_same}
use Rattle.std.proofs.lemmas.Cmp.{nat_cmp_total, on_total, then_total}
use Rattle.std.proofs.lemmas.List.{get_or-map, length-map}
use Rattle.std.proofs.lemmas.List.Edits.{swapped_from_swap, length-swap}
use Rattle.std.proofs.lemmas.List.Sorted.{ranks_by, sorted_far, IsPermutation-keeps, IsPermutation-sym, Contains-permutation}
use Rattle.plan_model.specs.Buffers.{IsLifeBefore}
use Rattle.plan_model.specs.declared.buffers.Life.{Life}
use Rattle.plan_model.proofs.UniqueLaws.{same_entries}

-- where the item that a swap left at k stood before
abbrev Source : (i j k m : ℕ) → Type 0
Source i j k m = ((k ≡ i) × (m ≡ j)) ⊎ (((k ≡ j) × (m ≡ i)) ⊎ ((k ≡ i → ⊥) × (k ≡ j → ⊥) × (m ≡ k)))

within : (i j k m n : ℕ) → i < n → j < n → k < n → Source i j k m → m < n
within i j k m n li lj lk s = ⊎_elim (λ h. omega (arith, h.1)) (λ r. ⊎_elim (λ h. omega (arith, h.1)) (λ h. omega (arith, h.2)) r) s

differs : (i j a b m n : ℕ) → a < b → Source i j a m → Source i j b n → m ≡ n → ⊥
differs i j a b m n lt s t e =
    ⊎_elim
    (λ h. ⊎_elim (λ g. omega (arith, h.0, g.0)) (λ q. ⊎_elim (λ g. omega (arith, h.0, h.1, g.0, g.1)) (λ g. g.1 (omega (arith, h.1, g.2))) q) t)
    (λ r. ⊎_elim
    (λ h. ⊎_elim (λ g. omega (arith, h.0, h.1, g.0, g.1)) (λ q. ⊎_elim (λ g. omega (arith, h.0, g.0)) (λ g. g.0 (omega (arith, h.1, g.2))) q) t)
    (λ h. ⊎_elim (λ g. h.1 (omega (arith, h.2, g.1))) (λ q. ⊎_elim (λ g. h.0 (omega (arith, h.2, g.1))) (λ g. omega (arith, h.2, g.2)) q) t)
    r)
    s

module _ {X : Type 0} where
  source : (xs : List X) (i j : ℕ) (d : X) → i < length xs → j < length xs → (k : ℕ) → (m : ℕ) × (get_or (swap xs i j) k d ≡ get_or xs m d) × Source i j k m
  source xs i j d li lj k =
      let s = swapped_from_swap xs (swap xs i j) i j d li lj refl in
      ⊎_elim
      (λ (e : k ≡ i). (j, ap (λ t. get_or (swap xs i j) t d) e ∙ s.0, inl (e, refl)))
      (λ ni. ⊎_elim
      (λ (e : k ≡ j). (i, ap (λ t. get_or (swap xs i j) t d) e ∙ s.1, inr (inl (e, refl))))
      (λ nj. (k, s.2 k ni nj, inr (inr (ni, nj, refl))))
      (cases_eq k j))
      (cases_eq k i)

  AllPairs-swap : (R : X → X → Type 0) → ((x y : X) → R x y → R y x) → (xs : List X) (i j : ℕ) → i < length xs → j < length xs → AllPairs R xs → AllPairs R (swap xs i j)
  AllPairs-swap R turn xs i j li lj h a b d lt lb =
      let long : length (swap xs i j) ≡ length xs = length-swap xs i j in
      let s = source xs i j d li lj a in let t = source xs i j d li lj b in
      let ls : s.0 < length xs = within i j a s.0 (length xs) li lj (omega arith) s.2 in
      let lt' : t.0 < length xs = within i j b t.0 (length xs) li lj (omega arith) t.2 in
      let pair : R (get_or xs s.0 d) (get_or xs t.0 d) =
      ⊎_elim
      (λ e. absurd (differs i j a b s.0 t.0 lt s.2 t.2 e))
      (λ o. ⊎_elim (λ l. h s.0 t.0 d l lt') (λ l. turn (get_or xs t.0 d) (get_or xs s.0 d) (h t.0 s.0 d l ls)) o)
      (cases_order s.0 t.0) in
      subst (λ x. R x (get_or (swap xs i j) b d)) (sym s.1) (subst (λ y. R (get_or xs s.0 d) y) (sym t.1) pair)

  -- a relation of all pairs that does not look at their order stays through a permutation
  pub AllPairs-permutation : (R : X → X → Type 0) → ((x y : X) → R x y → R y x) → (xs ys : List X) → IsPermutation xs ys → AllPairs R xs → AllPairs R ys
  AllPairs-permutation R turn xs ys p h = IsPermutation-keeps xs (AllPairs R) h (λ l i j li lj k. AllPairs-swap R turn l i j li lj k) ys p

  pub AllPairs-map : {Y : Type 0} (f : X → Y) (R : Y → Y → Type 0) (xs : List X) → AllPairs (λ x y. R (f x) (f y)) xs → AllPairs R (map f xs)
  AllPairs-map f R [] h i j d lt l = absurd (omega arith)
  AllPairs-map f R (x ∷ xs) h i j d lt l =
      let lj : j < length (x ∷ xs) = omega (arith, length-map (x ∷ xs) f) in
      subst (λ y. R y (get_or (map f (x ∷ xs)) j d)) (sym (get_or-map f (x ∷ xs) i x d (omega arith))) (subst (λ y. R (f (get_or (x ∷ xs) i x)) y) (sym (get_or-map f (x ∷ xs) j x d lj)) (h i j x lt lj))

  module _ (R : X → X → Type 0) (apart : (x y : X) → R x y → R y x → ⊥) where
    -- a permutation of an ascending list, sorted again, is that list
    pub sorted_back : (xs ys : List X) → AllPairs R xs → IsPermutation xs ys → AllPairs (λ x y. R y x → ⊥) ys → ys ≡ xs
    sorted_back xs ys up p sorted =
        let either : AllPairs (λ x y. R x y ⊎ R y x) ys =
        AllPairs-permutation (λ x y. R x y ⊎ R y x) (λ x y r. ⊎_elim (λ a. inr a) (λ a. inl a) r) xs ys p (λ i j d lt l. inl (up i j d lt l)) in
        same_entries R apart ys xs (λ i j d lt l. ⊎_elim (λ r. r) (λ r. absurd (sorted i j d lt l r)) (either i j d lt l)) up
        (λ z c. Contains-permutation ys xs z (IsPermutation-sym xs ys p) c)
        (λ z c. Contains-permutation xs ys z p c)

pub before_one_way : (x y : Life) → IsLifeBefore x y → IsLifeBefore y x → ⊥
before_one_way x y (inl l) (inl m) = omega arith
before_one_way x y (inl l) (inr m) = omega (arith, m.0)
before_one_way x y (inr l) (inl m) = omega (arith, l.0)
before_one_way x y (inr l) (inr m) = omega (arith, l.1, m.1)

-- what `sort_by_key` says of each two items, at any key that has a total order
pub pairs_from_sort_by_key : {X K : Type 0} {R : K → K → Ordering} (o : IsTotalOrder R) (key : X → K) {F : Type 0} {g : Mut F (Bor X × Unit {0}) K} {f : F} (xs : List X)
    → ((key : X → K) → ComputesKey g key f → IsSortedByKey key R xs)
    → ((a : Bor X × Unit {0}) (r : K) (f' : F) → Called g f a r f' → (r ≡ key a.0.now) × (f' ≡ f))
    → AllPairs (λ x y. is_lt (R (key y) (key x)) ≡ false) xs
pairs_from_sort_by_key {R = R} o key {g = g} {f = f} xs up h = λ i j d l lj.
    sorted_far (λ x y. is_lt (R (key x) (key y))) (ranks_by o key) xs (up key (always_returns_same g (λ a r. r ≡ key a.0.now) f h)) i j d (omega arith) lj

abbrev pub by_name_and_channel : ℕ × ℕ → ℕ × ℕ → Ordering
by_name_and_channel x y = ordering_then (nat_cmp x.0 y.0) (nat_cmp x.1 y.1)

pub by_name_and_channel_total : IsTotalOrder by_name_and_channel
by_name_and_channel_total = then_total (on_total (λ (x : ℕ × ℕ). x.0) nat_cmp_total) (on_total (λ (x : ℕ × ℕ). x.1) nat_cmp_total)

pub not_before : (x y : Life) → is_lt (by_name_and_channel (x.uid.0, x.channel) (y.uid.0, y.channel)) ≡ false → IsLifeBefore x y → ⊥
not_before x y h b =
    ⊎_elim
    (λ lt. let less : is_lt (by_name_and_channel (x.uid.0, x.channel) (y.uid.0, y.channel)) ≡ true = rw (lt-ltb x.uid.0 y.uid.0 lt) in true≢false (sym less ∙ h))
    (λ e. let less : is_lt (by_name_and_channel (x.uid.0, x.channel) (y.uid.0, y.channel)) ≡ true = rw (le-ltb x.uid.0 y.uid.0 (omega (arith, e.0)), eq-eqb x.uid.0 y.uid.0 e.0, lt-ltb x.channel y.channel e.1) in true≢false (sym less ∙ h))
    b

-- neighbours in order are all in order
pub pairs_from_steps : {X : Type 0} (R : X → X → Type 0) → ((x y z : X) → R x y → R y z → R x z) → (xs : List X) → ((k : ℕ) (d : X) → k + 1 < length xs → R (get_or xs k d) (get_or xs (k + 1) d)) → AllPairs R xs
pairs_from_steps {X = X} R through xs h i j d lt l = upto j i d lt l
  where
    upto : (j i : ℕ) (d : X) → i < j → j < length xs → R (get_or xs i d) (get_or xs j d)
    upto zero i d lt l = absurd (omega arith)
    upto (suc j) i d lt l =
        let next : R (get_or xs j d) (get_or xs (suc j) d) = subst (λ m. R (get_or xs j d) (get_or xs m d)) (omega arith) (h j d (omega arith)) in
        ⊎_elim
        (λ (e : i ≡ j). subst (λ m. R (get_or xs m d) (get_or xs (suc j) d)) (sym e) next)
        (λ ne. through (get_or xs i d) (get_or xs j d) (get_or xs (suc j) d) (upto j i d (omega arith) (omega arith)) next)
        (cases_eq i j)

pub before_through : (x y z : Life) → IsLifeBefore x y → IsLifeBefore y z → IsLifeBefore x z
before_through x y z (inl l) (inl m) = inl (omega arith)
before_through x y z (inl l) (inr m) = inl (omega (arith, m.0))
before_through x y z (inr l) (inl m) = inl (omega (arith, l.0))
before_through x y z (inr l) (inr m) = inr (l.0 ∙ m.0, omega (arith, l.1, m.1))
