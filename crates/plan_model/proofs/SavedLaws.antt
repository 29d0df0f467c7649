-- `saved` as a sum over all numbers below a bound, and the lower bound on assignments.
use Rattle.std.proofs.lemmas.Bool.Decides.{nat_tests}
use Rattle.std.specs.declared.cmp.Ordering.TheVariants.{Equal, Greater}
use Rattle.std.proofs.Common.{◌≡◌, ℕ, zero, suc, ◌+◌, ◌-◌, ◌*◌, ◌<◌, ◌≤◌, Bool, true, false, cond, eqb, List, [], ◌∷◌, length, get_or, map, min, refl, sym, ◌∙◌, ap, subst, ⊎_elim, arith, All, Contains, count_by, sum_by, filter}
use Rattle.std.specs.Ordering.{is_lt, nat_cmp}
use Rattle.std.proofs.lemmas.List.{get_or-map, length-map}
use Rattle.std.specs.List.{dedup, zip}
use Rattle.std.specs.List.Sorted.{IsStrictlyIncreasing, IsNonDecreasingBy}
use Rattle.std.proofs.lemmas.Bool.{le-ltb, cases_lt, cases_eq, and_parts, eqb-true, eq-eqb, ne_eqb}
use Rattle.std.proofs.lemmas.List.Sums.{sum_by-cons}
use Rattle.std.proofs.lemmas.List.Elements.{All-head, All-tail, All-contains, Contains-get_or, All-same}
use Rattle.std.proofs.lemmas.List.Kept.{AllPairs-from_increasing, Contains-dedup_nat, Contains-from_dedup, IsNonDecreasingBy-filter}
use Rattle.std.proofs.lemmas.Map.Keys.{IsStrictlyIncreasing-dedup}
use Rattle.std.proofs.lemmas.Slice.Zip.{AllZip-long, firsts-zip, seconds-zip}
use Rattle.graph_model.proofs.PathLaws.{at_tail, first_or_later}
use Rattle.graph_model.proofs.ReachLaws.{filter_from, filter_has}
use Rattle.plan_model.specs.Buffers.{is_through, is_dying, is_born, is_born_of, is_freed, bearers, saved, need_of_wave, IsAssignment}
use Rattle.plan_model.specs.declared.buffers.Life.{Life}
use Rattle.plan_model.specs.declared.buffers.Home.{Home}
use Rattle.plan_model.proofs.CountFacts.{is_before, bit, sum_below}
use Rattle.plan_model.proofs.BelowFacts.{sum_below-same, sum_below-add, sum_below-zero, count_by-cons, count_by_some, count_by_at, count_by-le_one}
use Rattle.plan_model.proofs.LowerBoundLaws.{saved_below, count_by-map, alive_le_buffers}

-- a weight that counts at one number alone
point_weight : (m x : ℕ) (f : ℕ → ℕ) → x < m → sum_below m (λ a. bit (eqb x a) * f a) ≡ f x
point_weight zero x f l = absurd (omega arith)
point_weight (suc m) x f l =
    ⊎_elim
    (λ e. let here : bit (eqb x m) ≡ 1 = rw (eq-eqb x m e) in
    let value : f x ≡ f m = ap f e in
    let term : bit (eqb x m) * f m ≡ f m = rw here (omega arith) in
    omega (arith, none m x (omega (arith, e))))
    (λ ne. let here : bit (eqb x m) ≡ 0 = rw (ne_eqb x m ne) in
    let term : bit (eqb x m) * f m ≡ 0 = rw here (omega arith) in
    omega (arith, point_weight m x f (omega arith)))
    (cases_eq x m)
  where
    none : (m x : ℕ) → m ≤ x → sum_below m (λ a. bit (eqb x a) * f a) ≡ 0
    none zero x l = refl
    none (suc m) x l =
        let here : bit (eqb x m) ≡ 0 = rw (ne_eqb x m (λ e. omega arith)) in
        let term : bit (eqb x m) * f m ≡ 0 = rw here (omega arith) in
        omega (arith, none m x (omega arith))

-- a sum over a list of numbers below m, number by number
by_number : (m : ℕ) (f : ℕ → ℕ) (xs : List ℕ) → All (λ x. x < m) xs → sum_by f xs ≡ sum_below m (λ a. count_by (λ x. eqb x a) xs * f a)
by_number m f [] h = sym (sum_below-same m _ _ (λ a l. omega arith) ∙ sum_below-zero m)
by_number m f (x ∷ xs) h =
    let step : sum_below m (λ a. count_by (λ y. eqb y a) (x ∷ xs) * f a) ≡ sum_below m (λ a. bit (eqb x a) * f a + count_by (λ y. eqb y a) xs * f a) =
    sum_below-same m _ _ (λ a l. rw (count_by-cons (λ y. eqb y a) x xs) (omega arith)) in
    omega (
      arith,
      sum_by-cons f x xs,
      step,
      sum_below-add m (λ a. bit (eqb x a) * f a) (λ a. count_by (λ y. eqb y a) xs * f a),
      point_weight m x f (All-head (λ y. y < m) x xs h),
      by_number m f xs (All-tail (λ y. y < m) x xs h),
    )

-- a sum over numbers that rise, outside of which the weight is 0
pub sum_by_rising : (m : ℕ) (f : ℕ → ℕ) (xs : List ℕ) → IsStrictlyIncreasing xs → All (λ x. x < m) xs → ((a : ℕ) → (Contains xs a → ⊥) → f a ≡ 0) → sum_by f xs ≡ sum_below m f
sum_by_rising m f xs up below outside = by_number m f xs below ∙ sum_below-same m _ f (λ a l.
    ⊎_elim
    (λ some.
    let one : count_by (λ x. eqb x a) xs ≤ 1 = count_by-le_one (λ x. eqb x a) xs (λ i j d lt l p q.
    let order : get_or xs i d < get_or xs j d = AllPairs-from_increasing xs up i j d lt l in
    omega (arith, eqb-true _ _ p, eqb-true _ _ q)) in
    let exact : count_by (λ x. eqb x a) xs ≡ 1 = omega arith in
    rw exact (omega arith))
    (λ none.
    let zero_weight : f a ≡ 0 = outside a (λ c. let h : 0 < count_by (λ x. eqb x a) xs = count_by_at (λ x. eqb x a) xs a c (eq-eqb a a refl) in omega arith) in
    rw zero_weight (omega arith))
    (cases_lt 0 (count_by (λ x. eqb x a) xs)))

-- ascending by uid
pub record Rising (lives : List Life) (m : ℕ) : Type 0 where
  pub up : IsNonDecreasingBy (λ x. x.uid.0) lives
  pub below : All (λ x. x.uid.0 < m) lives

module _ {X : Type 0} where
  pub Contains-map : {Y : Type 0} (f : X → Y) (xs : List X) (x : X) → Contains xs x → Contains (map f xs) (f x)
  Contains-map f [] x h = absurd (omega (arith, h.1))
  Contains-map f (y ∷ ys) x h =
      ⊎_elim (λ same. (0, omega arith, ap f same)) (λ r. let t = Contains-map f ys x r in (suc t.0, omega (arith, t.1), t.2)) (first_or_later y x ys h)

  pub Contains-from_map : {Y : Type 0} (f : X → Y) (xs : List X) (y : Y) → Contains (map f xs) y → (x : X) × Contains xs x × (f x ≡ y)
  Contains-from_map f [] y h = absurd (omega (arith, h.1))
  Contains-from_map f (x ∷ xs) y (zero, l, e) = (x, (0, omega arith, refl), e)
  Contains-from_map f (x ∷ xs) y (suc k, l, e) =
      let t = Contains-from_map f xs y (k, omega arith, e) in (t.0, at_tail x t.0 xs t.1, t.2)

not_less : (a b : ℕ) → b ≤ a → is_lt (nat_cmp a b) ≡ false
not_less a b h = rw (le-ltb a b h) (elim (eqb a b) as (λ t. is_lt (cond t Equal Greater) ≡ false) [ true ↦ refl | false ↦ refl ])

pub saved_is : (lives : List Life) (s m : ℕ) → Rising lives m → saved lives s ≡ saved_below m lives s
unfolding saved saved_below bearers
saved_is lives s m r =
    let born : List Life = filter (is_born s) lives in
    let uids : List ℕ = map (λ (x : Life). x.uid.0) born in
    let up : IsNonDecreasingBy (λ (x : Life). x.uid.0) born = IsNonDecreasingBy-filter (λ (x : Life). x.uid.0) (is_born s) lives r.up in
    sum_by_rising m (λ a. min (count_by (is_born_of s a) lives) (count_by (is_freed s a) lives)) (dedup eqb uids)
    (IsStrictlyIncreasing-dedup uids (λ k d l lt. rising born up k d (omega (arith, lt, length-map born (λ (x : Life). x.uid.0)))))
    (λ k d l.
    let c = Contains-from_map (λ (x : Life). x.uid.0) born (get_or (dedup eqb uids) k d) (Contains-from_dedup eqb uids (get_or (dedup eqb uids) k d) (Contains-get_or (dedup eqb uids) k d l)) in
    subst (λ a. a < m) c.2 (All-contains (λ (x : Life). x.uid.0 < m) lives c.0 r.below (filter_from (is_born s) lives c.0 c.1).0))
    (λ a out.
    ⊎_elim
    (λ some.
    let x = count_by_some (is_born_of s a) lives some in
    let P = and_parts _ _ x.2 in
    absurd (out (subst (λ b. Contains (dedup eqb uids) b) (eqb-true _ _ P.1)
    (Contains-dedup_nat uids x.0.uid.0 (Contains-map (λ (x : Life). x.uid.0) born x.0 (filter_has (is_born s) lives x.0 x.1 P.0))))))
    (λ none. omega arith)
    (cases_lt 0 (count_by (is_born_of s a) lives)))
  where
    rising : (xs : List Life) → IsNonDecreasingBy (λ (x : Life). x.uid.0) xs → (k d : ℕ) → k + 1 < length xs → is_lt (nat_cmp (get_or (map (λ (x : Life). x.uid.0) xs) (k + 1) d) (get_or (map (λ (x : Life). x.uid.0) xs) k d)) ≡ false
    rising [] h k d l = absurd (omega arith)
    rising (x ∷ xs) h k d l =
        not_less (get_or (map (λ (x : Life). x.uid.0) (x ∷ xs)) (k + 1) d) (get_or (map (λ (x : Life). x.uid.0) (x ∷ xs)) k d) (rw (get_or-map (λ (x : Life). x.uid.0) (x ∷ xs) (k + 1) x d (omega arith), get_or-map (λ (x : Life). x.uid.0) (x ∷ xs) k x d (omega arith)) (h k (k + 1) x (omega arith) l))

-- what was alive before the wave is what goes through and what dies
pub count-before : (lives : List Life) (s : ℕ) → All (λ x. x.born < x.dies) lives → count_by (is_through s) lives + count_by (is_dying s) lives ≡ count_by (is_before s) lives
count-before [] s h = refl
count-before (x ∷ xs) s h =
    let here : bit (is_through s x) + bit (is_dying s x) ≡ bit (is_before s x) = one x (All-head (λ y. y.born < y.dies) x xs h) in
    omega (arith, count_by-cons (is_through s) x xs, count_by-cons (is_dying s) x xs, count_by-cons (is_before s) x xs, count-before xs s (All-tail (λ y. y.born < y.dies) x xs h))
  where
    one : (x : Life) → x.born < x.dies → bit (is_through s x) + bit (is_dying s x) ≡ bit (is_before s x)
    one x l = grind (arith, nat_tests)

pub need_is : (lives : List Life) (s m : ℕ) → Rising lives m → All (λ x. x.born < x.dies) lives → need_of_wave lives s ≡ count_by (is_before s) lives + count_by (is_born s) lives - saved_below m lives s
unfolding need_of_wave
need_is lives s m r h = rw (saved_is lives s m r, count-before lives s h)

-- a fact on a list that a map gives
pub All-from_map : {X Y : Type 0} (P : Y → Type 0) (f : X → Y) (zs : List X) (ys : List Y) → map f zs ≡ ys → All P ys → All (λ z. P (f z)) zs
All-from_map P f zs ys e h k d l = subst P (get_or-map f zs k d (f d) l) (All-same P (map f zs) ys e h k (f d) (omega (arith, length-map zs f)))

pub need_le_channels : (lives : List Life) (homes : List Home) (channels s m : ℕ) → Rising lives m → All (λ x. x.born < x.dies) lives → IsAssignment lives homes channels → need_of_wave lives s ≤ channels
unfolding saved_below
need_le_channels lives homes channels s m r h a =
    let zs : List (Life × Home) = zip lives homes in
    let long : length homes ≡ length lives = AllZip-long (λ x h. (h.uid ≡ x.uid) × (h.channel ≡ x.channel)) lives homes a.values in
    let firsts : map (λ (z : Life × Home). z.0) zs ≡ lives = firsts-zip lives homes long in
    let seconds : map (λ (z : Life × Home). z.1) zs ≡ homes = seconds-zip lives homes long in
    let bound : count_by (λ z. is_before s z.0) zs + count_by (λ z. is_born s z.0) zs ≤ channels + sum_below m (λ a. min (count_by (λ z. is_born_of s a z.0) zs) (count_by (λ z. is_freed s a z.0) zs)) =
    alive_le_buffers (λ (z : Life × Home). z.0) (λ (z : Life × Home). z.1.buffer) zs channels m s
    (All-from_map (λ x. x.born < x.dies) (λ (z : Life × Home). z.0) zs lives firsts h)
    (All-from_map (λ x. x.uid.0 < m) (λ (z : Life × Home). z.0) zs lives firsts r.below)
    a.apart
    (All-from_map (λ h. h.buffer < channels) (λ (z : Life × Home). z.1) zs homes seconds a.below) in
    let count : (p : Life → Bool) → count_by (λ z. p z.0) zs ≡ count_by p lives =
    λ (p : Life → Bool). sym (count_by-map (λ (z : Life × Home). z.0) p zs) ∙ ap (λ l. count_by p l) firsts in
    let savings : sum_below m (λ a. min (count_by (λ z. is_born_of s a z.0) zs) (count_by (λ z. is_freed s a z.0) zs)) ≡ saved_below m lives s =
    sum_below-same m _ _ (λ a l. rw (count (is_born_of s a), count (is_freed s a))) in
    omega (arith, need_is lives s m r h, count (is_before s), count (is_born s))
