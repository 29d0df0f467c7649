-- What solves a network by the numbers of its points solves it by their names.
use Rattle.std.proofs.Common.{◌≡◌, ℕ, zero, suc, ◌+◌, ◌<◌, ◌≤◌, ℤ, pos, negsuc, ◌+ℤ◌, ◌-ℤ◌, ◌*ℤ◌, ◌≤ℤ◌, List, [], ◌∷◌, length, map, get_or, slice_get, slice_index, refl, sym, ap, subst, ◌∙◌, arith, cond, ◌==◌, Bool, true, false, Some, inl, inr}
use Rattle.std.specs.Prelude.{sum_by, nat_lt, not, IsSome, AllPairs}
use Rattle.std.proofs.lemmas.List.Kept.{AllPairs-cons}
use Rattle.std.specs.List.{All, AllByRecursion, Contains}
use lib.IntN.{zero-*ℤ}
use Rattle.std.proofs.lemmas.Int.{ints}
use Rattle.std.proofs.lemmas.Bool.{eq-eqb, ne_eqb, lt-ltb, ltb-true, cond-true}
use Rattle.std.proofs.lemmas.List.{get_or-map}
use Rattle.std.proofs.lemmas.List.Elements.{All-contains, All-from_recursion, recursion_from_All}
use Rattle.std.proofs.lemmas.List.Sums.{sum_by-cons, position_or_len_is}
use Rattle.std.proofs.lemmas.Option.{slice_get-get_or}
use Rattle.graph_model.specs.Answers.{sum_of}
use Rattle.graph_model.proofs.PathLaws.{at_tail, first_or_later}
use Rattle.min_cost_flow.specs.Flow.{IsTight, MeetsNeeds, units_where}
use Rattle.min_cost_flow.specs.Laws.{weighted}
use Rattle.min_cost_flow.specs.declared.network.Arc.{Arc}
use Rattle.plan_model.specs.Networks.{Difference, Terms, least_or_zero, arc_from_to, units_into, units_from, weight, Keeps, IsTightOn}
use Rattle.plan_model.proofs.PlaceLaws.{has_item}
use Rattle.plan_model.proofs.SavedLaws.{Contains-from_map}
use Rattle.shortest_paths.specs.Walks.{number_of, from_zero}
use Rattle.alignment.specs.Numbered.{number_by, name_by, named_by, entries_by, AreNames, AreArcsBy}

no_units : (b : Bool) → cond b zero zero ≡ zero
no_units true = refl
no_units false = refl

-- a number from 0 on is itself
pub from_zero_is : (z : ℤ) → pos 0 ≤ℤ z → pos (from_zero z) ≡ z
from_zero_is (pos n) l = refl
from_zero_is (negsuc n) l = absurd (omega (arith, ints))

-- ---- names and their numbers
-- a name of the list stands at its number
pub stands_by : {P E L : Type 0} (t : Terms P E L) → ((u v : P) → t.same u v ≡ true → u ≡ v) → ((v : P) → t.same v v ≡ true) → (root : P) (names : List P) (v : P) → Contains names v
    → (number_by t names v < length names) × (name_by root names (number_by t names v) ≡ v)
stands_by t told itself root [] v has = let l = has.1 in absurd (omega arith)
stands_by t told itself root (x ∷ xs) v has = go (t.same x v) refl (λ k. stands_by t told itself root xs v k)
  where
    go : (b : Bool) → t.same x v ≡ b → (Contains xs v → (number_by t xs v < length xs) × (name_by root xs (number_by t xs v) ≡ v))
        → (cond (not b) (1 + number_by t xs v) 0 < length (x ∷ xs)) × (name_by root (x ∷ xs) (cond (not b) (1 + number_by t xs v) 0) ≡ v)
    go true e rest = (omega arith, told x v e)
    go false e rest =
        elim (first_or_later x v xs has) [
          | inl one ↦ (let f : t.same x v ≡ true = ap (λ u. t.same u v) one ∙ itself v in absurd (cc))
          | inr there ↦
              (let r = rest there in
              let l = r.0 in
              let next : 1 + number_by t xs v ≡ suc (number_by t xs v) = omega arith in
              (omega arith, ap (name_by root (x ∷ xs)) next ∙ r.1))
        ]

-- ---- names that differ
module _ {P E L : Type 0} (t : Terms P E L) (told : (u v : P) → t.same u v ≡ true → u ≡ v) (itself : (v : P) → t.same v v ≡ true) (root : P) (names : List P) (are : AreNames t root names) where
  abbrev name_at : ℕ → P
  name_at k = name_by root names k

  -- the number of the name at a place is the place
  pub number_at : (k : ℕ) → k < length names → number_by t names (name_at k) ≡ k
  number_at k lt = position_or_len_is (λ u. t.same u (name_at k)) names k root (omega arith) (λ j below. are.differ j k below lt) (λ l. itself (name_at k))

  -- names are the same where numbers are
  pub same_test : (i j : ℕ) → i < length names → j < length names → t.same (name_at i) (name_at j) ≡ (i == j)
  same_test i j l m = go (t.same (name_at i) (name_at j)) refl
    where
      go : (b : Bool) → t.same (name_at i) (name_at j) ≡ b → b ≡ (i == j)
      go true e = let one : i ≡ j = sym (number_at i l) ∙ ap (λ v. number_by t names v) (told (name_at i) (name_at j) e) ∙ number_at j m in sym (eq-eqb i j one)
      go false e = sym (ne_eqb i j (λ one. let f : t.same (name_at i) (name_at j) ≡ true = ap (λ k. t.same (name_at k) (name_at j)) one ∙ itself (name_at j) in absurd (cc)))

  -- potentials from 0 on, by name
  pub from_zero_at : (potential : List ℤ) → ((k : ℕ) → k < length names → pos 0 ≤ℤ number_of potential k) → (k : ℕ) → k < length names
      → pos (from_zero (number_of potential (number_by t names (name_at k)))) ≡ number_of potential k
  from_zero_at potential from k lt =
      let e = ap (number_of potential) (number_at k lt) in
      let l = from k lt in
      from_zero_is (number_of potential (number_by t names (name_at k))) (omega (arith, ints)) ∙ e

module _ {P E L : Type 0} (t : Terms P E L) (told : (u v : P) → t.same u v ≡ true → u ≡ v) (itself : (v : P) → t.same v v ≡ true) (make : P → P → ℕ → E)
    (made : (u v : P) (n : ℕ) → (t.tail (make u v n) ≡ u) × (t.head (make u v n) ≡ v) × (t.units (make u v n) ≡ n)) (root : P) (names : List P) where
  abbrev name : ℕ → P
  name k = name_by root names k

  abbrev number : P → ℕ
  number v = number_by t names v

  abbrev entry : Arc → ℕ → E
  entry a n = make (name a.tail) (name a.head) n

  abbrev entries : List Arc → List ℕ → List E
  entries arcs flow = entries_by make root names arcs flow

  -- ---- entries
  entries_first : (a : Arc) (arcs : List Arc) (n : ℕ) (flow : List ℕ) → entries (a ∷ arcs) (suc n ∷ flow) ≡ entry a (suc n) ∷ entries arcs flow
  entries_first a arcs n flow = cond-true _ _ _ (lt-ltb 0 (suc n) (omega arith))

  -- what holds of each arc with units holds of each entry
  pub entries_all : (Q : E → Type 0) (arcs : List Arc) (flow : List ℕ)
      → ((k : ℕ) (a : Arc) → slice_get arcs k ≡ Some a → 0 < slice_index flow k → Q (entry a (slice_index flow k))) → AllByRecursion Q (entries arcs flow)
  entries_all Q [] flow h = tt
  entries_all Q (a ∷ arcs) [] h = tt
  entries_all Q (a ∷ arcs) (n ∷ flow) h = go (nat_lt 0 n) refl (entries_all Q arcs flow (λ k b at some. h (suc k) b at some))
    where
      go : (b : Bool) → nat_lt 0 n ≡ b → AllByRecursion Q (entries arcs flow) → AllByRecursion Q (cond b (entry a n ∷ entries arcs flow) (entries arcs flow))
      go true e rest = (h 0 a refl (ltb-true 0 n e), rest)
      go false e rest = rest

  -- an arc with units has an entry
  entries_have : (arcs : List Arc) (flow : List ℕ) (k : ℕ) (a : Arc) → slice_get arcs k ≡ Some a → 0 < slice_index flow k → Contains (entries arcs flow) (entry a (slice_index flow k))
  entries_have [] flow k a at some = absurd (cc)
  entries_have (b ∷ arcs) [] k a at some = absurd (omega arith)
  entries_have (b ∷ arcs) (n ∷ flow) zero a at some =
      let one : b ≡ a = cc in
      rw (lt-ltb 0 n some) (0, omega arith, ap (λ c. entry c n) one)
  entries_have (b ∷ arcs) (n ∷ flow) (suc k) a at some = later (nat_lt 0 n) (entries_have arcs flow k a at some)
    where
      later : (c : Bool) → Contains (entries arcs flow) (entry a (slice_index flow k)) → Contains (cond c (entry b n ∷ entries arcs flow) (entries arcs flow)) (entry a (slice_index flow k))
      later true has = at_tail (entry b n) (entry a (slice_index flow k)) (entries arcs flow) has
      later false has = has

  -- what holds of each arc and each later one, with any units, holds of each entry and each later one
  pub entries_pairs : (R : E → E → Type 0) (arcs : List Arc) (flow : List ℕ) → AllPairs (λ a b. (m n : ℕ) → R (entry a m) (entry b n)) arcs → AllPairs R (entries arcs flow)
  entries_pairs R [] flow h = λ i j d less l. absurd (omega arith)
  entries_pairs R (a ∷ arcs) [] h = λ i j d less l. absurd (omega arith)
  entries_pairs R (a ∷ arcs) (zero ∷ flow) h = entries_pairs R arcs flow (λ i j d less l. h (suc i) (suc j) d (omega arith) (omega arith))
  entries_pairs R (a ∷ arcs) (suc n ∷ flow) h =
      let later : All (λ b. (m : ℕ) → R (entry a (suc n)) (entry b m)) arcs = λ k d l m. h 0 (suc k) d (omega arith) (omega arith) (suc n) m in
      subst (AllPairs R) (sym (entries_first a arcs n flow))
      (AllPairs-cons R (entry a (suc n)) (entries arcs flow)
      (All-from_recursion (R (entry a (suc n))) (entries arcs flow) (entries_all (R (entry a (suc n))) arcs flow
      (λ k b at some. All-contains (λ b. (m : ℕ) → R (entry a (suc n)) (entry b m)) arcs b later (has_item arcs k b at) (slice_index flow k))))
      (entries_pairs R arcs flow (λ i j d less l. h (suc i) (suc j) d (omega arith) (omega arith))))

  -- the entries weigh what the arcs weigh
  entries_weigh : (least : E → ℤ) (arcs : List Arc) (flow : List ℕ) → AllByRecursion (λ a. (n : ℕ) → least (entry a n) ≡ a.least) arcs
      → sum_of (λ e. pos (t.units e) *ℤ least e) (entries arcs flow) ≡ weighted (λ a. a.least) arcs flow
  entries_weigh least [] flow h = refl
  entries_weigh least (a ∷ arcs) [] h = refl
  entries_weigh least (a ∷ arcs) (zero ∷ flow) h = let rest = entries_weigh least arcs flow h.1 in let none = zero-*ℤ a.least in omega (arith, ints)
  entries_weigh least (a ∷ arcs) (suc n ∷ flow) h =
      let rest = entries_weigh least arcs flow h.1 in
      ap (sum_of (λ e. pos (t.units e) *ℤ least e)) (entries_first a arcs n flow) ∙ (λ i. pos ((made (name a.tail) (name a.head) (suc n)).2 i) *ℤ h.0 (suc n) i +ℤ rest i)

  -- the units of the entries that pass a test are those on the arcs that pass it
  entries_carry : (p : E → Bool) (q : Arc → Bool) (arcs : List Arc) (flow : List ℕ)
      → AllByRecursion (λ a. (n : ℕ) → p (entry a n) ≡ q a) arcs → sum_by (λ e. cond (p e) (t.units e) 0) (entries arcs flow) ≡ units_where q arcs flow
  entries_carry p q [] flow h = refl
  entries_carry p q (a ∷ arcs) [] h = refl
  entries_carry p q (a ∷ arcs) (zero ∷ flow) h = let rest = entries_carry p q arcs flow h.1 in let none = no_units (q a) in omega arith
  entries_carry p q (a ∷ arcs) (suc n ∷ flow) h =
      let rest = entries_carry p q arcs flow h.1 in
      let here : cond (p (entry a (suc n))) (t.units (entry a (suc n))) 0 ≡ cond (q a) (suc n) 0 = λ i. cond (h.0 (suc n) i) ((made (name a.tail) (name a.head) (suc n)).2 i) 0 in
      let first = ap (sum_by (λ e. cond (p e) (t.units e) 0)) (entries_first a arcs n flow) in
      let sum = sum_by-cons (λ e. cond (p e) (t.units e) 0) (entry a (suc n)) (entries arcs flow) in
      omega arith

  -- ---- a network of these names
  module _ (are : AreNames t root names) (differences : List (Difference P)) (arcs : List Arc) (network : AreArcsBy t root names differences arcs)
      (found : (d : Difference P) → Contains differences d → arc_from_to t differences d.tail d.head ≡ Some d) where
    arc_there : (k : ℕ) (a : Arc) → slice_get arcs k ≡ Some a → Contains differences (named_by root names a) × (a.tail < length names) × (a.head < length names)
    arc_there k a here =
        let has = has_item arcs k a here in
        let ends = All-contains (λ b. (b.tail < length names) × (b.head < length names)) arcs a network.ends has in
        (All-contains (λ b. Contains differences (named_by root names b)) arcs a network.each has, ends.0, ends.1)

    -- the difference that is found for an entry is the arc's
    found_for : (a : Arc) (n : ℕ) → Contains differences (named_by root names a) → arc_from_to t differences (t.tail (entry a n)) (t.head (entry a n)) ≡ Some (named_by root names a)
    found_for a n has =
        let m = made (name a.tail) (name a.head) n in
        (λ i. arc_from_to t differences (m.0 i) (m.1 i)) ∙ found (named_by root names a) has

    least_for : (a : Arc) (n : ℕ) → Contains differences (named_by root names a) → least_or_zero (arc_from_to t differences (t.tail (entry a n)) (t.head (entry a n))) ≡ a.least
    least_for a n has = ap least_or_zero (found_for a n has)

    -- ---- the flow
    module _ (flow : List ℕ) where
      pub on_arcs : All (λ e. IsSome (arc_from_to t differences (t.tail e) (t.head e)) × (0 < t.units e)) (entries arcs flow)
      on_arcs =
          All-from_recursion _ (entries arcs flow)
          (entries_all (λ e. IsSome (arc_from_to t differences (t.tail e) (t.head e)) × (0 < t.units e)) arcs flow
          (λ k a at some. (
            subst IsSome (sym (found_for a (slice_index flow k) (arc_there k a at).0)) refl,
            subst (λ n. 0 < n) (sym (made (name a.tail) (name a.head) (slice_index flow k)).2) some,
          )))

      pub weight_is : weight t differences (entries arcs flow) ≡ weighted (λ a. a.least) arcs flow
      weight_is = entries_weigh (λ e. least_or_zero (arc_from_to t differences (t.tail e) (t.head e))) arcs flow
          (recursion_from_All (λ a. (n : ℕ) → least_or_zero (arc_from_to t differences (t.tail (entry a n)) (t.head (entry a n))) ≡ a.least) arcs
          (λ k d l n. least_for (get_or arcs k d) n (network.each k d l)))

      pub meets_at : (need : P → ℤ) → MeetsNeeds (length names) arcs (map need names) flow → (v : P) → Contains names v
          → pos (units_into t (entries arcs flow) v) -ℤ pos (units_from t (entries arcs flow) v) ≡ need v
      meets_at need met v has =
          let s = stands_by t told itself root names v has in
          let k = number v in
          let ins = entries_carry (λ e. t.same (t.head e) (name k)) (λ a. a.head == k) arcs flow
          (recursion_from_All (λ a. (n : ℕ) → t.same (t.head (entry a n)) (name k) ≡ (a.head == k)) arcs (λ j d m n.
          let b = get_or arcs j d in ap (λ u. t.same u (name k)) (made (name b.tail) (name b.head) n).1 ∙ same_test t told itself root names are b.head k (network.ends j d m).1 s.0)) in
          let outs = entries_carry (λ e. t.same (t.tail e) (name k)) (λ a. a.tail == k) arcs flow
          (recursion_from_All (λ a. (n : ℕ) → t.same (t.tail (entry a n)) (name k) ≡ (a.tail == k)) arcs (λ j d m n.
          let b = get_or arcs j d in ap (λ u. t.same u (name k)) (made (name b.tail) (name b.head) n).0 ∙ same_test t told itself root names are b.tail k (network.ends j d m).0 s.0)) in
          subst (λ w. pos (units_into t (entries arcs flow) w) -ℤ pos (units_from t (entries arcs flow) w) ≡ need w) s.1
          ((λ i. pos (ins i) -ℤ pos (outs i)) ∙ met k s.0 ∙ get_or-map need names k root (pos 0) s.0)

      -- along each of the differences the potential rises by at least that
      pub rises_by : (potential : List ℤ) → IsTight arcs flow (number_of potential) → (d : Difference P) → Contains differences d
          → d.least ≤ℤ (number_of potential (number d.head) -ℤ number_of potential (number d.tail))
      rises_by potential tight d has =
          let made_of = Contains-from_map (named_by root names) arcs d (All-contains (Contains (map (named_by root names) arcs)) differences d network.all has) in
          let here : slice_get arcs made_of.1.0 ≡ Some made_of.0 = slice_get-get_or arcs made_of.1.0 made_of.0 made_of.1.1 ∙ ap Some made_of.1.2 in
          let there = arc_there made_of.1.0 made_of.0 here in
          let rises = tight.rises made_of.1.0 made_of.0 here in
          let u = ap (number_of potential) (number_at t told itself root names are made_of.0.tail there.1) in
          let v = ap (number_of potential) (number_at t told itself root names are made_of.0.head there.2) in
          subst (λ (e : Difference P). e.least ≤ℤ (number_of potential (number e.head) -ℤ number_of potential (number e.tail))) made_of.2 (omega (arith, ints))

      pub root_at : (potential : List ℤ) → number_of potential 0 ≡ pos 0 → number_of potential (number root) ≡ pos 0
      root_at potential zero_at = ap (λ v. number_of potential (number v)) (sym are.first) ∙ ap (number_of potential) (number_at t told itself root names are 0 are.some) ∙ zero_at

      -- ---- the potentials, by name
      module _ (potential : List ℤ) (tight : IsTight arcs flow (number_of potential)) (zero_at : number_of potential 0 ≡ pos 0)
          (at : P → ℕ) (at_name : (k : ℕ) → k < length names → pos (at (name k)) ≡ number_of potential k) where
        pub at_root : at root ≡ 0
        at_root = let e = at_name 0 are.some in let f = ap at are.first in omega (arith, ints)

        pub keeps : All (Keeps at) differences
        keeps k d lt =
            let diff = get_or differences k d in
            let made_of = Contains-from_map (named_by root names) arcs diff (network.all k d lt) in
            let here : slice_get arcs made_of.1.0 ≡ Some made_of.0 = slice_get-get_or arcs made_of.1.0 made_of.0 made_of.1.1 ∙ ap Some made_of.1.2 in
            let there = arc_there made_of.1.0 made_of.0 here in
            let rises = tight.rises made_of.1.0 made_of.0 here in
            let u = at_name made_of.0.tail there.1 in
            let v = at_name made_of.0.head there.2 in
            subst (Keeps at) made_of.2 (omega (arith, ints))

        pub tight_at : All (IsTightOn t differences at) (entries arcs flow)
        tight_at =
            All-from_recursion (IsTightOn t differences at) (entries arcs flow)
            (entries_all (IsTightOn t differences at) arcs flow
            (λ k a here some more.
            let there = arc_there k a here in
            let m = made (name a.tail) (name a.head) (slice_index flow k) in
            let least = least_for a (slice_index flow k) there.0 in
            let up = tight.rises k a here in
            let no_more = tight.no_more k a here some in
            let u = at_name a.tail there.1 in
            let v = at_name a.head there.2 in
            let x = ap (λ w. pos (at w)) m.0 in
            let y = ap (λ w. pos (at w)) m.1 in
            omega (arith, ints)))

        -- ---- the least
        module _ (least : (q : List ℤ) → number_of q 0 ≡ pos 0 → IsTight arcs flow (number_of q) → (k : ℕ) → k < length names → number_of potential k ≤ℤ number_of q k)
            (s : P → ℕ) (s_root : s root ≡ 0) (s_keeps : All (Keeps s) differences) (s_tight : All (IsTightOn t differences s) (entries arcs flow)) where
          abbrev numbers : List ℤ
          numbers = map (λ v. pos (s v)) names

          numbers_at : (k : ℕ) → k < length names → number_of numbers k ≡ pos (s (name k))
          numbers_at k lt = get_or-map (λ v. pos (s v)) names k root (pos 0) lt

          numbers_tight : IsTight arcs flow (number_of numbers)
          numbers_tight = record {
            rises = λ k a here.
                let there = arc_there k a here in
                let u = numbers_at a.tail there.1 in
                let v = numbers_at a.head there.2 in
                let kept = All-contains (Keeps s) differences (named_by root names a) s_keeps there.0 in
                omega (arith, ints);
            no_more = λ k a here some.
                let there = arc_there k a here in
                let m = made (name a.tail) (name a.head) (slice_index flow k) in
                let u = numbers_at a.tail there.1 in
                let v = numbers_at a.head there.2 in
                let l = least_for a (slice_index flow k) there.0 in
                let on = All-contains (IsTightOn t differences s) (entries arcs flow) (entry a (slice_index flow k)) s_tight (entries_have arcs flow k a here some)
                (subst (λ n. 0 < n) (sym m.2) some) in
                let x = ap (λ w. pos (s w)) m.0 in
                let y = ap (λ w. pos (s w)) m.1 in
                omega (arith, ints);
          }

          pub at_least : (v : P) → Contains names v → at v ≤ s v
          at_least v has =
              let p = stands_by t told itself root names v has in
              let begins : number_of numbers 0 ≡ pos 0 = numbers_at 0 are.some ∙ ap (λ w. pos (s w)) are.first ∙ ap pos s_root in
              let below = least numbers begins numbers_tight (number v) p.0 in
              let e = numbers_at (number v) p.0 ∙ ap (λ w. pos (s w)) p.1 in
              let f = at_name (number v) p.0 in
              let h = ap at p.1 in
              omega (arith, ints)
