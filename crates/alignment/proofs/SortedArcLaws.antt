-- Differences by the numbers of their ends, sorted and each once, are the arcs of their network.
use Rattle.std.proofs.Common.{◌≡◌, ◌<◌, List, [], ◌∷◌, ◌++◌, length, map, get_or, refl, sym, ap, subst, ◌∙◌, arith, true, false, inl, inr, Ordering, Less, Equal, Greater, IsPermutation, nat_cmp, Some}
use Rattle.std.specs.Prelude.{AllPairs}
use Rattle.std.specs.List.{All, AllByRecursion, Contains, dedup}
use Rattle.std.specs.List.Sorted.{IsSorted, IsStrictlySortedBy}
use Rattle.std.specs.Ordering.{ordering_then, int_cmp, eq_by_cmp, is_eq}
use Rattle.std.specs.Cmp.{IsTotalOrder}
use Rattle.std.proofs.lemmas.Cmp.{ranked, by_ranked, tied_itself, int_cmp_total, int_ranked, eq_by_cmp_equiv}
use Rattle.std.proofs.lemmas.List.Elements.{All-contains, All-map, Contains-append_cases, Contains-append_left, Contains-append_right}
use Rattle.std.proofs.lemmas.List.Filters.{All-dedup}
use Rattle.std.proofs.lemmas.List.Kept.{Contains-dedup, IsStrictlySortedBy-dedup}
use Rattle.std.proofs.lemmas.List.Sorted.{All-permutation, Contains-permutation}
use Rattle.std.proofs.lemmas.Map.Keys.{Less-from_sorted}
use Rattle.min_cost_flow.specs.declared.network.Arc.{Arc}
use Rattle.plan_model.specs.Networks.{Difference, Terms, least_or_zero, arc_from_to}
use Rattle.plan_model.specs.Pairs.{ComesBefore}
use Rattle.plan_model.proofs.SavedLaws.{Contains-from_map, Contains-map}
use Rattle.alignment.specs.Numbered.{number_by, name_by, named_by, numbered_by, AreArcsBy}
use Rattle.alignment.proofs.NumberedLaws.{stands_by}

-- ---- the order of arcs
-- by tail, then by head, then by least difference
abbrev pub order : Arc → Arc → Ordering
order x y = ordering_then (nat_cmp x.tail y.tail) (ordering_then (nat_cmp x.head y.head) (int_cmp x.least y.least))

-- an arc that comes before one of other ends does so by its ends
ends_before : (x y : Arc) → order x y ≡ Less → (x.tail ≡ y.tail → x.head ≡ y.head → x.least ≡ y.least) → ComesBefore (x.tail, x.head) (y.tail, y.head)
ends_before x y less same =
    by_ranked (x.tail < y.tail) (x.tail ≡ y.tail) (y.tail < x.tail) (nat_cmp x.tail y.tail) (ranked x.tail y.tail _ refl)
    (λ e lt. inl lt)
    (λ e tails. by_ranked (x.head < y.head) (x.head ≡ y.head) (y.head < x.head) (nat_cmp x.head y.head) (ranked x.head y.head _ refl)
    (λ f lt. inr (tails, lt))
    (λ f heads.
    let equal : int_cmp x.least y.least ≡ Equal = ap (int_cmp x.least) (sym (same tails heads)) ∙ tied_itself int_cmp_total x.least in
    let all : order x y ≡ Equal = (λ i. ordering_then (e i) (ordering_then (f i) (equal i))) in
    absurd (cc))
    (λ f gt. let all : order x y ≡ Greater = (λ i. ordering_then (e i) (ordering_then (f i) (int_cmp x.least y.least))) in absurd (cc)))
    (λ e gt. let all : order x y ≡ Greater = (λ i. ordering_then (e i) (ordering_then (nat_cmp x.head y.head) (int_cmp x.least y.least))) in absurd (cc))

-- arcs that tie are the same
tied_same : (x y : Arc) → eq_by_cmp order x y ≡ true → x ≡ y
tied_same x y tie =
    by_ranked (x.tail < y.tail) (x.tail ≡ y.tail) (y.tail < x.tail) (nat_cmp x.tail y.tail) (ranked x.tail y.tail _ refl)
    (λ e lt. let no : eq_by_cmp order x y ≡ false = ap (λ o. is_eq (ordering_then o (ordering_then (nat_cmp x.head y.head) (int_cmp x.least y.least)))) e in absurd (cc))
    (λ e tails. by_ranked (x.head < y.head) (x.head ≡ y.head) (y.head < x.head) (nat_cmp x.head y.head) (ranked x.head y.head _ refl)
    (λ f lt. let no : eq_by_cmp order x y ≡ false = (λ i. is_eq (ordering_then (e i) (ordering_then (f i) (int_cmp x.least y.least)))) in absurd (cc))
    (λ f heads. by_ranked _ (x.least ≡ y.least) _ (int_cmp x.least y.least) (int_ranked x.least y.least _ refl)
    (λ h lt. let no : eq_by_cmp order x y ≡ false = (λ i. is_eq (ordering_then (e i) (ordering_then (f i) (h i)))) in absurd (cc))
    (λ h leasts. λ i. record { tail = tails i; head = heads i; least = leasts i })
    (λ h gt. let no : eq_by_cmp order x y ≡ false = (λ i. is_eq (ordering_then (e i) (ordering_then (f i) (h i)))) in absurd (cc)))
    (λ f gt. let no : eq_by_cmp order x y ≡ false = (λ i. is_eq (ordering_then (e i) (ordering_then (f i) (int_cmp x.least y.least)))) in absurd (cc)))
    (λ e gt. let no : eq_by_cmp order x y ≡ false = ap (λ o. is_eq (ordering_then o (ordering_then (nat_cmp x.head y.head) (int_cmp x.least y.least)))) e in absurd (cc))

-- ---- lists with the same members
-- the third of four
pub third : {X : Type 0} (vs bs cs ds es : List X) (x : X) → (Contains cs x → Contains ds x) → Contains (vs ++ (bs ++ (cs ++ es))) x → Contains (vs ++ (bs ++ (ds ++ es))) x
third vs bs cs ds es x f has =
    elim (Contains-append_cases vs (bs ++ (cs ++ es)) x has) [
      | inl here ↦ Contains-append_left vs (bs ++ (ds ++ es)) x here
      | inr there ↦ Contains-append_right vs (bs ++ (ds ++ es)) x (elim (Contains-append_cases bs (cs ++ es) x there) [
        | inl here ↦ Contains-append_left bs (ds ++ es) x here
        | inr later ↦ Contains-append_right bs (ds ++ es) x (elim (Contains-append_cases cs es x later) [
          | inl here ↦ Contains-append_left ds es x (f here)
          | inr last ↦ Contains-append_right ds es x last
        ])
      ])
    ]

-- what has more members maps to what has more
pub mapped : {X Y : Type 0} (f : X → Y) (xs ys : List X) → ((x : X) → Contains xs x → Contains ys x) → (y : Y) → Contains (map f xs) y → Contains (map f ys) y
mapped f xs ys h y has = let x = Contains-from_map f xs y has in subst (Contains (map f ys)) x.2 (Contains-map f ys x.0 (h x.0 x.1))

-- functions that are equal at each item
pub map_same_at : {X Y : Type 0} (f h : X → Y) (xs : List X) → AllByRecursion (λ x. f x ≡ h x) xs → map f xs ≡ map h xs
map_same_at f h [] e = refl
map_same_at f h (x ∷ xs) e = λ i. e.0 i ∷ map_same_at f h xs e.1 i

-- ---- arcs of a network between points of any type
module _ {P E L : Type 0} (t : Terms P E L) (told : (u v : P) → t.same u v ≡ true → u ≡ v) (itself : (v : P) → t.same v v ≡ true) (root : P) (names : List P) (differences : List (Difference P)) where
  abbrev named : Arc → Difference P
  named a = named_by root names a

  abbrev numbered : Difference P → Arc
  numbered d = numbered_by t names d

  -- both ends have a name
  abbrev pub HasEnds : Difference P → Type 0
  HasEnds d = Contains names d.tail × Contains names d.head

  below : (d : Difference P) → HasEnds d → (number_by t names d.tail < length names) × (number_by t names d.head < length names)
  below d ends = ((stands_by t told itself root names d.tail ends.0).0, (stands_by t told itself root names d.head ends.1).0)

  -- by the names of its numbers it is itself
  back : (d : Difference P) → HasEnds d → named (numbered d) ≡ d
  back d ends =
      let u = (stands_by t told itself root names d.tail ends.0).1 in
      let v = (stands_by t told itself root names d.head ends.1).1 in
      λ i. record { tail = u i; head = v i; least = d.least }

  -- a list of the same differences, in any order and as often as it likes, gives the arcs
  pub numbered_are : (made : List (Difference P)) → All HasEnds made → All (Contains differences) made → All (Contains made) differences → AreArcsBy t root names differences (map numbered made)
  numbered_are made ends each all = record {
    ends = All-map (λ a. (a.tail < length names) × (a.head < length names)) numbered made (λ k d l. below (get_or made k d) (ends k d l));
    each = All-map (λ a. Contains differences (named a)) numbered made (λ k d l. subst (Contains differences) (sym (back (get_or made k d) (ends k d l))) (each k d l));
    all = λ k d l.
        let x = get_or differences k d in
        let has = all k d l in
        subst (Contains (map named (map numbered made))) (back x (All-contains HasEnds made x ends has)) (Contains-map named (map numbered made) (numbered x) (Contains-map numbered made x has));
  }

  -- sorted, and each once, they still are
  module _ (arcs sorted kept : List Arc) (are : AreArcsBy t root names differences arcs) (total : IsTotalOrder order) (moved : IsPermutation arcs sorted) (up : IsSorted order sorted)
      (is : kept ≡ dedup (eq_by_cmp order) sorted) where
    all_once : (Q : Arc → Type 0) → All Q arcs → All Q (dedup (eq_by_cmp order) sorted)
    all_once Q h = All-dedup (eq_by_cmp order) Q sorted (All-permutation Q arcs sorted moved h)

    there : (a : Arc) → Contains arcs a → Contains (dedup (eq_by_cmp order) sorted) a
    there a has = Contains-dedup (eq_by_cmp_equiv total) tied_same sorted a (Contains-permutation arcs sorted a moved has)

    pub sorted_are : AreArcsBy t root names differences kept
    sorted_are = subst (AreArcsBy t root names differences) (sym is) (record {
      ends = all_once (λ a. (a.tail < length names) × (a.head < length names)) are.ends;
      each = all_once (λ a. Contains differences (named a)) are.each;
      all = λ k d l.
          let a = Contains-from_map named arcs (get_or differences k d) (are.all k d l) in
          subst (Contains (map named (dedup (eq_by_cmp order) sorted))) a.2 (Contains-map named (dedup (eq_by_cmp order) sorted) a.0 (there a.0 a.1));
    })

    -- and of two with the same ends there is one
    pub sorted_rise : ((d : Difference P) → Contains differences d → arc_from_to t differences d.tail d.head ≡ Some d) → AllPairs (λ a b. ComesBefore (a.tail, a.head) (b.tail, b.head)) kept
    sorted_rise found = subst (AllPairs (λ a b. ComesBefore (a.tail, a.head) (b.tail, b.head))) (sym is) (λ i j d lt l.
        let each = all_once (λ a. Contains differences (named a)) are.each in
        let x = get_or (dedup (eq_by_cmp order) sorted) i d in
        let y = get_or (dedup (eq_by_cmp order) sorted) j d in
        ends_before x y (Less-from_sorted order (dedup (eq_by_cmp order) sorted) i j d strict lt l) (same_least x y (each i d (omega arith)) (each j d l)))
      where
        strict : IsStrictlySortedBy order (dedup (eq_by_cmp order) sorted)
        strict = IsStrictlySortedBy-dedup total (λ x y. refl) sorted up

        same_least : (x y : Arc) → Contains differences (named x) → Contains differences (named y) → x.tail ≡ y.tail → x.head ≡ y.head → x.least ≡ y.least
        same_least x y in_x in_y tails heads =
            let first = found (named x) in_x in
            let second = found (named y) in_y in
            let ends : arc_from_to t differences (named x).tail (named x).head ≡ arc_from_to t differences (named y).tail (named y).head
            = λ i. arc_from_to t differences (name_by root names (tails i)) (name_by root names (heads i)) in
            let both : Some (named x) ≡ Some (named y) = sym first ∙ ends ∙ second in
            ap least_or_zero both
