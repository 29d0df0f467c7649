-- The values of a graph as a sorted list.
use Rattle.std.proofs.Common.{◌≡◌, ◌==◌, ℕ, ◌+◌, ◌<◌, ◌≤◌, ◌^◌, List, [], ◌∷◌, length, map, get_or, refl, sym, ap, subst, ◌∙◌, arith, Bool, true, false, inl, inr, ⊎_elim, Ordering, Less, Equal, Greater, IsPermutation, nat_cmp, Result, Ok, Err}
use Rattle.std.specs.Prelude.{slice_index_or}
use Rattle.std.specs.List.{All, Contains, HoldsAt, dedup}
use Rattle.std.specs.List.Sorted.{IsSorted, IsStrictlySortedBy, IsBinarySearchResult, IsNonDecreasingBy, IsPartitionPoint}
use Rattle.std.specs.Ordering.{ordering_then, ordering_index, eq_by_cmp, is_eq, is_lt}
use Rattle.std.specs.Cmp.{IsTotalOrder, first_so, second_so}
use Rattle.std.proofs.lemmas.Bool.{cases_lt, eqb-true}
use Rattle.std.proofs.lemmas.Cmp.{ranked, by_ranked, tied_itself, eq_by_cmp_equiv}
use Rattle.std.proofs.lemmas.List.{get_or-map, length-map}
use Rattle.std.proofs.lemmas.List.Elements.{All-map, Contains-get_or}
use Rattle.std.proofs.lemmas.List.Filters.{All-dedup}
use Rattle.std.proofs.lemmas.List.Kept.{Contains-dedup, IsStrictlySortedBy-dedup}
use Rattle.std.proofs.lemmas.List.Sorted.{All-permutation, Contains-permutation, searchable_from_sorted}
use Rattle.std.proofs.lemmas.List.Sums.{count_by-le-length, length-filter, position_or_len_is}
use Rattle.std.proofs.lemmas.Map.Keys.{Less-from_sorted}
use Rattle.std.proofs.lemmas.Result.{MatchResult-at_ok, MatchResult-at_err}
use Rattle.graph_model.specs.Paths.{is_live, live_connections}
use Rattle.graph_model.specs.Sound.{IsSound}
use Rattle.graph_model.specs.declared.graph.Connection.{Connection}
use Rattle.graph_model.specs.declared.graph.Graph.{Graph}
use Rattle.graph_model.proofs.PathLaws.{and_both, same_name}
use Rattle.topology.proofs.LinkFacts.{connection_at}
use Rattle.plan_model.specs.Lives.{Port, source, IsBefore, AreValues, values, with_port, sources_of}
use Rattle.plan_model.specs.Places.{same_port}
use Rattle.plan_model.proofs.CertifiedLaws.{AllPairs_map}
use Rattle.plan_model.proofs.SavedLaws.{Contains-from_map, Contains-map}
use Rattle.plan_model.proofs.SharedLaws.{value_of}
use Rattle.plan_model.proofs.UniqueLaws.{values_are_unique}
use Rattle.plan_model.proofs.ValueLaws.{values_are_listed}
use Rattle.alignment.specs.Links.{links_of}
use Rattle.alignment.specs.Values.{port, read_at, read_of, value_order, place_of_value}
use Rattle.alignment.specs.declared.values.Value.{Value}
use Rattle.alignment.proofs.LinkFacts.{all_links, all_links_map, live_link}

less_before : (x y : Value) → value_order x y ≡ Less → IsBefore (port x) (port y)
less_before x y less =
    by_ranked (x.uid < y.uid) (x.uid ≡ y.uid) (y.uid < x.uid) (nat_cmp x.uid y.uid) (ranked x.uid y.uid _ refl)
    (λ e lt. inl lt)
    (λ e uids. by_ranked (x.channel < y.channel) (x.channel ≡ y.channel) (y.channel < x.channel) (nat_cmp x.channel y.channel) (ranked x.channel y.channel _ refl)
    (λ f lt. inr (uids, lt))
    (λ f channels. let all : value_order x y ≡ Equal = (λ i. ordering_then (e i) (f i)) in absurd (cc))
    (λ f gt. let all : value_order x y ≡ Greater = (λ i. ordering_then (e i) (f i)) in absurd (cc)))
    (λ e gt. let all : value_order x y ≡ Greater = (λ i. ordering_then (e i) (nat_cmp x.channel y.channel)) in absurd (cc))

tied_same : (x y : Value) → eq_by_cmp value_order x y ≡ true → x ≡ y
tied_same x y tie =
    by_ranked (x.uid < y.uid) (x.uid ≡ y.uid) (y.uid < x.uid) (nat_cmp x.uid y.uid) (ranked x.uid y.uid _ refl)
    (λ e lt. let no : eq_by_cmp value_order x y ≡ false = ap (λ o. is_eq (ordering_then o (nat_cmp x.channel y.channel))) e in absurd (cc))
    (λ e uids. by_ranked (x.channel < y.channel) (x.channel ≡ y.channel) (y.channel < x.channel) (nat_cmp x.channel y.channel) (ranked x.channel y.channel _ refl)
    (λ f lt. let no : eq_by_cmp value_order x y ≡ false = (λ i. is_eq (ordering_then (e i) (f i))) in absurd (cc))
    (λ f channels. λ i. record { uid = uids i; channel = channels i })
    (λ f gt. let no : eq_by_cmp value_order x y ≡ false = (λ i. is_eq (ordering_then (e i) (f i))) in absurd (cc)))
    (λ e gt. let no : eq_by_cmp value_order x y ≡ false = ap (λ o. is_eq (ordering_then o (nat_cmp x.channel y.channel))) e in absurd (cc))

-- what the links read is what the live connections read
pub reads_are : (g : Graph) (points : List ℕ) → map (read_of g) (links_of g points) ≡ map read_at (live_connections g)
reads_are g points = all_links_map (read_of g) read_at g points (λ j lt live. refl)

module _ (g : Graph) (total : IsTotalOrder value_order) (sorted : List Value) (moved : IsPermutation (map read_at (live_connections g)) sorted) (up : IsSorted value_order sorted) where
  abbrev kept : List Value
  kept = dedup (eq_by_cmp value_order) sorted

  abbrev IsReadBy : Value → Type 0
  IsReadBy x = (c : Connection) × Contains (live_connections g) c × (source c ≡ port x)

  strict : IsStrictlySortedBy value_order kept
  strict = IsStrictlySortedBy-dedup total (λ x y. refl) sorted up

  each_read : All IsReadBy kept
  each_read =
      All-dedup (eq_by_cmp value_order) IsReadBy sorted
      (All-permutation IsReadBy (map read_at (live_connections g)) sorted moved
      (All-map IsReadBy read_at (live_connections g) (λ k d l. (get_or (live_connections g) k d, Contains-get_or (live_connections g) k d l, refl))))

  are_values : AreValues g (map port kept)
  are_values = record {
    ascending = AllPairs_map port IsBefore kept (λ i j d lt l. less_before (get_or kept i d) (get_or kept j d) (Less-from_sorted value_order kept i j d strict lt l));
    each = All-map (λ x. (c : Connection) × Contains (live_connections g) c × (source c ≡ x)) port kept each_read;
    all = λ k d l.
        let c = get_or (live_connections g) k d in
        Contains-map port kept (read_at c)
        (Contains-dedup (eq_by_cmp_equiv total) tied_same sorted (read_at c)
        (Contains-permutation (map read_at (live_connections g)) sorted (read_at c) moved (Contains-map read_at (live_connections g) c (Contains-get_or (live_connections g) k d l))));
  }

  pub values_made : map port kept ≡ values g
  values_made = values_are_unique g (map port kept) (values g) are_values (values_are_listed g)

-- a link's connection is one of the graph's
pub connections_there : (g : Graph) (points : List ℕ) → All (λ l. l.index < length g.connections) (links_of g points)
connections_there g points = all_links (λ l. l.index < length g.connections) g points (λ j lt live. lt)

-- and reads a value
pub values_read : (g : Graph) → IsSound g → (points : List ℕ) → All (λ l. Contains (values g) (port (read_of g l))) (links_of g points)
values_read g sound points = all_links (λ l. Contains (values g) (port (read_of g l))) g points (λ j lt live. value_of g sound (connection_at g j) (live_link g j lt live))

-- there are no more values than live connections
few_with : (x : Port) (ys : List Port) → length (with_port x ys) ≤ length ys + 1
few_with x [] = omega arith
few_with x (y ∷ ys) = let ih = few_with x ys in grind arith

few_sources : (cs : List Connection) → length (sources_of cs) ≤ length cs
few_sources [] = omega arith
few_sources (c ∷ cs) = let ih = few_sources cs in let one = few_with (source c) (sources_of cs) in omega arith

pub few_live : (g : Graph) → IsSound g → length (live_connections g) ≤ 2 ^ 13
few_live g sound =
    let kept = length-filter (λ c. is_live g c.dst.0) g.connections in
    let most = count_by-le-length (λ c. is_live g c.dst.0) g.connections in
    let fits = sound.fits.1 in
    omega arith

pub few_values : (g : Graph) → IsSound g → length (values g) ≤ 2 ^ 13
few_values g sound = let few = few_sources (live_connections g) in let live = few_live g sound in omega arith

-- ---- the place of a value
apart : (x y : Port) → IsBefore x y → same_port x y ≡ false
apart x y before = go (same_port x y) refl before
  where
    go : (b : Bool) → same_port x y ≡ b → IsBefore x y → b ≡ false
    go false e h = refl
    go true e (inl less) = let u : x.uid.0 ≡ y.uid.0 = eqb-true x.uid.0 y.uid.0 (first_so (x.uid.0 == y.uid.0) (x.channel == y.channel) e) in absurd (omega arith)
    go true e (inr both) = let less = both.1 in let c : x.channel ≡ y.channel = eqb-true x.channel y.channel (second_so (x.uid.0 == y.uid.0) (x.channel == y.channel) e) in absurd (omega arith)

-- the value at a place has that place
pub place_at : (g : Graph) (k : ℕ) (d : Port) → k < length (values g) → place_of_value g (get_or (values g) k d) ≡ k
place_at g k d lt =
    position_or_len_is (λ y. same_port y (get_or (values g) k d)) (values g) k d (omega arith)
    (λ j below. apart (get_or (values g) j d) (get_or (values g) k d) ((values_are_listed g).ascending j k d below lt))
    (λ l. and_both _ _ (same_name (get_or (values g) k d).uid.0) (same_name (get_or (values g) k d).channel))

-- and a value stands at its place
pub at_place : (g : Graph) (x : Port) → Contains (values g) x → (place_of_value g x < length (values g)) × (get_or (values g) (place_of_value g x) x ≡ x)
at_place g x (k, lt, e) =
    let here : place_of_value g x ≡ k = ap (place_of_value g) (sym e) ∙ place_at g k x lt in
    (omega arith, ap (λ j. get_or (values g) j x) here ∙ e)

-- where the values are listed in code
module _ (g : Graph) (xs : List Value) (is : map port xs ≡ values g) where
  pub as_many : length xs ≡ length (values g)
  as_many = sym (length-map xs port) ∙ ap length is

  -- what stands at a place has that place among the values
  pub placed : (k : ℕ) (x : Value) → k < length xs → ((d : Value) → slice_index_or xs k d ≡ x) → place_of_value g (port x) ≡ k
  placed k x lt at =
      let here : get_or (values g) k (port x) ≡ port x = ap (λ ys. get_or ys k (port x)) (sym is) ∙ get_or-map port xs k x (port x) lt ∙ ap port (at x) in
      ap (place_of_value g) (sym here) ∙ place_at g k (port x) (let n = as_many in omega arith)

  -- each is a value
  pub listed_value : (k : ℕ) (d : Value) → k < length xs → Contains (values g) (port (get_or xs k d))
  listed_value k d lt = subst (λ ys. Contains ys (port (get_or xs k d))) is (Contains-map port xs (get_or xs k d) (Contains-get_or xs k d lt))

  -- and each value is listed
  pub value_listed : (x : Value) → Contains (values g) (port x) → Contains xs x
  value_listed x has =
      let y = Contains-from_map port xs (port x) (subst (λ ys. Contains ys (port x)) (sym is) has) in
      let u = ap (λ (z : Port). z.uid.0) y.2 in
      let c = ap (λ (z : Port). z.channel) y.2 in
      let same : y.0 ≡ x = λ i. record { uid = u i; channel = c i } in
      subst (Contains xs) same y.1

-- ---- the place of a value in the list
-- the values stand in their order
pub values_rise : (g : Graph) (xs : List Value) → map port xs ≡ values g → IsSorted value_order xs
values_rise g xs is k d low lt =
    let before : IsBefore (get_or (map port xs) k (port d)) (get_or (map port xs) (k + 1) (port d))
    = subst (λ ys. IsBefore (get_or ys k (port d)) (get_or ys (k + 1) (port d))) (sym is) ((values_are_listed g).ascending k (k + 1) (port d) (omega arith) (omega (arith, ap length is, length-map xs port))) in
    let a = get_or-map port xs k d (port d) (omega arith) in
    let b = get_or-map port xs (k + 1) d (port d) lt in
    not_less (get_or xs k d) (get_or xs (k + 1) d) (subst (λ y. IsBefore y (port (get_or xs (k + 1) d))) a (subst (λ y. IsBefore (get_or (map port xs) k (port d)) y) b before))
  where
    not_less : (x y : Value) → IsBefore (port x) (port y) → is_lt (value_order y x) ≡ false
    not_less x y (inl less) =
        by_ranked (y.uid < x.uid) (y.uid ≡ x.uid) (x.uid < y.uid) (nat_cmp y.uid x.uid) (ranked y.uid x.uid _ refl)
        (λ e lt. absurd (omega arith))
        (λ e uids. absurd (omega arith))
        (λ e gt. ap (λ o. is_lt (ordering_then o (nat_cmp y.channel x.channel))) e)
    not_less x y (inr both) =
        let same = both.0 in
        let less = both.1 in
        by_ranked (y.uid < x.uid) (y.uid ≡ x.uid) (x.uid < y.uid) (nat_cmp y.uid x.uid) (ranked y.uid x.uid _ refl)
        (λ e lt. absurd (omega arith))
        (λ e uids. by_ranked (y.channel < x.channel) (y.channel ≡ x.channel) (x.channel < y.channel) (nat_cmp y.channel x.channel) (ranked y.channel x.channel _ refl)
        (λ f lt. absurd (omega arith))
        (λ f channels. absurd (omega arith))
        (λ f gt. λ i. is_lt (ordering_then (e i) (f i))))
        (λ e gt. absurd (omega arith))

-- what the search finds is the value, and what it does not find is none of the values
pub value_found : (total : IsTotalOrder value_order) (xs : List Value) (x : Value) (r : Result ℕ ℕ) (k : ℕ) → IsBinarySearchResult (λ y. value_order y x) xs r → r ≡ Ok k → (d : Value) → slice_index_or xs k d ≡ x
value_found total xs x r k result is d =
    tied_same (slice_index_or xs k d) x (ap is_eq (MatchResult-at_ok (HoldsAt (λ y. value_order y x ≡ Equal) xs) (λ i. IsNonDecreasingBy (λ y. ordering_index (value_order y x)) xs → IsPartitionPoint (λ y. value_order y x ≡ Less) (λ y. value_order y x ≡ Greater) xs i) k is result d))

pub value_not_there : (total : IsTotalOrder value_order) (xs : List Value) (x : Value) (r : Result ℕ ℕ) (k : ℕ) → IsSorted value_order xs → IsBinarySearchResult (λ y. value_order y x) xs r → r ≡ Err k → Contains xs x → ⊥
value_not_there total xs x r k sorted result is (j, lt, at) =
    let point = MatchResult-at_err (HoldsAt (λ y. value_order y x ≡ Equal) xs) (λ i. IsNonDecreasingBy (λ y. ordering_index (value_order y x)) xs → IsPartitionPoint (λ y. value_order y x ≡ Less) (λ y. value_order y x ≡ Greater) xs i) k is result
    (searchable_from_sorted total (λ y. y) xs x sorted) in
    let itself : value_order (get_or xs j x) x ≡ Equal = ap (λ y. value_order y x) at ∙ tied_itself total x in
    ⊎_elim
    (λ before. let less = point.0 j x (omega arith) before in clash_less (value_order (get_or xs j x) x) itself less)
    (λ after. let more = point.1 j x after lt in clash_more (value_order (get_or xs j x) x) itself more)
    (cases_lt j k)
  where
    clash_less : (o : Ordering) → o ≡ Equal → o ≡ Less → ⊥
    clash_less o e f = absurd (cc)

    clash_more : (o : Ordering) → o ≡ Equal → o ≡ Greater → ⊥
    clash_more o e f = absurd (cc)
