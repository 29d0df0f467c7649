-- The differences of a network by their ends.
use Rattle.std.proofs.Common.{◌≡◌, ℕ, zero, suc, ◌+◌, ◌≤◌, ℤ, pos, neg_ℤ, List, [], ◌∷◌, ◌++◌, map, refl, sym, ap, ◌∙◌, arith, ◌⊎◌, inl, inr, cond, ◌==◌, Bool, true, false, Some, None, get_or}
use Rattle.std.specs.Prelude.{count_by, AllPairs}
use Rattle.std.specs.List.{AllByRecursion, Contains, find}
use Rattle.std.specs.Cmp.{first_so, second_so}
use Rattle.std.proofs.lemmas.Bool.{eqb-true, eq-eqb, ne_eqb, and_from, cases_order}
use Rattle.std.proofs.lemmas.List.{get_or_default}
use Rattle.std.proofs.lemmas.List.Sums.{sum_by-cons}
use Rattle.std.proofs.lemmas.List.Elements.{All-from_recursion, All-contains, recursion_from_All}
use Rattle.graph_model.specs.Graphs.{latency_at, input_name, output_name, name_or_zero, is_input, is_output}
use Rattle.graph_model.specs.Members.{bad_member}
use Rattle.graph_model.specs.Paths.{is_live, live_nodes, live_connections, depth, latency_of_graph}
use Rattle.graph_model.specs.Ranges.{IsInRange}
use Rattle.graph_model.specs.Sound.{IsSound}
use Rattle.graph_model.specs.declared.kind.Kind.{Kind}
use Rattle.graph_model.specs.declared.kind.Kind.TheVariants.{Input}
use Rattle.graph_model.specs.declared.graph.Graph.{Graph}
use Rattle.graph_model.proofs.HistoryLaws.{all_of}
use Rattle.graph_model.proofs.PathLaws.{at_tail, first_or_later, same_name}
use Rattle.graph_model.proofs.RangeLaws.{in_range}
use Rattle.graph_model.proofs.RankLaws.{sound_is_ranked}
use Rattle.graph_model.proofs.NameFacts.{same_uid}
use Rattle.plan_model.specs.Flows.{along, from_root, network, arc_between, terms}
use Rattle.plan_model.specs.Networks.{Difference, Terms, is_arc_between, arc_from_to}
use Rattle.plan_model.proofs.DualityLaws.{named, live_names}
use Rattle.plan_model.proofs.NetworkLaws.{all_append, all_map, all_weaker}
use Rattle.graph_model.proofs.NodeFacts.{output_is_node}

-- ---- lists
-- the only entry that passes is the one that is found
find_only : {X : Type 0} (p : X → Bool) (xs : List X) (x : X) → Contains xs x → p x ≡ true → ((y : X) → Contains xs y → p y ≡ true → y ≡ x) → find p xs ≡ Some x
find_only p [] x has is only = let l = has.1 in absurd (omega arith)
find_only p (y ∷ xs) x has is only = go (p y) refl (first_or_later y x xs has) (λ there. find_only p xs x there is (λ z h. only z (at_tail y z xs h)))
  where
    go : (b : Bool) → p y ≡ b → (y ≡ x) ⊎ Contains xs x → (Contains xs x → find p xs ≡ Some x) → cond b (Some y) (find p xs) ≡ Some x
    go true e c rest = ap Some (only y (0, omega arith, refl) e)
    go false e (inl same) rest = let f : p y ≡ p x = ap p same in absurd (cc)
    go false e (inr there) rest = rest there

-- where two ends have one least difference, each difference is the one that is found between its ends
pub found_between : {P E L : Type 0} (t : Terms P E L) → ((u v : P) → t.same u v ≡ true → u ≡ v) → ((v : P) → t.same v v ≡ true) → (between : P → P → ℤ) (ds : List (Difference P))
    → AllByRecursion (λ d. d.least ≡ between d.tail d.head) ds → (d : Difference P) → Contains ds d → arc_from_to t ds d.tail d.head ≡ Some d
found_between {P} t told itself between ds as_between d has =
    let least : (e : Difference P) → Contains ds e → e.least ≡ between e.tail e.head
    = λ e there. All-contains (λ x. x.least ≡ between x.tail x.head) ds e (All-from_recursion (λ x. x.least ≡ between x.tail x.head) ds as_between) there in
    find_only (is_arc_between t d.tail d.head) ds d has (and_from _ _ (itself d.tail) (itself d.head))
    (λ e there is.
    let u : e.tail ≡ d.tail = told e.tail d.tail (first_so _ _ is) in
    let v : e.head ≡ d.head = told e.head d.head (second_so _ _ is) in
    let same : e.least ≡ d.least = least e there ∙ (λ i. between (u i) (v i)) ∙ sym (least d has) in
    λ i. record { tail = u i; head = v i; least = same i })

-- where one entry passes, the one that is found stands in the list and passes
pub find_one : {X : Type 0} (p : X → Bool) (xs : List X) → count_by p xs ≡ 1 → (x : X) × Contains xs x × (p x ≡ true) × (find p xs ≡ Some x)
find_one p [] e = absurd (cc)
find_one {X} p (y ∷ xs) e = go (p y) refl (sum_by-cons (λ x. cond (p x) 1 0) y xs) (λ k. find_one p xs k)
  where
    go : (b : Bool) → p y ≡ b → count_by p (y ∷ xs) ≡ cond b 1 0 + count_by p xs → (count_by p xs ≡ 1 → (x : X) × Contains xs x × (p x ≡ true) × (find p xs ≡ Some x))
        → (x : X) × Contains (y ∷ xs) x × (p x ≡ true) × (cond b (Some y) (find p xs) ≡ Some x)
    go true is sum rest = (y, (0, omega arith, refl), is, refl)
    go false is sum rest = let r = rest (omega arith) in (r.0, at_tail y r.0 xs r.1, r.2, r.3)

-- where no two entries have one name, entries of one name are one
same_entry : {X : Type 0} (name : X → ℕ) (xs : List X) → AllPairs (λ x y. name x ≡ name y → ⊥) xs → (x y : X) → Contains xs x → Contains xs y → name x ≡ name y → x ≡ y
same_entry name xs apart x y (i, l, at_i) (j, m, at_j) same =
    let first : get_or xs i y ≡ x = get_or_default xs i y x l ∙ at_i in
    elim (cases_order i j) [
      | inl one ↦ sym first ∙ ap (λ k. get_or xs k y) one ∙ at_j
      | inr (inl less) ↦ absurd (apart i j y less m (ap name first ∙ same ∙ sym (ap name at_j)))
      | inr (inr more) ↦ absurd (apart j i y more l (ap name at_j ∙ sym same ∙ sym (ap name first)))
    ]

-- ---- input and output
-- no kind is both
input_is_no_output : (kind : Kind) → is_input kind ≡ true → is_output kind ≡ true → ⊥
input_is_no_output (Input channels) i o = absurd (cc)
input_is_no_output kind i o = absurd (cc)

-- ---- the least difference between two points
-- by their names: 0 from the root, minus the latency from the output node to the root, the latency of the tail
-- between nodes
abbrev pub least_between : Graph → ℕ → ℕ → ℤ
least_between g zero h = pos 0
least_between g (suc t) zero = cond (suc t == output_name g) (neg_ℤ (pos (latency_of_graph g))) (pos 0)
least_between g (suc t) (suc h) = pos (latency_at g (suc t))

-- the least difference is the one between its ends
abbrev IsAsBetween : Graph → Difference ℕ → Type 0
IsAsBetween g d = d.least ≡ least_between g d.tail d.head

module _ (g : Graph) (sound : IsSound g) where
  -- the input node is not the output node
  pub ends_differ : input_name g ≡ output_name g → ⊥
  ends_differ same =
      let i = find_one (λ n. is_input n.kind) g.nodes sound.shaped.ends.0 in
      let o = find_one (λ n. is_output n.kind) g.nodes sound.shaped.ends.1 in
      let names : i.0.uid.0 ≡ o.0.uid.0 = sym (ap name_or_zero i.3) ∙ same ∙ ap name_or_zero o.3 in
      let one = same_entry (λ n. n.uid.0) g.nodes (λ j k d less l e. sound.shaped.uids_differ j k d less l (same_uid _ _ e)) i.0 o.0 i.1 o.1 names in
      input_is_no_output i.0.kind i.2 (ap (λ n. is_output n.kind) one ∙ o.2)

  -- the input node has a name from 1 on
  pub input_named : 1 ≤ input_name g
  input_named =
      let i = find_one (λ n. is_input n.kind) g.nodes sound.shaped.ends.0 in
      let is : input_name g ≡ i.0.uid.0 = ap name_or_zero i.3 in
      let named = (in_range i.0 (All-contains (λ n. bad_member n ≡ None) g.nodes i.0 sound.shaped.in_range i.1)).0.0 in
      omega (arith, is, named)

  -- the output node has a name from 1 on
  pub output_named : 1 ≤ output_name g
  output_named = named (output_name g) g.nodes
      (all_weaker (λ n. bad_member n ≡ None) IsInRange g.nodes in_range (recursion_from_All (λ n. bad_member n ≡ None) g.nodes sound.shaped.in_range)) (output_is_node g sound)

  -- between nodes it is the latency of the tail
  pub between_nodes : (t h : ℕ) → 1 ≤ t → 1 ≤ h → pos (latency_at g t) ≡ least_between g t h
  between_nodes zero h l m = absurd (omega arith)
  between_nodes (suc t) zero l m = absurd (omega arith)
  between_nodes (suc t) (suc h) l m = refl

  -- to the root, but from the output node, it is 0
  pub from_input : (t : ℕ) → (t ≡ output_name g → ⊥) → pos 0 ≡ least_between g t 0
  from_input zero ne = refl
  from_input (suc t) ne = rw (ne_eqb (suc t) (output_name g) ne) refl

  -- from the output node to the root it is minus the latency
  pub from_output : (t : ℕ) → 1 ≤ t → t ≡ output_name g → neg_ℤ (pos (latency_of_graph g)) ≡ least_between g t 0
  from_output zero l e = absurd (omega arith)
  from_output (suc t) l e = rw (eq-eqb (suc t) (output_name g) e) refl

  -- each difference of the network is the one between its ends
  as_between : AllByRecursion (IsAsBetween g) (network g (latency_of_graph g))
  as_between =
      all_append (IsAsBetween g) (map (along g) (live_connections g)) _
      (all_map (IsAsBetween g) (along g) (live_connections g)
      (all_weaker _ (λ c. IsAsBetween g (along g c)) (live_connections g) (λ c h. between_nodes c.src.0 c.dst.0 h.0 h.1) (live_names g (depth g) sound (sound_is_ranked g sound))))
      (all_append (IsAsBetween g) (map from_root (live_nodes g)) _
      (all_map (IsAsBetween g) from_root (live_nodes g) (all_of (λ v. IsAsBetween g (from_root v)) (live_nodes g) (λ v. refl)))
      (to_root_as (is_live g (input_name g))))
    where
      last : IsAsBetween g (record { tail = output_name g; head = 0; least = neg_ℤ (pos (latency_of_graph g)) })
      last = from_output (output_name g) output_named refl

      to_root_as : (b : Bool) → AllByRecursion (IsAsBetween g)
          (cond b (record { tail = input_name g; head = 0; least = pos 0 } ∷ []) [] ++ record { tail = output_name g; head = 0; least = neg_ℤ (pos (latency_of_graph g)) } ∷ [])
      to_root_as true = (from_input (input_name g) ends_differ, (last, tt))
      to_root_as false = (last, tt)

-- each difference of the network is the one that is found between its ends
pub arc_found : (g : Graph) → IsSound g → (d : Difference ℕ) → Contains (network g (latency_of_graph g)) d → arc_between g (latency_of_graph g) d.tail d.head ≡ Some d
arc_found g sound = found_between (terms g) eqb-true same_name (least_between g) (network g (latency_of_graph g)) (as_between g sound)
