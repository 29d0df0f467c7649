-- Weak duality and complementary slackness for shared lines.
use Rattle.std.proofs.Common.{◌≡◌, ℕ, zero, suc, ◌+◌, ◌-◌, ◌≤◌, ◌⊎◌, pos, ◌+ℤ◌, neg_ℤ, ◌≤ℤ◌, List, [], ◌∷◌, ◌++◌, map, refl, sym, ap, subst, ◌∙◌, arith, inl, inr, cond, ◌==◌, ◌&&◌, ◌||◌, Bool, true, false, Option, Some, None, get_or}
use Rattle.std.specs.Prelude.{sum_by, count_by}
use Rattle.std.specs.List.{All, AllByRecursion, Contains, list_any}
use Rattle.std.proofs.lemmas.Int.{ints}
use Rattle.std.proofs.lemmas.Bool.{eqb-true}
use Rattle.std.proofs.lemmas.List.Elements.{recursion_from_All, All-from_recursion, All-contains, Contains-get_or}
use Rattle.std.specs.Cmp.{first_so, second_so}
use Rattle.graph_model.specs.Graphs.{IsRanked, IsNode, latency_at, input_name, output_name}
use Rattle.graph_model.specs.Paths.{is_live, live_nodes, live_connections, greatest, depth}
use Rattle.graph_model.specs.Sound.{IsSound}
use Rattle.graph_model.specs.Answers.{delay}
use Rattle.graph_model.proofs.HistoryLaws.{filter_all, all_of}
use Rattle.graph_model.proofs.PathLaws.{live_by_paths, live_by_test, same_name, and_both, any_at, found}
use Rattle.graph_model.proofs.RankLaws.{sound_is_ranked}
use Rattle.graph_model.proofs.ReachLaws.{greatest_over, greatest_under, filter_has, filter_from}
use Rattle.graph_model.specs.declared.graph.Uid.{Uid}
use Rattle.graph_model.specs.declared.graph.Connection.{Connection}
use Rattle.graph_model.specs.declared.graph.Graph.{Graph}
use Rattle.plan_model.specs.Alignments.{IsAlignment, IsAfter}
use Rattle.plan_model.specs.Networks.{Difference, Keeps, KeepsLink, MeetsLinks, measure, slack, links_needed}
use Rattle.plan_model.specs.Flows.{IsPoint}
use Rattle.plan_model.specs.Lives.{Port, source, reads_of, IsBefore, values}
use Rattle.plan_model.specs.Duality.{rooted}
use Rattle.plan_model.specs.SharedLines.{line_length, shared_total}
use Rattle.plan_model.specs.SharedFlows.{at_node, mirror, same_channel, same_point, shared_terms, along_nodes, to_mirror, root_to, ends_to_root, mirror_to_root, shared_network, IsSharedPoint, need_by, IsSharedFlow, shared_bound, mirrored}
use Rattle.plan_model.specs.SharedDuality.{IsSharedTight, SharedWeakDuality, SharedOptimumIsTight, SharedTightIsOptimum}
use Rattle.plan_model.specs.declared.shared.Point.{Point}
use Rattle.plan_model.specs.declared.shared.PointUnits.{PointUnits}
use Rattle.plan_model.proofs.BelowFacts.{count_by-le_one, count_by_at}
use Rattle.plan_model.proofs.SumLaws.{sum_none, sum_same}
use Rattle.plan_model.proofs.NetworkLaws.{all_append, all_map, meets_all, weakly_dual, tight_of_optimum, optimum_of_tight}
use Rattle.graph_model.proofs.LiveLaws.{output_is_live}
use Rattle.graph_model.proofs.NodeFacts.{output_is_node}
use Rattle.plan_model.proofs.DualityLaws.{rooted_at, live_names, live_ends}
use Rattle.plan_model.proofs.LastLaws.{output_is_last}
use Rattle.plan_model.proofs.ValueLaws.{values_are_listed}

-- ---- points
told_channel : (c d : Option ℕ) → same_channel c d ≡ true → c ≡ d
told_channel None None e = refl
told_channel None (Some d) e = absurd (cc)
told_channel (Some c) None e = absurd (cc)
told_channel (Some c) (Some d) e = ap Some (eqb-true c d e)

itself_channel : (c : Option ℕ) → same_channel c c ≡ true
itself_channel None = refl
itself_channel (Some c) = same_name c

pub told_point : (x y : Point) → same_point x y ≡ true → x ≡ y
told_point x y e =
    let c = told_channel x.channel y.channel (first_so _ _ e) in
    let u = eqb-true x.uid y.uid (second_so _ _ e) in
    λ i. record { uid = u i; channel = c i }

pub itself_point : (x : Point) → same_point x x ≡ true
itself_point x = and_both _ _ (itself_channel x.channel) (same_name x.uid)

-- the test of a point
abbrev is_value : Graph → ℕ → ℕ → Bool
is_value g v c = list_any (λ x. (x.uid.0 == v) && (x.channel == c)) (values g)

abbrev tests : Graph → ℕ → Option ℕ → Bool
tests g v None = (v == 0) || is_live g v
tests g v (Some c) = is_value g v c

abbrev is_point : Graph → Point → Bool
is_point g x = tests g x.uid x.channel

-- ---- the greatest of a list
pub greatest_same : {X : Type 0} (f h : X → ℕ) (xs : List X) → AllByRecursion (λ x. f x ≡ h x) xs → greatest (map f xs) ≡ greatest (map h xs)
greatest_same f h [] e = refl
greatest_same f h (x ∷ xs) e = let a = e.0 in let b = greatest_same f h xs e.1 in omega arith

greatest_less : {X : Type 0} (f : X → ℕ) (k : ℕ) (xs : List X) → greatest (map f xs) - k ≡ greatest (map (λ x. f x - k) xs)
greatest_less f k [] = omega arith
greatest_less f k (x ∷ xs) = let ih = greatest_less f k xs in omega arith

-- each of those that are in the list
pub every : {X : Type 0} (P : X → Type 0) (xs : List X) → ((x : X) → Contains xs x → P x) → AllByRecursion P xs
every P xs f = recursion_from_All P xs (λ k d l. f (get_or xs k d) (Contains-get_or xs k d l))

read_by : (x : Port) (c : Connection) → source c ≡ x → ((c.src.0 == x.uid.0) && (c.src_channel == x.channel)) ≡ true
read_by x c e =
    let u = ap (λ (y : Port). y.uid.0) e in
    let d = ap (λ (y : Port). y.channel) e in
    and_both _ _ (ap (λ n. n == x.uid.0) u ∙ same_name x.uid.0) (ap (λ n. n == x.channel) d ∙ same_name x.channel)

or_first : (a b : Bool) → a ≡ true → (a || b) ≡ true
or_first true b e = refl
or_first false b e = absurd (cc)

or_second : (a b : Bool) → b ≡ true → (a || b) ≡ true
or_second true b e = refl
or_second false b e = e

or_either : (a b : Bool) → (a || b) ≡ true → (a ≡ true) ⊎ (b ≡ true)
or_either true b e = inl refl
or_either false b e = inr e

module _ (g : Graph) (sound : IsSound g) where
  ranked : IsRanked (depth g) g
  ranked = sound_is_ranked g sound

  node : IsNode g (output_name g)
  node = output_is_node g sound

  -- ---- a value is read by a live connection
  pub reader : (x : Port) → Contains (values g) x → (c : Connection) × Contains (live_connections g) c × (source c ≡ x)
  reader x has = All-contains (λ x. (c : Connection) × Contains (live_connections g) c × (source c ≡ x)) (values g) x (values_are_listed g).each has

  pub value_of : (c : Connection) → Contains (live_connections g) c → Contains (values g) (source c)
  value_of c has = All-contains (λ c. Contains (values g) (source c)) (live_connections g) c (values_are_listed g).all has

  pub names_in : (c : Connection) → Contains (live_connections g) c → (1 ≤ c.src.0) × (1 ≤ c.dst.0)
  names_in c has = All-contains (λ c. (1 ≤ c.src.0) × (1 ≤ c.dst.0)) (live_connections g) c (All-from_recursion _ (live_connections g) (live_names g (depth g) sound ranked)) has

  pub ends_in : (c : Connection) → Contains (live_connections g) c → (is_live g c.src.0 ≡ true) × (is_live g c.dst.0 ≡ true)
  ends_in c has = All-contains (λ c. (is_live g c.src.0 ≡ true) × (is_live g c.dst.0 ≡ true)) (live_connections g) c (All-from_recursion _ (live_connections g) (live_ends g (depth g) sound ranked)) has

  tests_value : (x : Port) → Contains (values g) x → is_value g x.uid.0 x.channel ≡ true
  tests_value x has = any_at (λ y. (y.uid.0 == x.uid.0) && (y.channel == x.channel)) (values g) x has (and_both _ _ (same_name x.uid.0) (same_name x.channel))

  -- a read of a value
  pub read_of : (x : Port) → Contains (values g) x → (c : Connection) × Contains (live_connections g) c × Contains (reads_of g x.uid x.channel) c × (c.src.0 ≡ x.uid.0)
  read_of x has =
      let r = reader x has in
      (r.0, r.1, filter_has (λ d. (d.src.0 == x.uid.0) && (d.src_channel == x.channel)) (live_connections g) r.0 r.1 (read_by x r.0 r.2), ap (λ (y : Port). y.uid.0) r.2)

  -- and each of them
  pub from_read : (u : Uid) (channel : ℕ) (c : Connection) → Contains (reads_of g u channel) c → Contains (live_connections g) c × (c.src.0 ≡ u.0)
  from_read u channel c has =
      let f = filter_from (λ d. (d.src.0 == u.0) && (d.src_channel == channel)) (live_connections g) c has in
      (f.0, eqb-true _ _ (first_so _ _ f.1))

  same_port : (x : Port) (c : Connection) → c.src.0 ≡ x.uid.0 → c.src_channel ≡ x.channel → source c ≡ x
  same_port x c u d = λ i. record { uid = record { 0 = u i }; channel = d i }

  pub from_read_port : (x : Port) (c : Connection) → Contains (reads_of g x.uid x.channel) c → Contains (live_connections g) c × (source c ≡ x)
  from_read_port x c has =
      let f = filter_from (λ d. (d.src.0 == x.uid.0) && (d.src_channel == x.channel)) (live_connections g) c has in
      (f.0, same_port x c (eqb-true _ _ (first_so _ _ f.1)) (eqb-true _ _ (second_so _ _ f.1)))

  -- ---- ends are points
  live_point : (v : ℕ) → is_live g v ≡ true → is_point g (at_node v) ≡ true
  live_point v e = or_second (v == 0) (is_live g v) e

  root_point : is_point g (at_node 0) ≡ true
  root_point = refl

  abbrev ArePoints : Difference Point → Type 0
  ArePoints a = (is_point g a.tail ≡ true) × (is_point g a.head ≡ true)

  ends_are_points : (latency : ℕ) → AllByRecursion ArePoints (shared_network g latency)
  ends_are_points latency =
      all_append ArePoints (map (along_nodes g) (live_connections g)) _
      (all_map ArePoints (along_nodes g) (live_connections g) (every _ (live_connections g) (λ c has. let e = ends_in c has in (live_point c.src.0 e.0, live_point c.dst.0 e.1))))
      (all_append ArePoints (map to_mirror (live_connections g)) _
      (all_map ArePoints to_mirror (live_connections g) (every _ (live_connections g) (λ c has. let e = ends_in c has in (live_point c.dst.0 e.1, tests_value (source c) (value_of c has)))))
      (all_append ArePoints (map root_to (live_nodes g)) _
      (all_map ArePoints root_to (live_nodes g) (filter_all (is_live g) (λ v. Unit {0}) (λ v. ArePoints (root_to v)) (map (λ n. n.uid.0) g.nodes) (all_of (λ v. Unit {0}) _ (λ v. tt)) (λ v e u. (root_point, live_point v e))))
      (all_append ArePoints (ends_to_root g latency) _ (go (is_live g (input_name g)) refl)
      (all_map ArePoints (mirror_to_root latency) (values g) (every _ (values g) (λ x has. (tests_value x has, root_point)))))))
    where
      out : is_point g (at_node (output_name g)) ≡ true
      out = live_point (output_name g) (output_is_live g sound)

      go : (b : Bool) → is_live g (input_name g) ≡ b → AllByRecursion ArePoints
          (cond b (record { tail = at_node (input_name g); head = at_node 0; least = pos 0 } ∷ []) [] ++ record { tail = at_node (output_name g); head = at_node 0; least = neg_ℤ (pos latency) } ∷ [])
      go true e = ((live_point (input_name g) e, root_point), ((out, root_point), tt))
      go false e = ((out, root_point), tt)

  links_are_points : AllByRecursion (λ x. (is_point g (at_node x.uid.0) ≡ true) × (is_point g (mirror x) ≡ true)) (values g)
  links_are_points =
      every _ (values g) (λ x has.
      let r = read_of x has in
      let live : is_live g x.uid.0 ≡ true = ap (is_live g) (sym r.3) ∙ (ends_in r.0 r.1).0 in
      (live_point x.uid.0 live, tests_value x has))

  -- ---- needs
  clash : (v c : ℕ) (x y : Port) → IsBefore x y → x.channel ≡ c → x.uid.0 ≡ v → y.channel ≡ c → y.uid.0 ≡ v → ⊥
  clash v c x y (inl l) a b d e = omega arith
  clash v c x y (inr l) a b d e = omega (arith, l.1)

  apart : (v c : ℕ) (x y : Port) → IsBefore x y → ((x.channel == c) && (x.uid.0 == v)) ≡ true → ((y.channel == c) && (y.uid.0 == v)) ≡ true → ⊥
  apart v c x y before p q =
      clash v c x y before (eqb-true x.channel c (first_so _ _ p)) (eqb-true x.uid.0 v (second_so _ _ p)) (eqb-true y.channel c (first_so _ _ q)) (eqb-true y.uid.0 v (second_so _ _ q))

  -- a value stands once
  once : (v c : ℕ) → is_value g v c ≡ true → count_by (λ x. (x.channel == c) && (x.uid.0 == v)) (values g) ≡ 1
  once v c is =
      let f = found (λ x. (x.uid.0 == v) && (x.channel == c)) (values g) is in
      let most = count_by-le_one (λ x. (x.channel == c) && (x.uid.0 == v)) (values g)
      (λ i j d less l p q. apart v c (get_or (values g) i d) (get_or (values g) j d) ((values_are_listed g).ascending i j d less l) p q) in
      let some = count_by_at (λ x. (x.channel == c) && (x.uid.0 == v)) (values g) f.0 f.1 (and_both (f.0.channel == c) (f.0.uid.0 == v) (second_so _ _ f.2) (first_so _ _ f.2)) in
      omega arith

  none : (xs : List Port) → sum_by (λ (x : Port). 0) xs ≡ 0
  none xs = sum_none (λ (x : Port). 0) xs (all_of (λ x. 0 ≡ 0) xs (λ x. refl))

  pub needs_are : (v : ℕ) (c : Option ℕ) → tests g v c ≡ true → need_by g v c ≡ links_needed (shared_terms g) (values g) (record { uid = v; channel = c })
  needs_are v None is = let z = none (values g) in omega (arith, ints)
  needs_are v (Some c) is = let z = none (values g) in let o = once v c is in omega (arith, ints)

  pub needs_of_node : (v : ℕ) → IsPoint g v → need_by g v None ≡ links_needed (shared_terms g) (values g) (at_node v)
  needs_of_node v (inl root) = needs_are v None (or_first (v == 0) (is_live g v) (ap (λ u. u == 0) root))
  needs_of_node v (inr live) = needs_are v None (or_second (v == 0) (is_live g v) (live_by_test g (depth g) ranked v live))

  pub needs_of_mirror : (x : Port) → Contains (values g) x → need_by g x.uid.0 (Some x.channel) ≡ links_needed (shared_terms g) (values g) (mirror x)
  needs_of_mirror x has = needs_are x.uid.0 (Some x.channel) (tests_value x has)

  points_are : (v : ℕ) (c : Option ℕ) → tests g v c ≡ true → IsSharedPoint g (record { uid = v; channel = c })
  points_are v None is =
      elim (or_either (v == 0) (is_live g v) is) [
        | inl root ↦ inl (eqb-true v 0 root)
        | inr live ↦ inr (live_by_paths g (depth g) ranked node v live)
      ]
  points_are v (Some c) is =
      let f = found (λ x. (x.uid.0 == v) && (x.channel == c)) (values g) is in
      let u = eqb-true _ _ (first_so _ _ f.2) in
      let d = eqb-true _ _ (second_so _ _ f.2) in
      let same : f.0 ≡ record { uid = record { 0 = v }; channel = c } = λ i. record { uid = record { 0 = u i }; channel = d i } in
      subst (Contains (values g)) same f.1

  pub meets_links : (latency : ℕ) (flow : List PointUnits) → IsSharedFlow g latency flow → MeetsLinks (shared_terms g) (values g) flow
  meets_links latency flow f =
      meets_all (shared_terms g) told_point (is_point g) (shared_network g latency) (ends_are_points latency) (values g) links_are_points flow f.arcs
      (λ x is. f.needs x (points_are x.uid x.channel is) ∙ needs_are x.uid x.channel is)

  -- ---- an alignment with its mirrors
  module _ (latency : ℕ) (p : ℕ → ℕ) (al : IsAlignment g p) (at_end : p (output_name g) ≡ latency) where
    after : (c : Connection) → Contains (live_connections g) c → p c.src.0 + latency_at g c.src.0 ≤ p c.dst.0
    after c has = All-contains (IsAfter g p) (live_connections g) c al.after has

    not_late : (c : Connection) → Contains (live_connections g) c → p c.dst.0 ≤ latency
    not_late c has =
        let l = output_is_last g sound p al c.dst.0 (live_by_paths g (depth g) ranked node c.dst.0 (ends_in c has).1) in
        omega arith

    input_at : (v : ℕ) → p v ≡ 0 → rooted p v ≡ 0
    input_at zero e = refl
    input_at (suc v) e = e

    output_at : (v : ℕ) → p v ≡ latency → rooted p v ≤ latency
    output_at zero e = omega arith
    output_at (suc v) e = omega arith

    abbrev Kept : Difference Point → Type 0
    Kept a = Keeps (mirrored g p) a

    pub keeps_shared : AllByRecursion Kept (shared_network g latency)
    keeps_shared =
        all_append Kept (map (along_nodes g) (live_connections g)) _
        (all_map Kept (along_nodes g) (live_connections g) (every _ (live_connections g) (λ c has.
        let n = names_in c has in
        let s = rooted_at p c.src.0 n.0 in
        let t = rooted_at p c.dst.0 n.1 in
        let a = after c has in
        omega (arith, ints))))
        (all_append Kept (map to_mirror (live_connections g)) _
        (all_map Kept to_mirror (live_connections g) (every _ (live_connections g) (λ c has.
        let t = rooted_at p c.dst.0 (names_in c has).1 in
        let read = filter_has (λ d. (d.src.0 == c.src.0) && (d.src_channel == c.src_channel)) (live_connections g) c has (and_both _ _ (same_name c.src.0) (same_name c.src_channel)) in
        let over = greatest_over (λ (d : Connection). p d.dst.0) (reads_of g c.src c.src_channel) c read in
        omega (arith, ints))))
        (all_append Kept (map root_to (live_nodes g)) _
        (all_map Kept root_to (live_nodes g) (all_of (λ v. Kept (root_to v)) (live_nodes g) (λ v. omega (arith, ints))))
        (all_append Kept (ends_to_root g latency) _ (go (is_live g (input_name g)) refl)
        (all_map Kept (mirror_to_root latency) (values g) (all_of (λ x. Kept (mirror_to_root latency x)) (values g) (λ x.
        let under = greatest_under (λ (d : Connection). p d.dst.0) latency (reads_of g x.uid x.channel) (every _ (reads_of g x.uid x.channel) (λ c has. not_late c (from_read x.uid x.channel c has).0)) in
        omega (arith, ints)))))))
      where
        last : (neg_ℤ (pos latency) +ℤ pos (rooted p (output_name g))) ≤ℤ pos 0
        last = let l = output_at (output_name g) at_end in omega (arith, ints)

        go : (b : Bool) → is_live g (input_name g) ≡ b → AllByRecursion Kept
            (cond b (record { tail = at_node (input_name g); head = at_node 0; least = pos 0 } ∷ []) [] ++ record { tail = at_node (output_name g); head = at_node 0; least = neg_ℤ (pos latency) } ∷ [])
        go true e = let z = input_at (input_name g) (al.input (live_by_paths g (depth g) ranked node (input_name g) e)) in (omega (arith, ints), (last, tt))
        go false e = (last, tt)

    -- the node of a value is named
    named_value : (x : Port) → Contains (values g) x → rooted p x.uid.0 ≡ p x.uid.0
    named_value x has = let r = read_of x has in rooted_at p x.uid.0 (subst (λ n. 1 ≤ n) r.3 (names_in r.0 r.1).0)

    pub keeps_links : AllByRecursion (KeepsLink (shared_terms g) (mirrored g p)) (values g)
    keeps_links = every _ (values g) (λ x has.
        let r = read_of x has in
        let n = named_value x has in
        let a = after r.0 r.1 in
        let s = ap p r.3 in
        let t = ap (latency_at g) r.3 in
        let over = greatest_over (λ (d : Connection). p d.dst.0) (reads_of g x.uid x.channel) r.0 r.2 in
        omega arith)

    -- what is left to the mirror is the line
    pub line_is : (x : Port) → Contains (values g) x → slack (shared_terms g) (mirrored g p) x ≡ line_length g p x
    line_is x has =
        let n = named_value x has in
        let less = greatest_less (λ (d : Connection). p d.dst.0) (p x.uid.0 + latency_at g x.uid.0) (reads_of g x.uid x.channel) in
        let same = greatest_same (λ (d : Connection). p d.dst.0 - (p x.uid.0 + latency_at g x.uid.0)) (delay g p) (reads_of g x.uid x.channel)
        (every _ (reads_of g x.uid x.channel) (λ c k. let e = (from_read x.uid x.channel c k).1 in let s = ap p e in let t = ap (latency_at g) e in omega arith)) in
        omega arith

    pub total_is : measure (shared_terms g) (values g) (mirrored g p) ≡ shared_total g p
    total_is = sum_same (slack (shared_terms g) (mirrored g p)) (line_length g p) (values g) (every _ (values g) line_is)

    module _ (flow : List PointUnits) (f : IsSharedFlow g latency flow) where
      pub weak : shared_bound g latency flow ≤ℤ pos (shared_total g p)
      weak =
          let w = weakly_dual (shared_terms g) told_point itself_point (shared_network g latency) (values g) flow f.arcs (meets_links latency flow f) (mirrored g p) keeps_shared keeps_links in
          let t = total_is in
          omega (arith, ints)

      pub tight : pos (shared_total g p) ≡ shared_bound g latency flow → All (IsSharedTight g latency (mirrored g p)) flow
      tight same =
          tight_of_optimum (shared_terms g) told_point itself_point (shared_network g latency) (values g) flow f.arcs (meets_links latency flow f) (mirrored g p) keeps_shared keeps_links
          (ap pos total_is ∙ same)

      pub optimal : All (IsSharedTight g latency (mirrored g p)) flow → pos (shared_total g p) ≡ shared_bound g latency flow
      optimal h =
          ap pos (sym total_is)
          ∙ optimum_of_tight (shared_terms g) told_point itself_point (shared_network g latency) (values g) flow f.arcs (meets_links latency flow f) (mirrored g p) keeps_shared keeps_links h

pub shared_weak_duality : SharedWeakDuality
shared_weak_duality g latency flow p sound f al at_end = weak g sound latency p al at_end flow f

pub shared_optimum_is_tight : SharedOptimumIsTight
shared_optimum_is_tight g latency flow p sound f al at_end same = tight g sound latency p al at_end flow f same

pub shared_tight_is_optimum : SharedTightIsOptimum
shared_tight_is_optimum g latency flow p sound f al at_end h = optimal g sound latency p al at_end flow f h
