-- The least tight potentials give the best alignment for shared lines.
use Rattle.std.proofs.Common.{◌≡◌, ℕ, zero, suc, ◌+◌, ◌≤◌, pos, neg_ℤ, List, [], ◌∷◌, ◌++◌, length, map, refl, sym, ap, arith, cond, Bool, true, false}
use Rattle.std.specs.Prelude.{sum_by}
use Rattle.std.specs.List.{All, AllByRecursion, Contains}
use Rattle.std.proofs.lemmas.Int.{ints}
use Rattle.std.proofs.lemmas.List.Sums.{sum_by-cons}
use Rattle.std.proofs.lemmas.List.Elements.{recursion_from_All, All-from_recursion, All-contains}
use Rattle.graph_model.specs.Graphs.{latency_at, input_name, output_name}
use Rattle.graph_model.specs.Paths.{IsLive, is_live, live_nodes, live_connections, depth, latency_of_graph}
use Rattle.graph_model.specs.Sound.{IsSound}
use Rattle.graph_model.proofs.PathLaws.{live_by_test, leads_output}
use Rattle.graph_model.proofs.RankLaws.{sound_is_ranked}
use Rattle.graph_model.proofs.ReachLaws.{greatest_under}
use Rattle.graph_model.specs.declared.graph.Connection.{Connection}
use Rattle.graph_model.specs.declared.graph.Graph.{Graph}
use Rattle.plan_model.specs.Alignments.{IsAlignment, IsAfter}
use Rattle.plan_model.specs.Networks.{Difference, Keeps, KeepsLink, measure, slack}
use Rattle.plan_model.specs.Lives.{Port, source, reads_of, values}
use Rattle.plan_model.specs.Duality.{rooted}
use Rattle.plan_model.specs.SharedLines.{line_length, shared_total}
use Rattle.plan_model.specs.SharedFlows.{at_node, mirror, shared_terms, along_nodes, to_mirror, root_to, ends_to_root, mirror_to_root, shared_network, IsSharedFlow, shared_bound, last_read, mirrored}
use Rattle.plan_model.specs.SharedDuality.{IsSharedTight, ArePotentials, SharedLeastOfOptima}
use Rattle.plan_model.specs.declared.shared.Point.{Point}
use Rattle.plan_model.specs.declared.shared.PointUnits.{PointUnits}
use Rattle.graph_model.proofs.LiveLaws.{ends_live}
use Rattle.plan_model.proofs.BestLaws.{best_of}
use Rattle.plan_model.proofs.NetworkLaws.{optimum_of_tight}
use Rattle.plan_model.proofs.ShiftLaws.{reach_least}
use Rattle.graph_model.specs.Answers.{delay}
use Rattle.plan_model.proofs.SumLaws.{sum_same}
use Rattle.plan_model.proofs.SharedLaws.{greatest_same, told_point, itself_point, every, reader, from_read_port, meets_links, keeps_shared, line_is, shared_weak_duality, shared_optimum_is_tight}

-- ---- parts of a list
pub in_left : {X : Type 0} (P : X → Type 0) (xs ys : List X) → AllByRecursion P (xs ++ ys) → AllByRecursion P xs
in_left P [] ys h = tt
in_left P (x ∷ xs) ys h = (h.0, in_left P xs ys h.1)

pub in_right : {X : Type 0} (P : X → Type 0) (xs ys : List X) → AllByRecursion P (xs ++ ys) → AllByRecursion P ys
in_right P [] ys h = h
in_right P (x ∷ xs) ys h = in_right P xs ys h.1

pub from_map : {X Y : Type 0} (P : Y → Type 0) (f : X → Y) (xs : List X) → AllByRecursion P (map f xs) → AllByRecursion (λ x. P (f x)) xs
from_map P f [] h = tt
from_map P f (x ∷ xs) h = (h.0, from_map P f xs h.1)

in_list : {X : Type 0} (P : X → Type 0) (xs : List X) → AllByRecursion P xs → (x : X) → Contains xs x → P x
in_list P xs h x has = All-contains P xs x (All-from_recursion P xs h) has

-- ---- two sums
sums_below : {X : Type 0} (f h : X → ℕ) (xs : List X) → AllByRecursion (λ x. f x ≤ h x) xs → sum_by f xs ≤ sum_by h xs
sums_below f h [] l = omega arith
sums_below f h (x ∷ xs) l = let ih = sums_below f h xs l.1 in let here = l.0 in let a = sum_by-cons f x xs in let b = sum_by-cons h x xs in omega arith

sums_meet : {X : Type 0} (f h : X → ℕ) (xs : List X) → AllByRecursion (λ x. f x ≤ h x) xs → sum_by h xs ≤ sum_by f xs → AllByRecursion (λ x. h x ≡ f x) xs
sums_meet f h [] l m = tt
sums_meet f h (x ∷ xs) l m =
    let rest = sums_below f h xs l.1 in
    let here = l.0 in
    let a = sum_by-cons f x xs in
    let b = sum_by-cons h x xs in
    (omega arith, sums_meet f h xs l.1 (omega arith))

rooted_below : (q : ℕ → ℕ) (v : ℕ) → rooted q v ≤ q v
rooted_below q zero = omega arith
rooted_below q (suc v) = omega arith

module _ (g : Graph) (flow : List PointUnits) (r : Point → ℕ) (sound : IsSound g) (f : IsSharedFlow g (latency_of_graph g) flow)
    (are : ArePotentials g (latency_of_graph g) r) (tight : All (IsSharedTight g (latency_of_graph g) r) flow) where
  abbrev latency : ℕ
  latency = latency_of_graph g

  abbrev p : ℕ → ℕ
  p v = r (at_node v)

  kept : AllByRecursion (Keeps r) (shared_network g latency)
  kept = recursion_from_All (Keeps r) (shared_network g latency) are.keeps

  -- ---- the arcs
  abbrev after_along : List (Difference Point)
  after_along = map to_mirror (live_connections g) ++ (map root_to (live_nodes g) ++ (ends_to_root g latency ++ map (mirror_to_root latency) (values g)))

  beyond : AllByRecursion (Keeps r) after_along
  beyond = in_right (Keeps r) (map (along_nodes g) (live_connections g)) after_along kept

  ends : AllByRecursion (Keeps r) (ends_to_root g latency)
  ends =
      in_left (Keeps r) (ends_to_root g latency) (map (mirror_to_root latency) (values g))
      (in_right (Keeps r) (map root_to (live_nodes g)) (ends_to_root g latency ++ map (mirror_to_root latency) (values g))
      (in_right (Keeps r) (map to_mirror (live_connections g)) (map root_to (live_nodes g) ++ (ends_to_root g latency ++ map (mirror_to_root latency) (values g))) beyond))

  after : (c : Connection) → Contains (live_connections g) c → p c.src.0 + latency_at g c.src.0 ≤ p c.dst.0
  after c has =
      let k = in_list _ (live_connections g) (from_map (Keeps r) (along_nodes g) (live_connections g) (in_left (Keeps r) (map (along_nodes g) (live_connections g)) after_along kept)) c has in
      omega (arith, ints)

  below_mirror : (c : Connection) → Contains (live_connections g) c → p c.dst.0 ≤ r (mirror (source c))
  below_mirror c has =
      let k = in_list _ (live_connections g) (from_map (Keeps r) to_mirror (live_connections g)
      (in_left (Keeps r) (map to_mirror (live_connections g)) (map root_to (live_nodes g) ++ (ends_to_root g latency ++ map (mirror_to_root latency) (values g))) beyond)) c has in
      omega (arith, ints)

  -- ---- the alignment
  aligned : IsAlignment g p
  aligned = record {
    input = λ live. at_input (is_live g (input_name g)) (live_by_test g (depth g) (sound_is_ranked g sound) (input_name g) live) ends;
    after = All-from_recursion (IsAfter g p) (live_connections g) (every _ (live_connections g) after);
  }
    where
      at_input : (b : Bool) → b ≡ true
          → AllByRecursion (Keeps r) (cond b (record { tail = at_node (input_name g); head = at_node 0; least = pos 0 } ∷ []) [] ++ record { tail = at_node (output_name g); head = at_node 0; least = neg_ℤ (pos latency) } ∷ [])
          → p (input_name g) ≡ 0
      at_input true e h = let k = h.0 in let z = are.root in omega (arith, ints)
      at_input false e h = absurd (cc)

  ends_at : p (output_name g) ≡ latency
  ends_at =
      let least = reach_least g (depth g) sound (sound_is_ranked g sound) p aligned (output_name g) (leads_output g (depth g) (sound_is_ranked g sound) (length g.nodes)) in
      let most = at_output (is_live g (input_name g)) ends in
      omega arith
    where
      at_output : (b : Bool)
          → AllByRecursion (Keeps r) (cond b (record { tail = at_node (input_name g); head = at_node 0; least = pos 0 } ∷ []) [] ++ record { tail = at_node (output_name g); head = at_node 0; least = neg_ℤ (pos latency) } ∷ [])
          → p (output_name g) ≤ latency
      at_output true h = let k = h.1.0 in let z = are.root in omega (arith, ints)
      at_output false h = let k = h.0 in let z = are.root in omega (arith, ints)

  -- ---- what is left to the mirrors
  root_same : (v : ℕ) → rooted p v ≡ p v
  root_same zero = sym are.root
  root_same (suc v) = refl

  link_kept : (x : Port) → Contains (values g) x → p x.uid.0 + latency_at g x.uid.0 ≤ r (mirror x)
  link_kept x has =
      let c = reader g sound x has in
      let a = after c.0 c.1 in
      let b = below_mirror c.0 c.1 in
      let s = ap (λ (y : Port). p y.uid.0 + latency_at g y.uid.0) c.2 in
      let t = ap (λ (y : Port). r (mirror y)) c.2 in
      omega arith

  links_kept : AllByRecursion (KeepsLink (shared_terms g) r) (values g)
  links_kept = every _ (values g) link_kept

  last_below : (x : Port) → last_read g p x.uid.0 x.channel ≤ r (mirror x)
  last_below x =
      greatest_under (λ (d : Connection). p d.dst.0) (r (mirror x)) (reads_of g x.uid x.channel)
      (every _ (reads_of g x.uid x.channel) (λ c k.
      let h = from_read_port g sound x c k in
      let b = below_mirror c h.0 in
      let t = ap (λ (y : Port). r (mirror y)) h.1 in
      omega arith))

  lines_below : AllByRecursion (λ x. line_length g p x ≤ slack (shared_terms g) r x) (values g)
  lines_below = every _ (values g) (λ x has.
      let l = line_is g sound latency p aligned ends_at x has in
      let b = last_below x in
      let s = root_same x.uid.0 in
      omega arith)

  bound_is : pos (measure (shared_terms g) (values g) r) ≡ shared_bound g latency flow
  bound_is = optimum_of_tight (shared_terms g) told_point itself_point (shared_network g latency) (values g) flow f.arcs (meets_links g sound latency flow f) r kept links_kept tight

  pub total_is_bound : pos (shared_total g p) ≡ shared_bound g latency flow
  total_is_bound =
      let up = sums_below (line_length g p) (slack (shared_terms g) r) (values g) lines_below in
      let down = shared_weak_duality g latency flow p sound f aligned ends_at in
      let same = bound_is in
      omega (arith, ints)

  slacks_are : AllByRecursion (λ x. slack (shared_terms g) r x ≡ line_length g p x) (values g)
  slacks_are =
      let down = shared_weak_duality g latency flow p sound f aligned ends_at in
      let same = bound_is in
      sums_meet (line_length g p) (slack (shared_terms g) r) (values g) lines_below (omega (arith, ints))

pub shared_least_of_optima : SharedLeastOfOptima
shared_least_of_optima g flow r sound f are tight least = (
  best_of (shared_total g) g (shared_bound g (latency_of_graph g) flow) (λ v. r (at_node v)) (aligned g flow r sound f are tight) (ends_at g flow r sound f are tight) (total_is_bound g flow r sound f are tight)
      (λ q al at_end. shared_weak_duality g (latency_of_graph g) flow q sound f al at_end)
      (λ q al at_end same v live.
      let on = shared_optimum_is_tight g (latency_of_graph g) flow q sound f al at_end same in
      let keeps = All-from_recursion (Keeps (mirrored g q)) (shared_network g (latency_of_graph g)) (keeps_shared g sound (latency_of_graph g) q al at_end) in
      let l = least (mirrored g q) (record { root = refl; keeps = keeps }) on v live in
      let m = rooted_below q v in
      omega arith),
  total_is_bound g flow r sound f are tight,
  All-from_recursion (λ x. r (mirror x) ≡ r (at_node x.uid.0) + latency_at g x.uid.0 + line_length g (λ v. r (at_node v)) x) (values g)
      (every _ (values g) (λ x has.
      let s = in_list _ (values g) (slacks_are g flow r sound f are tight) x has in
      let k = link_kept g flow r sound f are tight x has in
      omega arith)),
)

-- only the positions of live nodes count
pub lines_same : (g : Graph) → IsSound g → (p q : ℕ → ℕ) → ((v : ℕ) → IsLive g v → q v ≡ p v) → (x : Port) → line_length g q x ≡ line_length g p x
lines_same g sound p q same x =
    greatest_same (delay g q) (delay g p) (reads_of g x.uid x.channel)
    (every _ (reads_of g x.uid x.channel) (λ c k.
    let has = (from_read_port g sound x c k).0 in
    let ends = ends_live g sound c has in
    let s = same c.src.0 ends.0 in
    let t = same c.dst.0 ends.1 in
    omega arith))

pub shared_total_same : (g : Graph) → IsSound g → (p q : ℕ → ℕ) → ((v : ℕ) → IsLive g v → q v ≡ p v) → shared_total g q ≡ shared_total g p
shared_total_same g sound p q same = sum_same (line_length g q) (line_length g p) (values g) (every _ (values g) (λ x has. lines_same g sound p q same x))
