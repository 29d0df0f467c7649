-- The links of a graph, connection by connection.
use Rattle.std.proofs.Common.{◌≡◌, ℕ, suc, ◌+◌, ◌<◌, ◌≤◌, List, [], ◌∷◌, ◌++◌, length, map, drop, get_or, slice_index, refl, sym, ap, subst, ◌∙◌, arith, Bool, true, false, Contains, inl, inr, Option, Some, None, ℤ, pos, neg_ℤ, cond}
use Rattle.std.specs.Prelude.{IsSome}
use Rattle.std.specs.List.{All, AllByRecursion, filter}
use Rattle.std.specs.Option.{MatchOption}
use Rattle.std.proofs.Math.Seq.{drop-cons}
use Rattle.std.proofs.lemmas.List.Elements.{All-from_recursion, Contains-get_or}
use Rattle.graph_model.specs.Graphs.{latency_at, input_name, output_name}
use Rattle.graph_model.specs.Paths.{is_live, live_connections, depth, latency_of_graph}
use Rattle.graph_model.specs.Sound.{IsSound}
use Rattle.graph_model.proofs.PathLaws.{live_source}
use Rattle.graph_model.proofs.RankLaws.{sound_is_ranked}
use Rattle.graph_model.proofs.ReachLaws.{filter_has}
use Rattle.graph_model.specs.declared.graph.Connection.{Connection}
use Rattle.graph_model.specs.declared.graph.Graph.{Graph}
use Rattle.topology.proofs.LinkFacts.{any_connection, connection_at}
use Rattle.plan_model.proofs.DualityLaws.{names}
use Rattle.graph_model.proofs.LiveLaws.{live_test, live_by}
use Rattle.plan_model.specs.Flows.{IsPoint}
use Rattle.std.proofs.lemmas.List.{get_or_default, append_assoc, append-nil}
use Rattle.min_cost_flow.specs.declared.network.Arc.{Arc}
use Rattle.graph_model.proofs.LiveLaws.{output_is_live}
use Rattle.alignment.proofs.ArcFacts.{input_named}
use Rattle.alignment.proofs.StepFacts.{joined_last}
use Rattle.alignment.specs.Networks.{ArePoints, number_in}
use Rattle.alignment.specs.Links.{links_from, links_of, link_of, arcs_to_root}
use Rattle.alignment.specs.declared.links.Link.{Link}
use Rattle.alignment.proofs.PlaceListFacts.{number_at}

-- what is there is found
pub found_there : (N : Type 0) (P : ℕ → Type 0) (o : Option ℕ) → MatchOption o (N → ⊥) P → N → IsSome o
found_there N P None m there = absurd (m there)
found_there N P (Some k) m there = refl

-- and what was found is as was said
pub found_as : (N : Type 0) (P : ℕ → Type 0) (o : Option ℕ) (k : ℕ) → MatchOption o N P → o ≡ Some k → P k
found_as N P o k m is = subst (λ q. MatchOption q N P) is m

-- a name at a place is there
pub name_at : (points : List ℕ) (k v : ℕ) → k < length points → slice_index points k ≡ v → Contains points v
name_at points k v lt at = (k, lt, get_or_default points k v 0 lt ∙ at)

module _ (g : Graph) (points : List ℕ) (sound : IsSound g) (are : ArePoints g points) where
  -- the number of the name at a place
  pub number_is : (k v : ℕ) → k < length points → slice_index points k ≡ v → k ≡ number_in points v
  number_is k v lt at = sym (number_at g points are k lt) ∙ ap (number_in points) at

  -- a live node is a point
  pub live_there : (v : ℕ) → is_live g v ≡ true → Contains points v
  live_there v is = are.all v (inr (live_by g sound v is))

  -- and a point that is a node is live
  pub there_live : (v : ℕ) → 1 ≤ v → Contains points v → is_live g v ≡ true
  there_live v named has =
      elim (subst (IsPoint g) has.2 (are.each has.0 v has.1)) [
        | inl root ↦ absurd (omega (arith, root, named))
        | inr live ↦ live_test g sound v live
      ]

  -- a connection that is not live is no link
  pub idle_step : (links : List Link) (k : ℕ) (d : Connection) → k < length g.connections → (Contains points (get_or g.connections k d).dst.0 → ⊥)
      → links ++ links_from g points k (drop k g.connections) ≡ links_of g points → links ++ links_from g points (k + 1) (drop (k + 1) g.connections) ≡ links_of g points
  idle_step links k d lt none so_far = by_test (is_live g c.dst.0) refl
    where
      c : Connection
      c = get_or g.connections k d

      next : k + 1 ≡ suc k
      next = omega arith

      by_test : (b : Bool) → is_live g c.dst.0 ≡ b → links ++ links_from g points (k + 1) (drop (k + 1) g.connections) ≡ links_of g points
      by_test true e = absurd (none (live_there c.dst.0 e))
      by_test false e =
          let here : links_from g points k (drop k g.connections) ≡ links_from g points (suc k) (drop (suc k) g.connections)
          = ap (links_from g points k) (drop-cons g.connections k d lt) ∙ (rw e refl) in
          rw next (ap (λ ls. links ++ ls) (sym here) ∙ so_far)

  -- the source of a live connection is a point
  pub source_there : (k : ℕ) (d : Connection) → k < length g.connections → Contains points (get_or g.connections k d).dst.0 → Contains points (get_or g.connections k d).src.0
  source_there k d lt there =
      let c : Connection = get_or g.connections k d in
      let name = All-from_recursion (λ (x : Connection). (1 ≤ x.src.0) × (1 ≤ x.dst.0)) g.connections (names g (depth g) sound (sound_is_ranked g sound)) k d lt in
      live_there c.src.0 (live_source g (depth g) (sound_is_ranked g sound) c (Contains-get_or g.connections k d lt) (there_live c.dst.0 name.1 there))

  -- a live connection is the next link
  pub live_step : (links more : List Link) (k : ℕ) (d : Connection) (tail head latency : ℕ) → k < length g.connections
      → head < length points → slice_index points head ≡ (get_or g.connections k d).dst.0 → tail < length points → slice_index points tail ≡ (get_or g.connections k d).src.0
      → latency ≡ latency_at g (get_or g.connections k d).src.0
      → more ≡ links ++ record { index = k; tail = tail; head = head; latency = latency } ∷ []
      → links ++ links_from g points k (drop k g.connections) ≡ links_of g points → more ++ links_from g points (k + 1) (drop (k + 1) g.connections) ≡ links_of g points
  live_step links more k d tail head latency lt head_lt head_at tail_lt tail_at latency_is made so_far =
      let c : Connection = get_or g.connections k d in
      let name = All-from_recursion (λ (x : Connection). (1 ≤ x.src.0) × (1 ≤ x.dst.0)) g.connections (names g (depth g) sound (sound_is_ranked g sound)) k d lt in
      let live : is_live g c.dst.0 ≡ true = there_live c.dst.0 name.1 (head, head_lt, get_or_default points head (get_or g.connections k d).dst.0 0 head_lt ∙ head_at) in
      let here : links_from g points k (drop k g.connections) ≡ link_of g points k c ∷ links_from g points (suc k) (drop (suc k) g.connections)
      = ap (links_from g points k) (drop-cons g.connections k d lt) ∙ (rw live refl) in
      let same : record { index = k; tail = tail; head = head; latency = latency } ≡ link_of g points k c
      = λ i. record { index = k; tail = number_is tail c.src.0 tail_lt tail_at i; head = number_is head c.dst.0 head_lt head_at i; latency = latency_is i } in
      let next : k + 1 ≡ suc k = omega arith in
      rw next
      (ap (λ ls. ls ++ links_from g points (suc k) (drop (suc k) g.connections)) (made ∙ ap (λ l. links ++ l ∷ []) same)
      ∙ append_assoc links (link_of g points k c ∷ []) (links_from g points (suc k) (drop (suc k) g.connections))
      ∙ ap (λ ls. links ++ ls) (sym here) ∙ so_far)

  -- ---- the arcs to the root
  -- the output node is a point
  pub output_point : Contains points (output_name g)
  output_point = live_there (output_name g) (output_is_live g sound)

  -- an input node that is a point has its arc
  pub input_made : (old : List Arc) (tail : ℕ) → tail < length points → slice_index points tail ≡ input_name g
      → old ++ record { tail = tail; head = 0; least = pos 0 } ∷ []
      ≡ old ++ cond (is_live g (input_name g)) (record { tail = number_in points (input_name g); head = 0; least = pos 0 } ∷ []) []
  input_made old tail lt at =
      let live : is_live g (input_name g) ≡ true = there_live (input_name g) (input_named g sound) (tail, lt, get_or_default points tail (input_name g) 0 lt ∙ at) in
      rw live (ap (λ k. old ++ record { tail = k; head = 0; least = pos 0 } ∷ []) (number_is tail (input_name g) lt at))

  -- and one that is none has none
  pub input_not_made : (old : List Arc) → (Contains points (input_name g) → ⊥)
      → old ≡ old ++ cond (is_live g (input_name g)) (record { tail = number_in points (input_name g); head = 0; least = pos 0 } ∷ []) []
  input_not_made old none = by_test (is_live g (input_name g)) refl
    where
      by_test : (b : Bool) → is_live g (input_name g) ≡ b → old ≡ old ++ cond b (record { tail = number_in points (input_name g); head = 0; least = pos 0 } ∷ []) []
      by_test true e = absurd (none (live_there (input_name g) e))
      by_test false e = sym (append-nil old)

  pub to_root_made : (old first all : List Arc) (tail : ℕ) (least : ℤ)
      → first ≡ old ++ cond (is_live g (input_name g)) (record { tail = number_in points (input_name g); head = 0; least = pos 0 } ∷ []) []
      → tail < length points → slice_index points tail ≡ output_name g → least ≡ neg_ℤ (pos (latency_of_graph g))
      → all ≡ first ++ record { tail = tail; head = 0; least = least } ∷ [] → all ≡ old ++ arcs_to_root g points
  to_root_made old first all tail least is lt at latency made =
      let last : record { tail = tail; head = 0; least = least } ≡ record { tail = number_in points (output_name g); head = 0; least = neg_ℤ (pos (latency_of_graph g)) }
      = λ i. record { tail = number_is tail (output_name g) lt at i; head = 0; least = latency i } in
      joined_last old first all (is_live g (input_name g)) (record { tail = number_in points (input_name g); head = 0; least = pos 0 }) _ is (made ∙ ap (λ a. first ++ a ∷ []) last)

-- ---- links and their connections
-- the connection of a live link
pub live_link : (g : Graph) (j : ℕ) → j < length g.connections → is_live g (connection_at g j).dst.0 ≡ true → Contains (live_connections g) (connection_at g j)
live_link g j lt live = filter_has (λ c. is_live g c.dst.0) g.connections (connection_at g j) (Contains-get_or g.connections j any_connection lt) live

-- the connections from k on are those of the list
abbrev AreFrom : Graph → ℕ → List Connection → Type 0
AreFrom g k cs = (j : ℕ) → j < length cs → (k + j < length g.connections) × (connection_at g (k + j) ≡ get_or cs j any_connection)

first_from : (g : Graph) (k : ℕ) (c : Connection) (cs : List Connection) → AreFrom g k (c ∷ cs) → (k < length g.connections) × (connection_at g k ≡ c)
first_from g k c cs are =
    let first = are 0 (omega arith) in
    (omega (arith, first.0), ap (connection_at g) (none_more k) ∙ first.1)
  where
    none_more : (n : ℕ) → n ≡ n + 0
    none_more n = omega arith

later_from : (g : Graph) (k : ℕ) (c : Connection) (cs : List Connection) → AreFrom g k (c ∷ cs) → AreFrom g (suc k) cs
later_from g k c cs are j lt =
    let next = are (suc j) (omega arith) in
    (omega (arith, next.0), ap (connection_at g) (moved k j) ∙ next.1)
  where
    moved : (n m : ℕ) → suc n + m ≡ n + suc m
    moved n m = omega arith

all_from : (g : Graph) → AreFrom g 0 g.connections
all_from g j lt = (omega arith, ap (connection_at g) (none_before j))
  where
    none_before : (n : ℕ) → 0 + n ≡ n
    none_before n = omega arith

links_each : (P : Link → Type 0) (g : Graph) (points : List ℕ) (k : ℕ) (cs : List Connection) → AreFrom g k cs
    → ((j : ℕ) → j < length g.connections → is_live g (connection_at g j).dst.0 ≡ true → P (link_of g points j (connection_at g j))) → AllByRecursion P (links_from g points k cs)
links_each P g points k [] are each = tt
links_each P g points k (c ∷ cs) are each = go (is_live g c.dst.0) refl (links_each P g points (suc k) cs (later_from g k c cs are) each)
  where
    go : (b : Bool) → is_live g c.dst.0 ≡ b → AllByRecursion P (links_from g points (suc k) cs)
        → AllByRecursion P (cond b (link_of g points k c ∷ links_from g points (suc k) cs) (links_from g points (suc k) cs))
    go true live rest =
        let first = first_from g k c cs are in
        (subst (λ d. P (link_of g points k d)) first.1 (each k first.0 (ap (λ (d : Connection). is_live g d.dst.0) first.1 ∙ live)), rest)
    go false live rest = rest

-- what holds of the link of each live connection holds of each link
pub all_links : (P : Link → Type 0) (g : Graph) (points : List ℕ)
    → ((j : ℕ) → j < length g.connections → is_live g (connection_at g j).dst.0 ≡ true → P (link_of g points j (connection_at g j))) → All P (links_of g points)
all_links P g points each = All-from_recursion P (links_of g points) (links_each P g points 0 g.connections (all_from g) each)

links_map : {X : Type 0} (f : Link → X) (h : Connection → X) (g : Graph) (points : List ℕ) (k : ℕ) (cs : List Connection) → AreFrom g k cs
    → ((j : ℕ) → j < length g.connections → is_live g (connection_at g j).dst.0 ≡ true → f (link_of g points j (connection_at g j)) ≡ h (connection_at g j))
    → map f (links_from g points k cs) ≡ map h (filter (λ c. is_live g c.dst.0) cs)
links_map f h g points k [] are same = refl
links_map f h g points k (c ∷ cs) are same = go (is_live g c.dst.0) refl (links_map f h g points (suc k) cs (later_from g k c cs are) same)
  where
    go : (b : Bool) → is_live g c.dst.0 ≡ b → map f (links_from g points (suc k) cs) ≡ map h (filter (λ d. is_live g d.dst.0) cs)
        → map f (cond b (link_of g points k c ∷ links_from g points (suc k) cs) (links_from g points (suc k) cs)) ≡ map h (cond b (c ∷ filter (λ d. is_live g d.dst.0) cs) (filter (λ d. is_live g d.dst.0) cs))
    go true live rest =
        let first = first_from g k c cs are in
        let one = subst (λ d. f (link_of g points k d) ≡ h d) first.1 (same k first.0 (ap (λ (d : Connection). is_live g d.dst.0) first.1 ∙ live)) in
        λ i. one i ∷ rest i
    go false live rest = rest

-- links that give what their connections give
pub all_links_map : {X : Type 0} (f : Link → X) (h : Connection → X) (g : Graph) (points : List ℕ)
    → ((j : ℕ) → j < length g.connections → is_live g (connection_at g j).dst.0 ≡ true → f (link_of g points j (connection_at g j)) ≡ h (connection_at g j))
    → map f (links_of g points) ≡ map h (live_connections g)
all_links_map f h g points same = links_map f h g points 0 g.connections (all_from g) same
