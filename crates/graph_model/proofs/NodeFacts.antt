-- The nodes of a sound graph, by name and by index.
use Rattle.std.proofs.Common.{◌≡◌, ℕ, zero, suc, ◌+◌, ◌<◌, List, [], ◌∷◌, length, get_or, refl, sym, ◌∙◌, ap, subst, Bool, true, false, cond, arith, Option, Some, None, ◌==◌, inl, inr, Bor}
use Rattle.std.specs.Prelude.{IsSome, count_by}
use Rattle.std.specs.List.{find, AllByRecursion, Contains, position, position_or_len, slice_get}
use Rattle.std.specs.Option.{is_some, option_copied}
use Rattle.std.proofs.lemmas.Bool.{eqb-true, false≢true, lt-ltb}
use Rattle.std.proofs.lemmas.List.{get_or-map}
use Rattle.std.proofs.lemmas.List.Elements.{recursion_from_All}
use Rattle.std.proofs.lemmas.List.Folds.{find_at}
use Rattle.std.proofs.lemmas.List.Quantifiers.{position-Some}
use Rattle.std.proofs.lemmas.List.Sums.{position_or_len_is, sum_by-cons}
use Rattle.std.proofs.lemmas.Option.{slice_get-get_or, slice_get_cases, slice_get_within, get_or_from_slice_get}
use Rattle.graph_model.specs.Kinds.{ins_of, outs_of, latency_of}
use Rattle.graph_model.specs.Graphs.{IsNode, or_zero, node_named, ins_at, outs_at, latency_at, is_input, is_output, input_name, output_name, name_or_zero}
use Rattle.graph_model.specs.Members.{bad_member}
use Rattle.graph_model.specs.Paths.{IsPathTo, latencies, reach, depth}
use Rattle.graph_model.specs.Ranges.{IsInRange, HasRange}
use Rattle.graph_model.specs.Sound.{IsSound}
use Rattle.graph_model.proofs.RangeLaws.{in_range}
use Rattle.graph_model.proofs.RankLaws.{nodes_exist, sound_is_ranked}
use Rattle.graph_model.proofs.ReachLaws.{reach_is_longest}
use Rattle.graph_model.specs.declared.kind.Kind.{Kind}
use Rattle.graph_model.specs.declared.kind.Kind.TheVariants.{Input}
use Rattle.graph_model.specs.declared.graph.Node.{Node}
use Rattle.graph_model.specs.declared.graph.Connection.{Connection}
use Rattle.graph_model.specs.declared.graph.Graph.{Graph}
use Rattle.graph_model.specs.Named.{IsNamed, uid_at}
use Rattle.graph_model.proofs.CommonFacts.{none_is_some, some_same}
use Rattle.graph_model.proofs.NameFacts.{named_there, node_is}

-- ---- what is found in a list
-- what is found passes, and has what all have
pub find-all : {X : Type 0} (p : X → Bool) (P : X → Type 0) (xs : List X) (x : X) → AllByRecursion P xs → find p xs ≡ Some x → P x × (p x ≡ true)
find-all p P [] x h e = absurd (none_is_some e)
find-all p P (y ∷ ys) x h e =
    elim (p y) as (λ b. p y ≡ b → cond b (Some y) (find p ys) ≡ Some x → P x × (p x ≡ true)) [
      | true ↦ λ t s. let q : y ≡ x = some_same s in (subst P q h.0, subst (λ z. p z ≡ true) q t)
      | false ↦ λ f s. find-all p P ys x h.1 s
    ] refl e

found_below : {X : Type 0} (p : X → Bool) (xs : List X) → IsSome (find p xs) → position_or_len p xs < length xs
found_below p xs s =
    elim (slice_get_cases xs (position_or_len p xs)).1
    [ inl w ↦ w.1 | inr w ↦ absurd (false≢true (sym (ap is_some (find_at p xs ∙ w.1)) ∙ s)) ]

-- where something is found, it has a place
pub has_place : {X : Type 0} (p : X → Bool) (xs : List X) → IsSome (find p xs) → IsSome (position p xs)
has_place p xs s = ap (λ b. is_some (cond b (Some (position_or_len p xs)) None)) (lt-ltb _ _ (found_below p xs s))

-- the first place that passes
pub position_found : {X : Type 0} (p : X → Bool) (xs : List X) (at : ℕ) (d : X) → position p xs ≡ Some at → (at < length xs) × (find p xs ≡ Some (get_or xs at d))
position_found p xs at d h =
    let q = position-Some p xs at d h in
    let e : position_or_len p xs ≡ at = position_or_len_is p xs at d (omega (arith, q.0)) q.2 (λ _. q.1) in
    (q.0, find_at p xs ∙ ap (slice_get xs) e ∙ slice_get-get_or xs at d q.0)

count-cons : {X : Type 0} (p : X → Bool) (x : X) (xs : List X) → count_by p (x ∷ xs) ≡ cond (p x) 1 0 + count_by p xs
count-cons p x xs = sum_by-cons (λ y. cond (p y) 1 0) x xs

-- where none is counted, none passes
none_passes : {X : Type 0} (p : X → Bool) (xs : List X) (j : ℕ) (d : X) → count_by p xs ≡ 0 → j < length xs → p (get_or xs j d) ≡ true → ⊥
none_passes p [] j d none lt e = absurd (omega arith)
none_passes p (x ∷ xs) zero d none lt e = let c = count-cons p x xs in let one : cond {A = ℕ} (p x) 1 0 ≡ 1 = ap (λ b. cond {A = ℕ} b 1 0) e in absurd (omega arith)
none_passes p (x ∷ xs) (suc j) d none lt e = let c = count-cons p x xs in none_passes p xs j d (omega arith) (omega arith) e

-- the one that is counted is found
only_one : {X : Type 0} (p : X → Bool) (xs : List X) (j : ℕ) (d : X) → count_by p xs ≡ 1 → j < length xs → p (get_or xs j d) ≡ true → find p xs ≡ Some (get_or xs j d)
only_one p [] j d one lt e = absurd (omega arith)
only_one p (x ∷ xs) zero d one lt e = ap (λ b. cond b (Some x) (find p xs)) e
only_one p (x ∷ xs) (suc j) d one lt e =
    let c = count-cons p x xs in
    elim (p x) as (λ b. p x ≡ b → cond b (Some x) (find p xs) ≡ Some (get_or xs j d)) [
      | true ↦ λ t. let first : cond {A = ℕ} (p x) 1 0 ≡ 1 = ap (λ b. cond {A = ℕ} b 1 0) t in absurd (none_passes p xs j d (omega arith) (omega arith) e)
      | false ↦ λ f. let first : cond {A = ℕ} (p x) 1 0 ≡ 0 = ap (λ b. cond {A = ℕ} b 1 0) f in only_one p xs j d (omega arith) (omega arith) e
    ] refl

some_one : {X : Type 0} (p : X → Bool) (xs : List X) → count_by p xs ≡ 1 → IsSome (find p xs)
some_one p [] one = absurd (omega arith)
some_one p (x ∷ xs) one =
    let c = count-cons p x xs in
    elim (p x) as (λ b. p x ≡ b → IsSome (cond b (Some x) (find p xs))) [
      | true ↦ λ t. refl
      | false ↦ λ f. let first : cond {A = ℕ} (p x) 1 0 ≡ 0 = ap (λ b. cond {A = ℕ} b 1 0) f in some_one p xs (omega arith)
    ] refl

-- what an `Option<&Node>` points to is there, if it is
pub copied_some : (o : Option (Bor Node)) (x : Option Node) → option_copied o ≡ x → IsSome x → IsSome o
copied_some None x e s = absurd (false≢true (ap is_some e ∙ s))
copied_some (Some r) x e s = refl

no_ins : (kind : Kind) → is_input kind ≡ true → ins_of kind ≡ 0
no_ins (Input n) e = refl
no_ins kind e = absurd (false≢true e)

some_outs : (kind : Kind) → HasRange kind → is_input kind ≡ true → 0 < outs_of kind
some_outs (Input n) r e = let l = r.0 in omega arith
some_outs kind r e = absurd (false≢true e)

module _ (g : Graph) (sound : IsSound g) where
  pub named : IsNamed g
  named = record { fits = sound.fits; uids_differ = sound.shaped.uids_differ; nodes_exist = nodes_exist g sound.shaped }

  pub range_at : (i : ℕ) (d : Node) → i < length g.nodes → IsInRange (get_or g.nodes i d)
  range_at i d lt = in_range (get_or g.nodes i d) (sound.shaped.in_range i d lt)

  -- what is found has its name
  name_of : (v : ℕ) (node : Node) → node_named g v ≡ Some node → node.uid.0 ≡ v
  name_of v node e = eqb-true _ _ (find-all (λ n. n.uid.0 == v) (λ n. bad_member n ≡ None) g.nodes node (recursion_from_All _ g.nodes sound.shaped.in_range) e).1

  -- the first place of a name is its index
  pub place_is : (v i : ℕ) (d : Node) → position (λ n. n.uid.0 == v) g.nodes ≡ Some i → (i < length g.nodes) × (uid_at g i ≡ v)
  place_is v i d e =
      let q = position_found (λ n. n.uid.0 == v) g.nodes i d e in
      (q.0, get_or-map (λ (n : Node). n.uid.0) g.nodes i d 0 q.0 ∙ name_of v (get_or g.nodes i d) q.1)

  -- ---- the numbers of a node, by index
  pub outs_is : (i : ℕ) (d : Node) → i < length g.nodes → outs_at g (uid_at g i) ≡ outs_of (get_or g.nodes i d).kind
  outs_is i d lt = ap (or_zero outs_of) (node_is g named i d lt)

  pub ins_is : (i : ℕ) (d : Node) → i < length g.nodes → ins_at g (uid_at g i) ≡ ins_of (get_or g.nodes i d).kind
  ins_is i d lt = ap (or_zero ins_of) (node_is g named i d lt)

  pub latency_is : (i : ℕ) (d : Node) → i < length g.nodes → latency_at g (uid_at g i) ≡ latency_of (get_or g.nodes i d).kind
  latency_is i d lt = ap (or_zero latency_of) (node_is g named i d lt)

  -- ---- the input node
  -- what is found by a test has its name
  found_named : (p : Node → Bool) (node : Node) → find p g.nodes ≡ Some node → node_named g node.uid.0 ≡ Some node
  found_named p node e =
      let s : slice_get g.nodes (position_or_len p g.nodes) ≡ Some node = sym (find_at p g.nodes) ∙ e in
      let l : position_or_len p g.nodes < length g.nodes = slice_get_within g.nodes (position_or_len p g.nodes) node s in
      let here : get_or g.nodes (position_or_len p g.nodes) node ≡ node = get_or_from_slice_get g.nodes (position_or_len p g.nodes) node node s in
      subst (λ n. node_named g n.uid.0 ≡ Some n) here (named_there g named (position_or_len p g.nodes) node l)

  pub input_exists : IsSome (find (λ n. is_input n.kind) g.nodes)
  input_exists = some_one (λ n. is_input n.kind) g.nodes sound.shaped.ends.0

  -- the first input node's channels are those of the input, and there are some
  pub input_found : (node : Node) → find (λ n. is_input n.kind) g.nodes ≡ Some node → (outs_of node.kind ≡ outs_at g (input_name g)) × (0 < outs_of node.kind)
  input_found node found =
      let is = find-all (λ n. is_input n.kind) (λ n. bad_member n ≡ None) g.nodes node (recursion_from_All _ g.nodes sound.shaped.in_range) found in (
        sym (ap (λ o. outs_at g (name_or_zero o)) found ∙ ap (or_zero outs_of) (found_named (λ n. is_input n.kind) node found)),
        some_outs node.kind (in_range node is.0).1 is.1,
      )

  -- every input node is the first one
  pub input_is : (i : ℕ) (d : Node) → i < length g.nodes → is_input (get_or g.nodes i d).kind ≡ true → outs_of (get_or g.nodes i d).kind ≡ outs_at g (input_name g)
  input_is i d lt is = (input_found (get_or g.nodes i d) (only_one (λ n. is_input n.kind) g.nodes i d sound.shaped.ends.0 lt is)).0

  -- and there is one
  pub input_some : 0 < outs_at g (input_name g)
  input_some =
      elim (find (λ n. is_input n.kind) g.nodes) as (λ o. find (λ n. is_input n.kind) g.nodes ≡ o → 0 < outs_at g (input_name g)) [
        | None ↦ λ e. absurd (false≢true (sym (ap is_some e) ∙ input_exists))
        | Some n ↦ λ e. let a = input_found n e in rw (sym a.0) a.1
      ] refl

  -- it is a node, into which nothing comes
  pub at_input : (IsNode g (input_name g)) × (ins_at g (input_name g) ≡ 0)
  at_input =
      elim (find (λ n. is_input n.kind) g.nodes) as (λ o. find (λ n. is_input n.kind) g.nodes ≡ o → IsNode g (name_or_zero o) × (ins_at g (name_or_zero o) ≡ 0)) [
        | None ↦ λ e. absurd (false≢true (sym (ap is_some e) ∙ input_exists))
        | Some n ↦ λ e.
            (let there = found_named (λ n. is_input n.kind) n e in
            let is = find-all (λ n. is_input n.kind) (λ n. bad_member n ≡ None) g.nodes n (recursion_from_All _ g.nodes sound.shaped.in_range) e in
            (ap is_some there, ap (or_zero ins_of) there ∙ no_ins n.kind is.1))
      ] refl

  -- ---- the output node
  output_exists : IsSome (find (λ n. is_output n.kind) g.nodes)
  output_exists = some_one (λ n. is_output n.kind) g.nodes sound.shaped.ends.1

  pub output_is_node : IsNode g (output_name g)
  output_is_node =
      elim (find (λ n. is_output n.kind) g.nodes) as (λ o. find (λ n. is_output n.kind) g.nodes ≡ o → IsNode g (name_or_zero o)) [
        | None ↦ λ e. absurd (false≢true (sym (ap is_some e) ∙ output_exists))
        | Some n ↦ λ e. ap is_some (found_named (λ n. is_output n.kind) n e)
      ] refl

  -- ---- the connections
  pub channels_fit : (c : Connection) → Contains g.connections c → (c.src_channel < outs_at g c.src.0) × (c.dst_channel < ins_at g c.dst.0)
  channels_fit c (k, lt, at) =
      let is = sound.shaped.connections k c lt in
      (subst (λ (d : Connection). d.src_channel < outs_at g d.src.0) at is.source_channel, subst (λ (d : Connection). d.dst_channel < ins_at g d.dst.0) at is.destination_channel)

  -- no path leads into the input node
  input_path : (us : List ℕ) → IsPathTo g (input_name g) us → latencies g us ≡ 0
  input_path [] path = refl
  input_path (u ∷ us) path =
      let j = path.1 in
      let fit = (channels_fit j.0 j.1).1 in
      let none : ins_at g j.0.dst.0 ≡ 0 = ap (ins_at g) j.3 ∙ at_input.1 in
      absurd (omega arith)

  pub input_reach : reach g (input_name g) ≡ 0
  input_reach =
      let long = (reach_is_longest g (depth g) (sound_is_ranked g sound) (input_name g) at_input.0).reached in
      sym long.2 ∙ input_path long.0 long.1

  -- the node of a name has an index
  pub index_of : (v : ℕ) (node : Node) → node_named g v ≡ Some node → (i : ℕ) × (i < length g.nodes) × (uid_at g i ≡ v) × (get_or g.nodes i node ≡ node)
  index_of v node e =
      let s : slice_get g.nodes (position_or_len (λ n. n.uid.0 == v) g.nodes) ≡ Some node = sym (find_at (λ n. n.uid.0 == v) g.nodes) ∙ e in
      let i = position_or_len (λ (n : Node). n.uid.0 == v) g.nodes in
      let lt : position_or_len (λ n. n.uid.0 == v) g.nodes < length g.nodes = slice_get_within g.nodes (position_or_len (λ n. n.uid.0 == v) g.nodes) node s in
      let here : get_or g.nodes (position_or_len (λ n. n.uid.0 == v) g.nodes) node ≡ node = get_or_from_slice_get g.nodes (position_or_len (λ n. n.uid.0 == v) g.nodes) node node s in (
        position_or_len (λ n. n.uid.0 == v) g.nodes,
        lt,
        get_or-map (λ (n : Node). n.uid.0) g.nodes (position_or_len (λ n. n.uid.0 == v) g.nodes) node 0 lt ∙ ap (λ (n : Node). n.uid.0) here ∙ name_of v node e,
        here,
      )
