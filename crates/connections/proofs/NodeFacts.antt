-- Nodes by their indexes: what is kept of them, and what their checks find.
use Rattle.std.proofs.Common.{◌≡◌, ℕ, ◌+◌, ◌<◌, ◌≤◌, List, [], length, map, take, get_or, refl, sym, ◌∙◌, ap, subst, arith, Bool, true, false, cond, ◌==◌, Option, Some, None, inl, inr}
use Rattle.std.specs.Prelude.{is_some, slice_get}
use Rattle.std.specs.List.{position, position_or_len}
use Rattle.std.specs.Option.{option_map}
use Rattle.std.proofs.lemmas.List.{get_or-map, get_or-take, length-take, take_more, take_all}
use Rattle.std.proofs.lemmas.List.Elements.{All-push}
use Rattle.std.proofs.lemmas.List.Folds.{find_at}
use Rattle.std.proofs.lemmas.List.Quantifiers.{position-Some, all_pairs_push}
use Rattle.std.proofs.lemmas.List.Sums.{position_or_len_is, fails_before_first}
use Rattle.std.proofs.lemmas.Option.{slice_get-map, slice_get-get_or}
use Rattle.std.proofs.lemmas.Bool.{eqb-true, false≢true, lt-ltb, cases_lt}
use Rattle.graph_model.specs.Members.{bad_member}
use Rattle.graph_model.specs.declared.member.Member.{Member}
use Rattle.graph_model.specs.declared.graph.Uid.{Uid}
use Rattle.graph_model.specs.declared.graph.Node.{Node}
use Rattle.graph_model.specs.declared.graph.Graph.{Graph}
use Rattle.graph_model.proofs.PathLaws.{same_name}
use Rattle.graph_model.specs.Graphs.{node_named}
use Rattle.graph_model.specs.Named.{IsNamed, uid_at}
use Rattle.graph_model.specs.Sound.{Fits}
use Rattle.graph_model.proofs.NameFacts.{any_node, name_is, node_is, same_uid}
use Rattle.connections.specs.Faults.{UidsDiffer, HasUidAt, IsUidTwice, IsOutOfRange, AreInRange}

at_node : {X : Type 0} (f : Graph → ℕ → X) (g : Graph) (xs : List X) (k : ℕ) (d : X) → k < length g.nodes → xs ≡ map (λ (n : Node). f g n.uid.0) g.nodes
    → get_or xs k d ≡ f g (uid_at g k)
at_node f g xs k d lt is =
    ap (λ ys. get_or ys k d) is ∙ get_or-map (λ (n : Node). f g n.uid.0) g.nodes k any_node d lt ∙ ap (f g) (sym (name_is g k lt))

-- what is kept of the graph g, by node, at the index of a node of v, which is g
pub kept_at : {X : Type 0} (f : Graph → ℕ → X) (v g : Graph) (xs : List X) (k : ℕ) (d : X) → g ≡ v → k < length v.nodes → xs ≡ map (λ (n : Node). f g n.uid.0) g.nodes
    → get_or xs k d ≡ f v (uid_at v k)
kept_at f v g xs k d same lt is =
    at_node f v xs k d lt (is ∙ ap (λ (h : Graph). map (λ (n : Node). f h n.uid.0) h.nodes) same)

-- where no item passes, there is no position
pub no_position : {X : Type 0} (p : X → Bool) (xs : List X) (k : ℕ) (d : X) → position p xs ≡ None → k < length xs → p (get_or xs k d) ≡ false
no_position p xs k d none lt =
    elim (cases_lt (position_or_len p xs) (length xs)) [
      | inl within ↦ (let some : position p xs ≡ Some (position_or_len p xs) = ap (λ b. cond b (Some (position_or_len p xs)) None) (lt-ltb _ _ within) in absurd (cc))
      | inr past ↦ fails_before_first p xs k d (omega arith)
    ]

-- ---- uids
has_uid : (g : Graph) (k : ℕ) (uid : Uid) (d : Node) → k < length g.nodes → (get_or g.nodes k d).uid ≡ uid → HasUidAt g k uid
has_uid g k uid d lt is =
    slice_get-map (λ (n : Node). n.uid) g.nodes k ∙ ap (option_map (λ (n : Node). n.uid)) (slice_get-get_or g.nodes k d lt) ∙ ap (λ u. Some u) is

-- the first place before `second` at which the uid there stands
abbrev first_place : List Node → ℕ → Node → Option ℕ
first_place ns second d = position (λ n. n.uid.0 == (get_or ns second d).uid.0) (take second ns)

twice_in : (g : Graph) (first second : ℕ) (d : Node) → second < length g.nodes → UidsDiffer (take second g.nodes) → first_place g.nodes second d ≡ Some first
    → IsUidTwice g (get_or g.nodes second d).uid first second
twice_in g first second d lt differ at =
    let uid = (get_or g.nodes second d).uid in
    let p = position-Some (λ (n : Node). n.uid.0 == uid.0) (take second g.nodes) first d at in
    let below : first < second = (let q = p.0 in omega (arith, length-take second g.nodes)) in
    let there : get_or (take second g.nodes) first d ≡ get_or g.nodes first d = get_or-take second g.nodes first d below in
    let same : (get_or g.nodes first d).uid ≡ uid = ap (λ (n : Node). n.uid) (sym there) ∙ same_uid (get_or (take second g.nodes) first d).uid uid (eqb-true _ _ p.1) in
    (below, has_uid g first uid d (omega arith) same, has_uid g second uid d lt refl, differ)

pub is_twice : (g : Graph) (ns : List Node) (first second : ℕ) (d : Node) → ns ≡ g.nodes → second < length ns → UidsDiffer (take second ns) → first_place ns second d ≡ Some first
    → IsUidTwice g (get_or ns second d).uid first second
is_twice g ns first second d same =
    subst (λ (xs : List Node). second < length xs → UidsDiffer (take second xs) → first_place xs second d ≡ Some first → IsUidTwice g (get_or xs second d).uid first second)
    (sym same) (twice_in g first second d)

pub uid_is_new : (ns : List Node) (second : ℕ) (d : Node) → second < length ns → UidsDiffer (take second ns) → first_place ns second d ≡ None → UidsDiffer (take (second + 1) ns)
uid_is_new ns second d lt differ none =
    rw (take_more ns second d lt)
    (all_pairs_push (λ (m n : Node). m.uid ≡ n.uid → ⊥) (take second ns) (get_or ns second d) differ (λ k e l same.
    let uid = (get_or ns second d).uid in
    let fails = no_position (λ (n : Node). n.uid.0 == uid.0) (take second ns) k e none l in
    let passes : ((get_or (take second ns) k e).uid.0 == uid.0) ≡ true = ap (λ (u : Uid). u.0 == uid.0) same ∙ same_name uid.0 in
    false≢true (sym fails ∙ passes)))

pub all_uids : (ns ms : List Node) (k : ℕ) → length ns ≤ k → ns ≡ ms → UidsDiffer (take k ns) → UidsDiffer ms
all_uids ns ms k le same differ = subst (λ (xs : List Node). UidsDiffer xs) (take_all k ns le ∙ same) differ

-- ---- members
pub is_out_of_range : (g : Graph) (ns : List Node) (field : Member) (k : ℕ) (d n : Node) → ns ≡ g.nodes → k < length ns → n ≡ get_or ns k d
    → AreInRange (take k g.nodes) → bad_member n ≡ Some field → IsOutOfRange g n.uid field
is_out_of_range g ns field k d n same lt is good bad =
    let here : n ≡ get_or g.nodes k d = is ∙ ap (λ xs. get_or xs k d) same in
    let within : k < length g.nodes = subst (λ (xs : List Node). k < length xs) same lt in
    let first : position_or_len (λ (m : Node). is_some (bad_member m)) g.nodes ≡ k = position_or_len_is (λ (m : Node). is_some (bad_member m)) g.nodes k d (omega arith)
    (λ j l. ap is_some (ap bad_member (sym (get_or-take k g.nodes j d l)) ∙ good j d (omega (arith, length-take k g.nodes))))
    (λ l. ap is_some (ap bad_member (sym here) ∙ bad)) in
    (n, find_at (λ (m : Node). is_some (bad_member m)) g.nodes ∙ ap (λ i. slice_get g.nodes i) first ∙ slice_get-get_or g.nodes k d within ∙ ap (λ m. Some m) (sym here), refl, bad)

pub one_more_good : (ms ns : List Node) (k : ℕ) (d n : Node) → ms ≡ ns → k < length ms → n ≡ get_or ms k d → AreInRange (take k ns) → None ≡ bad_member n → AreInRange (take (k + 1) ns)
one_more_good ms ns k d n same lt is good none =
    let here : n ≡ get_or ns k d = is ∙ ap (λ xs. get_or xs k d) same in
    rw (take_more ns k d (subst (λ (xs : List Node). k < length xs) same lt))
    (All-push (λ (m : Node). bad_member m ≡ None) (take k ns) (get_or ns k d) good (ap bad_member (sym here) ∙ sym none))

pub all_good : (ms ns : List Node) (k : ℕ) → ms ≡ ns → length ms ≤ k → AreInRange (take k ns) → AreInRange ns
all_good ms ns k same le good = subst (λ (xs : List Node). AreInRange xs) (take_all k ns (subst (λ (xs : List Node). length xs ≤ k) same le)) good

-- ---- names
-- the graph without its connections, whose nodes are all that a name needs
abbrev alone : Graph → Graph
alone g = record { nodes = g.nodes; connections = [] }

-- the node of a name stands at an index of the name
node_there : (g : Graph) → Fits g → UidsDiffer g.nodes → (v i : ℕ) (d : Node) → (i < length g.nodes) × (uid_at g i ≡ v) → Some (get_or g.nodes i d) ≡ node_named g v
node_there g fits differ v i d (lt, is) = sym (ap (node_named g) (sym is) ∙ node_is (alone g) named i d lt)
  where
    named : IsNamed (alone g)
    named = record { fits = (fits.0, omega arith); uids_differ = differ; nodes_exist = λ k e less. absurd (omega arith) }

-- so it is what is read at an index of the name
pub node_found : (g : Graph) → Fits g → UidsDiffer g.nodes → (ns : List Node) (v i : ℕ) (d n : Node) → ns ≡ g.nodes → (i < length g.nodes) × (uid_at g i ≡ v) → n ≡ get_or ns i d
    → Some n ≡ node_named g v
node_found g fits differ ns v i d n same at is = ap (λ m. Some m) (is ∙ ap (λ xs. get_or xs i d) same) ∙ node_there g fits differ v i d at
