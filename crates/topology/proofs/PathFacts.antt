-- The printed path, found backwards.
use Rattle.std.proofs.Common.{◌≡◌, ℕ, ◌+◌, ◌^◌, ◌<◌, ◌≤◌, List, [], ◌∷◌, ◌++◌, length, map, get_or, refl, sym, ap, ◌∙◌, subst, arith, inl, inr, Bool, true, false, cond, ◌==◌}
use Rattle.std.specs.Prelude.{reverse}
use Rattle.std.specs.List.{Contains, filter}
use Rattle.std.proofs.lemmas.List.{get_or-map, get_or_past, get_or_read, length-map, append_assoc, map_push, reverse-append}
use Rattle.std.proofs.lemmas.List.Elements.{All-contains}
use Rattle.std.proofs.lemmas.List.Sums.{sum_by-cons}
use Rattle.std.proofs.lemmas.Bool.{cases_lt, eqb-true}
use Rattle.graph_model.specs.Graphs.{IsNode, IsJoined, latency_at, connections_into, output_name}
use Rattle.graph_model.specs.Paths.{IsPathTo, IsAcyclic, IsPrinted, IsPrintedPath, latencies, reach, depth}
use Rattle.graph_model.specs.declared.graph.Uid.{Uid}
use Rattle.graph_model.specs.declared.graph.Node.{Node}
use Rattle.graph_model.specs.declared.graph.Connection.{Connection}
use Rattle.graph_model.specs.declared.graph.Graph.{Graph}
use Rattle.graph_model.proofs.PathLaws.{at_tail}
use Rattle.graph_model.proofs.RankLaws.{node_of}
use Rattle.graph_model.proofs.ReachLaws.{reach_is_longest, reach_after}
use Rattle.graph_model.specs.Named.{IsNamed, uids_of, uid_at, latencies_of}
use Rattle.topology.specs.Links.{source, target, AreLinks}
use Rattle.topology.specs.Reaches.{given, IsTight, AreReaches, IsPathBack}
use Rattle.topology.specs.declared.ends.Link.{Link}
use Rattle.graph_model.proofs.NameFacts.{same_index, is_node, name_is, latency_is, any_node}
use Rattle.topology.proofs.LinkFacts.{joined, link_of}
use Rattle.topology.proofs.ReachFacts.{IsReachAt, rises, reach_small}

filter_none : (p : Connection → Bool) (cs : List Connection) → ((c : Connection) → Contains cs c → p c ≡ true → ⊥) → filter p cs ≡ []
filter_none p [] none = refl
filter_none p (c ∷ cs) none = go (filter_none p cs (λ d has. none d (at_tail c d cs has))) (p c) refl
  where
    go : filter p cs ≡ [] → (b : Bool) → p c ≡ b → cond b (c ∷ filter p cs) (filter p cs) ≡ []
    go rest true e = absurd (none c (0, omega arith, refl) e)
    go rest false e = rest

-- the names walked so far, from the output to the node at index v: what is printed from there on goes on from them
pub record IsWalked (g : Graph) (names : List ℕ) (v : ℕ) : Type 0 where
  pub node : v < length g.nodes
  pub after : List ℕ
  pub whole : names ≡ output_name g ∷ after
  pub led : (us : List ℕ) → IsPrinted g (uid_at g v) us → IsPrinted g (output_name g) (after ++ us)

-- what is read at an index of the names
pub read_name : (g : Graph) (us : List ℕ) → us ≡ uids_of g → (i x : ℕ) → i < length g.nodes → x ≡ get_or us i x → x ≡ uid_at g i
read_name g us same i x lt is =
    let len : length us ≡ length g.nodes = ap length same ∙ length-map g.nodes (λ (n : Node). n.uid.0) in
    get_or_read us i x (omega arith) is 0 ∙ ap (λ xs. get_or xs i 0) same

pub walk_begins : (g : Graph) (v : ℕ) → v < length g.nodes → uid_at g v ≡ output_name g → IsWalked g (uid_at g v ∷ []) v
walk_begins g v lt name = record {
  node = lt;
  after = [];
  whole = ap (λ n. n ∷ []) name;
  led = λ us p. subst (λ n. IsPrinted g n us) name p;
}

module _ (g : Graph) (named : IsNamed g) (acyclic : IsAcyclic g) (ls : List Link) (links : AreLinks g ls) (at : List ℕ) (reaches : AreReaches g at) where
  reach_at : (i : ℕ) → i < length g.nodes → IsReachAt g at i
  reach_at i lt = ap (λ xs. get_or xs i 0) reaches ∙ get_or-map (λ (n : Node). reach g n.uid.0) g.nodes i any_node 0 lt ∙ ap (reach g) (sym (name_is g i lt))

  pub numbers_small : ((i : ℕ) → get_or (latencies_of g) i 0 < 2 ^ 32) → (i : ℕ) → get_or at i 0 < 2 ^ 63
  numbers_small fits i =
      elim (cases_lt i (length g.nodes)) [
        | inl inside ↦ (let is = reach_at i inside in let bound = reach_small g named acyclic fits (uid_at g i) (is_node g named i inside) in omega arith)
        | inr past ↦ (let none = get_or_past at i 0 (let len = ap length reaches ∙ length-map g.nodes (λ (n : Node). reach g n.uid.0) in omega arith) in omega arith)
      ]

  gives : (e : ℕ) → e < length ls → given ls (latencies_of g) at e ≡ reach g (uid_at g (source ls e)) + latency_at g (uid_at g (source ls e))
  gives e lt =
      let is = reach_at (source ls e) (links.within e lt).0 in
      let latency = latency_is g named (source ls e) (links.within e lt).0 in
      omega arith

  module _ (v : ℕ) (lv : v < length g.nodes) where
    -- a source that meets the reach is tight
    tight : (w : ℕ) → IsJoined g w (uid_at g v) → reach g w + latency_at g w ≡ reach g (uid_at g v)
        → (e : ℕ) × (e < length ls) × (uid_at g (source ls e) ≡ w) × IsTight ls (latencies_of g) at v e
    tight w join meets =
        let link = link_of g ls links w (uid_at g v) join in
        let into = same_index g named (target ls link.0) v (links.within link.0 link.1).1 lv link.3 in
        let is = gives link.0 link.1 in
        let src : reach g (uid_at g (source ls link.0)) + latency_at g (uid_at g (source ls link.0)) ≡ reach g w + latency_at g w = ap (λ x. reach g x + latency_at g x) link.2 in
        let here = reach_at v lv in
        (link.0, link.1, link.2, (into, omega arith))

    -- one of the sources meets the reach
    met : (w : ℕ) → IsJoined g w (uid_at g v) → (u : ℕ) × IsJoined g u (uid_at g v) × (reach g u + latency_at g u ≡ reach g (uid_at g v))
    met w join = go (reach_is_longest g (depth g) (rises g named acyclic) (uid_at g v) (is_node g named v lv)).reached
      where
        after : (u : ℕ) → IsJoined g u (uid_at g v) → reach g u + latency_at g u ≤ reach g (uid_at g v)
        after u j =
            let over = reach_after g (depth g) (rises g named acyclic) j.0 j.1 in
            let src = ap (λ x. reach g x + latency_at g x) j.2 in
            let dst = ap (reach g) j.3 in
            omega arith

        go : (us : List ℕ) × IsPathTo g (uid_at g v) us × (latencies g us ≡ reach g (uid_at g v)) → (u : ℕ) × IsJoined g u (uid_at g v) × (reach g u + latency_at g u ≡ reach g (uid_at g v))
        go ([], path, sum) = (w, join, let l = after w join in omega arith)
        go (u ∷ us, path, sum) =
            let node : IsNode g u = node_of g u us path.2 in
            let rest = (reach_is_longest g (depth g) (rises g named acyclic) u node).most us path.2 in
            let cons = sum_by-cons (λ x. latency_at g x) u us in
            let l = after u path.1 in
            (u, path.1, omega arith)

    -- where no link is tight no connection leads in
    pub walk_ends : ((e : ℕ) → e < length ls → IsTight ls (latencies_of g) at v e → ⊥) → connections_into g (uid_at g v) ≡ []
    walk_ends none =
        filter_none (λ c. c.dst.0 == uid_at g v) g.connections (λ c has into.
        let first = met c.src.0 (c, has, refl, eqb-true _ _ into) in
        let link = tight first.0 first.1 first.2 in
        none link.0 link.1 link.3)

    abbrev IsStep : ℕ → Type 0
    IsStep u = ((e : ℕ) × (e < length ls) × (source ls e ≡ u) × IsTight ls (latencies_of g) at v e)
        × ((e : ℕ) → e < length ls → IsTight ls (latencies_of g) at v e → uid_at g u ≤ uid_at g (source ls e))

    step_joins : (u : ℕ) → IsStep u → IsJoined g (uid_at g u) (uid_at g v)
    step_joins u step =
        subst (IsJoined g (uid_at g u)) (ap (uid_at g) step.0.3.0)
        (subst (λ x. IsJoined g (uid_at g x) (uid_at g (target ls step.0.0))) step.0.2 (joined g ls links step.0.0 step.0.1))

    pub step_falls : (u : ℕ) → IsStep u → depth g (uid_at g u) < depth g (uid_at g v)
    step_falls u step =
        let j = step_joins u step in
        let up = All-contains (λ c. depth g c.src.0 < depth g c.dst.0) g.connections j.0 (rises g named acyclic).rises j.1 in
        let src = ap (depth g) j.2 in
        let dst = ap (depth g) j.3 in
        omega arith

    pub walk_goes_on : (names : List ℕ) (u : ℕ) → IsWalked g names v → IsStep u → IsWalked g (names ++ uid_at g u ∷ []) u
    walk_goes_on names u walked step = record {
      node = subst (λ x. x < length g.nodes) step.0.2 (links.within step.0.0 step.0.1).0;
      after = walked.after ++ uid_at g u ∷ [];
      whole = ap (λ xs. xs ++ uid_at g u ∷ []) walked.whole;
      led = λ us p.
          let meets : reach g (uid_at g u) + latency_at g (uid_at g u) ≡ reach g (uid_at g v) =
          ap (λ x. reach g (uid_at g x) + latency_at g (uid_at g x)) (sym step.0.2) ∙ sym (gives step.0.0 step.0.1) ∙ step.0.3.1 ∙ reach_at v lv in
          let least : (w : ℕ) → IsJoined g w (uid_at g v) → reach g w + latency_at g w ≡ reach g (uid_at g v) → uid_at g u ≤ w
          = λ w join tie. (let link = tight w join tie in subst (λ x. uid_at g u ≤ x) link.2 (step.1 link.0 link.1 link.3)) in
          subst (IsPrinted g (output_name g)) (sym (append_assoc walked.after (uid_at g u ∷ []) us)) (walked.led (uid_at g u ∷ us) (step_joins u step, meets, least, p));
    }

-- ---- the other way round
map_reverse : {X Y : Type 0} (f : X → Y) (xs : List X) → map f (reverse xs) ≡ reverse (map f xs)
map_reverse f [] = refl
map_reverse f (x ∷ xs) =
    ap (map f) (reverse-append (x ∷ []) xs) ∙ map_push f (reverse xs) x ∙ ap (λ l. l ++ f x ∷ []) (map_reverse f xs) ∙ sym (reverse-append (f x ∷ []) (map f xs))

pub printed : (g : Graph) (back path : List Uid) → IsPathBack g back → path ≡ reverse back → IsPrintedPath g path
printed g back path is turned =
    (is.0, is.1, ap (map (λ (u : Uid). u.0)) turned ∙ map_reverse (λ (u : Uid). u.0) back ∙ ap reverse is.2)
