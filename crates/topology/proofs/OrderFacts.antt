-- What an order says of a graph, and one node more.
use Rattle.std.proofs.Common.{◌≡◌, ℕ, zero, suc, ◌<◌, ◌≤◌, List, [], ◌∷◌, ◌++◌, length, map, get_or, set, refl, sym, ap, ◌∙◌, subst, arith, inl, inr, Option, Some, None, MatchOption, Bool, true, false, cond, ◌==◌}
use Rattle.std.specs.List.{All, Contains}
use Rattle.std.proofs.lemmas.List.{get_or_append_left, get_or_push, length_push, get_or-set_same, get_or-set_other, get_or-map, length-map, length-set, map_push}
use Rattle.std.proofs.lemmas.List.Elements.{All-contains, All-push, Contains-push, Contains-get_or}
use Rattle.std.proofs.lemmas.Bool.{cases_lt, cases_eq, false≢true, eqb-true}
use Rattle.graph_model.specs.Graphs.{IsNode, IsJoined}
use Rattle.graph_model.specs.Paths.{IsPathTo, IsAcyclic}
use Rattle.graph_model.specs.Orders.{StandsBefore, HasSources, IsNext, IsOrder}
use Rattle.graph_model.specs.declared.graph.Node.{Node}
use Rattle.graph_model.specs.declared.graph.Graph.{Graph}
use Rattle.graph_model.proofs.PathLaws.{first_or_later, same_name}
use Rattle.graph_model.specs.Named.{IsNamed, uids_of, uid_at}
use Rattle.topology.specs.Links.{source, target, AreLinks}
use Rattle.topology.specs.Blocks.{block_of, is_taken, AreBlocks, Blocks, IsFree}
use Rattle.topology.specs.Taken.{AreTaken}
use Rattle.topology.specs.Answers.{IsOrderOfNodes}
use Rattle.topology.specs.declared.ends.Link.{Link}
use Rattle.graph_model.proofs.NameFacts.{same_index, index_of, is_node}
use Rattle.topology.proofs.LinkFacts.{count, connection_at, any_connection, source_is, target_is, link_of}

-- ---- an order leaves no closed walk
-- the first place at which v stands
pub rank : List ℕ → ℕ → ℕ
rank [] v = 0
rank (o ∷ os) v = cond (o == v) 0 (suc (rank os v))

rank_before : (os : List ℕ) (k v : ℕ) → k ≤ length os → StandsBefore os k v → rank os v < k
unfolding rank
rank_before [] k v le s = absurd (omega (arith, s.1))
rank_before (o ∷ os) zero v le s = absurd (omega (arith, s.1))
rank_before (o ∷ os) (suc k) v le (zero, lt, e) =
    let here : (o == v) ≡ true = ap (λ x. x == v) e ∙ same_name v in
    rw here (omega arith)
rank_before (o ∷ os) (suc k) v le (suc j, lt, e) =
    let later = rank_before os k v (omega arith) (j, omega arith, e) in
    elim (o == v) as (λ b. cond b 0 (suc (rank os v)) < suc k) [ true ↦ omega arith | false ↦ omega (arith, later) ]

get_or-rank : (os : List ℕ) (v : ℕ) → rank os v < length os → get_or os (rank os v) 0 ≡ v
unfolding rank
get_or-rank [] v lt = absurd (omega arith)
get_or-rank (o ∷ os) v lt = go (λ l. get_or-rank os v l) (o == v) refl lt
  where
    go : (rank os v < length os → get_or os (rank os v) 0 ≡ v) → (b : Bool) → (o == v) ≡ b → cond b 0 (suc (rank os v)) < suc (length os)
        → get_or (o ∷ os) (cond b 0 (suc (rank os v))) 0 ≡ v
    go rest true t h = eqb-true o v t
    go rest false t h = rest (omega arith)

module _ (g : Graph) (os : List ℕ) (order : IsOrder g os) where
  pub joined_rises : (u v : ℕ) → IsNode g v → IsJoined g u v → rank os u < rank os v
  joined_rises u v node j =
      let in_os : rank os v < length os = rank_before os (length os) v (omega arith) (order.all v node) in
      let at : get_or os (rank os v) 0 ≡ v = get_or-rank os v in_os in
      let before = All-contains (λ c. c.dst.0 ≡ get_or os (rank os v) 0 → StandsBefore os (rank os v) c.src.0) g.connections j.0 (order.next (rank os v) in_os).ready j.1 (j.3 ∙ sym at) in
      rank_before os (rank os v) u (omega arith) (subst (StandsBefore os (rank os v)) j.2 before)

  falls_back : (v : ℕ) (us : List ℕ) → IsPathTo g v us → (w : ℕ) → Contains us w → rank os w < rank os v
  falls_back v [] path w has = let l = has.1 in absurd (omega arith)
  falls_back v (u ∷ us) path w has =
      let rises = joined_rises u v path.0 path.1 in
      elim (first_or_later u w us has) [
        | inl same ↦ (let e = ap (rank os) same in omega arith)
        | inr there ↦ (let l = falls_back u us path.2 w there in omega arith)
      ]

  pub order_is_acyclic : IsAcyclic g
  order_is_acyclic v us path = let l = falls_back v (us ++ v ∷ []) path v (Contains-push us v) in absurd (omega arith)

-- ---- one node more
stands_left : (os : List ℕ) (x k v : ℕ) → k ≤ length os → StandsBefore os k v → StandsBefore (os ++ x ∷ []) k v
stands_left os x k v le s = (s.0, s.1, get_or_append_left os (x ∷ []) 0 s.0 (omega (arith, s.1)) ∙ s.2)

stands_back : (os : List ℕ) (x k v : ℕ) → k ≤ length os → StandsBefore (os ++ x ∷ []) k v → StandsBefore os k v
stands_back os x k v le s = (s.0, s.1, sym (get_or_append_left os (x ∷ []) 0 s.0 (omega (arith, s.1))) ∙ s.2)

pub stands_more : (os : List ℕ) (k m v : ℕ) → k ≤ m → StandsBefore os k v → StandsBefore os m v
stands_more os k m v le s = (s.0, omega (arith, s.1), s.2)

-- what was next stays next
next_stays : (g : Graph) (us : List ℕ) (x k v : ℕ) → k ≤ length us → IsNext g us k v → IsNext g (us ++ x ∷ []) k v
next_stays g us x k v le n = record {
  node = n.node;
  fresh = λ s. n.fresh (stands_back us x k v le s);
  ready = λ e d lt t. stands_left us x k (get_or g.connections e d).src.0 le (n.ready e d lt t);
  least = λ w node fresh ready. n.least w node (λ s. fresh (stands_left us x k w le s)) (λ e d lt t. stands_back us x k (get_or g.connections e d).src.0 le (ready e d lt t));
}

pub all_next : (g : Graph) (us : List ℕ) (x : ℕ) → IsNext g us (length us) x → ((k : ℕ) → k < length us → IsNext g us k (get_or us k 0))
    → (k : ℕ) → k < length (us ++ x ∷ []) → IsNext g (us ++ x ∷ []) k (get_or (us ++ x ∷ []) k 0)
all_next g us x n before k lt =
    elim (cases_lt k (length us)) [
      | inl old ↦ subst (IsNext g (us ++ x ∷ []) k) (sym (get_or_append_left us (x ∷ []) 0 k old)) (next_stays g us x k (get_or us k 0) (omega arith) (before k old))
      | inr past ↦
          (let here : length us ≡ k = omega (arith, length_push us x) in
          let is : get_or (us ++ x ∷ []) k 0 ≡ x = get_or_push us x 0 k here in
          let stays : IsNext g (us ++ x ∷ []) (length us) x = next_stays g us x (length us) x (omega arith) n in
          subst (IsNext g (us ++ x ∷ []) k) (sym is) (subst (λ j. IsNext g (us ++ x ∷ []) j x) here stays))
    ]

-- ---- names and indexes
pub stands_named : (g : Graph) (os : List ℕ) (k v : ℕ) → k ≤ length os → StandsBefore os k v → StandsBefore (map (uid_at g) os) k (uid_at g v)
stands_named g os k v le (j, lt, e) = (j, lt, get_or-map (uid_at g) os j 0 0 (omega arith) ∙ ap (uid_at g) e)

pub stands_index : (g : Graph) → IsNamed g → (os : List ℕ) → All (λ i. i < length g.nodes) os → (k v : ℕ) → k ≤ length os → v < length g.nodes
    → StandsBefore (map (uid_at g) os) k (uid_at g v) → StandsBefore os k v
stands_index g named os indexes k v le lv (j, lt, e) =
    (j, lt, same_index g named (get_or os j 0) v (indexes j 0 (omega arith)) lv (sym (get_or-map (uid_at g) os j 0 0 (omega arith)) ∙ e))

false_from : (b : Bool) → (b ≡ true → ⊥) → b ≡ false
false_from true f = absurd (f refl)
false_from false f = refl

none_from : (o : Option ℕ) → ((e : ℕ) → o ≡ Some e → ⊥) → o ≡ None
none_from None f = refl
none_from (Some e) f = absurd (f e refl)

-- what a link that blocks says
pub blocked_by : (ls : List Link) (taken : List Bool) (blocks : List (Option ℕ)) (v e : ℕ) → AreBlocks ls taken blocks → v < length blocks → block_of blocks v ≡ Some e → Blocks ls taken v e
blocked_by ls taken blocks v e are lt is =
    let m : MatchOption (Some e) ((e : ℕ) → e < length ls → target ls e ≡ v → is_taken taken (source ls e) ≡ true) (λ e. Blocks ls taken v e)
    = subst (λ (o : Option ℕ). MatchOption o ((e : ℕ) → e < length ls → target ls e ≡ v → is_taken taken (source ls e) ≡ true) (λ e. Blocks ls taken v e)) is (are v lt) in
    m

-- a node that nothing blocks has all its sources taken
none_of : (ls : List Link) (taken : List Bool) (blocks : List (Option ℕ)) (v : ℕ) → AreBlocks ls taken blocks → v < length blocks → block_of blocks v ≡ None
    → (e : ℕ) → e < length ls → target ls e ≡ v → is_taken taken (source ls e) ≡ true
none_of ls taken blocks v are lt is =
    let m : MatchOption None ((e : ℕ) → e < length ls → target ls e ≡ v → is_taken taken (source ls e) ≡ true) (λ e. Blocks ls taken v e)
    = subst (λ (o : Option ℕ). MatchOption o ((e : ℕ) → e < length ls → target ls e ≡ v → is_taken taken (source ls e) ≡ true) (λ e. Blocks ls taken v e)) is (are v lt) in
    m

module _ (g : Graph) (named : IsNamed g) (ls : List Link) (links : AreLinks g ls) (taken : List Bool) (blocks : List (Option ℕ)) (os : List ℕ)
    (are : AreTaken g ls taken blocks os) where
  -- a node is free where it is fresh and ready
  free_from : (i : ℕ) → i < length g.nodes → ¬ StandsBefore (map (uid_at g) os) (length os) (uid_at g i) → HasSources g (map (uid_at g) os) (length os) (uid_at g i) → IsFree taken blocks i
  free_from i lt fresh ready = (
    false_from (is_taken taken i) (λ t. fresh (stands_named g os (length os) i (omega arith) (are.marked i lt t))),
    none_from (block_of blocks i) (λ e is.
        let by = blocked_by ls taken blocks i e are.noted (let s = are.slots in omega arith) is in
        let into : (connection_at g e).dst.0 ≡ uid_at g i = sym (target_is g ls links e by.0) ∙ ap (uid_at g) by.1 in
        let before = ready e any_connection (let n = count g ls links in let l = by.0 in omega arith) into in
        let there = stands_index g named os are.indexes (length os) (source ls e) (omega arith) (links.within e by.0).0
        (subst (StandsBefore (map (uid_at g) os) (length os)) (sym (source_is g ls links e by.0)) before) in
        false≢true (sym by.2 ∙ are.stands (source ls e) there)),
  )

  pub next_is : (x : ℕ) → x < length g.nodes → IsFree taken blocks x → ((v : ℕ) → v < length g.nodes → IsFree taken blocks v → uid_at g x ≤ uid_at g v)
      → IsNext g (map (uid_at g) os) (length os) (uid_at g x)
  next_is x lt free least = record {
    node = is_node g named x lt;
    fresh = λ s. false≢true (sym free.0 ∙ are.stands x (stands_index g named os are.indexes (length os) x (omega arith) lt s));
    ready = λ e d le into.
        let link = link_of g ls links (get_or g.connections e d).src.0 (uid_at g x) (get_or g.connections e d, Contains-get_or g.connections e d le, refl, into) in
        let is : target ls link.0 ≡ x = same_index g named (target ls link.0) x (links.within link.0 link.1).1 lt link.3 in
        let before = are.marked (source ls link.0) (links.within link.0 link.1).0 (unblocked link.0 link.1 is) in
        subst (StandsBefore (map (uid_at g) os) (length os)) link.2 (stands_named g os (length os) (source ls link.0) (omega arith) before);
    least = λ w node fresh ready.
        let at = index_of g w node in
        let free_w = free_from at.0 at.1 (λ s. fresh (subst (StandsBefore (map (uid_at g) os) (length os)) at.2 s)) (subst (HasSources g (map (uid_at g) os) (length os)) (sym at.2) ready) in
        subst (λ v. uid_at g x ≤ v) at.2 (least at.0 at.1 free_w);
  }
    where
      unblocked : (e : ℕ) → e < length ls → target ls e ≡ x → is_taken taken (source ls e) ≡ true
      unblocked = none_of ls taken blocks x are.noted (let s = are.slots in omega arith) free.1

  marked_more : (x : ℕ) (v : ℕ) → v < length g.nodes → is_taken (set taken x true) v ≡ true → StandsBefore (os ++ x ∷ []) (length (os ++ x ∷ [])) v
  marked_more x v lt t =
      elim (cases_eq v x) [
        | inl same ↦ (length os, omega (arith, length_push os x), get_or_push os x 0 (length os) refl ∙ sym same)
        | inr other ↦
            (let old : is_taken taken v ≡ true = sym (get_or-set_other taken x v true false other) ∙ t in
            stands_more (os ++ x ∷ []) (length os) (length (os ++ x ∷ [])) v (omega (arith, length_push os x)) (stands_left os x (length os) v (omega arith) (are.marked v lt old)))
      ]

  stands_marked : (x : ℕ) → x < length g.nodes → (v : ℕ) → StandsBefore (os ++ x ∷ []) (length (os ++ x ∷ [])) v → is_taken (set taken x true) v ≡ true
  stands_marked x lx v s =
      elim (cases_eq v x) [
        | inl same ↦ ap (is_taken (set taken x true)) same ∙ get_or-set_same taken x true false (let f = are.flags in omega arith)
        | inr other ↦ get_or-set_other taken x v true false other ∙ are.stands v (earlier other)
      ]
    where
      earlier : (v ≡ x → ⊥) → StandsBefore os (length os) v
      earlier other =
          elim (cases_lt s.0 (length os)) [
            | inl old ↦ (s.0, old, sym (get_or_append_left os (x ∷ []) 0 s.0 old) ∙ s.2)
            | inr past ↦ absurd (other (sym s.2 ∙ get_or_push os x 0 s.0 (let l = s.1 in omega (arith, length_push os x))))
          ]

  -- with one node more, and the blocks noted anew
  pub taken_more : (new : List (Option ℕ)) (x : ℕ) → x < length g.nodes → length new ≡ length g.nodes → AreBlocks ls (set taken x true) new
      → IsNext g (map (uid_at g) os) (length os) (uid_at g x) → AreTaken g ls (set taken x true) new (os ++ x ∷ [])
  taken_more new x lt slots noted next = record {
    flags = length-set taken x true ∙ are.flags;
    slots = slots;
    noted = noted;
    indexes = All-push (λ k. k < length g.nodes) os x are.indexes lt;
    marked = marked_more x;
    stands = stands_marked x lt;
    next = subst (λ us. (k : ℕ) → k < length (os ++ x ∷ []) → IsNext g us k (get_or us k 0)) (sym (map_push (uid_at g) os x)) named_next;
  }
    where
      named_next : (k : ℕ) → k < length (os ++ x ∷ []) → IsNext g (map (uid_at g) os ++ uid_at g x ∷ []) k (get_or (map (uid_at g) os ++ uid_at g x ∷ []) k 0)
      named_next k l =
          all_next g (map (uid_at g) os) (uid_at g x) (subst (λ n. IsNext g (map (uid_at g) os) n (uid_at g x)) (sym (length-map os (uid_at g))) next)
          (λ j lj. are.next j (omega (arith, length-map os (uid_at g)))) k (omega (arith, length_push os x, length_push (map (uid_at g) os) (uid_at g x), length-map os (uid_at g)))

  -- the least free node is taken next
  pub taken_next : (us : List ℕ) → us ≡ uids_of g → (new : List (Option ℕ)) (x : ℕ) → length new ≡ length blocks → AreBlocks ls (set taken x true) new
      → (x < length us) × IsFree taken blocks x × ((v : ℕ) → v < length us → IsFree taken blocks v → get_or us x 0 ≤ get_or us v 0)
      → AreTaken g ls (set taken x true) new (os ++ x ∷ [])
  taken_next us same new x slots noted first =
      let there : (x < length (uids_of g)) × IsFree taken blocks x × ((v : ℕ) → v < length (uids_of g) → IsFree taken blocks v → uid_at g x ≤ uid_at g v)
      = subst (λ (ys : List ℕ). (x < length ys) × IsFree taken blocks x × ((v : ℕ) → v < length ys → IsFree taken blocks v → get_or ys x 0 ≤ get_or ys v 0)) same first in
      let lt : x < length g.nodes = omega (arith, there.0, length-map g.nodes (λ (n : Node). n.uid.0)) in
      taken_more new x lt (slots ∙ are.slots) noted
      (next_is x lt there.1 (λ v lv free. there.2 v (omega (arith, lv, length-map g.nodes (λ (n : Node). n.uid.0))) free))

  -- where each node has its flag, it is the order
  pub order_of : ((v : ℕ) → v < length taken → is_taken taken v ≡ true) → IsOrderOfNodes g os
  order_of all = record {
    indexes = are.indexes;
    order = record {
      all = λ v node.
          let at = index_of g v node in
          let there = stands_named g os (length os) at.0 (omega arith) (are.marked at.0 at.1 (all at.0 (let f = are.flags in let l = at.1 in omega arith))) in
          subst (StandsBefore (map (uid_at g) os) (length (map (uid_at g) os))) at.2
          (subst (λ n. StandsBefore (map (uid_at g) os) n (uid_at g at.0)) (sym (length-map os (uid_at g))) there);
      next = λ k lt. are.next k (omega (arith, length-map os (uid_at g)));
    };
  }
