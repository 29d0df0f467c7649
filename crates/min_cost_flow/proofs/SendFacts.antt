-- Units along the edges of a tree.
use Rattle.std.proofs.Common.{◌≡◌, ◌≢◌, ℕ, zero, suc, ◌+◌, ◌-◌, ◌<◌, ◌≤◌, ℤ, pos, ◌+ℤ◌, neg_ℤ, List, length, set, Option, Some, None, ◌⊎◌, inl, inr, refl, sym, ap, subst, ◌∙◌, arith, slice_get, slice_index, get_or, true, length-set, get_or-set_same, get_or-set_other, add-one}
use Rattle.std.specs.List.{All}
use Rattle.std.proofs.lemmas.Int.{ints}
use Rattle.std.proofs.lemmas.Bool.{cases_eq}
use Rattle.std.proofs.lemmas.Option.{slice_get_within, slice_get-get_or, get_or_from_slice_get}
use Rattle.min_cost_flow.specs.declared.network.Arc.{Arc}
use Rattle.min_cost_flow.specs.declared.network.Step.{Step}
use Rattle.min_cost_flow.specs.declared.network.Network.{Network}
use Rattle.min_cost_flow.specs.declared.residual.Residual.{Residual}
use Rattle.shortest_paths.specs.declared.heap.Searcher.{Searcher}
use Rattle.shortest_paths.specs.Nearest.{IsLinked}
use Rattle.min_cost_flow.specs.Search.{IsSearchOf, CanCarry}
use Rattle.min_cost_flow.specs.Flow.{IsTight}
use Rattle.min_cost_flow.specs.Residual.{net_of, units_at, forward, backward, IsMove, more, fewer, after_step, IsTreeTight}
use Rattle.min_cost_flow.proofs.UnitFacts.{net-more, net-fewer}
use Rattle.shortest_paths.specs.declared.edges.Edge.{Edge}
use Rattle.shortest_paths.specs.Walks.{ClimbsIn}
use Rattle.shortest_paths.proofs.WalkLaws.{some_same}

-- a point is climbed from in one number of steps only
pub climb_unique : (edges : List Edge) (last : List (Option ℕ)) (from n m v : ℕ) → slice_get last from ≡ Some None → ClimbsIn edges last from n v → ClimbsIn edges last from m v → n ≡ m
climb_unique edges last from zero zero v root a b = refl
climb_unique edges last from zero (suc m) v root a b = absurd (let q = sym root ∙ subst (λ x. slice_get last x ≡ Some (Some b.0)) a b.2 in cc)
climb_unique edges last from (suc n) zero v root a b = absurd (let q = sym root ∙ subst (λ x. slice_get last x ≡ Some (Some a.0)) b a.2 in cc)
climb_unique edges last from (suc n) (suc m) v root a b =
    let k : a.0 ≡ b.0 = let q = sym a.2 ∙ b.2 in cc in
    let e = some_same a.1 b.1 (sym a.3 ∙ subst (λ x. slice_get edges x ≡ Some b.1) (sym k) b.3) in
    ap suc (climb_unique edges last from n m a.1.tail root a.4 (subst (λ (x : Edge). ClimbsIn edges last from m x.tail) (sym e) b.4))

-- a climb that can go no further is at the root
pub climb_ends : (edges : List Edge) (last : List (Option ℕ)) (from n at : ℕ) → slice_get last at ≡ Some None → ClimbsIn edges last from n at → at ≡ from
climb_ends edges last from zero at none c = c
climb_ends edges last from (suc n) at none c = absurd (let q = sym none ∙ c.2 in cc)

-- two climbs from one point: the longer one goes on where the shorter one ended
pub climb_split : (edges : List Edge) (last : List (Option ℕ)) (u v i d m w : ℕ) → m ≡ i + d → ClimbsIn edges last u i w → ClimbsIn edges last v m w → ClimbsIn edges last v d u
climb_split edges last u v zero d m w is a b = subst (λ x. ClimbsIn edges last v d x) a (subst (λ x. ClimbsIn edges last v x w) (omega (arith, is)) b)
climb_split edges last u v (suc i) d zero w is a b = absurd (omega (arith, is))
climb_split edges last u v (suc i) d (suc m) w is a b =
    let k : a.0 ≡ b.0 = let q = sym a.2 ∙ b.2 in cc in
    let e = some_same a.1 b.1 (sym a.3 ∙ subst (λ x. slice_get edges x ≡ Some b.1) (sym k) b.3) in
    climb_split edges last u v i d m a.1.tail (omega (arith, is)) a.4 (subst (λ (x : Edge). ClimbsIn edges last v m x.tail) (sym e) b.4)

-- a climb and one edge more
pub climb_on : (edges : List Edge) (last : List (Option ℕ)) (u i w k : ℕ) (e : Edge) → ClimbsIn edges last u i w → slice_get last u ≡ Some (Some k) → slice_get edges k ≡ Some e →
    ClimbsIn edges last e.tail (suc i) w
climb_on edges last u zero w k e c named there = (k, e, subst (λ x. slice_get last x ≡ Some (Some k)) (sym c) named, there, refl)
climb_on edges last u (suc i) w k e c named there = (c.0, c.1, c.2, c.3, climb_on edges last u i c.1.tail k e c.4 named there)

-- of a climb that is not over, what is left after one edge more
pub climb_left : (edges : List Edge) (last : List (Option ℕ)) (from n i total at k : ℕ) (e : Edge) → slice_get last from ≡ Some None → slice_get last at ≡ Some (Some k) → slice_get edges k ≡ Some e →
    n + i < total → ClimbsIn edges last from n at → (m : ℕ) × (m + suc i < total) × ClimbsIn edges last from m e.tail
climb_left edges last from zero i total at k e root named there l c = absurd (let q = sym root ∙ subst (λ x. slice_get last x ≡ Some (Some k)) c named in cc)
climb_left edges last from (suc m) i total at k e root named there l c =
    let k_is : k ≡ c.0 = let q = sym named ∙ c.2 in cc in
    let e_is = some_same e c.1 (sym there ∙ subst (λ x. slice_get edges x ≡ Some c.1) (sym k_is) c.3) in
    (m, omega arith, subst (λ (x : Edge). ClimbsIn edges last from m x.tail) (sym e_is) c.4)

-- what holds while units are sent along the tree from `to` back to `from`: they have come to `at`, in i steps
pub record IsSending (arcs : List Arc) (old : List ℕ) (edges : List Edge) (last : List (Option ℕ)) (from to units : ℕ) (flow : List ℕ) (at i : ℕ) : Type 0 where
  pub len : length flow ≡ length old
  pub left : (n : ℕ) × (n + i < length last) × ClimbsIn edges last from n at
  pub path : ClimbsIn edges last at i to
  pub net : (v : ℕ) → net_of arcs flow v +ℤ pos (units_at units at v) ≡ net_of arcs old v +ℤ pos (units_at units to v)
  pub kept : (j m n : ℕ) (a : Arc) → slice_get arcs j ≡ Some a → slice_index flow j < slice_index old j → ClimbsIn edges last from n at → ClimbsIn edges last from m a.tail → n < m
  pub grown : (j m n : ℕ) (a : Arc) → slice_get arcs j ≡ Some a → slice_index old j < slice_index flow j → ClimbsIn edges last from n at → ClimbsIn edges last from m a.head → n < m
  pub tight : (p : ℕ → ℤ) → IsTight arcs old p → IsTreeTight edges last p → IsTight arcs flow p
  pub bound : (j : ℕ) → slice_index flow j ≤ slice_index old j + units

pub IsSending-first : (arcs : List Arc) (old : List ℕ) (edges : List Edge) (last : List (Option ℕ)) (from to units n : ℕ) → n < length last → ClimbsIn edges last from n to → IsSending arcs old edges last from to units old to 0
IsSending-first arcs old edges last from to units n l c = record {
  len = refl;
  left = (n, omega arith, c);
  path = refl;
  net = λ v. refl;
  kept = λ j m n a at less c d. absurd (omega arith);
  grown = λ j m n a at less c d. absurd (omega arith);
  tight = λ p t q. t;
  bound = λ j. omega arith;
}

-- the units on an arc after a write
pub index-set : (flow : List ℕ) (k j g : ℕ) → k < length flow → (slice_index (set flow k g) j ≡ g) × (j ≡ k) ⊎ (slice_index (set flow k g) j ≡ slice_index flow j) × (j ≢ k)
index-set flow k j g l =
    elim (cases_eq j k) [
      | inl same ↦ inl (subst (λ x. slice_index (set flow k g) x ≡ g) (sym same) (get_or-set_same flow k g 0 l), same)
      | inr ne ↦ inr (get_or-set_other flow k j g 0 ne, ne)
    ]

module _ (arcs : List Arc) (old : List ℕ) (edges : List Edge) (last : List (Option ℕ)) (from to units : ℕ) (flow : List ℕ) (at i k : ℕ) (e : Edge)
    (many : length old ≡ length arcs) (root : slice_get last from ≡ Some None)
    (sending : IsSending arcs old edges last from to units flow at i)
    (named : slice_get last at ≡ Some (Some k)) (there : slice_get edges k ≡ Some e) (arrives : e.head ≡ at) where
  -- a climb from the tail is one step of a climb from here
  climb' : (n : ℕ) → ClimbsIn edges last from n e.tail → ClimbsIn edges last from (suc n) at
  climb' n c = (k, e, named, there, c)

  within' : (j : ℕ) (a : Arc) → slice_get arcs j ≡ Some a → j < length flow
  within' j a h = let l = slice_get_within arcs j a h in let q = sending.len in omega (arith, l, q, many)

  -- an arc that ends here has gained nothing yet
  not_grown' : (j : ℕ) (a : Arc) → slice_get arcs j ≡ Some a → e ≡ forward a → slice_index flow j ≤ slice_index old j
  not_grown' j a h is =
      let n = sending.left in
      let head_is : a.head ≡ at = sym (ap (λ (x : Edge). x.head) is) ∙ arrives in
      let not_more : slice_index old j < slice_index flow j → ⊥ = λ more. let bad = sending.grown j n.0 n.0 a h more n.2 (subst (λ x. ClimbsIn edges last from n.0 x) (sym head_is) n.2) in omega arith in
      omega arith

  pub IsSending-more : (j : ℕ) (a : Arc) → slice_get arcs j ≡ Some a → e ≡ forward a → IsSending arcs old edges last from to units (set flow j (slice_index flow j + units)) e.tail (suc i)
  IsSending-more j a h is =
      let l = within' j a h in
      let tail_is = ap (λ (x : Edge). x.tail) is in
      let head_is = ap (λ (x : Edge). x.head) is in
      let cost_is = ap (λ (x : Edge). x.cost) is in
      record {
        len = length-set flow j _ ∙ sending.len;
        left = climb_left edges last from sending.left.0 i (length last) at k e root named there sending.left.1 sending.left.2;
        path = climb_on edges last at i to k e sending.path named there;
        net = λ v.
            let one = net-more arcs flow j v units a h l in
            let before = sending.net v in
            let at_tail = ap (λ x. units_at units x v) tail_is in
            let at_head = ap (λ x. units_at units x v) (sym head_is ∙ arrives) in
            omega (arith, ints);
        kept = λ b m n d hd less c r.
            elim (index-set flow j b (slice_index flow j + units) l) [
              | inl w ↦ let q = w.0 in let same = w.1 in
                  let less' : slice_index flow b < slice_index old b = let sub = ap (slice_index flow) same in omega arith in
                  let lt = sending.kept b m (suc n) d hd less' (climb' n c) r in omega arith
              | inr w ↦ let q = w.0 in let lt = sending.kept b m (suc n) d hd (omega arith) (climb' n c) r in omega arith
            ];
        grown = λ b m n d hd less c r.
            elim (index-set flow j b (slice_index flow j + units) l) [
              | inl w ↦
                  let same_arc = some_same a d (sym h ∙ subst (λ x. slice_get arcs x ≡ Some d) w.1 hd) in
                  let at_is : d.head ≡ at = sym (ap (λ (x : Arc). x.head) same_arc) ∙ sym head_is ∙ arrives in
                  let unique = climb_unique edges last from (suc n) m at root (climb' n c) (subst (λ x. ClimbsIn edges last from m x) at_is r) in
                  omega arith
              | inr w ↦ let q = w.0 in let lt = sending.grown b m (suc n) d hd (omega arith) (climb' n c) r in omega arith
            ];
        tight = λ p t q. let before = sending.tight p t q in record {
          rises = before.rises;
          no_more = λ b d hd some.
              elim (index-set flow j b (slice_index flow j + units) l) [
                | inl w ↦
                    let same_arc = some_same a d (sym h ∙ subst (λ x. slice_get arcs x ≡ Some d) w.1 hd) in
                    let along = q at k e named there in
                    let p_head = ap p (head_is ∙ ap (λ (x : Arc). x.head) same_arc) in
                    let p_tail = ap p (tail_is ∙ ap (λ (x : Arc). x.tail) same_arc) in
                    let cost = cost_is ∙ ap (λ (x : Arc). neg_ℤ x.least) same_arc in
                    omega (arith, ints)
                | inr w ↦ let same = w.0 in before.no_more b d hd (omega arith)
              ];
        };
        bound = λ b. let before = sending.bound b in
            elim (index-set flow j b (slice_index flow j + units) l) [
              | inl w ↦ let q = w.0 in let sub = ap (slice_index old) w.1 in let gained = not_grown' j a h is in omega arith
              | inr w ↦ let q = w.0 in omega arith
            ];
      }

  -- an arc that leaves here has lost nothing yet
  pub still_there' : (j : ℕ) (a : Arc) → slice_get arcs j ≡ Some a → e ≡ backward a → slice_index old j ≤ slice_index flow j
  still_there' j a h is =
      let n = sending.left in
      let tail_is : a.tail ≡ at = sym (ap (λ (x : Edge). x.head) is) ∙ arrives in
      let not_less : slice_index flow j < slice_index old j → ⊥ = λ less. let bad = sending.kept j n.0 n.0 a h less n.2 (subst (λ x. ClimbsIn edges last from n.0 x) (sym tail_is) n.2) in omega arith in
      omega arith

  pub IsSending-fewer : (j : ℕ) (a : Arc) → slice_get arcs j ≡ Some a → e ≡ backward a → units ≤ slice_index flow j → IsSending arcs old edges last from to units (set flow j (slice_index flow j - units)) e.tail (suc i)
  IsSending-fewer j a h is some_here =
      let l = within' j a h in
      let tail_is = ap (λ (x : Edge). x.tail) is in
      let head_is = ap (λ (x : Edge). x.head) is in
      record {
        len = length-set flow j _ ∙ sending.len;
        left = climb_left edges last from sending.left.0 i (length last) at k e root named there sending.left.1 sending.left.2;
        path = climb_on edges last at i to k e sending.path named there;
        net = λ v.
            let one = net-fewer arcs flow j v units a h l some_here in
            let before = sending.net v in
            let at_tail = ap (λ x. units_at units x v) tail_is in
            let at_head = ap (λ x. units_at units x v) (sym head_is ∙ arrives) in
            omega (arith, ints);
        kept = λ b m n d hd less c r.
            elim (index-set flow j b (slice_index flow j - units) l) [
              | inl w ↦
                  let same_arc = some_same a d (sym h ∙ subst (λ x. slice_get arcs x ≡ Some d) w.1 hd) in
                  let at_is : d.tail ≡ at = sym (ap (λ (x : Arc). x.tail) same_arc) ∙ sym head_is ∙ arrives in
                  let unique = climb_unique edges last from (suc n) m at root (climb' n c) (subst (λ x. ClimbsIn edges last from m x) at_is r) in
                  omega arith
              | inr w ↦ let q = w.0 in let lt = sending.kept b m (suc n) d hd (omega arith) (climb' n c) r in omega arith
            ];
        grown = λ b m n d hd less c r.
            elim (index-set flow j b (slice_index flow j - units) l) [
              | inl w ↦ let q = w.0 in let same = w.1 in
                  let less' : slice_index old b < slice_index flow b = let sub = ap (slice_index flow) same in omega arith in
                  let lt = sending.grown b m (suc n) d hd less' (climb' n c) r in omega arith
              | inr w ↦ let q = w.0 in let lt = sending.grown b m (suc n) d hd (omega arith) (climb' n c) r in omega arith
            ];
        tight = λ p t q. let before = sending.tight p t q in record {
          rises = before.rises;
          no_more = λ b d hd some.
              elim (index-set flow j b (slice_index flow j - units) l) [
                | inl w ↦ let same = w.0 in let sub = ap (slice_index flow) w.1 in before.no_more b d hd (omega arith)
                | inr w ↦ let same = w.0 in before.no_more b d hd (omega arith)
              ];
        };
        bound = λ b. let before = sending.bound b in
            elim (index-set flow j b (slice_index flow j - units) l) [
              | inl w ↦ let q = w.0 in let sub = ap (slice_index flow) w.1 in omega arith
              | inr w ↦ let q = w.0 in omega arith
            ];
      }

-- what was read of a list is there in it
pub named_there : (xs read : List (Option ℕ)) (at : ℕ) (x : Option ℕ) → at < length xs → read ≡ xs → get_or read at None ≡ x → slice_get xs at ≡ Some x
named_there xs read at x l same is = slice_get-get_or xs at None l ∙ ap Some (ap (λ ys. get_or ys at None) (sym same) ∙ is)

-- what `last` names at a point: an edge that arrives there, with its step
pub record Here (net : Network) (searched : List ℕ) (r : Residual) (d : Searcher) (at k : ℕ) : Type 0 where
  pub edge : Edge
  pub step : Step
  pub named : slice_get d.last.items at ≡ Some (Some k)
  pub there : slice_get r.edges.items k ≡ Some edge
  pub arrives : edge.head ≡ at
  pub step_there : slice_get r.steps.items k ≡ Some step
  pub move : IsMove net.arcs searched edge step

module _ (net : Network) (searched : List ℕ) (from to : ℕ) (r : Residual) (d : Searcher) (s : IsSearchOf net searched from r d) where
  pub here : (at k : ℕ) (last : List (Option ℕ)) → at < net.points → last ≡ d.last.items → get_or last at None ≡ Some k → Here net searched r d at k
  here at k last l same is =
      let named = named_there d.last.items last at (Some k) (let many = s.last_each in omega arith) same is in
      let e = s.ends at k named in
      record { edge = e.edge; step = e.step; named = named; there = e.there; arrives = e.arrives; step_there = e.step_there; move = e.move }

  pub first_sending : (old : List ℕ) (units : ℕ) → IsLinked d.last.items to → IsSending net.arcs old r.edges.items d.last.items from to units old to 0
  first_sending old units l = let t = s.tree to l.0 l.1 in IsSending-first net.arcs old r.edges.items d.last.items from to units t.0 (let q = s.last_each in let w = t.1 in omega arith) t.2

  pub arc_within : (at k : ℕ) (h : Here net searched r d at k) → h.step.arc < length net.arcs
  arc_within at k h = by h.edge h.step h.move
    where
      by : (e : Edge) (t : Step) → IsMove net.arcs searched e t → t.arc < length net.arcs
      by e t (more j a f) = slice_get_within net.arcs j a f
      by e t (fewer j a f some) = slice_get_within net.arcs j a f

  module _ (old : List ℕ) (units : ℕ) (flow : List ℕ) (at i k : ℕ) (many : length old ≡ length net.arcs) (room : CanCarry old r d to units) (sending : IsSending net.arcs old r.edges.items d.last.items from to units flow at i) (h : Here net searched r d at k) where
    pub step_within : h.step.arc < length flow
    step_within = let l = arc_within at k h in let q = sending.len in omega (arith, l, q, many)

    pub step_has_units : h.step.back ≡ true → units ≤ slice_index flow h.step.arc
    step_has_units back = by h.edge h.step h.move refl back (room i at k h.step sending.path h.named h.step_there back)
      where
        by : (e : Edge) (t : Step) → IsMove net.arcs searched e t → h.edge ≡ e → t.back ≡ true → units ≤ slice_index old t.arc → units ≤ slice_index flow t.arc
        by e t (more j a f) is back enough = absurd (cc)
        by e t (fewer j a f some) is back enough =
            let still = still_there' net.arcs old r.edges.items d.last.items from to units flow at i k h.edge many s.root sending h.named h.there h.arrives j a f is in omega arith

    pub step_sending : IsSending net.arcs old r.edges.items d.last.items from to units (set flow h.step.arc (after_step flow units h.step)) h.edge.tail (i + 1)
    step_sending = subst (λ n. IsSending net.arcs old r.edges.items d.last.items from to units (set flow h.step.arc (after_step flow units h.step)) h.edge.tail n) (sym (add-one i)) (by h.edge h.step h.move refl step_has_units)
      where
        by : (e : Edge) (t : Step) → IsMove net.arcs searched e t → h.edge ≡ e → (t.back ≡ true → units ≤ slice_index flow t.arc) → IsSending net.arcs old r.edges.items d.last.items from to units (set flow t.arc (after_step flow units t)) h.edge.tail (suc i)
        by e t (more j a f) is enough = IsSending-more net.arcs old r.edges.items d.last.items from to units flow at i k h.edge many s.root sending h.named h.there h.arrives j a f is
        by e t (fewer j a f some) is enough =
            IsSending-fewer net.arcs old r.edges.items d.last.items from to units flow at i k h.edge many s.root sending h.named h.there h.arrives j a f is (enough refl)

pub tail_below : (net : Network) (old : List ℕ) (r : Residual) (d : Searcher) (at k : ℕ) → All (λ (a : Arc). (a.tail < net.points) × (a.head < net.points)) net.arcs → (h : Here net old r d at k) → h.edge.tail < net.points
tail_below net old r d at k ends h = by h.edge h.step h.move
  where
    within : (j : ℕ) (a : Arc) → slice_get net.arcs j ≡ Some a → (a.tail < net.points) × (a.head < net.points)
    within j a f = subst (λ (x : Arc). (x.tail < net.points) × (x.head < net.points)) (get_or_from_slice_get net.arcs j a a f) (ends j a (slice_get_within net.arcs j a f))

    by : (e : Edge) (t : Step) → IsMove net.arcs old e t → e.tail < net.points
    by e t (more j a f) = (within j a f).0
    by e t (fewer j a f some) = (within j a f).1

-- units that have come to the root were sent
pub sent_at_root : (net : Network) (searched old : List ℕ) (from to units : ℕ) (r : Residual) (d : Searcher) (flow : List ℕ) (at i : ℕ) (last : List (Option ℕ)) → IsSearchOf net searched from r d →
    IsSending net.arcs old r.edges.items d.last.items from to units flow at i → at < net.points → last ≡ d.last.items → get_or last at None ≡ None →
    (v : ℕ) → net_of net.arcs flow v +ℤ pos (units_at units from v) ≡ net_of net.arcs old v +ℤ pos (units_at units to v)
sent_at_root net searched old from to units r d flow at i last s sending l same none v =
    let named = named_there d.last.items last at None (let many = s.last_each in omega arith) same none in
    let is = climb_ends r.edges.items d.last.items from sending.left.0 at named sending.left.2 in
    subst (λ y. net_of net.arcs flow v +ℤ pos (units_at units y v) ≡ net_of net.arcs old v +ℤ pos (units_at units to v)) is (sending.net v)
