-- Paths of admissible arcs, and units along them.
use Rattle.std.proofs.Common.{◌≡◌, ℕ, zero, suc, ◌+◌, ◌*◌, ◌<◌, ◌≤◌, ◌^◌, pos, ◌+ℤ◌, ◌-ℤ◌, ℤ, List, [], ◌∷◌, ◌++◌, length, set, Option, Some, None, inl, inr, refl, sym, ap, subst, ◌∙◌, arith, slice_get, slice_index, slice_index_or, get_or, length-set, get_or-set_same, get_or-set_other}
use Rattle.std.proofs.Math.Nat.{mul-suc, suc-mul}
use Rattle.std.proofs.lemmas.Int.{ints}
use Rattle.std.proofs.lemmas.Bool.{cases_eq}
use Rattle.std.proofs.lemmas.Option.{slice_get-get_or, slice_get_within, get_or_from_slice_get}
use Rattle.shortest_paths.specs.declared.edges.Edge.{Edge}
use Rattle.shortest_paths.specs.declared.leaving.Leaving.{Leaving}
use Rattle.shortest_paths.specs.Walks.{Joins, IsWithin, number_of}
use Rattle.shortest_paths.specs.Leaving.{IsLatest, IsLeaving}
use Rattle.shortest_paths.specs.Nearest.{AreSmall}
use Rattle.shortest_paths.proofs.WalkLaws.{some_same}
use Rattle.min_cost_flow.specs.declared.network.Arc.{Arc}
use Rattle.min_cost_flow.specs.declared.network.Step.{Step}
use Rattle.min_cost_flow.specs.declared.network.Network.{Network}
use Rattle.min_cost_flow.specs.declared.search.Walks.{Walks}
use Rattle.min_cost_flow.specs.Flow.{IsNetwork, IsTight}
use Rattle.min_cost_flow.specs.Residual.{forward, IsResidual, net_of, units_at}
use Rattle.min_cost_flow.specs.Search.{IsReady, potential_of}
use Rattle.min_cost_flow.specs.Admissible.{IsAdmissibleAt, IsAdmissiblePath, LeavesAt, AreCurrent, HasPotentials}
use Rattle.min_cost_flow.proofs.ResidualFacts.{slice_get-push_cases}
use Rattle.min_cost_flow.proofs.SendFacts.{index-set}
use Rattle.min_cost_flow.proofs.TightFacts.{residual_joins, residual_costs, small_from_tight}
use Rattle.min_cost_flow.proofs.UnitFacts.{net-more}

-- ---- a path with one arc more, and without its last one

pub path_on : (arcs : List Arc) (p : ℕ → ℤ) (u v k : ℕ) (path : List ℕ) → IsAdmissiblePath arcs p u path v → (a : IsAdmissibleAt arcs p v k) → IsAdmissiblePath arcs p u (path ++ k ∷ []) a.0.head
path_on arcs p u v k [] h a = ((a.0, a.1, a.2 ∙ sym h, a.3), refl)
path_on arcs p u v k (j ∷ path) h a = (h.0, path_on arcs p h.0.0.head v k path h.1 a)

pub path_back : (arcs : List Arc) (p : ℕ → ℤ) (u v k : ℕ) (path : List ℕ) → IsAdmissiblePath arcs p u (path ++ k ∷ []) v →
    (a : Arc) × (slice_get arcs k ≡ Some a) × (a.head ≡ v) × ((p a.head -ℤ p a.tail) ≡ a.least) × IsAdmissiblePath arcs p u path a.tail
path_back arcs p u v k [] h = (h.0.0, h.0.1, h.1, h.0.3, sym h.0.2)
path_back arcs p u v k (j ∷ path) h = let rest = path_back arcs p h.0.0.head v k path h.1 in (rest.0, rest.1, rest.2, rest.3, (h.0, rest.4))

-- ---- the edges of the residual network, by index

pub edge_of : (arcs : List Arc) (edges : List Edge) (steps : List Step) (k : ℕ) (a : Arc) (e : Edge) → IsResidual arcs edges steps → slice_get arcs k ≡ Some a → slice_get edges k ≡ Some e → e ≡ forward a
edge_of arcs edges steps k a e r at there = some_same e (forward a) (sym there ∙ (r.forwards k a at).0)

pub open_edge : (arcs : List Arc) (edges : List Edge) (steps : List Step) (numbers : List ℤ) (v k : ℕ) (e : Edge) → IsResidual arcs edges steps → k < length arcs → slice_get edges k ≡ Some e →
    number_of numbers e.head ≡ number_of numbers e.tail +ℤ e.cost → LeavesAt edges v k → IsAdmissibleAt arcs (potential_of numbers) v k
open_edge arcs edges steps numbers v k e r l there level leaves =
    let a : Arc = get_or arcs k (record { tail = 0; head = 0; least = pos 0 }) in
    let at = slice_get-get_or arcs k (record { tail = 0; head = 0; least = pos 0 }) l in
    let is = edge_of arcs edges steps k a e r at there in
    let same = some_same leaves.0 e (sym leaves.1 ∙ there) in
    let tail = ap (λ (x : Edge). x.tail) is in
    let number_tail = ap (λ (x : Edge). number_of numbers x.tail) is in
    let number_head = ap (λ (x : Edge). number_of numbers x.head) is in
    let cost = ap (λ (x : Edge). x.cost) is in
    (a, at, sym tail ∙ sym (ap (λ (x : Edge). x.tail) same) ∙ leaves.2, omega (arith, ints))

-- ---- the edges that leave a point

leaves_latest : (edges : List Edge) (v bound j : ℕ) (o : Option ℕ) → bound ≤ length edges → o ≡ Some j → IsLatest edges bound v o → LeavesAt edges v j × (j < bound)
leaves_latest edges v bound j o few is latest =
    let h = subst (λ x. IsLatest edges bound v x) is latest in
    let l = h.0 in
    let at = slice_get-get_or edges j (record { tail = 0; head = 0; cost = pos 0 }) (omega arith) in
    ((get_or edges j (record { tail = 0; head = 0; cost = pos 0 }), at, h.1 (get_or edges j (record { tail = 0; head = 0; cost = pos 0 })) at), l)

pub leaves_newest : (points : ℕ) (edges : List Edge) (l : Leaving) (v j : ℕ) → IsLeaving points edges l → v < points → slice_index_or l.newest.items v None ≡ Some j → LeavesAt edges v j
leaves_newest points edges l v j h inside is =
    let q = h.newest_is v inside in
    let same = sym (get_or_from_slice_get l.newest.items v q.0 None q.1) ∙ is in
    (leaves_latest edges v (length edges) j q.0 (omega arith) same q.2).0

pub leaves_older : (points : ℕ) (edges : List Edge) (l : Leaving) (v k j : ℕ) → IsLeaving points edges l → LeavesAt edges v k → slice_index_or l.older.items k None ≡ Some j → LeavesAt edges v j × (j < k)
leaves_older points edges l v k j h leaves is =
    let q = h.older_is k leaves.0 leaves.1 in
    let same = sym (get_or_from_slice_get l.older.items k q.0 None q.1) ∙ is in
    let within = slice_get_within edges k leaves.0 leaves.1 in
    let r = leaves_latest edges leaves.0.tail k j q.0 (omega arith) same q.2 in
    (subst (λ x. LeavesAt edges x j) leaves.2 r.0, r.1)

-- how many edges are left to be looked at
abbrev pub left_of : Option ℕ → ℕ
left_of None = 0
left_of (Some k) = suc k

pub left_falls : (o : Option ℕ) (k : ℕ) → ((j : ℕ) → o ≡ Some j → j < k) → left_of o < left_of (Some k)
left_falls None k h = omega arith
left_falls (Some j) k h = let l = h j refl in omega arith

-- ---- the current edges

pub current_set : (edges : List Edge) (current : List (Option ℕ)) (v : ℕ) (o : Option ℕ) → v < length current → AreCurrent edges current → ((k : ℕ) → o ≡ Some k → LeavesAt edges v k) → AreCurrent edges (set current v o)
current_set edges current v o l h new w k named =
    let within = slice_get_within (set current v o) w (Some k) named in
    let len = length-set current v o in
    let read = get_or_from_slice_get (set current v o) w (Some k) None named in
    elim (cases_eq w v) [
      | inl same ↦ subst (λ x. LeavesAt edges x k) (sym same) (new k (sym (get_or-set_same current v o None l) ∙ subst (λ x. get_or (set current v o) x None ≡ Some k) same read))
      | inr ne ↦ h w k (slice_get-get_or current w None (omega arith) ∙ ap Some (sym (get_or-set_other current v w o None ne) ∙ read))
    ]

pub current_push : (edges : List Edge) (current : List (Option ℕ)) (v : ℕ) (o : Option ℕ) → v ≡ length current → AreCurrent edges current → ((k : ℕ) → o ≡ Some k → LeavesAt edges v k) → AreCurrent edges (current ++ o ∷ [])
current_push edges current v o is h new w k named =
    elim (slice_get-push_cases current o (Some k) w named) [
      | inl before ↦ h w k before
      | inr last ↦ subst (λ x. LeavesAt edges x k) (is ∙ sym last.0) (new k last.1)
    ]

pub current_read : (edges : List Edge) (current : List (Option ℕ)) (v : ℕ) → v < length current → AreCurrent edges current → (k : ℕ) → slice_index_or current v None ≡ Some k → LeavesAt edges v k
current_read edges current v l h k is = h v k (slice_get-get_or current v None l ∙ ap Some is)

-- ---- what the network gives a search

module _ (net : Network) (w : Walks) (network : IsNetwork net) (has : HasPotentials net w) where
  pub numbers_each : length w.search.numbers.items ≡ net.points
  numbers_each = has.2.sized.number_each ∙ has.2.points_each

  pub numbers_small : AreSmall w.search.numbers.items
  numbers_small = small_from_tight net.arcs has.0 w.residual.edges.items w.residual.steps.items has.2.residual has.1 net.points has.2.zero_at w.search.numbers.items network.few_points network.ends network.leasts
      numbers_each has.2.zero_in has.2.is_zero has.2.tight network.connected

  pub edge_joins : (k : ℕ) (d : Edge) → k < length w.residual.edges.items → Joins net.points (get_or w.residual.edges.items k d)
  edge_joins k d l = residual_joins net.arcs has.0 w.residual.edges.items w.residual.steps.items has.2.residual has.1 net.points network.ends k d l

  pub edge_cost : (k : ℕ) (d : Edge) → k < length w.residual.edges.items → IsWithin (2 ^ 46) (get_or w.residual.edges.items k d).cost
  edge_cost k d l = residual_costs net.arcs has.0 w.residual.edges.items w.residual.steps.items has.2.residual has.1 network.leasts k d l

  -- what is known of the last arc of a path, and of the path without it
  pub record IsLast (from k : ℕ) (rest : List ℕ) : Type 0 where
    pub tail : ℕ
    pub inside : tail < net.points
    pub in_edges : k < length w.residual.edges.items
    pub left : IsAdmissiblePath net.arcs (potential_of w.search.numbers.items) from rest tail
    pub leaves : LeavesAt w.residual.edges.items tail k
    pub tail_is : (e : Edge) → e ≡ get_or w.residual.edges.items k e → e.tail ≡ tail

  pub last_of : (from at k : ℕ) (path rest : List ℕ) → path ≡ rest ++ k ∷ [] → IsAdmissiblePath net.arcs (potential_of w.search.numbers.items) from path at → IsLast from k rest
  last_of from at k path rest is h =
      let q = path_back net.arcs (potential_of w.search.numbers.items) from at k rest (subst (λ x. IsAdmissiblePath net.arcs (potential_of w.search.numbers.items) from x at) is h) in
      let there = (has.2.residual.forwards k q.0 q.1).0 in
      let l = slice_get_within w.residual.edges.items k (forward q.0) there in
      record {
        tail = q.0.tail;
        inside = (subst (Joins net.points) (get_or_from_slice_get w.residual.edges.items k (forward q.0) (forward q.0) there) (edge_joins k (forward q.0) l)).0;
        in_edges = l;
        left = q.4;
        leaves = (forward q.0, there, refl);
        tail_is = λ e same. ap (λ (x : Edge). x.tail) (same ∙ get_or_from_slice_get w.residual.edges.items k (forward q.0) e there);
      }

-- the potentials serve another flow for which they are tight
pub ready_with : (net : Network) (flow new : List ℕ) (w : Walks) → IsReady net flow w → IsTight net.arcs new (potential_of w.search.numbers.items) → IsReady net new w
ready_with net flow new w r tight = record {
  residual = r.residual;
  leaving = r.leaving;
  sized = r.sized;
  points_each = r.points_each;
  tight = tight;
  zero_at = r.zero_at;
  zero_in = r.zero_in;
  is_zero = r.is_zero;
}

-- ---- units along a path, from its end back

pub record IsSpread (arcs : List Arc) (p : ℕ → ℤ) (old : List ℕ) (from to units total : ℕ) (flow path : List ℕ) : Type 0 where
  pub at : ℕ
  pub left : IsAdmissiblePath arcs p from path at
  pub len : length flow ≡ length old
  pub net : (v : ℕ) → net_of arcs flow v +ℤ pos (units_at units at v) ≡ net_of arcs old v +ℤ pos (units_at units to v)
  pub tight : IsTight arcs old p → IsTight arcs flow p
  pub bound : (k : ℕ) → slice_index flow k + units * length path ≤ slice_index old k + units * total

pub IsSpread-first : (arcs : List Arc) (p : ℕ → ℤ) (old : List ℕ) (from to units : ℕ) (path : List ℕ) → IsAdmissiblePath arcs p from path to → IsSpread arcs p old from to units (length path) old path
IsSpread-first arcs p old from to units path h = record {
  at = to;
  left = h;
  len = refl;
  net = λ v. refl;
  tight = λ t. t;
  bound = λ k. omega arith;
}

pub length-push : (path : List ℕ) (k : ℕ) → length (path ++ k ∷ []) ≡ suc (length path)
length-push [] k = refl
length-push (j ∷ path) k = ap suc (length-push path k)

module _ (arcs : List Arc) (p : ℕ → ℤ) (old : List ℕ) (from to units total : ℕ) (flow path : List ℕ) (k : ℕ) (each : length old ≡ length arcs)
    (s : IsSpread arcs p old from to units total flow (path ++ k ∷ [])) where
  last' : (a : Arc) × (slice_get arcs k ≡ Some a) × (a.head ≡ s.at) × ((p a.head -ℤ p a.tail) ≡ a.least) × IsAdmissiblePath arcs p from path a.tail
  last' = path_back arcs p from s.at k path s.left

  pub last_within : k < length flow
  last_within = let l = slice_get_within arcs k last'.0 last'.1 in let q = s.len in omega (arith, l, q, each)

  units_left : units * length (path ++ k ∷ []) ≡ units * length path + units
  units_left = ap (λ n. units * n) (length-push path k) ∙ mul-suc units (length path)

  pub last_bound : slice_index flow k + units ≤ slice_index old k + units * total
  last_bound = let b = s.bound k in let u = units_left in omega arith

  pub IsSpread-next : IsSpread arcs p old from to units total (set flow k (slice_index flow k + units)) path
  IsSpread-next = record {
    at = last'.0.tail;
    left = last'.4;
    len = length-set flow k _ ∙ s.len;
    net = λ v.
        let one = net-more arcs flow k v units last'.0 last'.1 last_within in
        let before = s.net v in
        let at_head = ap (λ x. units_at units x v) last'.2 in
        omega (arith, ints);
    tight = λ t. let before = s.tight t in record {
      rises = before.rises;
      no_more = λ b d hd some.
          elim (index-set flow k b (slice_index flow k + units) last_within) [
            | inl w ↦
                let same_arc = some_same last'.0 d (sym last'.1 ∙ subst (λ x. slice_get arcs x ≡ Some d) w.1 hd) in
                let p_head = ap (λ (x : Arc). p x.head) same_arc in
                let p_tail = ap (λ (x : Arc). p x.tail) same_arc in
                let least = ap (λ (x : Arc). x.least) same_arc in
                let level = last'.3 in
                omega (arith, ints)
            | inr w ↦ let same = w.0 in before.no_more b d hd (omega arith)
          ];
    };
    bound = λ b. let before = s.bound b in let u = units_left in
        elim (index-set flow k b (slice_index flow k + units) last_within) [
          | inl w ↦ let q = w.0 in let sub = ap (slice_index flow) w.1 in omega arith
          | inr w ↦ let q = w.0 in omega arith
        ];
  }

pub spread_all : (arcs : List Arc) (p : ℕ → ℤ) (old : List ℕ) (from to units total : ℕ) (flow : List ℕ) → IsSpread arcs p old from to units total flow [] →
    (v : ℕ) → net_of arcs flow v +ℤ pos (units_at units from v) ≡ net_of arcs old v +ℤ pos (units_at units to v)
spread_all arcs p old from to units total flow s v = let before = s.net v in let same = ap (λ x. units_at units x v) s.left in omega (arith, ints)

-- units on each arc of a short path
pub short_sum : (n m : ℕ) → m ≤ 2 ^ 17 → n * m ≤ 2 ^ 17 * n
short_sum zero m l = omega arith
short_sum (suc n) m l = let ih = short_sum n m l in let one = suc-mul n m in omega (arith, ih, one, l)
