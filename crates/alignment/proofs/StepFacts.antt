-- One more item of the lists that loops make.
use Rattle.std.proofs.Common.{◌≡◌, ℕ, zero, suc, ◌+◌, ◌-◌, ◌<◌, ◌≤◌, List, [], ◌∷◌, ◌++◌, length, map, take, drop, get_or, slice_index, refl, sym, ap, ◌∙◌, arith, ℤ, pos, negsuc, ◌+ℤ◌, ◌-ℤ◌, ◌*ℤ◌, ◌≤ℤ◌, cond, Bool, true, false}
use Rattle.std.specs.Prelude.{nat_lt}
use Rattle.std.proofs.lemmas.Int.{ints}
use Rattle.min_cost_flow.specs.declared.network.Arc.{Arc}
use Rattle.min_cost_flow.specs.Laws.{weighted}
use Rattle.plan_model.specs.declared.alignment.At.{At}
use Rattle.alignment.specs.Links.{arc_from_root}
use Rattle.std.specs.List.{range_with_len}
use Rattle.std.proofs.lemmas.List.FromFn.{map-range_with_len_more}
use Rattle.alignment.specs.Places.{places_of}
use Rattle.shortest_paths.specs.Walks.{number_of, from_zero}
use Rattle.std.proofs.lemmas.List.{take_more, length-take, append_assoc, append-nil}
use Rattle.std.proofs.lemmas.Bool.{lt-ltb}
use Rattle.alignment.specs.Numbered.{name_by, entries_by}

-- one more place
pub places-push : (vs : List ℕ) (xs : List ℤ) (v : ℕ) (x : ℤ) → length vs ≡ length xs
    → places_of (vs ++ v ∷ []) (xs ++ x ∷ []) ≡ places_of vs xs ++ record { uid = record { 0 = v }; at = from_zero x } ∷ []
places-push [] [] v x same = refl
places-push [] (y ∷ xs) v x same = absurd (omega arith)
places-push (u ∷ vs) [] v x same = absurd (omega arith)
places-push (u ∷ vs) (y ∷ xs) v x same = ap (λ zs. record { uid = record { 0 = u }; at = from_zero y } ∷ zs) (places-push vs xs v x (omega arith))

-- one more arc's weight
pub weighted-push : (number : Arc → ℤ) (arcs : List Arc) (flow : List ℕ) (a : Arc) (n : ℕ) → length flow ≡ length arcs
    → weighted number (arcs ++ a ∷ []) (flow ++ n ∷ []) ≡ weighted number arcs flow +ℤ (pos n *ℤ number a)
weighted-push number [] [] a n same = omega (arith, ints)
weighted-push number [] (m ∷ flow) a n same = absurd (omega arith)
weighted-push number (b ∷ arcs) [] a n same = absurd (omega arith)
weighted-push number (b ∷ arcs) (m ∷ flow) a n same =
    let rest = weighted-push number arcs flow a n (omega arith) in omega (arith, ints)

-- one more arc and its units
pub entries-push : {P E : Type 0} (make : P → P → ℕ → E) (root : P) (names : List P) (arcs : List Arc) (flow : List ℕ) (a : Arc) (n : ℕ) → length flow ≡ length arcs
    → entries_by make root names (arcs ++ a ∷ []) (flow ++ n ∷ []) ≡ entries_by make root names arcs flow ++ entries_by make root names (a ∷ []) (n ∷ [])
entries-push make root names [] [] a n same = refl
entries-push make root names [] (m ∷ flow) a n same = absurd (omega arith)
entries-push make root names (b ∷ arcs) [] a n same = absurd (omega arith)
entries-push make root names (b ∷ arcs) (m ∷ flow) a n same = go (nat_lt 0 m) (entries-push make root names arcs flow a n (omega arith))
  where
    go : (t : Bool) → entries_by make root names (arcs ++ a ∷ []) (flow ++ n ∷ []) ≡ entries_by make root names arcs flow ++ entries_by make root names (a ∷ []) (n ∷ [])
        → cond t (make (name_by root names b.tail) (name_by root names b.head) m ∷ entries_by make root names (arcs ++ a ∷ []) (flow ++ n ∷ [])) (entries_by make root names (arcs ++ a ∷ []) (flow ++ n ∷ []))
        ≡ cond t (make (name_by root names b.tail) (name_by root names b.head) m ∷ entries_by make root names arcs flow) (entries_by make root names arcs flow) ++ entries_by make root names (a ∷ []) (n ∷ [])
    go true rest = ap (λ zs. make (name_by root names b.tail) (name_by root names b.head) m ∷ zs) rest
    go false rest = rest

-- the places so far, with that of one more point
pub places-more : (points : List ℕ) (potentials : List ℤ) (k : ℕ) (placed : List At) → length potentials ≡ length points → 1 ≤ k → k < length points
    → placed ≡ places_of (take (k - 1) (drop 1 points)) (take (k - 1) (drop 1 potentials))
    → placed ++ record { uid = record { 0 = slice_index points k }; at = from_zero (number_of potentials k) } ∷ []
    ≡ places_of (take (k + 1 - 1) (drop 1 points)) (take (k + 1 - 1) (drop 1 potentials))
places-more [] potentials k placed each some lt is = absurd (omega arith)
places-more (p ∷ points) [] k placed each some lt is = absurd (omega arith)
places-more (p ∷ points) (x ∷ potentials) zero placed each some lt is = absurd (omega arith)
places-more (p ∷ points) (x ∷ potentials) (suc k) placed each some lt is =
    let here : k < length points = omega arith in
    let there : k < length potentials = omega arith in
    let next : suc k + 1 - 1 ≡ k + 1 = omega arith in
    let before : suc k - 1 ≡ k = omega arith in
    let names = take_more points k 0 here in
    let values = take_more potentials k (pos 0) there in
    let so_far : placed ≡ places_of (take k points) (take k potentials) = is ∙ ap (λ n. places_of (take n points) (take n potentials)) before in
    rw (next, names, values)
    (ap (λ ps. ps ++ record { uid = record { 0 = get_or points k 0 }; at = from_zero (get_or potentials k (pos 0)) } ∷ []) so_far
    ∙ sym (places-push (take k points) (take k potentials) (get_or points k 0) (get_or potentials k (pos 0))
    (omega (arith, length-take k points, length-take k potentials))))

-- the weight so far, with that of one more arc
pub weighted-more : (number : Arc → ℤ) (arcs : List Arc) (flow : List ℕ) (k : ℕ) (d : Arc) → length flow ≡ length arcs → k < length arcs
    → weighted number (take (k + 1) arcs) (take (k + 1) flow) ≡ weighted number (take k arcs) (take k flow) +ℤ (pos (get_or flow k 0) *ℤ number (get_or arcs k d))
weighted-more number arcs flow k d each lt =
    let units : k < length flow = omega arith in
    rw (take_more arcs k d lt, take_more flow k 0 units)
    (weighted-push number (take k arcs) (take k flow) (get_or arcs k d) (get_or flow k 0) (omega (arith, length-take k arcs, length-take k flow)))

-- what stands between the end of a source and its destination, in frames
pub in_frames : (t h : ℤ) (l : ℕ) → pos 0 ≤ℤ t → pos 0 ≤ℤ h → (t +ℤ pos l) ≤ℤ h
    → (from_zero t + l ≤ from_zero h) × (from_zero (h -ℤ (t +ℤ pos l)) ≡ from_zero h - (from_zero t + l))
in_frames (negsuc a) h l s u le = absurd (omega (arith, ints))
in_frames (pos a) (negsuc b) l s u le = absurd (omega (arith, ints))
in_frames (pos a) (pos b) l s u le =
    let enough : a + l ≤ b = omega (arith, ints) in
    let left : (pos b -ℤ (pos a +ℤ pos l)) ≡ pos (b - (a + l)) = omega (arith, ints) in
    (enough, ap from_zero left)

-- arcs with one that is made or not, and a last one
pub joined_last : (old first all : List Arc) (b : Bool) (a z : Arc) → first ≡ old ++ cond b (a ∷ []) [] → all ≡ first ++ z ∷ [] → all ≡ old ++ (cond b (a ∷ []) [] ++ z ∷ [])
joined_last old first all b a z is made = made ∙ ap (λ xs. xs ++ z ∷ []) is ∙ append_assoc old (cond b (a ∷ []) []) (z ∷ [])

-- the arcs from the root so far, with one more
pub from_root-more : (old arcs : List Arc) (k : ℕ) → 1 ≤ k → arcs ≡ old ++ map arc_from_root (range_with_len 1 (k - 1))
    → arcs ++ arc_from_root k ∷ [] ≡ old ++ map arc_from_root (range_with_len 1 (k + 1 - 1))
from_root-more old arcs k some is =
    let next : k + 1 - 1 ≡ k - 1 + 1 = omega arith in
    let more = map-range_with_len_more arc_from_root 1 (k - 1) k (omega arith) in
    ap (λ xs. xs ++ arc_from_root k ∷ []) is ∙ append_assoc old (map arc_from_root (range_with_len 1 (k - 1))) (arc_from_root k ∷ [])
    ∙ ap (λ xs. old ++ xs) (sym more) ∙ ap (λ n. old ++ map arc_from_root (range_with_len 1 n)) (sym next)

-- an arc with some units has an entry, and one without any has none
module _ {P E : Type 0} (make : P → P → ℕ → E) (root : P) (names : List P) where
  has_entry : (a : Arc) (n : ℕ) → 0 < n → entries_by make root names (a ∷ []) (n ∷ []) ≡ make (name_by root names a.tail) (name_by root names a.head) n ∷ []
  has_entry a n some = ap (λ b. cond b (make (name_by root names a.tail) (name_by root names a.head) n ∷ []) []) (lt-ltb 0 n some)

  has_none : (a : Arc) (n : ℕ) → n ≤ 0 → entries_by make root names (a ∷ []) (n ∷ []) ≡ []
  has_none a zero none = refl
  has_none a (suc n) none = absurd (omega arith)

  module _ (arcs : List Arc) (flow : List ℕ) (k : ℕ) (each : length flow ≡ length arcs) (lt : k < length arcs) (so_far : List E)
      (is : so_far ≡ entries_by make root names (take k arcs) (take k flow)) where
    abbrev arc : Arc
    arc = get_or arcs k (record { tail = 0; head = 0; least = pos 0 })

    -- the entries so far, with that of one more arc
    entries-more : entries_by make root names (take (k + 1) arcs) (take (k + 1) flow) ≡ so_far ++ entries_by make root names (arc ∷ []) (get_or flow k 0 ∷ [])
    entries-more =
        let units : k < length flow = omega arith in
        rw (take_more arcs k (record { tail = 0; head = 0; least = pos 0 }) lt, take_more flow k 0 units)
        (entries-push make root names (take k arcs) (take k flow) arc (get_or flow k 0) (omega (arith, length-take k arcs, length-take k flow))
        ∙ ap (λ xs. xs ++ entries_by make root names (arc ∷ []) (get_or flow k 0 ∷ [])) (sym is))

    -- with an arc that carries some
    pub entries-some : (made : List E) → 0 < get_or flow k 0 → made ≡ so_far ++ make (name_by root names arc.tail) (name_by root names arc.head) (get_or flow k 0) ∷ []
        → made ≡ entries_by make root names (take (k + 1) arcs) (take (k + 1) flow)
    entries-some made some is_made = is_made ∙ ap (λ xs. so_far ++ xs) (sym (has_entry arc (get_or flow k 0) some)) ∙ sym entries-more

    -- and with one that carries none
    pub entries-none : get_or flow k 0 ≤ 0 → so_far ≡ entries_by make root names (take (k + 1) arcs) (take (k + 1) flow)
    entries-none none = sym (append-nil so_far) ∙ ap (λ xs. so_far ++ xs) (sym (has_none arc (get_or flow k 0) none)) ∙ sym entries-more
