-- One step of the packing: a value takes over a buffer in place, takes one whose value died before, or opens one.
use Rattle.std.proofs.Common.{◌≡◌, ◌⊎◌, ℕ, suc, ◌+◌, ◌-◌, ◌<◌, ◌≤◌, Bool, true, false, eqb, ltb, List, [], ◌∷◌, ◌++◌, length, get_or, set, map, take, refl, sym, ◌∙◌, ap, subst, inl, inr, ⊎_elim, arith, All, AllPairs, count_by, Option, Some, None, position}
use Rattle.std.specs.List.Sorted.{IsNonDecreasingBy}
use Rattle.std.specs.Option.{option_or}
use Rattle.std.proofs.lemmas.Bool.Decides.{nat_tests}
use Rattle.std.proofs.lemmas.Bool.{ltb-false, true≢false, cases_lt, cases_eq, and_parts, and_left, and_right, eqb-true, eq-eqb, ltb-true, ne_eqb, le-ltb, le-leb, lt-leb}
use Rattle.std.proofs.lemmas.List.Elements.{All-push, Contains-get_or}
use Rattle.std.proofs.lemmas.List.Quantifiers.{all_pairs_push, position-Some}
use Rattle.std.proofs.lemmas.List.{get_or-take, get_or_default, length-take, get_or_append_left, get_or_push, length_push, length-set, get_or-set_same, get_or-set_other}
use Rattle.std.proofs.lemmas.Option.{none-some}
use Rattle.graph_model.specs.declared.graph.Uid.{Uid}
use Rattle.plan_model.specs.Buffers.{is_born, is_reader, is_born_of, is_freed, Follows, MayShare}
use Rattle.plan_model.specs.declared.buffers.Life.{Life}
use Rattle.plan_model.proofs.BelowFacts.{sum_below-same, sum_below-zero, count_by-cons, count_by_none, count_by_at}
use Rattle.plan_model.proofs.CountFacts.{bit, is_before}
use Rattle.plan_model.proofs.LowerBoundLaws.{alive_le_buffers}
use Rattle.plan_model.proofs.SavedLaws.{All-from_map}
use Rattle.buffer_plan.specs.Packed.{is_alive, active, borne, freed, saved_by, first_free, IsPacked}
use Rattle.buffer_plan.specs.declared.packing.Placed.{Placed}
use Rattle.buffer_plan.proofs.ListFacts.{count_by_push, count_by-set, count_by_all, All-push_front, All-push_last, position_none, sum_below_bump}

-- what a value adds to the counts at a wave
module _ (y : Life) (s a : ℕ) where
  pub not_borne : (y.born ≡ s → ⊥) → bit (is_born_of s a y) ≡ 0
  not_borne ne = rw (ne_eqb y.born s ne)

  pub not_borne_by : (y.uid.0 ≡ a → ⊥) → bit (is_born_of s a y) ≡ 0
  not_borne_by ne = rw (and_right (eqb y.born s) (eqb y.uid.0 a) (ne_eqb y.uid.0 a ne))

  pub borne_here : y.born ≡ s → y.uid.0 ≡ a → bit (is_born_of s a y) ≡ 1
  borne_here e u = rw (eq-eqb y.born s e, eq-eqb y.uid.0 a u)

  pub not_freed : (y.dies ≡ s → ⊥) → bit (is_freed s a y) ≡ 0
  not_freed ne = rw (ne_eqb y.dies s ne)

pub is_freed_false : (y : Life) (s a : ℕ) → (y.dies ≡ s → ⊥) → is_freed s a y ≡ false
is_freed_false y s a ne = and_left (eqb y.dies s) (is_reader a y.reader) (ne_eqb y.dies s ne)

-- the one reader
pub reader_is : (a : ℕ) (r : Option Uid) → is_reader a r ≡ true → r ≡ Some (record { 0 = a })
reader_is a None h = absurd (true≢false (sym h))
reader_is a (Some u) h = ap (λ (k : ℕ). Some (record { 0 = k })) (eqb-true u.0 a h)

pub other_reader : (a b : ℕ) (r : Option Uid) → is_reader a r ≡ true → (a ≡ b → ⊥) → is_reader b r ≡ false
other_reader a b None h ne = refl
other_reader a b (Some u) h ne = ne_eqb u.0 b (λ e. ne (sym (eqb-true u.0 a h) ∙ e))

module _ (zs : List Placed) (z : Placed) where
  pub borne_push : (s a : ℕ) → borne (zs ++ z ∷ []) s a ≡ borne zs s a + bit (is_born_of s a z.life)
  borne_push s a = count_by_push (λ (x : Placed). is_born_of s a x.life) zs z

  pub freed_push : (s a : ℕ) → freed (zs ++ z ∷ []) s a ≡ freed zs s a + bit (is_freed s a z.life)
  freed_push s a = count_by_push (λ (x : Placed). is_freed s a x.life) zs z

  pub active_push : (s : ℕ) → active (zs ++ z ∷ []) s ≡ active zs s + bit (is_before s z.life) + bit (is_born s z.life)
  active_push s = omega (arith, count_by_push (λ (x : Placed). is_before s x.life) zs z, count_by_push (λ (x : Placed). is_born s x.life) zs z)

  -- at an earlier wave nothing changes
  pub active_earlier : (t : ℕ) → t < z.life.born → active (zs ++ z ∷ []) t ≡ active zs t
  active_earlier t l =
      let before : bit (is_before t z.life) ≡ 0 = rw (le-ltb z.life.born t (omega arith)) in
      let born : bit (is_born t z.life) ≡ 0 = rw (ne_eqb z.life.born t (λ e. omega arith)) in
      omega (arith, active_push t)

  pub saved_earlier : (t m : ℕ) → t < z.life.born → z.life.born < z.life.dies → saved_by m (zs ++ z ∷ []) t ≡ saved_by m zs t
  unfolding saved_by
  saved_earlier t m l lasting =
      sum_below-same m _ _ (λ a k. let b = not_borne z.life t a (λ e. omega arith) in let f = not_freed z.life t a (λ e. omega arith) in
      omega (arith, borne_push t a, freed_push t a))

  -- in its own wave it is saved exactly if its node has something left to take over
  pub saved_here : (m : ℕ) → z.life.uid.0 < m → z.life.born < z.life.dies → borne zs z.life.born z.life.uid.0 < freed zs z.life.born z.life.uid.0 → saved_by m (zs ++ z ∷ []) z.life.born ≡ saved_by m zs z.life.born + 1
  unfolding saved_by
  saved_here m u lasting left =
      sum_below_bump m z.life.uid.0 1 _ _ u
      (λ a ne. let b = not_borne_by z.life z.life.born a (λ e. ne (sym e)) in let f = not_freed z.life z.life.born a (λ e. omega arith) in
      omega (arith, borne_push z.life.born a, freed_push z.life.born a))
      (let b = borne_here z.life z.life.born z.life.uid.0 refl refl in let f = not_freed z.life z.life.born z.life.uid.0 (λ e. omega arith) in
      omega (arith, borne_push z.life.born z.life.uid.0, freed_push z.life.born z.life.uid.0))

  pub saved_not : (m : ℕ) → z.life.born < z.life.dies → freed zs z.life.born z.life.uid.0 ≤ borne zs z.life.born z.life.uid.0 → saved_by m (zs ++ z ∷ []) z.life.born ≡ saved_by m zs z.life.born
  unfolding saved_by
  saved_not m lasting none =
      sum_below-same m _ _ (λ a k. ⊎_elim
      (λ (e : a ≡ z.life.uid.0). let f = not_freed z.life z.life.born a (λ e. omega arith) in
      let none' : freed zs z.life.born a ≤ borne zs z.life.born a = subst (λ j. freed zs z.life.born j ≤ borne zs z.life.born j) (sym e) none in
      omega (arith, borne_push z.life.born a, freed_push z.life.born a))
      (λ ne. let b = not_borne_by z.life z.life.born a (λ e. ne (sym e)) in let f = not_freed z.life z.life.born a (λ e. omega arith) in
      omega (arith, borne_push z.life.born a, freed_push z.life.born a))
      (cases_eq a z.life.uid.0))

-- in a wave in which nothing is born yet, nothing is saved
pub borne_none : (zs : List Placed) (s a : ℕ) → All (λ z. z.life.born < s) zs → borne zs s a ≡ 0
borne_none zs s a h = count_by_none (λ (z : Placed). is_born_of s a z.life) zs (λ k d l. let lt = h k d l in and_left _ _ (ne_eqb (get_or zs k d).life.born s (λ e. omega arith)))

pub saved_none : (m : ℕ) (zs : List Placed) (s : ℕ) → All (λ z. z.life.born < s) zs → saved_by m zs s ≡ 0
unfolding saved_by
saved_none m zs s h = sum_below-same m _ (λ _. 0) (λ a l. omega (arith, borne_none zs s a h)) ∙ sum_below-zero m

-- where nothing is born later, what is not dead is active
pub active_is_alive : (zs : List Placed) (s : ℕ) → All (λ z. z.life.born ≤ s) zs → All (λ z. z.life.born < z.life.dies) zs → active zs s ≡ count_by (λ z. is_alive s z.life) zs
active_is_alive [] s h l = refl
active_is_alive (z ∷ zs) s h l =
    let here : bit (is_before s z.life) + bit (is_born s z.life) ≡ bit (is_alive s z.life) = one z.life (h 0 z (omega arith)) (l 0 z (omega arith)) in
    omega (
      arith,
      count_by-cons (λ (x : Placed). is_before s x.life) z zs,
      count_by-cons (λ (x : Placed). is_born s x.life) z zs,
      count_by-cons (λ (x : Placed). is_alive s x.life) z zs,
      active_is_alive zs s (λ k d lt. h (suc k) d (omega arith)) (λ k d lt. l (suc k) d (omega arith)),
    )
  where
    one : (x : Life) → x.born ≤ s → x.born < x.dies → bit (is_before s x) + bit (is_born s x) ≡ bit (is_alive s x)
    one x b l = grind (arith, nat_tests)

-- a value that is placed after those that were born no later
module _ (holders : List Life) (zs : List Placed) (peak : ℕ) (p : IsPacked holders zs peak) (z : Placed) (later : All (λ x. x.life.born ≤ z.life.born) zs) (lasts : z.life.born < z.life.dies) where
  lasting' : All (λ x. x.life.born < x.life.dies) (zs ++ z ∷ [])
  lasting' = All-push (λ (x : Placed). x.life.born < x.life.dies) zs z p.lasting lasts

  past' : All (λ x. x.life.born ≤ z.life.born) (zs ++ z ∷ [])
  past' = All-push (λ (x : Placed). x.life.born ≤ z.life.born) zs z later (omega arith)

  all_before : (s : ℕ) → z.life.born < s → All (λ x. x.life.born < s) zs
  all_before s h k d l = omega (arith, later k d l)

  born_front : (s : ℕ) → All (λ x. x.life.born ≤ s) (zs ++ z ∷ []) → All (λ x. x.life.born ≤ s) zs
  born_front s h = All-push_front (λ (x : Placed). x.life.born ≤ s) zs z h

  born_last : (s : ℕ) → All (λ x. x.life.born ≤ s) (zs ++ z ∷ []) → z.life.born ≤ s
  born_last s h = All-push_last (λ (x : Placed). x.life.born ≤ s) zs z h

  alive_push : (s : ℕ) → count_by (λ x. is_alive s x.life) (zs ++ z ∷ []) ≡ count_by (λ x. is_alive s x.life) zs + bit (is_alive s z.life)
  alive_push s = count_by_push (λ (x : Placed). is_alive s x.life) zs z

  saved_later : (s m : ℕ) → z.life.born < s → saved_by m (zs ++ z ∷ []) s ≡ saved_by m zs s
  saved_later s m h =
      saved_none m (zs ++ z ∷ []) s (All-push (λ (x : Placed). x.life.born < s) zs z (all_before s h) h) ∙ sym (saved_none m zs s (all_before s h))

  -- the new value is not in place: its node has nothing to take over, and no holder counted is lost
  module _ (holders' : List Life)
      (grow : (q : Life → Bool) → ((x : Life) → x.dies < z.life.born → q x ≡ false) → count_by q holders' ≡ count_by q holders + bit (q z.life))
      (none : All (λ h. is_freed z.life.born z.life.uid.0 h ≡ false) holders) where
    nothing_left : freed zs z.life.born z.life.uid.0 ≤ borne zs z.life.born z.life.uid.0
    nothing_left = omega (arith, p.takeable z.life.born z.life.uid.0 later, count_by_none (is_freed z.life.born z.life.uid.0) holders none)

    held_new : (s m : ℕ) → All (λ x. x.life.born ≤ s) (zs ++ z ∷ []) → All (λ x. x.life.uid.0 < m) (zs ++ z ∷ []) → count_by (is_alive s) holders' + saved_by m (zs ++ z ∷ []) s ≡ count_by (λ x. is_alive s x.life) (zs ++ z ∷ [])
    held_new s m h u =
        let now : z.life.born ≤ s = born_last s h in
        let same : saved_by m (zs ++ z ∷ []) s ≡ saved_by m zs s =
        ⊎_elim
        (λ (e : z.life.born ≡ s). subst (λ t. saved_by m (zs ++ z ∷ []) t ≡ saved_by m zs t) e (saved_not zs z m lasts nothing_left))
        (λ ne. saved_later s m (omega arith))
        (cases_eq z.life.born s) in
        omega (arith, grow (is_alive s) (λ x l. lt-leb s x.dies (omega arith)), alive_push s, same, p.held s m (born_front s h) (All-push_front (λ (x : Placed). x.life.uid.0 < m) zs z u))

    takeable_new : (s a : ℕ) → All (λ x. x.life.born ≤ s) (zs ++ z ∷ []) → count_by (is_freed s a) holders' ≡ freed (zs ++ z ∷ []) s a - borne (zs ++ z ∷ []) s a
    takeable_new s a h =
        let now : z.life.born ≤ s = born_last s h in
        let more = grow (is_freed s a) (λ x l. is_freed_false x s a (λ e. omega arith)) in
        let was = p.takeable s a (born_front s h) in
        ⊎_elim
        (λ (e : z.life.born ≡ s).
        let f = not_freed z.life s a (λ q. omega arith) in
        ⊎_elim
        (λ (eu : z.life.uid.0 ≡ a).
        let left : freed zs s a ≤ borne zs s a = subst (λ t. freed zs t a ≤ borne zs t a) e (subst (λ b. freed zs z.life.born b ≤ borne zs z.life.born b) eu nothing_left) in
        omega (arith, more, was, f, borne_here z.life s a e eu, borne_push zs z s a, freed_push zs z s a))
        (λ nu. omega (arith, more, was, f, not_borne_by z.life s a nu, borne_push zs z s a, freed_push zs z s a))
        (cases_eq z.life.uid.0 a))
        (λ ne. omega (arith, more, was, not_borne z.life s a ne, borne_push zs z s a, freed_push zs z s a, borne_none zs s a (all_before s (omega arith))))
        (cases_eq z.life.born s)

  -- the new value takes over the buffer of a value that dies where it is born, with its node as the sole reader
  module _ (i : ℕ) (within : i < length holders) (take : is_freed z.life.born z.life.uid.0 (get_or holders i z.life) ≡ true) where
    dies_here : (get_or holders i z.life).dies ≡ z.life.born
    dies_here = eqb-true _ _ (and_parts _ _ take).0

    something_left : borne zs z.life.born z.life.uid.0 < freed zs z.life.born z.life.uid.0
    something_left =
        omega (arith, p.takeable z.life.born z.life.uid.0 later, count_by_at (is_freed z.life.born z.life.uid.0) holders (get_or holders i z.life) (Contains-get_or holders i z.life within) take)

    held_take : (s m : ℕ) → All (λ x. x.life.born ≤ s) (zs ++ z ∷ []) → All (λ x. x.life.uid.0 < m) (zs ++ z ∷ []) → count_by (is_alive s) (set holders i z.life) + saved_by m (zs ++ z ∷ []) s ≡ count_by (λ x. is_alive s x.life) (zs ++ z ∷ [])
    held_take s m h u =
        let now : z.life.born ≤ s = born_last s h in
        let was = p.held s m (born_front s h) (All-push_front (λ (x : Placed). x.life.uid.0 < m) zs z u) in
        let swap = count_by-set (is_alive s) holders i z.life z.life within in
        ⊎_elim
        (λ (e : z.life.born ≡ s).
        let alive : bit (is_alive s (get_or holders i z.life)) ≡ 1 = rw (le-leb s (get_or holders i z.life).dies (omega (arith, dies_here))) in
        let one : saved_by m (zs ++ z ∷ []) s ≡ saved_by m zs s + 1 =
        subst (λ t. saved_by m (zs ++ z ∷ []) t ≡ saved_by m zs t + 1) e (saved_here zs z m (All-push_last (λ (x : Placed). x.life.uid.0 < m) zs z u) lasts something_left) in
        omega (arith, was, swap, alive, one, alive_push s))
        (λ ne.
        let dead : bit (is_alive s (get_or holders i z.life)) ≡ 0 = rw (lt-leb s (get_or holders i z.life).dies (omega (arith, dies_here))) in
        omega (arith, was, swap, dead, saved_later s m (omega arith), alive_push s))
        (cases_eq z.life.born s)

    takeable_take : (s a : ℕ) → All (λ x. x.life.born ≤ s) (zs ++ z ∷ []) → count_by (is_freed s a) (set holders i z.life) ≡ freed (zs ++ z ∷ []) s a - borne (zs ++ z ∷ []) s a
    takeable_take s a h =
        let now : z.life.born ≤ s = born_last s h in
        let was = p.takeable s a (born_front s h) in
        let swap = count_by-set (is_freed s a) holders i z.life z.life within in
        ⊎_elim
        (λ (e : z.life.born ≡ s).
        let f = not_freed z.life s a (λ q. omega arith) in
        ⊎_elim
        (λ (eu : z.life.uid.0 ≡ a).
        let test : is_freed s a (get_or holders i z.life) ≡ true =
        subst (λ t. is_freed t a (get_or holders i z.life) ≡ true) e (subst (λ b. is_freed z.life.born b (get_or holders i z.life) ≡ true) eu take) in
        let gone : bit (is_freed s a (get_or holders i z.life)) ≡ 1 = rw test in
        omega (arith, was, swap, f, gone, borne_here z.life s a e eu, borne_push zs z s a, freed_push zs z s a))
        (λ nu.
        let takes = and_parts (eqb (get_or holders i z.life).dies z.life.born) (is_reader z.life.uid.0 (get_or holders i z.life).reader) take in
        let not_a : is_reader a (get_or holders i z.life).reader ≡ false = other_reader z.life.uid.0 a (get_or holders i z.life).reader takes.1 nu in
        let test : is_freed s a (get_or holders i z.life) ≡ false = and_right (eqb (get_or holders i z.life).dies s) (is_reader a (get_or holders i z.life).reader) not_a in
        let kept : bit (is_freed s a (get_or holders i z.life)) ≡ 0 = rw test in
        omega (arith, was, swap, f, kept, not_borne_by z.life s a nu, borne_push zs z s a, freed_push zs z s a))
        (cases_eq z.life.uid.0 a))
        (λ ne.
        let dead = not_freed (get_or holders i z.life) s a (λ e. omega (arith, dies_here)) in
        omega (arith, was, swap, dead, not_borne z.life s a ne, borne_push zs z s a, freed_push zs z s a, borne_none zs s a (all_before s (omega arith))))
        (cases_eq z.life.born s)

  uids_front : (m : ℕ) → All (λ x. x.life.uid.0 < m) (zs ++ z ∷ []) → All (λ x. x.life.uid.0 < m) zs
  uids_front m u = All-push_front (λ (x : Placed). x.life.uid.0 < m) zs z u

  -- an earlier wave keeps its counts
  earlier_wave : (t m : ℕ) → t < z.life.born → All (λ x. x.life.uid.0 < m) (zs ++ z ∷ []) → (active (zs ++ z ∷ []) t ≡ active zs t) × (saved_by m (zs ++ z ∷ []) t ≡ saved_by m zs t)
  earlier_wave t m h u = (active_earlier zs z t h, saved_earlier zs z t m h lasts)

  -- no buffer is opened: the peak stays
  earlier_same : (t m : ℕ) → t < peak → All (λ x. x.life.uid.0 < m) (zs ++ z ∷ []) → (0 < length holders) × (active (zs ++ z ∷ []) t < length holders + saved_by m (zs ++ z ∷ []) t)
  earlier_same t m h u =
      let r : t < z.life.born = omega (arith, p.reached z.life.born later) in
      let w = earlier_wave t m r u in
      let e = p.earlier t m h (uids_front m u) in
      (e.0, omega (arith, w.0, w.1, e.1))

  full_same :
      AllPairs (λ x y. x.buffer ≡ y.buffer → MayShare x.life y.life) (zs ++ z ∷ [])
      → All (λ x. x.buffer < length holders) (zs ++ z ∷ [])
      → (m : ℕ) → All (λ x. x.life.uid.0 < m) (zs ++ z ∷ []) → active (zs ++ z ∷ []) peak ≡ length holders + saved_by m (zs ++ z ∷ []) peak
  unfolding saved_by
  full_same apart' below' m u =
      let was : active zs peak ≡ length holders + saved_by m zs peak = p.full m (uids_front m u) in
      ⊎_elim
      (λ (e : peak ≡ z.life.born).
      let most : active (zs ++ z ∷ []) peak ≤ length holders + saved_by m (zs ++ z ∷ []) peak =
      alive_le_buffers (λ (x : Placed). x.life) (λ (x : Placed). x.buffer) (zs ++ z ∷ []) (length holders) m peak lasting' u apart' below' in
      let born : bit (is_born peak z.life) ≡ 1 = rw (eq-eqb z.life.born peak (sym e)) in
      let before : bit (is_before peak z.life) ≡ 0 = rw (le-ltb z.life.born peak (omega arith)) in
      let one_more : saved_by m (zs ++ z ∷ []) z.life.born ≤ saved_by m zs z.life.born + 1 =
      ⊎_elim
      (λ left. omega (arith, saved_here zs z m (All-push_last (λ (x : Placed). x.life.uid.0 < m) zs z u) lasts left))
      (λ none. omega (arith, saved_not zs z m lasts none))
      (cases_lt (borne zs z.life.born z.life.uid.0) (freed zs z.life.born z.life.uid.0)) in
      let there : saved_by m (zs ++ z ∷ []) peak ≤ saved_by m zs peak + 1 = subst (λ t. saved_by m (zs ++ z ∷ []) t ≤ saved_by m zs t + 1) (sym e) one_more in
      omega (arith, was, most, born, before, there, active_push zs z peak))
      (λ ne.
      let r : peak < z.life.born = omega (arith, p.reached z.life.born later) in
      let w = earlier_wave peak m r u in
      omega (arith, was, w.0, w.1))
      (cases_eq peak z.life.born)

  -- the buffer at i was last held by a value that the new one may follow
  module _ (i : ℕ) (within : i < length holders) (here : z.buffer ≡ i) (follows : Follows (get_or holders i z.life) z.life) (over : (get_or holders i z.life).dies ≤ z.life.born) where
    apart_set : AllPairs (λ x y. x.buffer ≡ y.buffer → MayShare x.life y.life) (zs ++ z ∷ [])
    apart_set = all_pairs_push (λ (x : Placed) (y : Placed). x.buffer ≡ y.buffer → MayShare x.life y.life) zs z p.apart (λ k d l e.
        let x : Placed = get_or zs k d in
        let at : x.buffer ≡ i = e ∙ here in
        ⊎_elim
        (λ same. inl (subst (λ h. Follows h z.life) (sym (ap (λ j. get_or holders j z.life) at) ∙ same) follows))
        (λ older. let older' : x.life.dies < (get_or holders i z.life).dies = subst (λ j. x.life.dies < (get_or holders j z.life).dies) at older in inl (inl (omega arith)))
        (p.last k d l z.life))

    below_set : All (λ x. x.buffer < length holders) (zs ++ z ∷ [])
    below_set = All-push (λ (x : Placed). x.buffer < length holders) zs z p.below (omega (arith, here))

    last_set : All (λ x. (d : Life) → (get_or (set holders i z.life) x.buffer d ≡ x.life) ⊎ (x.life.dies < (get_or (set holders i z.life) x.buffer d).dies)) (zs ++ z ∷ [])
    last_set = All-push (λ (x : Placed). (d : Life) → (get_or (set holders i z.life) x.buffer d ≡ x.life) ⊎ (x.life.dies < (get_or (set holders i z.life) x.buffer d).dies)) zs z
        (λ k d l d'.
        let x : Placed = get_or zs k d in
        ⊎_elim
        (λ (e : x.buffer ≡ i).
        let now_there : get_or (set holders i z.life) x.buffer d' ≡ z.life = ap (λ j. get_or (set holders i z.life) j d') e ∙ get_or-set_same holders i z.life d' within in
        let old : x.life.dies ≤ (get_or holders i z.life).dies = ⊎_elim
        (λ same. let s : get_or holders i z.life ≡ x.life = sym (ap (λ j. get_or holders j z.life) e) ∙ same in let t = ap (λ (y : Life). y.dies) s in omega (arith, t))
        (λ older. let t : x.life.dies < (get_or holders i z.life).dies = subst (λ j. x.life.dies < (get_or holders j z.life).dies) e older in omega arith)
        (p.last k d l z.life) in
        inr (rw now_there (omega arith)))
        (λ ne. rw (get_or-set_other holders i x.buffer z.life d' ne) (p.last k d l d'))
        (cases_eq x.buffer i))
        (λ d'. inl (ap (λ j. get_or (set holders i z.life) j d') here ∙ get_or-set_same holders i z.life d' within))

  -- the value takes over a buffer in place
  pub packed_take : (i : ℕ) → i < length holders → z.buffer ≡ i → is_freed z.life.born z.life.uid.0 (get_or holders i z.life) ≡ true → IsPacked (set holders i z.life) (zs ++ z ∷ []) peak
  packed_take i within here take =
      let long : length (set holders i z.life) ≡ length holders = length-set holders i z.life in
      let test = and_parts (eqb (get_or holders i z.life).dies z.life.born) (is_reader z.life.uid.0 (get_or holders i z.life).reader) take in
      let dies : (get_or holders i z.life).dies ≡ z.life.born = dies_here i within take in
      let follows : Follows (get_or holders i z.life) z.life = inr (dies, reader_is z.life.uid.0 (get_or holders i z.life).reader test.1) in
      let apart' = apart_set i within here follows (omega (arith, dies)) in
      let below' = below_set i within here follows (omega (arith, dies)) in
      record {
        lasting = lasting';
        apart = apart';
        below = rw long below';
        few = omega (arith, long, p.few, length_push zs z);
        last = last_set i within here follows (omega (arith, dies));
        held = held_take i within take;
        takeable = takeable_take i within take;
        reached = λ s h. p.reached s (born_front s h);
        full = λ m u. rw long (full_same apart' below' m u);
        earlier = λ t m h u. rw long (earlier_same t m h u);
      }

  -- the value takes a buffer whose value died before
  pub packed_free : (i : ℕ) → i < length holders → z.buffer ≡ i → (get_or holders i z.life).dies < z.life.born → All (λ h. is_freed z.life.born z.life.uid.0 h ≡ false) holders → IsPacked (set holders i z.life) (zs ++ z ∷ []) peak
  packed_free i within here over none =
      let long : length (set holders i z.life) ≡ length holders = length-set holders i z.life in
      let apart' = apart_set i within here (inl over) (omega arith) in
      let below' = below_set i within here (inl over) (omega arith) in
      let grow : (q : Life → Bool) → ((x : Life) → x.dies < z.life.born → q x ≡ false) → count_by q (set holders i z.life) ≡ count_by q holders + bit (q z.life) =
      λ q dead. let gone : bit (q (get_or holders i z.life)) ≡ 0 = rw (dead (get_or holders i z.life) over) in omega (arith, count_by-set q holders i z.life z.life within) in
      record {
        lasting = lasting';
        apart = apart';
        below = rw long below';
        few = omega (arith, long, p.few, length_push zs z);
        last = last_set i within here (inl over) (omega arith);
        held = held_new (set holders i z.life) grow none;
        takeable = takeable_new (set holders i z.life) grow none;
        reached = λ s h. p.reached s (born_front s h);
        full = λ m u. rw long (full_same apart' below' m u);
        earlier = λ t m h u. rw long (earlier_same t m h u);
      }

  -- the value opens a buffer: no other is free in its wave
  pub packed_open : z.buffer ≡ length holders → All (λ h. z.life.born ≤ h.dies) holders → All (λ h. is_freed z.life.born z.life.uid.0 h ≡ false) holders → IsPacked (holders ++ z.life ∷ []) (zs ++ z ∷ []) z.life.born
  unfolding saved_by
  packed_open here alive none =
      let long : length (holders ++ z.life ∷ []) ≡ length holders + 1 = length_push holders z.life in
      let grow : (q : Life → Bool) → ((x : Life) → x.dies < z.life.born → q x ≡ false) → count_by q (holders ++ z.life ∷ []) ≡ count_by q holders + bit (q z.life) =
      λ q dead. count_by_push q holders z.life in
      record {
        lasting = lasting';
        apart = all_pairs_push (λ (x : Placed) (y : Placed). x.buffer ≡ y.buffer → MayShare x.life y.life) zs z p.apart (λ k d l e. absurd (omega (arith, p.below k d l, e, here)));
        below = All-push (λ (x : Placed). x.buffer < length (holders ++ z.life ∷ [])) zs z (λ k d l. omega (arith, p.below k d l, long)) (omega (arith, here, long));
        few = omega (arith, long, p.few, length_push zs z);
        last = All-push (λ (x : Placed). (d : Life) → (get_or (holders ++ z.life ∷ []) x.buffer d ≡ x.life) ⊎ (x.life.dies < (get_or (holders ++ z.life ∷ []) x.buffer d).dies)) zs z
            (λ k d l d'. rw (get_or_append_left holders (z.life ∷ []) d' (get_or zs k d).buffer (p.below k d l)) (p.last k d l d'))
            (λ d'. inl (get_or_push holders z.life d' z.buffer (sym here)));
        held = held_new (holders ++ z.life ∷ []) grow none;
        takeable = takeable_new (holders ++ z.life ∷ []) grow none;
        reached = born_last;
        full = λ m u.
            let all : count_by (is_alive z.life.born) (holders ++ z.life ∷ []) ≡ length (holders ++ z.life ∷ []) =
            count_by_all (is_alive z.life.born) (holders ++ z.life ∷ []) (All-push (λ (h : Life). is_alive z.life.born h ≡ true) holders z.life (λ k d l. le-leb _ _ (alive k d l)) (le-leb _ _ (omega arith))) in
            omega (arith, all, held_new (holders ++ z.life ∷ []) grow none z.life.born m past' u, active_is_alive (zs ++ z ∷ []) z.life.born past' lasting');
        earlier = λ t m h u.
            let w = earlier_wave t m h u in
            let most : active zs t ≤ length holders + saved_by m zs t =
            alive_le_buffers (λ (x : Placed). x.life) (λ (x : Placed). x.buffer) zs (length holders) m t p.lasting (uids_front m u) p.apart p.below in
            (omega (arith, long), omega (arith, w.0, w.1, most, long));
      }

pub packed_none : IsPacked [] [] 0
unfolding saved_by
packed_none = record {
  lasting = λ k d l. absurd (omega arith);
  apart = λ i j d lt l. absurd (omega arith);
  below = λ k d l. absurd (omega arith);
  few = omega arith;
  last = λ k d l. absurd (omega arith);
  held = λ s m h u. omega (arith, saved_none m [] s (λ k d l. absurd (omega arith)));
  takeable = λ s a h. refl;
  reached = λ s h. omega arith;
  full = λ m u. omega (arith, saved_none m [] 0 (λ k d l. absurd (omega arith)));
  earlier = λ t m h u. absurd (omega arith);
}

-- what the searches found
found_cases : (o q : Option ℕ) (k : ℕ) → option_or o q ≡ Some k → (o ≡ Some k) ⊎ ((o ≡ None) × (q ≡ Some k))
found_cases None q k e = inr (refl, e)
found_cases (Some j) q k e = inl e

found_none : (o q : Option ℕ) → option_or o q ≡ None → (o ≡ None) × (q ≡ None)
found_none None q e = (refl, e)
found_none (Some j) q e = absurd (none-some j (sym e))

-- the step, by what was found
module _ (holders : List Life) (zs : List Placed) (peak : ℕ) (p : IsPacked holders zs peak) (z : Placed) (later : All (λ x. x.life.born ≤ z.life.born) zs) (lasts : z.life.born < z.life.dies) (holders' : List Life) (zs' : List Placed) (peak' : ℕ) (more : zs' ≡ zs ++ z ∷ []) where
  abbrev freed_for : Life → Bool
  freed_for = is_freed z.life.born z.life.uid.0

  abbrev dead : Life → Bool
  dead h = ltb h.dies z.life.born

  pub step_reuse : first_free holders z.life ≡ Some z.buffer → holders' ≡ set holders z.buffer z.life → peak' ≡ peak → IsPacked holders' zs' peak'
  step_reuse found e ep = rw (e, more, ep) (elim (found_cases (position freed_for holders) (position dead holders) z.buffer found) [
    | inl take ↦
        (let at = position-Some freed_for holders z.buffer z.life take in
        packed_take holders zs peak p z later lasts z.buffer at.0 refl at.1)
    | inr free ↦
        (let at = position-Some dead holders z.buffer z.life free.1 in
        packed_free holders zs peak p z later lasts z.buffer at.0 refl (ltb-true _ _ at.1) (position_none freed_for holders free.0))
  ])

  pub step_open : first_free holders z.life ≡ None → z.buffer ≡ length holders → holders' ≡ holders ++ z.life ∷ [] → peak' ≡ z.life.born → IsPacked holders' zs' peak'
  step_open found here e ep =
      let none = found_none (position freed_for holders) (position dead holders) found in
      rw (e, more, ep) (packed_open holders zs peak p z later lasts here
      (λ k d l. ltb-false _ _ (position_none dead holders none.1 k d l))
      (position_none freed_for holders none.0))

-- in the order of births, what was placed was born no later than what comes now
pub born_before : (zs : List Placed) (order : List Life) (i : ℕ) (e : Life) → i < length order → map (λ z. z.life) zs ≡ take i order → IsNonDecreasingBy (λ x. x.born) order → All (λ z. z.life.born ≤ (get_or order i e).born) zs
born_before zs order i e l values up =
    All-from_map (λ x. x.born ≤ (get_or order i e).born) (λ (z : Placed). z.life) zs (take i order) values (λ k d lk.
    let early : k < i = omega (arith, length-take i order) in
    rw (get_or-take i order k d early, get_or_default order i e d l) (up k i d (omega arith) l))
