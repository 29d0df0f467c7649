-- An improvement by one edge keeps what a search knows.
use Rattle.std.proofs.Common.{◌≡◌, ◌≢◌, ℕ, ◌+◌, ◌<◌, ℤ, pos, ◌+ℤ◌, ◌≤ℤ◌, List, [], ◌∷◌, length, set, Option, Some, None, inl, inr, refl, sym, ap, subst, ◌∙◌, arith, slice_get, cond, nat_eq, get_or-set_same, get_or-set_other}
use Rattle.std.specs.List.{Contains}
use Rattle.std.proofs.lemmas.Int.{ints}
use Rattle.std.proofs.lemmas.Bool.{cases_eq}
use Rattle.std.proofs.lemmas.Bool.Decides.{nat_tests}
use Rattle.shortest_paths.specs.declared.edges.Edge.{Edge}
use Rattle.shortest_paths.specs.declared.edges.Best.{Best}
use Rattle.shortest_paths.specs.Walks.{cost_of, HasNoNegativeCycle}
use Rattle.shortest_paths.specs.Search.{found, AtMost, Misses, Traced, IsSearched, LastOf, Improves}
use Rattle.shortest_paths.proofs.WalkLaws.{IsBack, Back-cycle, some_same, edge_at}

pub AtMost-weaker : (best : List (Option Best)) (v : ℕ) (c d : ℤ) → AtMost best v c → c ≤ℤ d → AtMost best v d
AtMost-weaker best v c d h l = let k = h.2 in (h.0, h.1, omega (arith, ints))

-- no walk that was found has become dearer
abbrev pub NoDearer : List (Option Best) → List (Option Best) → Type 0
NoDearer old new = (v : ℕ) (b : Best) → found old v ≡ Some b → AtMost new v b.cost

AtMost-kept : (old new : List (Option Best)) (v : ℕ) (c : ℤ) → NoDearer old new → AtMost old v c → AtMost new v c
AtMost-kept old new v c less h = AtMost-weaker new v h.0.cost c (less v h.0 h.1) h.2

pub Traced-kept : (edges : List Edge) (from v : ℕ) (old new : List (Option Best)) (back : List Edge) → NoDearer old new → Traced edges from old back v → Traced edges from new back v
Traced-kept edges from v old new [] less h = h
Traced-kept edges from v old new (e ∷ back) less h =
    (h.0, h.1, h.2, AtMost-kept old new v (e.cost +ℤ cost_of back) less h.3, Traced-kept edges from e.tail old new back less h.4)

-- a walk misses x, or has a part from x on, and the walk to x that was found costs no more than the part before it
pub data Meets (edges : List Edge) (best : List (Option Best)) (x : ℕ) (back : List Edge) (u : ℕ) : Type 0 where
  misses : Misses x back u → Meets edges best x back u
  meets : (part : List Edge) (c : ℤ) → IsBack edges x part u → AtMost best x c → (cost_of part +ℤ c) ≡ cost_of back → Meets edges best x back u

pub meets_or_misses : (edges : List Edge) (from : ℕ) (best : List (Option Best)) (x u : ℕ) (back : List Edge) → AtMost best from (pos 0) → Traced edges from best back u → Meets edges best x back u
meets_or_misses edges from best x u [] start h =
    elim (cases_eq x u) [
      | inl same ↦ meets [] (pos 0) (sym same) (subst (λ y. AtMost best y (pos 0)) (sym h ∙ sym same) start) (omega (arith, ints))
      | inr ne ↦ misses ne
    ]
meets_or_misses edges from best x u (e ∷ back) start h =
    elim (cases_eq x u) [
      | inl same ↦ meets [] (e.cost +ℤ cost_of back) (sym same) (subst (λ y. AtMost best y (e.cost +ℤ cost_of back)) (sym same) h.3) (omega (arith, ints))
      | inr ne ↦ more ne (meets_or_misses edges from best x e.tail back start h.4)
    ]
  where
    more : x ≢ u → Meets edges best x back e.tail → Meets edges best x (e ∷ back) u
    more ne (misses m) = misses (ne, m)
    more ne (meets part c b a s) = meets (e ∷ part) c (h.0, h.1, b) a (omega (arith, ints))

Misses-start : (edges : List Edge) (from : ℕ) (best : List (Option Best)) (x u : ℕ) (back : List Edge) → Misses x back u → Traced edges from best back u → x ≢ from
Misses-start edges from best x u [] m h = λ e. m (e ∙ sym h)
Misses-start edges from best x u (e ∷ back) m h = Misses-start edges from best x e.tail back m.1 h.4

-- the walk behind an improvement does not meet the point that it improves
pub improved_is_missed : (edges : List Edge) (from : ℕ) (best : List (Option Best)) (e : Edge) (tail : Best) (back : List Edge) →
    HasNoNegativeCycle edges → AtMost best from (pos 0) → Contains edges e → Improves best e tail → Traced edges from best back e.tail → cost_of back ≡ tail.cost → Misses e.head back e.tail
improved_is_missed edges from best e tail back none start has imp h same = at (meets_or_misses edges from best e.head e.tail back start h)
  where
    at : Meets edges best e.head back e.tail → Misses e.head back e.tail
    at (misses m) = m
    at (meets part c b a s) =
        let round : IsBack edges e.head (e ∷ part) e.head = (has, refl, b) in
        let cycle = Back-cycle edges e.head (e ∷ part) none round in
        let less = imp.cheaper a.0 a.1 in
        let le = a.2 in
        absurd (omega (arith, ints))

-- ---- one step

found-set_same : (best : List (Option Best)) (v : ℕ) (x : Option Best) → v < length best → found (set best v x) v ≡ x
found-set_same best v x l = get_or-set_same best v x None l

found-set_other : (best : List (Option Best)) (v w : ℕ) (x : Option Best) → w ≢ v → found (set best v x) w ≡ found best w
found-set_other best v w x ne = get_or-set_other best v w x None ne

abbrev restamp : (ℕ → ℕ) → ℕ → ℕ → ℕ → ℕ
restamp stamp v clock w = cond (nat_eq w v) clock (stamp w)

restamp-same : (stamp : ℕ → ℕ) (v clock : ℕ) → restamp stamp v clock v ≡ clock
restamp-same stamp v clock = grind (arith, nat_tests)

restamp-other : (stamp : ℕ → ℕ) (v clock w : ℕ) → w ≢ v → restamp stamp v clock w ≡ stamp w
restamp-other stamp v clock w ne = grind (arith, nat_tests)

module _ (edges : List Edge) (from : ℕ) (old : List (Option Best)) (k : ℕ) (e : Edge) (tail : Best)
    (none : HasNoNegativeCycle edges) (s : IsSearched edges from old) (at : slice_get edges k ≡ Some e) (imp : Improves old e tail) (inside : e.head < length old) where
  abbrev new' : List (Option Best)
  new' = set old e.head (Some (record { cost = tail.cost +ℤ e.cost; last = Some k }))

  has' : Contains edges e
  has' = edge_at edges k e at

  start' : AtMost old from (pos 0)
  start' = (_, s.start, omega (arith, ints))

  missed' : Misses e.head (s.walks e.tail tail imp.tail_found).0 e.tail
  missed' = let w = s.walks e.tail tail imp.tail_found in improved_is_missed edges from old e tail w.0 none start' has' imp w.1 w.2

  first' : (back : List Edge) (u x : ℕ) → Misses x back u → x ≢ u
  first' [] u x m = m
  first' (d ∷ back) u x m = m.0

  pub not_tail : e.head ≢ e.tail
  not_tail = first' (s.walks e.tail tail imp.tail_found).0 e.tail e.head missed'

  not_start : e.head ≢ from
  not_start = let w = s.walks e.tail tail imp.tail_found in Misses-start edges from old e.head e.tail w.0 missed' w.1

  same' : found new' e.head ≡ Some (record { cost = tail.cost +ℤ e.cost; last = Some k })
  same' = found-set_same old e.head _ inside

  other' : (v : ℕ) → v ≢ e.head → found new' v ≡ found old v
  other' v ne = found-set_other old e.head v _ ne

  pub no_dearer' : NoDearer old new'
  no_dearer' v b f =
      elim (cases_eq v e.head) [
        | inl at_head ↦
            let less = imp.cheaper b (subst (λ x. found old x ≡ Some b) at_head f) in
            (record { cost = tail.cost +ℤ e.cost; last = Some k }, subst (λ x. found new' x ≡ Some (record { cost = tail.cost +ℤ e.cost; last = Some k })) (sym at_head) same', omega (arith, ints))
        | inr ne ↦ (b, other' v ne ∙ f, omega (arith, ints))
      ]

  walks' : (v : ℕ) (b : Best) → found new' v ≡ Some b → (back : List Edge) × Traced edges from new' back v × (cost_of back ≡ b.cost)
  walks' v b f =
      elim (cases_eq v e.head) [
        | inl at_head ↦
            let is : Some b ≡ Some (record { cost = tail.cost +ℤ e.cost; last = Some k }) = sym f ∙ (subst (λ x. found new' x ≡ Some (record { cost = tail.cost +ℤ e.cost; last = Some k })) (sym at_head) same') in
            let b_is = ap (λ (x : Best). x.cost) (some_same b (record { cost = tail.cost +ℤ e.cost; last = Some k }) is) in
            let w = s.walks e.tail tail imp.tail_found in
            let sum = w.2 in
            let cost : (e.cost +ℤ cost_of w.0) ≡ b.cost = omega (arith, ints) in (
              e ∷ w.0,
              (
                has',
                sym at_head,
                subst (λ x. Misses x w.0 e.tail) (sym at_head) missed',
                (b, f, omega (arith, ints)),
                Traced-kept edges from e.tail old new' w.0 no_dearer' w.1,
              ),
              cost,
            )
        | inr ne ↦
            let w = s.walks v b (sym (other' v ne) ∙ f) in
            (w.0, Traced-kept edges from v old new' w.0 no_dearer' w.1, w.2)
      ]

  lasts' : (v : ℕ) (b : Best) → v ≢ from → found new' v ≡ Some b → LastOf edges new' (restamp s.stamp e.head s.clock) v b
  lasts' v b apart f =
      elim (cases_eq v e.head) [
        | inl at_head ↦
            let is : Some b ≡ Some (record { cost = tail.cost +ℤ e.cost; last = Some k }) = sym f ∙ (subst (λ x. found new' x ≡ Some (record { cost = tail.cost +ℤ e.cost; last = Some k })) (sym at_head) same') in
            let b_cost = ap (λ (x : Best). x.cost) (some_same b (record { cost = tail.cost +ℤ e.cost; last = Some k }) is) in
            let b_last = ap (λ (x : Best). x.last) (some_same b (record { cost = tail.cost +ℤ e.cost; last = Some k }) is) in
            let here = restamp-same s.stamp e.head s.clock in
            let there = restamp-other s.stamp e.head s.clock e.tail (λ q. not_tail (sym q)) in
            let low = s.before e.tail in
            record {
              index = k;
              edge = e;
              tail = tail;
              is_last = b_last;
              at = at;
              arrives = sym at_head;
              tail_found = other' e.tail (λ q. not_tail (sym q)) ∙ imp.tail_found;
              no_more = omega (arith, ints);
              earlier = λ _. subst (λ x. restamp s.stamp e.head s.clock e.tail < restamp s.stamp e.head s.clock x) (sym at_head) (omega arith);
            }
        | inr ne ↦ kept ne (s.lasts v b apart (sym (other' v ne) ∙ f))
      ]
    where
      kept : v ≢ e.head → LastOf edges old s.stamp v b → LastOf edges new' (restamp s.stamp e.head s.clock) v b
      kept ne l =
          elim (cases_eq l.edge.tail e.head) [
            | inl at_head ↦
                let less = imp.cheaper l.tail (subst (λ x. found old x ≡ Some l.tail) at_head l.tail_found) in
                let le = l.no_more in
                record {
                  index = l.index;
                  edge = l.edge;
                  tail = record { cost = tail.cost +ℤ e.cost; last = Some k };
                  is_last = l.is_last;
                  at = l.at;
                  arrives = l.arrives;
                  tail_found = subst (λ x. found new' x ≡ Some (record { cost = tail.cost +ℤ e.cost; last = Some k })) (sym at_head) same';
                  no_more = omega (arith, ints);
                  earlier = λ q. absurd (omega (arith, ints));
                }
            | inr ne_tail ↦
                let here = restamp-other s.stamp e.head s.clock v ne in
                let there = restamp-other s.stamp e.head s.clock l.edge.tail ne_tail in
                record {
                  index = l.index;
                  edge = l.edge;
                  tail = l.tail;
                  is_last = l.is_last;
                  at = l.at;
                  arrives = l.arrives;
                  tail_found = other' l.edge.tail ne_tail ∙ l.tail_found;
                  no_more = l.no_more;
                  earlier = λ q. let early = l.earlier q in omega arith;
                }
          ]

  before' : (v : ℕ) → restamp s.stamp e.head s.clock v < s.clock + 1
  before' v =
      let low = s.before v in
      elim (cases_eq v e.head) [
        | inl at_head ↦ subst (λ x. restamp s.stamp e.head s.clock x < s.clock + 1) (sym at_head) (let here = restamp-same s.stamp e.head s.clock in omega arith)
        | inr ne ↦ let there = restamp-other s.stamp e.head s.clock v ne in omega arith
      ]

  pub IsSearched-step : IsSearched edges from new'
  IsSearched-step = record {
    start = other' from (λ q. not_start (sym q)) ∙ s.start;
    walks = walks';
    stamp = restamp s.stamp e.head s.clock;
    clock = s.clock + 1;
    before = before';
    lasts = lasts';
  }
