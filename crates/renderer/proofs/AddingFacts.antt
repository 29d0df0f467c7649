-- What a route brings, added frame by frame.
use Rattle.std.proofs.Common.{◌≡◌, ◌≢◌, ℕ, ◌+◌, ◌-◌, ◌*◌, ◌^◌, ◌<◌, ◌≤◌, Bool, List, length, get_or, set, ℤ, pos, ◌+ℤ◌, nat_le, cond, refl, sym, ◌∙◌, ap, subst, arith, inl, inr, true, false, unsigned_abs, to_z, of_z, w64}
use Rattle.std.proofs.lemmas.Bool.{cases_lt, le-leb, leb-true}
use Rattle.std.proofs.lemmas.Int.{ints}
use Rattle.std.proofs.lemmas.List.{get_or-set_same, get_or-set_other}
use Rattle.std.proofs.lemmas.Nat.{same_from_place}
use Rattle.graph_model.specs.Bounds.{AreUpTo}
use Rattle.renderer.specs.Routes.{sample_in, sample_before, IsAdded}
use Rattle.renderer.specs.declared.routes.Channel.{Channel}
use Rattle.renderer.specs.declared.routes.Route.{Route}
use Rattle.graph_model.proofs.InterleavingLaws.{in_row}

-- ---- what comes before a time
pub before_none : (xs : List ℤ) (c : Channel) (late t : ℕ) → t < late → sample_before xs c late t ≡ pos 0
before_none xs c late t lt = go (nat_le late t) refl
  where
    go : (b : Bool) → nat_le late t ≡ b → cond b (sample_in xs c (t - late)) (pos 0) ≡ pos 0
    go true e = absurd (let l = leb-true late t e in omega arith)
    go false e = refl

pub before_some : (xs : List ℤ) (c : Channel) (late t : ℕ) → late ≤ t → sample_before xs c late t ≡ sample_in xs c (t - late)
before_some xs c late t le = ap (λ b. cond b (sample_in xs c (t - late)) (pos 0)) (le-leb late t le)

-- ---- frame by frame
-- the frames before k are done
pub record IsAddedUpTo (k n : ℕ) (r : Route) (stream old new : List ℤ) : Type 0 where
  pub done : (t : ℕ) → t < n → t < k → sample_in new r.to t ≡ sample_in old r.to t +ℤ sample_before stream r.from r.delay t
  pub left : (t : ℕ) → t < n → k ≤ t → sample_in new r.to t ≡ sample_in old r.to t
  pub others : (t c : ℕ) → t < n → c < r.to.of → c ≢ r.to.at → get_or new (t * r.to.of + c) (pos 0) ≡ get_or old (t * r.to.of + c) (pos 0)

plus-none : (z : ℤ) → z +ℤ pos 0 ≡ z
plus-none z = omega (arith, ints)

-- at first nothing is added
pub added_none : (n : ℕ) (r : Route) (stream old : List ℤ) → IsAddedUpTo r.delay n r stream old old
added_none n r stream old = record {
  done = λ t l early. sym (ap (λ z. sample_in old r.to t +ℤ z) (before_none stream r.from r.delay t early) ∙ plus-none (sample_in old r.to t));
  left = λ t l late. refl;
  others = λ t c l lc ne. refl;
}

-- one frame more
pub added_more : (k n : ℕ) (r : Route) (stream old new : List ℤ) (x : ℤ) → r.to.at < r.to.of → length new ≡ n * r.to.of → k < n → r.delay ≤ k
    → IsAddedUpTo k n r stream old new → x ≡ sample_in new r.to k +ℤ sample_in stream r.from (k - r.delay)
    → IsAddedUpTo (k + 1) n r stream old (set new (k * r.to.of + r.to.at) x)
added_more k n r stream old new x lc len lk late are is = record {
  done = λ t l early.
      elim (cases_lt t k) [
        | inl before ↦ other t r.to.at lc (λ e. let a = e.0 in absurd (omega arith)) ∙ are.done t l before
        | inr past ↦ (let now : k ≡ t = omega arith in subst (λ s. sample_in (set new (k * r.to.of + r.to.at) x) r.to s ≡ sample_in old r.to s +ℤ sample_before stream r.from r.delay s) now here)
      ];
  left = λ t l later. other t r.to.at lc (λ e. let a = e.0 in absurd (omega arith)) ∙ are.left t l (omega arith);
  others = λ t c l lt ne. other t c lt (λ e. ne e.1) ∙ are.others t c l lt ne;
}
  where
    inside : k * r.to.of + r.to.at < length new
    inside = rw len (in_row k n r.to.at r.to.of lk lc)

    other : (t c : ℕ) → c < r.to.of → ((t ≡ k) × (c ≡ r.to.at) → ⊥) → get_or (set new (k * r.to.of + r.to.at) x) (t * r.to.of + c) (pos 0) ≡ get_or new (t * r.to.of + c) (pos 0)
    other t c lt ne = get_or-set_other new (k * r.to.of + r.to.at) (t * r.to.of + c) x (pos 0) (λ e. ne (same_from_place t c k r.to.at r.to.of lt lc e))

    here : sample_in (set new (k * r.to.of + r.to.at) x) r.to k ≡ sample_in old r.to k +ℤ sample_before stream r.from r.delay k
    here =
        get_or-set_same new (k * r.to.of + r.to.at) x (pos 0) inside ∙ is
        ∙ (let first = are.left k lk (omega arith) in let second = sym (before_some stream r.from r.delay k late) in λ i. first i +ℤ second i)

-- at the end all is
pub added_all : (k n : ℕ) (r : Route) (stream old new : List ℤ) → n ≤ k → IsAddedUpTo k n r stream old new → IsAdded n r stream old new
added_all k n r stream old new le are = record { added = λ t l. are.done t l (omega arith); others = are.others }

-- the sum as the code makes it
sum_fits : (a b : ℤ) → unsigned_abs a ≤ 2 ^ 60 → unsigned_abs b ≤ 2 ^ 46 → to_z w64 (of_z w64 (to_z w64 (of_z w64 a) +ℤ to_z w64 (of_z w64 b))) ≡ a +ℤ b
sum_fits a b ha hb =
    let ea : to_z w64 (of_z w64 a) ≡ a = omega (arith, ints) in
    let eb : to_z w64 (of_z w64 b) ≡ b = omega (arith, ints) in
    let fits : to_z w64 (of_z w64 (a +ℤ b)) ≡ a +ℤ b = omega (arith, ints) in
    (λ i. to_z w64 (of_z w64 (ea i +ℤ eb i))) ∙ fits

pub sum_is : (k n : ℕ) (r : Route) (stream old new : List ℤ) → r.from.at < r.from.of → r.to.at < r.to.of → length stream ≡ n * r.from.of → length old ≡ n * r.to.of → k < n → r.delay ≤ k
    → AreUpTo (2 ^ 46) stream → AreUpTo (2 ^ 60) old → IsAddedUpTo k n r stream old new
    → to_z w64 (of_z w64 (to_z w64 (of_z w64 (sample_in new r.to k)) +ℤ to_z w64 (of_z w64 (sample_in stream r.from (k - r.delay))))) ≡ sample_in new r.to k +ℤ sample_in stream r.from (k - r.delay)
sum_is k n r stream old new lf lt ls lo lk late small room are =
    let there : k * r.to.of + r.to.at < length old = rw lo (in_row k n r.to.at r.to.of lk lt) in
    let read : (k - r.delay) * r.from.of + r.from.at < length stream = rw ls (in_row (k - r.delay) n r.from.at r.from.of (omega arith) lf) in
    let first : unsigned_abs (sample_in new r.to k) ≤ 2 ^ 60 = subst (λ z. unsigned_abs z ≤ 2 ^ 60) (sym (are.left k lk (omega arith))) (room (k * r.to.of + r.to.at) (pos 0) there) in
    sum_fits (sample_in new r.to k) (sample_in stream r.from (k - r.delay)) first (small ((k - r.delay) * r.from.of + r.from.at) (pos 0) read)
