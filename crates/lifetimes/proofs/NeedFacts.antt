-- What is counted for the need of a wave.
use Rattle.std.proofs.Common.{◌≡◌, ℕ, suc, ◌+◌, ◌-◌, ◌<◌, ◌≤◌, List, [], ◌∷◌, ◌++◌, get_or, length, min, refl, sym, ap, ◌∙◌, ⊎_elim, arith, count_by, sum_by, false}
use Rattle.std.specs.Prelude.{slice_index}
use Rattle.std.specs.List.{All, Contains}
use Rattle.std.proofs.lemmas.Bool.{cases_eq}
use Rattle.std.proofs.lemmas.Bool.Decides.{nat_tests}
use Rattle.std.proofs.lemmas.List.{get_or_append_left, get_or_default, get_or_push}
use Rattle.std.proofs.lemmas.List.Elements.{All-contains, All-head, All-tail}
use Rattle.std.proofs.lemmas.List.Sums.{count_by-le-length, get_or-le-sum_by}
use Rattle.plan_model.specs.Buffers.{is_born, is_dying, is_born_of, is_freed, need_of_wave, AreLives}
use Rattle.plan_model.specs.declared.buffers.Life.{Life}
use Rattle.plan_model.proofs.BelowFacts.{count_by-cons, count_by_keys, count_by_none, sum_below-le, sum_below-same}
use Rattle.plan_model.proofs.CountFacts.{bit, is_before}
use Rattle.plan_model.proofs.LowerBoundLaws.{saved_below}
use Rattle.plan_model.proofs.SavedLaws.{Rising, need_is}

-- a value that is alive before wave s or born in it dies there, or is alive before the next
pub alive_next : (lives : List Life) (s : ℕ) → All (λ x. x.born < x.dies) lives
    → count_by (is_before (s + 1)) lives + count_by (is_dying s) lives ≡ count_by (is_before s) lives + count_by (is_born s) lives
alive_next [] s h = refl
alive_next (x ∷ xs) s h =
    let here : bit (is_before (s + 1) x) + bit (is_dying s x) ≡ bit (is_before s x) + bit (is_born s x) = one x (All-head (λ y. y.born < y.dies) x xs h) in
    omega (
      arith,
      count_by-cons (is_before (s + 1)) x xs,
      count_by-cons (is_dying s) x xs,
      count_by-cons (is_before s) x xs,
      count_by-cons (is_born s) x xs,
      alive_next xs s (All-tail (λ y. y.born < y.dies) x xs h),
    )
  where
    one : (x : Life) → x.born < x.dies → bit (is_before (s + 1) x) + bit (is_dying s x) ≡ bit (is_before s x) + bit (is_born s x)
    one x l = grind (arith, nat_tests)

-- above each uid
bound : List Life → ℕ
bound lives = suc (sum_by (λ x. x.uid.0) lives)

module _ (lives : List Life) (waves : ℕ) (h : AreLives lives waves) where
  pub lasting : All (λ x. x.born < x.dies) lives
  lasting k d l = (h.within k d l).0

  below : All (λ x. x.uid.0 < bound lives) lives
  unfolding bound
  below k d l = let le = get_or-le-sum_by (λ (x : Life). x.uid.0) lives k d l in omega arith

  rising : Rising lives (bound lives)
  rising = record {
    up = λ i j d le l. ⊎_elim
        (λ (e : i ≡ j). let q : (get_or lives i d).uid.0 ≡ (get_or lives j d).uid.0 = ap (λ k. (get_or lives k d).uid.0) e in omega arith)
        (λ ne. ⊎_elim (λ lt. omega arith) (λ r. omega (arith, r.0)) (h.ascending i j d (omega arith) l))
        (cases_eq i j);
    below = below;
  }

  -- the waves of births and deaths are among the waves
  pub births_within : All (λ x. x.born < waves) lives
  births_within k d l = let w = h.within k d l in omega (arith, w.0, w.1)

  pub deaths_within : All (λ x. x.dies < waves) lives
  deaths_within k d l = (h.within k d l).1

  module _ (takers : List Life) (among : All (Contains lives) takers) where
    pub takers_within : All (λ x. x.born < waves) takers
    takers_within k d l = All-contains (λ (x : Life). x.born < waves) lives (get_or takers k d) births_within (among k d l)

    module _ (taken : (s a : ℕ) → count_by (is_born_of s a) takers ≡ min (count_by (is_born_of s a) lives) (count_by (is_freed s a) lives)) (s : ℕ) where
      -- those that take over a buffer are the ones that the definition saves
      saved_is_taken : count_by (is_born s) takers ≡ saved_below (bound lives) lives s
      unfolding saved_below
      saved_is_taken =
          sym (count_by_keys (λ (x : Life). x.uid.0) (is_born s) (bound lives) takers (λ k d l. All-contains (λ (x : Life). x.uid.0 < bound lives) lives (get_or takers k d) below (among k d l)))
          ∙ sum_below-same (bound lives) _ (λ a. min (count_by (is_born_of s a) lives) (count_by (is_freed s a) lives)) (λ a l. taken s a)

      pub saved_le_born : count_by (is_born s) takers ≤ count_by (is_born s) lives
      saved_le_born =
          let takers_by_node = count_by_keys (λ (x : Life). x.uid.0) (is_born s) (bound lives) takers (λ k d l. All-contains (λ (x : Life). x.uid.0 < bound lives) lives (get_or takers k d) below (among k d l)) in
          let lives_by_node = count_by_keys (λ (x : Life). x.uid.0) (is_born s) (bound lives) lives below in
          let less = sum_below-le (bound lives) (λ a. count_by (is_born_of s a) takers) (λ a. count_by (is_born_of s a) lives) (λ a l. omega (arith, taken s a)) in
          omega arith

      -- so what is counted is the need
      pub need_counted : count_by (is_before s) lives + count_by (is_born s) lives - count_by (is_born s) takers ≡ need_of_wave lives s
      need_counted = ap (λ n. count_by (is_before s) lives + count_by (is_born s) lives - n) saved_is_taken ∙ sym (need_is lives s (bound lives) rising lasting)

      -- and what is left of those that are kept and counted
      module _ (alive born saved : ℕ) (before : alive ≡ count_by (is_before s) lives) (births : born ≡ count_by (is_born s) lives) (savings : saved ≡ count_by (is_born s) takers) where
        pub saved_fits : saved ≤ alive + born
        saved_fits = omega (arith, saved_le_born)

        pub need_found : alive + born - saved ≡ need_of_wave lives s
        need_found = omega (arith, need_counted)

  module _ (s alive born dead : ℕ) (before : alive ≡ count_by (is_before s) lives) (births : born ≡ count_by (is_born s) lives) (deaths : dead ≡ count_by (is_dying s) lives) where
    pub dead_fits : dead ≤ alive + born
    dead_fits = omega (arith, alive_next lives s lasting)

    pub alive_found : alive + born - dead ≡ count_by (is_before (s + 1)) lives
    alive_found = omega (arith, alive_next lives s lasting)

pub alive_few : (lives : List Life) (s alive born : ℕ) → alive ≡ count_by (is_before s) lives → born ≡ count_by (is_born s) lives → length lives ≤ 16384 → alive + born ≤ 32768
alive_few lives s alive born before births few = omega (arith, count_by-le-length (is_before s) lives, count_by-le-length (is_born s) lives)

pub none_before : (lives : List Life) → 0 ≡ count_by (is_before 0) lives
none_before lives = sym (count_by_none (is_before 0) lives (λ k d l. never (get_or lives k d)))
  where
    never : (x : Life) → is_before 0 x ≡ false
    never x = grind (arith, nat_tests)

-- a number of a list that counts
pub counted : (counts : List ℕ) (k v n : ℕ) → v ≡ get_or counts k v → k < length counts → slice_index counts k ≡ n → v ≡ n
counted counts k v n is l e = is ∙ get_or_default counts k v 0 l ∙ e

pub needs_more : (lives : List Life) (needs more : List ℕ) (w n : ℕ) → length needs ≡ w → ((s : ℕ) → s < w → slice_index needs s ≡ need_of_wave lives s) → n ≡ need_of_wave lives w
    → more ≡ needs ++ n ∷ [] → (s : ℕ) → s < w + 1 → slice_index more s ≡ need_of_wave lives s
needs_more lives needs more w n long h new is s l =
    ap (λ ns. slice_index ns s) is
    ∙ ⊎_elim
    (λ (e : s ≡ w). get_or_push needs n 0 s (omega arith) ∙ new ∙ ap (need_of_wave lives) (sym e))
    (λ ne. get_or_append_left needs (n ∷ []) 0 s (omega arith) ∙ h s (omega arith))
    (cases_eq s w)
