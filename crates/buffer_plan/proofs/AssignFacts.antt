-- What is packed, brought back into the order of the values, is an assignment with the fewest channels.
use Rattle.std.proofs.Common.{◌≡◌, ℕ, suc, ◌+◌, ◌-◌, ◌<◌, ◌≤◌, Bool, List, [], ◌∷◌, length, get_or, map, refl, sym, ◌∙◌, ap, subst, ⊎_elim, arith, All, AllPairs, count_by, sum_by}
use Rattle.std.specs.List.{zip, AllZip}
use Rattle.std.specs.List.Sorted.{IsPermutation}
use Rattle.std.proofs.lemmas.Bool.{cases_eq}
use Rattle.std.proofs.lemmas.List.Sums.{get_or-le-sum_by}
use Rattle.std.proofs.lemmas.List.Elements.{All-map}
use Rattle.std.proofs.lemmas.List.Sorted.{IsPermutation-map, IsPermutation-trans, All-permutation, sum_by-IsPermutation, length_permutation}
use Rattle.std.proofs.lemmas.List.{length-map}
use Rattle.plan_model.specs.Buffers.{is_born, is_born_of, is_freed, need_of_wave, MayShare, IsAssignment, AreLives, IsLifeBefore, IsLeastChannels}
use Rattle.plan_model.specs.Rules.{IsPeak}
use Rattle.plan_model.specs.declared.buffers.Home.{Home}
use Rattle.plan_model.specs.declared.buffers.Life.{Life}
use Rattle.plan_model.proofs.CountFacts.{bit, is_before}
use Rattle.plan_model.proofs.BelowFacts.{sum_below-same}
use Rattle.plan_model.proofs.LowerBoundLaws.{saved_below, count_by-map, alive_le_buffers, turn_share}
use Rattle.plan_model.proofs.SavedLaws.{Rising, need_is, All-from_map}
use Rattle.plan_model.proofs.CertifiedLaws.{need_le}
use Rattle.buffer_plan.specs.Packed.{active, saved_by, IsPacked, home_of}
use Rattle.buffer_plan.specs.declared.packing.Placed.{Placed}
use Rattle.buffer_plan.proofs.SortFacts.{AllPairs-permutation, AllPairs-map, sorted_back, before_one_way}

-- a number above each uid
above : List Life → ℕ
above lives = suc (sum_by (λ x. x.uid.0) lives)

rising_from : (lives : List Life) (waves : ℕ) → AreLives lives waves → Rising lives (above lives)
unfolding above
rising_from lives waves h = record {
  up = λ i j d le l. ⊎_elim
      (λ (e : i ≡ j). let q : (get_or lives i d).uid.0 ≡ (get_or lives j d).uid.0 = ap (λ k. (get_or lives k d).uid.0) e in omega arith)
      (λ ne. ⊎_elim (λ lt. omega arith) (λ r. omega (arith, r.0)) (h.ascending i j d (omega arith) l))
      (cases_eq i j);
  below = λ k d l. omega (arith, get_or-le-sum_by (λ (x : Life). x.uid.0) lives k d l);
}

zip-map : {X A B : Type 0} (f : X → A) (g : X → B) (xs : List X) → zip (map f xs) (map g xs) ≡ map (λ x. (f x, g x)) xs
zip-map f g [] = refl
zip-map f g (x ∷ xs) = ap (λ t. (f x, g x) ∷ t) (zip-map f g xs)

AllZip-maps : {X A B : Type 0} (R : A → B → Type 0) (f : X → A) (g : X → B) → ((x : X) → R (f x) (g x)) → (xs : List X) → AllZip R (map f xs) (map g xs)
AllZip-maps R f g h [] = tt
AllZip-maps R f g h (x ∷ xs) = (h x, AllZip-maps R f g h xs)

-- all values of these lives are packed, in whatever order, into this number of buffers
pub record AreAllPacked (lives : List Life) (waves : ℕ) (holders : List Life) (zs : List Placed) (channels peak : ℕ) : Type 0 where
  pub are : AreLives lives waves
  pub moved : IsPermutation lives (map (λ z. z.life) zs)
  pub packed : IsPacked holders zs peak
  pub many : channels ≡ length holders

module _ {lives : List Life} {waves : ℕ} {holders : List Life} {zs : List Placed} {channels peak : ℕ} where
  pub all_packed : (now : List Life) → AreLives lives waves → now ≡ lives → IsPermutation now (map (λ z. z.life) zs) → IsPacked holders zs peak → channels ≡ length holders
      → AreAllPacked lives waves holders zs channels peak
  all_packed now are same moved packed many = record {
    are = are;
    moved = subst (λ l. IsPermutation l (map (λ (z : Placed). z.life) zs)) same moved;
    packed = packed;
    many = many;
  }

  module _ (f : AreAllPacked lives waves holders zs channels peak) where
    pub few_buffers : length lives ≤ 16384 → channels ≤ 16384
    few_buffers few =
        omega (arith, f.many, f.packed.few, length-map zs (λ (z : Placed). z.life), length_permutation lives (map (λ (z : Placed). z.life) zs) f.moved)

    counts : (q : Life → Bool) → count_by (λ z. q z.life) zs ≡ count_by q lives
    counts q = sym (count_by-map (λ (z : Placed). z.life) q zs) ∙ sum_by-IsPermutation (λ (x : Life). bit (q x)) lives (map (λ (z : Placed). z.life) zs) f.moved

    all_placed : (P : Life → Type 0) → All P lives → All (λ z. P z.life) zs
    all_placed P h = All-from_map P (λ (z : Placed). z.life) zs (map (λ (z : Placed). z.life) zs) refl (All-permutation P lives (map (λ (z : Placed). z.life) zs) f.moved h)

    uids_placed : All (λ z. z.life.uid.0 < above lives) zs
    uids_placed = all_placed (λ x. x.uid.0 < above lives) (rising_from lives waves f.are).below

    saved_placed : (s : ℕ) → saved_by (above lives) zs s ≡ saved_below (above lives) lives s
    unfolding saved_by saved_below
    saved_placed s = sum_below-same (above lives) _ _ (λ a l. rw (counts (is_born_of s a), counts (is_freed s a)))

    need_placed : (s : ℕ) → need_of_wave lives s ≡ active zs s - saved_by (above lives) zs s
    need_placed s =
        omega (arith, need_is lives s (above lives) (rising_from lives waves f.are) (λ k d l. (f.are.within k d l).0), counts (is_before s), counts (is_born s), saved_placed s)

    peak_needs_all : need_of_wave lives peak ≡ channels
    peak_needs_all = omega (arith, need_placed peak, f.packed.full (above lives) uids_placed, f.many)

    pub none_needs_more : (s : ℕ) → need_of_wave lives s ≤ channels
    unfolding saved_by
    none_needs_more s =
        let most : active zs s ≤ length holders + saved_by (above lives) zs s =
        alive_le_buffers (λ (z : Placed). z.life) (λ (z : Placed). z.buffer) zs (length holders) (above lives) s f.packed.lasting uids_placed f.packed.apart f.packed.below in
        omega (arith, need_placed s, most, f.many)

    pub is_peak : (p : ℕ) → p ≡ peak → 1 ≤ waves → IsPeak lives waves channels p
    is_peak p same some = subst (IsPeak lives waves channels) (sym same) (record {
      wave =
          (let in_time : All (λ z. z.life.born ≤ waves - 1) zs = all_placed (λ x. x.born ≤ waves - 1) (λ k d l. let w = f.are.within k d l in omega (arith, w.0, w.1)) in
          omega (arith, f.packed.reached (waves - 1) in_time));
      full = peak_needs_all;
      first = λ s l all. let e = f.packed.earlier s (above lives) l uids_placed in omega (arith, need_placed s, e.0, e.1, all, f.many);
    })

    pub is_least : IsLeastChannels lives channels
    is_least homes n a = omega (arith, peak_needs_all, need_le lives waves f.are homes n peak a)

    module _ (sorted : List Placed) (moved_back : IsPermutation zs sorted) (ascends : AllPairs (λ x y. IsLifeBefore y.life x.life → ⊥) sorted) where
      in_order : map (λ z. z.life) sorted ≡ lives
      in_order =
          sorted_back IsLifeBefore before_one_way lives (map (λ z. z.life) sorted) f.are.ascending
          (IsPermutation-trans lives (map (λ (z : Placed). z.life) zs) (map (λ z. z.life) sorted) f.moved (IsPermutation-map (λ (z : Placed). z.life) zs sorted moved_back))
          (AllPairs-map (λ (z : Placed). z.life) (λ x y. IsLifeBefore y x → ⊥) sorted ascends)

      pub is_assignment : (homes : List Home) → homes ≡ map home_of sorted → IsAssignment lives homes channels
      is_assignment homes e =
          let apart : AllPairs (λ (x : Placed) (y : Placed). x.buffer ≡ y.buffer → MayShare x.life y.life) sorted =
          AllPairs-permutation (λ (x : Placed) (y : Placed). x.buffer ≡ y.buffer → MayShare x.life y.life) (λ x y r q. turn_share x.life y.life (r (sym q))) zs sorted moved_back f.packed.apart in
          let below : All (λ (z : Placed). z.buffer < channels) zs = λ k d l. omega (arith, f.many, f.packed.below k d l) in
          let pairs : zip lives homes ≡ map (λ z. (z.life, home_of z)) sorted =
          ap (λ l. zip l homes) (sym in_order) ∙ ap (λ h. zip (map (λ (z : Placed). z.life) sorted) h) e ∙ zip-map (λ (z : Placed). z.life) home_of sorted in
          record {
            values = subst (λ l. AllZip (λ x h. (h.uid ≡ x.uid) × (h.channel ≡ x.channel)) l homes) in_order
                (subst (λ hs. AllZip (λ x h. (h.uid ≡ x.uid) × (h.channel ≡ x.channel)) (map (λ (z : Placed). z.life) sorted) hs) (sym e)
                (AllZip-maps (λ (x : Life) (h : Home). (h.uid ≡ x.uid) × (h.channel ≡ x.channel)) (λ (z : Placed). z.life) home_of (λ z. (refl, refl)) sorted));
            apart = subst (λ l. AllPairs (λ x y. x.1.buffer ≡ y.1.buffer → MayShare x.0 y.0) l) (sym pairs)
                (AllPairs-map (λ (z : Placed). (z.life, home_of z)) (λ (x : Life × Home) (y : Life × Home). x.1.buffer ≡ y.1.buffer → MayShare x.0 y.0) sorted apart);
            below = subst (λ hs. All (λ (h : Home). h.buffer < channels) hs) (sym e)
                (All-map (λ (h : Home). h.buffer < channels) home_of sorted (All-permutation (λ (z : Placed). z.buffer < channels) zs sorted moved_back below));
          }
