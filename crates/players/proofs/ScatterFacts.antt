-- What goes out of a node in a sub-block.
use Rattle.std.proofs.Common.{◌≡◌, ℕ, ◌+◌, ◌-◌, ◌*◌, ◌<◌, ◌≤◌, ℤ, pos, List, [], ◌++◌, length, take, drop, get_or, set, refl, sym, ◌∙◌, ap, arith, inl, inr, ⊎_elim}
use Rattle.std.specs.Prelude.{◌⊎◌}
use Rattle.std.proofs.lemmas.List.{get_or-set_same, get_or-set_other, length-set, get_or_default, get_or_append_left, get_or-append_right, get_or-take, get_or-drop, length-take, length-drop, length-append}
use Rattle.std.proofs.lemmas.Bool.{cases_eq}
use Rattle.pool_waves.specs.declared.job.Home.{Home}

-- ---- a buffer that samples are written into
module _ (xs ys : List ℤ) (a : ℕ) (fits : a + length ys ≤ length xs) where
  front : length (take a xs) ≡ a
  front = length-take a xs ∙ omega arith

  pub length-written : length (take a xs ++ (ys ++ drop (a + length ys) xs)) ≡ length xs
  length-written =
      omega (arith, length-append (take a xs) (ys ++ drop (a + length ys) xs), length-append ys (drop (a + length ys) xs), length-drop (a + length ys) xs, front)

  pub written_at : (t : ℕ) → t < length ys → get_or (take a xs ++ (ys ++ drop (a + length ys) xs)) (a + t) (pos 0) ≡ get_or ys t (pos 0)
  written_at t lt =
      get_or-append_right (take a xs) (ys ++ drop (a + length ys) xs) a (a + t) (pos 0) front (omega arith)
      ∙ (ap (λ z. get_or (ys ++ drop (a + length ys) xs) z (pos 0)) (omega arith) ∙ get_or_append_left ys (drop (a + length ys) xs) (pos 0) t lt)

  pub written_rest : (j : ℕ) → (j < a) ⊎ (a + length ys ≤ j) → get_or (take a xs ++ (ys ++ drop (a + length ys) xs)) j (pos 0) ≡ get_or xs j (pos 0)
  written_rest j out =
      ⊎_elim
      (λ lt. get_or_append_left (take a xs) (ys ++ drop (a + length ys) xs) (pos 0) j (omega (arith, front)) ∙ get_or-take a xs j (pos 0) lt)
      (λ le.
      get_or-append_right (take a xs) (ys ++ drop (a + length ys) xs) a j (pos 0) front (omega arith)
      ∙ (get_or-append_right ys (drop (a + length ys) xs) (length ys) (j - a) (pos 0) refl (omega arith)
      ∙ (get_or-drop (a + length ys) xs (j - a - length ys) (pos 0) ∙ ap (λ z. get_or xs z (pos 0)) (omega arith))))
      out

-- ---- all values
pub record Scattering (homes : List Home) (told : List ℤ) (first count : ℕ) (outs : List (List ℤ)) (i : ℕ) (outs' : List (List ℤ)) : Type 0 where
  pub len : length outs' ≡ length outs
  pub lengths : (o : ℕ) → length (get_or outs' o []) ≡ length (get_or outs o [])
  pub done : (o t : ℕ) (d : Home) → o < i → t < count → get_or (get_or outs' o []) (first + t) (pos 0) ≡ get_or told ((get_or homes o d).channel * count + t) (pos 0)
  pub rest : (o j : ℕ) → (j < first) ⊎ (first + count ≤ j) → get_or (get_or outs' o []) j (pos 0) ≡ get_or (get_or outs o []) j (pos 0)

pub scattering_none : (homes : List Home) (told : List ℤ) (first count : ℕ) (outs : List (List ℤ)) → Scattering homes told first count outs 0 outs
scattering_none homes told first count outs = record { len = refl; lengths = λ o. refl; done = λ o t d lt. absurd (omega arith); rest = λ o j h. refl }

pub scattering_more : (homes : List Home) (told : List ℤ) (first count : ℕ) (outs : List (List ℤ)) (i : ℕ) (outs' : List (List ℤ)) (h : Home) (e b c ys : List ℤ)
    → i < length homes → length homes ≡ length outs → b ≡ get_or outs' i e → first + length ys ≤ length b → length ys ≡ count
    → c ≡ take first b ++ (ys ++ drop (first + length ys) b)
    → ((t : ℕ) → t < count → get_or ys t (pos 0) ≡ get_or told ((get_or homes i h).channel * count + t) (pos 0))
    → Scattering homes told first count outs i outs' → Scattering homes told first count outs (i + 1) (set outs' i c)
scattering_more homes told first count outs i outs' h e b c ys lt same be room many wrote row s =
    let fits : i < length outs' = omega (arith, s.len) in
    let b_is : b ≡ get_or outs' i [] = be ∙ get_or_default outs' i e [] fits in
    let here : (k : ℕ) → get_or (get_or (set outs' i c) i []) k (pos 0) ≡ get_or (take first b ++ (ys ++ drop (first + length ys) b)) k (pos 0)
    = λ k. ap (λ z. get_or z k (pos 0)) (get_or-set_same outs' i c [] fits ∙ wrote) in
    record {
      len = length-set outs' i c ∙ s.len;
      lengths = λ o. elim (cases_eq o i) [
        | inl at ↦
            ap (λ k. length (get_or (set outs' i c) k [])) at ∙ ap length (get_or-set_same outs' i c [] fits ∙ wrote)
            ∙ length-written b ys first room ∙ ap length b_is ∙ s.lengths i ∙ ap (λ k. length (get_or outs k [])) (sym at)
        | inr ne ↦ ap length (get_or-set_other outs' i o c [] ne) ∙ s.lengths o
      ];
      done = λ o t d small lt. elim (cases_eq o i) [
        | inl at ↦
            ap (λ k. get_or (get_or (set outs' i c) k []) (first + t) (pos 0)) at ∙ here (first + t)
            ∙ written_at b ys first room t (omega (arith, many)) ∙ row t lt
            ∙ ap (λ (z : Home). get_or told (z.channel * count + t) (pos 0)) (get_or_default homes i h d (omega arith) ∙ ap (λ k. get_or homes k d) (sym at))
        | inr ne ↦ ap (λ z. get_or z (first + t) (pos 0)) (get_or-set_other outs' i o c [] ne) ∙ s.done o t d (omega arith) lt
      ];
      rest = λ o j out. elim (cases_eq o i) [
        | inl at ↦
            ap (λ k. get_or (get_or (set outs' i c) k []) j (pos 0)) at ∙ here j
            ∙ written_rest b ys first room j (⊎_elim (λ l. inl l) (λ l. inr (omega (arith, many))) out)
            ∙ ap (λ z. get_or z j (pos 0)) b_is ∙ s.rest i j out ∙ ap (λ k. get_or (get_or outs k []) j (pos 0)) (sym at)
        | inr ne ↦ ap (λ z. get_or z j (pos 0)) (get_or-set_other outs' i o c [] ne) ∙ s.rest o j out
      ];
    }
