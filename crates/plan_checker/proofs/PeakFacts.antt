-- The first wave that needs all channels.
use Rattle.std.proofs.Common.{◌≡◌, ℕ, zero, suc, ◌<◌, ◌==◌, List, [], ◌∷◌, length, get_or, refl, sym, ap, ◌∙◌, arith, cond, Some, None, true, false, Bool, inl, inr}
use Rattle.std.specs.Prelude.{slice_index, IsSome}
use Rattle.std.specs.List.{position, find}
use Rattle.std.specs.Option.{is_some}
use Rattle.std.proofs.lemmas.Bool.{eqb-true, false≢true, cases_lt}
use Rattle.std.proofs.lemmas.List.Quantifiers.{position-Some}
use Rattle.graph_model.proofs.NodeFacts.{has_place}
use Rattle.graph_model.proofs.PathLaws.{same_name}
use Rattle.plan_model.specs.Buffers.{need_of_wave}
use Rattle.plan_model.specs.Rules.{IsPeak}
use Rattle.plan_model.specs.declared.buffers.Life.{Life}

-- what has an item that passes finds one
found_somewhere : {X : Type 0} (p : X → Bool) (xs : List X) (k : ℕ) (d : X) → k < length xs → p (get_or xs k d) ≡ true → IsSome (find p xs)
found_somewhere p [] k d lt t = absurd (omega arith)
found_somewhere p (x ∷ xs) zero d lt t = ap (λ b. is_some (cond b (Some x) (find p xs))) t
found_somewhere p (x ∷ xs) (suc k) d lt t = go (p x) (found_somewhere p xs k d (omega arith) t)
  where
    go : (b : Bool) → IsSome (find p xs) → IsSome (cond b (Some x) (find p xs))
    go true rest = refl
    go false rest = rest

module _ (lives : List Life) (needs : List ℕ) (channels : ℕ) (are : (s : ℕ) → s < length needs → slice_index needs s ≡ need_of_wave lives s) where
  passes : (s : ℕ) → s < length needs → need_of_wave lives s ≡ channels → (slice_index needs s == channels) ≡ true
  passes s lt full = ap (λ n. n == channels) (are s lt ∙ full) ∙ same_name channels

  pub first_is_peak : (k : ℕ) → position (λ n. n == channels) needs ≡ Some k → IsPeak lives (length needs) channels k
  first_is_peak k at =
      let found = position-Some (λ n. n == channels) needs k 0 at in
      let within = found.0 in
      record {
        wave = found.0;
        full = sym (are k found.0) ∙ eqb-true (slice_index needs k) channels found.1;
        first = λ s lt same. false≢true (sym (found.2 s lt) ∙ passes s (omega arith) same);
      }

  pub peak_is_first : (p k : ℕ) → position (λ n. n == channels) needs ≡ Some k → IsPeak lives (length needs) channels p → k ≡ p
  peak_is_first p k at peak =
      let found = position-Some (λ n. n == channels) needs k 0 at in
      let mine = first_is_peak k at in
      elim (cases_lt k p) [
        | inl before ↦ absurd (peak.first k before mine.full)
        | inr le ↦
            elim (cases_lt p k) [
              | inl after ↦ absurd (mine.first p after peak.full)
              | inr back ↦ omega arith
            ]
      ]

  pub some_is_first : (p : ℕ) → position (λ n. n == channels) needs ≡ None → IsPeak lives (length needs) channels p → ⊥
  some_is_first p none peak =
      let there : IsSome (position (λ n. n == channels) needs) =
      has_place (λ n. n == channels) needs (found_somewhere (λ n. n == channels) needs p 0 peak.wave (passes p peak.wave peak.full)) in
      false≢true (sym (ap is_some none) ∙ there)
