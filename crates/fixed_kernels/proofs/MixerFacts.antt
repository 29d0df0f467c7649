-- Blocks through a mixer.
use Rattle.std.proofs.Common.{◌≡◌, ℕ, ◌+◌, ◌*◌, ◌^◌, ◌<◌, ◌≤◌, List, length, get_or, ℤ, pos, refl, sym, subst, arith, ◌∙◌}
use Rattle.std.specs.Prelude.{unsigned_abs}
use Rattle.std.proofs.lemmas.List.FromFn.{get_or-map-range_with_len, length-map-range_with_len, fill_by_all}
use Rattle.graph_model.specs.Bounds.{IsWithin}
use Rattle.graph_model.specs.Filters.{products, gains_to}
use Rattle.graph_model.specs.Rounding.{rounded}
use Rattle.graph_model.specs.declared.kind.Kind.TheVariants.{Mixer}
use Rattle.graph_model.specs.declared.graph.Bound.{Bound}
use Rattle.graph_model.specs.Blocks.{planar, planar_frame}
use Rattle.graph_model.specs.Kernels.{new_kernel}
use Rattle.graph_model.proofs.PlanarLaws.{place}
use Rattle.fixed_kernels.specs.Kernels.{IsKernel, IsNextBlock}
use Rattle.fixed_kernels.proofs.BlockFacts.{blocks, in_within, out_fits}

module _ (wide count : ℕ) (gains : List ℤ) (bound : Bound) (kernel : IsKernel (new_kernel (Mixer wide count gains) bound))
    (n : ℕ) (ins : List ℤ) (within : IsWithin bound.ins (planar wide n ins)) where
  pub mixer_fits : (o t : ℕ) → o < count → t < n → unsigned_abs (rounded (products (gains_to wide gains o) (planar_frame wide n ins t)) 16) ≤ 2 ^ 46
  mixer_fits o t lo lt =
      subst (λ y. unsigned_abs y ≤ 2 ^ 46)
      (get_or-map-range_with_len (λ j. rounded (products (gains_to wide gains j) (planar_frame wide n ins t)) 16) 0 count o o (pos 0) lo (omega arith))
      (out_fits (new_kernel (Mixer wide count gains) bound) kernel refl n ins within t lt o)

  pub mixer_blocks : (outs : List ℤ)
      → ((o t : ℕ) → o < count → t < n → get_or outs (o * n + t) (pos 0) ≡ rounded (products (gains_to wide gains o) (planar_frame wide n ins t)) 16)
      → IsNextBlock (new_kernel (Mixer wide count gains) bound) (new_kernel (Mixer wide count gains) bound) n ins outs
  mixer_blocks outs values =
      blocks (new_kernel (Mixer wide count gains) bound) kernel refl n ins within (new_kernel (Mixer wide count gains) bound) outs refl refl
      (λ h stands. refl)
      (λ h stands t lt.
      fill_by_all (λ j. rounded (products (gains_to wide gains j) (planar_frame wide n ins t)) 16) (planar_frame count n outs t) count (pos 0)
      (length-map-range_with_len (λ o. get_or outs (o * n + t) (pos 0)) 0 count)
      (λ o lo. get_or-map-range_with_len (λ j. get_or outs (j * n + t) (pos 0)) 0 count o o (pos 0) lo (omega arith) ∙ values o t lo lt))

  pub mixer_within : length ins ≡ wide * n → (most : ℕ) → ((c : ℕ) → get_or bound.ins c 0 ≤ most) → (i : ℕ) → i < length ins → unsigned_abs (get_or ins i (pos 0)) ≤ most
  mixer_within many most above i lt =
      let p = place wide n i (omega (arith, many)) in
      let size = in_within (new_kernel (Mixer wide count gains) bound) kernel refl n ins within p.c p.t p.row p.column in
      let below = above p.c in
      subst (λ j. unsigned_abs (get_or ins j (pos 0)) ≤ most) (sym p.is) (omega arith)
