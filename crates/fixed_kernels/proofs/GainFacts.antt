-- Blocks through a gain.
use Rattle.std.proofs.Common.{◌≡◌, ℕ, suc, ◌+◌, ◌*◌, ◌^◌, ◌<◌, ◌≤◌, List, ◌++◌, length, get_or, ℤ, pos, refl, sym, ap, ◌∙◌, subst, arith}
use Rattle.std.specs.Prelude.{unsigned_abs, ◌*ℤ◌}
use Rattle.graph_model.specs.Filters.{gained}
use Rattle.std.proofs.lemmas.List.FromFn.{get_or-map-range_with_len}
use Rattle.graph_model.specs.Bounds.{IsWithin}
use Rattle.graph_model.specs.Histories.{before, on_each}
use Rattle.graph_model.proofs.BlockLaws.{sample_in}
use Rattle.graph_model.specs.Rounding.{rounded}
use Rattle.graph_model.specs.declared.kind.Kind.TheVariants.{Gain}
use Rattle.graph_model.specs.declared.graph.Bound.{Bound}
use Rattle.graph_model.specs.Blocks.{planar_frame, planar}
use Rattle.fixed_kernels.proofs.BlockFacts.{blocks, in_within, out_fits}
use Rattle.graph_model.specs.Kernels.{new_kernel}
use Rattle.graph_model.proofs.PlanarLaws.{place, in_rows, voices_out, on_each_at}
use Rattle.fixed_kernels.specs.Kernels.{IsKernel, IsNextBlock}

-- a block through a gain
module _ (m n : ℕ) (g : ℤ) (bound : Bound) (kernel : IsKernel (new_kernel (Gain m g) bound))
    (ins : List ℤ) (count : length ins ≡ m * n) (within : IsWithin bound.ins (planar m n ins)) where
  pub gain_block_fits : (i : ℕ) → i < length ins → unsigned_abs (rounded (g *ℤ get_or ins i (pos 0)) 16) ≤ 2 ^ 46
  gain_block_fits i lt =
      let p = place m n i (omega (arith, count)) in
      let out : get_or (on_each m (gained g) (before (planar_frame m n ins) (suc p.t) ++ kernel.history)) p.c (pos 0) ≡ rounded (g *ℤ get_or ins i (pos 0)) 16
      = on_each_at m (gained g) (before (planar_frame m n ins) (suc p.t) ++ kernel.history) p.c p.row
      ∙ ap (λ y. rounded (g *ℤ y) 16) (get_or-map-range_with_len (λ d. get_or ins (d * n + p.t) (pos 0)) 0 m p.c p.c (pos 0) p.row (omega arith))
      ∙ ap (λ j. rounded (g *ℤ get_or ins j (pos 0)) 16) (sym p.is) in
      subst (λ y. unsigned_abs y ≤ 2 ^ 46) out (out_fits (new_kernel (Gain m g) bound) kernel refl n ins within p.t p.column p.c)

  pub gain_blocks : (outs : List ℤ)
      → ((i : ℕ) → i < length ins → get_or outs i (pos 0) ≡ rounded (g *ℤ get_or ins i (pos 0)) 16)
      → IsNextBlock (new_kernel (Gain m g) bound) (new_kernel (Gain m g) bound) n ins outs
  gain_blocks outs values =
      blocks (new_kernel (Gain m g) bound) kernel refl n ins within (new_kernel (Gain m g) bound) outs refl refl
      (λ h stands. refl)
      (λ h stands t lt. voices_out m n (gained g) ins outs h t lt
      (λ c lc. let inside = in_rows m n c t lc lt in
      values (c * n + t) (omega (arith, count)) ∙ ap (λ y. rounded (g *ℤ y) 16) (sym (sample_in n ins c t lt))))

  pub gain_within : (most : ℕ) → ((c : ℕ) → get_or bound.ins c 0 ≤ most) → (i : ℕ) → i < length ins → unsigned_abs (get_or ins i (pos 0)) ≤ most
  gain_within most above i lt =
      let p = place m n i (omega (arith, count)) in
      let size = in_within (new_kernel (Gain m g) bound) kernel refl n ins within p.c p.t p.row p.column in
      let below = above p.c in
      subst (λ j. unsigned_abs (get_or ins j (pos 0)) ≤ most) (sym p.is) (omega arith)
