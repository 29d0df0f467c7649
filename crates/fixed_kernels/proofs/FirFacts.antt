-- Blocks through a finite impulse response.
use Rattle.std.proofs.Common.{◌≡◌, ℕ, zero, suc, ◌+◌, ◌-◌, ◌*◌, ◌^◌, ◌<◌, ◌≤◌, List, [], ◌++◌, length, take, drop, replicate, reverse, get_or, ℤ, pos, refl, sym, ap, ◌∙◌, subst, arith}
use Rattle.std.specs.Prelude.{unsigned_abs}
use Rattle.std.proofs.lemmas.List.{length-reverse, length-replicate, reverse-reverse, ext_get_or, get_or-reverse}
use Rattle.graph_model.specs.Bounds.{IsWithin}
use Rattle.graph_model.specs.Filters.{filtered, products}
use Rattle.graph_model.specs.Histories.{History, before, channel, frame_in, window}
use Rattle.graph_model.specs.Kept.{windows, Kept}
use Rattle.graph_model.specs.LimiterLaws.{get_or-padded, length-padded}
use Rattle.graph_model.specs.Ranges.{HasRange}
use Rattle.graph_model.specs.Rounding.{rounded}
use Rattle.graph_model.specs.declared.kind.Kind.TheVariants.{Fir}
use Rattle.graph_model.specs.declared.graph.Bound.{Bound}
use Rattle.graph_model.proofs.BlockLaws.{length-frame_in, sample_in, row_within}
use Rattle.graph_model.specs.Blocks.{planar_frame, planar, so_far}
use Rattle.graph_model.specs.Kernels.{new_kernel, IsBoundOf}
use Rattle.graph_model.proofs.PlanarLaws.{channel-so_far, voices_out, on_each_at}
use Rattle.fixed_kernels.specs.Kernels.{Keeps, IsKernel, IsNextBlock}
use Rattle.fixed_kernels.specs.Rows.{AreFedRows, filtered_at, kept_rows}
use Rattle.fixed_kernels.specs.States.{kept_in, fir_state}
use Rattle.fixed_kernels.proofs.BlockFacts.{blocks, block_kernel, out_fits}
use Rattle.fixed_kernels.proofs.KernelFacts.{new_is_kernel}
use Rattle.fixed_kernels.proofs.RowFacts.{kept_at, kept_all, products-reverse, row_is, rows_are}
use Rattle.fixed_kernels.proofs.WindowLaws.{products-window}

-- rows of zeros hold what comes before all frames
silent_rows : (m n : ℕ) → kept_rows m n (replicate (m * n) (pos 0)) ≡ windows m n []
silent_rows m n =
    rows_are m n (replicate (m * n) (pos 0)) []
    (λ c lc.
    let row = row_within c m n lc in
    let size : length (frame_in n (replicate (m * n) (pos 0)) c) ≡ n = length-frame_in n m (replicate (m * n) (pos 0)) c (length-replicate (m * n) (pos 0)) lc in
    let other : length (reverse (window n [])) ≡ n = length-reverse (window n []) ∙ length-padded n (pos 0) [] in
    ext_get_or (pos 0) (frame_in n (replicate (m * n) (pos 0)) c) (reverse (window n [])) (size ∙ sym other)
    (λ i lt.
    sample_in n (replicate (m * n) (pos 0)) c i (omega (arith, size)) ∙ zeros_at (m * n) (c * n + i)
    ∙ sym (get_or-reverse (window n []) i (pos 0) (omega (arith, size, length-padded n (pos 0) []))
    ∙ get_or-padded n (pos 0) [] (length (window n []) - 1 - i) (omega (arith, size, length-padded n (pos 0) [])))))
  where
    zeros_at : (k i : ℕ) → get_or (replicate k (pos 0)) i (pos 0) ≡ pos 0
    zeros_at zero i = refl
    zeros_at (suc k) zero = refl
    zeros_at (suc k) (suc i) = zeros_at k i

-- a new one
module _ (taps backward : List ℤ) (q l m : ℕ) (bound : Bound) (past : List ℤ) (turned : backward ≡ reverse taps)
    (zeros : past ≡ replicate (m * length backward) (pos 0)) where
  pub fir_made : fir_state backward q l bound m past ≡ new_kernel (Fir m taps q l) bound
  fir_made =
      let back : reverse backward ≡ taps = ap reverse turned ∙ reverse-reverse taps in
      let size : length backward ≡ length taps = ap length turned ∙ length-reverse taps in
      let rows : kept_rows m (length backward) past ≡ windows m (length taps) []
      = ap (kept_rows m (length backward)) zeros ∙ silent_rows m (length backward) ∙ ap (λ d. windows m d []) size in
      λ i. record { kind = Fir m (back i) q l; bound = bound; kept = kept_in m (rows i) }

  pub fir_new : HasRange (Fir m taps q l) → IsBoundOf (Fir m taps q l) bound → IsKernel (fir_state backward q l bound m past)
  fir_new range follows = subst IsKernel (sym fir_made) (new_is_kernel (Fir m taps q l) bound range follows)

module _ (backward : List ℤ) (q l : ℕ) (bound : Bound) (m : ℕ) (past : List ℤ) (kernel : IsKernel (fir_state backward q l bound m past))
    (n : ℕ) (ins : List ℤ) (count : length ins ≡ m * n) (within : IsWithin bound.ins (planar m n ins)) where
  stood : (h : History) → Keeps (fir_state backward q l bound m past) h → (c : ℕ) → c < m
      → frame_in (length backward) past c ≡ reverse (window (length backward) (channel c h))
  stood h stands c lc =
      row_is m (length backward) past h
      (ap (λ (k : Kept). k.ins) stands ∙ ap (λ d. windows m d h) (length-reverse backward)) c lc

  row_size : (c : ℕ) → c < m → length (frame_in n ins c) ≡ n
  row_size c lc = length-frame_in n m ins c count lc

  value_is : (h : History) → Keeps (fir_state backward q l bound m past) h → (c t : ℕ) → c < m → t < n
      → filtered_at backward q (frame_in (length backward) past c ++ frame_in n ins c) t
      ≡ filtered (reverse backward) q (so_far (frame_in n ins c) (suc t) ++ channel c h)
  value_is h stands c t lc lt =
      let d : ℕ = length backward in
      let taps : List ℤ = reverse backward in
      let xs : List ℤ = so_far (frame_in n ins c) (suc t) ++ channel c h in
      let size : length (reverse backward) ≡ length (window (length backward) (so_far (frame_in n ins c) (suc t) ++ channel c h))
      = length-reverse backward ∙ sym (length-padded (length backward) (pos 0) (so_far (frame_in n ins c) (suc t) ++ channel c h)) in
      ap (λ s. rounded s q)
      (ap (λ zs. products backward (take (length backward) (drop (suc t) (zs ++ frame_in n ins c)))) (stood h stands c lc)
      ∙ ap (products backward) (sym (kept_at (length backward) (channel c h) (frame_in n ins c) (suc t) (omega (arith, row_size c lc))))
      ∙ ap (λ ts. products ts (reverse (window (length backward) (so_far (frame_in n ins c) (suc t) ++ channel c h)))) (sym (reverse-reverse backward))
      ∙ products-reverse (reverse backward) (window (length backward) (so_far (frame_in n ins c) (suc t) ++ channel c h)) size
      ∙ ap (λ e. products (reverse backward) (window e (so_far (frame_in n ins c) (suc t) ++ channel c h))) (sym (length-reverse backward))
      ∙ products-window (reverse backward) (so_far (frame_in n ins c) (suc t) ++ channel c h))

  pub fir_fits : (c t : ℕ) → c < m → t < n
      → unsigned_abs (filtered_at backward q (frame_in (length backward) past c ++ frame_in n ins c) t) ≤ 2 ^ 46
  fir_fits c t lc lt =
      subst (λ y. unsigned_abs y ≤ 2 ^ 46)
      (on_each_at m (filtered (reverse backward) q) (before (planar_frame m n ins) (suc t) ++ kernel.history) c lc
      ∙ ap (filtered (reverse backward) q) (channel-so_far m n ins kernel.history c lc (suc t) (omega arith))
      ∙ sym (value_is kernel.history kernel.stands c t lc lt))
      (out_fits (fir_state backward q l bound m past) kernel refl n ins within t lt c)

  module _ (new : List ℤ) (fed : AreFedRows m (length backward) past n ins new) where
    pub fir_stands : (h : History) → Keeps (fir_state backward q l bound m past) h → Keeps (fir_state backward q l bound m new) (planar m n ins ++ h)
    fir_stands h stands =
        ap (λ (rows : List (List ℤ)). kept_in m rows)
        (rows_are m (length backward) new (planar m n ins ++ h)
        (λ c lc.
        fed c lc
        ∙ ap (λ zs. drop n (zs ++ frame_in n ins c)) (stood h stands c lc)
        ∙ sym (kept_all (length backward) (channel c h) (frame_in n ins c) n (row_size c lc))
        ∙ ap (λ xs. reverse (window (length backward) xs)) (sym (channel-so_far m n ins h c lc n (omega arith))))
        ∙ ap (λ d. windows m d (planar m n ins ++ h)) (sym (length-reverse backward)))

    pub fir_kernel : IsKernel (fir_state backward q l bound m new)
    fir_kernel = block_kernel (fir_state backward q l bound m past) kernel refl n ins within (fir_state backward q l bound m new) refl refl (fir_stands kernel.history kernel.stands)

    pub fir_blocks : (outs : List ℤ)
        → ((c t : ℕ) → c < m → t < n → get_or outs (c * n + t) (pos 0) ≡ filtered_at backward q (frame_in (length backward) past c ++ frame_in n ins c) t)
        → IsNextBlock (fir_state backward q l bound m past) (fir_state backward q l bound m new) n ins outs
    fir_blocks outs values =
        blocks (fir_state backward q l bound m past) kernel refl n ins within (fir_state backward q l bound m new) outs refl refl fir_stands
        (λ h stands t lt. voices_out m n (filtered (reverse backward) q) ins outs h t lt
        (λ c lc. values c t lc lt ∙ value_is h stands c t lc lt))
