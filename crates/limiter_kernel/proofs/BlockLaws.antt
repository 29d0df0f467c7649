-- Places in a block, and a block that is taken frame by frame.
use Rattle.std.proofs.Common.{◌≡◌, ℕ, suc, ◌+◌, ◌*◌, ◌<◌, ◌≤◌, List, ◌∷◌, ◌++◌, length, get_or, ℤ, pos, refl, sym, ap, ◌∙◌, subst, arith, add-one, ⊎_elim, inl, inr}
use Rattle.std.specs.Prelude.{◌⊎◌, ◌≢◌}
use Rattle.std.proofs.lemmas.Bool.{cases_lt}
use Rattle.std.proofs.lemmas.List.FromFn.{fill_by_all}
use Rattle.graph_model.specs.Histories.{Frame, History, before}
use Rattle.graph_model.specs.Kinds.{ins_of, outs_of, rule_of}
use Rattle.graph_model.proofs.BlockLaws.{before-same, row_within}
use Rattle.graph_model.specs.Blocks.{planar, planar_frame}
use Rattle.graph_model.specs.Kernels.{IsFrameWithin, KernelState}
use Rattle.graph_model.proofs.PlanarLaws.{take-stream, within-before}
use Rattle.fixed_kernels.specs.Kernels.{Keeps, IsNextBlock}
use Rattle.limiter_kernel.specs.Going.{GoesOn}

-- two places of a block
pub apart : (n i k t s : ℕ) → t < n → s < n → (k < i) ⊎ ((s < t) ⊎ (t < s)) → k * n + s ≢ i * n + t
apart n i k t s lt ls (inl less) e = let row = row_within k i n less in omega (arith, e)
apart n i k t s lt ls (inr other) e =
    ⊎_elim
    (λ (less : k < i). let row = row_within k i n less in omega (arith, e))
    (λ (le : i ≤ k).
    ⊎_elim
    (λ (more : i < k). let row = row_within i k n more in omega (arith, e))
    (λ (back : k ≤ i).
    let same : k ≡ i = omega arith in
    let equal : k * n ≡ i * n = ap (λ j. j * n) same in
    ⊎_elim (λ (a : s < t). omega (arith, e, equal)) (λ (b : t < s). omega (arith, e, equal)) other)
    (cases_lt i k))
    (cases_lt k i)

pub same_frames : (m n : ℕ) (outs : List ℤ) (t : ℕ) (f : List ℤ) → length f ≡ m
    → ((k : ℕ) → k < m → get_or outs (k * n + t) (pos 0) ≡ get_or f k (pos 0)) → planar_frame m n outs t ≡ f
same_frames m n outs t f e each =
    sym (fill_by_all (λ k. get_or outs (k * n + t) (pos 0)) f m (pos 0) e (λ k lt. sym (each k lt)))

pub goes_none : (m n : ℕ) (ins : List ℤ) (k : KernelState) (outs : List ℤ) → GoesOn m n ins 0 k k outs
goes_none m n ins k outs = record {
  stands = λ h at. at;
  last = λ h at s lt. absurd (omega arith);
  within = λ s lt. absurd (omega arith);
  kind = refl;
  bound = refl;
}

-- one frame more
module _ (m n : ℕ) (ins : List ℤ) (t : ℕ) (old now new : KernelState) (outs after : List ℤ) (f to : Frame)
    (is : f ≡ planar_frame m n ins t) (so_far : GoesOn m n ins t old now outs)
    (stands : (h : History) → Keeps now h → Keeps new (f ∷ h))
    (last : (h : History) → Keeps now h → to ≡ rule_of now.kind (f ∷ h))
    (within : IsFrameWithin now.bound.outs to) (kind : new.kind ≡ now.kind) (bound : new.bound ≡ now.bound)
    (here : planar_frame m n after t ≡ to)
    (others : (s : ℕ) → s < t → planar_frame m n after s ≡ planar_frame m n outs s) where
  pub goes_more : GoesOn m n ins (t + 1) old new after
  goes_more =
      let x : ℕ → Frame = planar_frame m n ins in
      record {
        stands = λ h at.
            subst (λ j. Keeps new (before (planar_frame m n ins) j ++ h)) (sym (add-one t))
            (subst (λ (g : Frame). Keeps new (g ∷ (before (planar_frame m n ins) t ++ h))) is (stands (before (planar_frame m n ins) t ++ h) (so_far.stands h at)));
        last = λ h at s lt.
            ⊎_elim
            (λ (less : s < t). others s less ∙ so_far.last h at s less)
            (λ (le : t ≤ s).
            let same : s ≡ t = omega arith in
            subst (λ j. planar_frame m n after j ≡ rule_of old.kind (before (planar_frame m n ins) (suc j) ++ h)) (sym same)
            (here ∙ last (before (planar_frame m n ins) t ++ h) (so_far.stands h at)
            ∙ (λ i. rule_of (so_far.kind i) (is i ∷ (before (planar_frame m n ins) t ++ h)))))
            (cases_lt s t);
        within = λ s lt.
            ⊎_elim
            (λ (less : s < t). subst (λ (g : Frame). IsFrameWithin old.bound.outs g) (sym (others s less)) (so_far.within s less))
            (λ (le : t ≤ s).
            let same : s ≡ t = omega arith in
            subst (λ j. IsFrameWithin old.bound.outs (planar_frame m n after j)) (sym same)
            (subst (λ (g : Frame). IsFrameWithin old.bound.outs g) (sym here) (subst (λ b. IsFrameWithin b.outs to) so_far.bound within)))
            (cases_lt s t);
        kind = kind ∙ so_far.kind;
        bound = bound ∙ so_far.bound;
      }

-- the whole block
pub goes_all : (m n : ℕ) (ins : List ℤ) (old new : KernelState) (outs : List ℤ) → m ≡ ins_of old.kind → m ≡ outs_of old.kind
    → GoesOn m n ins n old new outs → IsNextBlock old new n ins outs
goes_all m n ins old new outs wide count g =
    let stands : (h : History) → Keeps old h → Keeps new (planar (ins_of old.kind) n ins ++ h)
    = subst (λ w. (h : History) → Keeps old h → Keeps new (planar w n ins ++ h)) wide g.stands in
    let last : (h : History) → Keeps old h → (s : ℕ) → s < n
    → planar_frame (outs_of old.kind) n outs s ≡ rule_of old.kind (before (planar_frame (ins_of old.kind) n ins) (suc s) ++ h)
    = subst (λ v. (h : History) → Keeps old h → (s : ℕ) → s < n → planar_frame v n outs s ≡ rule_of old.kind (before (planar_frame (ins_of old.kind) n ins) (suc s) ++ h)) count
    (subst (λ w. (h : History) → Keeps old h → (s : ℕ) → s < n → planar_frame m n outs s ≡ rule_of old.kind (before (planar_frame w n ins) (suc s) ++ h)) wide g.last) in
    let within : (s : ℕ) → s < n → IsFrameWithin old.bound.outs (planar_frame (outs_of old.kind) n outs s)
    = subst (λ v. (s : ℕ) → s < n → IsFrameWithin old.bound.outs (planar_frame v n outs s)) count g.within in
    record {
      stands = stands;
      last = λ h at. before-same (planar_frame (outs_of old.kind) n outs) (λ s. rule_of old.kind (before (planar_frame (ins_of old.kind) n ins) (suc s) ++ h)) n (last h at)
          ∙ sym (take-stream (rule_of old.kind) (planar_frame (ins_of old.kind) n ins) n h);
      within = within-before old.bound.outs (planar_frame (outs_of old.kind) n outs) n within;
      kind = g.kind;
      bound = g.bound;
    }
