-- A kernel that takes a block frame by frame.
use Rattle.std.specs.Prelude.{◌≡◌, ℕ, suc, ◌<◌, List, ◌++◌, ℤ}
use Rattle.graph_model.specs.Histories.{History, before}
use Rattle.graph_model.specs.Kinds.{rule_of}
use Rattle.graph_model.specs.Blocks.{planar_frame}
use Rattle.graph_model.specs.Kernels.{IsFrameWithin, KernelState}
use Rattle.fixed_kernels.specs.Kernels.{Keeps}

-- when the first t frames of a block of m channels and n frames have come
pub record GoesOn (m n : ℕ) (ins : List ℤ) (t : ℕ) (old new : KernelState) (outs : List ℤ) : Type 0 where
  pub stands : (h : History) → Keeps old h → Keeps new (before (planar_frame m n ins) t ++ h)
  pub last : (h : History) → Keeps old h → (s : ℕ) → s < t
      → planar_frame m n outs s ≡ rule_of old.kind (before (planar_frame m n ins) (suc s) ++ h)
  pub within : (s : ℕ) → s < t → IsFrameWithin old.bound.outs (planar_frame m n outs s)
  pub kind : new.kind ≡ old.kind
  pub bound : new.bound ≡ old.bound
