-- A kernel as its callers see it: what it was made of, and what it keeps of the history that it stands for.
use Rattle.std.specs.Prelude.{◌≡◌, ℕ, ◌≤◌, List, [], length, get_or, pos, unsigned_abs}
use Rattle.graph_model.specs.Histories.{Frame}
use Rattle.graph_model.specs.Kinds.{ins_of}
use Rattle.graph_model.specs.Bounds.{out_bounds, IsBounded}
use Rattle.graph_model.specs.Kept.{Kept, kept}
use Rattle.graph_model.specs.declared.kind.Kind.{Kind}
use Rattle.graph_model.specs.declared.graph.Bound.{Bound}

-- the kind and the bounds that it was made of, and what it keeps
pub record KernelState : Type 0 where
  pub kind : Kind
  pub bound : Bound
  pub kept : Kept

-- the one that nothing has come into
abbrev pub new_kernel : Kind → Bound → KernelState
new_kernel kind bound = record { kind = kind; bound = bound; kept = kept kind [] }

-- the bounds of a node of the kind: those of its outputs follow from those of its inputs, and none exceeds 2 ^ 46
pub record IsBoundOf (kind : Kind) (bound : Bound) : Type 0 where
  pub ins : length bound.ins ≡ ins_of kind
  pub outs : bound.outs ≡ out_bounds kind bound.ins
  pub bounded : IsBounded bound

-- each sample of a frame is at most as large as the bound of its channel
abbrev pub IsFrameWithin : List ℕ → Frame → Type 0
IsFrameWithin bounds frame = (c : ℕ) → unsigned_abs (get_or frame c (pos 0)) ≤ get_or bounds c 0
