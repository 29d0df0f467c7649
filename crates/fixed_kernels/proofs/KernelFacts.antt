-- What holds of the bounds of a kernel, and of a new one.
use Rattle.std.proofs.Common.{ℕ, ◌^◌, ◌<◌, ◌≤◌, List, [], length, get_or, refl, arith, ⊎_elim}
use Rattle.std.specs.List.{All}
use Rattle.std.proofs.lemmas.Bool.{cases_lt}
use Rattle.std.proofs.lemmas.List.{get_or_past}
use Rattle.std.proofs.lemmas.List.Elements.{All-get_or}
use Rattle.graph_model.specs.Kernels.{new_kernel, IsBoundOf}
use Rattle.graph_model.specs.Ranges.{HasRange}
use Rattle.graph_model.specs.declared.kind.Kind.{Kind}
use Rattle.graph_model.specs.declared.graph.Bound.{Bound}
use Rattle.fixed_kernels.specs.Kernels.{IsKernel}

-- no bound exceeds 2 ^ 46
pub bound_at : (bs : List ℕ) → All (λ n. n ≤ 2 ^ 46) bs → (c : ℕ) → get_or bs c 0 ≤ 2 ^ 46
bound_at bs all c =
    ⊎_elim (λ (lt : c < length bs). All-get_or (λ n. n ≤ 2 ^ 46) bs c 0 lt all)
    (λ (past : length bs ≤ c). let none = get_or_past bs c 0 past in omega arith) (cases_lt c (length bs))

pub new_is_kernel : (kind : Kind) (bound : Bound) → HasRange kind → IsBoundOf kind bound → IsKernel (new_kernel kind bound)
new_is_kernel kind bound range follows = record {
  range = range;
  bound = follows;
  history = [];
  stands = refl;
  within = λ c k. omega arith;
}
