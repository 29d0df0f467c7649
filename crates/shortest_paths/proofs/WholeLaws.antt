-- A search that reached each point.
use Rattle.std.proofs.Common.{◌≡◌, ◌≢◌, ℕ, zero, suc, ◌<◌, ◌^◌, ℤ, pos, ◌≤ℤ◌, ◌<ℤ◌, List, [], replicate, Option, Some, None, inl, inr, refl, sym, ap, ◌∙◌, arith, slice_get}
use Rattle.std.specs.List.{All}
use Rattle.std.specs.Option.{MatchOption}
use Rattle.std.proofs.lemmas.Int.{ints}
use Rattle.std.proofs.lemmas.Bool.{cases_eq}
use Rattle.std.proofs.lemmas.List.Elements.{All-contains}
use Rattle.shortest_paths.specs.declared.edges.Edge.{Edge}
use Rattle.shortest_paths.specs.Walks.{IsLeastCost, EndsLeast, ClimbsIn, number_of}
use Rattle.shortest_paths.specs.Nearest.{Permits, IsLinked}
use Rattle.shortest_paths.proofs.CutLaws.{tree_least}

zero_number : (n v : ℕ) → number_of (replicate n (pos 0)) v ≡ pos 0
zero_number zero v = refl
zero_number (suc n) zero = refl
zero_number (suc n) (suc v) = zero_number n v

-- where no edge costs less than 0, all numbers may be 0
pub permits_zero : (edges : List Edge) (n : ℕ) (numbers : List ℤ) → All (λ e. (pos 0 ≤ℤ e.cost) × (e.cost ≤ℤ pos (2 ^ 46))) edges → numbers ≡ replicate n (pos 0) → Permits edges numbers
permits_zero edges n numbers costs is e has =
    let head = ap (λ xs. number_of xs e.head) is ∙ zero_number n e.head in
    let tail = ap (λ xs. number_of xs e.tail) is ∙ zero_number n e.tail in
    let cost = (All-contains (λ (d : Edge). (pos 0 ≤ℤ d.cost) × (d.cost ≤ℤ pos (2 ^ 46))) edges e costs has).0 in
    omega (arith, ints)

-- a search that nothing stops has each point in its tree
pub never_stopped : (points from : ℕ) (last : List (Option ℕ)) (wanted : List ℤ) (o : Option ℕ) → wanted ≡ [] →
    MatchOption o ((v : ℕ) → v < points → v ≢ from → IsLinked last v) (λ v. (v < points) × (pos 0 <ℤ number_of wanted v) × (v ≢ from → IsLinked last v)) → (v : ℕ) → v < points → v ≢ from → IsLinked last v
never_stopped points from last wanted None is h = h
never_stopped points from last wanted (Some u) is h = absurd (let q = h.1 in let none = ap (λ xs. number_of xs u) is in omega (arith, ints))

pub whole_tree_at : (edges : List Edge) (points from : ℕ) (last : List (Option ℕ)) → from < points → ((v k : ℕ) → slice_get last v ≡ Some (Some k) → (n : ℕ) × (n < points) × ClimbsIn edges last from n v) →
    ((v : ℕ) → v < points → v ≢ from → IsLinked last v) → (v : ℕ) → v < points → (n : ℕ) × (n < points) × ClimbsIn edges last from n v
whole_tree_at edges points from last inside tree linked v l =
    elim (cases_eq v from) [
      | inl same ↦ (0, omega arith, same)
      | inr ne ↦ let k = linked v l ne in tree v k.0 k.1
    ]

pub whole_least : (edges : List Edge) (points from : ℕ) (numbers : List ℤ) (last : List (Option ℕ)) → from < points → Permits edges numbers → number_of numbers from ≡ pos 0 →
    ((v k : ℕ) → slice_get last v ≡ Some (Some k) → EndsLeast edges numbers v k) → ((v k : ℕ) → slice_get last v ≡ Some (Some k) → (n : ℕ) × (n < points) × ClimbsIn edges last from n v) →
    ((v : ℕ) → v < points → v ≢ from → IsLinked last v) → (v : ℕ) → v < points → IsLeastCost edges from v (number_of numbers v)
whole_least edges points from numbers last inside permits start ends tree linked v l =
    let t = whole_tree_at edges points from last inside tree linked v l in tree_least edges numbers last from t.0 v permits start ends t.2

pub whole_none_at : (points from : ℕ) (last : List (Option ℕ)) → ((v : ℕ) → v < points → v ≢ from → IsLinked last v) → (v : ℕ) → v < points → slice_get last v ≡ Some None → v ≡ from
whole_none_at points from last linked v l none =
    elim (cases_eq v from) [
      | inl same ↦ same
      | inr ne ↦ let k = linked v l ne in absurd (let q = sym none ∙ k.1 in cc)
    ]
