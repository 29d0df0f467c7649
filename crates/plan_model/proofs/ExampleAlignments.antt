-- Alignments of two graphs: which positions are one, and which have the least total.
use Rattle.std.proofs.Common.{◌≡◌, ℕ, ◌+◌, ◌≤◌, [], ◌∷◌, pos, refl, arith}
use Rattle.std.proofs.lemmas.List.Elements.{All-contains, All-from_recursion}
use Rattle.graph_model.specs.Paths.{leads, live_connections, IsLive, reach_within}
use Rattle.graph_model.specs.declared.kind.Kind.TheVariants.{Input, Output, Gain, Mixer, Insert}
use Rattle.graph_model.specs.declared.graph.Graph.{Graph}
use Rattle.graph_model.proofs.Examples.{node, joined, fan_out}
use Rattle.plan_model.specs.Alignments.{IsAfter, IsAlignment, IsLeastTotal, IsPointwiseLeast, IsBestAlignment, total, position_in}
use Rattle.plan_model.proofs.Examples.{stands, late, earliest}
use Rattle.plan_model.proofs.ExampleTools.{listed}

-- a stereo input, mixed down and fed through a gain into three output channels, beside an insert of 5
unfoldable pub stereo : Graph
stereo = record {
  nodes = node 1 (Input 2) ∷ node 2 (Output 3) ∷ node 3 (Mixer 2 1 (pos 65536 ∷ pos 65536 ∷ [])) ∷ node 4 (Gain 1 (pos 65536)) ∷ node 5 (Insert 1 5) ∷ [];
  connections = joined 1 0 3 0 ∷ joined 1 1 3 1 ∷ joined 3 0 4 0 ∷ joined 4 0 2 0 ∷ joined 4 0 2 1 ∷ joined 4 0 2 2 ∷ joined 1 0 5 0 ∷ joined 5 0 2 0 ∷ [];
}

-- the one connection of the mixer waits; each node as early as it can be; as late
abbrev pub between : ℕ → ℕ
between v = position_in (stands 1 0 ∷ stands 2 5 ∷ stands 3 0 ∷ stands 4 5 ∷ stands 5 0 ∷ []) v

abbrev pub as_early : ℕ → ℕ
as_early v = position_in (stands 1 0 ∷ stands 2 5 ∷ stands 3 0 ∷ stands 4 0 ∷ stands 5 0 ∷ []) v

abbrev pub as_late : ℕ → ℕ
as_late v = position_in (stands 1 0 ∷ stands 2 5 ∷ stands 3 5 ∷ stands 4 5 ∷ stands 5 0 ∷ []) v

totals_of_stereo : (total stereo between ∷ total stereo as_early ∷ total stereo as_late ∷ []) ≡ 5 ∷ 15 ∷ 10 ∷ []
unfolding stereo leads
totals_of_stereo = refl

pub between_is : IsAlignment stereo between
unfolding stereo leads
between_is = record {
  input = λ live. refl;
  after = All-from_recursion (IsAfter stereo between) (live_connections stereo)
      (omega arith, (omega arith, (omega arith, (omega arith, (omega arith, (omega arith, (omega arith, (omega arith, tt))))))));
}

pub as_early_is : IsAlignment stereo as_early
unfolding stereo leads
as_early_is = record {
  input = λ live. refl;
  after = All-from_recursion (IsAfter stereo as_early) (live_connections stereo)
      (omega arith, (omega arith, (omega arith, (omega arith, (omega arith, (omega arith, (omega arith, (omega arith, tt))))))));
}

pub as_late_is : IsAlignment stereo as_late
unfolding stereo leads
as_late_is = record {
  input = λ live. refl;
  after = All-from_recursion (IsAfter stereo as_late) (live_connections stereo)
      (omega arith, (omega arith, (omega arith, (omega arith, (omega arith, (omega arith, (omega arith, (omega arith, tt))))))));
}

-- refused: an output one frame before the end of the insert; and a total that another alignment undercuts
output_too_early : IsAlignment stereo (λ v. position_in (stands 1 0 ∷ stands 2 4 ∷ stands 3 0 ∷ stands 4 4 ∷ stands 5 0 ∷ []) v) → ⊥
unfolding stereo leads
output_too_early al = let l : 5 ≤ 4 = al.after 7 (joined 5 0 2 0) (omega arith) in absurd (omega arith)

early_is_not_least : IsLeastTotal stereo as_early → ⊥
unfolding stereo leads
early_is_not_least least = let l : 15 ≤ 5 = least between between_is refl in absurd (omega arith)

late_is_not_least : IsLeastTotal stereo as_late → ⊥
unfolding stereo leads
late_is_not_least least = let l : 10 ≤ 5 = least between between_is refl in absurd (omega arith)

pub live_1 : IsLive stereo 1
unfolding stereo
live_1 = (5 ∷ 1 ∷ [], (refl, (joined 5 0 2 0, (7, omega arith, refl), refl, refl), (refl, (joined 1 0 5 0, (6, omega arith, refl), refl, refl), refl)), (2, omega arith, refl))

pub live_2 : IsLive stereo 2
unfolding stereo
live_2 = ([], refl, (0, omega arith, refl))

between_is_least : IsLeastTotal stereo between
unfolding stereo leads
between_is_least q al same =
    let start : q 1 ≡ 0 = al.input live_1 in
    let end : q 2 ≡ 5 = same in
    let a : q 1 + 0 ≤ q 3 = al.after 0 (joined 1 0 3 0) (omega arith) in
    let b : q 3 + 0 ≤ q 4 = al.after 2 (joined 3 0 4 0) (omega arith) in
    let c : q 4 + 0 ≤ q 2 = al.after 3 (joined 4 0 2 0) (omega arith) in
    omega arith

-- the insert beside the gain into three channels
pub late_is : IsAlignment fan_out late
unfolding fan_out leads
late_is = record {
  input = λ live. refl;
  after = All-from_recursion (IsAfter fan_out late) (live_connections fan_out) (omega arith, (omega arith, (omega arith, (omega arith, (omega arith, (omega arith, tt))))));
}

pub earliest_is : IsAlignment fan_out earliest
unfolding fan_out leads
earliest_is = record {
  input = λ live. refl;
  after = All-from_recursion (IsAfter fan_out earliest) (live_connections fan_out) (omega arith, (omega arith, (omega arith, (omega arith, (omega arith, (omega arith, tt))))));
}

earliest_is_not_least : IsLeastTotal fan_out earliest → ⊥
unfolding fan_out leads
earliest_is_not_least least = let l : 15 ≤ 5 = least late late_is refl in absurd (omega arith)

-- refused: the gain one frame after the output; the input one frame late
gain_too_late : IsAlignment fan_out (λ v. position_in (stands 1 0 ∷ stands 2 5 ∷ stands 3 0 ∷ stands 4 6 ∷ []) v) → ⊥
unfolding fan_out leads
gain_too_late al = let l : 6 ≤ 5 = al.after 3 (joined 4 0 2 0) (omega arith) in absurd (omega arith)

pub live_input : IsLive fan_out 1
unfolding fan_out
live_input = (3 ∷ 1 ∷ [], (refl, (joined 3 0 2 0, (1, omega arith, refl), refl, refl), (refl, (joined 1 0 3 0, (0, omega arith, refl), refl, refl), refl)), (2, omega arith, refl))

input_too_late : IsAlignment fan_out (λ v. position_in (stands 1 1 ∷ stands 2 6 ∷ stands 3 1 ∷ stands 4 6 ∷ []) v) → ⊥
unfolding fan_out
input_too_late al = absurd (omega (arith, al.input live_input))

late_is_best : IsBestAlignment fan_out late
unfolding fan_out leads reach_within
late_is_best = record { alignment = late_is; latency = refl; least_total = least; pointwise_least = first }
  where
    least : IsLeastTotal fan_out late
    least q al same =
        let start : q 1 ≡ 0 = al.input live_input in
        let end : q 2 ≡ 5 = same in
        let a : q 1 + 0 ≤ q 4 = al.after 2 (joined 1 0 4 0) (omega arith) in
        let b : q 4 + 0 ≤ q 2 = al.after 3 (joined 4 0 2 0) (omega arith) in
        omega arith

    first : IsPointwiseLeast fan_out late
    first q al same equal v live =
        let start : q 1 ≡ 0 = al.input live_input in
        let end : q 2 ≡ 5 = same in
        let a : q 1 + 0 ≤ q 4 = al.after 2 (joined 1 0 4 0) (omega arith) in
        let b : q 4 + 0 ≤ q 2 = al.after 3 (joined 4 0 2 0) (omega arith) in
        let c : q 1 + 0 ≤ q 3 = al.after 0 (joined 1 0 3 0) (omega arith) in
        let d : q 3 + 5 ≤ q 2 = al.after 1 (joined 3 0 2 0) (omega arith) in
        All-contains (λ w. late w ≤ q w) (1 ∷ 2 ∷ 3 ∷ 4 ∷ []) v (All-from_recursion (λ w. late w ≤ q w) (1 ∷ 2 ∷ 3 ∷ 4 ∷ []) (omega arith, (omega arith, (omega arith, (omega arith, tt))))) (listed fan_out v live)

-- two gains in a row beside an insert of 5: wherever in the row the delay stands, the total is 5, and the gains stand
-- earliest where it comes last
unfoldable pub in_a_row : Graph
in_a_row = record {
  nodes = node 1 (Input 1) ∷ node 2 (Output 1) ∷ node 3 (Gain 1 (pos 65536)) ∷ node 4 (Gain 1 (pos 65536)) ∷ node 5 (Insert 1 5) ∷ [];
  connections = joined 1 0 3 0 ∷ joined 3 0 4 0 ∷ joined 4 0 2 0 ∷ joined 1 0 5 0 ∷ joined 5 0 2 0 ∷ [];
}

abbrev gains_at : ℕ → ℕ → ℕ → ℕ
gains_at m n v = position_in (stands 1 0 ∷ stands 2 5 ∷ stands 3 m ∷ stands 4 n ∷ stands 5 0 ∷ []) v

gains_may_stand : (m n : ℕ) → m ≤ n → n ≤ 5 → IsAlignment in_a_row (gains_at m n)
unfolding in_a_row leads
gains_may_stand m n l k = record {
  input = λ live. refl;
  after = All-from_recursion (IsAfter in_a_row (gains_at m n)) (live_connections in_a_row) (omega arith, (omega arith, (omega arith, (omega arith, (omega arith, tt)))));
}

one_total : (m n : ℕ) → m ≤ n → n ≤ 5 → total in_a_row (gains_at m n) ≡ 5
unfolding in_a_row leads
one_total m n l k = omega arith

-- refused: an alignment with the least total that is not the earliest
gain_is_live : IsLive in_a_row 4
unfolding in_a_row
gain_is_live = (
  4 ∷ 3 ∷ 1 ∷ [],
  (
    refl,
    (joined 4 0 2 0, (2, omega arith, refl), refl, refl),
    (refl, (joined 3 0 4 0, (1, omega arith, refl), refl, refl), (refl, (joined 1 0 3 0, (0, omega arith, refl), refl, refl), refl)),
  ),
  (1, omega arith, refl),
)

not_the_earliest : IsPointwiseLeast in_a_row (gains_at 0 5) → ⊥
unfolding in_a_row leads
not_the_earliest first =
    let l : 5 ≤ 0 = first (gains_at 0 0) (gains_may_stand 0 0 (omega arith) (omega arith)) refl refl 4 gain_is_live in absurd (omega arith)
