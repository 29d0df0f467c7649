-- The bounds and the first place that is too loud, at small graphs.
use Rattle.std.proofs.Common.{◌≡◌, ℕ, List, [], ◌∷◌, pos, negsuc, refl, ap, sym, ◌∙◌, ◌==◌, arith, false, get_or}
use Rattle.std.proofs.lemmas.Bool.{false≢true}
use Rattle.graph_model.specs.Bounds.{bounds, bounds_within}
use Rattle.graph_model.specs.declared.kind.Kind.{Kind}
use Rattle.graph_model.specs.declared.kind.Kind.TheVariants.{Input, Output, Gain, Mixer, Fir}
use Rattle.graph_model.specs.declared.graph.Bound.{Bound}
use Rattle.graph_model.specs.declared.graph.Graph.{Graph}
use Rattle.graph_model.specs.declared.graph.Side.{Side}
use Rattle.graph_model.specs.declared.graph.Side.TheVariants.{In, Out}
use Rattle.graph_model.proofs.PathLaws.{same_name}
use Rattle.graph_model.proofs.Examples.{node, joined}
use Rattle.topology.proofs.Examples.{fan_out}
use Rattle.headroom.specs.declared.loud.TooLoud.{TooLoud}
use Rattle.headroom.specs.Answers.{AreBounds, AllBounded}
use Rattle.headroom.specs.Loud.{IsTooLoud}
use Rattle.headroom.proofs.GraphTestFacts.{below_by, all_bounded_by, too_loud_by}
use Rattle.headroom.proofs.LoudFacts.{too_loud_refutes, too_loud_is_unique}

-- ---- the graphs
-- three gains of 16 and one more node, one after the other
abbrev row : Kind → Graph
row last = record {
  nodes = node 1 (Input 1) ∷ node 2 (Output 1) ∷ node 3 (Gain 1 (pos 1048576)) ∷ node 4 (Gain 1 (pos 1048576)) ∷ node 5 (Gain 1 (pos 1048576)) ∷ node 6 last ∷ [];
  connections = joined 1 0 3 0 ∷ joined 3 0 4 0 ∷ joined 4 0 5 0 ∷ joined 5 0 6 0 ∷ joined 6 0 2 0 ∷ [];
}

abbrev row_order : List ℕ
row_order = 1 ∷ 3 ∷ 4 ∷ 5 ∷ 6 ∷ 2 ∷ []

-- a gain of 16, a gain of one, and a filter with one great tap
abbrev loud : Kind
loud = Gain 1 (pos 1048576)

abbrev same : Kind
same = Gain 1 (pos 65536)

abbrev great : Kind
great = Fir 1 (pos 16777215 ∷ []) 0 0

-- a mixer of two into three
abbrev mixing : Graph
mixing = record {
  nodes = node 1 (Input 2) ∷ node 2 (Output 3) ∷ node 3 (Mixer 2 3 (pos 65536 ∷ pos 0 ∷ pos 131072 ∷ negsuc 65535 ∷ pos 0 ∷ pos 32768 ∷ [])) ∷ [];
  connections = joined 1 0 3 0 ∷ joined 1 1 3 1 ∷ joined 3 0 2 0 ∷ joined 3 1 2 1 ∷ joined 3 2 2 2 ∷ [];
}

-- two filters that are too loud and lead nowhere, the later name first in the list
abbrev idle : Graph
idle = record {
  nodes = node 1 (Input 1) ∷ node 2 (Output 1) ∷ node 9 great ∷ node 4 great ∷ [];
  connections = joined 1 0 2 0 ∷ joined 1 0 9 0 ∷ joined 1 0 4 0 ∷ [];
}

-- ---- what is told of them
abbrev bound : List ℕ → List ℕ → Bound
bound is os = record { ins = is; outs = os }

abbrev told : ℕ → Side → ℕ → ℕ → TooLoud
told v s c b = record { uid = record { 0 = v }; side = s; channel = c; bound = b }

other_number : (m n : ℕ) → (m == n) ≡ false → m ≡ n → ⊥
other_number m n differ e = false≢true (sym differ ∙ ap (λ k. k == n) e ∙ same_name n)

-- ---- an insert beside a gain into three channels: two connections into the first
sums_of_connections :
    AreBounds fan_out
    (bound [] (2147483648 ∷ []) ∷ bound (4294967296 ∷ 2147483648 ∷ 2147483648 ∷ []) [] ∷ bound (2147483648 ∷ []) (2147483648 ∷ []) ∷ bound (2147483648 ∷ []) (2147483648 ∷ []) ∷ [])
unfolding bounds_within
sums_of_connections = refl

not_one_connection :
    AreBounds fan_out
    (bound [] (2147483648 ∷ []) ∷ bound (2147483648 ∷ 2147483648 ∷ 2147483648 ∷ []) [] ∷ bound (2147483648 ∷ []) (2147483648 ∷ []) ∷ bound (2147483648 ∷ []) (2147483648 ∷ []) ∷ [])
    → ⊥
unfolding bounds_within
not_one_connection e = other_number 2147483648 4294967296 refl (ap (λ bs. get_or (get_or bs 1 (bound [] [])).ins 0 0) e)

-- ---- a mixer's gains stand by output
gains_by_output : bounds mixing 3 ≡ bound (2147483648 ∷ 2147483648 ∷ []) (2147483648 ∷ 6442450944 ∷ 1073741824 ∷ [])
unfolding bounds_within
gains_by_output = refl

-- ---- gains of 16 in a row
fourth_gain : IsTooLoud (row loud) (told 6 Out 0 140737488355328)
unfolding bounds_within
fourth_gain = too_loud_by (row loud) row_order 4 (told 6 Out 0 140737488355328) refl (omega arith) refl refl
    (below_by (8796093022208 ∷ []) refl, record { channel = omega arith; earlier = λ d lt. absurd (omega arith); above = omega arith; bound = refl })

not_the_third : IsTooLoud (row loud) (told 5 Out 0 8796093022208) → ⊥
not_the_third is = other_number 6 5 refl (ap (λ (t : TooLoud). t.uid.0) (too_loud_is_unique (row loud) (told 6 Out 0 140737488355328) (told 5 Out 0 8796093022208) fourth_gain is))

not_what_it_leads_to : IsTooLoud (row loud) (told 2 In 0 140737488355328) → ⊥
not_what_it_leads_to is = other_number 6 2 refl (ap (λ (t : TooLoud). t.uid.0) (too_loud_is_unique (row loud) (told 6 Out 0 140737488355328) (told 2 In 0 140737488355328) fourth_gain is))

three_gains : AllBounded (row same)
unfolding bounds_within
three_gains = all_bounded_by (row same) refl

none_too_loud : (t : TooLoud) → IsTooLoud (row same) t → ⊥
none_too_loud t is = too_loud_refutes (row same) t is three_gains

-- ---- a bound of 2 ^ 43 times 2 ^ 24 - 1 is told as the greatest number of 64 bits
beyond : IsTooLoud (row great) (told 6 Out 0 18446744073709551615)
unfolding bounds_within
beyond = too_loud_by (row great) row_order 4 (told 6 Out 0 18446744073709551615) refl (omega arith) refl refl
    (below_by (8796093022208 ∷ []) refl, record { channel = omega arith; earlier = λ d lt. absurd (omega arith); above = omega arith; bound = refl })

-- ---- idle nodes count, and the order goes by names
least_name : IsTooLoud idle (told 4 Out 0 36028794871480320)
unfolding bounds_within
least_name = too_loud_by idle (1 ∷ 2 ∷ 4 ∷ 9 ∷ []) 2 (told 4 Out 0 36028794871480320) refl (omega arith) refl refl
    (below_by (2147483648 ∷ []) refl, record { channel = omega arith; earlier = λ d lt. absurd (omega arith); above = omega arith; bound = refl })

not_first_in_the_list : IsTooLoud idle (told 9 Out 0 36028794871480320) → ⊥
not_first_in_the_list is = other_number 4 9 refl (ap (λ (t : TooLoud). t.uid.0) (too_loud_is_unique idle (told 4 Out 0 36028794871480320) (told 9 Out 0 36028794871480320) least_name is))
