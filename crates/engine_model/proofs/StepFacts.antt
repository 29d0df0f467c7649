-- The sums that a node takes, over all connections into it.
use Rattle.std.proofs.Common.{◌≡◌, ℕ, List, [], ◌∷◌, map, ℤ, pos, refl, sym, ◌∙◌, Bool, true, false, cond, ◌==◌, ◌&&◌}
use Rattle.std.specs.Prelude.{◌+ℤ◌}
use Rattle.std.specs.List.{range_with_len, filter}
use lib.IntN.{+ℤ_idl}
use Rattle.graph_model.specs.Histories.{Frame}
use Rattle.graph_model.specs.Graphs.{ins_at, connections_to, connections_into}
use Rattle.graph_model.specs.Answers.{sum_of}
use Rattle.graph_model.specs.Streams.{in_at, out_at, tap}
use Rattle.graph_model.specs.declared.graph.Connection.{Connection}
use Rattle.graph_model.specs.declared.graph.Graph.{Graph}
use Rattle.graph_model.proofs.StreamTimeLaws.{sums_are}
use Rattle.engine_model.specs.Machines.{sum_on}

left : (f : Connection → ℤ) (c : Connection) (kept : List Connection) (r : ℤ) (a b : Bool) → sum_of f kept ≡ r
    → sum_of f (cond (a && b) (c ∷ kept) kept) ≡ cond a (cond b (f c) (pos 0) +ℤ r) r
left f c kept r true true e = λ i. f c +ℤ e i
left f c kept r true false e = e ∙ sym (+ℤ_idl r)
left f c kept r false b e = e

right : (f : Connection → ℤ) (d : ℕ) (c : Connection) (into : List Connection) (a : Bool)
    → sum_on d (map (λ e. e.dst_channel) (cond a (c ∷ into) into)) (map f (cond a (c ∷ into) into))
    ≡ cond a (cond (c.dst_channel == d) (f c) (pos 0) +ℤ sum_on d (map (λ e. e.dst_channel) into) (map f into)) (sum_on d (map (λ e. e.dst_channel) into) (map f into))
right f d c into true = refl
right f d c into false = refl

sum_over : (f : Connection → ℤ) (v d : ℕ) (cs : List Connection)
    → sum_of f (filter (λ c. (c.dst.0 == v) && (c.dst_channel == d)) cs)
    ≡ sum_on d (map (λ c. c.dst_channel) (filter (λ c. c.dst.0 == v) cs)) (map f (filter (λ c. c.dst.0 == v) cs))
sum_over f v d [] = refl
sum_over f v d (c ∷ cs) =
    left f c (filter (λ e. (e.dst.0 == v) && (e.dst_channel == d)) cs) _ (c.dst.0 == v) (c.dst_channel == d) (sum_over f v d cs)
    ∙ sym (right f d c (filter (λ e. e.dst.0 == v) cs) (c.dst.0 == v))

pub sums_over : (g : Graph) (f : Connection → ℤ) (v d : ℕ)
    → sum_of f (connections_to g v d) ≡ sum_on d (map (λ c. c.dst_channel) (connections_into g v)) (map f (connections_into g v))
sums_over g f v d = sum_over f v d g.connections

map_same : {X : Type 0} (f h : ℕ → X) (ns : List ℕ) → ((d : ℕ) → f d ≡ h d) → map f ns ≡ map h ns
map_same f h ns e = λ i. map (λ d. e d i) ns

-- the sums of what came out of the lines are the next frame of the node
pub sums_step : (g : Graph) (p : ℕ → ℕ) (x : ℕ → Frame) (T v : ℕ)
    → map (λ d. sum_on d (map (λ c. c.dst_channel) (connections_into g v)) (map (λ c. tap g p (out_at g p x) c T) (connections_into g v))) (range_with_len 0 (ins_at g v)) ≡ in_at g p x v T
sums_step g p x T v =
    sym (sums_are g p x v T ∙ map_same _ _ (range_with_len 0 (ins_at g v)) (λ d. sums_over g (λ c. tap g p (out_at g p x) c T) v d))
