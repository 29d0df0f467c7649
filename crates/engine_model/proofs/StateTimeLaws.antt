-- The state where the first frames of a stream have come in, by time.
use Rattle.std.proofs.Common.{◌≡◌, ℕ, ◌+◌, ◌≤◌, List, [], ◌∷◌, length, map, ℤ, refl, sym, ap, ◌∙◌, cond, true, false, Some, ◌==◌}
use Rattle.std.specs.List.{AllByRecursion}
use Rattle.std.proofs.lemmas.Bool.{eqb-true}
use Rattle.std.proofs.lemmas.List.Elements.{recursion_from_All}
use Rattle.graph_model.specs.Histories.{Frame, channel, before, window}
use Rattle.graph_model.specs.Positions.{IsLaterBy}
use Rattle.graph_model.specs.Graphs.{IsRanked, IsNode, node_named, is_input, connections_into, latency_at}
use Rattle.graph_model.specs.Paths.{reach, is_live}
use Rattle.graph_model.specs.Answers.{delay}
use Rattle.graph_model.specs.Streams.{in_at, out_at}
use Rattle.graph_model.specs.declared.graph.Node.{Node}
use Rattle.graph_model.specs.declared.graph.Connection.{Connection}
use Rattle.graph_model.specs.declared.graph.Graph.{Graph}
use Rattle.graph_model.proofs.HistoryLaws.{filter_all}
use Rattle.graph_model.proofs.PositionLaws.{in-later, out-later}
use Rattle.graph_model.proofs.StreamTimeLaws.{incoming_is, outgoing_is}
use Rattle.engine_model.specs.Machines.{windows_on}
use Rattle.engine_model.specs.States.{came_at, kept_at}
use Rattle.engine_model.specs.Engines.{came_in, gone_out, gone_into}
use Rattle.engine_model.specs.Events.{came_of}

pub map_all : {X Y : Type 0} (f h : X → Y) (xs : List X) → AllByRecursion (λ x. f x ≡ h x) xs → map f xs ≡ map h xs
map_all f h [] e = refl
map_all f h (x ∷ xs) e = let first = e.0 in let rest : map f xs ≡ map h xs = map_all f h xs e.1 in cc

module _ (g : Graph) (p rank : ℕ → ℕ) (ranked : IsRanked rank g) (l : IsLaterBy g (is_live g) (reach g) p) where
  pub came_by_time : (x : ℕ → Frame) (T v : ℕ) → is_live g v ≡ true → came_in g p (before x T) v ≡ before (in_at g p x v) T
  came_by_time x T v on = sym (in-later g (is_live g) (reach g) p l (before x T) v on) ∙ incoming_is g p x v T

  gone_by_time : (x : ℕ → Frame) (T u : ℕ) → is_live g u ≡ true → IsNode g u → gone_out g p (before x T) u ≡ before (out_at g p x u) T
  gone_by_time x T u on is = sym (out-later g (is_live g) (reach g) p l (before x T) (length g.nodes) u on) ∙ outgoing_is g p rank x u T ranked is

  -- the lines into a live node
  pub lines_by_time : (x : ℕ → Frame) (T v : ℕ) → is_live g v ≡ true
      → map (gone_into g p (before x T)) (connections_into g v)
      ≡ map (λ c. channel c.src_channel (before (out_at g p x c.src.0) T)) (connections_into g v)
  lines_by_time x T v on =
      map_all _ _ (connections_into g v)
      (filter_all (λ c. c.dst.0 == v)
      (λ c. (IsNode g c.src.0 × IsNode g c.dst.0) × (is_live g c.dst.0 ≡ true → (is_live g c.src.0 ≡ true) × (reach g c.src.0 + latency_at g c.src.0 ≤ reach g c.dst.0) × (p c.src.0 + latency_at g c.src.0 ≤ p c.dst.0)))
      (λ c. gone_into g p (before x T) c ≡ channel c.src_channel (before (out_at g p x c.src.0) T))
      g.connections (recursion_from_All _ g.connections (λ k d lt. (ranked.nodes k d lt, l.after k d lt)))
      (λ c e facts.
      let at : c.dst.0 ≡ v = eqb-true _ _ e in
      let live = (facts.1 (ap (is_live g) at ∙ on)).0 in
      ap (λ h. channel c.src_channel h) (gone_by_time x T c.src.0 live facts.0.0)))

  -- the state where x's first T frames have come in, by time
  pub state_by_time : (x : ℕ → Frame) (T v : ℕ) (n : Node) → node_named g v ≡ Some n → is_live g v ≡ true
      → record { came = came_of g p (before x T) (node_named g v) v; passed = map (gone_into g p (before x T)) (connections_into g v) } ≡ kept_at g p x T v
  state_by_time x T v n named live =
      let lines = lines_by_time x T v live in
      let came : came_of g p (before x T) (node_named g v) v ≡ before (came_at g p x (node_named g v) v) T =
      ap (λ o. came_of g p (before x T) o v) named ∙ by_kind ∙ ap (λ o. before (came_at g p x o v) T) (sym named) in
      λ i. record { came = came i; passed = lines i }
    where
      by_kind : came_of g p (before x T) (Some n) v ≡ before (came_at g p x (Some n) v) T
      by_kind = elim (is_input n.kind) as (λ b. cond b (before x T) (came_in g p (before x T) v) ≡ before (λ t. cond b (x t) (in_at g p x v t)) T)
          [ true ↦ refl | false ↦ came_by_time x T v live ]

-- windows on what went into the lines of the connections
pub windows_are : (g : Graph) (p : ℕ → ℕ) (f : Connection → List ℤ) (cs : List Connection) → windows_on (map (λ c. delay g p c) cs) (map f cs) ≡ map (λ c. window (delay g p c) (f c)) cs
windows_are g p f [] = refl
windows_are g p f (c ∷ cs) = ap (λ ws. window (delay g p c) (f c) ∷ ws) (windows_are g p f cs)
