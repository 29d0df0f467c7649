-- What an evaluation of a graph finds.
use Rattle.std.specs.Prelude.{◌≡◌, ℕ, true, List, [], ◌*◌, ◌^◌, ◌<◌, length, get_or, ℤ}
use Rattle.std.specs.List.{All}
use Rattle.graph_model.specs.Answers.{incoming, outgoing}
use Rattle.graph_model.specs.Graphs.{in_channels}
use Rattle.graph_model.specs.Histories.{History, frames_of, interleaved}
use Rattle.graph_model.specs.Paths.{is_live}
use Rattle.graph_model.specs.Sound.{IsSound}
use Rattle.graph_model.specs.Named.{uid_at}
use Rattle.renderer.specs.Positions.{position_at}
use Rattle.renderer.specs.Routes.{AreRoutes}
use Rattle.graph_model.specs.Bounds.{AreUpTo}
use Rattle.renderer.specs.declared.evaluation.Evaluation.{Evaluation}

-- the history of the input
abbrev pub input_of : Evaluation → History
input_of e = frames_of (in_channels e.graph.now) e.input.now

-- where the nodes stand
abbrev pub positions_of : Evaluation → ℕ → ℕ
positions_of e = position_at e.graph.now e.positions.now

-- the samples that go out of node i, and that come into it, interleaved
abbrev pub outgoing_at : Evaluation → ℕ → List ℤ
outgoing_at e i = interleaved (outgoing e.graph.now (positions_of e) (input_of e) (uid_at e.graph.now i))

abbrev pub incoming_at : Evaluation → ℕ → List ℤ
incoming_at e i = interleaved (incoming e.graph.now (positions_of e) (input_of e) (uid_at e.graph.now i))

-- whole frames of small samples, and the routes of a sound graph's live connections
pub record IsEvaluation (e : Evaluation) : Type 0 where
  pub sound : IsSound e.graph.now
  pub routes : AreRoutes e.graph.now (positions_of e) e.routes.items
  pub whole : length e.input.now ≡ e.frames * in_channels e.graph.now
  pub small : AreUpTo (2 ^ 31) e.input.now

-- the streams have what goes out of node i
abbrev pub HasStream : Evaluation → List (List ℤ) → ℕ → Type 0
HasStream e streams i = get_or streams i [] ≡ outgoing_at e i

-- of every source of node i, over the routes
abbrev pub HasSources : Evaluation → List (List ℤ) → ℕ → Type 0
HasSources e streams i = All (λ r. r.dst ≡ i → HasStream e streams r.src) e.routes.items

-- of every live node
pub record HasAll (e : Evaluation) (streams : List (List ℤ)) : Type 0 where
  pub count : length streams ≡ length e.graph.now.nodes
  pub each : (i : ℕ) → i < length e.graph.now.nodes → is_live e.graph.now (uid_at e.graph.now i) ≡ true → HasStream e streams i
