-- What is made for a node: the wires and the lines of the connections into it.
use Rattle.std.specs.Prelude.{◌≡◌, ℕ, ◌<◌, ◌==◌, ℤ, pos, List, length, map, replicate, slice_index_or}
use Rattle.std.specs.List.{filter}
use Rattle.graph_model.specs.Answers.{delay}
use Rattle.graph_model.specs.declared.graph.Connection.{Connection}
use Rattle.graph_model.specs.declared.graph.Graph.{Graph}
use Rattle.plan_model.specs.declared.buffers.Home.{Home as PlanHome}
use Rattle.engine_model.specs.Machines.{buffer_for}
use Rattle.pool_waves.specs.declared.job.Home.{Home}
use Rattle.players.specs.declared.gathering.Wire.{Wire}
use Rattle.players.specs.Reads.{KnowFirst, channels_of}
use Rattle.plan_jobs.specs.Jobs.{IsOwnRight}

-- of these connections those into the node, each with its channel and its buffer, and which of the node's own values it
-- reads
pub record AreWiresOf (cs : List Connection) (homes : List PlanHome) (own : List Home) (v : ℕ) (ws : List Wire) : Type 0 where
  pub buffers : map (λ w. w.buffer) ws ≡ map (λ c. buffer_for homes c) (filter (λ c. c.dst.0 == v) cs)
  pub channels : channels_of ws ≡ map (λ c. c.dst_channel) (filter (λ c. c.dst.0 == v) cs)
  pub right : (i : ℕ) (d : Wire) → i < length ws → IsOwnRight own (slice_index_or ws i d).buffer (slice_index_or ws i d).own
  pub first : KnowFirst ws

-- a line of zeros for each of them, as long as its delay
abbrev pub AreLinesOf : Graph → (ℕ → ℕ) → List Connection → ℕ → List (List ℤ) → Type 0
AreLinesOf g p cs v ls = ls ≡ map (λ c. replicate (delay g p c) (pos 0)) (filter (λ c. c.dst.0 == v) cs)
