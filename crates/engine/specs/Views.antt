-- An engine as contracts see it.
use Rattle.std.specs.Prelude.{ℕ, ℤ, List, [], map, reverse}
use Rattle.graph_model.specs.Kept.{Kept as KernelKept}
use Rattle.graph_model.specs.declared.graph.Graph.{Graph}
use Rattle.plan_model.specs.declared.plan.Plan.{Plan}
use Rattle.pool_waves.specs.declared.job.Job.{Job}
use Rattle.engine_model.specs.Engines.{Job as Seen, Parts}
use Rattle.players.specs.declared.playing.Player.{Player}
use Rattle.players.specs.declared.playing.Server.{Server}
use Rattle.players.specs.declared.playing.Server.TheVariants.{Exit, Between}

-- what the kernel of a node between the ends keeps
abbrev pub kernel_of : Server → KernelKept
kernel_of (Between p) = p.kept
kernel_of server = record { ins = []; outs = []; scales = []; lowests = [] }

-- a job: its lines with the newest sample first
abbrev pub seen : Job Player → Seen
seen j = record { node = j.node; kernel = kernel_of j.part.server; lines = map reverse j.part.lines.items }

abbrev pub parts_of : Graph → Plan → ℕ → ℕ → List (Job Player) → List (List ℤ) → Parts
parts_of graph plan block frames jobs pool =
    record { graph = graph; plan = plan; block = block; frames = frames; jobs = map seen jobs; pool = pool }

-- from here on the exit counts frames
abbrev pub from_now : ℕ → Server → Server
from_now frames (Exit e) = Exit (record { lines = e.lines; start = frames; spare = e.spare })
from_now frames server = server

abbrev pub began : ℕ → Job Player → Job Player
began frames j = record {
  node = j.node;
  index = j.index;
  desk = j.desk;
  part = record {
    wires = j.part.wires;
    lines = j.part.lines;
    silent = j.part.silent;
    server = from_now frames j.part.server;
    ins = j.part.ins;
    outs = j.part.outs;
    sums = j.part.sums;
    told = j.part.told;
    spare = j.part.spare;
  };
}
