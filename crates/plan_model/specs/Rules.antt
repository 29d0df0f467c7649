-- The rules of certified plans, by the parts that each version of the plan has.
use Rattle.std.specs.Prelude.{◌≡◌, ◌≢◌, ℕ, ◌<◌, ◌≤◌, ◌-◌, List, ◌∷◌, length, map, take, sum_by, reverse}
use Rattle.std.specs.List.{All, Contains}
use Rattle.std.specs.List.Sorted.{IsStrictlyIncreasing}
use Rattle.graph_model.specs.Graphs.{latency_at, input_name, output_name}
use Rattle.graph_model.specs.Paths.{IsPathTo, IsLive, live_connections}
use Rattle.graph_model.specs.declared.graph.Uid.{Uid}
use Rattle.graph_model.specs.declared.graph.Graph.{Graph}
use Rattle.plan_model.specs.Alignments.{IsAfter, IsAlignment, IsLeastBy, position_in}
use Rattle.plan_model.specs.Schedules.{IsSchedule}
use Rattle.plan_model.specs.Lives.{AreValues, ports_of}
use Rattle.plan_model.specs.Buffers.{IsAssignment, IsLeastChannels, need_of_wave}
use Rattle.plan_model.specs.declared.alignment.At.{At as Position}
use Rattle.plan_model.specs.declared.buffers.Home.{Home}
use Rattle.plan_model.specs.declared.buffers.Life.{Life}
use Rattle.plan_model.specs.declared.schedule.Wave.{Wave}
use Rattle.plan_model.specs.declared.rule.Rule.{Rule}
use Rattle.plan_model.specs.declared.rule.Rule.TheVariants.{At, Input, Alignment, Latency, Lines, Total, Path, Longest, Arcs, Need, Bound, Least, Waves, Homes, Channels, Peak}

-- the names are exactly the live nodes, ascending
pub record AreLiveNodes (g : Graph) (vs : List ℕ) : Type 0 where
  pub ascending : IsStrictlyIncreasing vs
  pub each : All (IsLive g) vs
  pub all : (v : ℕ) → IsLive g v → Contains vs v

-- a path into the output node, from its first node on
abbrev pub IsPathOut : Graph → List Uid → Type 0
IsPathOut g path = (us : List ℕ) × IsPathTo g (output_name g) us × (map (λ u. u.0) path ≡ reverse (output_name g ∷ us))

-- the latencies of its nodes without the last
abbrev pub path_latency : Graph → List Uid → ℕ
path_latency g path = sum_by (λ u. latency_at g u.0) (take (length path - 1) path)

-- the first wave that needs this many channels
pub record IsPeak (lives : List Life) (waves channels peak : ℕ) : Type 0 where
  pub wave : peak < waves
  pub full : need_of_wave lives peak ≡ channels
  pub first : (s : ℕ) → s < peak → need_of_wave lives s ≢ channels

-- what the rules speak of: the plan's own parts, the sum of its lines, and the lives of its values
pub record Parts : Type 0 where
  pub latency : ℕ
  pub path : List Uid
  pub at : List Position
  pub sum : ℕ
  pub total : ℕ
  pub bound : ℕ
  pub waves : List Wave
  pub homes : List Home
  pub lives : List Life
  pub channels : ℕ
  pub peak : ℕ

-- what each rule asks for; four of them each version has of its own
abbrev pub HoldsBy : Graph → Parts → Type 0 → Type 0 → Type 0 → Type 0 → Rule → Type 0
HoldsBy g parts lines arcs need bound At = AreLiveNodes g (map (λ a. a.uid.0) parts.at)
HoldsBy g parts lines arcs need bound Input = IsLive g (input_name g) → position_in parts.at (input_name g) ≡ 0
HoldsBy g parts lines arcs need bound Alignment = All (IsAfter g (position_in parts.at)) (live_connections g)
HoldsBy g parts lines arcs need bound Latency = position_in parts.at (output_name g) ≡ parts.latency
HoldsBy g parts lines arcs need bound Lines = lines
HoldsBy g parts lines arcs need bound Total = parts.sum ≡ parts.total
HoldsBy g parts lines arcs need bound Path = IsPathOut g parts.path
HoldsBy g parts lines arcs need bound Longest = path_latency g parts.path ≡ parts.latency
HoldsBy g parts lines arcs need bound Arcs = arcs
HoldsBy g parts lines arcs need bound Need = need
HoldsBy g parts lines arcs need bound Bound = bound
HoldsBy g parts lines arcs need bound Least = parts.total ≡ parts.bound
HoldsBy g parts lines arcs need bound Waves = IsSchedule g parts.waves
HoldsBy g parts lines arcs need bound Homes = AreValues g (ports_of parts.homes)
HoldsBy g parts lines arcs need bound Channels = IsAssignment parts.lives parts.homes parts.channels
HoldsBy g parts lines arcs need bound Peak = IsPeak parts.lives (length parts.waves) parts.channels parts.peak

-- the order of the rules
abbrev pub number : Rule → ℕ
number At = 0
number Input = 1
number Alignment = 2
number Latency = 3
number Lines = 4
number Total = 5
number Path = 6
number Longest = 7
number Arcs = 8
number Need = 9
number Bound = 10
number Least = 11
number Waves = 12
number Homes = 13
number Channels = 14
number Peak = 15

-- all of them hold; and the first that fails
abbrev pub AllHold : (Rule → Type 0) → Type 0
AllHold H = (rule : Rule) → H rule

pub record IsFirstNot (H : Rule → Type 0) (rule : Rule) : Type 0 where
  pub before : (r : Rule) → number r < number rule → H r
  pub fails : H rule → ⊥

-- what the parts say holds, and latency, total and channels are the least, where alignments cost by `cost`
pub record IsOptimalBy (cost : (ℕ → ℕ) → ℕ) (g : Graph) (parts : Parts) : Type 0 where
  pub alignment : IsAlignment g (position_in parts.at)
  pub latency : position_in parts.at (output_name g) ≡ parts.latency
  pub least_latency : (q : ℕ → ℕ) → IsAlignment g q → parts.latency ≤ q (output_name g)
  pub total : cost (position_in parts.at) ≡ parts.total
  pub least_total : IsLeastBy cost g (position_in parts.at)
  pub values : AreValues g (ports_of parts.homes)
  pub assignment : IsAssignment parts.lives parts.homes parts.channels
  pub least_channels : IsLeastChannels parts.lives parts.channels
