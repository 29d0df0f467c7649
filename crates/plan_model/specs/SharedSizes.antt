-- What an engine asks of a certified plan of shared lines: how large its numbers can be, and which buffer a value has.
use Rattle.std.specs.Prelude.{◌≡◌, ℕ, ◌<◌, ◌≤◌, ◌⊎◌, ◌^◌, Some}
use Rattle.std.specs.List.{All}
use Rattle.graph_model.specs.Answers.{delay}
use Rattle.graph_model.specs.Paths.{live_connections}
use Rattle.graph_model.specs.Sound.{IsSound}
use Rattle.graph_model.specs.declared.graph.Graph.{Graph}
use Rattle.plan_model.specs.Alignments.{position_in}
use Rattle.plan_model.specs.Buffers.{MayShare}
use Rattle.plan_model.specs.Homes.{buffer_of}
use Rattle.plan_model.specs.Lives.{Port, source}
use Rattle.plan_model.specs.SharedCertified.{IsCertified2}
use Rattle.plan_model.specs.SharedLines.{length_in}
use Rattle.plan_model.specs.SharedLives.{shared_life_of}
use Rattle.plan_model.specs.declared.shared.Plan2.{Plan2}

-- no line is longer than the latency of a sound graph can be
abbrev pub LinesAreShort : Type 0
LinesAreShort = (g : Graph) (plan : Plan2) → IsSound g → IsCertified2 g plan → All (λ l. l.delay ≤ 2 ^ 26) plan.lines

-- each is long enough for every live connection that reads the value
abbrev pub LinesAreLongEnough : Type 0
LinesAreLongEnough = (g : Graph) (plan : Plan2) → IsCertified2 g plan →
    All (λ c. delay g (position_in plan.at) c ≤ length_in plan.lines (source c)) (live_connections g)

-- there are no more channels than connections can be
abbrev pub SharedChannelsAreFew : Type 0
SharedChannelsAreFew = (g : Graph) (plan : Plan2) → IsSound g → IsCertified2 g plan → plan.channels ≤ 8192

-- each live connection reads a channel that has a buffer of the pool
abbrev pub SharedHaveBuffers : Type 0
SharedHaveBuffers = (g : Graph) (plan : Plan2) → IsCertified2 g plan →
    All (λ c. (b : ℕ) × (buffer_of plan.homes c.src.0 c.src_channel ≡ Some b) × (b < plan.channels)) (live_connections g)

-- and two channels with one buffer are the same, or their values may share it
abbrev pub SharedBuffersAreApart : Type 0
SharedBuffersAreApart = (g : Graph) (plan : Plan2) (x y : Port) (b : ℕ) → IsCertified2 g plan →
    buffer_of plan.homes x.uid.0 x.channel ≡ Some b → buffer_of plan.homes y.uid.0 y.channel ≡ Some b →
    (x ≡ y) ⊎ MayShare (shared_life_of g plan.waves plan.lines x) (shared_life_of g plan.waves plan.lines y)
