-- Which buffer a value has.
use Rattle.std.specs.Prelude.{◌≡◌, ℕ, ◌<◌, ◌==◌, ◌&&◌, ◌⊎◌, Bool, List, Option, Some, None}
use Rattle.std.specs.List.{All, find}
use Rattle.graph_model.specs.Paths.{live_connections}
use Rattle.graph_model.specs.declared.graph.Graph.{Graph}
use Rattle.plan_model.specs.Lives.{Port, life_of}
use Rattle.plan_model.specs.Buffers.{MayShare}
use Rattle.plan_model.specs.Certified.{IsCertified}
use Rattle.plan_model.specs.declared.buffers.Home.{Home}
use Rattle.plan_model.specs.declared.plan.Plan.{Plan}

abbrev pub is_home_of : ℕ → ℕ → Home → Bool
is_home_of uid channel h = (h.uid.0 == uid) && (h.channel == channel)

abbrev pub buffer_at : Option Home → Option ℕ
buffer_at None = None
buffer_at (Some h) = Some h.buffer

-- the buffer of an output channel of a node, where it has one
abbrev pub buffer_of : List Home → ℕ → ℕ → Option ℕ
buffer_of homes uid channel = buffer_at (find (is_home_of uid channel) homes)

-- in a certified plan each live connection reads a channel that has a buffer of the pool
abbrev pub HaveBuffers : Type 0
HaveBuffers = (g : Graph) (plan : Plan) → IsCertified g plan →
    All (λ c. (b : ℕ) × (buffer_of plan.homes c.src.0 c.src_channel ≡ Some b) × (b < plan.channels)) (live_connections g)

-- and two channels with one buffer are the same, or their values may share it
abbrev pub BuffersAreApart : Type 0
BuffersAreApart = (g : Graph) (plan : Plan) (x y : Port) (b : ℕ) → IsCertified g plan →
    buffer_of plan.homes x.uid.0 x.channel ≡ Some b → buffer_of plan.homes y.uid.0 y.channel ≡ Some b →
    (x ≡ y) ⊎ MayShare (life_of g plan.waves x.uid x.channel) (life_of g plan.waves y.uid y.channel)
