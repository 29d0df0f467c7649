-- What is proved of the definitions.
use Rattle.std.specs.Prelude.{◌≡◌, ℕ, ◌^◌, ◌≤◌, length}
use Rattle.graph_model.specs.Graphs.{in_channels, out_channels}
use Rattle.graph_model.specs.Bounds.{AreUpTo}
use Rattle.graph_model.specs.Sound.{IsSound}
use Rattle.graph_gen.specs.Draws.{samples_drawn}
use Rattle.graph_gen.specs.Generated.{generated}

-- every graph of 3 to 512 nodes is sound
abbrev pub GeneratedIsSound : Type 0
GeneratedIsSound = (seed nodes : ℕ) → 3 ≤ nodes → nodes ≤ 512 → IsSound (generated seed nodes)

-- it has as many nodes, and takes and gives two channels
abbrev pub GeneratedIsAsWanted : Type 0
GeneratedIsAsWanted = (seed nodes : ℕ) → 2 ≤ nodes →
    (length (generated seed nodes).nodes ≡ nodes) × (in_channels (generated seed nodes) ≡ 2) × (out_channels (generated seed nodes) ≡ 2)

-- there are as many samples, and each fits the input of a graph
abbrev pub SamplesAreInput : Type 0
SamplesAreInput = (seed n : ℕ) → (length (samples_drawn seed n) ≡ n) × AreUpTo (2 ^ 31) (samples_drawn seed n)
