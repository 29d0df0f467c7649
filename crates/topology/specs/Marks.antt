-- Marks that spread backwards.
use Rattle.std.specs.Prelude.{ℕ, ◌≡◌, ◌<◌, List, length, Bool, true, false, slice_set}
use Rattle.graph_model.specs.Paths.{IsLive}
use Rattle.graph_model.specs.declared.graph.Graph.{Graph}
use Rattle.topology.specs.declared.ends.Link.{Link}
use Rattle.graph_model.specs.Named.{uid_at}
use Rattle.topology.specs.Links.{source, target}
use Rattle.topology.specs.Blocks.{is_taken}

-- all marked nodes are live
abbrev pub AllLive : Graph → List Bool → Type 0
AllLive g marks = (v : ℕ) → is_taken marks v ≡ true → IsLive g (uid_at g v)

-- no link leads from a node without a mark to a marked one, among the first m
abbrev pub SpreadUpTo : List Link → List Bool → ℕ → Type 0
SpreadUpTo ls marks m = (e : ℕ) → e < m → is_taken marks (target ls e) ≡ true → is_taken marks (source ls e) ≡ true

abbrev pub IsSpread : List Link → List Bool → Type 0
IsSpread ls marks = SpreadUpTo ls marks (length ls)

abbrev pub KeepsMarks : List Bool → List Bool → Type 0
KeepsMarks old new = (v : ℕ) → is_taken old v ≡ true → is_taken new v ≡ true

-- along one link: the source is marked anew, or all stays as it is and the link leads from no node without a mark to
-- a marked one
abbrev pub SpreadsAlong : Link → List Bool → List Bool → Bool → Type 0
SpreadsAlong l old new true = (is_taken old l.to ≡ true) × (is_taken old l.from ≡ false) × (new ≡ slice_set old l.from true)
SpreadsAlong l old new false = (new ≡ old) × (is_taken old l.to ≡ true → is_taken old l.from ≡ true)
