-- Edges of which some have a limit: how much may still pass there.
use Rattle.std.specs.Prelude.{ℕ, zero, suc, ◌-◌, ◌==◌, pos, List, [], ◌∷◌, length, if◌then◌else◌}
use Rattle.shortest_paths.specs.declared.edges.Edge.{Edge}

-- An edge of limit 0 leads nowhere: in its place stands a loop at its tail that costs nothing.
abbrev pub loop_at : Edge → Edge
loop_at e = record { tail = e.tail; head = e.tail; cost = pos 0 }

abbrev pub limited : ℕ → Edge → Edge
limited limit e = if limit == 0 then loop_at e else e

-- The first n edges have no limit, and the others have these.
abbrev pub usable_after : ℕ → List Edge → List ℕ → List Edge
usable_after n [] limits = []
usable_after (suc n) (e ∷ edges) limits = e ∷ usable_after n edges limits
usable_after zero (e ∷ edges) [] = e ∷ edges
usable_after zero (e ∷ edges) (limit ∷ limits) = limited limit e ∷ usable_after zero edges limits

-- The limits are those of the last edges.
abbrev pub usable : List Edge → List ℕ → List Edge
usable edges limits = usable_after (length edges - length limits) edges limits
