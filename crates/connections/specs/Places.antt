-- The places of connections, kept in a map by their ends and channels.
use Rattle.std.specs.Prelude.{◌≡◌, ℕ, ◌<◌, ◌==◌, ◌&&◌, Bool, if◌then◌else◌, List, take, slice_get, Option, Some, MatchOption}
use Rattle.std.specs.List.{Contains}
use Rattle.std.specs.HashMap.{HashMap, get}
use Rattle.graph_model.specs.declared.graph.Connection.{Connection}
use Rattle.connections.specs.declared.joints.Joint.{Joint}

abbrev pub joint : Connection → Joint
joint c = record { source = c.src.0; source_channel = c.src_channel; destination = c.dst.0; destination_channel = c.dst_channel }

abbrev pub same_joint : Joint → Joint → Bool
same_joint x y =
    (x.source == y.source)
    && ((x.source_channel == y.source_channel)
    && ((x.destination == y.destination) && (x.destination_channel == y.destination_channel)))

-- what is kept of a connection
abbrev pub place_in : {S : Type 0} → HashMap Joint ℕ S → Connection → Option ℕ
place_in m c = get same_joint m (joint c)

-- the connection has a place more in n than in m
abbrev pub HasPlace : {S : Type 0} → HashMap Joint ℕ S → HashMap Joint ℕ S → Connection → ℕ → Type 0
HasPlace m n connection at = (c : Connection) → place_in n c ≡ (if same_joint (joint connection) (joint c) then Some at else place_in m c)

-- a place of each of the first k connections, and of no other
abbrev pub ArePlaces : {S : Type 0} → List Connection → ℕ → HashMap Joint ℕ S → Type 0
ArePlaces cs k m = (c : Connection) → MatchOption (place_in m c) (¬ (Contains (take k cs) c)) (λ i. (i < k) × (slice_get cs i ≡ Some c))
