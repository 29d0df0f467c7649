-- Files in memory, with a room for each name, and bytes in memory.
use Rattle.std.specs.Prelude.{◌≡◌, ℕ, ◌+◌, ◌<◌, ◌≤◌, Bool, List, length, find, Option, Some, None}
use Rattle.std.specs.Str.{bytes_eq}
use Rattle.gh_outside.specs.Holdings.{Holding}

-- A name with its room, and with its bytes where it is held.
pub record StoredFile : Type 0 where
  pub name : List ℕ
  pub held : Option (List ℕ)
  pub room : ℕ

-- Files in memory, the numbers of the calls that are to fail, and the number of the next call.
pub record MemoryFiles : Type 0 where
  pub files : List StoredFile
  pub fails : List ℕ
  pub calls : ℕ
  pub read_faults : ℕ
  pub write_faults : ℕ

-- Bytes in a room, the numbers of the calls that are to fail, and the number of the next call.
pub record MemoryBytes : Type 0 where
  pub bytes : List ℕ
  pub room : ℕ
  pub fails : List ℕ
  pub calls : ℕ
  pub faults : ℕ

abbrev pub is_named : List ℕ → StoredFile → Bool
is_named name f = bytes_eq f.name name

abbrev pub stored : List StoredFile → List ℕ → Option StoredFile
stored files name = find (is_named name) files

abbrev pub held_by : Option StoredFile → Option (List ℕ)
held_by None = None
held_by (Some f) = f.held

abbrev pub room_by : Option StoredFile → Option ℕ
room_by None = None
room_by (Some f) = Some f.room

-- The bytes of each name that is held.
abbrev pub holding : List StoredFile → Holding
holding files name = held_by (stored files name)

-- The room of each name that has one.
abbrev pub room_of : List StoredFile → List ℕ → Option ℕ
room_of files name = room_by (stored files name)

-- What a folder in memory tells that it holds.
abbrev pub told : List StoredFile → Option Holding
told files = Some (holding files)

-- The name is held, and its room has a place for exactly so many bytes more.
abbrev pub HasFree : List StoredFile → List ℕ → ℕ → Type 0
HasFree files name free = (held : List ℕ) × (holding files name ≡ Some held) × (room_of files name ≡ Some (length held + free))

-- The name is held, and its room has a place for so many bytes more.
abbrev pub FitsRoom : List StoredFile → List ℕ → ℕ → Type 0
FitsRoom files name more =
    (held : List ℕ) × (room : ℕ) × (holding files name ≡ Some held) × (room_of files name ≡ Some room) × (length held + more ≤ room)

-- The name is held, and so many bytes more pass its room.
abbrev pub PassesRoom : List StoredFile → List ℕ → ℕ → Type 0
PassesRoom files name more =
    (held : List ℕ) × (room : ℕ) × (holding files name ≡ Some held) × (room_of files name ≡ Some room) × (room < length held + more)

-- Each name has the room that it had.
abbrev pub KeepsRooms : List StoredFile → List StoredFile → Type 0
KeepsRooms old new = (other : List ℕ) → room_of new other ≡ room_of old other
