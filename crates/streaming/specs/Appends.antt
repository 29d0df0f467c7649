-- Bytes that are put at the end of a file.
use Rattle.std.specs.Prelude.{◌≡◌, ℕ, List, ◌++◌, take, Option, Some, None, ◌⊎◌, ⊤}
use Rattle.gh_outside.specs.Holdings.{Holding, Holds}

-- whatever the name held, it holds that and then the piece
abbrev pub IsAppended : List ℕ → List ℕ → Option Holding → Option Holding → Type 0
IsAppended name piece old new = (start : List ℕ) → Holds name start old → Holds name (start ++ piece) new

-- or the first of the piece
abbrev pub IsPartAppended : List ℕ → List ℕ → Option Holding → Option Holding → Type 0
IsPartAppended name piece old None = ⊤
IsPartAppended name piece old (Some files) = (start : List ℕ) → Holds name start old → (n : ℕ) × (files name ≡ Some (start ++ take n piece))

-- the name holds a first part of these bytes, or what it held
abbrev pub IsPart : List ℕ → List ℕ → Option Holding → Option Holding → Type 0
IsPart name bytes (Some old) (Some new) = (new name ≡ old name) ⊎ ((n : ℕ) × (new name ≡ Some (take n bytes)))
IsPart name bytes old new = ⊤
