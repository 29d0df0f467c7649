-- What a folder holds and what a sink holds, where they tell it.
use Rattle.std.specs.Prelude.{◌≡◌, ◌≢◌, ℕ, ◌<◌, List, ◌++◌, length, take, Option, Some, None, IfSome, ⊤}

-- The bytes of each name that is held.
abbrev pub Holding : Type 0
Holding = List ℕ → Option (List ℕ)

-- The folder tells what it holds, and the name is not there.
abbrev pub IsMissing : List ℕ → Option Holding → Type 0
IsMissing name None = ⊥
IsMissing name (Some files) = files name ≡ None

-- P is true of the bytes under the name, where the folder tells them.
abbrev pub HeldBytes : List ℕ → Option Holding → (List ℕ → Type 0) → Type 0
HeldBytes name None P = ⊤
HeldBytes name (Some files) P = IfSome (files name) P

-- The folder tells what it holds, and the name is not there or has fewer bytes than up to that place.
abbrev pub IsPast : List ℕ → ℕ → Option Holding → Type 0
IsPast name end None = ⊥
IsPast name end (Some files) = (bytes : List ℕ) → files name ≡ Some bytes → length bytes < end

-- Each name but one has what it had, and the folder tells what it holds just where it did.
abbrev pub KeepsOthers : List ℕ → Option Holding → Option Holding → Type 0
KeepsOthers name None None = ⊤
KeepsOthers name None (Some new) = ⊥
KeepsOthers name (Some old) None = ⊥
KeepsOthers name (Some old) (Some new) = (other : List ℕ) → other ≢ name → new other ≡ old other

-- The name has these bytes, where the folder tells them.
abbrev pub Holds : List ℕ → List ℕ → Option Holding → Type 0
Holds name bytes None = ⊤
Holds name bytes (Some files) = files name ≡ Some bytes

-- The name had bytes, and has them and then these.
abbrev pub HasGained : List ℕ → List ℕ → Option Holding → Option Holding → Type 0
HasGained name piece (Some old) (Some new) = (bytes : List ℕ) × (old name ≡ Some bytes) × (new name ≡ Some (bytes ++ piece))
HasGained name piece old new = ⊤

-- A name that had bytes has them and then the first of these.
abbrev pub HasGainedPrefix : List ℕ → List ℕ → Option Holding → Option Holding → Type 0
HasGainedPrefix name piece (Some old) (Some new) =
    (bytes : List ℕ) → old name ≡ Some bytes → (n : ℕ) × (new name ≡ Some (bytes ++ take n piece))
HasGainedPrefix name piece old new = ⊤

-- A sink that tells what it holds has gained these bytes, and it tells that just where it did.
abbrev pub GainsAll : List ℕ → Option (List ℕ) → Option (List ℕ) → Type 0
GainsAll piece None None = ⊤
GainsAll piece (Some old) (Some new) = new ≡ old ++ piece
GainsAll piece old new = ⊥

-- It has gained the first of these bytes.
abbrev pub GainsPrefix : List ℕ → Option (List ℕ) → Option (List ℕ) → Type 0
GainsPrefix piece None None = ⊤
GainsPrefix piece (Some old) (Some new) = (n : ℕ) × (new ≡ old ++ take n piece)
GainsPrefix piece old new = ⊥
