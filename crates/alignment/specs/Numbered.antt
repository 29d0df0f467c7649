-- A network between points of any type, solved by the numbers of its points: a point's number is its place in a list
-- of names.
use Rattle.std.specs.Prelude.{◌≡◌, ℕ, ◌<◌, nat_lt, false, List, [], ◌∷◌, length, map, get_or, if◌then◌else◌}
use Rattle.std.specs.List.{All, Contains, position_or_len}
use Rattle.plan_model.specs.Networks.{Difference, Terms}
use Rattle.min_cost_flow.specs.declared.network.Arc.{Arc}

-- the number of a name, and the name at a number
abbrev pub number_by : {P E L : Type 0} → Terms P E L → List P → P → ℕ
number_by t names v = position_or_len (λ u. t.same u v) names

abbrev pub name_by : {P : Type 0} → P → List P → ℕ → P
name_by root names k = get_or names k root

-- an arc, by the names of its ends
abbrev pub named_by : {P : Type 0} → P → List P → Arc → Difference P
named_by root names a = record { tail = name_by root names a.tail; head = name_by root names a.head; least = a.least }

-- a difference, by the numbers of its ends
abbrev pub numbered_by : {P E L : Type 0} → Terms P E L → List P → Difference P → Arc
numbered_by t names d = record { tail = number_by t names d.tail; head = number_by t names d.head; least = d.least }

-- the arcs that carry units, by the names of their ends, in their order
abbrev pub entries_by : {P E : Type 0} → (P → P → ℕ → E) → P → List P → List Arc → List ℕ → List E
entries_by make root names [] flow = []
entries_by make root names (a ∷ arcs) [] = []
entries_by make root names (a ∷ arcs) (n ∷ flow) =
    if nat_lt 0 n then make (name_by root names a.tail) (name_by root names a.head) n ∷ entries_by make root names arcs flow
    else entries_by make root names arcs flow

-- names that differ, the root's first
pub record AreNames {P E L : Type 0} (t : Terms P E L) (root : P) (names : List P) : Type 0 where
  pub differ : (i j : ℕ) → i < j → j < length names → t.same (name_by root names i) (name_by root names j) ≡ false
  pub some : 0 < length names
  pub first : name_by root names 0 ≡ root

-- the arcs are the differences, by the numbers of their ends
pub record AreArcsBy {P E L : Type 0} (t : Terms P E L) (root : P) (names : List P) (differences : List (Difference P))
    (arcs : List Arc) : Type 0 where
  pub ends : All (λ a. (a.tail < length names) × (a.head < length names)) arcs
  pub each : All (λ a. Contains differences (named_by root names a)) arcs
  pub all : All (λ d. Contains (map (named_by root names) arcs) d) differences
