-- Items by their groups.
use Rattle.std.specs.Prelude.{◌≡◌, ℕ, ◌<◌, ◌==◌, List, [], length, map, get_or}
use Rattle.std.specs.List.{filter}
use Rattle.schedule.specs.declared.groups.Entry.{Entry}

-- the items of group k, in their order
abbrev pub items_of : {T : Type 0} → List (Entry T) → ℕ → List T
items_of entries k = map (λ e. e.item) (filter (λ e. e.group == k) entries)

-- the items of each group
pub record AreGroups {T : Type 0} (count : ℕ) (entries : List (Entry T)) (groups : List (List T)) : Type 0 where
  pub count_is : length groups ≡ count
  pub each : (k : ℕ) → k < count → get_or groups k [] ≡ items_of entries k
