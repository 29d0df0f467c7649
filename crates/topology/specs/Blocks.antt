-- What stands in the way of a node.
use Rattle.std.specs.Prelude.{ℕ, ◌≡◌, ◌<◌, ◌≤◌, ◌≢◌, List, length, get_or, Option, None, Bool, true, false, MatchOption}
use Rattle.topology.specs.declared.ends.Link.{Link}
use Rattle.topology.specs.Links.{source, target}

abbrev pub is_taken : List Bool → ℕ → Bool
is_taken taken v = get_or taken v false

abbrev pub block_of : List (Option ℕ) → ℕ → Option ℕ
block_of blocks v = get_or blocks v None

-- the link is into v and from a node that is not taken
abbrev pub Blocks : List Link → List Bool → ℕ → ℕ → Type 0
Blocks ls taken v e = (e < length ls) × (target ls e ≡ v) × (is_taken taken (source ls e) ≡ false)

-- at each node a link among the first m that blocks it, or none where none does
abbrev pub BlocksUpTo : List Link → List Bool → List (Option ℕ) → ℕ → Type 0
BlocksUpTo ls taken blocks m = (v : ℕ) → v < length blocks → MatchOption (block_of blocks v)
    ((e : ℕ) → e < m → target ls e ≡ v → is_taken taken (source ls e) ≡ true)
    (λ e. Blocks ls taken v e)

abbrev pub AreBlocks : List Link → List Bool → List (Option ℕ) → Type 0
AreBlocks ls taken blocks = BlocksUpTo ls taken blocks (length ls)

abbrev pub IsFree : List Bool → List (Option ℕ) → ℕ → Type 0
IsFree taken blocks v = (is_taken taken v ≡ false) × (block_of blocks v ≡ None)

-- the free node of least uid among the first m, if there is a free one
abbrev pub FirstFreeUpTo : List ℕ → List Bool → List (Option ℕ) → ℕ → Option ℕ → Type 0
FirstFreeUpTo uids taken blocks m found = MatchOption found
    ((v : ℕ) → v < m → ¬ IsFree taken blocks v)
    (λ b. (b < m) × IsFree taken blocks b × ((v : ℕ) → v < m → IsFree taken blocks v → get_or uids b 0 ≤ get_or uids v 0))

abbrev pub IsFirstFree : List ℕ → List Bool → List (Option ℕ) → Option ℕ → Type 0
IsFirstFree uids taken blocks found = FirstFreeUpTo uids taken blocks (length uids) found

-- each node that is not taken is blocked
abbrev pub AllBlocked : List Bool → List (Option ℕ) → Type 0
AllBlocked taken blocks = (v : ℕ) → v < length taken → is_taken taken v ≡ false → block_of blocks v ≢ None
