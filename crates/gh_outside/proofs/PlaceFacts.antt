-- What a write at the place of a name leaves under each name.
use Rattle.std.proofs.Common.{◌≡◌, ◌≢◌, ℕ, ◌<◌, ◌≤◌, ◌+◌, ◌++◌, List, [], ◌∷◌, max, length, get_or, Option, Some, None, true, false, cond, refl, sym, ◌∙◌, ap, subst, arith, nat_lt}
use Rattle.std.proofs.Math.ListN.{set}
use Rattle.std.specs.List.{find, position, position_or_len, slice_get}
use Rattle.std.specs.Str.{bytes_eq}
use Rattle.std.proofs.lemmas.List.Quantifiers.{position-Some}
use Rattle.std.specs.Prelude.{Result, Ok, Err, OnOk, OnErr, unwrap_or}
use Rattle.std.proofs.lemmas.List.Folds.{find-append, find_at, find-set, find_past}
use Rattle.std.proofs.lemmas.List.Sums.{position_or_len_is}
use Rattle.std.proofs.lemmas.Option.{slice_get-get_or, slice_get_past}
use Rattle.std.proofs.lemmas.Slice.Eq.{bytes_eq-Decides}
use Rattle.std.proofs.lemmas.Bool.{false_from_ne_true, true≢false}
use Rattle.std.proofs.lemmas.Bool.Decides.{nat_tests}
use Rattle.std.specs.Option.{option_or, MatchOption, IfSome, IsSomeAnd, option_map}
use Rattle.gh_outside.specs.Memory.{StoredFile, is_named, stored, holding, held_by, room_by, room_of, HasFree, PassesRoom}

-- the place is the first one of that name
pub place_is : (files : List StoredFile) (name : List ℕ) (at : ℕ) (d : StoredFile) → position (is_named name) files ≡ Some at → position_or_len (is_named name) files ≡ at
place_is files name at d h =
    let p = position-Some (is_named name) files at d h in
    position_or_len_is (is_named name) files at d (omega (arith, p.0)) p.2 (λ _. p.1)

-- what is stored under the name stands there
pub stored_there : (files : List StoredFile) (name : List ℕ) (at : ℕ) (d : StoredFile) → position (is_named name) files ≡ Some at → stored files name ≡ Some (get_or files at d)
stored_there files name at d h =
    let p = position-Some (is_named name) files at d h in
    find_at (is_named name) files ∙ ap (slice_get files) (place_is files name at d h) ∙ slice_get-get_or files at d p.0

no_place : (n m : ℕ) → cond (nat_lt n m) (Some n) None ≡ None → m ≤ n
no_place n m h = grind (arith, nat_tests)

pub not_stored : (files : List StoredFile) (name : List ℕ) → position (is_named name) files ≡ None → stored files name ≡ None
not_stored files name h =
    find_at (is_named name) files ∙ slice_get_past files (position_or_len (is_named name) files) (no_place (position_or_len (is_named name) files) (length files) h)

-- a write there changes what is under the name
pub stored_after : (files : List StoredFile) (name : List ℕ) (at : ℕ) (d y : StoredFile) → position (is_named name) files ≡ Some at → y.name ≡ (get_or files at d).name → stored (set files at y) name ≡ Some y
stored_after files name at d y h e =
    let p = position-Some (is_named name) files at d h in
    find-set (is_named name) files at y (sym (place_is files name at d h)) p.0 (ap (λ n. bytes_eq n name) e ∙ p.1)

-- and nothing else
pub others_after : (files : List StoredFile) (name other : List ℕ) (at : ℕ) (d y : StoredFile) → other ≢ name → position (is_named name) files ≡ Some at → y.name ≡ (get_or files at d).name → stored (set files at y) other ≡ stored files other
others_after files name other at d y differ h e =
    let p = position-Some (is_named name) files at d h in
    let n : (get_or files at d).name ≡ name = (bytes_eq-Decides (get_or files at d).name name).0 p.1 in
    let f : is_named other (get_or files at d) ≡ false =
    false_from_ne_true (is_named other (get_or files at d)) (λ t. differ (sym ((bytes_eq-Decides (get_or files at d).name other).0 t) ∙ n)) in
    find_past (is_named other) files at y d f (ap (λ m. bytes_eq m other) e ∙ f)

pub held_there : (files : List StoredFile) (name : List ℕ) (at : ℕ) (d : StoredFile) → position (is_named name) files ≡ Some at → holding files name ≡ (get_or files at d).held
held_there files name at d h = ap held_by (stored_there files name at d h)

pub room_there : (files : List StoredFile) (name : List ℕ) (at : ℕ) (d : StoredFile) → position (is_named name) files ≡ Some at → room_of files name ≡ Some (get_or files at d).room
room_there files name at d h = ap room_by (stored_there files name at d h)

-- a write that keeps name and room keeps every room
pub rooms_after : (files : List StoredFile) (name other : List ℕ) (at : ℕ) (d y : StoredFile) → position (is_named name) files ≡ Some at → y.name ≡ (get_or files at d).name → y.room ≡ (get_or files at d).room → room_of (set files at y) other ≡ room_of files other
rooms_after files name other at d y h e r =
    elim (bytes_eq other name) as (λ b. bytes_eq other name ≡ b → room_of (set files at y) other ≡ room_of files other) [
      | true ↦ λ t.
          let same : other ≡ name = (bytes_eq-Decides other name).0 t in
          subst (λ n. room_of (set files at y) n ≡ room_of files n) (sym same)
          (ap room_by (stored_after files name at d y h e) ∙ ap Some r ∙ sym (room_there files name at d h))
      | false ↦ λ f. ap room_by (others_after files name other at d y (λ same. true≢false (sym ((bytes_eq-Decides other name).1 same) ∙ f)) h e)
    ] refl

and_held : (o : Option (List ℕ)) (r n : ℕ) → IsSomeAnd o (λ held. length held + n ≡ r) → (held : List ℕ) × (o ≡ Some held) × (length held + n ≡ r)
and_held None r n m = absurd m
and_held (Some held) r n m = (held, refl, m)

-- room for more under a name
pub free_there : (files : List StoredFile) (name : List ℕ) (g : StoredFile) (free : Option ℕ) → holding files name ≡ g.held → room_of files name ≡ Some g.room
    → MatchOption free (g.held ≡ None) (λ n. IsSomeAnd g.held (λ held. length held + n ≡ g.room))
    → MatchOption free (holding files name ≡ None) (λ n. HasFree files name n)
free_there files name g None h r m = h ∙ m
free_there files name g (Some n) h r m = let w = and_held g.held g.room n m in (w.0, h ∙ w.1, r ∙ ap Some (sym w.2))

held_fits : (o : Option (List ℕ)) (room : ℕ) (held : List ℕ) (free n : ℕ) → o ≡ Some held → room ≡ length held + free → n ≤ free → IfSome o (λ h. length h + n ≤ room)
held_fits None room held free n e r l = tt
held_fits (Some x) room held free n e r l = let s : x ≡ held = cc in rw s (omega arith)

some_same : {m n : ℕ} → Some m ≡ Some n → m ≡ n
some_same {m} {n} e = cc

-- what is held has room for a piece that is not longer than what is free
pub fits_there : (files : List StoredFile) (name piece : List ℕ) (g : StoredFile) → holding files name ≡ g.held → room_of files name ≡ Some g.room
    → ((free : ℕ) × HasFree files name free × (length piece ≤ free)) → IfSome g.held (λ held. length held + length piece ≤ g.room)
fits_there files name piece g h r w = held_fits g.held g.room w.1.0 w.0 (length piece) (sym h ∙ w.1.1) (some_same (sym r ∙ w.1.2)) w.2

-- a longer content
pub longer_after : (g y : StoredFile) (piece held : List ℕ) → y ≡ record { name = g.name; held = option_map (λ h. h ++ piece) g.held; room = g.room } → g.held ≡ Some held → y.held ≡ Some (held ++ piece)
longer_after g y piece held e h = ap (λ s. s.held) e ∙ ap (option_map (λ x. x ++ piece)) h

-- a change of the room alone
pub widened : {T E : Type 0} (r : Result T E) (g y : StoredFile) (room : ℕ) → OnOk r (y ≡ record { name = g.name; held = g.held; room = max g.room room }) → OnErr r (y ≡ g) → (y.name ≡ g.name) × (y.held ≡ g.held)
widened (Ok x) g y room o e = (ap (λ f. f.name) o, ap (λ f. f.held) o)
widened (Err x) g y room o e = (ap (λ f. f.name) e, ap (λ f. f.held) e)

pub held_after : (files : List StoredFile) (name other : List ℕ) (at : ℕ) (d y : StoredFile) → position (is_named name) files ≡ Some at → y.name ≡ (get_or files at d).name → y.held ≡ (get_or files at d).held → holding (set files at y) other ≡ holding files other
held_after files name other at d y h e r =
    elim (bytes_eq other name) as (λ b. bytes_eq other name ≡ b → holding (set files at y) other ≡ holding files other) [
      | true ↦ λ t.
          let same : other ≡ name = (bytes_eq-Decides other name).0 t in
          subst (λ n. holding (set files at y) n ≡ holding files n) (sym same)
          (ap held_by (stored_after files name at d y h e) ∙ r ∙ sym (held_there files name at d h))
      | false ↦ λ f. ap held_by (others_after files name other at d y (λ same. true≢false (sym ((bytes_eq-Decides other name).1 same) ∙ f)) h e)
    ] refl

pub room_after : {T E : Type 0} (r : Result T E) (files : List StoredFile) (name : List ℕ) (at : ℕ) (d y : StoredFile) (room : ℕ) → position (is_named name) files ≡ Some at
    → OnOk r (y ≡ record { name = (get_or files at d).name; held = (get_or files at d).held; room = max (get_or files at d).room room })
    → OnOk r (room_of (set files at y) name ≡ Some (max (unwrap_or (room_of files name) 0) room))
room_after (Ok x) files name at d y room h o =
    ap room_by (stored_after files name at d y h (ap (λ f. f.name) o)) ∙ ap (λ f. Some f.room) o ∙ ap (λ q. Some (max (unwrap_or q 0) room)) (sym (room_there files name at d h))
room_after (Err x) files name at d y room h o = tt

or_none : (o : Option StoredFile) → option_or o None ≡ o
or_none None = refl
or_none (Some x) = refl

-- a new name at the end
pub stored_more : (files : List StoredFile) (name other : List ℕ) (f : StoredFile) → f.name ≡ name → other ≢ name → stored (files ++ f ∷ []) other ≡ stored files other
stored_more files name other f e differ =
    let n : is_named other f ≡ false = false_from_ne_true (is_named other f) (λ t. differ (sym ((bytes_eq-Decides f.name other).0 t) ∙ e)) in
    find-append (is_named other) files (f ∷ []) ∙ ap (option_or (stored files other)) (ap (λ b. cond b (Some f) None) n) ∙ or_none (stored files other)

pub stored_new : (files : List StoredFile) (name : List ℕ) (f : StoredFile) → f.name ≡ name → position (is_named name) files ≡ None → stored (files ++ f ∷ []) name ≡ Some f
stored_new files name f e h =
    find-append (is_named name) files (f ∷ []) ∙ ap (λ o. option_or o (find (is_named name) (f ∷ []))) (not_stored files name h) ∙ ap (λ b. cond b (Some f) None) ((bytes_eq-Decides f.name name).1 e)

-- a new name that is not held
pub held_more : (files : List StoredFile) (name other : List ℕ) (f : StoredFile) → f.name ≡ name → f.held ≡ None → position (is_named name) files ≡ None → holding (files ++ f ∷ []) other ≡ holding files other
held_more files name other f e n h =
    elim (bytes_eq other name) as (λ b. bytes_eq other name ≡ b → holding (files ++ f ∷ []) other ≡ holding files other) [
      | true ↦ λ t.
          let same : other ≡ name = (bytes_eq-Decides other name).0 t in
          subst (λ m. holding (files ++ f ∷ []) m ≡ holding files m) (sym same)
          (ap held_by (stored_new files name f e h) ∙ n ∙ sym (ap held_by (not_stored files name h)))
      | false ↦ λ q. ap held_by (stored_more files name other f e (λ same. true≢false (sym ((bytes_eq-Decides other name).1 same) ∙ q)))
    ] refl

-- a piece that is longer than what is free passes the room
pub passes_room : (files : List StoredFile) (name : List ℕ) (free more : ℕ) → HasFree files name free → free < more → PassesRoom files name more
passes_room files name free more w short = (w.0, length w.0 + free, w.1, w.2, omega arith)
