-- Points and their numbers, positions by names, and links: lemmas over lists.
use Rattle.std.proofs.Common.{◌≡◌, ℕ, zero, suc, ◌<◌, ◌≤◌, ℤ, List, [], ◌∷◌, length, map, drop, slice_index, refl, ap, arith, cond, ◌==◌, Bool, true, false, inl, inr}
use Rattle.std.specs.Prelude.{AllPairs}
use Rattle.std.specs.List.{Contains}
use Rattle.std.specs.List.Sorted.{IsStrictlyIncreasing}
use Rattle.std.proofs.lemmas.Bool.{eqb-true, ne_eqb}
use Rattle.std.proofs.lemmas.List.Kept.{AllPairs-from_increasing}
use Rattle.graph_model.specs.Paths.{is_live}
use Rattle.graph_model.specs.Answers.{delay}
use Rattle.graph_model.proofs.PathLaws.{at_tail, first_or_later, same_name}
use Rattle.graph_model.specs.declared.graph.Connection.{Connection}
use Rattle.graph_model.specs.declared.graph.Graph.{Graph}
use Rattle.plan_model.specs.Alignments.{position_in, lines_from}
use Rattle.plan_model.specs.Flows.{terms}
use Rattle.shortest_paths.specs.Walks.{number_of, from_zero}
use Rattle.alignment.specs.Networks.{ArePoints, number_in}
use Rattle.alignment.specs.Numbered.{AreNames}
use Rattle.alignment.specs.Links.{link_of, links_from}
use Rattle.alignment.specs.Places.{places_of, line_of}
use Rattle.alignment.proofs.NumberedLaws as numbered

-- ---- names and their numbers
-- in a rising list 0 stands first
pub zero_first : (xs : List ℕ) → IsStrictlyIncreasing xs → Contains xs 0 → (0 < length xs) × (slice_index xs 0 ≡ 0)
zero_first xs rising (zero, l, e) = (l, e)
zero_first xs rising (suc k, l, e) = let less = AllPairs-from_increasing xs rising 0 (suc k) 0 (omega arith) l in absurd (omega arith)

-- the points are names that differ, the root's first
pub are_named : (g : Graph) (points : List ℕ) → ArePoints g points → AreNames (terms g) 0 points
are_named g points are =
    let first = zero_first points are.rising (are.all 0 (inl refl)) in
    record {
      differ = λ i j lt l. ne_eqb _ _ (λ same. let less = AllPairs-from_increasing points are.rising i j 0 lt l in omega arith);
      some = first.0;
      first = first.1;
    }

-- a name stands at its number
pub stands_at : (g : Graph) (points : List ℕ) (v : ℕ) → Contains points v → (number_in points v < length points) × (slice_index points (number_in points v) ≡ v)
stands_at g points v has = numbered.stands_by (terms g) eqb-true same_name 0 points v has

-- the number of what stands at a place is the place
pub number_at : (g : Graph) (points : List ℕ) → ArePoints g points → (k : ℕ) → k < length points → number_in points (slice_index points k) ≡ k
number_at g points are k lt = numbered.number_at (terms g) eqb-true same_name 0 points (are_named g points are) k lt

-- what does not stand first stands later
pub later_has : (xs : List ℕ) (v : ℕ) → Contains xs v → (slice_index xs 0 ≡ v → ⊥) → Contains (drop 1 xs) v
later_has [] v has other = let l = has.1 in absurd (omega arith)
later_has (x ∷ xs) v has other = elim (first_or_later x v xs has) [ inl same ↦ absurd (other same) | inr there ↦ there ]

-- ---- positions by names
-- the names are those of the points
pub names_of : (vs : List ℕ) (xs : List ℤ) → length vs ≡ length xs → map (λ a. a.uid.0) (places_of vs xs) ≡ vs
names_of [] xs e = refl
names_of (v ∷ vs) [] e = absurd (omega arith)
names_of (v ∷ vs) (x ∷ xs) e = ap (λ us. v ∷ us) (names_of vs xs (omega arith))

-- the name at a place stands at the potential of that place
pub position_at : (vs : List ℕ) (xs : List ℤ) → AllPairs (λ u v. u < v) vs → length vs ≡ length xs → (k : ℕ) → k < length vs
    → position_in (places_of vs xs) (slice_index vs k) ≡ from_zero (number_of xs k)
position_at [] xs rising e k lt = absurd (omega arith)
position_at (v ∷ vs) [] rising e k lt = absurd (omega arith)
position_at (v ∷ vs) (x ∷ xs) rising e zero lt = rw (same_name v) refl
position_at (v ∷ vs) (x ∷ xs) rising e (suc k) lt =
    let differs : (v == slice_index vs k) ≡ false = ne_eqb _ _ (λ same. let less = rising 0 (suc k) 0 (omega arith) lt in omega arith) in
    rw differs (position_at vs xs (λ i j d less l. rising (suc i) (suc j) d (omega arith) (omega arith)) (omega arith) k (omega arith))

-- the name at a place stands at the potential there, where the root, the first, is left out
pub later_position : (points : List ℕ) (potential : List ℤ) → IsStrictlyIncreasing points → length potential ≡ length points → (k : ℕ) → 0 < k → k < length points
    → position_in (places_of (drop 1 points) (drop 1 potential)) (slice_index points k) ≡ from_zero (number_of potential k)
later_position points potential rising each zero some lt = absurd (omega arith)
later_position [] potential rising each (suc k) some lt = absurd (omega arith)
later_position (v ∷ points) [] rising each (suc k) some lt = absurd (omega arith)
later_position (v ∷ points) (x ∷ potential) rising each (suc k) some lt =
    position_at points potential (λ i j d less l. AllPairs-from_increasing (v ∷ points) rising (suc i) (suc j) d (omega arith) (omega arith)) (omega arith) k (omega arith)

-- ---- links
-- no more links than connections
pub links_few : (g : Graph) (points : List ℕ) (k : ℕ) (cs : List Connection) → length (links_from g points k cs) ≤ length cs
links_few g points k [] = omega arith
links_few g points k (c ∷ cs) = go (is_live g c.dst.0) (links_few g points (suc k) cs)
  where
    go : (b : Bool) → length (links_from g points (suc k) cs) ≤ length cs
        → length (cond b (link_of g points k c ∷ links_from g points (suc k) cs) (links_from g points (suc k) cs)) ≤ length (c ∷ cs)
    go true l = omega arith
    go false l = omega arith

-- links with the delays of their connections have the lines of these
pub lines_same : (g : Graph) (points : List ℕ) (potential : List ℤ) (p : ℕ → ℕ) (k : ℕ) (cs : List Connection)
    → ((j : ℕ) (c : Connection) → Contains cs c → is_live g c.dst.0 ≡ true → (line_of potential (link_of g points j c)).delay ≡ delay g p c)
    → map (line_of potential) (links_from g points k cs) ≡ lines_from g p k cs
lines_same g points potential p k [] h = refl
lines_same g points potential p k (c ∷ cs) h = go (is_live g c.dst.0) refl (lines_same g points potential p (suc k) cs (λ j d has is. h j d (at_tail c d cs has) is))
  where
    go : (b : Bool) → is_live g c.dst.0 ≡ b → map (line_of potential) (links_from g points (suc k) cs) ≡ lines_from g p (suc k) cs
        → map (line_of potential) (cond b (link_of g points k c ∷ links_from g points (suc k) cs) (links_from g points (suc k) cs))
        ≡ cond b (record { connection = k; delay = delay g p c } ∷ lines_from g p (suc k) cs) (lines_from g p (suc k) cs)
    go true e rest = let here = h k c (0, omega arith, refl) e in λ i. record { connection = k; delay = here i } ∷ rest i
    go false e rest = rest
