-- A walk found backwards.
use Rattle.std.proofs.Common.{◌≡◌, ℕ, ◌<◌, List, [], ◌∷◌, ◌++◌, length, drop, get_or, set, refl, sym, ap, ◌∙◌, subst, arith, inl, inr, Option, Some, None, MatchOption}
use Rattle.std.specs.Prelude.{reverse}
use Rattle.std.proofs.lemmas.List.{drop-append-le, drop_at, reverse-append, get_or_append_left, get_or_push, length-reverse, length-drop, get_or-set_same, get_or-set_other, length_push}
use Rattle.std.proofs.lemmas.Bool.{cases_lt, cases_eq}
use Rattle.graph_model.specs.Checks.{IsTrail, IsClosedWalk}
use Rattle.graph_model.specs.declared.graph.Uid.{Uid}
use Rattle.graph_model.specs.declared.graph.Graph.{Graph}
use Rattle.graph_model.specs.Named.{uid_at}
use Rattle.topology.specs.Links.{source, target, AreLinks}
use Rattle.topology.specs.Blocks.{block_of}
use Rattle.topology.specs.declared.ends.Link.{Link}
use Rattle.graph_model.proofs.NameFacts.{same_uid}
use Rattle.topology.proofs.LinkFacts.{source_is, target_is, connection_is, connection_at}

-- the links, named by their places, lead from u to v
abbrev pub Leads : List Link → ℕ → List ℕ → ℕ → Type 0
Leads ls u [] v = u ≡ v
Leads ls u (e ∷ w) v = (e < length ls) × (source ls e ≡ u) × Leads ls (target ls e) w v

-- from each place of the walk on, its links lead from v to the target of the link at that place
abbrev pub IsLed : List Link → List ℕ → ℕ → Type 0
IsLed ls walk v = (i : ℕ) → i < length walk → Leads ls v (reverse (drop i walk)) (target ls (get_or walk i 0))

-- one link more, before the walk
pub led_more : (ls : List Link) (walk : List ℕ) (v e : ℕ) → e < length ls → target ls e ≡ v → IsLed ls walk v → IsLed ls (walk ++ e ∷ []) (source ls e)
led_more ls walk v e le te led i lt =
    elim (cases_lt i (length walk)) [
      | inl inside ↦
          (let old : Leads ls (target ls e) (reverse (drop i walk)) (target ls (get_or walk i 0))
          = subst (λ u. Leads ls u (reverse (drop i walk)) (target ls (get_or walk i 0))) (sym te) (led i inside) in
          let rest : drop i (walk ++ e ∷ []) ≡ drop i walk ++ e ∷ [] = drop-append-le i walk (e ∷ []) (omega arith) in
          let at : get_or (walk ++ e ∷ []) i 0 ≡ get_or walk i 0 = get_or_append_left walk (e ∷ []) 0 i inside in
          rw (rest, at, reverse-append (drop i walk) (e ∷ [])) (le, refl, old))
      | inr past ↦
          (let here : length walk ≡ i = omega (arith, length_push walk e) in
          let rest : drop i (walk ++ e ∷ []) ≡ e ∷ [] = drop_at walk (e ∷ []) i here in
          let at : get_or (walk ++ e ∷ []) i 0 ≡ e = get_or_push walk e 0 i here in
          rw (rest, at) (le, refl, refl))
    ]

-- the place of each node that was passed
abbrev pub IsPlaced : List Link → List ℕ → List (Option ℕ) → ℕ → Type 0
IsPlaced ls walk places u = MatchOption (block_of places u) (Unit {0}) (λ p. (p < length walk) × (target ls (get_or walk p 0) ≡ u))

match_some : {X : Type 0} (o : Option X) (P Q : X → Type 0) → ((x : X) → P x → Q x) → MatchOption o (Unit {0}) P → MatchOption o (Unit {0}) Q
match_some None P Q f m = tt
match_some (Some x) P Q f m = f x m

pub placed_more : (ls : List Link) (n : ℕ) (places : List (Option ℕ)) (walk : List ℕ) (v e : ℕ) → length places ≡ n → v < n → target ls e ≡ v
    → ((u : ℕ) → u < n → IsPlaced ls walk places u) → (u : ℕ) → u < n → IsPlaced ls (walk ++ e ∷ []) (set places v (Some (length walk))) u
placed_more ls n places walk v e len lt te placed u un =
    elim (cases_eq u v) [
      | inl same ↦
          (let at : block_of (set places v (Some (length walk))) u ≡ Some (length walk) = rw same (get_or-set_same places v (Some (length walk)) None (omega arith)) in
          let last : get_or (walk ++ e ∷ []) (length walk) 0 ≡ e = get_or_push walk e 0 (length walk) refl in
          rw (at) (omega (arith, length_push walk e), rw last (te ∙ sym same)))
      | inr other ↦
          (let at : block_of (set places v (Some (length walk))) u ≡ block_of places u = get_or-set_other places v u (Some (length walk)) None other in
          rw (at) (match_some (block_of places u)
          (λ p. (p < length walk) × (target ls (get_or walk p 0) ≡ u))
          (λ p. (p < length (walk ++ e ∷ [])) × (target ls (get_or (walk ++ e ∷ []) p 0) ≡ u))
          (λ p h. (omega (arith, length_push walk e, h.0), rw (get_or_append_left walk (e ∷ []) 0 p h.0) h.1))
          (placed u un)))
    ]

pub placed_at : (ls : List Link) (walk : List ℕ) (places : List (Option ℕ)) (v p : ℕ) → block_of places v ≡ Some p → IsPlaced ls walk places v
    → (p < length walk) × (target ls (get_or walk p 0) ≡ v)
placed_at ls walk places v p is m =
    let n : MatchOption (Some p) (Unit {0}) (λ p. (p < length walk) × (target ls (get_or walk p 0) ≡ v))
    = subst (λ (o : Option ℕ). MatchOption o (Unit {0}) (λ p. (p < length walk) × (target ls (get_or walk p 0) ≡ v))) is m in
    n

-- ---- in the graph
abbrev named : ℕ → Uid
named v = record { 0 = v }

module _ (g : Graph) (ls : List Link) (links : AreLinks g ls) where
  trail_of : (u : ℕ) (w : List ℕ) (v : ℕ) → Leads ls u w v → IsTrail g (named (uid_at g u)) w (named (uid_at g v))
  trail_of u [] v leads = ap (λ x. named (uid_at g x)) leads
  trail_of u (e ∷ w) v (lt, from, rest) = (
    connection_at g e,
    connection_is g ls links e lt,
    same_uid (connection_at g e).src (named (uid_at g u)) (sym (source_is g ls links e lt) ∙ ap (uid_at g) from),
    subst (λ (x : Uid). IsTrail g x w (named (uid_at g v))) (same_uid (named (uid_at g (target ls e))) (connection_at g e).dst (target_is g ls links e lt)) (trail_of (target ls e) w v rest),
  )

  -- from the place of a node that is met again on, the walk is closed
  pub closes : (walk : List ℕ) (v p : ℕ) → p < length walk → target ls (get_or walk p 0) ≡ v → IsLed ls walk v → IsClosedWalk g (reverse (drop p walk))
  closes walk v p lt back led = (
    omega (arith, length-reverse (drop p walk), length-drop p walk),
    (named (uid_at g v), trail_of v (reverse (drop p walk)) v (subst (λ u. Leads ls v (reverse (drop p walk)) u) back (led p lt))),
  )
