-- The edges of the residual network, made one arc at a time.
use Rattle.std.proofs.Common.{◌≡◌, ℕ, zero, suc, ◌+◌, ◌-◌, ◌<◌, pos, List, [], ◌∷◌, ◌++◌, length, Some, ◌⊎◌, inl, inr, refl, sym, ap, subst, ◌∙◌, arith, slice_get, slice_index, get_or, cond, nat_eq, true, false, length-append}
use Rattle.std.specs.List.{All}
use Rattle.std.proofs.lemmas.Bool.{cases_eq, cases_lt}
use Rattle.std.proofs.lemmas.Bool.Decides.{nat_tests}
use Rattle.std.proofs.lemmas.Option.{slice_get-get_or, slice_get_within}
use Rattle.min_cost_flow.specs.declared.network.Arc.{Arc}
use Rattle.min_cost_flow.specs.declared.network.Step.{Step}
use Rattle.min_cost_flow.specs.Residual.{forward, backward, IsMove, more, fewer, IsResidual}
use Rattle.shortest_paths.specs.declared.edges.Edge.{Edge}
use Rattle.shortest_paths.specs.Usable.{usable, limited, loop_at}
use Rattle.shortest_paths.proofs.UsableLaws.{usable_free, usable_limited, usable_length}
use Rattle.shortest_paths.proofs.WalkLaws.{some_same}

pub slice_get-push_cases : {X : Type 0} (xs : List X) (y x : X) (i : ℕ) → slice_get (xs ++ y ∷ []) i ≡ Some x → (slice_get xs i ≡ Some x) ⊎ ((i ≡ length xs) × (y ≡ x))
slice_get-push_cases [] y x zero h = inr (refl, cc)
slice_get-push_cases [] y x (suc i) h = absurd (cc)
slice_get-push_cases (z ∷ xs) y x zero h = inl h
slice_get-push_cases (z ∷ xs) y x (suc i) h = elim (slice_get-push_cases xs y x i h) [ inl a ↦ inl a | inr b ↦ inr (let q = b.0 in omega arith, b.1) ]

pub slice_get-append_left : {X : Type 0} (xs ys : List X) (x : X) (i : ℕ) → slice_get xs i ≡ Some x → slice_get (xs ++ ys) i ≡ Some x
slice_get-append_left [] ys x i h = absurd (cc)
slice_get-append_left (z ∷ xs) ys x zero h = h
slice_get-append_left (z ∷ xs) ys x (suc i) h = slice_get-append_left xs ys x i h

pub slice_get-push_at : {X : Type 0} (xs : List X) (y : X) (i : ℕ) → i ≡ length xs → slice_get (xs ++ y ∷ []) i ≡ Some y
slice_get-push_at [] y zero h = refl
slice_get-push_at [] y (suc i) h = absurd (omega arith)
slice_get-push_at (z ∷ xs) y zero h = absurd (omega arith)
slice_get-push_at (z ∷ xs) y (suc i) h = slice_get-push_at xs y i (omega arith)

-- the forward edges of the first n arcs, and the reverse edges of the first m
pub record IsResidualTo (arcs : List Arc) (n m : ℕ) (edges : List Edge) (steps : List Step) : Type 0 where
  pub edges_each : length edges ≡ n + m
  pub steps_each : length steps ≡ n + m
  pub forwards : (k : ℕ) (a : Arc) → k < n → slice_get arcs k ≡ Some a → (slice_get edges k ≡ Some (forward a)) × (slice_get steps k ≡ Some (record { arc = k; back = false }))
  pub backwards : (k : ℕ) (a : Arc) → k < m → slice_get arcs k ≡ Some a → (slice_get edges (length arcs + k) ≡ Some (backward a)) × (slice_get steps (length arcs + k) ≡ Some (record { arc = k; back = true }))

pub IsResidualTo-first : (arcs : List Arc) → IsResidualTo arcs 0 0 [] []
IsResidualTo-first arcs = record {
  edges_each = refl;
  steps_each = refl;
  forwards = λ k a l h. absurd (omega arith);
  backwards = λ k a l h. absurd (omega arith);
}

pub IsResidualTo-forward : (arcs : List Arc) (n : ℕ) (edges : List Edge) (steps : List Step) (a : Arc) → IsResidualTo arcs n 0 edges steps → slice_get arcs n ≡ Some a →
    IsResidualTo arcs (n + 1) 0 (edges ++ forward a ∷ []) (steps ++ record { arc = n; back = false } ∷ [])
IsResidualTo-forward arcs n edges steps a r at = record {
  edges_each = let q = r.edges_each in omega (arith, length-append edges (forward a ∷ []));
  steps_each = let q = r.steps_each in omega (arith, length-append steps (record { arc = n; back = false } ∷ []));
  forwards = λ k b l h.
      let e = r.edges_each in
      let t = r.steps_each in
      elim (cases_eq k n) [
        | inl same ↦
            let is : a ≡ b = some_same a b (sym at ∙ subst (λ x. slice_get arcs x ≡ Some b) same h) in
            (slice_get-push_at edges (forward a) k (omega arith) ∙ ap (λ x. Some (forward x)) is, slice_get-push_at steps (record { arc = n; back = false }) k (omega arith) ∙ ap (λ x. Some (record { arc = x; back = false })) (sym same))
        | inr ne ↦ let q = r.forwards k b (omega arith) h in (slice_get-append_left edges (forward a ∷ []) (forward b) k q.0, slice_get-append_left steps (record { arc = n; back = false } ∷ []) _ k q.1)
      ];
  backwards = λ k b l h. absurd (omega arith);
}

pub IsResidualTo-backward : (arcs : List Arc) (n m : ℕ) (edges : List Edge) (steps : List Step) (a : Arc) → n ≡ length arcs → IsResidualTo arcs n m edges steps → slice_get arcs m ≡ Some a →
    IsResidualTo arcs n (m + 1) (edges ++ backward a ∷ []) (steps ++ record { arc = m; back = true } ∷ [])
IsResidualTo-backward arcs n m edges steps a all r at = record {
  edges_each = let q = r.edges_each in omega (arith, length-append edges (backward a ∷ []));
  steps_each = let q = r.steps_each in omega (arith, length-append steps (record { arc = m; back = true } ∷ []));
  forwards = λ k b l h. let q = r.forwards k b l h in (slice_get-append_left edges (backward a ∷ []) (forward b) k q.0, slice_get-append_left steps (record { arc = m; back = true } ∷ []) _ k q.1);
  backwards = λ k b l h.
      let e = r.edges_each in
      let t = r.steps_each in
      elim (cases_eq k m) [
        | inl same ↦
            let is : a ≡ b = some_same a b (sym at ∙ subst (λ x. slice_get arcs x ≡ Some b) same h) in (
              slice_get-push_at edges (backward a) (length arcs + k) (omega arith) ∙ ap (λ x. Some (backward x)) is,
              slice_get-push_at steps (record { arc = m; back = true }) (length arcs + k) (omega arith) ∙ ap (λ x. Some (record { arc = x; back = true })) (sym same),
            )
        | inr ne ↦
            let q = r.backwards k b (omega arith) h in
            (slice_get-append_left edges (backward a ∷ []) (backward b) (length arcs + k) q.0, slice_get-append_left steps (record { arc = m; back = true } ∷ []) _ (length arcs + k) q.1)
      ];
}

pub IsResidual-all : (arcs : List Arc) (n m : ℕ) (edges : List Edge) (steps : List Step) → n ≡ length arcs → m ≡ length arcs → IsResidualTo arcs n m edges steps → IsResidual arcs edges steps
IsResidual-all arcs n m edges steps all all' r = record {
  edges_each = let q = r.edges_each in omega arith;
  forwards = λ k a h. r.forwards k a (let l = slice_get_within arcs k a h in omega arith) h;
  backwards = λ k a h. r.backwards k a (let l = slice_get_within arcs k a h in omega arith) h;
}

-- ---- the edges that a flow lets pass

module _ (arcs : List Arc) (flow : List ℕ) (edges : List Edge) (steps : List Step) (r : IsResidual arcs edges steps) (each : length flow ≡ length arcs) where
  skipped : length edges - length flow ≡ length arcs
  skipped = let q = r.edges_each in omega arith

  pub forward_in : (k : ℕ) (a : Arc) → slice_get arcs k ≡ Some a → slice_get (usable edges flow) k ≡ Some (forward a)
  forward_in k a h = usable_free (length edges - length flow) edges flow k (forward a) (let l = slice_get_within arcs k a h in let n = skipped in omega arith) (r.forwards k a h).0

  backward_at : (k : ℕ) (a : Arc) → slice_get arcs k ≡ Some a → slice_get (usable edges flow) (length arcs + k) ≡ Some (limited (slice_index flow k) (backward a))
  backward_at k a h = usable_limited (length edges - length flow) edges flow (length arcs + k) k (backward a) (let n = skipped in omega arith) (let l = slice_get_within arcs k a h in omega arith) (r.backwards k a h).0

  limited_some : (units : ℕ) (e : Edge) → 0 < units → limited units e ≡ e
  limited_some units e some = let test : nat_eq units 0 ≡ false = grind (arith, nat_tests) in ap (λ b. cond b (loop_at e) e) test

  limited_none : (units : ℕ) (e : Edge) → units ≡ 0 → limited units e ≡ loop_at e
  limited_none units e none = let test : nat_eq units 0 ≡ true = grind (arith, nat_tests) in ap (λ b. cond b (loop_at e) e) test

  pub backward_in : (k : ℕ) (a : Arc) → slice_get arcs k ≡ Some a → 0 < slice_index flow k → slice_get (usable edges flow) (length arcs + k) ≡ Some (backward a)
  backward_in k a h some = backward_at k a h ∙ ap Some (limited_some (slice_index flow k) (backward a) some)

  -- each usable edge stands for a step that the flow allows, or leads nowhere
  pub move_at : (i : ℕ) (e : Edge) → slice_get (usable edges flow) i ≡ Some e → ((s : Step) × (slice_get steps i ≡ Some s) × (slice_get edges i ≡ Some e) × IsMove arcs flow e s) ⊎ ((e.head ≡ e.tail) × (e.cost ≡ pos 0))
  move_at i e h =
      let l = slice_get_within (usable edges flow) i e h in
      let len = usable_length (length edges - length flow) edges flow in
      let many = r.edges_each in
      elim (cases_lt i (length arcs)) [
        | inl less ↦
            let at = slice_get-get_or arcs i (record { tail = 0; head = 0; least = pos 0 }) less in
            let is = some_same _ e (sym (forward_in i _ at) ∙ h) in
            let q = r.forwards i _ at in
            inl (_, q.1, q.0 ∙ ap Some is, subst (λ x. IsMove arcs flow x (record { arc = i; back = false })) is (more i _ at))
        | inr ge ↦
            let k = i - length arcs in
            let i_is : length arcs + k ≡ i = omega arith in
            let at = slice_get-get_or arcs k (record { tail = 0; head = 0; least = pos 0 }) (omega arith) in
            let here = subst (λ x. slice_get (usable edges flow) x ≡ Some e) (sym i_is) h in
            let q = r.backwards k _ at in
            elim (cases_eq (slice_index flow k) 0) [
              | inl none ↦
                  let is = some_same _ e (sym (backward_at k _ at ∙ ap Some (limited_none (slice_index flow k) _ none)) ∙ here) in
                  inr (sym (ap (λ (x : Edge). x.head) is) ∙ ap (λ (x : Edge). x.tail) is, sym (ap (λ (x : Edge). x.cost) is))
              | inr some ↦
                  let units : 0 < slice_index flow k = omega arith in
                  let is = some_same _ e (sym (backward_in k _ at units) ∙ here) in
                  inl (
                    record { arc = k; back = true },
                    subst (λ x. slice_get steps x ≡ Some (record { arc = k; back = true })) i_is q.1,
                    subst (λ x. slice_get edges x ≡ Some e) i_is (q.0 ∙ ap Some is),
                    subst (λ x. IsMove arcs flow x (record { arc = k; back = true })) is (fewer k _ at units),
                  )
            ]
      ]

  -- what holds of both edges of each arc holds of all
  pub residual_all : (P : Edge → Type 0) → ((k : ℕ) (a : Arc) → slice_get arcs k ≡ Some a → P (forward a) × P (backward a)) → All P edges
  residual_all P both i d l =
      let at = slice_get-get_or edges i d l in
      let many = r.edges_each in
      elim (cases_lt i (length arcs)) [
        | inl less ↦
            let arc = slice_get-get_or arcs i (record { tail = 0; head = 0; least = pos 0 }) less in
            let b : Arc = get_or arcs i (record { tail = 0; head = 0; least = pos 0 }) in
            subst P (some_same (forward b) (get_or edges i d) (sym (r.forwards i b arc).0 ∙ at)) (both i b arc).0
        | inr ge ↦
            let k = i - length arcs in
            let i_is : length arcs + k ≡ i = omega arith in
            let arc = slice_get-get_or arcs k (record { tail = 0; head = 0; least = pos 0 }) (omega arith) in
            let b : Arc = get_or arcs k (record { tail = 0; head = 0; least = pos 0 }) in
            subst P (some_same (backward b) (get_or edges i d) (sym (subst (λ x. slice_get edges x ≡ Some (backward b)) i_is (r.backwards k b arc).0) ∙ at)) (both k b arc).1
      ]
