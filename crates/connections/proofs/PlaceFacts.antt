-- The places of connections, and one connection more.
use Rattle.std.proofs.Common.{◌≡◌, ℕ, ◌+◌, ◌<◌, ◌&&◌, List, length, take, get_or, refl, sym, ◌∙◌, ap, subst, arith, Bool, true, false, cond, Option, Some, None, MatchOption, inl, inr}
use Rattle.std.specs.Prelude.{slice_get}
use Rattle.std.specs.Cmp.{first_so, second_so}
use Rattle.std.specs.HashMap.{HashMap}
use Rattle.std.specs.List.{Contains}
use Rattle.std.proofs.lemmas.Bool.{eqb-true, false≢true}
use Rattle.std.proofs.lemmas.List.{take_more}
use Rattle.std.proofs.lemmas.List.Elements.{Contains-push_cases}
use Rattle.std.proofs.lemmas.Option.{slice_get-get_or}
use Rattle.graph_model.specs.declared.graph.Connection.{Connection}
use Rattle.graph_model.proofs.PathLaws.{same_name}
use Rattle.connections.specs.declared.joints.Joint.{Joint}
use Rattle.connections.specs.Places.{joint, same_joint, place_in, HasPlace, ArePlaces}

same_self : (j : Joint) → same_joint j j ≡ true
same_self j =
    let a = same_name j.source in
    let b = same_name j.source_channel in
    let c = same_name j.destination in
    let d = same_name j.destination_channel in
    λ i. a i && (b i && (c i && d i))

same_is : (x c : Connection) → same_joint (joint x) (joint c) ≡ true → x ≡ c
same_is x c e =
    let src : x.src.0 ≡ c.src.0 = eqb-true _ _ (first_so _ _ e) in
    let rest = second_so _ _ e in
    let src_channel : x.src_channel ≡ c.src_channel = eqb-true _ _ (first_so _ _ rest) in
    let last = second_so _ _ rest in
    let dst : x.dst.0 ≡ c.dst.0 = eqb-true _ _ (first_so _ _ last) in
    let dst_channel : x.dst_channel ≡ c.dst_channel = eqb-true _ _ (second_so _ _ last) in
    λ i. record { src = record { 0 = src i }; src_channel = src_channel i; dst = record { 0 = dst i }; dst_channel = dst_channel i }

module _ {S : Type 0} (cs : List Connection) (k : ℕ) (m : HashMap Joint ℕ S) (all : ArePlaces cs k m) where
  -- where nothing is kept of a connection it is not among the first k
  pub is_new : (c : Connection) → place_in m c ≡ None → ¬ (Contains (take k cs) c)
  is_new c none = subst (λ o. MatchOption o (¬ (Contains (take k cs) c)) (λ i. (i < k) × (slice_get cs i ≡ Some c))) none (all c)

  module _ (d : Connection) (lt : k < length cs) where
    abbrev here : Connection
    here = get_or cs k d

    still : (c : Connection) → same_joint (joint here) (joint c) ≡ false → (o : Option ℕ) → MatchOption o (¬ (Contains (take k cs) c)) (λ i. (i < k) × (slice_get cs i ≡ Some c))
        → MatchOption o (¬ (Contains (take (k + 1) cs) c)) (λ i. (i < k + 1) × (slice_get cs i ≡ Some c))
    still c other (Some i) at = (let l = at.0 in omega arith, at.1)
    still c other None new = λ has.
        elim (Contains-push_cases (take k cs) here c (subst (λ (xs : List Connection). Contains xs c) (take_more cs k d lt) has)) [
          | inl before ↦ new before
          | inr same ↦ false≢true (sym other ∙ ap (λ (x : Connection). same_joint (joint x) (joint c)) same ∙ same_self (joint c))
        ]

    -- one place more
    pub one_place : (n : HashMap Joint ℕ S) → HasPlace m n here k → ArePlaces cs (k + 1) n
    one_place n has c = go (same_joint (joint here) (joint c)) refl (has c)
      where
        go : (b : Bool) → same_joint (joint here) (joint c) ≡ b → place_in n c ≡ cond b (Some k) (place_in m c)
            → MatchOption (place_in n c) (¬ (Contains (take (k + 1) cs) c)) (λ i. (i < k + 1) × (slice_get cs i ≡ Some c))
        go true e is =
            subst (λ o. MatchOption o (¬ (Contains (take (k + 1) cs) c)) (λ i. (i < k + 1) × (slice_get cs i ≡ Some c))) (sym is)
            (omega arith, slice_get-get_or cs k d lt ∙ ap (λ x. Some x) (same_is here c e))
        go false e is =
            subst (λ o. MatchOption o (¬ (Contains (take (k + 1) cs) c)) (λ i. (i < k + 1) × (slice_get cs i ≡ Some c))) (sym is)
            (still c e (place_in m c) (all c))
