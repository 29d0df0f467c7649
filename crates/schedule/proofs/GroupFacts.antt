-- Items by their groups, one entry more.
use Rattle.std.proofs.Common.{◌≡◌, ℕ, ◌+◌, ◌<◌, ◌==◌, List, [], ◌∷◌, ◌++◌, length, map, take, set, get_or, refl, sym, ap, ◌∙◌, arith, true, false, cond, filter, inl, inr}
use Rattle.std.proofs.lemmas.Bool.{cases_eq}
use Rattle.std.proofs.lemmas.List.{append-nil, get_or_default, get_or-set_same, get_or-set_other, length-set, take_more}
use Rattle.graph_model.proofs.CommonFacts.{not_same}
use Rattle.graph_model.proofs.PathLaws.{same_name}
use Rattle.schedule.specs.Groups.{AreGroups, items_of}
use Rattle.schedule.specs.declared.groups.Entry.{Entry}

module _ {T : Type 0} where
  -- one entry more stands in its group alone
  items_more : (es : List (Entry T)) (e : Entry T) (k : ℕ) → items_of (es ++ e ∷ []) k ≡ items_of es k ++ cond (e.group == k) (e.item ∷ []) []
  items_more [] e k = elim (e.group == k) as (λ b. map (λ (x : Entry T). x.item) (cond b (e ∷ []) []) ≡ cond b (e.item ∷ []) []) [ true ↦ refl | false ↦ refl ]
  items_more (x ∷ es) e k =
      let rest = items_more es e k in
      elim (x.group == k) as (λ b. map (λ (y : Entry T). y.item) (cond b (x ∷ filter (λ y. y.group == k) (es ++ e ∷ [])) (filter (λ y. y.group == k) (es ++ e ∷ [])))
      ≡ map (λ (y : Entry T). y.item) (cond b (x ∷ filter (λ y. y.group == k) es) (filter (λ y. y.group == k) es)) ++ cond (e.group == k) (e.item ∷ []) []) [
        | true ↦ ap (λ is. x.item ∷ is) rest
        | false ↦ rest
      ]

  pub groups_more : (count : ℕ) (es : List (Entry T)) (i : ℕ) (e : Entry T) (groups : List (List T)) (old new : List T) → i < length es → get_or es i e ≡ e → e.group < count
      → old ≡ get_or groups e.group old → new ≡ old ++ e.item ∷ [] → AreGroups count (take i es) groups → AreGroups count (take (i + 1) es) (set groups e.group new)
  groups_more count es i e groups old new lt is within read written are = record {
    count_is = length-set groups e.group new ∙ are.count_is;
    each = λ k lk.
        let more = ap (λ xs. items_of xs k) (take_more es i e lt ∙ ap (λ x. take i es ++ x ∷ []) is) ∙ items_more (take i es) e k in
        elim (cases_eq k e.group) [
          | inl same ↦
              (let test : (e.group == k) ≡ true = ap (λ j. e.group == j) same ∙ same_name e.group in
              let here = ap (λ j. get_or (set groups e.group new) j []) same ∙ get_or-set_same groups e.group new [] (let c = are.count_is in omega arith) in
              here ∙ written ∙ ap (λ xs. xs ++ e.item ∷ []) (read ∙ get_or_default groups e.group old [] (omega (arith, within, are.count_is)) ∙ ap (λ j. get_or groups j []) (sym same) ∙ are.each k lk) ∙ sym (more ∙ ap (λ b. items_of (take i es) k ++ cond b (e.item ∷ []) []) test))
          | inr other ↦
              (let test : (e.group == k) ≡ false = not_same e.group k (λ q. other (sym q)) in
              get_or-set_other groups e.group k new [] other ∙ are.each k lk ∙ sym (more ∙ ap (λ b. items_of (take i es) k ++ cond b (e.item ∷ []) []) test ∙ append-nil (items_of (take i es) k)))
        ];
  }
