-- The jobs of a wave trade one after another.
use Rattle.std.proofs.Common.{◌≡◌, ℕ, ◌+◌, ◌<◌, ◌≤◌, zero, suc, ℤ, List, [], ◌∷◌, length, map, get_or, set, refl, sym, ◌∙◌, ap, subst, arith, inl, inr}
use Rattle.std.proofs.lemmas.List.{get_or-set_same, get_or-set_other, length-set, get_or_default, get_or-map, length-map}
use Rattle.std.proofs.lemmas.Bool.{cases_eq}
use Rattle.pool_waves.specs.Exchanges.{Swapped, AreApart, Exchanged, SameBut, desks}
use Rattle.pool_waves.specs.declared.job.Desk.{Desk}
use Rattle.pool_waves.specs.declared.job.Job.{Job}
use Rattle.pool_waves.proofs.SwapFacts.{Exchanging, exchanging_none, exchanging_more, exchanged}

pub map_set : {X Y : Type 0} (f : X → Y) (xs : List X) (i : ℕ) (x : X) → map f (set xs i x) ≡ set (map f xs) i (f x)
map_set f [] i x = refl
map_set f (y ∷ ys) zero x = refl
map_set f (y ∷ ys) (suc i) x = ap (λ zs. f y ∷ zs) (map_set f ys i x)

pub desk_at : {P : Type 0} (jobs : List (Job P)) (i : ℕ) (d : Job P) (e : Desk) → i < length jobs
    → get_or (desks jobs) i e ≡ (get_or jobs i d).desk
desk_at jobs i d e lt = get_or-map (λ (j : Job _). j.desk) jobs i d e lt

pub record Trading {P : Type 0} (jobs : List (Job P)) (pool : List (List ℤ)) (i : ℕ) (jobs' : List (Job P)) (pool' : List (List ℤ)) : Type 0 where
  pub exchanging : Exchanging (desks jobs) pool i (desks jobs') pool'
  pub same : SameBut jobs jobs'

pub trading_none : {P : Type 0} (jobs : List (Job P)) (pool : List (List ℤ)) → Trading jobs pool 0 jobs pool
trading_none jobs pool = record {
  exchanging = exchanging_none (desks jobs) pool;
  same = record { len = refl; nodes = λ i d lt. refl; indices = λ i d lt. refl; parts = λ i d lt. refl };
}

-- what is asked of a job's desk is asked of the desk as it was
pub waiting : {P : Type 0} (jobs : List (Job P)) (pool : List (List ℤ)) (i : ℕ) (jobs' : List (Job P)) (pool' : List (List ℤ)) (d e : Job P) → i < length jobs → Trading jobs pool i jobs' pool'
    → (get_or jobs' i d).desk ≡ (get_or jobs i e).desk
waiting jobs pool i jobs' pool' d e lt t =
    let lt' : i < length jobs' = subst (λ z. i < z) (sym t.same.len) lt in
    sym (desk_at jobs' i d d.desk lt') ∙ t.exchanging.waits i d.desk (omega arith) ∙ desk_at jobs i e d.desk lt

pub trading_more : {P : Type 0} (jobs : List (Job P)) (pool : List (List ℤ)) (i : ℕ) (jobs' : List (Job P)) (pool' : List (List ℤ)) (b c : Job P) (pool'' : List (List ℤ))
    → AreApart (desks jobs) → i < length jobs → b ≡ get_or jobs' i b
    → c.node ≡ b.node → c.index ≡ b.index → c.part ≡ b.part → c.desk.homes.items ≡ b.desk.homes.items
    → Swapped b.desk.homes.items b.desk.outs.items pool' c.desk.outs.items pool''
    → Trading jobs pool i jobs' pool' → Trading jobs pool (i + 1) (set jobs' i c) pool''
trading_more jobs pool i jobs' pool' b c pool'' apart lt bi node index part homes s t =
    let lt' : i < length jobs' = subst (λ z. i < z) (sym t.same.len) lt in
    let ltd : i < length (desks jobs) = subst (λ z. i < z) (sym (length-map jobs (λ (j : Job _). j.desk))) lt in
    record {
      exchanging = subst (λ ds. Exchanging (desks jobs) pool (i + 1) ds pool'') (sym (map_set (λ (j : Job _). j.desk) jobs' i c))
          (exchanging_more (desks jobs) pool i (desks jobs') pool' b.desk c.desk pool'' apart ltd
          (ap (λ (j : Job _). j.desk) bi ∙ sym (desk_at jobs' i b b.desk lt')) homes s t.exchanging);
      same = record {
        len = length-set jobs' i c ∙ t.same.len;
        nodes = λ j d h. elim (cases_eq j i) [
          | inl at ↦ ap (λ z. (get_or (set jobs' i c) z d).node) at ∙ ap (λ (v : Job _). v.node) (get_or-set_same jobs' i c d lt') ∙ node
              ∙ ap (λ (v : Job _). v.node) (bi ∙ get_or_default jobs' i b d lt') ∙ t.same.nodes i d lt
              ∙ ap (λ z. (get_or jobs z d).node) (sym at)
          | inr ne ↦ ap (λ (v : Job _). v.node) (get_or-set_other jobs' i j c d ne) ∙ t.same.nodes j d h
        ];
        indices = λ j d h. elim (cases_eq j i) [
          | inl at ↦ ap (λ z. (get_or (set jobs' i c) z d).index) at ∙ ap (λ (v : Job _). v.index) (get_or-set_same jobs' i c d lt') ∙ index
              ∙ ap (λ (v : Job _). v.index) (bi ∙ get_or_default jobs' i b d lt') ∙ t.same.indices i d lt
              ∙ ap (λ z. (get_or jobs z d).index) (sym at)
          | inr ne ↦ ap (λ (v : Job _). v.index) (get_or-set_other jobs' i j c d ne) ∙ t.same.indices j d h
        ];
        parts = λ j d h. elim (cases_eq j i) [
          | inl at ↦ ap (λ z. (get_or (set jobs' i c) z d).part) at ∙ ap (λ (v : Job _). v.part) (get_or-set_same jobs' i c d lt') ∙ part
              ∙ ap (λ (v : Job _). v.part) (bi ∙ get_or_default jobs' i b d lt') ∙ t.same.parts i d lt
              ∙ ap (λ z. (get_or jobs z d).part) (sym at)
          | inr ne ↦ ap (λ (v : Job _). v.part) (get_or-set_other jobs' i j c d ne) ∙ t.same.parts j d h
        ];
      };
    }

pub traded : {P : Type 0} (jobs : List (Job P)) (pool : List (List ℤ)) (i : ℕ) (jobs' : List (Job P)) (pool' : List (List ℤ))
    → length jobs ≤ i → i ≤ length jobs
    → Trading jobs pool i jobs' pool' → Exchanged (desks jobs) pool (desks jobs') pool'
traded jobs pool i jobs' pool' le ge t =
    let l = length-map jobs (λ (j : Job _). j.desk) in
    exchanged (desks jobs) pool i (desks jobs') pool' (omega (arith, l)) (omega (arith, l)) t.exchanging
