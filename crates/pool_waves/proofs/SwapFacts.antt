-- The lists of values and those of the pool change places, one after another.
use Rattle.std.proofs.Common.{◌≡◌, ◌≢◌, ℕ, ◌+◌, ◌<◌, ◌≤◌, ℤ, List, [], length, get_or, set, refl, sym, ◌∙◌, ap, subst, arith, inl, inr}
use Rattle.std.proofs.lemmas.List.{get_or-set_same, get_or-set_other, length-set, get_or_default}
use Rattle.std.proofs.lemmas.Bool.{cases_eq}
use Rattle.pool_waves.specs.Exchanges.{Swapped, IsDistinct, AreApart, Exchanged, SameHomes}
use Rattle.pool_waves.specs.declared.job.Home.{Home}
use Rattle.pool_waves.specs.declared.job.Desk.{Desk}

abbrev home : List Home → ℕ → Home → ℕ
home hs o e = (get_or hs o e).buffer

pub record Swapping (hs : List Home) (outs pool : List (List ℤ)) (i : ℕ) (outs' pool' : List (List ℤ)) : Type 0 where
  pub outs_len : length outs' ≡ length outs
  pub pool_len : length pool' ≡ length pool
  pub given : (o : ℕ) (e : Home) → o < i → get_or outs' o [] ≡ get_or pool (home hs o e) []
  pub lent : (o : ℕ) (e : Home) → o < i → get_or pool' (home hs o e) [] ≡ get_or outs o []
  pub waits : (o : ℕ) → i ≤ o → get_or outs' o [] ≡ get_or outs o []
  pub others : (b : ℕ) → ((o : ℕ) (e : Home) → o < i → home hs o e ≢ b) → get_or pool' b [] ≡ get_or pool b []

pub swapping_none : (hs : List Home) (outs pool : List (List ℤ)) → Swapping hs outs pool 0 outs pool
swapping_none hs outs pool = record {
  outs_len = refl;
  pool_len = refl;
  given = λ o e h. absurd (omega arith);
  lent = λ o e h. absurd (omega arith);
  waits = λ o h. refl;
  others = λ b h. refl;
}

pub swapping_more : (hs : List Home) (outs pool : List (List ℤ)) (i : ℕ) (outs' pool' : List (List ℤ)) (d : Home)
    → length outs ≡ length hs → ((o : ℕ) (e : Home) → o < length hs → home hs o e < length pool) → IsDistinct hs → i < length hs
    → Swapping hs outs pool i outs' pool'
    → Swapping hs outs pool (i + 1) (set outs' i (get_or pool' (home hs i d) [])) (set pool' (home hs i d) (get_or outs' i []))
swapping_more hs outs pool i outs' pool' d len within distinct lt s =
    let b : ℕ = home hs i d in
    let fits : i < length outs' = omega (arith, s.outs_len) in
    let fits_pool : b < length pool' = subst (λ z. b < z) (sym s.pool_len) (within i d lt) in
    let still : get_or pool' b [] ≡ get_or pool b [] =
    s.others b (λ o e small same.
    let other : home hs o d ≡ home hs i d = ap (λ (z : Home). z.buffer) (get_or_default hs o d e (omega arith)) ∙ same in
    let q : o ≡ i = distinct.apart o i d (omega arith) lt other in
    omega arith) in
    record {
      outs_len = length-set outs' i _ ∙ s.outs_len;
      pool_len = length-set pool' b _ ∙ s.pool_len;
      given = λ o e small.
          elim (cases_eq o i) [
            | inl at ↦
                ap (λ z. get_or (set outs' i (get_or pool' b [])) z []) at
                ∙ (get_or-set_same outs' i _ [] fits
                ∙ (still ∙ ap (λ z. get_or pool z []) (ap (λ (z : Home). z.buffer) (get_or_default hs i d e lt) ∙ ap (λ z. home hs z e) (sym at))))
            | inr ne ↦ get_or-set_other outs' i o _ [] ne ∙ s.given o e (omega arith)
          ];
      lent = λ o e small.
          elim (cases_eq o i) [
            | inl at ↦
                let same : home hs o e ≡ b = ap (λ z. home hs z e) at ∙ ap (λ (z : Home). z.buffer) (get_or_default hs i e d lt) in
                ap (λ z. get_or (set pool' b (get_or outs' i [])) z []) same
                ∙ (get_or-set_same pool' b _ [] fits_pool ∙ (s.waits i (omega arith) ∙ ap (λ z. get_or outs z []) (sym at)))
            | inr ne ↦
                let apart : home hs o e ≡ b → ⊥
                = λ same. ne (distinct.apart o i d (omega arith) lt (ap (λ (z : Home). z.buffer) (get_or_default hs o d e (omega arith)) ∙ same)) in
                get_or-set_other pool' b (home hs o e) _ [] apart ∙ s.lent o e (omega arith)
          ];
      waits = λ o le. get_or-set_other outs' i o _ [] (λ e. omega arith) ∙ s.waits o (omega arith);
      others = λ c h. get_or-set_other pool' b c _ [] (λ e. h i d (omega arith) (sym e)) ∙ s.others c (λ o e small. h o e (omega arith));
    }

pub swapped : (hs : List Home) (outs pool : List (List ℤ)) (i : ℕ) (outs' pool' : List (List ℤ)) → length hs ≤ i → i ≤ length hs
    → Swapping hs outs pool i outs' pool' → Swapped hs outs pool outs' pool'
swapped hs outs pool i outs' pool' le ge s = record {
  outs_len = s.outs_len;
  pool_len = s.pool_len;
  given = λ o e h. s.given o e (omega arith);
  lent = λ o e h. s.lent o e (omega arith);
  others = λ b h. s.others b (λ o e small. h o e (omega arith));
}

pub swapping_next : (hs : List Home) (outs pool : List (List ℤ)) (i : ℕ) (outs' pool' : List (List ℤ)) (d : Home) (y z e f : List ℤ)
    → length outs ≡ length hs → ((o : ℕ) (e : Home) → o < length hs → home hs o e < length pool) → IsDistinct hs → i < length hs
    → y ≡ get_or pool' (home hs i d) e → z ≡ get_or outs' i f
    → Swapping hs outs pool i outs' pool'
    → Swapping hs outs pool (i + 1) (set outs' i y) (set pool' (home hs i d) z)
swapping_next hs outs pool i outs' pool' d y z e f len within distinct lt ye zf s =
    let y' : y ≡ get_or pool' (home hs i d) []
    = ye ∙ get_or_default pool' (home hs i d) e [] (subst (λ n. home hs i d < n) (sym s.pool_len) (within i d lt)) in
    let z' : z ≡ get_or outs' i [] = zf ∙ get_or_default outs' i f [] (let l = s.outs_len in omega arith) in
    subst (λ w. Swapping hs outs pool (i + 1) (set outs' i w) (set pool' (home hs i d) z)) (sym y')
    (subst (λ w. Swapping hs outs pool (i + 1) (set outs' i (get_or pool' (home hs i d) [])) (set pool' (home hs i d) w)) (sym z')
    (swapping_more hs outs pool i outs' pool' d len within distinct lt s))

-- ---- all jobs of a wave

abbrev job_home : List Desk → ℕ → ℕ → Desk → Home → ℕ
job_home jobs i o d e = home (get_or jobs i d).homes.items o e

pub record Exchanging (jobs : List Desk) (pool : List (List ℤ)) (i : ℕ) (jobs' : List Desk) (pool' : List (List ℤ)) : Type 0 where
  pub jobs_len : length jobs' ≡ length jobs
  pub pool_len : length pool' ≡ length pool
  pub kept : (j : ℕ) (d : Desk) → j < length jobs → SameHomes (get_or jobs j d) (get_or jobs' j d)
  pub outs_len : (j : ℕ) (d : Desk) → j < length jobs → length (get_or jobs' j d).outs.items ≡ length (get_or jobs j d).outs.items
  pub given : (j o : ℕ) (d : Desk) (e : Home) → j < i → o < length (get_or jobs j d).homes.items
      → get_or (get_or jobs' j d).outs.items o [] ≡ get_or pool (job_home jobs j o d e) []
  pub lent : (j o : ℕ) (d : Desk) (e : Home) → j < i → o < length (get_or jobs j d).homes.items
      → get_or pool' (job_home jobs j o d e) [] ≡ get_or (get_or jobs j d).outs.items o []
  pub waits : (j : ℕ) (d : Desk) → i ≤ j → get_or jobs' j d ≡ get_or jobs j d
  pub others : (b : ℕ) → ((j o : ℕ) (d : Desk) (e : Home) → j < i → o < length (get_or jobs j d).homes.items → job_home jobs j o d e ≢ b)
      → get_or pool' b [] ≡ get_or pool b []

pub exchanging_none : (jobs : List Desk) (pool : List (List ℤ)) → Exchanging jobs pool 0 jobs pool
exchanging_none jobs pool = record {
  jobs_len = refl;
  pool_len = refl;
  kept = λ j d h. refl;
  outs_len = λ j d h. refl;
  given = λ j o d e h. absurd (omega arith);
  lent = λ j o d e h. absurd (omega arith);
  waits = λ j d h. refl;
  others = λ b h. refl;
}

pub exchanging_more : (jobs : List Desk) (pool : List (List ℤ)) (i : ℕ) (jobs' : List Desk) (pool' : List (List ℤ)) (b c : Desk) (pool'' : List (List ℤ))
    → AreApart jobs → i < length jobs
    → b ≡ get_or jobs' i b → SameHomes b c → Swapped b.homes.items b.outs.items pool' c.outs.items pool''
    → Exchanging jobs pool i jobs' pool' → Exchanging jobs pool (i + 1) (set jobs' i c) pool''
exchanging_more jobs pool i jobs' pool' b c pool'' apart lt bi kept s x =
    let fits : i < length jobs' = subst (λ z. i < z) (sym x.jobs_len) lt in
    let b_is : (d : Desk) → b ≡ get_or jobs i d = λ d. bi ∙ (get_or_default jobs' i b d fits ∙ x.waits i d (omega arith)) in
    let c_is : (d : Desk) → get_or (set jobs' i c) i d ≡ c = λ d. get_or-set_same jobs' i c d fits in
    record {
      jobs_len = length-set jobs' i c ∙ x.jobs_len;
      pool_len = s.pool_len ∙ x.pool_len;
      kept = λ j d h.
          elim (cases_eq j i) [
            | inl at ↦
                let P : Desk → Desk → Type 0 = λ u v. SameHomes u v in
                subst (λ u. SameHomes u (get_or (set jobs' i c) j d)) (b_is d ∙ ap (λ z. get_or jobs z d) (sym at))
                (subst (λ v. SameHomes b v) (sym (ap (λ z. get_or (set jobs' i c) z d) at ∙ c_is d)) kept)
            | inr ne ↦ subst (λ v. SameHomes (get_or jobs j d) v) (sym (get_or-set_other jobs' i j c d ne)) (x.kept j d h)
          ];
      outs_len = λ j d h.
          elim (cases_eq j i) [
            | inl at ↦
                ap (λ (v : Desk). length v.outs.items) (ap (λ z. get_or (set jobs' i c) z d) at ∙ c_is d)
                ∙ (s.outs_len ∙ ap (λ (v : Desk). length v.outs.items) (b_is d ∙ ap (λ z. get_or jobs z d) (sym at)))
            | inr ne ↦ ap (λ (v : Desk). length v.outs.items) (get_or-set_other jobs' i j c d ne) ∙ x.outs_len j d h
          ];
      given = λ j o d e small within.
          elim (cases_eq j i) [
            | inl at ↦
                let bj : b ≡ get_or jobs j d = b_is d ∙ ap (λ z. get_or jobs z d) (sym at) in
                let within' : o < length b.homes.items = subst (λ (v : Desk). o < length v.homes.items) (sym bj) within in
                let clear : get_or pool' (home b.homes.items o e) [] ≡ get_or pool (home b.homes.items o e) [] =
                x.others (home b.homes.items o e) (λ k q d' e' less inside same.
                let one : job_home jobs k q d' e ≡ job_home jobs i o d' e =
                ap (λ (z : Home). z.buffer) (get_or_default (get_or jobs k d').homes.items q e e' inside)
                ∙ (same ∙ ap (λ (v : Desk). home v.homes.items o e) (b_is d')) in
                let p : k ≡ i
                = (apart.apart k i q o d' e (omega arith) lt inside (subst (λ (v : Desk). o < length v.homes.items) (b_is d') within') one).0 in
                omega arith) in
                ap (λ (v : Desk). get_or v.outs.items o []) (ap (λ z. get_or (set jobs' i c) z d) at ∙ c_is d)
                ∙ (s.given o e within' ∙ (clear ∙ ap (λ (v : Desk). get_or pool (home v.homes.items o e) []) bj))
            | inr ne ↦ ap (λ (v : Desk). get_or v.outs.items o []) (get_or-set_other jobs' i j c d ne)
                ∙ x.given j o d e (omega arith) within
          ];
      lent = λ j o d e small within.
          elim (cases_eq j i) [
            | inl at ↦
                let bj : b ≡ get_or jobs j d = b_is d ∙ ap (λ z. get_or jobs z d) (sym at) in
                let within' : o < length b.homes.items = subst (λ (v : Desk). o < length v.homes.items) (sym bj) within in
                ap (λ (v : Desk). get_or pool'' (home v.homes.items o e) []) (sym bj)
                ∙ (s.lent o e within' ∙ ap (λ (v : Desk). get_or v.outs.items o []) bj)
            | inr ne ↦
                let clear : get_or pool'' (job_home jobs j o d e) [] ≡ get_or pool' (job_home jobs j o d e) [] =
                s.others (job_home jobs j o d e) (λ q e' inside same.
                let inside' : q < length (get_or jobs i d).homes.items = subst (λ (v : Desk). q < length v.homes.items) (b_is d) inside in
                let one : job_home jobs i q d e ≡ job_home jobs j o d e =
                ap (λ (v : Desk). home v.homes.items q e) (sym (b_is d))
                ∙ (ap (λ (z : Home). z.buffer) (get_or_default b.homes.items q e e' inside) ∙ same) in
                ne (sym (apart.apart i j q o d e lt (omega arith) inside' within one).0)) in
                clear ∙ x.lent j o d e (omega arith) within
          ];
      waits = λ j d le. get_or-set_other jobs' i j c d (λ e. omega arith) ∙ x.waits j d (omega arith);
      others = λ a h.
          s.others a (λ o e inside. subst (λ (v : Desk). home v.homes.items o e ≢ a) (sym (b_is b)) (h i o b e (omega arith) (subst (λ (v : Desk). o < length v.homes.items) (b_is b) inside)))
          ∙ x.others a (λ j o d e small inside. h j o d e (omega arith) inside);
    }

pub exchanged : (jobs : List Desk) (pool : List (List ℤ)) (i : ℕ) (jobs' : List Desk) (pool' : List (List ℤ)) → length jobs ≤ i
    → i ≤ length jobs
    → Exchanging jobs pool i jobs' pool' → Exchanged jobs pool jobs' pool'
exchanged jobs pool i jobs' pool' le ge x = record {
  jobs_len = x.jobs_len;
  pool_len = x.pool_len;
  kept = x.kept;
  outs_len = x.outs_len;
  given = λ j o d e h. x.given j o d e (omega arith);
  lent = λ j o d e h. x.lent j o d e (omega arith);
  others = λ b h. x.others b (λ j o d e small. h j o d e (omega arith));
}

pub distinct_at : (jobs : List Desk) (i : ℕ) (d : Desk) → i < length jobs → AreApart jobs → IsDistinct (get_or jobs i d).homes.items
distinct_at jobs i d lt a = record { apart = λ o q e ho hq same. (a.apart i i o q d e lt lt ho hq same).1 }
