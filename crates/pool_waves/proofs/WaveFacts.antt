-- A wave: out of the pool, all jobs, back into the pool.
use Rattle.std.proofs.Common.{◌≡◌, ◌≢◌, ℕ, ◌<◌, ℤ, List, [], ◌∷◌, length, get_or, sym, ◌∙◌, ap, subst, arith}
use Rattle.std.proofs.lemmas.List.{get_or-map, length-map, ext_get_or}
use Rattle.pool_waves.specs.Exchanges.{AreApart, Exchanged, SameBut, desks}
use Rattle.pool_waves.specs.Waves.{IsLent, taken, PartDone, IsWave, WaveRan}
use Rattle.pool_waves.specs.declared.job.Home.{Home}
use Rattle.pool_waves.specs.declared.job.Desk.{Desk}
use Rattle.pool_waves.specs.declared.job.Job.{Job}
use Rattle.pool_waves.proofs.ExchangeFacts.{desk_at}

abbrev no_home : Home
no_home = record { channel = 0; buffer = 0 }

taken_is : (pool outs : List (List ℤ)) (homes : List Home) → length outs ≡ length homes
    → ((o : ℕ) (e : Home) → o < length homes → get_or outs o [] ≡ get_or pool (get_or homes o e).buffer [])
    → outs ≡ taken pool homes
taken_is pool outs homes len each =
    let lm = length-map homes (λ (h : Home). get_or pool h.buffer []) in
    ext_get_or [] outs (taken pool homes) (len ∙ sym lm)
    (λ k lt. each k no_home (omega arith) ∙ sym (get_or-map (λ (h : Home). get_or pool h.buffer []) homes k no_home [] (omega arith)))

apart_same : (ds es : List Desk) → length es ≡ length ds
    → ((i : ℕ) (d : Desk) → i < length ds → (get_or es i d).homes.items ≡ (get_or ds i d).homes.items) → AreApart ds → AreApart es
apart_same ds es len same a = record {
  apart = λ i j o q d e hi hj.
      let hi' : i < length ds = subst (λ z. i < z) len hi in
      let hj' : j < length ds = subst (λ z. j < z) len hj in
      let P : List Home → List Home → Type 0
      = λ x y. o < length x → q < length y → (get_or x o e).buffer ≡ (get_or y q e).buffer → (i ≡ j) × (o ≡ q) in
      subst (λ x. P x (get_or es j d).homes.items) (sym (same i d hi'))
      (subst (λ y. P (get_or ds i d).homes.items y) (sym (same j d hj')) (a.apart i j o q d e hi' hj'));
}

module _ {P : Type 0} (ready : List (List ℤ) → List Home → List (List ℤ) → P → Type 0) (done : List (List ℤ) → List Home → List (List ℤ) → P → List (List ℤ) → P → Type 0)
    (pool : List (List ℤ)) (jobs : List (Job P)) (wave : IsWave ready pool jobs)
    (pool1 : List (List ℤ)) (jobs1 : List (Job P)) (x : Exchanged (desks jobs) pool (desks jobs1) pool1) (s : SameBut jobs jobs1) where
  dl : length (desks jobs) ≡ length jobs
  dl = length-map jobs (λ (j : Job P). j.desk)

  dl1 : length (desks jobs1) ≡ length jobs1
  dl1 = length-map jobs1 (λ (j : Job P). j.desk)

  pub lent : IsLent (desks jobs) pool pool1
  lent = record { len = x.pool_len; free = λ b f. x.others b f }

  homes1 : (i : ℕ) (d : Job P) → i < length jobs → (get_or jobs1 i d).desk.homes.items ≡ (get_or jobs i d).desk.homes.items
  homes1 i d lt =
      let l1 : i < length jobs1 = subst (λ z. i < z) (sym s.len) lt in
      sym (ap (λ (v : Desk). v.homes.items) (desk_at jobs1 i d d.desk l1)) ∙ x.kept i d.desk (omega (arith, dl))
      ∙ ap (λ (v : Desk). v.homes.items) (desk_at jobs i d d.desk lt)

  outs1 : (i : ℕ) (d : Job P) → i < length jobs → (get_or jobs1 i d).desk.outs.items ≡ taken pool (get_or jobs i d).desk.homes.items
  outs1 i d lt =
      let l1 : i < length jobs1 = subst (λ z. i < z) (sym s.len) lt in
      let ld : i < length (desks jobs) = omega (arith, dl) in
      let at1 = desk_at jobs1 i d d.desk l1 in
      let at = desk_at jobs i d d.desk lt in
      taken_is pool (get_or jobs1 i d).desk.outs.items (get_or jobs i d).desk.homes.items
      (sym (ap (λ (v : Desk). length v.outs.items) at1) ∙ x.outs_len i d.desk ld ∙ ap (λ (v : Desk). length v.outs.items) at ∙ wave.outs i d lt)
      (λ o e lo.
      sym (ap (λ (v : Desk). get_or v.outs.items o []) at1)
      ∙ x.given i o d.desk e ld (subst (λ (v : Desk). o < length v.homes.items) (sym at) lo)
      ∙ ap (λ (v : Desk). get_or pool (get_or v.homes.items o e).buffer []) at)

  -- each part is ready over what is left
  pub ready1 : (i : ℕ) (d : Job P) → i < length jobs1
      → ready pool1 (get_or jobs1 i d).desk.homes.items (get_or jobs1 i d).desk.outs.items (get_or jobs1 i d).part
  ready1 i d l1 =
      let lt : i < length jobs = subst (λ z. i < z) s.len l1 in
      subst (λ hs. ready pool1 hs (get_or jobs1 i d).desk.outs.items (get_or jobs1 i d).part) (sym (homes1 i d lt))
      (subst (λ os. ready pool1 (get_or jobs i d).desk.homes.items os (get_or jobs1 i d).part) (sym (outs1 i d lt))
      (subst (λ p. ready pool1 (get_or jobs i d).desk.homes.items (taken pool (get_or jobs i d).desk.homes.items) p) (sym (s.parts i d lt))
      (wave.each pool1 lent i d lt)))

  module _ (jobs2 : List (Job P)) (len2 : length jobs2 ≡ length jobs1)
      (did : (i : ℕ) (d : Job P) → i < length jobs1 → PartDone (done pool1 (get_or jobs1 i d).desk.homes.items) (get_or jobs1 i d) (get_or jobs2 i d)) where
    homes2 : (i : ℕ) (d : Job P) → i < length jobs → (get_or jobs2 i d).desk.homes.items ≡ (get_or jobs i d).desk.homes.items
    homes2 i d lt = (did i d (subst (λ z. i < z) (sym s.len) lt)).homes ∙ homes1 i d lt

    outs2_len : (i : ℕ) (d : Job P) → i < length jobs
        → length (get_or jobs2 i d).desk.outs.items ≡ length (get_or jobs i d).desk.homes.items
    outs2_len i d lt =
        (did i d (subst (λ z. i < z) (sym s.len) lt)).len ∙ ap length (outs1 i d lt)
        ∙ length-map (get_or jobs i d).desk.homes.items (λ (h : Home). get_or pool h.buffer [])

    pub outs_again : (i : ℕ) (d : Job P) → i < length jobs2
        → length (get_or jobs2 i d).desk.outs.items ≡ length (get_or jobs2 i d).desk.homes.items
    outs_again i d l2 = let lt : i < length jobs = subst (λ z. i < z) (len2 ∙ s.len) l2 in outs2_len i d lt
        ∙ sym (ap length (homes2 i d lt))

    pub within_again : (i o : ℕ) (d : Job P) (e : Home) → i < length jobs2 → o < length (get_or jobs2 i d).desk.homes.items
        → (get_or (get_or jobs2 i d).desk.homes.items o e).buffer < length pool1
    within_again i o d e l2 lo =
        let lt : i < length jobs = subst (λ z. i < z) (len2 ∙ s.len) l2 in
        subst (λ z. (get_or (get_or jobs2 i d).desk.homes.items o e).buffer < z) (sym x.pool_len)
        (subst (λ hs. (get_or hs o e).buffer < length pool) (sym (homes2 i d lt)) (wave.within i o d e lt (subst (λ hs. o < length hs) (homes2 i d lt) lo)))

    dl2 : length (desks jobs2) ≡ length jobs2
    dl2 = length-map jobs2 (λ (j : Job P). j.desk)

    pick : (js : List (Job P)) (i : ℕ) → i < length js → Job P
    pick [] i lt = absurd (omega arith)
    pick (j ∷ js) i lt = j

    desk_homes2 : (i : ℕ) (d : Desk) → i < length (desks jobs)
        → (get_or (desks jobs2) i d).homes.items ≡ (get_or (desks jobs) i d).homes.items
    desk_homes2 i d ld =
        let lt : i < length jobs = omega (arith, dl) in
        let l2 : i < length jobs2 = subst (λ z. i < z) (sym (len2 ∙ s.len)) lt in
        let j = pick jobs i lt in
        ap (λ (v : Desk). v.homes.items) (desk_at jobs2 i j d l2) ∙ homes2 i j lt
        ∙ ap (λ (v : Desk). v.homes.items) (sym (desk_at jobs i j d lt))

    pub apart_again : AreApart (desks jobs2)
    apart_again = apart_same (desks jobs) (desks jobs2) (dl2 ∙ len2 ∙ s.len ∙ sym dl) desk_homes2 wave.apart

    module _ (pool3 : List (List ℤ)) (jobs3 : List (Job P)) (y : Exchanged (desks jobs2) pool1 (desks jobs3) pool3) (t : SameBut jobs2 jobs3) where
      back : (i : ℕ) (d : Job P) → i < length jobs → (get_or jobs2 i d).desk.outs.items ≡ taken pool3 (get_or jobs i d).desk.homes.items
      back i d lt =
          let l2 : i < length jobs2 = subst (λ z. i < z) (sym (len2 ∙ s.len)) lt in
          let at2 = desk_at jobs2 i d d.desk l2 in
          taken_is pool3 (get_or jobs2 i d).desk.outs.items (get_or jobs i d).desk.homes.items (outs2_len i d lt)
          (λ o e lo.
          ap (λ (v : Desk). get_or v.outs.items o []) (sym at2)
          ∙ sym (y.lent i o d.desk e (omega (arith, dl2)) (subst (λ (v : Desk). o < length v.homes.items) (sym at2) (subst (λ hs. o < length hs) (sym (homes2 i d lt)) lo)))
          ∙ ap (λ (v : Desk). get_or pool3 (get_or v.homes.items o e).buffer []) at2
          ∙ ap (λ hs. get_or pool3 (get_or hs o e).buffer []) (homes2 i d lt))

      -- the lists that lay on the desk lie there again
      returned : (i : ℕ) (d : Job P) → i < length jobs → (get_or jobs3 i d).desk.outs.items ≡ (get_or jobs i d).desk.outs.items
      returned i d lt =
          let l2 : i < length jobs2 = subst (λ z. i < z) (sym (len2 ∙ s.len)) lt in
          let l3 : i < length jobs3 = subst (λ z. i < z) (sym t.len) l2 in
          let at3 = desk_at jobs3 i d d.desk l3 in
          let at2 = desk_at jobs2 i d d.desk l2 in
          let at = desk_at jobs i d d.desk lt in
          let size : length (get_or jobs3 i d).desk.outs.items ≡ length (get_or jobs i d).desk.homes.items
          = sym (ap (λ (v : Desk). length v.outs.items) at3) ∙ y.outs_len i d.desk (omega (arith, dl2))
          ∙ ap (λ (v : Desk). length v.outs.items) at2 ∙ outs2_len i d lt in
          ext_get_or [] (get_or jobs3 i d).desk.outs.items (get_or jobs i d).desk.outs.items (size ∙ sym (wave.outs i d lt))
          (λ o lo3.
          let lo : o < length (get_or jobs i d).desk.homes.items = subst (λ n. o < n) size lo3 in
          sym (ap (λ (v : Desk). get_or v.outs.items o []) at3)
          ∙ y.given i o d.desk no_home (omega (arith, dl2)) (subst (λ (v : Desk). o < length v.homes.items) (sym at2) (subst (λ hs. o < length hs) (sym (homes2 i d lt)) lo))
          ∙ ap (λ (v : Desk). get_or pool1 (get_or v.homes.items o no_home).buffer []) at2
          ∙ ap (λ hs. get_or pool1 (get_or hs o no_home).buffer []) (homes2 i d lt)
          ∙ ap (λ (v : Desk). get_or pool1 (get_or v.homes.items o no_home).buffer []) (sym at)
          ∙ x.lent i o d.desk no_home (omega (arith, dl)) (subst (λ (v : Desk). o < length v.homes.items) (sym at) lo)
          ∙ ap (λ (v : Desk). get_or v.outs.items o []) at)

      pub wave_ran : WaveRan done pool jobs pool3 jobs3
      wave_ran = record {
        left = pool1;
        lent = lent;
        jobs_len = t.len ∙ len2 ∙ s.len;
        pool_len = y.pool_len ∙ x.pool_len;
        nodes = λ i d lt.
            let l1 : i < length jobs1 = subst (λ z. i < z) (sym s.len) lt in
            let l2 : i < length jobs2 = subst (λ z. i < z) (sym len2) l1 in
            t.nodes i d l2 ∙ (did i d l1).node ∙ s.nodes i d lt;
        indices = λ i d lt.
            let l1 : i < length jobs1 = subst (λ z. i < z) (sym s.len) lt in
            let l2 : i < length jobs2 = subst (λ z. i < z) (sym len2) l1 in
            t.indices i d l2 ∙ (did i d l1).index ∙ s.indices i d lt;
        homes = λ i d lt.
            let l1 : i < length jobs1 = subst (λ z. i < z) (sym s.len) lt in
            let l2 : i < length jobs2 = subst (λ z. i < z) (sym len2) l1 in
            let l3 : i < length jobs3 = subst (λ z. i < z) (sym t.len) l2 in
            sym (ap (λ (v : Desk). v.homes.items) (desk_at jobs3 i d d.desk l3)) ∙ y.kept i d.desk (omega (arith, dl2))
            ∙ ap (λ (v : Desk). v.homes.items) (desk_at jobs2 i d d.desk l2) ∙ homes2 i d lt;
        outs = returned;
        ran = λ i d lt.
            let l1 : i < length jobs1 = subst (λ z. i < z) (sym s.len) lt in
            let l2 : i < length jobs2 = subst (λ z. i < z) (sym len2) l1 in
            let hs = (get_or jobs i d).desk.homes.items in
            subst (λ p. done pool1 (get_or jobs i d).desk.homes.items (taken pool (get_or jobs i d).desk.homes.items) (get_or jobs i d).part (taken pool3 (get_or jobs i d).desk.homes.items) p) (sym (t.parts i d l2))
            (subst (λ os. done pool1 (get_or jobs i d).desk.homes.items (taken pool (get_or jobs i d).desk.homes.items) (get_or jobs i d).part os (get_or jobs2 i d).part) (back i d lt)
            (subst (λ p. done pool1 (get_or jobs i d).desk.homes.items (taken pool (get_or jobs i d).desk.homes.items) p (get_or jobs2 i d).desk.outs.items (get_or jobs2 i d).part) (s.parts i d lt)
            (subst (λ os. done pool1 (get_or jobs i d).desk.homes.items os (get_or jobs1 i d).part (get_or jobs2 i d).desk.outs.items (get_or jobs2 i d).part) (outs1 i d lt)
            (subst (λ h. done pool1 h (get_or jobs1 i d).desk.outs.items (get_or jobs1 i d).part (get_or jobs2 i d).desk.outs.items (get_or jobs2 i d).part) (homes1 i d lt) (did i d l1).part))));
        others = λ b f.
            y.others b (λ i o d e l lo. let ld : i < length (desks jobs) = subst (λ z. i < z) (dl2 ∙ len2 ∙ s.len ∙ sym dl) l in
            let h = desk_homes2 i d ld in
            subst (λ hs. (get_or hs o e).buffer ≢ b) (sym h) (f i o d e ld (subst (λ hs. o < length hs) h lo)))
            ∙ x.others b f;
      }
