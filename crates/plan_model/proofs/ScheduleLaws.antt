-- One node a wave is a schedule, and there is one schedule of each mode.
use Rattle.std.proofs.Common.{◌≡◌, ℕ, zero, suc, ◌<◌, ◌≤◌, List, [], ◌∷◌, length, map, take, get_or, refl, sym, ap, subst, ◌∙◌, arith, inl, inr, cond, Bool, true, false, Some}
use Rattle.std.specs.Prelude.{slice_get}
use Rattle.std.specs.List.{Contains, filter, flat_map}
use Rattle.std.proofs.lemmas.Bool.{cases_lt}
use Rattle.std.proofs.lemmas.List.{ext_get_or, get_or-take, length-take, take_all}
use Rattle.std.proofs.lemmas.List.Elements.{All-contains, All-from_recursion, Contains-get_or}
use Rattle.std.proofs.lemmas.Option.{slice_get-get_or}
use Rattle.std.proofs.lemmas.List.Kept.{AllPairs-from_increasing}
use Rattle.graph_model.specs.Graphs.{IsNode, output_name}
use Rattle.graph_model.specs.Orders.{StandsBefore, IsNext, IsOrder}
use Rattle.graph_model.specs.Paths.{IsPathTo, IsLive, is_live, live_connections, IsDepth}
use Rattle.graph_model.specs.Sound.{IsSound}
use Rattle.graph_model.proofs.PathLaws.{first_or_later}
use Rattle.graph_model.proofs.ReachLaws.{filter_has, filter_from}
use Rattle.graph_model.specs.declared.graph.Uid.{Uid}
use Rattle.graph_model.specs.declared.graph.Connection.{Connection}
use Rattle.graph_model.specs.declared.graph.Graph.{Graph}
use Rattle.plan_model.specs.Places.{IsNextWave}
use Rattle.plan_model.specs.Results.{HasSchedule, ModesAreSchedules}
use Rattle.plan_model.specs.Schedules.{IsSchedule, IsOneByOne, IsByWaves, OneByOneIsSchedule, names, wave_of}
use Rattle.plan_model.specs.declared.schedule.Mode.{Mode}
use Rattle.plan_model.specs.declared.schedule.Mode.TheVariants.{OneByOne, Waves}
use Rattle.plan_model.specs.declared.schedule.Wave.{Wave}
use Rattle.graph_model.proofs.CommonFacts.{some_same}
use Rattle.graph_model.proofs.LiveLaws.{ends_live, live_by, live_test}
use Rattle.plan_model.proofs.CertifiedLaws.{stands_in}
use Rattle.plan_model.proofs.ExampleTools.{rising}
use Rattle.graph_model.proofs.OrderOnceLaws.{order_once}
use Rattle.plan_model.proofs.UniqueLaws.{same_entries}
use Rattle.plan_model.proofs.WaveLaws.{first_with, in_any, in_earlier, not_before, waves_by_entries}

-- ---- waves by their names
abbrev named : ℕ → Uid
named v = record { 0 = v }

pub uids_again : (us : List Uid) → us ≡ map named (map (λ u. u.0) us)
uids_again [] = refl
uids_again (u ∷ us) = ap (λ ws. u ∷ ws) (uids_again us)

pub uids_same : (us ws : List Uid) → map (λ u. u.0) us ≡ map (λ u. u.0) ws → us ≡ ws
uids_same us ws e = uids_again us ∙ ap (map named) e ∙ sym (uids_again ws)

abbrev wave_named : List ℕ → Wave
wave_named vs = record { nodes = map named vs }

waves_again : (waves : List Wave) → waves ≡ map wave_named (map names waves)
waves_again [] = refl
waves_again (w ∷ waves) =
    let first = uids_again w.nodes in
    let rest = waves_again waves in
    λ i. record { nodes = first i } ∷ rest i

waves_same : (ws xs : List Wave) → map names ws ≡ map names xs → ws ≡ xs
waves_same ws xs e = waves_again ws ∙ ap (map wave_named) e ∙ sym (waves_again xs)

-- ---- one node a wave
abbrev wave_of_one : ℕ → Wave
wave_of_one v = record { nodes = named v ∷ [] }

ones_named : (vs : List ℕ) → map wave_named (map (λ v. v ∷ []) vs) ≡ map wave_of_one vs
ones_named [] = refl
ones_named (v ∷ vs) = ap (λ ws. wave_of_one v ∷ ws) (ones_named vs)

-- the names in the first of them are the first names
names_taken : (k : ℕ) (vs : List ℕ) → flat_map names (take k (map wave_of_one vs)) ≡ take k vs
names_taken zero [] = refl
names_taken zero (v ∷ vs) = refl
names_taken (suc k) [] = refl
names_taken (suc k) (v ∷ vs) = ap (λ ws. v ∷ ws) (names_taken k vs)

names_all : (vs : List ℕ) → flat_map names (map wave_of_one vs) ≡ vs
names_all [] = refl
names_all (v ∷ vs) = ap (λ ws. v ∷ ws) (names_all vs)

one_at : (vs : List ℕ) (k : ℕ) (w : Wave) → slice_get (map wave_of_one vs) k ≡ Some w
    → (v : ℕ) × (slice_get vs k ≡ Some v) × (wave_of_one v ≡ w)
one_at [] k w e = absurd (cc)
one_at (v ∷ vs) zero w e = let same : wave_of_one v ≡ w = cc in (v, refl, same)
one_at (v ∷ vs) (suc k) w e = one_at vs k w e

-- what passes stands at a place of the whole list, after what passes of the entries before
place_in : (p : ℕ → Bool) (vs : List ℕ) (k v : ℕ) → slice_get (filter p vs) k ≡ Some v
    → (j : ℕ) × (j < length vs) × (get_or vs j 0 ≡ v) × (take k (filter p vs) ≡ filter p (take j vs)) × (p v ≡ true)
place_in p [] k v e = absurd (cc)
place_in p (x ∷ vs) k v e = go (p x) refl k e (place_in p vs)
  where
    go : (b : Bool) → p x ≡ b → (k : ℕ) → slice_get (cond b (x ∷ filter p vs) (filter p vs)) k ≡ Some v
        → ((m u : ℕ) → slice_get (filter p vs) m ≡ Some u → (j : ℕ) × (j < length vs) × (get_or vs j 0 ≡ u) × (take m (filter p vs) ≡ filter p (take j vs)) × (p u ≡ true))
        → (j : ℕ) × (j < length (x ∷ vs)) × (get_or (x ∷ vs) j 0 ≡ v) × (take k (cond b (x ∷ filter p vs) (filter p vs)) ≡ filter p (take j (x ∷ vs))) × (p v ≡ true)
    go true t zero e rest = let same : x ≡ v = cc in (0, omega arith, same, refl, ap p (sym same) ∙ t)
    go true t (suc m) e rest =
        let r = rest m v e in
        (suc r.0, omega (arith, r.1), r.2, ap (λ ws. x ∷ ws) r.3 ∙ sym (ap (λ b. cond b (x ∷ filter p (take r.0 vs)) (filter p (take r.0 vs))) t), r.4)
    go false t m e rest =
        let r = rest m v e in
        (suc r.0, omega (arith, r.1), r.2, r.3 ∙ sym (ap (λ b. cond b (x ∷ filter p (take r.0 vs)) (filter p (take r.0 vs))) t), r.4)

stands-contains : (os : List ℕ) (j v : ℕ) → j ≤ length os → StandsBefore os j v → Contains (take j os) v
stands-contains os j v le (i, lt, e) =
    subst (Contains (take j os)) (get_or-take j os i 0 lt ∙ e) (Contains-get_or (take j os) i 0 (omega (arith, length-take j os)))

contains-stands : (os : List ℕ) (j v : ℕ) → j ≤ length os → Contains (take j os) v → StandsBefore os j v
contains-stands os j v le has = at_zero has.0 has.1 has.2
  where
    at_zero : (i : ℕ) → i < length (take j os) → get_or (take j os) i v ≡ v → StandsBefore os j v
    at_zero i lt e =
        let below : i < j = omega (arith, length-take j os) in
        let within : i < length os = omega arith in
        (i, below, whatever os i within ∙ sym (get_or-take j os i v below) ∙ e)
      where
        whatever : (os : List ℕ) (i : ℕ) → i < length os → get_or os i 0 ≡ get_or os i v
        whatever [] i l = absurd (omega arith)
        whatever (o ∷ os) zero l = refl
        whatever (o ∷ os) (suc i) l = whatever os i (omega arith)

in_path : (g : Graph) (w : ℕ) (us : List ℕ) (v : ℕ) → IsPathTo g w us → Contains (w ∷ us) v → IsNode g v
in_path g w [] v path has = elim (first_or_later w v [] has) [ inl same ↦ subst (IsNode g) same path | inr there ↦ (let l = there.1 in absurd (omega arith)) ]
in_path g w (u ∷ us) v path has = elim (first_or_later w v (u ∷ us) has) [ inl same ↦ subst (IsNode g) same path.0 | inr there ↦ in_path g u us v path.2 there ]

module _ (g : Graph) (sound : IsSound g) (os : List ℕ) (order : IsOrder g os) where
  abbrev lives : List ℕ
  lives = filter (is_live g) os

  abbrev ones : List Wave
  ones = map wave_of_one lives

  next_wave : (k v : ℕ) → slice_get lives k ≡ Some v → IsNextWave g (take k ones) (wave_of_one v)
  next_wave k v e = record {
    filled = omega arith;
    rising = rising (v ∷ []) tt;
    live = All-from_recursion (IsLive g) (v ∷ []) (live_by g sound v is, tt);
    fresh = All-from_recursion (λ u. Contains (flat_map names (take k ones)) u → ⊥) (v ∷ []) (new, tt);
    ready = λ n d lt reads. ready (get_or (live_connections g) n d) (Contains-get_or (live_connections g) n d lt) reads;
  }
    where
      at : (j : ℕ) × (j < length os) × (get_or os j 0 ≡ v) × (take k lives ≡ filter (is_live g) (take j os)) × (is_live g v ≡ true)
      at = place_in (is_live g) os k v e

      is : is_live g v ≡ true
      is = at.4

      next : IsNext g os at.0 v
      next = subst (IsNext g os at.0) at.2 (order.next at.0 at.1)

      before : flat_map names (take k ones) ≡ filter (is_live g) (take at.0 os)
      before = names_taken k lives ∙ at.3

      new : Contains (flat_map names (take k ones)) v → ⊥
      new has = next.fresh (contains-stands os at.0 v (omega (arith, at.1)) (filter_from (is_live g) (take at.0 os) v (subst (λ ws. Contains ws v) before has)).0)

      ready : (c : Connection) → Contains (live_connections g) c → Contains (v ∷ []) c.dst.0
          → Contains (flat_map names (take k ones)) c.src.0
      ready c has reads =
          let dst : v ≡ c.dst.0 = elim (first_or_later v c.dst.0 [] reads) [ inl same ↦ same | inr there ↦ (let l = there.1 in absurd (omega arith)) ] in
          let live = live_test g sound c.src.0 (ends_live g sound c has).0 in
          let all = filter_from (λ d. is_live g d.dst.0) g.connections c has in
          let stands : StandsBefore os at.0 c.src.0 = All-contains (λ d. d.dst.0 ≡ v → StandsBefore os at.0 d.src.0) g.connections c next.ready all.0 (sym dst) in
          subst (λ ws. Contains ws c.src.0) (sym before)
          (filter_has (is_live g) (take at.0 os) c.src.0 (stands-contains os at.0 c.src.0 (omega (arith, at.1)) stands) live)

  ones_schedule : IsSchedule g ones
  ones_schedule = (waves_by_entries g ones sound).0 (λ k. record {
    next = λ w e. (let o = one_at lives k w e in subst (IsNextWave g (take k ones)) o.2 (next_wave k o.0 o.1));
    all = λ e v live. subst (λ ws. Contains ws v) (sym (names_all lives)) (filter_has (is_live g) os v (everywhere v live) (live_test g sound v live));
  })
    where
      everywhere : (v : ℕ) → IsLive g v → Contains os v
      everywhere v live = subst (λ ws. Contains ws v) (take_all (length os) os (omega arith)) (stands-contains os (length os) v (omega arith) (order.all v (in_path g (output_name g) live.0 v live.1 live.2)))

pub one_by_one_is_schedule : OneByOneIsSchedule
one_by_one_is_schedule g waves sound (os, order, same) =
    subst (IsSchedule g) (sym (waves_again waves ∙ ap (map wave_named) same ∙ ones_named (filter (is_live g) os))) (ones_schedule g sound os order)

pub modes_are_schedules : ModesAreSchedules
modes_are_schedules g OneByOne waves sound s = one_by_one_is_schedule g waves sound s
modes_are_schedules g Waves waves sound s = s.schedule

-- ---- there is one of each mode
pub one_by_one_once : (g : Graph) (ws xs : List Wave) → IsOneByOne g ws → IsOneByOne g xs → ws ≡ xs
one_by_one_once g ws xs (os, o, same) (ps, p, alike) =
    waves_same ws xs (same ∙ ap (λ vs. map (λ v. v ∷ []) (filter (is_live g) vs)) (order_once g os ps o p) ∙ sym alike)

one_depth : (g : Graph) (v m n : ℕ) → IsDepth g v m → IsDepth g v n → m ≡ n
one_depth g v m n a b =
    let less = b.most a.reached.0 a.reached.1 in
    let more = a.most b.reached.0 b.reached.1 in
    omega (arith, a.reached.2, b.reached.2)

module _ (g : Graph) (sound : IsSound g) where
  -- a node of a wave is live, and the wave is the first that has it
  in_place : (ws : List Wave) → IsSchedule g ws → (k : ℕ) (w : Wave) (v : ℕ) → slice_get ws k ≡ Some w → Contains (names w) v
      → IsLive g v × (wave_of ws v ≡ k)
  in_place ws s k w v e has =
      let next = ((waves_by_entries g ws sound).1 s k).next w e in
      let live = All-contains (IsLive g) (names w) v next.live has in
      let fresh = All-contains (λ u. Contains (flat_map names (take k ws)) u → ⊥) (names w) v next.fresh has in
      let le = not_before ws k w v e has in
      let there = first_with ws v (stands_in v ws (in_any ws k w v e has)) in (
        live,
        elim (cases_lt (wave_of ws v) k) [
          | inl less ↦ absurd (fresh (in_earlier ws (wave_of ws v) k there.0 v there.1 less there.2))
          | inr ge ↦ omega arith
        ],
      )

  module _ (ws xs : List Wave) (a : IsByWaves g ws) (b : IsByWaves g xs) where
    -- a node of a wave stands in the other schedule's wave of that index
    same_wave : (k : ℕ) (w : Wave) (v : ℕ) → slice_get ws k ≡ Some w → Contains (names w) v
        → (x : Wave) × (slice_get xs k ≡ Some x) × Contains (names x) v
    same_wave k w v e has =
        let p = in_place ws a.schedule k w v e has in
        let d = one_depth g v (wave_of ws v) (wave_of xs v) (a.deepest v p.0) (b.deepest v p.0) in
        let every = ((waves_by_entries g xs sound).1 b.schedule (length xs)).all refl v p.0 in
        let there = first_with xs v (stands_in v xs every) in
        (there.0, subst (λ i. slice_get xs i ≡ Some there.0) (sym d ∙ p.1) there.1, there.2)

    -- so the other has as many
    as_many : length ws ≤ length xs
    as_many = elim (cases_lt (length xs) (length ws)) [
      | inl more ↦
          (let e = slice_get-get_or ws (length xs) (wave_of_one 0) more in
          let w = get_or ws (length xs) (wave_of_one 0) in
          let filled = a.schedule.filled (length xs) (wave_of_one 0) more in
          let some = first_name (get_or ws (length xs) (wave_of_one 0)) filled in
          let s = same_wave (length xs) (get_or ws (length xs) (wave_of_one 0)) some.0 e some.1 in
          absurd (past xs s.0 s.1))
      | inr le ↦ le
    ]
      where
        first_name : (w : Wave) → 0 < length w.nodes → (v : ℕ) × Contains (names w) v
        first_name w filled = go w.nodes filled
          where
            go : (us : List Uid) → 0 < length us → (v : ℕ) × Contains (map (λ u. u.0) us) v
            go [] l = absurd (omega arith)
            go (u ∷ us) l = (u.0, (0, omega arith, refl))

        past : (xs : List Wave) (x : Wave) → slice_get xs (length xs) ≡ Some x → ⊥
        past [] x e = absurd (cc)
        past (y ∷ xs) x e = past xs x e

  pub by_waves_once : (ws xs : List Wave) → IsByWaves g ws → IsByWaves g xs → ws ≡ xs
  by_waves_once ws xs a b = ext_get_or (wave_of_one 0) ws xs long (λ k l. same_at k l)
    where
      long : length ws ≡ length xs
      long = let l = as_many ws xs a b in let m = as_many xs ws b a in omega arith

      same_at : (k : ℕ) → k < length ws → get_or ws k (wave_of_one 0) ≡ get_or xs k (wave_of_one 0)
      same_at k l =
          let w : Wave = get_or ws k (wave_of_one 0) in
          let x : Wave = get_or xs k (wave_of_one 0) in
          let e = slice_get-get_or ws k (wave_of_one 0) l in
          let f = slice_get-get_or xs k (wave_of_one 0) (let n = long in omega arith) in
          let up = AllPairs-from_increasing (names w) (a.schedule.rising k (wave_of_one 0) l) in
          let too = AllPairs-from_increasing (names x) (b.schedule.rising k (wave_of_one 0) (let n = long in omega arith)) in
          let one = same_entries (λ m n. m < n) (λ m n p q. omega arith) (names w) (names x) up too
          (λ v has. go_over ws xs a b k w x v e f has) (λ v has. go_over xs ws b a k x w v f e has) in
          let uids = uids_same w.nodes x.nodes one in
          λ i. record { nodes = uids i }
        where
          go_over : (ws xs : List Wave) → IsByWaves g ws → IsByWaves g xs → (k : ℕ) (w x : Wave) (v : ℕ) → slice_get ws k ≡ Some w
              → slice_get xs k ≡ Some x
              → Contains (names w) v → Contains (names x) v
          go_over ws xs a b k w x v e f has =
              let s = same_wave ws xs a b k w v e has in
              let same : s.0 ≡ x = some_same (sym s.1 ∙ f) in
              subst (λ y. Contains (names y) v) same s.2

  pub schedule_once : (mode : Mode) (ws xs : List Wave) → HasSchedule g mode ws → HasSchedule g mode xs → ws ≡ xs
  schedule_once OneByOne ws xs a b = one_by_one_once g ws xs a b
  schedule_once Waves ws xs a b = by_waves_once ws xs a b
