-- What a certified plan says of waves and buffers.
use Rattle.std.proofs.Common.{◌≡◌, ℕ, suc, ◌<◌, ◌≤◌, ◌==◌, ◌&&◌, ◌||◌, ◌⊎◌, ⊎_elim, Bool, true, false, cond, List, [], ◌∷◌, length, take, inl, inr, refl, ap, sym, ◌∙◌, subst, arith, Some}
use Rattle.std.specs.Prelude.{slice_get, AllPairs}
use Rattle.std.specs.List.{All, Contains, find, flat_map}
use Rattle.std.proofs.lemmas.Bool.{eqb-true, cases_lt, and_parts}
use Rattle.std.proofs.lemmas.List.Elements.{All-contains}
use Rattle.std.proofs.lemmas.Option.{slice_get_within}
use Rattle.graph_model.specs.Paths.{IsLive, live_connections}
use Rattle.graph_model.specs.Sound.{IsSound}
use Rattle.graph_model.specs.declared.graph.Uid.{Uid}
use Rattle.graph_model.specs.declared.graph.Connection.{Connection}
use Rattle.graph_model.specs.declared.graph.Graph.{Graph}
use Rattle.graph_model.proofs.PathLaws.{at_tail, first_or_later, same_name, and_both}
use Rattle.graph_model.proofs.ReachLaws.{filter_has}
use Rattle.plan_model.specs.Schedules.{IsSchedule, names, wave_of}
use Rattle.plan_model.specs.Places.{IsWaveAt}
use Rattle.plan_model.specs.Pairs.{ComesBefore}
use Rattle.plan_model.specs.Lives.{Port, IsBefore, IsLife, source, ports_of, AreValues, lives_of, life_of, reads_of}
use Rattle.plan_model.specs.Homes.{is_home_of, buffer_at, buffer_of}
use Rattle.plan_model.specs.Buffers.{IsAssignment, MayShare}
use Rattle.plan_model.specs.Certified.{IsCertified}
use Rattle.plan_model.specs.declared.plan.Plan.{Plan}
use Rattle.plan_model.specs.declared.rule.Rule.TheVariants.{Waves, Homes, Channels}
use Rattle.plan_model.specs.declared.schedule.Wave.{Wave}
use Rattle.plan_model.specs.declared.buffers.Home.{Home}
use Rattle.plan_model.specs.declared.buffers.Life.{Life}
use Rattle.plan_model.proofs.CertifiedLaws.{are_lives}
use Rattle.plan_model.proofs.HomeLaws.{buffers_are_apart}
use Rattle.plan_model.proofs.LifeLaws.{found_is_life}
use Rattle.plan_model.proofs.SavedLaws.{Contains-map, Contains-from_map}
use Rattle.plan_model.proofs.WaveLaws.{waves_by_entries, in_earlier, not_before, first_with}
use Rattle.orders.specs.Orders as core
use Rattle.engine_model.specs.Machines.{buffer_or_zero, buffer_for}

-- ---- lists
pub is_in_of : (v : ℕ) (vs : List ℕ) → Contains vs v → core.is_in v vs ≡ true
is_in_of v [] has = let l = has.1 in absurd (omega arith)
is_in_of v (u ∷ us) has =
    elim (first_or_later u v us has) [
      | inl same ↦ (let e : (v == u) ≡ true = ap (λ w. v == w) same ∙ same_name v in rw e refl)
      | inr there ↦ or_later (v == u) (core.is_in v us) (is_in_of v us there)
    ]
  where
    or_later : (a b : Bool) → b ≡ true → (a || b) ≡ true
    or_later true b e = refl
    or_later false b e = e

pub of_is_in : (v : ℕ) (vs : List ℕ) → core.is_in v vs ≡ true → Contains vs v
of_is_in v [] e = absurd (cc)
of_is_in v (u ∷ us) e = go (v == u) refl e (of_is_in v us)
  where
    go : (b : Bool) → (v == u) ≡ b → (b || core.is_in v us) ≡ true → (core.is_in v us ≡ true → Contains us v) → Contains (u ∷ us) v
    go true t h rest = (0, omega arith, sym (eqb-true v u t))
    go false t h rest = at_tail u v us (rest h)

-- ---- values and their homes
abbrev port : Home → Port
port h = record { uid = h.uid; channel = h.channel }

-- the home that is found by name and channel
found : (hs : List Home) → AllPairs IsBefore (ports_of hs) → (h : Home) → Contains hs h → find (is_home_of h.uid.0 h.channel) hs ≡ Some h
found [] up h has = let l = has.1 in absurd (omega arith)
found (i ∷ hs) up h has = go (is_home_of h.uid.0 h.channel i) refl (first_or_later i h hs has) (found hs (λ j k d lt l. up (suc j) (suc k) d (omega arith) (omega arith)) h)
  where
    go : (b : Bool) → is_home_of h.uid.0 h.channel i ≡ b → (i ≡ h) ⊎ Contains hs h → (Contains hs h → find (is_home_of h.uid.0 h.channel) hs ≡ Some h)
        → cond b (Some i) (find (is_home_of h.uid.0 h.channel) hs) ≡ Some h
    go true t (inl same) rest = ap Some same
    go true t (inr there) rest =
        let p = and_parts _ _ t in
        let u : i.uid.0 ≡ h.uid.0 = eqb-true _ _ p.0 in
        let c : i.channel ≡ h.channel = eqb-true _ _ p.1 in
        let later : All (λ (y : Port). ComesBefore (i.uid.0, i.channel) (y.uid.0, y.channel)) (ports_of hs) = λ k d l. up 0 (suc k) d (omega arith) (omega arith) in
        let r = All-contains (λ (y : Port). ComesBefore (i.uid.0, i.channel) (y.uid.0, y.channel)) (ports_of hs) (port h) later (Contains-map (λ (k : Home). port k) hs h there) in
        absurd (⊎_elim (λ lt. omega (arith, u)) (λ e. omega (arith, e.1, c)) r)
    go false t (inl same) rest =
        let e : is_home_of h.uid.0 h.channel i ≡ true = and_both _ _ (ap (λ (k : Home). k.uid.0 == h.uid.0) same ∙ same_name h.uid.0) (ap (λ (k : Home). k.channel == h.channel) same ∙ same_name h.channel) in
        absurd (cc)
    go false t (inr there) rest = rest there

module _ (g : Graph) (plan : Plan) (sound : IsSound g) (c : IsCertified g plan) where
  abbrev life : Home → Life
  life h = life_of g plan.waves h.uid h.channel

  pub schedule : IsSchedule g plan.waves
  schedule = c Waves

  pub values : AreValues g (ports_of plan.homes)
  values = c Homes

  pub assignment : IsAssignment (lives_of g plan.waves (ports_of plan.homes)) plan.homes plan.channels
  assignment = c Channels

  -- a home gives its value its buffer
  pub buffer_is : (h : Home) → Contains plan.homes h → buffer_of plan.homes h.uid.0 h.channel ≡ Some h.buffer
  buffer_is h has = ap buffer_at (found plan.homes values.ascending h has)

  pub buffer_read : (e : Connection) (h : Home) → Contains plan.homes h → h.uid ≡ e.src → h.channel ≡ e.src_channel → buffer_for plan.homes e ≡ h.buffer
  buffer_read e h has u d =
      ap (λ (w : Uid). buffer_or_zero (buffer_of plan.homes w.0 e.src_channel)) (sym u) ∙ ap (λ k. buffer_or_zero (buffer_of plan.homes h.uid.0 k)) (sym d)
      ∙ ap buffer_or_zero (buffer_is h has)

  -- two values with one buffer are one value, or may share it
  pub shares : (h i : Home) → Contains plan.homes h → Contains plan.homes i → h.buffer ≡ i.buffer → (h ≡ i) ⊎ MayShare (life h) (life i)
  shares h i ch ci e =
      ⊎_elim
      (λ same.
      let u = ap (λ (x : Port). x.uid) same in
      let d = ap (λ (x : Port). x.channel) same in
      inl (λ k. record { uid = u k; channel = d k; buffer = e k }))
      (λ r. inr r)
      (buffers_are_apart g plan (port h) (port i) h.buffer c (buffer_is h ch) (buffer_is i ci ∙ ap Some (sym e)))

  pub lasting : (h : Home) → Contains plan.homes h → ((life h).born < (life h).dies) × ((life h).dies < length plan.waves)
  lasting h has =
      All-contains (λ (x : Life). (x.born < x.dies) × (x.dies < length plan.waves)) (lives_of g plan.waves (ports_of plan.homes)) (life h)
      (are_lives g plan.waves (ports_of plan.homes) sound schedule values).within
      (Contains-map (λ (x : Port). life_of g plan.waves x.uid x.channel) (ports_of plan.homes) (port h) (Contains-map (λ (k : Home). port k) plan.homes h has))

  pub below : (h : Home) → Contains plan.homes h → h.buffer < plan.channels
  below h has = All-contains (λ (k : Home). k.buffer < plan.channels) plan.homes h assignment.below has

  -- what a live connection reads has a home
  pub home_for : (e : Connection) → Contains (live_connections g) e → (h : Home) × Contains plan.homes h × (h.uid ≡ e.src) × (h.channel ≡ e.src_channel)
  home_for e live =
      let r = Contains-from_map (λ (k : Home). port k) plan.homes (source e)
      (All-contains (λ d. Contains (ports_of plan.homes) (source d)) (live_connections g) e values.all live) in
      (r.0, r.1, ap (λ (x : Port). x.uid) r.2, ap (λ (x : Port). x.channel) r.2)

  is_reader_of : (e : Connection) (h : Home) → Contains (live_connections g) e → h.uid ≡ e.src → h.channel ≡ e.src_channel → Contains (reads_of g h.uid h.channel) e
  is_reader_of e h live u d =
      filter_has (λ b. (b.src.0 == h.uid.0) && (b.src_channel == h.channel)) (live_connections g) e live
      (and_both _ _ (ap (λ (w : Uid). e.src.0 == w.0) u ∙ same_name e.src.0) (ap (λ k. e.src_channel == k) d ∙ same_name e.src_channel))

  is_life : (e : Connection) (h : Home) → Contains (live_connections g) e → h.uid ≡ e.src → h.channel ≡ e.src_channel → IsLife g plan.waves (life h)
  is_life e h live u d = found_is_life g plan.waves h.uid h.channel e (is_reader_of e h live u d)

  -- it is read after the wave in which it is born, and not after that in which it dies
  pub read_within : (e : Connection) (h : Home) → Contains (live_connections g) e → h.uid ≡ e.src → h.channel ≡ e.src_channel
      → ((life h).born < wave_of plan.waves e.dst.0) × (wave_of plan.waves e.dst.0 ≤ (life h).dies)
  read_within e h live u d =
      let later = All-contains (λ b. wave_of plan.waves b.src.0 < wave_of plan.waves b.dst.0) (live_connections g) e schedule.later live in
      let born : wave_of plan.waves h.uid.0 ≡ wave_of plan.waves e.src.0 = ap (λ (w : Uid). wave_of plan.waves w.0) u in (
        omega arith,
        All-contains (λ b. wave_of plan.waves b.dst.0 ≤ (life h).dies) (reads_of g h.uid h.channel) e (is_life e h live u d).none_later (is_reader_of e h live u d),
      )

  -- where it dies the sole reader alone reads it
  pub sole_reads : (e : Connection) (h : Home) (u : Uid) → Contains (live_connections g) e → h.uid ≡ e.src → h.channel ≡ e.src_channel
      → (life h).reader ≡ Some u → wave_of plan.waves e.dst.0 ≡ (life h).dies → e.dst.0 ≡ u.0
  sole_reads e h u live a b only at =
      ap (λ (w : Uid). w.0)
      (All-contains (λ d. wave_of plan.waves d.dst.0 ≡ (life h).dies → d.dst ≡ u) (reads_of g h.uid h.channel) e ((is_life e h live a b).only u only) (is_reader_of e h live a b) at)

  -- ---- three laws on sharing
  -- two values of one wave have two buffers
  pub born_apart : (h i : Home) → Contains plan.homes h → Contains plan.homes i → h.buffer ≡ i.buffer → wave_of plan.waves h.uid.0 ≡ wave_of plan.waves i.uid.0 → h ≡ i
  born_apart h i ch ci e same =
      let lh = (lasting h ch).0 in
      let li = (lasting i ci).0 in
      ⊎_elim (λ z. z) (λ r. absurd (⊎_elim (⊎_elim (λ lt. omega arith) (λ q. omega (arith, q.0))) (⊎_elim (λ lt. omega arith) (λ q. omega (arith, q.0))) r)) (shares h i ch ci e)

  -- what a node reads is written over in that wave by itself alone
  pub read_apart : (e : Connection) (h i : Home) → Contains (live_connections g) e → Contains plan.homes h → h.uid ≡ e.src → h.channel ≡ e.src_channel
      → Contains plan.homes i → h.buffer ≡ i.buffer → wave_of plan.waves i.uid.0 ≡ wave_of plan.waves e.dst.0 → i.uid.0 ≡ e.dst.0
  read_apart e h i live ch a b ci same at =
      let lh = (lasting h ch).0 in
      let li = (lasting i ci).0 in
      let r = read_within e h live a b in
      let r0 = r.0 in
      let r1 = r.1 in
      ⊎_elim
      (λ z. let w = ap (λ (k : Home). wave_of plan.waves k.uid.0) z in absurd (omega arith))
      (⊎_elim
      (⊎_elim (λ lt. absurd (omega arith)) (λ q. let q0 = q.0 in sym (sole_reads e h i.uid live a b q.1 (omega arith))))
      (⊎_elim (λ lt. absurd (omega arith)) (λ q. let q0 = q.0 in absurd (omega arith))))
      (shares h i ch ci same)

  -- what is needed after a wave, and was not born in it, is not written over there
  pub kept_apart : (s : ℕ) (h i : Home) → Contains plan.homes h → Contains plan.homes i → wave_of plan.waves h.uid.0 < s → s < (life h).dies
      → h.buffer ≡ i.buffer → wave_of plan.waves i.uid.0 ≡ s → ⊥
  kept_apart s h i ch ci born dies same at =
      let li = (lasting i ci).0 in
      ⊎_elim
      (λ z. let w = ap (λ (k : Home). wave_of plan.waves k.uid.0) z in omega arith)
      (⊎_elim
      (⊎_elim (λ lt. omega arith) (λ q. let q0 = q.0 in omega arith))
      (⊎_elim (λ lt. omega arith) (λ q. let q0 = q.0 in omega arith)))
      (shares h i ch ci same)

  -- ---- the nodes of a wave
  pub in_wave_at : (k v : ℕ) (w : Wave) → slice_get plan.waves k ≡ Some w → Contains (names w) v → wave_of plan.waves v ≡ k
  in_wave_at k v w at has =
      let le = not_before plan.waves k w v at has in
      ⊎_elim
      (λ lt.
      let entries : (j : ℕ) → IsWaveAt g plan.waves j = (waves_by_entries g plan.waves sound).1 schedule in
      let within = slice_get_within plan.waves k w at in
      let f = first_with plan.waves v (omega arith) in
      absurd (All-contains (λ u. Contains (flat_map names (take k plan.waves)) u → ⊥) (names w) v ((entries k).next w at).fresh has
      (in_earlier plan.waves (wave_of plan.waves v) k f.0 v f.1 lt f.2)))
      (λ ge. omega arith)
      (cases_lt (wave_of plan.waves v) k)

  pub of_wave_at : (k v : ℕ) (w : Wave) → slice_get plan.waves k ≡ Some w → wave_of plan.waves v ≡ k → Contains (names w) v
  of_wave_at k v w at is =
      let within = slice_get_within plan.waves k w at in
      let f = first_with plan.waves v (omega arith) in
      let same : Some w ≡ Some f.0 = sym at ∙ ap (slice_get plan.waves) (sym is) ∙ f.1 in
      let e : w ≡ f.0 = cc in
      subst (λ y. Contains (names y) v) (sym e) f.2

  pub live_in_wave : (k v : ℕ) (w : Wave) → slice_get plan.waves k ≡ Some w → Contains (names w) v → IsLive g v
  live_in_wave k v w at has =
      let entries : (j : ℕ) → IsWaveAt g plan.waves j = (waves_by_entries g plan.waves sound).1 schedule in
      All-contains (IsLive g) (names w) v ((entries k).next w at).live has
