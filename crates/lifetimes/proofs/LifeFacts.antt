-- The lives that follow from what the live connections read are those of the values.
use Rattle.std.proofs.Common.{◌≡◌, ℕ, ◌+◌, ◌<◌, ◌≤◌, ◌==◌, ◌&&◌, Bool, true, false, cond, List, [], ◌∷◌, ◌++◌, get_or, take, length, map, filter, refl, sym, ap, subst, ◌∙◌, arith, IsPermutation}
use Rattle.std.specs.List.{All, Contains}
use Rattle.std.specs.Cmp.{first_so, second_so}
use Rattle.std.proofs.lemmas.Bool.{eqb-true}
use Rattle.std.proofs.lemmas.List.{append-nil, get_or-map, length-map, map-append}
use Rattle.std.proofs.lemmas.List.Elements.{All-contains, All-head, All-map, All-tail, filter_more}
use Rattle.std.proofs.lemmas.List.Sorted.{All-permutation, Contains-permutation, IsPermutation-sym}
use Rattle.std.proofs.lemmas.List.Sums.{length-filter, count_by-le-length}
use Rattle.graph_model.proofs.NameFacts.{any_node, same_uid}
use Rattle.graph_model.proofs.PathLaws.{same_name, and_both}
use Rattle.graph_model.proofs.ReachLaws.{filter_has, filter_from}
use Rattle.graph_model.specs.Paths.{is_live, live_connections}
use Rattle.graph_model.specs.Named.{uid_at}
use Rattle.graph_model.specs.Sound.{IsSound}
use Rattle.graph_model.specs.declared.graph.Node.{Node}
use Rattle.graph_model.specs.declared.graph.Connection.{Connection}
use Rattle.graph_model.specs.declared.graph.Graph.{Graph}
use Rattle.plan_model.specs.Lives.{Port, source, IsBefore, AreValues, values, lives_of, life_of, reads_of, IsLife}
use Rattle.plan_model.specs.Buffers.{AreLives}
use Rattle.plan_model.specs.Schedules.{IsSchedule, wave_of}
use Rattle.plan_model.specs.declared.schedule.Wave.{Wave}
use Rattle.plan_model.specs.declared.buffers.Life.{Life}
use Rattle.plan_model.proofs.CertifiedLaws.{AllPairs_map, are_lives}
use Rattle.plan_model.proofs.LifeLaws.{found_life}
use Rattle.plan_model.proofs.SavedLaws.{Contains-map, Contains-from_map}
use Rattle.plan_model.proofs.UniqueLaws.{values_are_unique}
use Rattle.plan_model.proofs.ValueLaws.{values_are_listed}
use Rattle.plan_model.proofs.WaveLaws.{each_entry}
use Rattle.lifetimes.specs.Reads.{read_by, reads_in, IsOf, IsLifeBy, AreLivesBy}
use Rattle.lifetimes.specs.declared.reads.Read.{Read}

-- ---- one connection more
module _ (g : Graph) (waves : List Wave) where
  -- the wave of a node, by its index
  pub wave_at : (node_waves : List ℕ) → node_waves ≡ map (λ n. wave_of waves n.uid.0) g.nodes → (k v : ℕ) → k < length g.nodes → uid_at g k ≡ v → get_or node_waves k 0 ≡ wave_of waves v
  wave_at node_waves given k v within named =
      ap (λ ws. get_or ws k 0) given
      ∙ get_or-map (λ (n : Node). wave_of waves n.uid.0) g.nodes k any_node 0 within
      ∙ ap (wave_of waves) (sym (get_or-map (λ (n : Node). n.uid.0) g.nodes k any_node 0 within) ∙ named)

  pushed : (b : Bool) (cs : List Connection) (c : Connection) → cond b (map (read_by waves) cs ++ read_by waves c ∷ []) (map (read_by waves) cs) ≡ map (read_by waves) (cs ++ cond b (c ∷ []) [])
  pushed true cs c = sym (map-append (read_by waves) cs (c ∷ []))
  pushed false cs c = ap (map (read_by waves)) (sym (append-nil cs))

  pub reads_more : (i : ℕ) (d : Connection) (b : Bool) (reads more : List Read) → i < length g.connections → b ≡ is_live g (get_or g.connections i d).dst.0
      → reads ≡ map (read_by waves) (filter (λ c. is_live g c.dst.0) (take i g.connections))
      → more ≡ cond b (reads ++ read_by waves (get_or g.connections i d) ∷ []) reads
      → more ≡ map (read_by waves) (filter (λ c. is_live g c.dst.0) (take (i + 1) g.connections))
  reads_more i d b reads more l live so_far is =
      let c = get_or g.connections i d in
      let taken = filter (λ (e : Connection). is_live g e.dst.0) (take i g.connections) in
      is
      ∙ ap (λ rs. cond b (rs ++ read_by waves (get_or g.connections i d) ∷ []) rs) so_far
      ∙ pushed b taken c
      ∙ ap (λ t. map (read_by waves) (taken ++ cond t (get_or g.connections i d ∷ []) [])) live
      ∙ sym (ap (map (read_by waves)) (filter_more (λ e. is_live g e.dst.0) g.connections i d l))

-- ---- the order of the reads does not matter
pub lives_permuted : (rs qs : List Read) (xs : List Life) → IsPermutation rs qs → AreLivesBy qs xs → AreLivesBy rs xs
lives_permuted rs qs xs p h = record {
  ascending = h.ascending;
  each = λ k d l. one (get_or xs k d) (h.each k d l);
  all = All-permutation (λ (r : Read). (x : Life) × Contains xs x × IsOf r x) qs rs back h.all;
}
  where
    back : IsPermutation qs rs
    back = IsPermutation-sym rs qs p

    one : (x : Life) → IsLifeBy qs x → IsLifeBy rs x
    one x life = record {
      born = (life.born.0, Contains-permutation qs rs life.born.0 back life.born.1, life.born.2, life.born.3);
      last = (life.last.0, Contains-permutation qs rs life.last.0 back life.last.1, life.last.2, life.last.3);
      none_later = All-permutation (λ (r : Read). IsOf r x → r.wave ≤ x.dies) qs rs back life.none_later;
      only = λ u e. All-permutation (λ (r : Read). IsOf r x → r.wave ≡ x.dies → r.reader ≡ u) qs rs back (life.only u e);
      several = λ e. (let s = life.several e in (s.0, s.1, Contains-permutation qs rs s.0 back s.2, Contains-permutation qs rs s.1 back s.3, s.4, s.5, s.6, s.7, s.8));
    }

abbrev port_of : Life → Port
port_of x = record { uid = x.uid; channel = x.channel }

module _ (g : Graph) (waves : List Wave) where
  -- there are no more reads than connections
  pub few_reads : IsSound g → length (reads_in g waves) ≤ 8192
  few_reads sound =
      omega (
        arith,
        length-map (live_connections g) (read_by waves),
        length-filter (λ c. is_live g c.dst.0) g.connections,
        count_by-le-length (λ (c : Connection). is_live g c.dst.0) g.connections,
        sound.fits.1,
      )

  -- ---- one life
  module _ (x : Life) (h : IsLifeBy (reads_in g waves) x) where
    to_read : (c : Connection) → Contains (reads_of g x.uid x.channel) c → Contains (reads_in g waves) (read_by waves c) × IsOf (read_by waves c) x
    to_read c has =
        let f = filter_from (λ d. (d.src.0 == x.uid.0) && (d.src_channel == x.channel)) (live_connections g) c has in
        (Contains-map (read_by waves) (live_connections g) c f.0, (eqb-true _ _ (first_so _ _ f.1), eqb-true _ _ (second_so _ _ f.1)))

    from_read : (r : Read) → Contains (reads_in g waves) r → IsOf r x → (c : Connection) × Contains (reads_of g x.uid x.channel) c × (read_by waves c ≡ r)
    from_read r has of =
        let f = Contains-from_map (read_by waves) (live_connections g) r has in
        let u : (f.0.src.0 == x.uid.0) ≡ true = ap (λ (q : Read). q.uid.0 == x.uid.0) f.2 ∙ ap (λ n. n == x.uid.0) of.0 ∙ same_name x.uid.0 in
        let c : (f.0.src_channel == x.channel) ≡ true = ap (λ (q : Read). q.channel == x.channel) f.2 ∙ ap (λ n. n == x.channel) of.1 ∙ same_name x.channel in
        (f.0, filter_has (λ d. (d.src.0 == x.uid.0) && (d.src_channel == x.channel)) (live_connections g) f.0 f.1 (and_both _ _ u c), f.2)

    is_life : IsLife g waves x
    is_life = record {
      born = (let r = h.born in let c = Contains-from_map (read_by waves) (live_connections g) r.0 r.1 in
          sym r.3 ∙ sym (ap (λ (q : Read). q.born) c.2) ∙ ap (wave_of waves) (ap (λ (q : Read). q.uid.0) c.2 ∙ r.2.0));
      last = (let r = h.last in let c = from_read r.0 r.1 r.2 in (c.0, c.1, ap (λ (q : Read). q.wave) c.2 ∙ r.3));
      none_later = each_entry (λ c. wave_of waves c.dst.0 ≤ x.dies) (reads_of g x.uid x.channel)
          (λ c has. let r = to_read c has in All-contains (λ q. IsOf q x → q.wave ≤ x.dies) (reads_in g waves) (read_by waves c) h.none_later r.0 r.1);
      only = λ u e. each_entry (λ c. wave_of waves c.dst.0 ≡ x.dies → c.dst ≡ u) (reads_of g x.uid x.channel)
          (λ c has. let r = to_read c has in All-contains (λ q. IsOf q x → q.wave ≡ x.dies → q.reader ≡ u) (reads_in g waves) (read_by waves c) (h.only u e) r.0 r.1);
      several = λ e.
          let s = h.several e in
          let a = from_read s.0 s.2 s.4 in
          let b = from_read s.1 s.3 s.5 in (
            a.0,
            b.0,
            a.1,
            b.1,
            ap (λ (q : Read). q.wave) a.2 ∙ s.6,
            ap (λ (q : Read). q.wave) b.2 ∙ s.7,
            (λ same. s.8 (sym (ap (λ (q : Read). q.reader) a.2) ∙ same ∙ ap (λ (q : Read). q.reader) b.2)),
          );
    }

    life_is : x ≡ life_of g waves x.uid x.channel
    life_is = found_life g waves x is_life

    -- it is the life of what some live connection reads
    source_is : (c : Connection) × Contains (live_connections g) c × (source c ≡ port_of x)
    source_is =
        let r = h.born in
        let c = Contains-from_map (read_by waves) (live_connections g) r.0 r.1 in
        let u : c.0.src ≡ x.uid = same_uid c.0.src x.uid (ap (λ (q : Read). q.uid.0) c.2 ∙ r.2.0) in
        let n : c.0.src_channel ≡ x.channel = ap (λ (q : Read). q.channel) c.2 ∙ r.2.1 in
        (c.0, c.1, (λ i. record { uid = u i; channel = n i }))

  -- ---- all of them
  module _ (xs : List Life) (h : AreLivesBy (reads_in g waves) xs) where
    ports : AreValues g (map port_of xs)
    ports = record {
      ascending = AllPairs_map port_of IsBefore xs h.ascending;
      each = All-map (λ p. (c : Connection) × Contains (live_connections g) c × (source c ≡ p)) port_of xs (λ k d l. source_is (get_or xs k d) (h.each k d l));
      all = each_entry (λ c. Contains (map port_of xs) (source c)) (live_connections g) (λ c has.
          let x = All-contains (λ r. (y : Life) × Contains xs y × IsOf r y) (reads_in g waves) (read_by waves c) h.all (Contains-map (read_by waves) (live_connections g) c has) in
          let u : x.0.uid ≡ c.src = same_uid x.0.uid c.src (sym x.2.0) in
          let n : x.0.channel ≡ c.src_channel = sym x.2.1 in
          let same : port_of x.0 ≡ source c = (λ i. record { uid = u i; channel = n i }) in
          subst (Contains (map port_of xs)) same (Contains-map port_of xs x.0 x.1));
    }

    all_lives : (ys : List Life) → All (IsLifeBy (reads_in g waves)) ys → ys ≡ lives_of g waves (map port_of ys)
    all_lives [] each = refl
    all_lives (y ∷ ys) each =
        let first = life_is y (All-head (IsLifeBy (reads_in g waves)) y ys each) in
        let rest = all_lives ys (All-tail (IsLifeBy (reads_in g waves)) y ys each) in
        λ i. first i ∷ rest i

    all_found : xs ≡ lives_of g waves (values g)
    all_found = all_lives xs h.each ∙ ap (lives_of g waves) (values_are_unique g (map port_of xs) (values g) ports (values_are_listed g))

  pub lives_are : (reads : List Read) → reads ≡ reads_in g waves → (xs : List Life) → AreLivesBy reads xs → xs ≡ lives_of g waves (values g)
  lives_are reads made xs h = all_found xs (subst (λ rs. AreLivesBy rs xs) made h)

  pub lives_usable : IsSound g → IsSchedule g waves → (xs : List Life) → xs ≡ lives_of g waves (values g) → AreLives xs (length waves)
  lives_usable sound schedule xs e = subst (λ ys. AreLives ys (length waves)) (sym e) (are_lives g waves (values g) sound schedule (values_are_listed g))

-- the reads are those of the same graph and waves
pub same_reads : (g h : Graph) (waves ws : List Wave) → h ≡ g → ws ≡ waves → (node_waves : List ℕ) → node_waves ≡ map (λ n. wave_of ws n.uid.0) h.nodes → (reads : List Read)
    → ((vs : List Wave) → node_waves ≡ map (λ n. wave_of vs n.uid.0) g.nodes → reads ≡ reads_in g vs) → reads ≡ reads_in g waves
same_reads g h waves ws same alike node_waves given reads made = made waves (given ∙ (λ i. map (λ (n : Node). wave_of (alike i) n.uid.0) (same i).nodes))
