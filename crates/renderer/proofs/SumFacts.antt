-- What comes into a node, one connection after another.
use Rattle.std.proofs.Common.{◌≡◌, ◌≢◌, ℕ, ◌+◌, ◌-◌, ◌*◌, ◌/◌, ◌%◌, ◌^◌, ◌<◌, ◌≤◌, List, [], ◌∷◌, ◌++◌, length, get_or, take, replicate, ℤ, pos, ◌+ℤ◌, refl, sym, ◌∙◌, ap, subst, arith, inl, inr, Bool, true, false, cond, ◌==◌, ◌&&◌, unsigned_abs}
use Rattle.std.specs.List.{filter, Contains}
use Rattle.std.proofs.lemmas.Bool.{cases_lt, cases_eq, eqb-true, eq-eqb, false≢true}
use Rattle.std.proofs.lemmas.Int.{ints}
use Rattle.std.proofs.lemmas.List.{append-nil, get_or_default, get_or-replicate, length-replicate, take_all, length-take}
use Rattle.std.proofs.lemmas.List.Elements.{Contains-get_or, filter_more}
use Rattle.std.proofs.lemmas.List.FromFn.{fill_by_all}
use Rattle.std.proofs.lemmas.Nat.{div-add-mod'}
use Rattle.std.proofs.Math.Nat.{mul-le-mul_right}
use Rattle.graph_model.specs.Histories.{sample, history_of, interleaved}
use Rattle.graph_model.specs.Graphs.{ins_at, outs_at, connections_to}
use Rattle.graph_model.specs.Paths.{is_live, live_connections}
use Rattle.graph_model.specs.Answers.{delay, sum_of, sum_into, outgoing}
use Rattle.graph_model.proofs.AnswerLaws.{into_v}
use Rattle.graph_model.proofs.HistoryLaws.{sample-past}
use Rattle.graph_model.proofs.PathLaws.{and_both}
use Rattle.graph_model.specs.declared.graph.Connection.{Connection}
use Rattle.graph_model.specs.Named.{uid_at}
use Rattle.graph_model.proofs.NameFacts.{same_index}
use Rattle.topology.proofs.LinkFacts.{any_connection}
use Rattle.graph_model.specs.Bounds.{AreUpTo}
use Rattle.renderer.specs.Routes.{IsRoute, IsAdded, sample_in, sample_before}
use Rattle.renderer.specs.Evaluations.{IsEvaluation, HasStream, HasSources, input_of, positions_of, incoming_at}
use Rattle.renderer.specs.declared.routes.Channel.{Channel}
use Rattle.renderer.specs.declared.routes.Route.{Route}
use Rattle.renderer.specs.declared.evaluation.Evaluation.{Evaluation}
use Rattle.renderer.proofs.AddingFacts.{before_none, before_some}
use Rattle.graph_model.proofs.InterleavingLaws.{in_row, in_turn, in_frame, length-interleaved, get_or-interleaved, interleaved-history_of}
use Rattle.graph_model.proofs.NodeFacts.{named, channels_fit}
use Rattle.renderer.proofs.RouteFacts.{kept}
use Rattle.graph_model.proofs.StreamSizeLaws.{interleaved_small}
use Rattle.renderer.proofs.OutgoingFacts.{long_input, outgoing_small, wide_outgoing, long_outgoing}

-- ---- sums
plus-assoc : (a b c : ℤ) → a +ℤ (b +ℤ c) ≡ a +ℤ b +ℤ c
plus-assoc a b c = omega (arith, ints)

plus-none : (z : ℤ) → z +ℤ pos 0 ≡ z
plus-none z = omega (arith, ints)

none-plus : (z : ℤ) → pos 0 +ℤ z ≡ z
none-plus z = omega (arith, ints)

abs-sum : (a b : ℤ) (m n : ℕ) → unsigned_abs a ≤ m → unsigned_abs b ≤ n → unsigned_abs (a +ℤ b) ≤ m + n
abs-sum a b m n h k = omega (arith, ints)

-- one more
sum_of-push : {X : Type 0} (f : X → ℤ) (xs : List X) (x : X) → sum_of f (xs ++ x ∷ []) ≡ sum_of f xs +ℤ f x
sum_of-push f [] x = plus-none (f x) ∙ sym (none-plus (f x))
sum_of-push f (y ∷ ys) x = ap (λ z. f y +ℤ z) (sum_of-push f ys x) ∙ plus-assoc (f y) (sum_of f ys) (f x)

sum_of-small : {X : Type 0} (f : X → ℤ) (b : ℕ) (xs : List X) → ((x : X) → unsigned_abs (f x) ≤ b) → unsigned_abs (sum_of f xs) ≤ length xs * b
sum_of-small f b [] h = omega arith
sum_of-small f b (x ∷ xs) h =
    let rest = abs-sum (f x) (sum_of f xs) b (length xs * b) (h x) (sum_of-small f b xs h) in
    let e : length (x ∷ xs) * b ≡ b + length xs * b = omega arith in
    omega arith

filter_le : {X : Type 0} (p : X → Bool) (xs : List X) → length (filter p xs) ≤ length xs
filter_le p [] = omega arith
filter_le p (x ∷ xs) = go (p x) (filter_le p xs)
  where
    go : (b : Bool) → length (filter p xs) ≤ length xs → length (cond b (x ∷ filter p xs) (filter p xs)) ≤ length (x ∷ xs)
    go true l = omega arith
    go false l = omega arith

-- a test that passes only where another does keeps as much of what that keeps
filter_within : {X : Type 0} (p q : X → Bool) (xs : List X) → ((x : X) → q x ≡ true → p x ≡ true) → filter q (filter p xs) ≡ filter q xs
filter_within p q [] h = refl
filter_within p q (x ∷ xs) h = go (p x) (q x) refl refl (filter_within p q xs h)
  where
    go : (a b : Bool) → p x ≡ a → q x ≡ b → filter q (filter p xs) ≡ filter q xs
        → filter q (cond a (x ∷ filter p xs) (filter p xs)) ≡ cond b (x ∷ filter q xs) (filter q xs)
    go true b t u rest = (λ i. cond (u i) (x ∷ rest i) (rest i))
    go false true f u rest = absurd (false≢true (sym f ∙ h x u))
    go false false f u rest = rest

-- the sum over what a test keeps of one element more
sum_more : {X : Type 0} (f : X → ℤ) (p : X → Bool) (xs : List X) (k : ℕ) (d : X) → k < length xs
    → sum_of f (filter p (take (k + 1) xs)) ≡ sum_of f (filter p (take k xs)) +ℤ cond (p (get_or xs k d)) (f (get_or xs k d)) (pos 0)
sum_more f p xs k d lt = ap (sum_of f) (filter_more p xs k d lt) ∙ go (p (get_or xs k d))
  where
    go : (b : Bool) → sum_of f (filter p (take k xs) ++ cond b (get_or xs k d ∷ []) []) ≡ sum_of f (filter p (take k xs)) +ℤ cond b (f (get_or xs k d)) (pos 0)
    go true = sum_of-push f (filter p (take k xs)) (get_or xs k d)
    go false = ap (sum_of f) (append-nil (filter p (take k xs))) ∙ sym (plus-none (sum_of f (filter p (take k xs))))

-- whether a connection leads into a channel of v
abbrev pub leads_into : ℕ → ℕ → Connection → Bool
leads_into v channel c = (c.dst.0 == v) && (c.dst_channel == channel)

-- what a connection brings to frame t
abbrev pub brings : Evaluation → ℕ → Connection → ℤ
brings e t c = sample (outgoing e.graph.now (positions_of e) (input_of e) c.src.0) c.src_channel (e.frames - 1 - t + delay e.graph.now (positions_of e) c)

-- what the first k connections bring to a channel of node i in frame t
abbrev pub brought : Evaluation → ℕ → ℕ → ℕ → ℕ → ℤ
brought e i k c t = sum_of (brings e t) (filter (leads_into (uid_at e.graph.now i) c) (take k (live_connections e.graph.now)))

-- the sums are what the first k connections bring
pub record AreSums (e : Evaluation) (i k : ℕ) (sums : List ℤ) : Type 0 where
  pub count : length sums ≡ e.frames * ins_at e.graph.now (uid_at e.graph.now i)
  pub each : (t c : ℕ) → t < e.frames → c < ins_at e.graph.now (uid_at e.graph.now i)
      → get_or sums (t * ins_at e.graph.now (uid_at e.graph.now i) + c) (pos 0) ≡ brought e i k c t

module _ (e : Evaluation) (s : IsEvaluation e) where
  kept_at : (k : ℕ) (d : Connection) → k < length (live_connections e.graph.now) → Contains e.graph.now.connections (get_or (live_connections e.graph.now) k d)
  kept_at k d lk = (kept e.graph.now (get_or (live_connections e.graph.now) k d) (Contains-get_or (live_connections e.graph.now) k d lk)).0

  -- ---- what a route brings of its source's stream is what its connection brings
  pub route_brings : (k : ℕ) (d : Connection) (r : Route) (stream : List ℤ) (t : ℕ) → k < length (live_connections e.graph.now) → IsRoute e.graph.now (positions_of e) (get_or (live_connections e.graph.now) k d) r
      → stream ≡ interleaved (outgoing e.graph.now (positions_of e) (input_of e) (uid_at e.graph.now r.src)) → t < e.frames
      → sample_before stream r.from r.delay t ≡ brings e t (get_or (live_connections e.graph.now) k d)
  route_brings k d r stream t lk is of_stream lt =
      elim (cases_lt t r.delay) [
        | inl early ↦ before_none stream r.from r.delay t early ∙ sym (nothing early)
        | inr late ↦ before_some stream r.from r.delay t late ∙ there late
      ]
    where
      same : outgoing e.graph.now (positions_of e) (input_of e) (uid_at e.graph.now r.src) ≡ outgoing e.graph.now (positions_of e) (input_of e) (get_or (live_connections e.graph.now) k d).src.0
      same = ap (outgoing e.graph.now (positions_of e) (input_of e)) is.source_name

      long : length (outgoing e.graph.now (positions_of e) (input_of e) (uid_at e.graph.now r.src)) ≡ e.frames
      long = long_outgoing e s r.src is.source

      nothing : t < r.delay → brings e t (get_or (live_connections e.graph.now) k d) ≡ pos 0
      nothing early =
          let held = is.holds_back in
          let past : length (outgoing e.graph.now (positions_of e) (input_of e) (get_or (live_connections e.graph.now) k d).src.0) ≤ e.frames - 1 - t + delay e.graph.now (positions_of e) (get_or (live_connections e.graph.now) k d) =
          subst (λ h. length h ≤ e.frames - 1 - t + delay e.graph.now (positions_of e) (get_or (live_connections e.graph.now) k d)) same (subst (λ n. length (outgoing e.graph.now (positions_of e) (input_of e) (uid_at e.graph.now r.src)) ≤ e.frames - 1 - t + n) held (let l = long in omega arith)) in
          sample-past (outgoing e.graph.now (positions_of e) (input_of e) (get_or (live_connections e.graph.now) k d).src.0) (get_or (live_connections e.graph.now) k d).src_channel
          (e.frames - 1 - t + delay e.graph.now (positions_of e) (get_or (live_connections e.graph.now) k d)) past

      channel : r.from.at ≡ (get_or (live_connections e.graph.now) k d).src_channel
      channel = ap (λ (x : Channel). x.at) is.from

      channels : r.from.of ≡ outs_at e.graph.now (uid_at e.graph.now r.src)
      channels = ap (λ (x : Channel). x.of) is.from ∙ ap (outs_at e.graph.now) (sym is.source_name)

      within : (get_or (live_connections e.graph.now) k d).src_channel < outs_at e.graph.now (uid_at e.graph.now r.src)
      within = subst (λ v. (get_or (live_connections e.graph.now) k d).src_channel < outs_at e.graph.now v) (sym is.source_name) (channels_fit e.graph.now s.sound (get_or (live_connections e.graph.now) k d) (kept_at k d lk)).0

      there : r.delay ≤ t → sample_in stream r.from (t - r.delay) ≡ brings e t (get_or (live_connections e.graph.now) k d)
      there late =
          let m = outs_at e.graph.now (uid_at e.graph.now r.src) in
          let back : length (outgoing e.graph.now (positions_of e) (input_of e) (uid_at e.graph.now r.src)) - 1 - (t - r.delay) ≡ e.frames - 1 - t + r.delay = (let l = long in omega arith) in
          (λ i. get_or (of_stream i) ((t - r.delay) * channels i + channel i) (pos 0))
          ∙ get_or-interleaved (outs_at e.graph.now (uid_at e.graph.now r.src)) (outgoing e.graph.now (positions_of e) (input_of e) (uid_at e.graph.now r.src)) (wide_outgoing e s r.src is.source)
          (t - r.delay) (get_or (live_connections e.graph.now) k d).src_channel (let l = long in omega arith) within
          ∙ ap (sample (outgoing e.graph.now (positions_of e) (input_of e) (uid_at e.graph.now r.src)) (get_or (live_connections e.graph.now) k d).src_channel) (back ∙ ap (λ n. e.frames - 1 - t + n) is.holds_back)
          ∙ ap (λ h. sample h (get_or (live_connections e.graph.now) k d).src_channel (e.frames - 1 - t + delay e.graph.now (positions_of e) (get_or (live_connections e.graph.now) k d))) same

  -- ---- one connection after another
  module _ (i : ℕ) (inside : i < length e.graph.now.nodes) where
    -- at first the sums are silence
    pub no_sums : AreSums e i 0 (replicate (e.frames * ins_at e.graph.now (uid_at e.graph.now i)) (pos 0))
    no_sums = record {
      count = length-replicate (e.frames * ins_at e.graph.now (uid_at e.graph.now i)) (pos 0);
      each = λ t c lt lc. get_or-replicate (e.frames * ins_at e.graph.now (uid_at e.graph.now i)) (t * ins_at e.graph.now (uid_at e.graph.now i) + c) (pos 0) (pos 0)
          (in_row t e.frames c (ins_at e.graph.now (uid_at e.graph.now i)) lt lc);
    }

    -- a connection of another node
    pub sums_same : (k : ℕ) (d : Connection) (r : Route) (sums : List ℤ) → k < length (live_connections e.graph.now) → IsRoute e.graph.now (positions_of e) (get_or (live_connections e.graph.now) k d) r → r.dst ≢ i
        → AreSums e i k sums → AreSums e i (k + 1) sums
    sums_same k d r sums lk is other are = record {
      count = are.count;
      each = λ t c lt lc.
          are.each t c lt lc
          ∙ sym (sum_more (brings e t) (leads_into (uid_at e.graph.now i) c) (live_connections e.graph.now) k d lk
          ∙ ap (λ b. brought e i k c t +ℤ cond b (brings e t (get_or (live_connections e.graph.now) k d)) (pos 0)) (elsewhere c) ∙ plus-none (brought e i k c t));
    }
      where
        not_here : (b : Bool) → ((get_or (live_connections e.graph.now) k d).dst.0 == uid_at e.graph.now i) ≡ b → b ≡ false
        not_here true t =
            absurd (other (same_index e.graph.now (named e.graph.now s.sound) r.dst i is.destination inside (is.destination_name ∙ eqb-true (get_or (live_connections e.graph.now) k d).dst.0 (uid_at e.graph.now i) t)))
        not_here false t = refl

        elsewhere : (c : ℕ) → leads_into (uid_at e.graph.now i) c (get_or (live_connections e.graph.now) k d) ≡ false
        elsewhere c =
            ap (λ b. b && ((get_or (live_connections e.graph.now) k d).dst_channel == c))
            (not_here ((get_or (live_connections e.graph.now) k d).dst.0 == uid_at e.graph.now i) refl)

    -- a connection into the node
    pub sums_more : (k : ℕ) (d : Connection) (r : Route) (stream sums new : List ℤ) → k < length (live_connections e.graph.now) → IsRoute e.graph.now (positions_of e) (get_or (live_connections e.graph.now) k d) r → r.dst ≡ i
        → stream ≡ interleaved (outgoing e.graph.now (positions_of e) (input_of e) (uid_at e.graph.now r.src)) → length new ≡ length sums → IsAdded e.frames r stream sums new
        → AreSums e i k sums → AreSums e i (k + 1) new
    sums_more k d r stream sums new lk is here of_stream long added are = record {
      count = long ∙ are.count;
      each = λ t c lt lc.
          (elim (cases_eq c (get_or (live_connections e.graph.now) k d).dst_channel) [
            | inl same ↦ one_more t c lt lc same
            | inr other ↦ no_more t c lt lc other
          ])
          ∙ sym (sum_more (brings e t) (leads_into (uid_at e.graph.now i) c) (live_connections e.graph.now) k d lk);
    }
      where
        name : uid_at e.graph.now i ≡ (get_or (live_connections e.graph.now) k d).dst.0
        name = ap (uid_at e.graph.now) (sym here) ∙ is.destination_name

        into : ((get_or (live_connections e.graph.now) k d).dst.0 == uid_at e.graph.now i) ≡ true
        into = eq-eqb (get_or (live_connections e.graph.now) k d).dst.0 (uid_at e.graph.now i) (sym name)

        channels : r.to.of ≡ ins_at e.graph.now (uid_at e.graph.now i)
        channels = ap (λ (x : Channel). x.of) is.to ∙ ap (ins_at e.graph.now) (sym name)

        channel : r.to.at ≡ (get_or (live_connections e.graph.now) k d).dst_channel
        channel = ap (λ (x : Channel). x.at) is.to

        one_more : (t c : ℕ) → t < e.frames → c < ins_at e.graph.now (uid_at e.graph.now i) → c ≡ (get_or (live_connections e.graph.now) k d).dst_channel
            → get_or new (t * ins_at e.graph.now (uid_at e.graph.now i) + c) (pos 0)
            ≡ brought e i k c t +ℤ cond (leads_into (uid_at e.graph.now i) c (get_or (live_connections e.graph.now) k d)) (brings e t (get_or (live_connections e.graph.now) k d)) (pos 0)
        one_more t c lt lc same =
            let place : t * r.to.of + r.to.at ≡ t * ins_at e.graph.now (uid_at e.graph.now i) + c = (λ j. t * channels j + (channel ∙ sym same) j) in
            let leads : leads_into (uid_at e.graph.now i) c (get_or (live_connections e.graph.now) k d) ≡ true = and_both _ _ into (eq-eqb (get_or (live_connections e.graph.now) k d).dst_channel c (sym same)) in
            let old : sample_in sums r.to t ≡ brought e i k c t = ap (λ j. get_or sums j (pos 0)) place ∙ are.each t c lt lc in
            let more : sample_before stream r.from r.delay t ≡ brings e t (get_or (live_connections e.graph.now) k d) = route_brings k d r stream t lk is of_stream lt in
            ap (λ j. get_or new j (pos 0)) (sym place) ∙ added.added t lt ∙ (λ j. old j +ℤ more j)
            ∙ ap (λ b. brought e i k c t +ℤ cond b (brings e t (get_or (live_connections e.graph.now) k d)) (pos 0)) (sym leads)

        no_more : (t c : ℕ) → t < e.frames → c < ins_at e.graph.now (uid_at e.graph.now i) → (c ≡ (get_or (live_connections e.graph.now) k d).dst_channel → ⊥)
            → get_or new (t * ins_at e.graph.now (uid_at e.graph.now i) + c) (pos 0)
            ≡ brought e i k c t +ℤ cond (leads_into (uid_at e.graph.now i) c (get_or (live_connections e.graph.now) k d)) (brings e t (get_or (live_connections e.graph.now) k d)) (pos 0)
        no_more t c lt lc other =
            let place : t * r.to.of + c ≡ t * ins_at e.graph.now (uid_at e.graph.now i) + c = ap (λ n. t * n + c) channels in
            let leads : leads_into (uid_at e.graph.now i) c (get_or (live_connections e.graph.now) k d) ≡ false =
            (λ j. into j && not_same ((get_or (live_connections e.graph.now) k d).dst_channel == c) refl j) in
            ap (λ j. get_or new j (pos 0)) (sym place) ∙ added.others t c lt (subst (λ n. c < n) (sym channels) lc) (λ q. other (q ∙ channel)) ∙ ap (λ j. get_or sums j (pos 0)) place
            ∙ are.each t c lt lc ∙ sym (plus-none (brought e i k c t)) ∙ ap (λ b. brought e i k c t +ℤ cond b (brings e t (get_or (live_connections e.graph.now) k d)) (pos 0)) (sym leads)
          where
            not_same : (b : Bool) → ((get_or (live_connections e.graph.now) k d).dst_channel == c) ≡ b → b ≡ false
            not_same true q = absurd (other (sym (eqb-true (get_or (live_connections e.graph.now) k d).dst_channel c q)))
            not_same false q = refl

    -- the sums fit
    pub sums_small : (k : ℕ) (sums : List ℤ) → AreSums e i k sums → AreUpTo (2 ^ 60) sums
    sums_small k sums are j d lj =
        let m = ins_at e.graph.now (uid_at e.graph.now i) in
        let at = in_frame e.frames (ins_at e.graph.now (uid_at e.graph.now i)) j (let n = are.count in omega arith) in
        let place : j / ins_at e.graph.now (uid_at e.graph.now i) * ins_at e.graph.now (uid_at e.graph.now i) + j % ins_at e.graph.now (uid_at e.graph.now i) ≡ j = div-add-mod' j (ins_at e.graph.now (uid_at e.graph.now i)) in
        let is = are.each (j / ins_at e.graph.now (uid_at e.graph.now i)) (j % ins_at e.graph.now (uid_at e.graph.now i)) at.0 at.1 in
        let here : get_or sums j d ≡ brought e i k (j % ins_at e.graph.now (uid_at e.graph.now i)) (j / ins_at e.graph.now (uid_at e.graph.now i)) =
        get_or_default sums j d (pos 0) lj ∙ ap (λ n. get_or sums n (pos 0)) (sym place) ∙ is in
        subst (λ z. unsigned_abs z ≤ 2 ^ 60) (sym here) (brought_small (j % ins_at e.graph.now (uid_at e.graph.now i)) (j / ins_at e.graph.now (uid_at e.graph.now i)))
      where
        brought_small : (c t : ℕ) → unsigned_abs (brought e i k c t) ≤ 2 ^ 60
        brought_small c t =
            let kept = filter (leads_into (uid_at e.graph.now i) c) (take k (live_connections e.graph.now)) in
            let small = sum_of-small (brings e t) (2 ^ 46) (filter (leads_into (uid_at e.graph.now i) c) (take k (live_connections e.graph.now)))
            (λ q. outgoing_small e s q.src.0 q.src_channel (e.frames - 1 - t + delay e.graph.now (positions_of e) q)) in
            let few : length (filter (leads_into (uid_at e.graph.now i) c) (take k (live_connections e.graph.now))) ≤ 8192 =
            (let l = filter_le (leads_into (uid_at e.graph.now i) c) (take k (live_connections e.graph.now)) in let m = filter_le (λ d. is_live e.graph.now d.dst.0) e.graph.now.connections in let fits = s.sound.fits.1 in omega (arith, length-take k (live_connections e.graph.now))) in
            let most = mul-le-mul_right (2 ^ 46) few in
            omega arith

    -- at the end they are what comes into a live node
    pub sums_all : is_live e.graph.now (uid_at e.graph.now i) ≡ true → (k : ℕ) (sums : List ℤ) → length (live_connections e.graph.now) ≤ k → AreSums e i k sums → sums ≡ incoming_at e i
    sums_all live k sums past are =
        fill_by_all (in_turn e.frames (ins_at e.graph.now (uid_at e.graph.now i)) (sum_into e.graph.now (positions_of e) (outgoing e.graph.now (positions_of e) (input_of e)) (uid_at e.graph.now i)))
        sums (e.frames * ins_at e.graph.now (uid_at e.graph.now i)) (pos 0) are.count place
        ∙ sym (interleaved-history_of e.frames (ins_at e.graph.now (uid_at e.graph.now i)) (sum_into e.graph.now (positions_of e) (outgoing e.graph.now (positions_of e) (input_of e)) (uid_at e.graph.now i)))
        ∙ ap (λ n. interleaved (history_of n (ins_at e.graph.now (uid_at e.graph.now i)) (sum_into e.graph.now (positions_of e) (outgoing e.graph.now (positions_of e) (input_of e)) (uid_at e.graph.now i)))) (sym (long_input e s))
      where
        -- all connections into it are live
        all_live : (c : ℕ) → filter (leads_into (uid_at e.graph.now i) c) (live_connections e.graph.now) ≡ connections_to e.graph.now (uid_at e.graph.now i) c
        all_live c =
            filter_within (λ d. is_live e.graph.now d.dst.0) (leads_into (uid_at e.graph.now i) c) e.graph.now.connections
            (λ d into. ap (is_live e.graph.now) (into_v d (uid_at e.graph.now i) c into) ∙ live)

        place : (j : ℕ) → j < e.frames * ins_at e.graph.now (uid_at e.graph.now i)
            → get_or sums j (pos 0) ≡ in_turn e.frames (ins_at e.graph.now (uid_at e.graph.now i)) (sum_into e.graph.now (positions_of e) (outgoing e.graph.now (positions_of e) (input_of e)) (uid_at e.graph.now i)) j
        place j lj =
            let at = in_frame e.frames (ins_at e.graph.now (uid_at e.graph.now i)) j lj in
            let back : j / ins_at e.graph.now (uid_at e.graph.now i) * ins_at e.graph.now (uid_at e.graph.now i) + j % ins_at e.graph.now (uid_at e.graph.now i) ≡ j = div-add-mod' j (ins_at e.graph.now (uid_at e.graph.now i)) in
            ap (λ n. get_or sums n (pos 0)) (sym back) ∙ are.each (j / ins_at e.graph.now (uid_at e.graph.now i)) (j % ins_at e.graph.now (uid_at e.graph.now i)) at.0 at.1
            ∙ ap (λ cs. sum_of (brings e (j / ins_at e.graph.now (uid_at e.graph.now i))) (filter (leads_into (uid_at e.graph.now i) (j % ins_at e.graph.now (uid_at e.graph.now i))) cs)) (take_all k (live_connections e.graph.now) past)
            ∙ ap (sum_of (brings e (j / ins_at e.graph.now (uid_at e.graph.now i)))) (all_live (j % ins_at e.graph.now (uid_at e.graph.now i)))

-- ---- the route at a place, as it is read
abbrev pub any_route : Route
any_route = record { src = 0; from = record { at = 0; of = 0 }; dst = 0; to = record { at = 0; of = 0 }; delay = 0 }

module _ (e : Evaluation) (s : IsEvaluation e) (rs : List Route) (same : rs ≡ e.routes.items) (k : ℕ) (d : Route) (lk : k < length rs) where
  pub route_place : k < length (live_connections e.graph.now)
  route_place = let l : k < length e.routes.items = subst (λ xs. k < length xs) same lk in let n = s.routes.count in omega arith

  pub route_at : (c : Connection) → IsRoute e.graph.now (positions_of e) (get_or (live_connections e.graph.now) k c) (get_or rs k d)
  route_at c =
      subst (λ xs. IsRoute e.graph.now (positions_of e) (get_or (live_connections e.graph.now) k c) (get_or xs k d)) (sym same)
      (s.routes.each k c d (subst (λ xs. k < length xs) same lk))

  pub from_within : (get_or rs k d).from.at < (get_or rs k d).from.of
  from_within =
      let is = route_at any_connection in
      let c = (channels_fit e.graph.now s.sound (get_or (live_connections e.graph.now) k any_connection) (kept_at e s k any_connection route_place)).0 in
      subst (λ x. x.at < x.of) (sym is.from) c

  pub to_within : (get_or rs k d).to.at < (get_or rs k d).to.of
  to_within =
      let is = route_at any_connection in
      let c = (channels_fit e.graph.now s.sound (get_or (live_connections e.graph.now) k any_connection) (kept_at e s k any_connection route_place)).1 in
      subst (λ x. x.at < x.of) (sym is.to) c

  pub source_within : (get_or rs k d).src < length e.graph.now.nodes
  source_within = (route_at any_connection).source

  module _ (i : ℕ) (into : (get_or rs k d).dst ≡ i) where
    pub to_channels : (get_or rs k d).to.of ≡ ins_at e.graph.now (uid_at e.graph.now i)
    to_channels =
        let is = route_at any_connection in
        ap (λ (x : Channel). x.of) is.to ∙ ap (ins_at e.graph.now) (sym is.destination_name ∙ ap (uid_at e.graph.now) into)

    module _ (streams : List (List ℤ)) (row stream : List ℤ) (sources : HasSources e streams i) (row_is : row ≡ get_or streams (get_or rs k d).src row)
        (count : length streams ≡ length e.graph.now.nodes) (stream_is : stream ≡ row) where
      pub stream_outgoing : stream ≡ interleaved (outgoing e.graph.now (positions_of e) (input_of e) (uid_at e.graph.now (get_or rs k d).src))
      stream_outgoing =
          let is = route_at any_connection in
          let has : HasStream e streams (get_or rs k d).src =
          subst (λ xs. (get_or xs k d).dst ≡ i → HasStream e streams (get_or xs k d).src) (sym same) (sources k d (subst (λ xs. k < length xs) same lk)) into in
          stream_is ∙ row_is ∙ get_or_default streams (get_or rs k d).src row [] (let l = is.source in omega arith) ∙ has

      pub stream_long : length stream ≡ e.frames * (get_or rs k d).from.of
      stream_long =
          let is = route_at any_connection in
          ap (λ xs. length xs) stream_outgoing
          ∙ length-interleaved (outs_at e.graph.now (uid_at e.graph.now (get_or rs k d).src)) (outgoing e.graph.now (positions_of e) (input_of e) (uid_at e.graph.now (get_or rs k d).src)) (wide_outgoing e s (get_or rs k d).src is.source)
          ∙ (λ j. long_outgoing e s (get_or rs k d).src is.source j * outs_at e.graph.now (is.source_name j))
          ∙ ap (λ (x : Channel). e.frames * x.of) (sym is.from)

      pub stream_small : AreUpTo (2 ^ 46) stream
      stream_small =
          subst (AreUpTo (2 ^ 46)) (sym stream_outgoing)
          (interleaved_small (2 ^ 46) (outgoing e.graph.now (positions_of e) (input_of e) (uid_at e.graph.now (get_or rs k d).src)) (outgoing_small e s (uid_at e.graph.now (get_or rs k d).src)))
