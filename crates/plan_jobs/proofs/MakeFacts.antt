-- Lists that are made entry by entry, of those that pass a test.
use Rattle.std.proofs.Common.{◌≡◌, ℕ, ◌+◌, ◌<◌, ◌≤◌, zero, suc, Bool, true, false, cond, pos, List, [], ◌∷◌, ◌++◌, length, map, take, replicate, get_or, refl, sym, ◌∙◌, ap, subst, arith, add-one, ◌==◌, inl, inr, ⊎_elim}
use Rattle.std.proofs.Common.{◌*◌, Some}
use Rattle.std.specs.List.{filter, All, Contains}
use Rattle.std.specs.Prelude.{not, reverse, ◌-◌}
use Rattle.players.specs.Reads.{channels_of, is_fed}
use Rattle.std.proofs.lemmas.Bool.{cases_Bool}
use Rattle.std.proofs.lemmas.List.{ext_get_or, length-reverse, get_or-reverse, take-append-le}
use Rattle.graph_model.specs.StreamLaws.{get_or_zeros}
use Rattle.std.proofs.lemmas.List.{length-map, length-replicate, get_or-map}
use Rattle.std.proofs.lemmas.List.Elements.{All-contains, Contains-get_or}
use Rattle.std.proofs.lemmas.Bool.{eqb-true}
use Rattle.graph_model.proofs.ReachLaws.{filter_from}
use Rattle.graph_model.specs.Histories.{window}
use Rattle.graph_model.specs.Kinds.{ins_of, outs_of}
use Rattle.graph_model.specs.Bounds.{bounds}
use Rattle.graph_model.specs.Graphs.{node_named, or_zero, connections_into}
use Rattle.graph_model.specs.declared.graph.Node.{Node}
use Rattle.graph_model.specs.declared.graph.Bound.{Bound}
use Rattle.engine_model.specs.Machines.{windows_on}
use Rattle.engine_model.specs.Machines.{delays_into}
use Rattle.players.specs.declared.playing.Player.{Player}
use Rattle.players.specs.Servers.{FitsServer, ServerHolds}
use Rattle.players.specs.Plays.{delays_of}
use Rattle.plan_jobs.specs.Jobs.{Serves, IsNewPlayer}
use Rattle.std.proofs.lemmas.List.{length-append, get_or_append_left, take_all}
use Rattle.std.proofs.lemmas.Bool.{cond-true, cond-false, cases_lt}
use Rattle.graph_model.specs.declared.graph.Connection.{Connection}
use Rattle.graph_model.specs.declared.graph.Graph.{Graph}
use Rattle.graph_model.specs.Answers.{delay}
use Rattle.plan_model.specs.declared.buffers.Home.{Home as PlanHome}
use Rattle.engine_model.specs.Machines.{homes_at, buffer_for}
use Rattle.pool_waves.specs.declared.job.Home.{Home}
use Rattle.players.specs.declared.gathering.Wire.{Wire}
use Rattle.plan_jobs.specs.Jobs.{core_home, IsOwnRight}
use Rattle.plan_jobs.specs.Made.{AreWiresOf, AreLinesOf}

pub filter_take : {X : Type 0} (p : X → Bool) (xs : List X) (i : ℕ) (d : X) → i < length xs
    → filter p (take (i + 1) xs) ≡ cond (p (get_or xs i d)) (filter p (take i xs) ++ get_or xs i d ∷ []) (filter p (take i xs))
filter_take p xs i d lt = subst (λ k. filter p (take k xs) ≡ cond (p (get_or xs i d)) (filter p (take i xs) ++ get_or xs i d ∷ []) (filter p (take i xs))) (sym (add-one i)) (go p xs i d lt)
  where
    step : {X : Type 0} (x y : X) (a b : Bool) (r s : List X) → r ≡ cond b (s ++ y ∷ []) s → cond a (x ∷ r) r ≡ cond b (cond a (x ∷ s) s ++ y ∷ []) (cond a (x ∷ s) s)
    step x y true true r s e = ap (λ z. x ∷ z) e
    step x y true false r s e = ap (λ z. x ∷ z) e
    step x y false b r s e = e

    go : {X : Type 0} (p : X → Bool) (xs : List X) (i : ℕ) (d : X) → i < length xs → filter p (take (suc i) xs) ≡ cond (p (get_or xs i d)) (filter p (take i xs) ++ get_or xs i d ∷ []) (filter p (take i xs))
    go p [] i d lt = absurd (omega arith)
    go p (x ∷ xs) zero d lt = refl
    go p (x ∷ xs) (suc i) d lt = step x (get_or xs i d) (p x) (p (get_or xs i d)) (filter p (take (suc i) xs)) (filter p (take i xs)) (go p xs i d (omega arith))

pub passes : {X : Type 0} (p : X → Bool) (xs : List X) (i : ℕ) (d : X) → i < length xs → p (get_or xs i d) ≡ true → filter p (take (i + 1) xs) ≡ filter p (take i xs) ++ get_or xs i d ∷ []
passes p xs i d lt t = filter_take p xs i d lt ∙ cond-true (p (get_or xs i d)) _ _ t

pub fails : {X : Type 0} (p : X → Bool) (xs : List X) (i : ℕ) (d : X) → i < length xs → p (get_or xs i d) ≡ false → filter p (take (i + 1) xs) ≡ filter p (take i xs)
fails p xs i d lt t = filter_take p xs i d lt ∙ cond-false (p (get_or xs i d)) _ _ t

pub map_more : {X Y : Type 0} (f : X → Y) (xs : List X) (x : X) → map f (xs ++ x ∷ []) ≡ map f xs ++ f x ∷ []
map_more f [] x = refl
map_more f (y ∷ xs) x = ap (λ z. f y ∷ z) (map_more f xs x)

-- ---- wires
pub wires_more : (cs : List Connection) (homes : List PlanHome) (own : List Home) (v : ℕ) (ws : List Wire) (i : ℕ) (d : Connection) (w : Wire) → i < length cs → ((get_or cs i d).dst.0 == v) ≡ true
    → w.buffer ≡ buffer_for homes (get_or cs i d) → w.channel ≡ (get_or cs i d).dst_channel → IsOwnRight own w.buffer w.own
    → w.first ≡ not (is_fed (channels_of ws) w.channel)
    → AreWiresOf (take i cs) homes own v ws → AreWiresOf (take (i + 1) cs) homes own v (ws ++ w ∷ [])
wires_more cs homes own v ws i d w lt t b ch right first a =
    let more = passes (λ c. c.dst.0 == v) cs i d lt t in
    record {
      buffers = map_more (λ (u : Wire). u.buffer) ws w ∙ ap (λ z. z ++ w.buffer ∷ []) a.buffers ∙ ap (λ z. map (λ c. buffer_for homes c) (filter (λ c. c.dst.0 == v) (take i cs)) ++ z ∷ []) b
          ∙ sym (map_more (λ (c : Connection). buffer_for homes c) (filter (λ c. c.dst.0 == v) (take i cs)) (get_or cs i d)) ∙ ap (map (λ c. buffer_for homes c)) (sym more);
      channels = map_more (λ (u : Wire). u.channel) ws w ∙ ap (λ z. z ++ w.channel ∷ []) a.channels ∙ ap (λ z. map (λ c. c.dst_channel) (filter (λ c. c.dst.0 == v) (take i cs)) ++ z ∷ []) ch
          ∙ sym (map_more (λ (c : Connection). c.dst_channel) (filter (λ c. c.dst.0 == v) (take i cs)) (get_or cs i d)) ∙ ap (map (λ c. c.dst_channel)) (sym more);
      right = λ j e lj.
          let ls = length-append ws (w ∷ []) in
          ⊎_elim
          (λ before. subst (λ (u : Wire). IsOwnRight own u.buffer u.own) (sym (get_or_append_left ws (w ∷ []) e j before)) (a.right j e before))
          (λ last.
          let z : j ≡ length ws + 0 = omega arith in
          subst (λ (u : Wire). IsOwnRight own u.buffer u.own) (sym (at_end ws w e j (omega arith))) right)
          (cases_lt j (length ws));
      first = λ j e lj.
          let ls = length-append ws (w ∷ []) in
          let lc = length-map ws (λ (u : Wire). u.channel) in
          let all = map_more (λ (u : Wire). u.channel) ws w in
          ⊎_elim
          (λ before.
          subst (λ (u : Wire). u.first ≡ not (is_fed (take j (channels_of (ws ++ w ∷ []))) u.channel)) (sym (get_or_append_left ws (w ∷ []) e j before))
          (subst (λ zs. (get_or ws j e).first ≡ not (is_fed zs (get_or ws j e).channel)) (sym (ap (take j) all ∙ take-append-le j (channels_of ws) (w.channel ∷ []) (omega arith)))
          (a.first j e before)))
          (λ last.
          let is : j ≡ length ws = omega arith in
          subst (λ (u : Wire). u.first ≡ not (is_fed (take j (channels_of (ws ++ w ∷ []))) u.channel)) (sym (at_end ws w e j is))
          (subst (λ zs. w.first ≡ not (is_fed zs w.channel))
          (sym (ap (take j) all ∙ take-append-le j (channels_of ws) (w.channel ∷ []) (omega arith) ∙ take_all j (channels_of ws) (omega arith))) first))
          (cases_lt j (length ws));
    }
  where
    at_end : (xs : List Wire) (x e : Wire) (j : ℕ) → j ≡ length xs → get_or (xs ++ x ∷ []) j e ≡ x
    at_end [] x e zero q = refl
    at_end [] x e (suc j) q = absurd (omega (arith, q))
    at_end (y ∷ xs) x e zero q = absurd (omega (arith, q))
    at_end (y ∷ xs) x e (suc j) q = at_end xs x e j (omega (arith, q))

pub wires_stay : (cs : List Connection) (homes : List PlanHome) (own : List Home) (v : ℕ) (ws : List Wire) (i : ℕ) (d : Connection) → i < length cs → ((get_or cs i d).dst.0 == v) ≡ false
    → AreWiresOf (take i cs) homes own v ws → AreWiresOf (take (i + 1) cs) homes own v ws
wires_stay cs homes own v ws i d lt t a =
    let same = fails (λ c. c.dst.0 == v) cs i d lt t in
    record {
      buffers = a.buffers ∙ ap (map (λ c. buffer_for homes c)) (sym same);
      channels = a.channels ∙ ap (map (λ c. c.dst_channel)) (sym same);
      right = a.right;
      first = a.first;
    }

pub wires_all : (cs : List Connection) (homes : List PlanHome) (own : List Home) (v : ℕ) (ws : List Wire) (i : ℕ) → length cs ≤ i → AreWiresOf (take i cs) homes own v ws → AreWiresOf cs homes own v ws
wires_all cs homes own v ws i le a = subst (λ z. AreWiresOf z homes own v ws) (take_all i cs le) a

-- ---- a player
abbrev no_connection : Connection
no_connection = record { src = record { 0 = 0 }; src_channel = 0; dst = record { 0 = 0 }; dst_channel = 0 }

delays_made : (g : Graph) (p : ℕ → ℕ) (cs : List Connection) → map (λ l. length l) (map (λ c. replicate (delay g p c) (pos 0)) cs) ≡ map (λ c. delay g p c) cs
delays_made g p [] = refl
delays_made g p (c ∷ cs) = ap (λ n. n ∷ map (λ l. length l) (map (λ d. replicate (delay g p d) (pos 0)) cs)) (length-replicate (delay g p c) (pos 0)) ∙ ap (λ ns. delay g p c ∷ ns) (delays_made g p cs)

take_whole : (d : ℕ) → take d (replicate d (pos 0)) ≡ replicate d (pos 0)
take_whole zero = refl
take_whole (suc d) = ap (λ xs. pos 0 ∷ xs) (take_whole d)

turned : (d : ℕ) → reverse (replicate d (pos 0)) ≡ replicate d (pos 0)
turned d =
    let lr = length-reverse (replicate d (pos 0)) in
    let l = length-replicate d (pos 0) in
    ext_get_or (pos 0) (reverse (replicate d (pos 0))) (replicate d (pos 0)) lr
    (λ i lt. get_or-reverse (replicate d (pos 0)) i (pos 0) (omega arith) ∙ get_or_zeros d (length (replicate d (pos 0)) - 1 - i) ∙ sym (get_or_zeros d i))

windows_made : (g : Graph) (p : ℕ → ℕ) (cs : List Connection) → map (λ c. replicate (delay g p c) (pos 0)) cs ≡ map reverse (windows_on (map (λ c. delay g p c) cs) (map (λ c. []) cs))
windows_made g p [] = refl
windows_made g p (c ∷ cs) =
    ap (λ w. w ∷ map (λ d. replicate (delay g p d) (pos 0)) cs) (sym (turned (delay g p c)) ∙ ap reverse (sym (take_whole (delay g p c))))
    ∙ ap (λ ws. reverse (window (delay g p c) []) ∷ ws) (windows_made g p cs)

channels_within : (cs : List Connection) (v n : ℕ) → All (λ c. c.dst.0 ≡ v → c.dst_channel < n) cs → (i : ℕ) → i < length (map (λ c. c.dst_channel) (filter (λ c. c.dst.0 == v) cs)) → get_or (map (λ c. c.dst_channel) (filter (λ c. c.dst.0 == v) cs)) i 0 < n
channels_within cs v n all i lt =
    let lm = length-map (filter (λ c. c.dst.0 == v) cs) (λ (c : Connection). c.dst_channel) in
    let li : i < length (filter (λ c. c.dst.0 == v) cs) = omega (arith, lm) in
    let e = get_or (filter (λ c. c.dst.0 == v) cs) i no_connection in
    let f = filter_from (λ c. c.dst.0 == v) cs (get_or (filter (λ c. c.dst.0 == v) cs) i no_connection) (Contains-get_or (filter (λ c. c.dst.0 == v) cs) i no_connection li) in
    subst (λ z. z < n) (sym (get_or-map (λ (c : Connection). c.dst_channel) (filter (λ c. c.dst.0 == v) cs) i no_connection 0 li))
    (All-contains (λ (c : Connection). c.dst.0 ≡ v → c.dst_channel < n) cs (get_or (filter (λ c. c.dst.0 == v) cs) i no_connection) all f.0 (eqb-true _ v f.1))

pub made_player : (g : Graph) (p : ℕ → ℕ) (homes : List PlanHome) (own : List Home) (node : Node) (bound : Bound) (a : Player)
    → node_named g node.uid.0 ≡ Some node → bound ≡ bounds g node.uid.0 → All (λ c. c.dst.0 ≡ node.uid.0 → c.dst_channel < ins_of node.kind) g.connections → map core_home own ≡ homes_at homes node.uid.0
    → AreWiresOf g.connections homes own node.uid.0 a.wires.items → AreLinesOf g p g.connections node.uid.0 a.lines.items → Serves node.kind bound a.server × ServerHolds a.server [] × FitsServer a.server (ins_of node.kind) (outs_of node.kind)
    → a.ins ≡ ins_of node.kind → a.outs ≡ outs_of node.kind → length a.sums.items ≡ a.ins * 64 → length a.told.items ≡ a.outs * 64 → length a.spare.items ≡ 64
    → All (λ d. d < a.ins) a.silent.items → ((d : ℕ) → d < a.ins → is_fed (channels_of a.wires.items) d ≡ false → Contains a.silent.items d)
    → IsNewPlayer g p homes node.uid.0 own a
made_player g p homes own node bound a named is_bound channels own_is wires lines server ins outs sums told spare within silent =
    let v = node.uid.0 in
    let delays : delays_of a ≡ delays_into g p node.uid.0 = ap (map (λ l. length l)) lines ∙ delays_made g p (connections_into g node.uid.0) in
    let lw : length a.wires.items ≡ length (connections_into g node.uid.0) = sym (length-map a.wires.items (λ (w : Wire). w.channel)) ∙ ap length wires.channels ∙ length-map (connections_into g node.uid.0) (λ (c : Connection). c.dst_channel) in
    let ll : length a.lines.items ≡ length (connections_into g node.uid.0) = ap length lines ∙ length-map (connections_into g node.uid.0) (λ c. replicate (delay g p c) (pos 0)) in
    record {
      is = record {
        buffers = wires.buffers;
        channels = wires.channels;
        delays = delays;
        own = wires.right;
        homes_are = own_is;
        ins = ins ∙ sym (ap (or_zero ins_of) named);
        outs = outs ∙ sym (ap (or_zero outs_of) named);
        server = λ n e.
            let same : Some n ≡ Some node = sym e ∙ named in
            let nn : n ≡ node = cc in
            subst (λ (k : Node). Serves k.kind (bounds g node.uid.0) a.server) (sym nn) (subst (λ b. Serves node.kind b a.server) is_bound server.0);
        whole = record {
          lines = ll ∙ sym lw;
          sums = sums;
          told = told;
          spare = spare;
          silent = within;
          first = wires.first;
          rows = λ d lt. elim (cases_Bool (is_fed (channels_of a.wires.items) d)) [ inl fed ↦ inl fed | inr not_fed ↦ inr (silent d lt not_fed) ];
          channels = λ i d lt.
              let at : get_or (map (λ (w : Wire). w.channel) a.wires.items) i 0 ≡ (get_or a.wires.items i d).channel = get_or-map (λ (w : Wire). w.channel) a.wires.items i d 0 lt in
              let li : i < length (map (λ (w : Wire). w.channel) a.wires.items) = subst (λ z. i < z) (sym (length-map a.wires.items (λ (w : Wire). w.channel))) lt in
              subst (λ z. (get_or a.wires.items i d).channel < z) (sym ins)
              (subst (λ z. z < ins_of node.kind) at
              (subst (λ zs. get_or zs i 0 < ins_of node.kind) (sym wires.channels) (channels_within g.connections node.uid.0 (ins_of node.kind) channels i (subst (λ zs. i < length zs) wires.channels li))));
          server = subst (λ z. FitsServer a.server z a.outs) (sym ins) (subst (λ z. FitsServer a.server (ins_of node.kind) z) (sym outs) server.2);
        };
      };
      holds = record {
        lines = lines ∙ windows_made g p (connections_into g node.uid.0) ∙ ap (λ ds. map reverse (windows_on ds (map (λ c. []) (connections_into g node.uid.0)))) (sym delays);
        passed = length-map (connections_into g node.uid.0) (λ c. []) ∙ sym lw;
        kernel = server.1;
      };
    }
