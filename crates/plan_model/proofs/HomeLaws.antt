-- Each value has a buffer, and two values have the same only where they may share it.
use Rattle.std.proofs.Common.{◌≡◌, ℕ, ◌<◌, ◌⊎◌, List, [], ◌∷◌, map, refl, sym, ap, subst, ◌∙◌, arith, inl, inr, cond, ◌==◌, Bool, true, false, Option, Some, None, get_or}
use Rattle.std.specs.List.{All, Contains, find, zip}
use Rattle.std.specs.Cmp.{first_so, second_so}
use Rattle.std.proofs.lemmas.Bool.{eqb-true}
use Rattle.std.proofs.lemmas.List.Elements.{All-contains}
use Rattle.graph_model.specs.Paths.{live_connections}
use Rattle.graph_model.proofs.PathLaws.{at_tail, first_or_later, same_name, and_both}
use Rattle.graph_model.specs.declared.graph.Connection.{Connection}
use Rattle.graph_model.specs.declared.graph.Graph.{Graph}
use Rattle.plan_model.specs.Buffers.{MayShare, IsAssignment}
use Rattle.plan_model.specs.Homes.{is_home_of, buffer_at, buffer_of, HaveBuffers, BuffersAreApart}
use Rattle.plan_model.specs.Lives.{Port, source, AreValues, ports_of, lives_of, life_of}
use Rattle.plan_model.specs.declared.buffers.Home.{Home}
use Rattle.plan_model.specs.declared.buffers.Life.{Life}
use Rattle.plan_model.specs.declared.rule.Rule.TheVariants.{Homes, Channels}
use Rattle.plan_model.proofs.LowerBoundLaws.{pair_of, turn_share}

abbrev port : Home → Port
port h = record { uid = h.uid; channel = h.channel }

-- ---- what is found
is_home : (h : Home) (x : Port) → port h ≡ x → is_home_of x.uid.0 x.channel h ≡ true
is_home h x same =
    and_both _ _ (ap (λ (p : Port). p.uid.0 == x.uid.0) same ∙ same_name x.uid.0) (ap (λ (p : Port). p.channel == x.channel) same ∙ same_name x.channel)

finds_home : (homes : List Home) (x : Port) → Contains (ports_of homes) x
    → (h : Home) × Contains homes h × (find (is_home_of x.uid.0 x.channel) homes ≡ Some h)
finds_home [] x has = let l = has.1 in absurd (omega arith)
finds_home (h ∷ homes) x has = go (is_home_of x.uid.0 x.channel h) refl (first_or_later (port h) x (ports_of homes) has) (finds_home homes x)
  where
    go : (b : Bool) → is_home_of x.uid.0 x.channel h ≡ b → (port h ≡ x) ⊎ Contains (ports_of homes) x
        → (Contains (ports_of homes) x → (i : Home) × Contains homes i × (find (is_home_of x.uid.0 x.channel) homes ≡ Some i))
        → (i : Home) × Contains (h ∷ homes) i × (cond b (Some h) (find (is_home_of x.uid.0 x.channel) homes) ≡ Some i)
    go true e c rest = (h, (0, omega arith, refl), refl)
    go false e (inl same) rest = let t = is_home h x same in absurd (cc)
    go false e (inr there) rest = let r = rest there in (r.0, at_tail h r.0 homes r.1, r.2)

found_home : (homes : List Home) (x : Port) (h : Home) → find (is_home_of x.uid.0 x.channel) homes ≡ Some h
    → Contains homes h × (port h ≡ x)
found_home [] x h e = absurd (cc)
found_home (i ∷ homes) x h e = go (is_home_of x.uid.0 x.channel i) refl (found_home homes x h) e
  where
    go : (b : Bool) → is_home_of x.uid.0 x.channel i ≡ b → (find (is_home_of x.uid.0 x.channel) homes ≡ Some h → Contains homes h × (port h ≡ x))
        → cond b (Some i) (find (is_home_of x.uid.0 x.channel) homes) ≡ Some h → Contains (i ∷ homes) h × (port h ≡ x)
    go true t rest f =
        let same : i ≡ h = cc in
        let first : Contains (i ∷ homes) h = (0, omega arith, same) in
        let u : i.uid.0 ≡ x.uid.0 = eqb-true _ _ (first_so _ _ t) in
        let c : i.channel ≡ x.channel = eqb-true _ _ (second_so _ _ t) in
        let is : port i ≡ x = λ k. record { uid = record { 0 = u k }; channel = c k } in
        (first, ap port (sym same) ∙ is)
    go false t rest f = let r = rest f in (at_tail i h homes r.0, r.1)

-- the home that gives a channel its buffer
home_with : (o : Option Home) (b : ℕ) → buffer_at o ≡ Some b → (h : Home) × (o ≡ Some h) × (h.buffer ≡ b)
home_with None b e = absurd (cc)
home_with (Some h) b e = let same : h.buffer ≡ b = cc in (h, refl, same)

-- ---- each value has one
pub buffers_by : (g : Graph) (lives : List Life) (homes : List Home) (channels : ℕ) → AreValues g (ports_of homes) → IsAssignment lives homes channels
    → All (λ c. (b : ℕ) × (buffer_of homes c.src.0 c.src_channel ≡ Some b) × (b < channels)) (live_connections g)
buffers_by g lives homes channels values assigned k d l =
    let read : Connection = get_or (live_connections g) k d in
    let has : Contains (ports_of homes) (source read) = values.all k d l in
    let found = finds_home homes (source read) has in
    (found.0.buffer, ap buffer_at found.2, All-contains (λ h. h.buffer < channels) homes found.0 assigned.below found.1)

pub have_buffers : HaveBuffers
have_buffers g plan c = buffers_by g (lives_of g plan.waves (ports_of plan.homes)) plan.homes plan.channels (c Homes) (c Channels)

-- ---- and no two that interfere the same
lives_beside : (f : Port → Life) (homes : List Home) (h : Home) → Contains homes h
    → Contains (zip (map f (ports_of homes)) homes) (f (port h), h)
lives_beside f [] h has = let l = has.1 in absurd (omega arith)
lives_beside f (i ∷ homes) h has =
    elim (first_or_later i h homes has) [
      | inl same ↦ (0, omega arith, ap (λ (j : Home). (f (port j), j)) same)
      | inr there ↦ at_tail (f (port i), i) (f (port h), h) (zip (map f (ports_of homes)) homes) (lives_beside f homes h there)
    ]

-- whatever lives the values have
pub apart_by : (f : Port → Life) (homes : List Home) (channels : ℕ) → IsAssignment (map f (ports_of homes)) homes channels
    → (x y : Port) (b : ℕ)
    → buffer_of homes x.uid.0 x.channel ≡ Some b → buffer_of homes y.uid.0 y.channel ≡ Some b → (x ≡ y) ⊎ MayShare (f x) (f y)
apart_by f homes channels a x y b ex ey =
    let hx = home_with (find (is_home_of x.uid.0 x.channel) homes) b ex in
    let hy = home_with (find (is_home_of y.uid.0 y.channel) homes) b ey in
    let fx = found_home homes x hx.0 hx.1 in
    let fy = found_home homes y hy.0 hy.1 in
    elim (pair_of Apart turned (zip (map f (ports_of homes)) homes) a.apart (f (port hx.0), hx.0) (f (port hy.0), hy.0) (lives_beside f homes hx.0 fx.0) (lives_beside f homes hy.0 fy.0)) [
      | inl same ↦ inl (sym fx.1 ∙ ap (λ (p : Life × Home). port p.1) same ∙ fy.1)
      | inr apart ↦ inr (subst (λ z. MayShare (f z) (f y)) fx.1 (subst (λ z. MayShare (f (port hx.0)) (f z)) fy.1 (apart (hx.2 ∙ sym hy.2))))
    ]
  where
    Apart : Life × Home → Life × Home → Type 0
    Apart p q = p.1.buffer ≡ q.1.buffer → MayShare p.0 q.0

    turned : (p q : Life × Home) → Apart p q → Apart q p
    turned p q apart same = turn_share p.0 q.0 (apart (sym same))

pub buffers_are_apart : BuffersAreApart
buffers_are_apart g plan x y b c ex ey = apart_by (λ z. life_of g plan.waves z.uid z.channel) plan.homes plan.channels (c Channels) x y b ex ey
