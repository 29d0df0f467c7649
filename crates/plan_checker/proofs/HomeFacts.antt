-- Homes, lives and values side by side.
use Rattle.std.proofs.Common.{◌≡◌, ℕ, ◌+◌, ◌==◌, ◌&&◌, List, [], ◌∷◌, map, refl, sym, ap, ◌∙◌, subst, cond, true, Bool, arith}
use Rattle.std.specs.List.{common_prefix_len, AllZip}
use Rattle.std.proofs.lemmas.Bool.Decides.{nat_tests}
use Rattle.graph_model.specs.declared.graph.Graph.{Graph}
use Rattle.graph_model.proofs.PathLaws.{and_both, same_name}
use Rattle.plan_model.specs.Lives.{Port, lives_of, ports_of, values}
use Rattle.plan_model.specs.Places.{same_port}
use Rattle.plan_model.specs.declared.buffers.Home.{Home}
use Rattle.plan_model.specs.declared.buffers.Life.{Life}
use Rattle.plan_model.specs.declared.schedule.Wave.{Wave}
use Rattle.plan_checker.specs.Homes.{is_for, port_of}

-- how far mapped lists agree
pub agree_mapped : {X Y U V : Type 0} (e : U → V → Bool) (f : X → U) (h : Y → V) (xs : List X) (ys : List Y)
    → common_prefix_len (λ x y. e (f x) (h y)) xs ys ≡ common_prefix_len e (map f xs) (map h ys)
agree_mapped e f h [] ys = refl
agree_mapped e f h (x ∷ xs) [] = refl
agree_mapped e f h (x ∷ xs) (y ∷ ys) = ap (λ n. cond (e (f x) (h y)) (1 + n) 0) (agree_mapped e f h xs ys)

-- the values of lives
pub ports_back : (g : Graph) (waves : List Wave) (ports : List Port) → map port_of (lives_of g waves ports) ≡ ports
ports_back g waves [] = refl
ports_back g waves (x ∷ xs) = ap (λ ys. x ∷ ys) (ports_back g waves xs)

pub port_is : (x y : Port) → same_port x y ≡ true → x ≡ y
port_is x y t = let e = both x.uid.0 y.uid.0 x.channel y.channel t in λ i. record { uid = record { 0 = e.0 i }; channel = e.1 i }
  where
    both : (a b m n : ℕ) → ((a == b) && (m == n)) ≡ true → (a ≡ b) × (m ≡ n)
    both a b m n t = grind (arith, nat_tests)

pub port_itself : (x : Port) → same_port x x ≡ true
port_itself x = and_both _ _ (same_name x.uid.0) (same_name x.channel)

module _ (g : Graph) (waves : List Wave) (lives : List Life) (homes : List Home) (are : lives ≡ lives_of g waves (values g)) where
  -- the values are those of the lives
  pub values_are : map port_of lives ≡ values g
  values_are = ap (map port_of) are ∙ ports_back g waves (values g)

  pub place_is : common_prefix_len is_for homes lives ≡ common_prefix_len same_port (ports_of homes) (values g)
  place_is =
      agree_mapped same_port (λ (h : Home). record { uid = h.uid; channel = h.channel }) port_of homes lives
      ∙ ap (common_prefix_len same_port (ports_of homes)) values_are

  -- where the homes are for the values, the lives are theirs
  module _ (for : ports_of homes ≡ values g) where
    pub lives_are : lives ≡ lives_of g waves (ports_of homes)
    lives_are = are ∙ ap (lives_of g waves) (sym for)

    pub beside : AllZip (λ x h. (h.uid ≡ x.uid) × (h.channel ≡ x.channel)) lives homes
    beside = subst (λ xs. AllZip (λ x h. (h.uid ≡ x.uid) × (h.channel ≡ x.channel)) xs homes) (sym lives_are) (each homes)
      where
        each : (hs : List Home) → AllZip (λ x h. (h.uid ≡ x.uid) × (h.channel ≡ x.channel)) (lives_of g waves (ports_of hs)) hs
        each [] = tt
        each (h ∷ hs) = ((refl, refl), each hs)
