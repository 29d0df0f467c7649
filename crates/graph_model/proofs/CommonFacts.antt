-- Small facts that many proofs use.
use Rattle.std.proofs.Common.{◌≡◌, ℕ, ◌<◌, ◌≤◌, Bool, true, false, ◌==◌, Some, None, refl, ⊎_elim}
use Rattle.std.proofs.lemmas.Bool.{cases_lt, eqb-true}

-- of two numbers the one is less, or it is not
pub by_lt : {P : Type 0} (a b : ℕ) → (a < b → P) → (b ≤ a → P) → P
by_lt a b f g = ⊎_elim f g (cases_lt a b)

-- numbers that differ are told apart by the test
pub not_same : (a b : ℕ) → (a ≡ b → ⊥) → (a == b) ≡ false
not_same a b ne = go (a == b) refl
  where
    go : (t : Bool) → (a == b) ≡ t → t ≡ false
    go true e = absurd (ne (eqb-true a b e))
    go false e = refl

pub none_is_some : {X : Type 0} {x : X} → None ≡ Some x → ⊥
none_is_some e = cc

pub some_same : {X : Type 0} {x y : X} → Some x ≡ Some y → x ≡ y
some_same e = cc
