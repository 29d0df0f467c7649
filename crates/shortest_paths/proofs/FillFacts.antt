-- A list that is written over with one item.
use Rattle.std.proofs.Common.{◌≡◌, ℕ, zero, suc, ◌<◌, List, [], ◌∷◌, ◌++◌, length, set, replicate, take, drop, Option, Some, None, false, refl, sym, ap, subst, arith, get_or}
use Rattle.std.specs.Option.{is_some}
use Rattle.std.proofs.Math.Seq.{take-append_seam}

pub fill_next : {X : Type 0} (i : ℕ) (old : List X) (x : X) → i < length old → set (replicate i x ++ drop i old) i x ≡ replicate (suc i) x ++ drop (suc i) old
fill_next zero [] x l = absurd (omega arith)
fill_next zero (y ∷ old) x l = refl
fill_next (suc i) [] x l = absurd (omega arith)
fill_next (suc i) (y ∷ old) x l = ap (λ ys. x ∷ ys) (fill_next i old x (omega arith))

pub fill_end : {X : Type 0} (n : ℕ) (old : List X) (x : X) → n ≡ length old → replicate n x ++ drop n old ≡ replicate n x
fill_end zero [] x e = refl
fill_end zero (y ∷ old) x e = absurd (omega arith)
fill_end (suc n) [] x e = absurd (omega arith)
fill_end (suc n) (y ∷ old) x e = ap (λ ys. x ∷ ys) (fill_end n old x (omega arith))

-- writing what stands there changes nothing
pub fill_same : {X : Type 0} (xs : List X) (i : ℕ) (x d : X) → i < length xs → get_or xs i d ≡ x → set xs i x ≡ xs
fill_same [] i x d l h = absurd (omega arith)
fill_same (y ∷ xs) zero x d l h = ap (λ z. z ∷ xs) (sym h)
fill_same (y ∷ xs) (suc i) x d l h = ap (λ ys. y ∷ ys) (fill_same xs i x d (omega arith) h)

pub none_there : {X : Type 0} (o : Option X) → is_some o ≡ false → o ≡ None
none_there None h = refl
none_there (Some x) h = absurd (cc)

-- a list that was lent and written over, of the length that it had
pub lent_back : {X : Type 0} (n : ℕ) (new old : List X) → length new ≡ n → take n (new ++ drop (length new) old) ≡ new
lent_back n new old e = subst (λ k. take k (new ++ drop (length new) old) ≡ new) e (take-append_seam new (drop (length new) old))
