-- A file that is begun holds a first part of what it is to hold.
use Rattle.std.proofs.Common.{◌≡◌, ℕ, ◌+◌, ◌≤◌, min, List, [], ◌++◌, length, take, Option, Some, None, sym, ◌∙◌, ap, arith, inr}
use Rattle.std.proofs.lemmas.List.{append-nil, take-append-le, take_min}
use Rattle.std.proofs.Math.Seq.{take-append-add, take-length}
use Rattle.std.specs.Prelude.{Result, Ok, Err, OnOk, OnErr}
use Rattle.gh_outside.specs.Causes.{Rose}
use Rattle.gh_outside.specs.Holdings.{Holding, Holds, IsMissing, KeepsOthers, HasGained, HasGainedPrefix}
use Rattle.streaming.specs.Appends.{IsAppended, IsPart, IsPartAppended}

-- all of one list and then some of the first of two
take-some : (n : ℕ) (xs ys zs : List ℕ) → take (length xs + min n (length ys)) (xs ++ (ys ++ zs)) ≡ xs ++ take n ys
take-some n xs ys zs =
    take-append-add xs (ys ++ zs) (min n (length ys))
    ∙ ap (λ l. xs ++ l) (take-append-le (min n (length ys)) ys zs (omega arith) ∙ take_min n ys)

some_same : {x y : List ℕ} → Some x ≡ Some y → x ≡ y
some_same e = cc

pub keeps : (name : List ℕ) (a b c : Option Holding) → KeepsOthers name a b → KeepsOthers name b c → KeepsOthers name a c
keeps name None None c k l = l
keeps name None (Some b) c k l = absurd k
keeps name (Some a) None c k l = absurd k
keeps name (Some a) (Some b) None k l = absurd l
keeps name (Some a) (Some b) (Some c) k l = λ other differs. l other differs ∙ k other differs

some_appended : (start piece : List ℕ) (o p : Option (List ℕ)) → o ≡ Some start → ((bytes : List ℕ) × (o ≡ Some bytes) × (p ≡ Some (bytes ++ piece))) → p ≡ Some (start ++ piece)
some_appended start piece o p h g = g.2 ∙ ap (λ x. Some (x ++ piece)) (some_same (sym g.1 ∙ h))

-- what a call of the folder appends
pub appended : (name piece : List ℕ) (b c : Option Holding) → KeepsOthers name b c → HasGained name piece b c → IsAppended name piece b c
appended name piece b None k g start h = tt
appended name piece None (Some c) k g start h = absurd k
appended name piece (Some b) (Some c) k g start h = some_appended start piece (b name) (c name) h g

pub part-appended : (name piece : List ℕ) (b c : Option Holding) → KeepsOthers name b c → HasGainedPrefix name piece b c → IsPartAppended name piece b c
part-appended name piece b None k p = tt
part-appended name piece None (Some c) k p = absurd k
part-appended name piece (Some b) (Some c) k p = λ start h. p start h

-- nothing is appended
pub none-appended : (name : List ℕ) (b : Option Holding) → IsAppended name [] b b
none-appended name None start h = tt
none-appended name (Some b) start h = h ∙ ap Some (sym (append-nil start))

-- after an append that failed
pub part-of : (name start piece rest : List ℕ) (a b c : Option Holding) → KeepsOthers name a b → KeepsOthers name b c → Holds name start b
    → IsPartAppended name piece b c → IsPart name (start ++ (piece ++ rest)) a c
part-of name start piece rest None b c k l h p = tt
part-of name start piece rest (Some a) b None k l h p = tt
part-of name start piece rest (Some a) b (Some c) k l h p =
    let w = p start h in
    inr (length start + min w.0 (length piece), w.1 ∙ ap Some (sym (take-some w.0 start piece rest)))

-- where all is there
pub whole : (name bytes : List ℕ) (a c : Option Holding) → KeepsOthers name a c → Holds name bytes c → IsPart name bytes a c
whole name bytes None c k h = tt
whole name bytes (Some a) None k h = tt
whole name bytes (Some a) (Some c) k h = inr (length bytes, h ∙ ap Some (sym (take-length bytes)))

-- a name that holds something is not missing
pub not_missing : (name start : List ℕ) (b : Option Holding) → Holds name start b → IsMissing name b → ⊥
not_missing name start None h m = m
not_missing name start (Some b) h m = some_none (sym m ∙ h)
  where
    some_none : {x : List ℕ} → None ≡ Some x → ⊥
    some_none e = cc

-- a count that rose later has risen
pub rose_since : (a b c : ℕ) → a ≤ b → Rose b c → Rose a c
rose_since a b c l r = omega arith

pub on_err : {T E A B : Type 0} (r : Result T E) → (A → B) → OnErr r A → OnErr r B
on_err (Ok x) f h = tt
on_err (Err e) f h = f h

pub on_ok : {T E A B : Type 0} (r : Result T E) → (A → B) → OnOk r A → OnOk r B
on_ok (Ok x) f h = f h
on_ok (Err e) f h = tt

-- of a part on failure, and all on success, at least a part
pub either_part : {T E A B P : Type 0} (r : Result T E) → (A → P) → (B → P) → OnOk r A → OnErr r B → P
either_part (Ok x) f g a b = f a
either_part (Err e) f g a b = g b
