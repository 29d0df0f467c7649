-- Answers that a call may refuse, step by step: the first fault decides.
use Rattle.std.specs.Prelude.{◌≡◌, List, ◌∷◌, Result, Ok, Err, ⊤}
use Rattle.graph_model.specs.declared.refused.Refused.{Refused}
use Rattle.graph_model.specs.declared.refused.Refused.TheVariants.{Fault, Memory}

-- the call answers this, or memory ran out
abbrev pub Gives : {A E : Type 0} → Result A E → Result A (Refused E) → Type 0
Gives want (Ok x) = want ≡ Ok x
Gives want (Err (Fault e)) = want ≡ Err e
Gives want (Err Memory) = ⊤

-- the next step, where there was no fault
abbrev pub and_then : {A B E : Type 0} → (A → Result B E) → Result A E → Result B E
and_then f (Ok x) = f x
and_then f (Err e) = Err e

-- what f makes of the answer
abbrev pub mapped : {A B E : Type 0} → (A → B) → Result A E → Result B E
mapped f (Ok x) = Ok (f x)
mapped f (Err e) = Err e

-- the answer put before a list of answers
abbrev pub onto : {A E : Type 0} → A → Result (List A) E → Result (List A) E
onto x (Ok xs) = Ok (x ∷ xs)
onto x (Err e) = Err e
