-- Tests of facts.
use Rattle.std.proofs.Common.{Bool, true, false, MatchBool}

-- a test of one fact is a test of another that holds just where it does
pub same_test : {P Q : Type 0} (b : Bool) → MatchBool b P (P → ⊥) → (P → Q) → (Q → P) → MatchBool b Q (Q → ⊥)
same_test true p there back = there p
same_test false fails there back = λ q. fails (back q)
