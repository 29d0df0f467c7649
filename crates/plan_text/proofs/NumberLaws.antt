-- The numbers of a line.
use Rattle.std.proofs.Common.{◌≡◌, ◌<◌, ◌^◌, ◌∙◌, ℕ, List, [], ◌∷◌, ◌++◌, length, refl, sym, ap, ap₂, append_assoc, append-nil, arith}
use Rattle.std.specs.List.{All}
use Rattle.std.specs.Fmt.{decimal}
use Rattle.std.proofs.lemmas.List.Elements.{All-append, All-cons, All-head, All-nil, All-tail}
use Rattle.plan_text.specs.Lines.{spaced}
use Rattle.plan_text.specs.Numbers.{BeginsWithNumber, NoDigitFirst, NoNumber, NoNumbers}
use Rattle.plan_text.proofs.DigitLaws.{number_unique}

pub spaced_stops : (ns rest : List ℕ) → NoDigitFirst (spaced ns ++ 10 ∷ rest)
spaced_stops [] rest = refl
spaced_stops (n ∷ ns) rest = refl

-- what has been read of a line, and what is left
abbrev pub StopsAfter : List ℕ → List ℕ → Type 0
StopsAfter [] rest = Unit {0}
StopsAfter (n ∷ ns) rest = NoDigitFirst rest

pub record IsReadTo (text found rest : List ℕ) : Type 0 where
  pub joined : text ≡ spaced found ++ rest
  pub below : All (λ n. n < 2 ^ 64) found
  pub stops : StopsAfter found rest

stop_inside : (found rest : List ℕ) → NoDigitFirst rest → NoDigitFirst (spaced found ++ rest)
stop_inside [] rest stops = stops
stop_inside (n ∷ ns) rest stops = refl

stops_after : (found rest : List ℕ) → NoDigitFirst rest → StopsAfter found rest
stops_after [] rest stops = tt
stops_after (n ∷ ns) rest stops = stops

abbrev Low : ℕ → Type 0
Low n = n < 2 ^ 64

-- the numbers read so far are the first of the line's
prefix_of : (found rest ns more : List ℕ) → All (λ n. n < 2 ^ 64) found → StopsAfter found rest → All (λ n. n < 2 ^ 64) ns → spaced found ++ rest ≡ spaced ns ++ 10 ∷ more
    → (later : List ℕ) × (All (λ n. n < 2 ^ 64) later × (rest ≡ spaced later ++ 10 ∷ more))
prefix_of [] rest ns more low stops low_ns same = (ns, (low_ns, same))
prefix_of (m ∷ found) rest [] more low stops low_ns same = let bad : ⊥ = cc in absurd bad
prefix_of (m ∷ found) rest (n ∷ ns) more low stops low_ns same =
    let after : (decimal m ++ spaced found) ++ rest ≡ (decimal n ++ spaced ns) ++ 10 ∷ more = cc in
    let u = number_unique m n (spaced found ++ rest) (spaced ns ++ 10 ∷ more) (All-head Low m found low) (All-head Low n ns low_ns) (stop_inside found rest stops) (spaced_stops ns more)
    (sym (append_assoc (decimal m) (spaced found) rest) ∙ after ∙ append_assoc (decimal n) (spaced ns) (10 ∷ more)) in
    prefix_of found rest ns more (All-tail Low m found low) (stops_after found rest stops) (All-tail Low n ns low_ns) u.1

pub none_after : (text found rest : List ℕ) → IsReadTo text found rest → NoNumbers rest → NoNumbers text
none_after text found rest h never ns more begins =
    let p = prefix_of found rest ns more h.below h.stops begins.below (sym h.joined ∙ begins.joined) in
    never p.0 more (record { joined = p.1.1; below = p.1.0 })

pub none_nil : NoNumbers []
none_nil [] more h = let e = h.joined in let bad : ⊥ = cc in absurd bad
none_nil (n ∷ ns) more h = let e = h.joined in let bad : ⊥ = cc in absurd bad

pub none_other : (x : ℕ) (after : List ℕ) → (x ≡ 10 → ⊥) → (x ≡ 32 → ⊥) → NoNumbers (x ∷ after)
none_other x after a b [] more h = let e = h.joined in let hit : x ≡ 10 = cc in a hit
none_other x after a b (n ∷ ns) more h = let e = h.joined in let hit : x ≡ 32 = cc in b hit

pub none_bad : (after : List ℕ) → NoNumber after → NoNumbers (32 ∷ after)
none_bad after never [] more h = let e = h.joined in let bad : ⊥ = cc in absurd bad
none_bad after never (n ∷ ns) more h =
    let e = h.joined in
    let same : after ≡ (decimal n ++ spaced ns) ++ 10 ∷ more = cc in
    never n (spaced ns ++ 10 ∷ more) (record { joined = same ∙ append_assoc (decimal n) (spaced ns) (10 ∷ more); below = All-head Low n ns h.below; stops = spaced_stops ns more })

spaced-push : (found : List ℕ) (n : ℕ) → spaced (found ++ n ∷ []) ≡ spaced found ++ 32 ∷ decimal n
spaced-push [] n = ap (λ t. 32 ∷ t) (append-nil (decimal n))
spaced-push (m ∷ found) n = ap (λ t. 32 ∷ (decimal m ++ t)) (spaced-push found n) ∙ ap (λ t. 32 ∷ t) (sym (append_assoc (decimal m) (spaced found) (32 ∷ decimal n)))

pub read_one : (text found after rest : List ℕ) (n : ℕ) → IsReadTo text found (32 ∷ after) → BeginsWithNumber after n rest → IsReadTo text (found ++ n ∷ []) rest
read_one text found after rest n h begins = record {
  joined = h.joined ∙ ap (λ t. spaced found ++ 32 ∷ t) begins.joined ∙ sym (ap (λ t. t ++ rest) (spaced-push found n) ∙ append_assoc (spaced found) (32 ∷ decimal n) rest);
  below = All-append Low found (n ∷ []) h.below (All-cons Low n [] begins.below (All-nil Low));
  stops = stops_after (found ++ n ∷ []) rest begins.stops;
}

pub nil_of : (xs : List ℕ) → length xs ≡ 0 → xs ≡ []
nil_of [] e = refl
nil_of (x ∷ xs) e = absurd (omega arith)

-- the numbers of a line and what follows are fixed by the text
pub spaced_unique : (ms ns a b : List ℕ) → All Low ms → All Low ns → spaced ms ++ 10 ∷ a ≡ spaced ns ++ 10 ∷ b → (ms ≡ ns) × (a ≡ b)
spaced_unique [] [] a b low_m low_n same = (refl, cc)
spaced_unique [] (n ∷ ns) a b low_m low_n same = let bad : ⊥ = cc in absurd bad
spaced_unique (m ∷ ms) [] a b low_m low_n same = let bad : ⊥ = cc in absurd bad
spaced_unique (m ∷ ms) (n ∷ ns) a b low_m low_n same =
    let after : (decimal m ++ spaced ms) ++ 10 ∷ a ≡ (decimal n ++ spaced ns) ++ 10 ∷ b = cc in
    let u = number_unique m n (spaced ms ++ 10 ∷ a) (spaced ns ++ 10 ∷ b) (All-head Low m ms low_m) (All-head Low n ns low_n) (spaced_stops ms a) (spaced_stops ns b)
    (sym (append_assoc (decimal m) (spaced ms) (10 ∷ a)) ∙ after ∙ append_assoc (decimal n) (spaced ns) (10 ∷ b)) in
    let more = spaced_unique ms ns a b (All-tail Low m ms low_m) (All-tail Low n ns low_n) u.1 in
    (ap₂ (λ x xs. x ∷ xs) u.0 more.0, more.1)
