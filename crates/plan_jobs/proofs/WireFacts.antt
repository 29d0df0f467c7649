-- Whether a wire feeds a channel.
use Rattle.std.proofs.Common.{◌≡◌, ℕ, ◌+◌, ◌<◌, Bool, true, false, List, [], ◌∷◌, ◌++◌, refl, ap, subst, arith, ◌==◌, ◌||◌}
use Rattle.std.specs.List.{All, Contains, list_any}
use Rattle.std.proofs.lemmas.List.Elements.{All-push, Contains-append_left, Contains-append_right}
use Rattle.graph_model.proofs.CommonFacts.{by_lt}
use Rattle.players.specs.declared.gathering.Wire.{Wire}
use Rattle.players.specs.Reads.{channels_of, is_fed}

pub fed_any : (d : ℕ) (ws : List Wire) → is_fed (channels_of ws) d ≡ list_any (λ w. w.channel == d) ws
fed_any d [] = refl
fed_any d (w ∷ ws) = ap (λ b. (w.channel == d) || b) (fed_any d ws)

-- ---- the channels that no wire feeds, one after another
pub within_more : (n : ℕ) (xs : List ℕ) → All (λ d. d < n) xs → All (λ d. d < n + 1) xs
within_more n xs all i d lt = let l = all i d lt in omega arith

pub within_one : (n : ℕ) (xs : List ℕ) → All (λ d. d < n) xs → All (λ d. d < n + 1) (xs ++ n ∷ [])
within_one n xs all = All-push (λ d. d < n + 1) xs n (within_more n xs all) (omega arith)

-- where the next one is among them
pub all_one : (n : ℕ) (f : ℕ → Bool) (xs : List ℕ) → ((d : ℕ) → d < n → f d ≡ false → Contains xs d)
    → (d : ℕ) → d < n + 1 → f d ≡ false → Contains (xs ++ n ∷ []) d
all_one n f xs all d lt is =
    by_lt d n
    (λ less. Contains-append_left xs (n ∷ []) d (all d less is))
    (λ last. let e : n ≡ d = omega arith in subst (Contains (xs ++ n ∷ [])) e (Contains-append_right xs (n ∷ []) n (0, omega arith, refl)))

-- and where it is fed
pub all_more : (n : ℕ) (f : ℕ → Bool) (xs : List ℕ) → ((d : ℕ) → d < n → f d ≡ false → Contains xs d) → f n ≡ true
    → (d : ℕ) → d < n + 1 → f d ≡ false → Contains xs d
all_more n f xs all fed d lt is =
    by_lt d n
    (λ less. all d less is)
    (λ last. let e : n ≡ d = omega arith in let t = ap f e in absurd (cc))
