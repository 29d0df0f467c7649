-- What each kind that is drawn keeps to.
use Rattle.std.proofs.Common.{◌≡◌, ℕ, ◌+◌, ◌*◌, ◌^◌, ◌-◌, ◌<◌, ◌≤◌, List, [], ◌∷◌, map, pos, false, refl, arith}
use Rattle.std.specs.Prelude.{unsigned_abs, min}
use Rattle.std.specs.List.{All, AllByRecursion}
use Rattle.std.proofs.Math.Nat.{mul-le-mul}
use Rattle.std.proofs.lemmas.List.Elements.{All-from_recursion, All-get_or, All-map, All-weaker}
use Rattle.graph_model.specs.Kinds.{ins_of, outs_of, latency_of, cells_of}
use Rattle.graph_model.specs.Ranges.{HasRange}
use Rattle.graph_model.specs.Graphs.{is_input, is_output}
use Rattle.graph_model.specs.Rounding.{rounded_nat}
use Rattle.graph_model.specs.Bounds.{out_bounds}
use Rattle.graph_model.specs.declared.kind.Kind.{Kind}
use Rattle.graph_model.specs.declared.kind.Kind.TheVariants.{Gain, Fir, Biquad, Limiter, Delay, Insert}
use Rattle.graph_model.proofs.RoundingLaws.{rounded_nat-le}
use Rattle.graph_gen.specs.Draws.{next, drawn}
use Rattle.graph_gen.specs.Generated.{kind_drawn, kinds_drawn, sources}

-- with so many sources of at most 2 ^ 32 nothing larger goes out
abbrev pub IsGentle : Kind → ℕ → Type 0
IsGentle kind fan = (bs : List ℕ) → All (λ b. b ≤ fan * 2 ^ 32) bs → All (λ b. b ≤ 2 ^ 32) (out_bounds kind bs)

pub record IsTame (kind : Kind) : Type 0 where
  pub no_input : is_input kind ≡ false
  pub no_output : is_output kind ≡ false
  pub one_in : ins_of kind ≡ 1
  pub one_out : outs_of kind ≡ 1
  pub range : HasRange kind
  pub soon : latency_of kind ≤ 63
  pub small : cells_of kind ≤ 100
  pub fan : sources kind ≤ 2
  pub gentle : IsGentle kind (sources kind)

mapped : (f : ℕ → ℕ) (fan : ℕ) (bs : List ℕ) → ((b : ℕ) → b ≤ fan * 2 ^ 32 → f b ≤ 2 ^ 32) → All (λ b. b ≤ fan * 2 ^ 32) bs → All (λ b. b ≤ 2 ^ 32) (map f bs)
mapped f fan bs small h = All-map (λ b. b ≤ 2 ^ 32) f bs (All-weaker (λ b. b ≤ fan * 2 ^ 32) (λ b. f b ≤ 2 ^ 32) small bs h)

gain_tame : (g : ℕ) → g ≤ 32768 → IsTame (Gain 1 (pos g))
gain_tame g small = record {
  no_input = refl;
  no_output = refl;
  one_in = refl;
  one_out = refl;
  range = ((omega arith, omega arith), omega arith);
  soon = omega arith;
  small = omega arith;
  fan = omega arith;
  gentle = λ bs. mapped (λ b. rounded_nat (g * b) 16) 2 bs
      (λ b l. let high : b ≤ 2 ^ 33 = omega arith in let most : g * b ≤ 32768 * 2 ^ 33 = mul-le-mul small high in rounded_nat-le (g * b) (32768 * 2 ^ 33) 16 most);
}

insert_tame : (n : ℕ) → n ≤ 63 → IsTame (Insert 1 n)
insert_tame n few = record {
  no_input = refl;
  no_output = refl;
  one_in = refl;
  one_out = refl;
  range = ((omega arith, omega arith), omega arith);
  soon = few;
  small = omega arith;
  fan = omega arith;
  gentle = λ bs h. h;
}

fir_tame : IsTame (Fir 1 (pos 1 ∷ pos 2 ∷ pos 1 ∷ []) 2 1)
fir_tame = record {
  no_input = refl;
  no_output = refl;
  one_in = refl;
  one_out = refl;
  range = (
    (omega arith, omega arith),
    (omega arith, omega arith),
    All-from_recursion (λ h. unsigned_abs h < 2 ^ 24) (pos 1 ∷ pos 2 ∷ pos 1 ∷ []) (omega arith, (omega arith, (omega arith, tt))),
    omega arith,
    omega arith,
  );
  soon = omega arith;
  small = omega arith;
  fan = omega arith;
  gentle = λ bs. mapped (λ b. rounded_nat (4 * b) 2) 1 bs (λ b l. rounded_nat-le (4 * b) (4 * 2 ^ 32) 2 (omega arith));
}

limiter_tame : (t l : ℕ) → 1 ≤ t → t ≤ 17825791 → 1 ≤ l → l ≤ 8 → IsTame (Limiter 1 t l)
limiter_tame t l some most ahead few = record {
  no_input = refl;
  no_output = refl;
  one_in = refl;
  one_out = refl;
  range = ((omega arith, omega arith), (some, omega arith), (ahead, omega arith));
  soon = omega arith;
  small = omega arith;
  fan = omega arith;
  gentle = λ bs. mapped (λ b. min b t) 1 bs (λ b k. omega arith);
}

biquad_tame : IsTame (Biquad 1 (pos 4096) (pos 8192) (pos 4096) (pos 0) (pos 2048) 14 32)
biquad_tame = record {
  no_input = refl;
  no_output = refl;
  one_in = refl;
  one_out = refl;
  range = (
    (omega arith, omega arith),
    omega arith,
    omega arith,
    omega arith,
    omega arith,
    omega arith,
    (omega arith, omega arith),
    (omega arith, omega arith),
  );
  soon = omega arith;
  small = omega arith;
  fan = omega arith;
  gentle = λ bs. mapped (λ b. 2 ^ 32 - 1) 1 bs (λ b k. omega arith);
}

delay_tame : (n : ℕ) → 1 ≤ n → n ≤ 100 → IsTame (Delay 1 n)
delay_tame n some few = record {
  no_input = refl;
  no_output = refl;
  one_in = refl;
  one_out = refl;
  range = ((omega arith, omega arith), (some, omega arith));
  soon = omega arith;
  small = omega arith;
  fan = omega arith;
  gentle = λ bs h. h;
}

all_tame : (s : ℕ) → AllByRecursion IsTame (kinds_drawn s)
all_tame s = (
  gain_tame (drawn s 32769) (omega arith),
  (
    insert_tame (drawn s 64) (omega arith),
    (
      fir_tame,
      (
        limiter_tame (1048576 + drawn s 16777216) (1 + drawn (next s) 8) (omega arith) (omega arith) (omega arith) (omega arith),
        (biquad_tame, (delay_tame (1 + drawn s 100) (omega arith) (omega arith), tt)),
      ),
    ),
  ),
)

pub drawn_tame : (s : ℕ) → IsTame (kind_drawn s)
drawn_tame s =
    All-get_or IsTame (kinds_drawn (next s)) (drawn s 6) (Delay 1 1) (omega arith) (All-from_recursion IsTame (kinds_drawn (next s)) (all_tame (next s)))
