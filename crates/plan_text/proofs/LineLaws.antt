-- One line at the front of a text, and lines one after another.
use Rattle.std.proofs.Common.{◌≡◌, ◌≤◌, ◌+◌, ◌∙◌, ◌++◌, lit≤, ℕ, suc, eqb, add-one, Bool, true, false, List, [], ◌∷◌, length, take, drop, Option, Some, None, if◌then◌else◌, codes, refl, sym, ap, ap₂, append_assoc, append-nil, arith}
use Rattle.std.specs.Prelude.{nat_le}
use Rattle.std.specs.Cmp.Lexicographic.{pointwise}
use Rattle.std.specs.List.{All, list_all}
use Rattle.std.specs.Str.{bytes_eq}
use Rattle.std.proofs.Math.Seq.{drop-append_seam}
use Rattle.std.proofs.lemmas.Bool.{false≢true}
use Rattle.std.proofs.lemmas.List.{take-append-drop, length-append}
use Rattle.std.proofs.lemmas.List.Concat.{flat_map-append}
use Rattle.std.proofs.lemmas.List.Elements.{All-append, All-cons, All-head, All-nil, All-tail}
use Rattle.std.proofs.lemmas.Slice.Eq.{bytes_eq-Decides}
use Rattle.plan_text.specs.declared.word.Word.{Word}
use Rattle.plan_text.specs.declared.word.Word.TheVariants as word
use Rattle.plan_text.specs.Lines.{fits, line, line_text, lines_text, spaced, word_text, IsLine, Line}
use Rattle.plan_text.specs.Numbers.{BeginsWithNumbers, NoNumbers}
use Rattle.plan_text.specs.Order.{BeginsWithLine, NoLine}
use Rattle.plan_text.specs.Reading.{HasRead, HasReadLines}
use Rattle.plan_text.proofs.DigitLaws.{both}
use Rattle.plan_text.proofs.NumberLaws.{spaced_unique}

pub lines_text-append : (xs ys : List Line) → lines_text (xs ++ ys) ≡ lines_text xs ++ lines_text ys
lines_text-append = flat_map-append line_text

-- a line and what stands after it, by the parts of the line
pub parts : (l : Line) (rest : List ℕ) → line_text l ++ rest ≡ word_text l.word ++ (spaced l.numbers ++ 10 ∷ rest)
parts l rest = append_assoc (word_text l.word) (spaced l.numbers ++ 10 ∷ []) rest ∙ ap (λ t. word_text l.word ++ t) (append_assoc (spaced l.numbers) (10 ∷ []) rest)

pub one_line : (l : Line) → lines_text (l ∷ []) ≡ line_text l
one_line l = append-nil (line_text l)

-- ---- what is read of a line

stripped : (w t text : List ℕ) → pointwise eqb (take (length w) t) w ≡ true → text ≡ drop (length w) t → t ≡ w ++ text
stripped w t text hit is = sym (take-append-drop (length w) t) ∙ ap₂ (λ x y. x ++ y) ((bytes_eq-Decides (take (length w) t) w).0 hit) (sym is)

behind : (w t text rest : List ℕ) → text ≡ drop (length w) t → t ≡ w ++ rest → text ≡ rest
behind w t text rest is same = is ∙ ap (drop (length w)) same ∙ drop-append_seam w rest

pub no_line_numbers : (w : Word) (t text : List ℕ) → text ≡ drop (length (word_text w)) t → NoNumbers text → NoLine w t
no_line_numbers w t text is never ns rest h =
    never ns rest (record {
      joined = behind (word_text w) t text (spaced ns ++ 10 ∷ rest) is (h.joined ∙ parts (line w ns) rest);
      below = h.is_line.below;
    })

pub no_line_fit : (w : Word) (t text ns rest : List ℕ) → text ≡ drop (length (word_text w)) t → BeginsWithNumbers text ns rest → fits w ns ≡ false → NoLine w t
no_line_fit w t text ns rest is begins unfit ms more h =
    let there : text ≡ spaced ms ++ 10 ∷ more = behind (word_text w) t text (spaced ms ++ 10 ∷ more) is (h.joined ∙ parts (line w ms) more) in
    let same : ns ≡ ms = (spaced_unique ns ms rest more begins.below h.is_line.below (sym begins.joined ∙ there)).0 in
    false≢true (sym unfit ∙ ap (fits w) same ∙ h.is_line.fit)

line_found : (w : Word) (t text ns rest : List ℕ) → pointwise eqb (take (length (word_text w)) t) (word_text w) ≡ true → text ≡ drop (length (word_text w)) t
    → BeginsWithNumbers text ns rest → fits w ns ≡ true → BeginsWithLine t w ns rest
line_found w t text ns rest hit is begins fit = record {
  joined = stripped (word_text w) t text hit is ∙ ap (λ x. word_text w ++ x) begins.joined ∙ sym (parts (line w ns) rest);
  is_line = record { fit = fit; below = begins.below };
}

word_length : (w : Word) → 2 ≤ length (word_text w)
word_length word.Plan = lit≤ tt
word_length word.Latency = lit≤ tt
word_length word.Path = lit≤ tt
word_length word.At = lit≤ tt
word_length word.Line = lit≤ tt
word_length word.Total = lit≤ tt
word_length word.Arc = lit≤ tt
word_length word.Bound = lit≤ tt
word_length word.Wave = lit≤ tt
word_length word.Home = lit≤ tt
word_length word.Channels = lit≤ tt
word_length word.Peak = lit≤ tt
word_length word.End = lit≤ tt

line_shorter : (w : Word) (t ns rest : List ℕ) → BeginsWithLine t w ns rest → length rest + 3 ≤ length t
line_shorter w t ns rest h =
    let e : length t ≡ length (word_text w) + (length (spaced ns) + (length rest + 1)) = ap length (h.joined ∙ parts (line w ns) rest) ∙ simp (length-append, add-one) in
    let two : 2 ≤ length (word_text w) = word_length w in
    omega arith

pub has_read : (w : Word) (t text ns rest : List ℕ) (count after : ℕ) → pointwise eqb (take (length (word_text w)) t) (word_text w) ≡ true → text ≡ drop (length (word_text w)) t
    → BeginsWithNumbers text ns rest → fits w ns ≡ true → after ≡ count + 1 → HasRead w t count rest after ns
has_read w t text ns rest count after hit is begins fit next =
    let found : BeginsWithLine t w ns rest = line_found w t text ns rest hit is begins fit in
    record { begins = found; counted = next; room = line_shorter w t ns rest found }

-- ---- lines of one word, one after another

pub no_lines_read : (w : Word) (text : List ℕ) (count : ℕ) → HasReadLines w text count text count []
no_lines_read w text count = record {
  joined = refl;
  words = All-nil (λ l. l.word ≡ w);
  are_lines = All-nil IsLine;
  counted = omega arith;
  room = omega arith;
}

pub one_more_read : (w : Word) (text : List ℕ) (count : ℕ) (mid : List ℕ) (so_far : ℕ) (ls : List Line) (l : Line) (ns rest : List ℕ) (after : ℕ)
    → HasReadLines w text count mid so_far ls → HasRead w mid so_far rest after ns → l ≡ line w ns → HasReadLines w text count rest after (ls ++ l ∷ [])
one_more_read w text count mid so_far ls l ns rest after h read is =
    let IsWord : Line → Type 0 = λ k. k.word ≡ w in
    record {
      joined = h.joined ∙ ap (λ t. lines_text ls ++ t) (read.begins.joined ∙ ap (λ k. line_text k ++ rest) (sym is) ∙ ap (λ t. t ++ rest) (sym (one_line l)))
          ∙ sym (append_assoc (lines_text ls) (lines_text (l ∷ [])) rest) ∙ ap (λ t. t ++ rest) (sym (lines_text-append ls (l ∷ [])));
      words = All-append IsWord ls (l ∷ []) h.words (All-cons IsWord l [] (ap (λ (k : Line). k.word) is) (All-nil IsWord));
      are_lines = All-append IsLine ls (l ∷ []) h.are_lines (All-cons IsLine l [] (rw is read.begins.is_line) (All-nil IsLine));
      counted = let c = h.counted in let d = read.counted in let e : length (ls ++ l ∷ []) ≡ length ls + 1 = length-append ls (l ∷ []) in omega arith;
      room = let r = h.room in let d = read.counted in let s = read.room in omega arith;
    }

-- ---- a line and what follows it are fixed by the text

abbrev is_letter : ℕ → Bool
is_letter b = nat_le 97 b

-- letters and what follows them are fixed by the text
cut : (xs ys : List ℕ) (s t : ℕ) (a b : List ℕ) → list_all is_letter xs ≡ true → list_all is_letter ys ≡ true → is_letter s ≡ false → is_letter t ≡ false
    → xs ++ s ∷ a ≡ ys ++ t ∷ b → (xs ≡ ys) × (s ∷ a ≡ t ∷ b)
cut [] [] s t a b lx ly ls lt same = (refl, same)
cut [] (y ∷ ys) s t a b lx ly ls lt same =
    let e : s ≡ y = cc in
    absurd (false≢true (sym ls ∙ ap is_letter e ∙ (both (is_letter y) _ ly).0))
cut (x ∷ xs) [] s t a b lx ly ls lt same =
    let e : t ≡ x = cc in
    absurd (false≢true (sym lt ∙ ap is_letter e ∙ (both (is_letter x) _ lx).0))
cut (x ∷ xs) (y ∷ ys) s t a b lx ly ls lt same =
    let h : x ≡ y = cc in
    let more : xs ++ s ∷ a ≡ ys ++ t ∷ b = cc in
    let r = cut xs ys s t a b (both (is_letter x) _ lx).1 (both (is_letter y) _ ly).1 ls lt more in
    (ap₂ (λ v vs. v ∷ vs) h r.0, r.1)

pub record Tail (text : List ℕ) : Type 0 where
  pub first : ℕ
  pub after : List ℕ
  pub is : text ≡ first ∷ after
  pub stops : is_letter first ≡ false

tail_of : (ns rest : List ℕ) → Tail (spaced ns ++ 10 ∷ rest)
tail_of [] rest = record { first = 10; after = rest; is = refl; stops = refl }
tail_of (n ∷ ns) rest = record { first = 32; after = _; is = refl; stops = refl }

letters : (w : Word) → list_all is_letter (word_text w) ≡ true
letters word.Plan = refl
letters word.Latency = refl
letters word.Path = refl
letters word.At = refl
letters word.Line = refl
letters word.Total = refl
letters word.Arc = refl
letters word.Bound = refl
letters word.Wave = refl
letters word.Home = refl
letters word.Channels = refl
letters word.Peak = refl
letters word.End = refl

abbrev word_of : List ℕ → Option Word
word_of t = if bytes_eq t (codes "plan") then Some word.Plan
    else (if bytes_eq t (codes "latency") then Some word.Latency
    else (if bytes_eq t (codes "path") then Some word.Path
    else (if bytes_eq t (codes "at") then Some word.At
    else (if bytes_eq t (codes "line") then Some word.Line
    else (if bytes_eq t (codes "total") then Some word.Total
    else (if bytes_eq t (codes "arc") then Some word.Arc
    else (if bytes_eq t (codes "bound") then Some word.Bound
    else (if bytes_eq t (codes "wave") then Some word.Wave
    else (if bytes_eq t (codes "home") then Some word.Home
    else (if bytes_eq t (codes "channels") then Some word.Channels
    else (if bytes_eq t (codes "peak") then Some word.Peak
    else (if bytes_eq t (codes "end") then Some word.End else None))))))))))))

word_back : (w : Word) → word_of (word_text w) ≡ Some w
word_back word.Plan = refl
word_back word.Latency = refl
word_back word.Path = refl
word_back word.At = refl
word_back word.Line = refl
word_back word.Total = refl
word_back word.Arc = refl
word_back word.Bound = refl
word_back word.Wave = refl
word_back word.Home = refl
word_back word.Channels = refl
word_back word.Peak = refl
word_back word.End = refl

some_same : (v w : Word) → Some v ≡ Some w → v ≡ w
some_same v w e = cc

pub word_unique : (v w : Word) → word_text v ≡ word_text w → v ≡ w
word_unique v w same = some_same v w (sym (word_back v) ∙ ap word_of same ∙ word_back w)

pub line_unique : (k l : Line) (a b : List ℕ) → IsLine k → IsLine l → line_text k ++ a ≡ line_text l ++ b → (k ≡ l) × (a ≡ b)
line_unique k l a b is_k is_l same =
    let x = tail_of k.numbers a in
    let y = tail_of l.numbers b in
    let split : word_text k.word ++ (spaced k.numbers ++ 10 ∷ a) ≡ word_text l.word ++ (spaced l.numbers ++ 10 ∷ b) = sym (parts k a) ∙ same ∙ parts l b in
    let c = cut (word_text k.word) (word_text l.word) x.first y.first x.after y.after (letters k.word) (letters l.word) x.stops y.stops
    (ap (λ t. word_text k.word ++ t) (sym x.is) ∙ split ∙ ap (λ t. word_text l.word ++ t) y.is) in
    let tails : spaced k.numbers ++ 10 ∷ a ≡ spaced l.numbers ++ 10 ∷ b = x.is ∙ c.1 ∙ sym y.is in
    let u = spaced_unique k.numbers l.numbers a b is_k.below is_l.below tails in
    (ap₂ line (word_unique k.word l.word c.0) u.0, u.1)

never_empty : (l : Line) (ls : List Line) → lines_text (l ∷ ls) ≡ [] → ⊥
never_empty l ls e =
    let n : length (lines_text (l ∷ ls)) ≡ length (word_text l.word) + (length (spaced l.numbers) + suc (length (lines_text ls))) =
    ap length (parts l (lines_text ls)) ∙ simp length-append in
    let z : length (lines_text (l ∷ ls)) ≡ 0 = ap length e in
    omega arith

-- the lines are fixed by the text
pub lines_unique : (xs ys : List Line) → All IsLine xs → All IsLine ys → lines_text xs ≡ lines_text ys → xs ≡ ys
lines_unique [] [] lx ly same = refl
lines_unique [] (y ∷ ys) lx ly same = absurd (never_empty y ys (sym same))
lines_unique (x ∷ xs) [] lx ly same = absurd (never_empty x xs same)
lines_unique (x ∷ xs) (y ∷ ys) lx ly same =
    let u = line_unique x y (lines_text xs) (lines_text ys) (All-head IsLine x xs lx) (All-head IsLine y ys ly) same in
    ap₂ (λ v vs. v ∷ vs) u.0 (lines_unique xs ys (All-tail IsLine x xs lx) (All-tail IsLine y ys ly) u.1)
