-- A text is read in one way: the first bad line is one number, and lines that lead to the end have none.
use Rattle.std.proofs.Common.{◌≡◌, ◌+◌, ◌&&◌, ◌∙◌, ◌++◌, ℕ, Bool, true, false, not, List, [], ◌∷◌, length, refl, sym, ap, ap₂, subst, append_assoc, append-nil, inl, inr}
use Rattle.std.specs.List.{All, list_all}
use Rattle.std.specs.Str.{bytes_eq}
use Rattle.std.proofs.lemmas.Bool.{false≢true}
use Rattle.std.proofs.lemmas.List.Elements.{All-append, All-cons, All-head, All-nil, All-tail}
use Rattle.std.proofs.lemmas.Slice.Eq.{bytes_eq-Decides}
use Rattle.plan_text.specs.declared.word.Word.{Word}
use Rattle.plan_text.specs.Lines.{line, line_text, lines_text, word_text, IsLine, Line}
use Rattle.plan_text.specs.Order.{many, one, order, IsFirstBad, Leads, Next, NoLine, Section}
use Rattle.plan_text.specs.Texts.{in_order}
use Rattle.plan_text.proofs.DigitLaws.{both}
use Rattle.plan_text.proofs.LineLaws.{line_unique}

-- ---- no word has two sections

abbrev word_of : Section → Word
word_of (one k) = k
word_of (many k) = k

abbrev is_other : Word → Section → Bool
is_other w s = not (bytes_eq (word_text w) (word_text (word_of s)))

abbrev are_distinct : List Section → Bool
are_distinct [] = true
are_distinct (s ∷ ss) = list_all (is_other (word_of s)) ss && are_distinct ss

not_itself : (w : Word) (s : Section) → is_other w s ≡ true → w ≡ word_of s → ⊥
not_itself w s other same =
    let equal : bytes_eq (word_text w) (word_text (word_of s)) ≡ true = (bytes_eq-Decides (word_text w) (word_text (word_of s))).1 (ap word_text same) in
    false≢true (ap not (sym equal) ∙ other)

-- no section has the word
abbrev Absent : Word → List Section → Type 0
Absent w ss = (after : List Section) → Next ss w after → ⊥

absent : (w : Word) (ss : List Section) → list_all (is_other w) ss ≡ true → Absent w ss
absent w [] others after next = next
absent w (one k ∷ ss) others after next = not_itself w (one k) (both (is_other w (one k)) _ others).0 (sym next.0)
absent w (many k ∷ ss) others after (inl here) = not_itself w (many k) (both (is_other w (many k)) _ others).0 (sym here.0)
absent w (many k ∷ ss) others after (inr next) = absent w ss (both (is_other w (many k)) _ others).1 after next

next_unique : (ss : List Section) (w : Word) (a b : List Section) → are_distinct ss ≡ true → Next ss w a → Next ss w b → a ≡ b
next_unique [] w a b d x y = absurd x
next_unique (one k ∷ ss) w a b d x y = x.1 ∙ sym y.1
next_unique (many k ∷ ss) w a b d (inl x) (inl y) = x.1 ∙ sym y.1
next_unique (many k ∷ ss) w a b d (inl x) (inr y) = absurd (absent k ss (both (list_all (is_other k) ss) _ d).0 b (subst (λ v. Next ss v b) (sym x.0) y))
next_unique (many k ∷ ss) w a b d (inr x) (inl y) = absurd (absent k ss (both (list_all (is_other k) ss) _ d).0 a (subst (λ v. Next ss v a) (sym y.0) x))
next_unique (many k ∷ ss) w a b d (inr x) (inr y) = next_unique ss w a b (both (list_all (is_other k) ss) _ d).1 x y

next_distinct : (ss : List Section) (w : Word) (a : List Section) → are_distinct ss ≡ true → Next ss w a → are_distinct a ≡ true
next_distinct [] w a d x = absurd x
next_distinct (one k ∷ ss) w a d x = subst (λ s. are_distinct s ≡ true) (sym x.1) (both (list_all (is_other k) ss) _ d).1
next_distinct (many k ∷ ss) w a d (inl x) = subst (λ s. are_distinct s ≡ true) (sym x.1) d
next_distinct (many k ∷ ss) w a d (inr x) = next_distinct ss w a (both (list_all (is_other k) ss) _ d).1 x

-- ---- two runs over one text that both can go no further are the same

-- nothing that may come next stands at the front
abbrev Stuck : List Section → List ℕ → Type 0
Stuck left rest = (w : Word) (after : List Section) → Next left w after → NoLine w rest

first_of : (x : Line) (xs : List Line) (rest : List ℕ) → lines_text (x ∷ xs) ++ rest ≡ line_text x ++ (lines_text xs ++ rest)
first_of x xs rest = append_assoc (line_text x) (lines_text xs) rest

pub record Same (xs ys : List Line) (rest_x rest_y : List ℕ) (left_x left_y : List Section) : Type 0 where
  pub lines : xs ≡ ys
  pub rests : rest_x ≡ rest_y
  pub lefts : left_x ≡ left_y

one_reading : (ss : List Section) (xs ys : List Line) (rest_x rest_y : List ℕ) (left_x left_y : List Section) → are_distinct ss ≡ true → Leads ss xs left_x → Leads ss ys left_y
    → lines_text xs ++ rest_x ≡ lines_text ys ++ rest_y → Stuck left_x rest_x → Stuck left_y rest_y → Same xs ys rest_x rest_y left_x left_y
one_reading ss [] [] rx ry lx ly d hx hy same sx sy = record { lines = refl; rests = same; lefts = hx ∙ sym hy }
one_reading ss [] (y ∷ ys) rx ry lx ly d hx hy same sx sy =
    absurd (sx y.word hy.0 (subst (λ s. Next s y.word hy.0) (sym hx) hy.1.1) y.numbers (lines_text ys ++ ry) (record { joined = same ∙ first_of y ys ry; is_line = hy.1.0 }))
one_reading ss (x ∷ xs) [] rx ry lx ly d hx hy same sx sy =
    absurd (sy x.word hx.0 (subst (λ s. Next s x.word hx.0) (sym hy) hx.1.1) x.numbers (lines_text xs ++ rx) (record { joined = sym same ∙ first_of x xs rx; is_line = hx.1.0 }))
one_reading ss (x ∷ xs) (y ∷ ys) rx ry lx ly d hx hy same sx sy =
    let u = line_unique x y (lines_text xs ++ rx) (lines_text ys ++ ry) hx.1.0 hy.1.0 (sym (first_of x xs rx) ∙ same ∙ first_of y ys ry) in
    let mid : hx.0 ≡ hy.0 = next_unique ss y.word hx.0 hy.0 d (subst (λ (l : Line). Next ss l.word hx.0) u.0 hx.1.1) hy.1.1 in
    let more = one_reading hy.0 xs ys rx ry lx ly (next_distinct ss y.word hy.0 d hy.1.1) (subst (λ s. Leads s xs lx) mid hx.1.2) hy.1.2 u.1 sx sy in
    record { lines = ap₂ (λ v vs. v ∷ vs) u.0 more.lines; rests = more.rests; lefts = more.lefts }

pub first_bad_is_one : (text : List ℕ) (m n : ℕ) → IsFirstBad order text m → IsFirstBad order text n → m ≡ n
first_bad_is_one text m n a b =
    let s = one_reading order a.good b.good a.rest b.rest a.left b.left refl a.leads b.leads (sym a.joined ∙ b.joined) a.stuck b.stuck in
    a.number ∙ ap (λ ls. length ls + 1) s.lines ∙ sym b.number

pub good_to_the_end : (ls : List Line) (n : ℕ) → Leads order ls [] → IsFirstBad order (lines_text ls) n → ⊥
good_to_the_end ls n leads bad =
    let s = one_reading order bad.good ls bad.rest [] bad.left [] refl bad.leads leads (sym bad.joined ∙ sym (append-nil (lines_text ls))) bad.stuck (λ w after next. absurd next) in
    bad.unfinished (s.lefts, s.rests)

-- ---- lines that are grouped by sections

-- one line of the word, or lines of the word, for each section
abbrev pub AreSections : List Section → List (List Line) → Type 0
AreSections [] gs = gs ≡ []
AreSections (s ∷ ss) [] = ⊥
AreSections (one w ∷ ss) (g ∷ gs) = (ns : List ℕ) × ((g ≡ line w ns ∷ []) × AreSections ss gs)
AreSections (many w ∷ ss) (g ∷ gs) = All (λ l. l.word ≡ w) g × AreSections ss gs

-- a section of one line follows
abbrev has_one : List Section → Bool
has_one [] = false
has_one (one w ∷ ss) = true
has_one (many w ∷ ss) = has_one ss

abbrev pub is_closed : List Section → Bool
is_closed [] = true
is_closed (one w ∷ ss) = is_closed ss
is_closed (many w ∷ ss) = has_one ss && is_closed ss

some_line : (ss : List Section) (gs : List (List Line)) → has_one ss ≡ true → AreSections ss gs → in_order gs ≡ [] → ⊥
some_line [] gs some are none = false≢true some
some_line (one w ∷ ss) [] some are none = are
some_line (many w ∷ ss) [] some are none = are
some_line (one w ∷ ss) (g ∷ gs) some are none =
    let first : in_order (g ∷ gs) ≡ line w are.0 ∷ in_order gs = ap (λ h. h ++ in_order gs) are.1.0 in
    let bad : line w are.0 ∷ in_order gs ≡ [] = sym first ∙ none in
    let never : ⊥ = cc in never
some_line (many w ∷ ss) ([] ∷ gs) some are none = some_line ss gs some are.1 none
some_line (many w ∷ ss) ((l ∷ ls) ∷ gs) some are none = let bad : l ∷ (ls ++ in_order gs) ≡ [] = none in let never : ⊥ = cc in never

skip_many : (w : Word) (todo : List Section) (ls : List Line) (left : List Section) → (ls ≡ [] → ⊥) → Leads todo ls left → Leads (many w ∷ todo) ls left
skip_many w todo [] left some h = absurd (some refl)
skip_many w todo (l ∷ ls) left some h = (h.0, (h.1.0, inr h.1.1, h.1.2))

rows_lead : (w : Word) (todo : List Section) (rows ls : List Line) (left : List Section) → (ls ≡ [] → ⊥) → All (λ l. l.word ≡ w) rows → All IsLine rows
    → Leads todo ls left → Leads (many w ∷ todo) (rows ++ ls) left
rows_lead w todo [] ls left some words lines h = skip_many w todo ls left some h
rows_lead w todo (r ∷ rows) ls left some words lines h =
    let P : Line → Type 0 = λ l. l.word ≡ w in (
      many w ∷ todo,
      (
        All-head IsLine r rows lines,
        inl (sym (All-head P r rows words), refl),
        rows_lead w todo rows ls left some (All-tail P r rows words) (All-tail IsLine r rows lines) h,
      ),
    )

-- they lead to the end
pub sections_lead : (ss : List Section) (gs : List (List Line)) → is_closed ss ≡ true → AreSections ss gs → All IsLine (in_order gs) → Leads ss (in_order gs) []
sections_lead [] gs closed are lines = subst (λ hs. Leads [] (in_order hs) []) (sym are) refl
sections_lead (one w ∷ ss) [] closed are lines = absurd are
sections_lead (many w ∷ ss) [] closed are lines = absurd are
sections_lead (one w ∷ ss) (g ∷ gs) closed are lines =
    let first : in_order (g ∷ gs) ≡ line w are.0 ∷ in_order gs = ap (λ h. h ++ in_order gs) are.1.0 in
    let all : All IsLine (line w are.0 ∷ in_order gs) = subst (λ h. All IsLine h) first lines in
    subst (λ h. Leads (one w ∷ ss) h []) (sym first)
    (ss, (All-head IsLine (line w are.0) (in_order gs) all, (refl, refl), sections_lead ss gs closed are.1.1 (All-tail IsLine (line w are.0) (in_order gs) all)))
sections_lead (many w ∷ ss) (g ∷ gs) closed are lines =
    let c = both (has_one ss) (is_closed ss) closed in
    rows_lead w ss g (in_order gs) [] (some_line ss gs c.0 are.1) are.0 (front_of g (in_order gs) lines) (sections_lead ss gs c.1 are.1 (back_of g (in_order gs) lines))
  where
    front_of : (xs ys : List Line) → All IsLine (xs ++ ys) → All IsLine xs
    front_of [] ys all = All-nil IsLine
    front_of (x ∷ xs) ys all = All-cons IsLine x xs (All-head IsLine x (xs ++ ys) all) (front_of xs ys (All-tail IsLine x (xs ++ ys) all))

    back_of : (xs ys : List Line) → All IsLine (xs ++ ys) → All IsLine ys
    back_of [] ys all = all
    back_of (x ∷ xs) ys all = back_of xs ys (All-tail IsLine x (xs ++ ys) all)

-- ---- the groups are fixed by the lines

-- no line has the word
abbrev NoneOf : Word → List Line → Type 0
NoneOf w ls = All (λ l. l.word ≡ w → ⊥) ls

none_of : (w : Word) (ss : List Section) (gs : List (List Line)) → list_all (is_other w) ss ≡ true → AreSections ss gs → NoneOf w (in_order gs)
none_of w [] gs others are = subst (λ hs. NoneOf w (in_order hs)) (sym are) (All-nil (λ (l : Line). l.word ≡ w → ⊥))
none_of w (one k ∷ ss) [] others are = absurd are
none_of w (many k ∷ ss) [] others are = absurd are
none_of w (one k ∷ ss) (g ∷ gs) others are =
    let P : Line → Type 0 = λ l. l.word ≡ w → ⊥ in
    let b = both (is_other w (one k)) _ others in
    let first : in_order (g ∷ gs) ≡ line k are.0 ∷ in_order gs = ap (λ h. h ++ in_order gs) are.1.0 in
    subst (NoneOf w) (sym first) (All-cons P (line k are.0) (in_order gs) (λ e. not_itself w (one k) b.0 (sym e)) (none_of w ss gs b.1 are.1.1))
none_of w (many k ∷ ss) (g ∷ gs) others are =
    let P : Line → Type 0 = λ l. l.word ≡ w → ⊥ in
    let b = both (is_other w (many k)) _ others in
    All-append P g (in_order gs) (other_words g are.0 b.0) (none_of w ss gs b.1 are.1)
  where
    other_words : (ls : List Line) → All (λ l. l.word ≡ k) ls → is_other w (many k) ≡ true → NoneOf w ls
    other_words [] words other = All-nil (λ (l : Line). l.word ≡ w → ⊥)
    other_words (l ∷ ls) words other =
        let Q : Line → Type 0 = λ m. m.word ≡ k in
        All-cons (λ (m : Line). m.word ≡ w → ⊥) l ls (λ e. not_itself w (many k) other (sym e ∙ All-head Q l ls words)) (other_words ls (All-tail Q l ls words) other)

-- lines of a word before lines of others
split_unique : (w : Word) (xs ys a b : List Line) → All (λ l. l.word ≡ w) xs → All (λ l. l.word ≡ w) ys → NoneOf w a → NoneOf w b → xs ++ a ≡ ys ++ b → (xs ≡ ys) × (a ≡ b)
split_unique w [] [] a b wx wy na nb same = (refl, same)
split_unique w [] (y ∷ ys) [] b wx wy na nb same = let never : ⊥ = cc in absurd never
split_unique w [] (y ∷ ys) (l ∷ a) b wx wy na nb same =
    let e : l ≡ y = cc in
    absurd (All-head (λ (k : Line). k.word ≡ w → ⊥) l a na (ap (λ (k : Line). k.word) e ∙ All-head (λ (k : Line). k.word ≡ w) y ys wy))
split_unique w (x ∷ xs) [] a [] wx wy na nb same = let never : ⊥ = cc in absurd never
split_unique w (x ∷ xs) [] a (l ∷ b) wx wy na nb same =
    let e : l ≡ x = cc in
    absurd (All-head (λ (k : Line). k.word ≡ w → ⊥) l b nb (ap (λ (k : Line). k.word) e ∙ All-head (λ (k : Line). k.word ≡ w) x xs wx))
split_unique w (x ∷ xs) (y ∷ ys) a b wx wy na nb same =
    let P : Line → Type 0 = λ l. l.word ≡ w in
    let e : x ≡ y = cc in
    let more : xs ++ a ≡ ys ++ b = cc in
    let r = split_unique w xs ys a b (All-tail P x xs wx) (All-tail P y ys wy) na nb more in
    (ap₂ (λ v vs. v ∷ vs) e r.0, r.1)

pub sections_unique : (ss : List Section) (gs hs : List (List Line)) → are_distinct ss ≡ true → AreSections ss gs → AreSections ss hs → in_order gs ≡ in_order hs → gs ≡ hs
sections_unique [] gs hs d x y same = x ∙ sym y
sections_unique (one w ∷ ss) [] hs d x y same = absurd x
sections_unique (many w ∷ ss) [] hs d x y same = absurd x
sections_unique (one w ∷ ss) (g ∷ gs) [] d x y same = absurd y
sections_unique (many w ∷ ss) (g ∷ gs) [] d x y same = absurd y
sections_unique (one w ∷ ss) (g ∷ gs) (h ∷ hs) d x y same =
    let b = both (list_all (is_other w) ss) _ d in
    let P : Line → Type 0 = λ l. l.word ≡ w in
    let words : (ns : List ℕ) → All P (line w ns ∷ []) = λ ns. All-cons P (line w ns) [] refl (All-nil P) in
    let s = split_unique w g h (in_order gs) (in_order hs) (subst (All P) (sym x.1.0) (words x.0)) (subst (All P) (sym y.1.0) (words y.0))
    (none_of w ss gs b.0 x.1.1) (none_of w ss hs b.0 y.1.1) same in
    ap₂ (λ v vs. v ∷ vs) s.0 (sections_unique ss gs hs b.1 x.1.1 y.1.1 s.1)
sections_unique (many w ∷ ss) (g ∷ gs) (h ∷ hs) d x y same =
    let b = both (list_all (is_other w) ss) _ d in
    let s = split_unique w g h (in_order gs) (in_order hs) x.0 y.0 (none_of w ss gs b.0 x.1) (none_of w ss hs b.0 y.1) same in
    ap₂ (λ v vs. v ∷ vs) s.0 (sections_unique ss gs hs b.1 x.1 y.1 s.1)
