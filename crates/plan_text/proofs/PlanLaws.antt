-- A text has one plan, and no bad line.
use Rattle.std.proofs.Common.{◌≡◌, ℕ, List, [], ◌∷◌, get_or, map, refl, ap, ap₂, Ok, Err}
use Rattle.std.specs.List.{All}
use Rattle.std.proofs.lemmas.List.Elements.{All-cons, All-nil}
use Rattle.graph_model.specs.declared.graph.Uid.{Uid}
use Rattle.graph_model.specs.declared.refused.Refused.TheVariants.{Fault, Memory}
use Rattle.graph_model.proofs.NameFacts.{same_uid}
use Rattle.plan_model.specs.declared.alignment.At.{At}
use Rattle.plan_model.specs.declared.alignment.LineAt.{LineAt}
use Rattle.plan_model.specs.declared.buffers.Home.{Home}
use Rattle.plan_model.specs.declared.flow.Units.{Units}
use Rattle.plan_model.specs.declared.plan.Plan.{Plan}
use Rattle.plan_model.specs.declared.schedule.Wave.{Wave}
use Rattle.plan_text.specs.declared.word.Word.{Word}
use Rattle.plan_text.specs.declared.word.Word.TheVariants as word
use Rattle.plan_text.specs.Laws.{ReadingIsExact, TextHasNoBad, TextHasOnePlan}
use Rattle.plan_text.specs.Lines.{Line}
use Rattle.plan_text.specs.Order.{order}
use Rattle.plan_text.specs.Texts.{arc_line, at_line, delay_line, home_line, lines_of, names_of, sections_of, text_of, wave_line, IsInRange}
use Rattle.plan_text.proofs.LineLaws.{lines_unique}
use Rattle.plan_text.proofs.OnceLaws.{good_to_the_end, sections_lead, sections_unique, AreSections}

words_of : {X : Type 0} (w : Word) (f : X → Line) (xs : List X) → ((x : X) → (f x).word ≡ w) → All (λ l. l.word ≡ w) (map f xs)
words_of w f [] is = All-nil (λ (l : Line). l.word ≡ w)
words_of w f (x ∷ xs) is = All-cons (λ (l : Line). l.word ≡ w) (f x) (map f xs) (is x) (words_of w f xs is)

are_sections : (p : Plan) → AreSections order (sections_of p)
are_sections p = (
  1 ∷ [],
  (
    refl,
    (
      p.latency ∷ [],
      (
        refl,
        (
          names_of p.path,
          (
            refl,
            (
              words_of word.At at_line p.at (λ a. refl),
              (
                words_of word.Line delay_line p.lines (λ d. refl),
                (
                  p.total ∷ [],
                  (
                    refl,
                    (
                      words_of word.Arc arc_line p.arcs (λ e. refl),
                      (
                        p.bound ∷ [],
                        (
                          refl,
                          (
                            words_of word.Wave wave_line p.waves (λ w. refl),
                            (words_of word.Home home_line p.homes (λ h. refl), (p.channels ∷ [], (refl, (p.peak ∷ [], (refl, ([], (refl, refl))))))),
                          ),
                        ),
                      ),
                    ),
                  ),
                ),
              ),
            ),
          ),
        ),
      ),
    ),
  ),
)

pub text_has_no_bad : TextHasNoBad
unfolding text_of IsInRange
text_has_no_bad p n fits bad = good_to_the_end (lines_of p) n (sections_lead order (sections_of p) refl (are_sections p) fits) bad

-- ---- a plan by its sections

same_items : {X Y : Type 0} (f : X → Y) (xs ys : List X) → ((x y : X) → f x ≡ f y → x ≡ y) → map f xs ≡ map f ys → xs ≡ ys
same_items f [] [] one same = refl
same_items f [] (y ∷ ys) one same = let never : ⊥ = cc in absurd never
same_items f (x ∷ xs) [] one same = let never : ⊥ = cc in absurd never
same_items f (x ∷ xs) (y ∷ ys) one same =
    let e : f x ≡ f y = cc in
    let more : map f xs ≡ map f ys = cc in
    ap₂ (λ v vs. v ∷ vs) (one x y e) (same_items f xs ys one more)

same_names : (us vs : List Uid) → names_of us ≡ names_of vs → us ≡ vs
same_names us vs same = same_items (λ (u : Uid). u.0) us vs same_uid same

abbrev number_of : ℕ → Line → ℕ
number_of k l = get_or l.numbers k 0

same_at : (a b : At) → at_line a ≡ at_line b → a ≡ b
same_at a b e = λ i. record { uid = same_uid a.uid b.uid (ap (number_of 0) e) i; at = ap (number_of 1) e i }

same_delay : (a b : LineAt) → delay_line a ≡ delay_line b → a ≡ b
same_delay a b e = λ i. record { connection = ap (number_of 0) e i; delay = ap (number_of 1) e i }

same_arc : (a b : Units) → arc_line a ≡ arc_line b → a ≡ b
same_arc a b e = λ i. record {
  tail = ap (number_of 0) e i;
  head = ap (number_of 1) e i;
  units = ap (number_of 2) e i;
}

same_wave : (a b : Wave) → wave_line a ≡ wave_line b → a ≡ b
same_wave a b e = λ i. record { nodes = same_names a.nodes b.nodes (ap (λ (l : Line). l.numbers) e) i }

same_home : (a b : Home) → home_line a ≡ home_line b → a ≡ b
same_home a b e = λ i. record {
  uid = same_uid a.uid b.uid (ap (number_of 0) e) i;
  channel = ap (number_of 1) e i;
  buffer = ap (number_of 2) e i;
}

-- the lines of a section, and the numbers of its first line
abbrev section : ℕ → List (List Line) → List Line
section k gs = get_or gs k []

abbrev first_numbers : List Line → List ℕ
first_numbers [] = []
first_numbers (l ∷ ls) = l.numbers

abbrev number_at : ℕ → List (List Line) → ℕ
number_at k gs = get_or (first_numbers (section k gs)) 0 0

same_plan : (a b : Plan) → sections_of a ≡ sections_of b → a ≡ b
same_plan a b e = λ i. record {
  latency = ap (number_at 1) e i;
  path = same_names a.path b.path (ap (λ gs. first_numbers (section 2 gs)) e) i;
  at = same_items at_line a.at b.at same_at (ap (section 3) e) i;
  lines = same_items delay_line a.lines b.lines same_delay (ap (section 4) e) i;
  total = ap (number_at 5) e i;
  arcs = same_items arc_line a.arcs b.arcs same_arc (ap (section 6) e) i;
  bound = ap (number_at 7) e i;
  waves = same_items wave_line a.waves b.waves same_wave (ap (section 8) e) i;
  homes = same_items home_line a.homes b.homes same_home (ap (section 9) e) i;
  channels = ap (number_at 10) e i;
  peak = ap (number_at 11) e i;
}

pub text_has_one_plan : TextHasOnePlan
unfolding text_of IsInRange
text_has_one_plan a b fits_a fits_b same =
    same_plan a b (sections_unique order (sections_of a) (sections_of b) refl (are_sections a) (are_sections b) (lines_unique (lines_of a) (lines_of b) fits_a fits_b same))

pub reading_is_exact : ReadingIsExact
reading_is_exact p (Ok q) fits same fits_q bad = ap Ok (text_has_one_plan p q fits fits_q same)
reading_is_exact p (Err (Fault f)) fits same fits_q bad = absurd (text_has_no_bad p f.line fits bad)
reading_is_exact p (Err Memory) fits same fits_q bad = tt
