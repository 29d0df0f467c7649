-- How far the text of a plan has been read.
use Rattle.std.proofs.Common.{◌≡◌, ◌+◌, ◌==◌, ◌∙◌, ◌++◌, ℕ, Bool, true, false, List, [], ◌∷◌, length, map, Result, Ok, Err, refl, sym, ap, subst, append-nil, arith, slice_index}
use Rattle.std.specs.List.{All}
use Rattle.std.specs.Result.{IsErrAnd}
use Rattle.std.proofs.lemmas.Bool.{eqb-true, false≢true}
use Rattle.std.proofs.lemmas.List.Concat.{flat_map-append}
use Rattle.graph_model.specs.declared.refused.Refused.{Refused}
use Rattle.graph_model.specs.declared.refused.Refused.TheVariants.{Fault, Memory}
use Rattle.plan_model.specs.declared.plan.Plan.{Plan}
use Rattle.plan_text.specs.declared.fault.PlanFault.{PlanFault}
use Rattle.plan_text.specs.declared.word.Word.{Word}
use Rattle.plan_text.specs.declared.word.Word.TheVariants as word
use Rattle.plan_text.specs.Lines.{fits, lines_text, IsLine, Line}
use Rattle.plan_text.specs.Order.{many, one, order, IsFirstBad, Section}
use Rattle.plan_text.specs.Reading.{HasRead, IfFault, ReadsMany, WantsLine}
use Rattle.plan_text.specs.Texts.{arc_line, at_line, delay_line, home_line, in_order, names_of, sections_of, sole, text_of, wave_line, IsInRange}
use Rattle.plan_text.proofs.DigitLaws.{both}
use Rattle.plan_text.proofs.NumberLaws.{nil_of}
use Rattle.plan_text.proofs.SectionLaws.{leads_lines, many_read, nothing_read, one_read, stuck_end, stuck_one, Progress}

-- these sections have been read, and `todo` are to come
pub record HasSections (todo : List Section) (text : List ℕ) (gs : List (List Line)) (rest : List ℕ) (count : ℕ) : Type 0 where
  pub read : Progress order todo text (in_order gs) rest count

pub in_order-push : (gs : List (List Line)) (g : List Line) → in_order (gs ++ g ∷ []) ≡ in_order gs ++ g
in_order-push gs g = flat_map-append (λ ls. ls) gs (g ∷ []) ∙ ap (λ t. in_order gs ++ t) (append-nil g)

pub no_section : (text : List ℕ) → HasSections order text [] text 0
no_section text = record { read = nothing_read order text }

pub one_section : (todo : List Section) (text : List ℕ) (gs : List (List Line)) (mid : List ℕ) (count : ℕ) (w : Word) (ns rest : List ℕ) (after : ℕ)
    → HasSections (one w ∷ todo) text gs mid count → HasRead w mid count rest after ns → HasSections todo text (gs ++ sole w ns ∷ []) rest after
one_section todo text gs mid count w ns rest after h read = record {
  read = subst (λ ls. Progress order todo text ls rest after) (sym (in_order-push gs (sole w ns))) (one_read order todo text (in_order gs) mid count w ns rest after h.read read);
}

pub many_section : (todo : List Section) (text : List ℕ) (gs : List (List Line)) (mid : List ℕ) (count : ℕ) (w : Word) (ls : List Line) (rest : List ℕ) (after : ℕ)
    → HasSections (many w ∷ todo) text gs mid count → ReadsMany w mid count rest after ls → HasSections todo text (gs ++ ls ∷ []) rest after
many_section todo text gs mid count w ls rest after h read = record {
  read = subst (λ ks. Progress order todo text ks rest after) (sym (in_order-push gs ls)) (many_read order todo text (in_order gs) mid count w ls rest after h.read read);
}

-- the line that is wanted is the bad one
pub refused : (todo : List Section) (text : List ℕ) (gs : List (List Line)) (mid : List ℕ) (count : ℕ) (w : Word) (rest : List ℕ) (after : ℕ)
    (e : Refused PlanFault) (r : Result Plan (Refused PlanFault))
    → HasSections (one w ∷ todo) text gs mid count → WantsLine w mid count rest after (Err e) → IsErrAnd r (λ x. x ≡ e) → IfFault r (λ f. IsFirstBad order text f.line)
refused todo text gs mid count w rest after e (Ok p) h stop passed = tt
refused todo text gs mid count w rest after e (Err Memory) h stop passed = tt
refused todo text gs mid count w rest after Memory (Err (Fault f)) h stop passed = let never : ⊥ = cc in absurd never
refused todo text gs mid count w rest after (Fault g) (Err (Fault f)) h stop passed =
    let same : f ≡ g = cc in
    stuck_one order todo text (in_order gs) mid count w f.line h.read stop.0 (ap (λ (x : PlanFault). x.line) same ∙ stop.1)

-- the line after the last one is the bad one
pub ended : (text : List ℕ) (gs : List (List Line)) (rest : List ℕ) (count n : ℕ) (empty : Bool) → HasSections [] text gs rest count → empty ≡ (length rest == 0) → empty ≡ false
    → n ≡ count + 1 → IsFirstBad order text n
ended text gs rest count n empty h is some number =
    stuck_end order text (in_order gs) rest count n h.read (λ none. false≢true (sym some ∙ is ∙ ap (λ (xs : List ℕ). length xs == 0) none)) number

one_number : (ns : List ℕ) → (length ns == 1) ≡ true → ns ≡ slice_index ns 0 ∷ []
one_number [] e = let bad : ⊥ = cc in absurd bad
one_number (n ∷ []) e = refl
one_number (n ∷ m ∷ ns) e = absurd (omega (arith, eqb-true (length (n ∷ m ∷ ns)) 1 e))

pub first_version : (ns : List ℕ) → fits word.Plan ns ≡ true → ns ≡ 1 ∷ []
first_version ns h = let b = both (length ns == 1) _ h in one_number ns b.0 ∙ ap (λ n. n ∷ []) (eqb-true (slice_index ns 0) 1 b.1)

pub no_numbers : (ns : List ℕ) → fits word.End ns ≡ true → ns ≡ []
no_numbers ns h = nil_of ns (eqb-true (length ns) 0 h)

-- what has been read of each section
abbrev pub all_read : List ℕ → List ℕ → List ℕ → List Line → List Line → List ℕ → List Line → List ℕ → List Line → List Line → List ℕ → List ℕ → List ℕ → List (List Line)
all_read version latency path at delays total arcs bound waves homes channels peak end = sole word.Plan version ∷ sole word.Latency latency ∷ sole word.Path path ∷ at ∷ delays
    ∷ sole word.Total total ∷ arcs ∷ sole word.Bound bound ∷ waves ∷ homes ∷ sole word.Channels channels ∷ sole word.Peak peak ∷ sole word.End end ∷ []

-- it is that of the plan
pub record IsOf (p : Plan) (gs : List (List Line)) : Type 0 where
  pub same : gs ≡ sections_of p

pub is_of : (p : Plan) (version latency path total bound channels peak end : List ℕ) → version ≡ 1 ∷ [] → latency ≡ p.latency ∷ [] → path ≡ names_of p.path → total ≡ p.total ∷ []
    → bound ≡ p.bound ∷ [] → channels ≡ p.channels ∷ [] → peak ≡ p.peak ∷ [] → end ≡ []
    → IsOf p (all_read version latency path (map at_line p.at) (map delay_line p.lines) total (map arc_line p.arcs) bound (map wave_line p.waves) (map home_line p.homes) channels peak end)
is_of p version latency path total bound channels peak end v l pa t b c k e = record { same = rw (v, l, pa, t, b, c, k, e) refl }

pub whole : (p : Plan) (text : List ℕ) (gs : List (List Line)) (rest : List ℕ) (count : ℕ) (empty : Bool) → HasSections [] text gs rest count → IsOf p gs → empty ≡ (length rest == 0) → empty ≡ true
    → text ≡ text_of p
unfolding text_of
whole p text gs rest count empty h of is yes_it =
    let none : rest ≡ [] = nil_of rest (eqb-true (length rest) 0 (sym is ∙ yes_it)) in
    h.read.joined ∙ ap (λ x. lines_text (in_order gs) ++ x) none ∙ append-nil _ ∙ ap (λ hs. lines_text (in_order hs)) of.same

pub whole_in_range : (p : Plan) (text : List ℕ) (gs : List (List Line)) (rest : List ℕ) (count : ℕ) → HasSections [] text gs rest count → IsOf p gs → IsInRange p
unfolding IsInRange
whole_in_range p text gs rest count h of = subst (λ hs. All IsLine (in_order hs)) of.same (leads_lines order (in_order gs) h.read.left h.read.leads)
