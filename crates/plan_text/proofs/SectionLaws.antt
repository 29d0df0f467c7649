-- A text read section by section.
use Rattle.std.proofs.Common.{◌≡◌, ◌+◌, ◌∙◌, ◌++◌, ℕ, List, [], ◌∷◌, length, refl, sym, ap, subst, append_assoc, append-nil, arith, inl, inr}
use Rattle.std.specs.List.{All}
use Rattle.std.proofs.lemmas.List.{length-append}
use Rattle.std.proofs.lemmas.List.Elements.{All-cons, All-head, All-nil, All-tail}
use Rattle.plan_text.specs.declared.word.Word.{Word}
use Rattle.plan_text.specs.Lines.{line, lines_text, IsLine, Line}
use Rattle.plan_text.specs.Order.{many, one, BeginsWithLine, IsFirstBad, Leads, Next, NoLine, Section}
use Rattle.plan_text.specs.Reading.{HasRead, ReadsMany}
use Rattle.plan_text.proofs.LineLaws.{lines_text-append, one_line}

-- the good lines so far; what may come next, and stands there, may come next in the sections `todo`
pub record Progress (ss todo : List Section) (text : List ℕ) (good : List Line) (rest : List ℕ) (count : ℕ) : Type 0 where
  pub left : List Section
  pub joined : text ≡ lines_text good ++ rest
  pub leads : Leads ss good left
  pub skip : (w : Word) (after : List Section) (ns more : List ℕ) → Next left w after → BeginsWithLine rest w ns more → Next todo w after
  pub reach : (w : Word) (after : List Section) → Next todo w after → Next left w after
  pub open_end : left ≡ [] → todo ≡ []
  pub counted : count ≡ length good

pub nothing_read : (ss : List Section) (text : List ℕ) → Progress ss ss text [] text 0
nothing_read ss text = record {
  left = ss;
  joined = refl;
  leads = refl;
  skip = λ w after ns more next begins. next;
  reach = λ w after next. next;
  open_end = λ e. e;
  counted = refl;
}

leads_on : (ss : List Section) (good : List Line) (left : List Section) (l : Line) (after : List Section) → Leads ss good left → IsLine l → Next left l.word after
    → Leads ss (good ++ l ∷ []) after
leads_on ss [] left l after h is next = (after, (is, subst (λ s. Next s l.word after) h next, refl))
leads_on ss (x ∷ good) left l after h is next = (h.0, (h.1.0, h.1.1, leads_on h.0 good left l after h.1.2 is next))

joined_on : (text : List ℕ) (good : List Line) (mid : List ℕ) (ls : List Line) (rest : List ℕ) → text ≡ lines_text good ++ mid → mid ≡ lines_text ls ++ rest
    → text ≡ lines_text (good ++ ls) ++ rest
joined_on text good mid ls rest h read =
    h ∙ ap (λ t. lines_text good ++ t) read ∙ sym (append_assoc (lines_text good) (lines_text ls) rest) ∙ ap (λ t. t ++ rest) (sym (lines_text-append good ls))

counted_on : (good ls : List Line) (count after k : ℕ) → count ≡ length good → after ≡ count + k → k ≡ length ls → after ≡ length (good ++ ls)
counted_on good ls count after k c d l = let e : length (good ++ ls) ≡ length good + length ls = length-append good ls in omega arith

-- one line has been read
pub one_read : (ss todo : List Section) (text : List ℕ) (good : List Line) (mid : List ℕ) (count : ℕ) (w : Word) (ns rest : List ℕ) (after : ℕ)
    → Progress ss (one w ∷ todo) text good mid count → HasRead w mid count rest after ns → Progress ss todo text (good ++ line w ns ∷ []) rest after
one_read ss todo text good mid count w ns rest after h read = record {
  left = todo;
  joined = joined_on text good mid (line w ns ∷ []) rest h.joined (read.begins.joined ∙ ap (λ t. t ++ rest) (sym (one_line (line w ns))));
  leads = leads_on ss good h.left (line w ns) todo h.leads read.begins.is_line (h.reach w todo (refl, refl));
  skip = λ v later ms more next there. next;
  reach = λ v later next. next;
  open_end = λ e. e;
  counted = counted_on good (line w ns ∷ []) count after 1 h.counted read.counted refl;
}

-- after a first line of a section that repeats, and more of them
leads_rows : (ss : List Section) (good : List Line) (w : Word) (todo : List Section) (ls : List Line) → All (λ l. l.word ≡ w) ls → All IsLine ls
    → Leads ss good (many w ∷ todo) → Leads ss (good ++ ls) (many w ∷ todo)
leads_rows ss good w todo [] words lines h = rw append-nil h
leads_rows ss good w todo (l ∷ ls) words lines h =
    let P : Line → Type 0 = λ k. k.word ≡ w in
    let more = leads_on ss good (many w ∷ todo) l (many w ∷ todo) h (All-head IsLine l ls lines) (inl (sym (All-head P l ls words), refl)) in
    let all = leads_rows ss (good ++ l ∷ []) w todo ls (All-tail P l ls words) (All-tail IsLine l ls lines) more in
    subst (λ g. Leads ss g (many w ∷ todo)) (append_assoc good (l ∷ []) ls) all

-- all the lines of a section that repeats have been read
pub many_read : (ss todo : List Section) (text : List ℕ) (good : List Line) (mid : List ℕ) (count : ℕ) (w : Word) (ls : List Line) (rest : List ℕ) (after : ℕ)
    → Progress ss (many w ∷ todo) text good mid count → ReadsMany w mid count rest after ls → Progress ss todo text (good ++ ls) rest after
many_read ss todo text good mid count w [] rest after h all = record {
  left = h.left;
  joined = joined_on text good mid [] rest h.joined all.read.joined;
  leads = rw append-nil h.leads;
  skip = λ v later ns more next there. elim (h.skip v later ns more next (subst (λ t. BeginsWithLine t v ns more) (sym all.read.joined) there)) [
    | inl here ↦ absurd (all.stop ns more (subst (λ u. BeginsWithLine rest u ns more) (sym here.0) there))
    | inr further ↦ further
  ];
  reach = λ v later next. h.reach v later (inr next);
  open_end = λ e. let bad : many w ∷ todo ≡ [] = h.open_end e in let never : ⊥ = cc in absurd never;
  counted = counted_on good [] count after 0 h.counted all.read.counted refl;
}
many_read ss todo text good mid count w (l ∷ ls) rest after h all =
    let P : Line → Type 0 = λ k. k.word ≡ w in
    let words = all.read.words in
    let lines = all.read.are_lines in
    let first = leads_on ss good h.left l (many w ∷ todo) h.leads (All-head IsLine l ls lines)
    (h.reach l.word (many w ∷ todo) (inl (sym (All-head P l ls words), refl))) in
    let rows = leads_rows ss (good ++ l ∷ []) w todo ls (All-tail P l ls words) (All-tail IsLine l ls lines) first in
    record {
      left = many w ∷ todo;
      joined = joined_on text good mid (l ∷ ls) rest h.joined all.read.joined;
      leads = subst (λ g. Leads ss g (many w ∷ todo)) (append_assoc good (l ∷ []) ls) rows;
      skip = λ v later ms more next there. elim next [
        | inl here ↦ absurd (all.stop ms more (subst (λ u. BeginsWithLine rest u ms more) (sym here.0) there))
        | inr further ↦ further
      ];
      reach = λ v later next. inr next;
      open_end = λ e. let never : ⊥ = cc in absurd never;
      counted = counted_on good (l ∷ ls) count after (length (l ∷ ls)) h.counted all.read.counted refl;
    }

-- the line that is wanted is not there
pub stuck_one : (ss todo : List Section) (text : List ℕ) (good : List Line) (rest : List ℕ) (count : ℕ) (w : Word) (n : ℕ)
    → Progress ss (one w ∷ todo) text good rest count → NoLine w rest → n ≡ count + 1 → IsFirstBad ss text n
stuck_one ss todo text good rest count w n h stop number = record {
  good = good;
  rest = rest;
  left = h.left;
  joined = h.joined;
  leads = h.leads;
  stuck = λ v later next ns more there. stop ns more (subst (λ u. BeginsWithLine rest u ns more) (sym (h.skip v later ns more next there).0) there);
  unfinished = λ done. let bad : one w ∷ todo ≡ [] = h.open_end done.0 in let never : ⊥ = cc in never;
  number = number ∙ ap (λ k. k + 1) h.counted;
}

-- bytes are left after the last line
pub stuck_end : (ss : List Section) (text : List ℕ) (good : List Line) (rest : List ℕ) (count n : ℕ) → Progress ss [] text good rest count → (rest ≡ [] → ⊥) → n ≡ count + 1
    → IsFirstBad ss text n
stuck_end ss text good rest count n h some number = record {
  good = good;
  rest = rest;
  left = h.left;
  joined = h.joined;
  leads = h.leads;
  stuck = λ v later next ns more there. h.skip v later ns more next there;
  unfinished = λ done. some done.1;
  number = number ∙ ap (λ k. k + 1) h.counted;
}

-- good lines are lines
pub leads_lines : (ss : List Section) (ls : List Line) (left : List Section) → Leads ss ls left → All IsLine ls
leads_lines ss [] left h = All-nil IsLine
leads_lines ss (l ∷ ls) left h = All-cons IsLine l ls h.1.0 (leads_lines h.0 ls left h.1.2)
