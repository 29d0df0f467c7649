-- Texts that are written line by line.
use Rattle.std.proofs.Common.{◌≡◌, ◌<◌, ◌^◌, ◌∙◌, ◌++◌, ℕ, List, [], ◌∷◌, ◌+◌, map, get_or, take, length, sym, ap, subst, append_assoc, append-nil}
use Rattle.std.specs.List.{All}
use Rattle.std.proofs.lemmas.List.Elements.{All-append, All-nil}
use Rattle.std.proofs.lemmas.List.{map-append, take_more}
use Rattle.plan_model.specs.declared.plan.Plan.{Plan}
use Rattle.plan_text.specs.declared.word.Word.{Word}
use Rattle.plan_text.specs.Lines.{lines_text, spaced, word_text, IsLine, Line}
use Rattle.plan_text.specs.Printing.{Appends}
use Rattle.plan_text.specs.Texts.{in_order, sections_of, text_of, IsInRange}
use Rattle.plan_text.proofs.LineLaws.{lines_text-append}
use Rattle.plan_text.proofs.ReadLaws.{in_order-push}

-- the word and some numbers of a line have been written
pub record IsWrittenTo (w : Word) (old new : List ℕ) (ns : List ℕ) : Type 0 where
  pub joined : new ≡ old ++ (word_text w ++ spaced ns)
  pub below : All (λ n. n < 2 ^ 64) ns

pub nothing_appended : (old : List ℕ) → Appends old old []
nothing_appended old = record { joined = sym (append-nil old); are_lines = All-nil IsLine }

pub appended : (old mid new : List ℕ) (xs ys : List Line) → Appends old mid xs → Appends mid new ys → Appends old new (xs ++ ys)
appended old mid new xs ys a b = record {
  joined = b.joined ∙ ap (λ t. t ++ lines_text ys) a.joined ∙ append_assoc old (lines_text xs) (lines_text ys) ∙ ap (λ t. old ++ t) (sym (lines_text-append xs ys));
  are_lines = All-append IsLine xs ys a.are_lines b.are_lines;
}

-- one more row has been written
pub row_appended : {X : Type 0} (f : X → Line) (rows : List X) (i : ℕ) (d : X) (old mid new : List ℕ) → Appends old mid (map f (take i rows)) → i < length rows
    → Appends mid new (f (get_or rows i d) ∷ []) → Appends old new (map f (take (i + 1) rows))
row_appended f rows i d old mid new h lt row =
    subst (Appends old new) (sym (ap (map f) (take_more rows i d lt) ∙ map-append f (take i rows) (get_or rows i d ∷ [])))
    (appended old mid new (map f (take i rows)) (f (get_or rows i d) ∷ []) h row)

-- these sections have been written
pub record IsWritten (text : List ℕ) (gs : List (List Line)) : Type 0 where
  pub all : Appends [] text (in_order gs)

pub nothing_written : (text : List ℕ) → text ≡ [] → IsWritten text []
nothing_written text none = record { all = subst (λ t. Appends [] t []) (sym none) (nothing_appended []) }

pub written_on : (mid new : List ℕ) (gs : List (List Line)) (ls ks : List Line) → IsWritten mid gs → Appends mid new ls → ls ≡ ks → IsWritten new (gs ++ ks ∷ [])
written_on mid new gs ls ks h row same = record {
  all = subst (Appends [] new) (sym (in_order-push gs ks)) (appended [] mid new (in_order gs) ks h.all (subst (Appends mid new) same row));
}

pub written_text : (p : Plan) (text : List ℕ) → IsWritten text (sections_of p) → text ≡ text_of p
unfolding text_of
written_text p text h = h.all.joined

pub written_in_range : (p : Plan) (text : List ℕ) → IsWritten text (sections_of p) → IsInRange p
unfolding IsInRange
written_in_range p text h = h.all.are_lines
