-- One link more along which marks spread.
use Rattle.std.proofs.Common.{◌≡◌, ℕ, suc, ◌+◌, ◌<◌, ◌≤◌, List, [], ◌∷◌, length, get_or, set, cond, not, Bool, true, false, count_by, refl, sym, ap, ◌∙◌, subst, arith, inl, inr, Result, Ok, Err, IfOk}
use Rattle.std.specs.Prelude.{MatchBool, IsTrue}
use Rattle.std.specs.List.{AllZip, Contains}
use Rattle.std.proofs.lemmas.List.{get_or-set_same, get_or-set_other, set_past, get_or_default, length-set}
use Rattle.std.proofs.lemmas.List.Sums.{sum_by-set}
use Rattle.std.proofs.lemmas.Bool.{cases_lt, cases_eq, false≢true}
use Rattle.graph_model.specs.Graphs.{IsNode, IsJoined, output_name}
use Rattle.graph_model.specs.Paths.{IsPathTo, IsLive}
use Rattle.graph_model.specs.declared.graph.Node.{Node}
use Rattle.graph_model.specs.declared.graph.Graph.{Graph}
use Rattle.graph_model.proofs.PathLaws.{first_or_later, at_tail}
use Rattle.graph_model.specs.Named.{IsNamed, uid_at}
use Rattle.topology.specs.Links.{source, target, no_link, AreLinks}
use Rattle.topology.specs.Blocks.{is_taken}
use Rattle.topology.specs.Marks.{AllLive, KeepsMarks, SpreadUpTo, IsSpread, SpreadsAlong}
use Rattle.topology.specs.Answers.{AreLive}
use Rattle.topology.specs.declared.ends.Link.{Link}
use Rattle.graph_model.proofs.NameFacts.{same_index, is_node, name_is, any_node}
use Rattle.topology.proofs.LinkFacts.{joined, link_of}

set_keeps : (marks : List Bool) (u v : ℕ) → is_taken marks v ≡ true → is_taken (set marks u true) v ≡ true
set_keeps marks u v t =
    elim (cases_eq v u) [
      | inl same ↦
          elim (cases_lt u (length marks)) [
            | inl inside ↦ rw (same, get_or-set_same marks u true false inside) refl
            | inr past ↦ rw (set_past marks u true past) t
          ]
      | inr other ↦ get_or-set_other marks u v true false other ∙ t
    ]

pub along_kept : (l : Link) (old new : List Bool) (r : Bool) → SpreadsAlong l old new r → KeepsMarks old new
along_kept l old new true s v t = subst (λ ms. is_taken ms v ≡ true) (sym s.2) (set_keeps old l.from v t)
along_kept l old new false s v t = subst (λ ms. is_taken ms v ≡ true) (sym s.0) t

pub along_fewer : (l : Link) (old new : List Bool) → l.from < length old → SpreadsAlong l old new true → count_by not new < count_by not old
along_fewer l old new lt s =
    let weight : Bool → ℕ = λ b. cond (not b) 1 0 in
    let one : weight (get_or old l.from false) ≡ weight false = ap weight s.1 in
    let sum = sum_by-set weight old l.from true false lt in
    subst (λ ms. count_by not ms < count_by not old) (sym s.2) (omega (arith, sum, one))

pub along_spread : (ls : List Link) (e : ℕ) (old new : List Bool) → SpreadsAlong (get_or ls e no_link) old new false → SpreadUpTo ls old e → SpreadUpTo ls new (e + 1)
along_spread ls e old new s before i lt =
    subst (λ ms. is_taken ms (target ls i) ≡ true → is_taken ms (source ls i) ≡ true) (sym s.0)
    (elim (cases_lt i e) [
      | inl earlier ↦ before i earlier
      | inr past ↦ (let here : i ≡ e = omega arith in rw here s.1)
    ])

pub along_count : (l : Link) (old new : List Bool) (r : Bool) → l.from < length old → SpreadsAlong l old new r → count_by not new ≤ count_by not old
along_count l old new true lt s = omega (arith, along_fewer l old new lt s)
along_count l old new false lt s = rw (s.0) (omega arith)

pub match_bool : (b : Bool) (P Q P' Q' : Type 0) → (P → P') → (Q → Q') → MatchBool b P Q → MatchBool b P' Q'
match_bool true P Q P' Q' f g m = f m
match_bool false P Q P' Q' f g m = g m

-- ---- live by paths
-- a source joined to a node of a path stands in a path with the same end
joined_before : (g : Graph) (u v : ℕ) → IsNode g u → IsJoined g u v → (o : ℕ) (us : List ℕ) → IsPathTo g o us → Contains (o ∷ us) v
    → (ws : List ℕ) × IsPathTo g o ws × Contains (o ∷ ws) u
joined_before g u v node join o [] path has =
    elim (first_or_later o v [] has) [
      | inl same ↦ (u ∷ [], (path, subst (IsJoined g u) (sym same) join, node), (1, omega arith, refl))
      | inr there ↦ (let l = there.1 in absurd (omega arith))
    ]
joined_before g u v node join o (x ∷ xs) path has =
    elim (first_or_later o v (x ∷ xs) has) [
      | inl same ↦ (u ∷ [], (path.0, subst (IsJoined g u) (sym same) join, node), (1, omega arith, refl))
      | inr there ↦
          (let more = joined_before g u v node join x xs path.2 there in
          (x ∷ more.0, (path.0, path.1, more.1), at_tail o u (x ∷ more.0) more.2))
    ]

live_source : (g : Graph) (u v : ℕ) → IsNode g u → IsJoined g u v → IsLive g v → IsLive g u
live_source g u v node join live = joined_before g u v node join (output_name g) live.0 live.1 live.2

module _ (g : Graph) (named : IsNamed g) (ls : List Link) (links : AreLinks g ls) where
  pub along_live : (e : ℕ) (old new : List Bool) (r : Bool) → e < length ls → SpreadsAlong (get_or ls e no_link) old new r → AllLive g old → AllLive g new
  along_live e old new false lt s live v t = live v (subst (λ ms. is_taken ms v ≡ true) s.0 t)
  along_live e old new true lt s live v t =
      elim (cases_eq v (source ls e)) [
        | inl same ↦
            (let after = live (target ls e) s.0 in
            subst (λ x. IsLive g (uid_at g x)) (sym same)
            (live_source g (uid_at g (source ls e)) (uid_at g (target ls e)) (is_node g named (source ls e) (links.within e lt).0) (joined g ls links e lt) after))
        | inr other ↦ live v (sym (get_or-set_other old (source ls e) v true false other) ∙ subst (λ ms. is_taken ms v ≡ true) s.2 t)
      ]

  module _ (marks : List Bool) (spread : IsSpread ls marks) where
    -- each node of that name has a mark
    abbrev IsMarked : ℕ → Type 0
    IsMarked w = (i : ℕ) → i < length g.nodes → uid_at g i ≡ w → is_taken marks i ≡ true

    marked_by : (i : ℕ) → i < length g.nodes → is_taken marks i ≡ true → IsMarked (uid_at g i)
    marked_by i lt t j lj same = ap (is_taken marks) (same_index g named j i lj lt same) ∙ t

    marked_source : (u w : ℕ) → IsJoined g u w → IsMarked w → IsMarked u
    marked_source u w join m =
        let e = link_of g ls links u w join in
        let within = links.within e.0 e.1 in
        let t = spread e.0 e.1 (m (target ls e.0) within.1 e.3) in
        subst IsMarked e.2 (marked_by (source ls e.0) within.0 t)

    marked_path : (w : ℕ) (us : List ℕ) → IsPathTo g w us → IsMarked w → (v : ℕ) → Contains (w ∷ us) v → IsMarked v
    marked_path w [] path m v has =
        elim (first_or_later w v [] has) [ inl same ↦ subst IsMarked same m | inr there ↦ (let l = there.1 in absurd (omega arith)) ]
    marked_path w (u ∷ us) path m v has =
        elim (first_or_later w v (u ∷ us) has) [
          | inl same ↦ subst IsMarked same m
          | inr there ↦ marked_path u us path.2 (marked_source u w path.1 m) v there
        ]

    -- where nothing is left to spread, each live node has a mark
    pub spread_all : (out : ℕ) → out < length g.nodes → uid_at g out ≡ output_name g → is_taken marks out ≡ true → (i : ℕ) → i < length g.nodes → IsLive g (uid_at g i) → is_taken marks i ≡ true
    spread_all out lt name t i li live =
        marked_path (output_name g) live.0 live.1 (subst IsMarked name (marked_by out lt t)) (uid_at g i) live.2 i li refl

zip_from : {A B : Type 0} (R : A → B → Type 0) (xs : List A) (ys : List B) → length xs ≡ length ys → ((i : ℕ) (d : A) (e : B) → i < length xs → R (get_or xs i d) (get_or ys i e)) → AllZip R xs ys
zip_from R [] [] same at = tt
zip_from R [] (y ∷ ys) same at = absurd (omega arith)
zip_from R (x ∷ xs) [] same at = absurd (omega arith)
zip_from R (x ∷ xs) (y ∷ ys) same at = (at 0 x y (omega arith), zip_from R xs ys (omega arith) (λ i d e lt. at (suc i) d e (omega arith)))

are_live : (g : Graph) → IsNamed g → (ls : List Link) → AreLinks g ls → (marks : List Bool) → length marks ≡ length g.nodes → AllLive g marks → IsSpread ls marks
    → (out : ℕ) → out < length g.nodes → uid_at g out ≡ output_name g → is_taken marks out ≡ true → AreLive g marks
are_live g named ls links marks len live spread out lt name t =
    zip_from (λ (n : Node) b. (IsTrue b → IsLive g n.uid.0) × (IsLive g n.uid.0 → IsTrue b)) g.nodes marks (sym len) (λ i d e li.
    let same : uid_at g i ≡ (get_or g.nodes i d).uid.0 = name_is g i li ∙ ap (λ (n : Node). n.uid.0) (get_or_default g.nodes i any_node d li) in
    let mark : get_or marks i e ≡ get_or marks i false = get_or_default marks i e false (omega arith) in (
      λ b. subst (IsLive g) same (live i (sym mark ∙ b)),
      λ is. mark ∙ spread_all g named ls links marks spread out lt name t i li (subst (IsLive g) (sym same) is),
    ))

-- ---- marks of a graph
pub record AreMarks (g : Graph) (marks : List Bool) : Type 0 where
  pub count : length marks ≡ length g.nodes
  pub out : (i : ℕ) × (i < length g.nodes) × (uid_at g i ≡ output_name g) × (is_taken marks i ≡ true)
  pub live : AllLive g marks

pub first_mark : (g : Graph) → IsNamed g → (marks : List Bool) (out : ℕ) → length marks ≡ length g.nodes → ((v : ℕ) → is_taken marks v ≡ false) → out < length g.nodes
    → uid_at g out ≡ output_name g → AreMarks g (set marks out true)
first_mark g named marks out len none lt name = record {
  count = length-set marks out true ∙ len;
  out = (out, lt, name, get_or-set_same marks out true false (omega arith));
  live = λ v t.
      elim (cases_eq v out) [
        | inl same ↦ ([], subst (IsNode g) name (is_node g named out lt), (0, omega arith, sym name ∙ ap (uid_at g) (sym same)))
        | inr other ↦ absurd (false≢true (sym (none v) ∙ sym (get_or-set_other marks out v true false other) ∙ t))
      ];
}

pub marks_kept : (g : Graph) (old new : List Bool) → AreMarks g old → length new ≡ length old → KeepsMarks old new → (AllLive g old → AllLive g new) → AreMarks g new
marks_kept g old new are len kept live = record {
  count = len ∙ are.count;
  out = (are.out.0, are.out.1, are.out.2, kept are.out.0 are.out.3);
  live = live are.live;
}

pub marks_are_live : (g : Graph) → IsNamed g → (ls : List Link) → AreLinks g ls → (marks : List Bool) → AreMarks g marks → IsSpread ls marks → AreLive g marks
marks_are_live g named ls links marks are spread = are_live g named ls links marks are.count are.live spread are.out.0 are.out.1 are.out.2 are.out.3

pub if_ok_same : {T E : Type 0} (P : T → Type 0) (x : T) (r : Result T E) → P x → IfOk r (λ y. y ≡ x) → IfOk r P
if_ok_same P x (Ok y) h is = subst P (sym is) h
if_ok_same P x (Err e) h is = is
