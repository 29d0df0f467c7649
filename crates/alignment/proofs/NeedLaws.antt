-- What links by the numbers of their ends need at a number is what they need at its name.
use Rattle.std.proofs.Common.{◌≡◌, ℕ, ◌<◌, ◌==◌, ℤ, pos, ◌-ℤ◌, List, [], ◌∷◌, length, map, sym, ap, ◌∙◌, arith, cond, count_by, true}
use Rattle.std.specs.List.{AllByRecursion, Contains, range_with_len}
use Rattle.std.proofs.lemmas.List.{ext_get_or, get_or-map, length-map}
use Rattle.std.proofs.lemmas.List.Elements.{Contains-get_or}
use Rattle.std.proofs.lemmas.List.FromFn.{get_or-map-range_with_len, length-map-range_with_len}
use Rattle.plan_model.specs.Networks.{Terms, links_needed}
use Rattle.plan_model.proofs.NetworkLaws.{sum_by_map}
use Rattle.plan_model.proofs.SumLaws.{sum_same}
use Rattle.alignment.specs.Links.{need_at}
use Rattle.alignment.specs.Numbered.{name_by, number_by, AreNames}
use Rattle.alignment.specs.declared.links.Link.{Link}
use Rattle.alignment.proofs.NumberedLaws as numbered

module _ {P E L : Type 0} (t : Terms P E L) (told : (u v : P) → t.same u v ≡ true → u ≡ v) (itself : (v : P) → t.same v v ≡ true) (root : P) (names : List P) (are : AreNames t root names)
    (numbers : List Link) (links : List L) where
  -- as many ends have a number as have its name
  counted : (end : L → P) (number : Link → ℕ) → map number numbers ≡ map (λ l. number_by t names (end l)) links → AllByRecursion (λ l. Contains names (end l)) links
      → (k : ℕ) → k < length names → count_by (λ l. number l == k) numbers ≡ count_by (λ l. t.same (end l) (name_by root names k)) links
  counted end number same has k lt =
      sym (sum_by_map (λ n. cond {A = ℕ} (n == k) 1 0) number numbers)
      ∙ ap (count_by (λ n. n == k)) same
      ∙ sum_by_map (λ n. cond {A = ℕ} (n == k) 1 0) (λ l. number_by t names (end l)) links
      ∙ sum_same (λ l. cond {A = ℕ} (number_by t names (end l) == k) 1 0) (λ l. cond {A = ℕ} (t.same (end l) (name_by root names k)) 1 0) links (each links has)
    where
      each : (ls : List L) → AllByRecursion (λ l. Contains names (end l)) ls → AllByRecursion (λ l. cond {A = ℕ} (number_by t names (end l) == k) 1 0 ≡ cond {A = ℕ} (t.same (end l) (name_by root names k)) 1 0) ls
      each [] h = tt
      each (l ∷ ls) h =
          let s = numbered.stands_by t told itself root names (end l) h.0 in
          let same_end = sym (numbered.same_test t told itself root names are (number_by t names (end l)) k s.0 lt) ∙ ap (λ u. t.same u (name_by root names k)) s.1 in
          (ap (λ b. cond {A = ℕ} b 1 0) same_end, each ls h.1)

  module _ (tails : map (λ (l : Link). l.tail) numbers ≡ map (λ l. number_by t names (t.source l)) links) (heads : map (λ (l : Link). l.head) numbers ≡ map (λ l. number_by t names (t.target l)) links)
      (sources : AllByRecursion (λ l. Contains names (t.source l)) links) (targets : AllByRecursion (λ l. Contains names (t.target l)) links) where
    needed_at : (k : ℕ) → k < length names → need_at numbers k ≡ links_needed t links (name_by root names k)
    needed_at k lt =
        let ins = counted t.target (λ l. l.head) heads targets k lt in
        let outs = counted t.source (λ l. l.tail) tails sources k lt in
        λ i. pos (ins i) -ℤ pos (outs i)

    -- the needs of all points
    pub needs_by : (need : P → ℤ) → ((v : P) → Contains names v → need v ≡ links_needed t links v) → map (need_at numbers) (range_with_len 0 (length names)) ≡ map need names
    needs_by need is =
        let count = length-map-range_with_len (need_at numbers) 0 (length names) in
        ext_get_or (pos 0) (map (need_at numbers) (range_with_len 0 (length names))) (map need names) (count ∙ sym (length-map names need))
        (λ k lt.
        let below : k < length names = omega (arith, lt, count) in
        get_or-map-range_with_len (need_at numbers) 0 (length names) k k (pos 0) below (omega arith) ∙ needed_at k below
        ∙ sym (is (name_by root names k) (Contains-get_or names k root below))
        ∙ sym (get_or-map need names k root (pos 0) below))
