-- How large the graph is that the walk gives.
use Rattle.std.proofs.Common.{◌≡◌, ℕ, suc, ◌≤◌, List, [], ◌∷◌, length, refl, ap, ◌∙◌, Bool, true, false, Result, Ok, Err, Option, Some, None, if◌then◌else◌, pos, arith}
use Rattle.std.specs.Prelude.{nat_le, is_some}
use Rattle.std.proofs.lemmas.Bool.{leb-true}
use Rattle.serde_json.specs.Data.{Data}
use Rattle.serde_json.specs.Find.{get}
use Rattle.graph_model.specs.Members.{name_of}
use Rattle.graph_model.specs.Refusals.{Gives, and_then, onto}
use Rattle.graph_model.specs.declared.refused.Refused.{Refused}
use Rattle.std.specs.Prelude.{IfOk}
use Rattle.graph_model.specs.Sound.{Fits}
use Rattle.graph_model.specs.declared.graph.Connection.{Connection}
use Rattle.graph_model.specs.declared.graph.Graph.{Graph}
use Rattle.graph_model.specs.declared.graph.Node.{Node}
use Rattle.graph_model.specs.declared.member.Member.{Member}
use Rattle.graph_model.specs.declared.member.Member.TheVariants as member
use Rattle.graph_records.specs.Entries.{Record, array_at, each_from, limited, list_in, place_of}
use Rattle.graph_records.specs.Rows.{connection_of, node_of}
use Rattle.graph_records.specs.Walk.{connections_in, graph_in, reading, records_of, top, walk, walk_of}
use Rattle.graph_records.specs.declared.fault.Place.{Place}
use Rattle.graph_records.specs.declared.fault.RecordFault.{RecordFault}
use Rattle.graph_records.specs.declared.fault.RecordFault.TheVariants.{Limit}

-- where a step has an answer, so have its parts
pub before_it : {A B : Type 0} (f : A → Result B RecordFault) (r : Result A RecordFault) (b : B) → and_then f r ≡ Ok b → (a : A) × (r ≡ Ok a) × (f a ≡ Ok b)
before_it f (Ok a) b h = (a, refl, h)
before_it f (Err e) b h = absurd (let no : ⊥ = cc in no)

length-onto : {A : Type 0} (x : A) (r : Result (List A) RecordFault) (xs : List A) → onto x r ≡ Ok xs → (ys : List A) × (r ≡ Ok ys) × (xs ≡ x ∷ ys)
length-onto x (Ok ys) xs h = (ys, refl, cc)
length-onto x (Err e) xs h = absurd (let no : ⊥ = cc in no)

-- as many answers as values
pub length-each_from : {A : Type 0} (f : ℕ → Data → Result A RecordFault) (i : ℕ) (ds : List Data) (xs : List A) → each_from f i ds ≡ Ok xs → length xs ≡ length ds
length-each_from f i [] xs h = let e : xs ≡ [] = cc in ap length e
length-each_from f i (d ∷ ds) xs h =
    let (x, _, later) = before_it (λ y. onto y (each_from f (suc i) ds)) (f i d) xs h in
    let (ys, rest, is) = length-onto x (each_from f (suc i) ds) xs later in
    ap length is ∙ ap suc (length-each_from f (suc i) ds ys rest)

limited-le : (place : Place) (most : ℕ) (ds es : List Data) → limited place most ds ≡ Ok es → length es ≤ most
limited-le place most ds es h = go (nat_le (length ds) most) refl h
  where
    go : (b : Bool) → nat_le (length ds) most ≡ b → (if b then Ok ds else Err (Limit place (pos (length ds)))) ≡ Ok es → length es ≤ most
    go true t k = let same : ds ≡ es = cc in rw (← same) (leb-true _ _ t)
    go false t k = absurd (let no : ⊥ = cc in no)

pub length-list_in : (most : ℕ) (r : Record) (m : Member) (ds : List Data) → list_in most r m ≡ Ok ds → length ds ≤ most
length-list_in most r m ds h = let (all, _, few) = before_it (limited (place_of r m) most) (array_at r m) ds h in limited-le (place_of r m) most all ds few

length-connections_in : (r : Record) (ds : List Data) → connections_in r ≡ Ok ds → length ds ≤ 8192
length-connections_in r ds h = go (is_some (get (name_of member.Connection) r.value)) h
  where
    go : (b : Bool) → (if b then list_in 8192 r member.Connection else Ok []) ≡ Ok ds → length ds ≤ 8192
    go true k = length-list_in 8192 r member.Connection ds k
    go false k = let none : ds ≡ [] = cc in rw none (omega arith)

graph_of_lists : List Node → List Connection → Result Graph RecordFault
graph_of_lists nodes connections = Ok (record { nodes = nodes; connections = connections })

pub graph_fits : (d : Data) (g : Graph) → graph_in d ≡ Ok g → Fits g
unfolding graph_of_lists
graph_fits d g h =
    let (filters, few, after_filters) = before_it (λ filters. and_then (λ links. and_then (λ nodes. and_then (graph_of_lists nodes)
    (each_from connection_of 0 links)) (each_from node_of 0 filters)) (connections_in (top d))) (list_in 512 (top d) member.Filter) g h in
    let (links, few_links, after_links) = before_it (λ links. and_then (λ nodes. and_then (graph_of_lists nodes)
    (each_from connection_of 0 links)) (each_from node_of 0 filters)) (connections_in (top d)) g after_filters in
    let (nodes, read, after_nodes) = before_it (λ nodes. and_then (graph_of_lists nodes) (each_from connection_of 0 links)) (each_from node_of 0 filters) g after_links in
    let (connections, read_links, last) = before_it (graph_of_lists nodes) (each_from connection_of 0 links) g after_nodes in
    let is : record { nodes = nodes; connections = connections } ≡ g = cc in
    rw (← is) (
      rw (length-each_from node_of 0 filters nodes read) (length-list_in 512 (top d) member.Filter filters few),
      rw (length-each_from connection_of 0 links connections read_links) (length-connections_in (top d) links few_links),
    )

pub walk_fits : (bytes : List ℕ) (g : Graph) → walk bytes ≡ Ok g → Fits g
unfolding walk
walk_fits bytes g h = go (reading bytes) h
  where
    go : (o : Option Data) → walk_of o ≡ Ok g → Fits g
    go None k = absurd (let no : ⊥ = cc in no)
    go (Some d) k = let (records, _, later) = before_it graph_in (records_of d) g k in graph_fits records g later

pub gives_fitting : (d : Data) (r : Result Graph (Refused RecordFault)) → Gives (graph_in d) r → IfOk r (λ g. Fits g)
gives_fitting d (Ok g) h = graph_fits d g h
gives_fitting d (Err e) h = tt
