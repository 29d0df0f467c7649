-- What is written for a graph is read as that graph.
use Rattle.std.proofs.Common.{◌≡◌, ◌^◌, ◌<◌, ◌∙◌, ℕ, ℤ, pos, negsuc, suc, false, List, [], ◌∷◌, length, map, Some, Result, Ok, Err, refl, ap, arith, option_and_then, option_map}
use Rattle.std.specs.List.{All}
use Rattle.std.specs.Prelude.{IfOk}
use Rattle.std.specs.declared.alloc.AllocError.{AllocError}
use Rattle.std.specs.declared.alloc.Global.{Global}
use Rattle.std.specs.declared.vec.Vec.{Vec}
use Rattle.std.proofs.lemmas.Bool.{le-leb}
use Rattle.std.proofs.lemmas.List.{length-map}
use Rattle.std.proofs.lemmas.List.Elements.{All-head, All-tail}
use Rattle.serde_json.specs.Data.{Data, item}
use Rattle.serde_json.specs.Read.{of_items, of_json}
use Rattle.serde_json.specs.View.{items_of}
use Rattle.serde_json.specs.Written.{compact_text, has_float, items_outline, outline}
use Rattle.serde_json.proofs.Numbers.{number_of-decimal, number_of-negative}
use Rattle.serde_json.proofs.OnLiterals.{serde_json_on_literals}
use Rattle.graph_model.specs.Refusals.{onto}
use Rattle.graph_model.specs.Sound.{Fits}
use Rattle.graph_model.specs.declared.graph.Connection.{Connection}
use Rattle.graph_model.specs.declared.graph.Graph.{Graph}
use Rattle.graph_model.specs.declared.kind.Kind.{Kind}
use Rattle.graph_model.specs.declared.kind.Kind.TheVariants.{Input, Output, Gain, Mixer, Fir, Biquad, Limiter, Delay, Insert}
use Rattle.graph_model.specs.declared.member.Member.{Member}
use Rattle.graph_model.specs.declared.member.Member.TheVariants as member
use Rattle.graph_records.specs.Numbers.{signed_in, whole_of}
use Rattle.graph_records.specs.Entries.{each_from}
use Rattle.graph_records.specs.Rows.{connection_of, node_of}
use Rattle.graph_records.specs.Walk.{graph_of, walk}
use Rattle.graph_records.specs.Typed.{IsI32, IsTyped, IsTypedConnection, IsTypedKind, IsTypedNode, IsU32, IsU64}
use Rattle.graph_records.specs.Written.{connection_data, data_of, kind_data, node_data, signed_data, text_of, unsigned_data}
use Rattle.graph_records.specs.declared.fault.Part.TheVariants as part
use Rattle.graph_records.specs.declared.fault.Place.{Place}
use Rattle.graph_records.specs.declared.fault.RecordFault.{RecordFault}
use Rattle.graph_records.proofs.ListFacts.{list_of-items_of, walk_some}
use Rattle.graph_records.proofs.PlainTextFacts.{ArePlain, IsPlain, plain_no_float, plain_read, plain_utf8}

-- ---- the walk over what is written

whole_signed : (z : ℤ) → whole_of (signed_data z) ≡ Some z
whole_signed (pos n) = refl
whole_signed (negsuc n) = refl

signed_some : (place : Place) (z : ℤ) → IsI32 z → signed_in place (Some z) ≡ Ok z
signed_some place (pos n) fit = rw (le-leb n 2147483647 fit) refl
signed_some place (negsuc n) fit = rw (le-leb n 2147483647 fit) refl

signed_back : (place : Place) (z : ℤ) → IsI32 z → signed_in place (whole_of (signed_data z)) ≡ Ok z
signed_back place z fit = ap (signed_in place) (whole_signed z) ∙ signed_some place z fit

each_back : {A : Type 0} (P : A → Type 0) (f : ℕ → Data → Result A RecordFault) (g : A → Data) (i : ℕ) (xs : List A)
    → ((k : ℕ) (x : A) → P x → f k (g x) ≡ Ok x) → All P xs → each_from f i (map g xs) ≡ Ok xs
each_back P f g i [] back fit = refl
each_back P f g i (x ∷ xs) back fit = rw (back i x (All-head P x xs fit)) (ap (onto x) (each_back P f g (suc i) xs back (All-tail P x xs fit)))

numbers_back : (place : Place) (zs : List ℤ) → All IsI32 zs → each_from (λ _ d. signed_in place (whole_of d)) 0 (map signed_data zs) ≡ Ok zs
numbers_back place zs fit = each_back IsI32 (λ _ d. signed_in place (whole_of d)) signed_data 0 zs (λ k z f. signed_back place z f) fit

abbrev at : ℕ → Member → Place
at i m = record { part = part.Filter; index = i; member = m }

node_back : (i uid : ℕ) (k : Kind) → IsU32 uid → IsTypedKind k → node_of i (kind_data uid k) ≡ Ok (record { uid = record { 0 = uid }; kind = k })
unfolding serde_json_on_literals
node_back i uid (Input channels) low fit = rw (le-leb uid 4294967295 low, le-leb channels 4294967295 fit) refl
node_back i uid (Output channels) low fit = rw (le-leb uid 4294967295 low, le-leb channels 4294967295 fit) refl
node_back i uid (Gain channels gain) low fit =
    rw (le-leb uid 4294967295 low, le-leb channels 4294967295 fit.0) (rw (whole_signed gain) (rw (signed_some (at i member.Gain) gain fit.1) refl))
node_back i uid (Mixer ins outs gains) low fit =
    rw (le-leb uid 4294967295 low, le-leb ins 4294967295 fit.0, le-leb outs 4294967295 fit.1) (rw (list_of-items_of (map signed_data gains)) (rw (numbers_back (at i member.Gains) gains fit.2) refl))
node_back i uid (Fir channels taps shift latency) low fit =
    rw (le-leb uid 4294967295 low, le-leb channels 4294967295 fit.0, le-leb shift 4294967295 fit.2, le-leb latency 4294967295 fit.3)
    (rw (list_of-items_of (map signed_data taps)) (rw (numbers_back (at i member.Taps) taps fit.1) refl))
node_back i uid (Biquad channels b0 b1 b2 a1 a2 shift bits) low fit =
    rw (le-leb uid 4294967295 low, le-leb channels 4294967295 fit.0, le-leb shift 4294967295 fit.6, le-leb bits 4294967295 fit.7)
    (rw (whole_signed b0, whole_signed b1, whole_signed b2, whole_signed a1, whole_signed a2)
    (rw (
      signed_some (at i member.B0) b0 fit.1,
      signed_some (at i member.B1) b1 fit.2,
      signed_some (at i member.B2) b2 fit.3,
      signed_some (at i member.A1) a1 fit.4,
      signed_some (at i member.A2) a2 fit.5,
    ) refl))
node_back i uid (Limiter channels threshold lookahead) low fit =
    rw (le-leb uid 4294967295 low, le-leb channels 4294967295 fit.0, le-leb threshold 18446744073709551615 fit.1, le-leb lookahead 4294967295 fit.2) refl
node_back i uid (Delay channels samples) low fit = rw (le-leb uid 4294967295 low, le-leb channels 4294967295 fit.0, le-leb samples 4294967295 fit.1) refl
node_back i uid (Insert channels samples) low fit = rw (le-leb uid 4294967295 low, le-leb channels 4294967295 fit.0, le-leb samples 4294967295 fit.1) refl

connection_back : (i : ℕ) (c : Connection) → IsTypedConnection c → connection_of i (connection_data c) ≡ Ok c
unfolding serde_json_on_literals
connection_back i c fit =
    rw (le-leb c.src.0 4294967295 fit.0, le-leb c.src_channel 4294967295 fit.1, le-leb c.dst.0 4294967295 fit.2, le-leb c.dst_channel 4294967295 fit.3) refl

graph_back : (g : Graph) → Fits g → IsTyped g → graph_of (data_of g) ≡ Ok g
unfolding serde_json_on_literals
graph_back g few typed =
    rw (
      list_of-items_of (map node_data g.nodes),
      length-map g.nodes node_data,
      le-leb (length g.nodes) 512 few.0,
      list_of-items_of (map connection_data g.connections),
      length-map g.connections connection_data,
      le-leb (length g.connections) 8192 few.1,
    )
    (rw (
      each_back IsTypedNode node_of node_data 0 g.nodes (λ k n f. node_back k n.uid.0 n.kind f.0 f.1) typed.nodes,
      each_back IsTypedConnection connection_of connection_data 0 g.connections connection_back typed.connections,
    ) refl)

-- ---- what is written is plain

wide : (n : ℕ) → IsU32 n → n < 2 ^ 64
wide n h = omega arith

wider : (n : ℕ) → IsU64 n → n < 2 ^ 64
wider n h = omega arith

signed_plain : (k : ℕ) (z : ℤ) → IsI32 z → IsPlain (signed_data z) k
signed_plain k (pos n) h = omega arith
signed_plain k (negsuc n) h = omega arith

list_plain : {A : Type 0} (P : A → Type 0) (f : A → Data) (k : ℕ) (xs : List A) → ((x : A) → P x → IsPlain (f x) k) → All P xs → ArePlain (items_of (map f xs)) k
list_plain P f k [] each h = tt
list_plain P f k (x ∷ xs) each h = (each x (All-head P x xs h), list_plain P f k xs each (All-tail P x xs h))

numbers_plain : (k : ℕ) (zs : List ℤ) → All IsI32 zs → ArePlain (items_of (map signed_data zs)) k
numbers_plain k zs h = list_plain IsI32 signed_data k zs (signed_plain k) h

kind_plain : (uid : ℕ) (k : Kind) → IsU32 uid → IsTypedKind k → IsPlain (kind_data uid k) 2
kind_plain uid (Input channels) low h = (refl, wide channels h, (refl, refl, (refl, wide uid low, tt)))
kind_plain uid (Output channels) low h = (refl, wide channels h, (refl, refl, (refl, wide uid low, tt)))
kind_plain uid (Gain channels gain) low h = (refl, wide channels h.0, (refl, signed_plain 1 gain h.1, (refl, refl, (refl, wide uid low, tt))))
kind_plain uid (Mixer ins outs gains) low h =
    (refl, numbers_plain 0 gains h.2, (refl, wide ins h.0, (refl, refl, (refl, wide outs h.1, (refl, wide uid low, tt)))))
kind_plain uid (Fir channels taps shift latency) low h =
    (refl, wide channels h.0, (refl, refl, (refl, wide latency h.3, (refl, wide shift h.2, (refl, numbers_plain 0 taps h.1, (refl, wide uid low, tt))))))
kind_plain uid (Biquad channels b0 b1 b2 a1 a2 shift bits) low h = (
  refl,
  signed_plain 1 a1 h.4,
  (
    refl,
    signed_plain 1 a2 h.5,
    (
      refl,
      signed_plain 1 b0 h.1,
      (
        refl,
        signed_plain 1 b1 h.2,
        (
          refl,
          signed_plain 1 b2 h.3,
          (refl, wide bits h.7, (refl, wide channels h.0, (refl, refl, (refl, wide shift h.6, (refl, wide uid low, tt))))),
        ),
      ),
    ),
  ),
)
kind_plain uid (Limiter channels threshold lookahead) low h =
    (refl, wide channels h.0, (refl, refl, (refl, wide lookahead h.2, (refl, wider threshold h.1, (refl, wide uid low, tt)))))
kind_plain uid (Delay channels samples) low h = (refl, wide channels h.0, (refl, refl, (refl, wide samples h.1, (refl, wide uid low, tt))))
kind_plain uid (Insert channels samples) low h = (refl, wide channels h.0, (refl, refl, (refl, wide samples h.1, (refl, wide uid low, tt))))

connection_plain : (c : Connection) → IsTypedConnection c → IsPlain (connection_data c) 2
connection_plain c h = (refl, wide c.dst_channel h.3, (refl, wide c.dst.0 h.2, (refl, wide c.src_channel h.1, (refl, wide c.src.0 h.0, tt))))

graph_plain : (g : Graph) → IsTyped g → IsPlain (data_of g) 5
graph_plain g typed = (
  refl,
  (
    refl,
    list_plain IsTypedConnection connection_data 2 g.connections connection_plain typed.connections,
    (refl, list_plain IsTypedNode node_data 2 g.nodes (λ n h. kind_plain n.uid.0 n.kind h.0 h.1) typed.nodes, tt),
  ),
  tt,
)

-- ---- what is written is read as the same data

unsigned_kept : (n : ℕ) → n < 2 ^ 64 → of_json (outline (unsigned_data n)) ≡ Some (unsigned_data n)
unsigned_kept n h = rw (number_of-decimal n h) refl

signed_kept : (z : ℤ) → IsI32 z → of_json (outline (signed_data z)) ≡ Some (signed_data z)
signed_kept (pos n) h = rw (number_of-decimal n (omega arith)) refl
signed_kept (negsuc n) h = rw (number_of-negative n (omega arith)) refl

list_kept : {A : Type 0} (P : A → Type 0) (f : A → Data) (xs : List A) → ((x : A) → P x → of_json (outline (f x)) ≡ Some (f x)) → All P xs
    → of_items (items_outline (items_of (map f xs))) ≡ Some (items_of (map f xs))
list_kept P f [] each h = refl
list_kept P f (x ∷ xs) each h =
    ap (option_and_then (λ d. option_map (item d) (of_items (items_outline (items_of (map f xs)))))) (each x (All-head P x xs h))
    ∙ ap (option_map (item (f x))) (list_kept P f xs each (All-tail P x xs h))

numbers_kept : (zs : List ℤ) → All IsI32 zs → of_items (items_outline (items_of (map signed_data zs))) ≡ Some (items_of (map signed_data zs))
numbers_kept zs h = list_kept IsI32 signed_data zs signed_kept h

kind_kept : (uid : ℕ) (k : Kind) → IsU32 uid → IsTypedKind k → of_json (outline (kind_data uid k)) ≡ Some (kind_data uid k)
kind_kept uid (Input channels) low h = rw (number_of-decimal channels (wide channels h), number_of-decimal uid (wide uid low)) refl
kind_kept uid (Output channels) low h = rw (number_of-decimal channels (wide channels h), number_of-decimal uid (wide uid low)) refl
kind_kept uid (Gain channels gain) low h = rw (number_of-decimal channels (wide channels h.0), signed_kept gain h.1, number_of-decimal uid (wide uid low)) refl
kind_kept uid (Mixer ins outs gains) low h =
    rw (numbers_kept gains h.2, number_of-decimal ins (wide ins h.0), number_of-decimal outs (wide outs h.1), number_of-decimal uid (wide uid low)) refl
kind_kept uid (Fir channels taps shift latency) low h =
    rw (
      number_of-decimal channels (wide channels h.0),
      number_of-decimal latency (wide latency h.3),
      number_of-decimal shift (wide shift h.2),
      numbers_kept taps h.1,
      number_of-decimal uid (wide uid low),
    ) refl
kind_kept uid (Biquad channels b0 b1 b2 a1 a2 shift bits) low h =
    rw (
      signed_kept a1 h.4,
      signed_kept a2 h.5,
      signed_kept b0 h.1,
      signed_kept b1 h.2,
      signed_kept b2 h.3,
      number_of-decimal bits (wide bits h.7),
      number_of-decimal channels (wide channels h.0),
      number_of-decimal shift (wide shift h.6),
      number_of-decimal uid (wide uid low),
    ) refl
kind_kept uid (Limiter channels threshold lookahead) low h =
    rw (
      number_of-decimal channels (wide channels h.0),
      number_of-decimal lookahead (wide lookahead h.2),
      number_of-decimal threshold (wider threshold h.1),
      number_of-decimal uid (wide uid low),
    ) refl
kind_kept uid (Delay channels samples) low h =
    rw (number_of-decimal channels (wide channels h.0), number_of-decimal samples (wide samples h.1), number_of-decimal uid (wide uid low)) refl
kind_kept uid (Insert channels samples) low h =
    rw (number_of-decimal channels (wide channels h.0), number_of-decimal samples (wide samples h.1), number_of-decimal uid (wide uid low)) refl

connection_kept : (c : Connection) → IsTypedConnection c → of_json (outline (connection_data c)) ≡ Some (connection_data c)
connection_kept c h =
    rw (
      number_of-decimal c.dst_channel (wide c.dst_channel h.3),
      number_of-decimal c.dst.0 (wide c.dst.0 h.2),
      number_of-decimal c.src_channel (wide c.src_channel h.1),
      number_of-decimal c.src.0 (wide c.src.0 h.0),
    ) refl

graph_kept : (g : Graph) → IsTyped g → of_json (outline (data_of g)) ≡ Some (data_of g)
graph_kept g typed =
    rw (
      list_kept IsTypedConnection connection_data g.connections connection_kept typed.connections,
      list_kept IsTypedNode node_data g.nodes (λ n h. kind_kept n.uid.0 n.kind h.0 h.1) typed.nodes,
    ) refl

-- ---- the whole

pub written_no_float : (g : Graph) → IsTyped g → has_float (data_of g) ≡ false
written_no_float g typed = plain_no_float (data_of g) 5 (graph_plain g typed)

pub written_back : (g : Graph) → Fits g → IsTyped g → walk (text_of g) ≡ Ok g
unfolding text_of
written_back g few typed =
    walk_some (compact_text (data_of g)) (data_of g) (plain_utf8 (data_of g) 5 (graph_plain g typed))
    (plain_read (data_of g) 5 (graph_plain g typed) (omega arith) (graph_kept g typed)) ∙ graph_back g few typed

-- ---- of the bytes that the call gives

pub text_written : (g : Graph) (d : Data) (r : Result (Vec ℕ Global) AllocError) → d ≡ data_of g → IsTyped g
    → IfOk r (λ b. has_float d ≡ false → b.items ≡ compact_text d) → IfOk r (λ b. b.items ≡ text_of g)
unfolding text_of
text_written g d (Ok b) is typed text = text (ap has_float is ∙ written_no_float g typed) ∙ ap compact_text is
text_written g d (Err e) is typed text = tt

pub text_read_back : (g : Graph) (r : Result (Vec ℕ Global) AllocError) → Fits g → IsTyped g → IfOk r (λ b. b.items ≡ text_of g) → IfOk r (λ b. walk b.items ≡ Ok g)
text_read_back g (Ok b) few typed text = ap walk text ∙ written_back g few typed
text_read_back g (Err e) few typed text = tt
