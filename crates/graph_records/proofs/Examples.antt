-- The definitions at small records and graphs, by computation.
use Rattle.std.proofs.Common.{◌≡◌, ℕ, List, [], ◌∷◌, ◌++◌, codes, ℤ, pos, negsuc, refl, Result, Ok, Err}
use Rattle.std.specs.Fmt.{digits}
use Rattle.std.specs.Str.{is_utf8, chars}
use Rattle.serde_json.proofs.OnLiterals.{serde_json_on_literals}
use Rattle.json.specs.Print.{escape_byte}
use Rattle.graph_model.specs.declared.graph.Graph.{Graph}
use Rattle.graph_model.specs.declared.kind.Kind.TheVariants.{Input, Output, Gain, Mixer, Fir, Limiter}
use Rattle.graph_model.specs.declared.member.Member.{Member}
use Rattle.graph_model.specs.declared.member.Member.TheVariants as member
use Rattle.graph_model.proofs.Examples.{node, joined}
use Rattle.graph_records.specs.FaultTexts.{place_text}
use Rattle.graph_records.specs.Walk.{walk}
use Rattle.graph_records.specs.Written.{text_of}
use Rattle.graph_records.specs.declared.fault.Part.{Part}
use Rattle.graph_records.specs.declared.fault.Part.TheVariants.{Top, Filter, Link}
use Rattle.graph_records.specs.declared.fault.Place.{Place}
use Rattle.graph_records.specs.declared.fault.RecordFault.{RecordFault}
use Rattle.graph_records.specs.declared.fault.RecordFault.TheVariants.{Text, Shape, Limit}

abbrev place : Part → ℕ → Member → Place
place p i m = record { part = p; index = i; member = m }

-- the text of these records of nodes, without connections
abbrev text_with : List ℕ → List ℕ
text_with nodes = codes "{\"FILTERGRAPH\":{\"FILTER\":[" ++ nodes ++ codes "]}}"

-- ---- graphs that are read

-- a straight connection
abbrev straight : Graph
straight = record { nodes = node 1 (Input 1) ∷ node 2 (Output 1) ∷ []; connections = joined 1 0 2 0 ∷ [] }

abbrev straight_text : List ℕ
straight_text = codes "{\"FILTERGRAPH\":{\"CONNECTION\":[{\"dstChannel\":0,\"dstFilter\":2,\"srcChannel\":0,\"srcFilter\":1}],\"FILTER\":[{\"channels\":1,\"kind\":\"input\",\"uid\":1},{\"channels\":1,\"kind\":\"output\",\"uid\":2}]}}"

straight_is_read : walk straight_text ≡ Ok straight
unfolding walk serde_json_on_literals is_utf8 chars
straight_is_read = refl

straight_is_written : text_of straight ≡ straight_text
unfolding text_of digits escape_byte
straight_is_written = refl

-- an absent list of connections is empty, other members are ignored, and the last of equal names counts
absent_connections : walk (text_with (codes "{\"uid\":7,\"uid\":1,\"kind\":\"input\",\"channels\":2,\"gain\":null}")) ≡ Ok (record { nodes = node 1 (Input 2) ∷ []; connections = [] })
unfolding walk serde_json_on_literals is_utf8 chars
absent_connections = refl

one_of_each_list : walk (text_with (codes "{\"uid\":3,\"kind\":\"fir\",\"channels\":1,\"taps\":[1,-2],\"shift\":0,\"latency\":1},{\"uid\":4,\"kind\":\"mixer\",\"ins\":0,\"outs\":9,\"gains\":[]}"))
    ≡ Ok (record { nodes = node 3 (Fir 1 (pos 1 ∷ negsuc 1 ∷ []) 0 1) ∷ node 4 (Mixer 0 9 []) ∷ []; connections = [] })
unfolding walk serde_json_on_literals is_utf8 chars
one_of_each_list = refl

least_gain_and_greatest_threshold :
    walk (text_with (codes "{\"uid\":0,\"kind\":\"gain\",\"channels\":1,\"gain\":-2147483648},{\"uid\":0,\"kind\":\"limiter\",\"channels\":1,\"threshold\":18446744073709551615,\"lookahead\":2}"))
    ≡ Ok (record { nodes = node 0 (Gain 1 (negsuc 2147483647)) ∷ node 0 (Limiter 1 18446744073709551615 2) ∷ []; connections = [] })
unfolding walk serde_json_on_literals is_utf8 chars
least_gain_and_greatest_threshold = refl

-- ---- faults

no_text : walk (codes "{") ≡ Err Text
unfolding walk serde_json_on_literals is_utf8 chars
no_text = refl

no_utf8 : walk (34 ∷ 255 ∷ 34 ∷ []) ≡ Err Text
unfolding walk serde_json_on_literals is_utf8 chars
no_utf8 = refl

no_graph : walk (codes "{\"FILTERGRAPH\":[]}") ≡ Err (Shape (place Top 0 member.Graph))
unfolding walk serde_json_on_literals is_utf8 chars
no_graph = refl

null_connections : walk (codes "{\"FILTERGRAPH\":{\"FILTER\":[1],\"CONNECTION\":null}}") ≡ Err (Shape (place Top 0 member.Connection))
unfolding walk serde_json_on_literals is_utf8 chars
null_connections = refl

nodes_before_connections : walk (codes "{\"FILTERGRAPH\":{\"CONNECTION\":[1],\"FILTER\":[2]}}") ≡ Err (Shape (place Filter 0 member.Item))
unfolding walk serde_json_on_literals is_utf8 chars
nodes_before_connections = refl

unknown_kind_at_the_second : walk (text_with (codes "{\"uid\":1,\"kind\":\"input\",\"channels\":1},{\"uid\":2,\"kind\":\"reverb\"}")) ≡ Err (Shape (place Filter 1 member.Kind))
unfolding walk serde_json_on_literals is_utf8 chars
unknown_kind_at_the_second = refl

uid_below_zero : walk (text_with (codes "{\"uid\":-1,\"kind\":\"reverb\"}")) ≡ Err (Limit (place Filter 0 member.Uid) (negsuc 0))
unfolding walk serde_json_on_literals is_utf8 chars
uid_below_zero = refl

uid_of_33_bits : walk (text_with (codes "{\"uid\":4294967296,\"kind\":\"input\",\"channels\":1}")) ≡ Err (Limit (place Filter 0 member.Uid) (pos 4294967296))
unfolding walk serde_json_on_literals is_utf8 chars
uid_of_33_bits = refl

threshold_below_zero : walk (text_with (codes "{\"uid\":1,\"kind\":\"limiter\",\"channels\":1,\"threshold\":-5}")) ≡ Err (Limit (place Filter 0 member.Threshold) (negsuc 4))
unfolding walk serde_json_on_literals is_utf8 chars
threshold_below_zero = refl

first_bad_tap : walk (text_with (codes "{\"uid\":1,\"kind\":\"fir\",\"channels\":1,\"taps\":[0,2147483648,null]}")) ≡ Err (Limit (place Filter 0 member.Taps) (pos 2147483648))
unfolding walk serde_json_on_literals is_utf8 chars
first_bad_tap = refl

missing_destination : walk (codes "{\"FILTERGRAPH\":{\"FILTER\":[],\"CONNECTION\":[{\"srcFilter\":1,\"srcChannel\":0,\"dstChannel\":0}]}}")
    ≡ Err (Shape (place Link 0 member.DstFilter))
unfolding walk serde_json_on_literals is_utf8 chars
missing_destination = refl

-- ---- other answers are refused

shape_or_limit : (r : Result Graph RecordFault) (p q : Place) (got : ℤ) → r ≡ Err (Limit q got) → r ≡ Err (Shape p) → ⊥
shape_or_limit r p q got is other = cc

uid_below_zero_is_no_shape : walk (text_with (codes "{\"uid\":-1,\"kind\":\"reverb\"}")) ≡ Err (Shape (place Filter 0 member.Uid)) → ⊥
uid_below_zero_is_no_shape = shape_or_limit _ (place Filter 0 member.Uid) (place Filter 0 member.Uid) (negsuc 0) uid_below_zero

one_graph : (r : Result Graph RecordFault) (g : Graph) (f : RecordFault) → r ≡ Ok g → r ≡ Err f → ⊥
one_graph r g f is other = cc

straight_is_no_fault : (f : RecordFault) → walk straight_text ≡ Err f → ⊥
straight_is_no_fault f = one_graph (walk straight_text) straight f straight_is_read

-- ---- texts

text_of_a_place : place_text (place Link 12 member.DstFilter) ≡ codes "connection 12 dstFilter"
unfolding digits
text_of_a_place = refl

text_of_a_record : place_text (place Filter 0 member.Item) ≡ codes "filter 0 record"
unfolding digits
text_of_a_record = refl
