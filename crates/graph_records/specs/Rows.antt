-- The records of nodes and connections: each one's members, in the order in which they are read.
use Rattle.std.specs.Prelude.{ℕ, List, codes, if◌then◌else◌, option_and_then, Result, Ok, Err}
use Rattle.std.specs.Str.{bytes_eq}
use Rattle.serde_json.specs.Data.{Data}
use Rattle.serde_json.specs.Find.{as_str, get}
use Rattle.graph_model.specs.Members.{name_of}
use Rattle.graph_model.specs.declared.graph.Connection.{Connection}
use Rattle.graph_model.specs.declared.graph.Node.{Node}
use Rattle.graph_model.specs.declared.kind.Kind.{Kind}
use Rattle.graph_model.specs.declared.kind.Kind.TheVariants.{Input, Output, Gain, Mixer, Fir, Biquad, Limiter, Delay, Insert}
use Rattle.graph_model.specs.declared.member.Member.TheVariants as member
use Rattle.graph_records.specs.Entries.{Record, taking, place_of, or_shape, object_at, u32_at, u64_at, i32_at, i32s_at}
use Rattle.graph_records.specs.declared.fault.Part.TheVariants as part
use Rattle.graph_records.specs.declared.fault.RecordFault.{RecordFault}
use Rattle.graph_records.specs.declared.fault.RecordFault.TheVariants.{Shape}

-- ---- the row of each kind

abbrev pub input_row : Record → Result Kind RecordFault
input_row r = taking (u32_at r member.Channels) (λ channels. Ok (Input channels))

abbrev pub output_row : Record → Result Kind RecordFault
output_row r = taking (u32_at r member.Channels) (λ channels. Ok (Output channels))

abbrev pub gain_row : Record → Result Kind RecordFault
gain_row r = taking (u32_at r member.Channels) (λ channels. taking (i32_at r member.Gain) (λ gain. Ok (Gain channels gain)))

abbrev pub mixer_row : Record → Result Kind RecordFault
mixer_row r = taking (u32_at r member.Ins) (λ ins. taking (u32_at r member.Outs) (λ outs.
    taking (i32s_at r member.Gains) (λ gains. Ok (Mixer ins outs gains))))

abbrev pub fir_row : Record → Result Kind RecordFault
fir_row r = taking (u32_at r member.Channels) (λ channels. taking (i32s_at r member.Taps) (λ taps.
    taking (u32_at r member.Shift) (λ shift. taking (u32_at r member.Latency) (λ latency. Ok (Fir channels taps shift latency)))))

abbrev pub biquad_row : Record → Result Kind RecordFault
biquad_row r = taking (u32_at r member.Channels) (λ channels. taking (i32_at r member.B0) (λ b0. taking (i32_at r member.B1) (λ b1.
    taking (i32_at r member.B2) (λ b2. taking (i32_at r member.A1) (λ a1. taking (i32_at r member.A2) (λ a2.
    taking (u32_at r member.Shift) (λ shift. taking (u32_at r member.Bits) (λ bits. Ok (Biquad channels b0 b1 b2 a1 a2 shift bits)))))))))

abbrev pub limiter_row : Record → Result Kind RecordFault
limiter_row r = taking (u32_at r member.Channels) (λ channels. taking (u64_at r member.Threshold) (λ threshold.
    taking (u32_at r member.Lookahead) (λ lookahead. Ok (Limiter channels threshold lookahead))))

abbrev pub delay_row : Record → Result Kind RecordFault
delay_row r = taking (u32_at r member.Channels) (λ channels. taking (u32_at r member.Samples) (λ samples. Ok (Delay channels samples)))

abbrev pub insert_row : Record → Result Kind RecordFault
insert_row r = taking (u32_at r member.Channels) (λ channels. taking (u32_at r member.Samples) (λ samples. Ok (Insert channels samples)))

-- the row of the kind of that name
abbrev pub row_named : Record → List ℕ → Result Kind RecordFault
row_named r name = if bytes_eq name (codes "input") then input_row r
    else (if bytes_eq name (codes "output") then output_row r
    else (if bytes_eq name (codes "gain") then gain_row r
    else (if bytes_eq name (codes "mixer") then mixer_row r
    else (if bytes_eq name (codes "fir") then fir_row r
    else (if bytes_eq name (codes "biquad") then biquad_row r
    else (if bytes_eq name (codes "limiter") then limiter_row r
    else (if bytes_eq name (codes "delay") then delay_row r
    else (if bytes_eq name (codes "insert") then insert_row r
    else Err (Shape (place_of r member.Kind))))))))))

-- ---- the records

-- the name of a node's kind, a text
abbrev pub kind_name : Record → Result (List ℕ) RecordFault
kind_name r = or_shape (place_of r member.Kind) (option_and_then as_str (get (name_of member.Kind) r.value))

abbrev pub node_in : Record → Result Node RecordFault
node_in r = taking (object_at r) (λ _. taking (u32_at r member.Uid) (λ uid. taking (kind_name r) (λ name.
    taking (row_named r name) (λ kind. Ok (record { uid = record { 0 = uid }; kind = kind })))))

abbrev pub connection_in : Record → Result Connection RecordFault
connection_in r = taking (object_at r) (λ _. taking (u32_at r member.SrcFilter) (λ src. taking (u32_at r member.SrcChannel) (λ src_channel.
    taking (u32_at r member.DstFilter) (λ dst. taking (u32_at r member.DstChannel) (λ dst_channel. Ok (record {
      src = record { 0 = src };
      src_channel = src_channel;
      dst = record { 0 = dst };
      dst_channel = dst_channel;
    }))))))

-- the record at index i of its list
abbrev pub node_of : ℕ → Data → Result Node RecordFault
node_of i d = node_in (record { part = part.Filter; index = i; value = d })

abbrev pub connection_of : ℕ → Data → Result Connection RecordFault
connection_of i d = connection_in (record { part = part.Link; index = i; value = d })
