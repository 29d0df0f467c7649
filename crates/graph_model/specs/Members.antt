-- The members of a record: their names in JSON, and their ranges in the order in which they are checked.
use Rattle.std.specs.Prelude.{codes, ℕ, ◌*◌, ◌^◌, ◌==◌, ◌&&◌, nat_le, nat_lt, Bool, List, [], ◌∷◌, length, ℤ, unsigned_abs, if◌then◌else◌, Option, Some, None}
use Rattle.std.specs.List.{list_all}
use Rattle.graph_model.specs.declared.kind.Kind.{Kind}
use Rattle.graph_model.specs.declared.kind.Kind.TheVariants.{Input, Output, Gain, Mixer, Fir, Biquad, Limiter, Delay, Insert}
use Rattle.graph_model.specs.declared.member.Member.{Member}
use Rattle.graph_model.specs.declared.member.Member.TheVariants as member
use Rattle.graph_model.specs.declared.graph.Node.{Node}

-- the name of a member
abbrev pub name_of : Member → List ℕ
name_of member.Graph = codes "FILTERGRAPH"
name_of member.Filter = codes "FILTER"
name_of member.Connection = codes "CONNECTION"
name_of member.Item = codes "record"
name_of member.Uid = codes "uid"
name_of member.Kind = codes "kind"
name_of member.Channels = codes "channels"
name_of member.Ins = codes "ins"
name_of member.Outs = codes "outs"
name_of member.Gain = codes "gain"
name_of member.Gains = codes "gains"
name_of member.Taps = codes "taps"
name_of member.Shift = codes "shift"
name_of member.Latency = codes "latency"
name_of member.B0 = codes "b0"
name_of member.B1 = codes "b1"
name_of member.B2 = codes "b2"
name_of member.A1 = codes "a1"
name_of member.A2 = codes "a2"
name_of member.Bits = codes "bits"
name_of member.Threshold = codes "threshold"
name_of member.Lookahead = codes "lookahead"
name_of member.Samples = codes "samples"
name_of member.SrcFilter = codes "srcFilter"
name_of member.SrcChannel = codes "srcChannel"
name_of member.DstFilter = codes "dstFilter"
name_of member.DstChannel = codes "dstChannel"

abbrev pub is_from : ℕ → ℕ → ℕ → Bool
is_from low high n = nat_le low n && nat_le n high

abbrev pub is_small : ℕ → ℤ → Bool
is_small most z = nat_le (unsigned_abs z) most

-- each member of a kind's record, and whether it is in range
abbrev pub tests_of : Kind → List (Member × Bool)
tests_of (Input channels) = (member.Channels, is_from 1 32 channels) ∷ []
tests_of (Output channels) = (member.Channels, is_from 1 32 channels) ∷ []
tests_of (Gain channels gain) = (member.Channels, is_from 1 32 channels) ∷ (member.Gain, is_small (2 ^ 20) gain) ∷ []
tests_of (Mixer ins outs gains) =
    (member.Ins, is_from 1 32 ins) ∷ (member.Outs, is_from 1 32 outs)
    ∷ (member.Gains, (length gains == ins * outs) && list_all (is_small (2 ^ 20)) gains) ∷ []
tests_of (Fir channels taps shift latency) =
    (member.Channels, is_from 1 32 channels)
    ∷ (member.Taps, is_from 1 4096 (length taps) && list_all (λ h. nat_lt (unsigned_abs h) (2 ^ 24)) taps)
    ∷ (member.Shift, nat_le shift 30) ∷ (member.Latency, nat_lt latency (length taps)) ∷ []
tests_of (Biquad channels b0 b1 b2 a1 a2 shift bits) =
    (member.Channels, is_from 1 32 channels) ∷ (member.B0, nat_lt (unsigned_abs b0) (2 ^ 31))
    ∷ (member.B1, nat_lt (unsigned_abs b1) (2 ^ 31))
    ∷ (member.B2, nat_lt (unsigned_abs b2) (2 ^ 31)) ∷ (member.A1, nat_lt (unsigned_abs a1) (2 ^ 31))
    ∷ (member.A2, nat_lt (unsigned_abs a2) (2 ^ 31))
    ∷ (member.Shift, is_from 1 30 shift) ∷ (member.Bits, is_from 16 40 bits) ∷ []
tests_of (Limiter channels threshold lookahead) =
    (member.Channels, is_from 1 32 channels) ∷ (member.Threshold, is_from 1 (2 ^ 46) threshold)
    ∷ (member.Lookahead, is_from 1 8192 lookahead) ∷ []
tests_of (Delay channels samples) = (member.Channels, is_from 1 32 channels) ∷ (member.Samples, is_from 1 (2 ^ 20) samples) ∷ []
tests_of (Insert channels samples) = (member.Channels, is_from 1 32 channels) ∷ (member.Samples, nat_le samples (2 ^ 20)) ∷ []

abbrev pub first_failing : List (Member × Bool) → Option Member
first_failing [] = None
first_failing (t ∷ ts) = if t.1 then first_failing ts else Some t.0

-- the first member of a node that is out of range, its uid before the rest
abbrev pub bad_member : Node → Option Member
bad_member n = first_failing ((member.Uid, is_from 1 2147483647 n.uid.0) ∷ tests_of n.kind)
