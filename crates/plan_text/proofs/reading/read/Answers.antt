use Rattle.std.proofs.Common.{◌∙◌, map, refl, sym}
use Rattle.plan_text.specs.declared.word.Word.TheVariants as word
use Rattle.plan_text.specs.Texts.{arc_line, at_line, delay_line, home_line, wave_line}
use Rattle.plan_text.proofs.ReadLaws.{ended, first_version, is_of, no_numbers, refused, many_section, no_section, one_section, whole, whole_in_range}
use Rattle.plan_text.proofs.reading.read.Goals as goal

pub returns-in_err-latency-clause-fault : goal.returns-in_err-latency-clause-fault
returns-in_err-latency-clause-fault c =
    let s0 = no_section c.args.bytes.now in
    let s1 = one_section _ _ _ _ _ word.Plan c.in_ok-version.version c.one.new.self.rest.now c.one.new.self.count s0 c.in_ok-version.ensures in
    refused _ _ _ _ _ word.Latency c.one-2.new.self.rest.now c.one-2.new.self.count c.in_err-latency.field-0.0 c.from_residual-in_err-latency.result s1 c.in_err-latency.ensures c.from_residual-in_err-latency.ensures.1

pub returns-in_err-path-clause-fault : goal.returns-in_err-path-clause-fault
returns-in_err-path-clause-fault c =
    let s0 = no_section c.args.bytes.now in
    let s1 = one_section _ _ _ _ _ word.Plan c.in_ok-version.version c.one.new.self.rest.now c.one.new.self.count s0 c.in_ok-version.ensures in
    let s2 = one_section _ _ _ _ _ word.Latency c.in_ok-latency.latency c.one-2.new.self.rest.now c.one-2.new.self.count s1 c.in_ok-latency.ensures in
    refused _ _ _ _ _ word.Path c.one-3.new.self.rest.now c.one-3.new.self.count c.in_err-path.field-0.0 c.from_residual-in_err-path.result s2 c.in_err-path.ensures c.from_residual-in_err-path.ensures.1

pub returns-in_err-total-clause-fault : goal.returns-in_err-total-clause-fault
returns-in_err-total-clause-fault c =
    let s0 = no_section c.args.bytes.now in
    let s1 = one_section _ _ _ _ _ word.Plan c.in_ok-version.version c.one.new.self.rest.now c.one.new.self.count s0 c.in_ok-version.ensures in
    let s2 = one_section _ _ _ _ _ word.Latency c.in_ok-latency.latency c.one-2.new.self.rest.now c.one-2.new.self.count s1 c.in_ok-latency.ensures in
    let s3 = one_section _ _ _ _ _ word.Path c.in_ok-path.path c.one-3.new.self.rest.now c.one-3.new.self.count s2 c.in_ok-path.ensures in
    let s4 = many_section _ _ _ _ _ word.At (map at_line c.in_ok-at.at) c.positions.new.self.rest.now c.positions.new.self.count s3 c.in_ok-at.ensures in
    let s5 = many_section _ _ _ _ _ word.Line (map delay_line c.in_ok-delays.delays) c.delays.new.self.rest.now c.delays.new.self.count s4 c.in_ok-delays.ensures in
    refused _ _ _ _ _ word.Total c.one-4.new.self.rest.now c.one-4.new.self.count c.in_err-total.field-0.0 c.from_residual-in_err-total.result s5 c.in_err-total.ensures c.from_residual-in_err-total.ensures.1

pub returns-in_err-bound-clause-fault : goal.returns-in_err-bound-clause-fault
returns-in_err-bound-clause-fault c =
    let s0 = no_section c.args.bytes.now in
    let s1 = one_section _ _ _ _ _ word.Plan c.in_ok-version.version c.one.new.self.rest.now c.one.new.self.count s0 c.in_ok-version.ensures in
    let s2 = one_section _ _ _ _ _ word.Latency c.in_ok-latency.latency c.one-2.new.self.rest.now c.one-2.new.self.count s1 c.in_ok-latency.ensures in
    let s3 = one_section _ _ _ _ _ word.Path c.in_ok-path.path c.one-3.new.self.rest.now c.one-3.new.self.count s2 c.in_ok-path.ensures in
    let s4 = many_section _ _ _ _ _ word.At (map at_line c.in_ok-at.at) c.positions.new.self.rest.now c.positions.new.self.count s3 c.in_ok-at.ensures in
    let s5 = many_section _ _ _ _ _ word.Line (map delay_line c.in_ok-delays.delays) c.delays.new.self.rest.now c.delays.new.self.count s4 c.in_ok-delays.ensures in
    let s6 = one_section _ _ _ _ _ word.Total c.in_ok-total.total c.one-4.new.self.rest.now c.one-4.new.self.count s5 c.in_ok-total.ensures in
    let s7 = many_section _ _ _ _ _ word.Arc (map arc_line c.in_ok-arcs.arcs) c.arcs.new.self.rest.now c.arcs.new.self.count s6 c.in_ok-arcs.ensures in
    refused _ _ _ _ _ word.Bound c.one-5.new.self.rest.now c.one-5.new.self.count c.in_err-bound.field-0.0 c.from_residual-in_err-bound.result s7 c.in_err-bound.ensures c.from_residual-in_err-bound.ensures.1

pub returns-in_err-channels-clause-fault : goal.returns-in_err-channels-clause-fault
returns-in_err-channels-clause-fault c =
    let s0 = no_section c.args.bytes.now in
    let s1 = one_section _ _ _ _ _ word.Plan c.in_ok-version.version c.one.new.self.rest.now c.one.new.self.count s0 c.in_ok-version.ensures in
    let s2 = one_section _ _ _ _ _ word.Latency c.in_ok-latency.latency c.one-2.new.self.rest.now c.one-2.new.self.count s1 c.in_ok-latency.ensures in
    let s3 = one_section _ _ _ _ _ word.Path c.in_ok-path.path c.one-3.new.self.rest.now c.one-3.new.self.count s2 c.in_ok-path.ensures in
    let s4 = many_section _ _ _ _ _ word.At (map at_line c.in_ok-at.at) c.positions.new.self.rest.now c.positions.new.self.count s3 c.in_ok-at.ensures in
    let s5 = many_section _ _ _ _ _ word.Line (map delay_line c.in_ok-delays.delays) c.delays.new.self.rest.now c.delays.new.self.count s4 c.in_ok-delays.ensures in
    let s6 = one_section _ _ _ _ _ word.Total c.in_ok-total.total c.one-4.new.self.rest.now c.one-4.new.self.count s5 c.in_ok-total.ensures in
    let s7 = many_section _ _ _ _ _ word.Arc (map arc_line c.in_ok-arcs.arcs) c.arcs.new.self.rest.now c.arcs.new.self.count s6 c.in_ok-arcs.ensures in
    let s8 = one_section _ _ _ _ _ word.Bound c.in_ok-bound.bound c.one-5.new.self.rest.now c.one-5.new.self.count s7 c.in_ok-bound.ensures in
    let s9 = many_section _ _ _ _ _ word.Wave (map wave_line c.in_ok-waves.waves) c.waves.new.self.rest.now c.waves.new.self.count s8 c.in_ok-waves.ensures in
    let s10 = many_section _ _ _ _ _ word.Home (map home_line c.in_ok-homes.homes) c.homes.new.self.rest.now c.homes.new.self.count s9 c.in_ok-homes.ensures in
    refused _ _ _ _ _ word.Channels c.one-6.new.self.rest.now c.one-6.new.self.count c.in_err-channels.field-0.0 c.from_residual-in_err-channels.result s10 c.in_err-channels.ensures c.from_residual-in_err-channels.ensures.1

pub returns-in_err-peak-clause-fault : goal.returns-in_err-peak-clause-fault
returns-in_err-peak-clause-fault c =
    let s0 = no_section c.args.bytes.now in
    let s1 = one_section _ _ _ _ _ word.Plan c.in_ok-version.version c.one.new.self.rest.now c.one.new.self.count s0 c.in_ok-version.ensures in
    let s2 = one_section _ _ _ _ _ word.Latency c.in_ok-latency.latency c.one-2.new.self.rest.now c.one-2.new.self.count s1 c.in_ok-latency.ensures in
    let s3 = one_section _ _ _ _ _ word.Path c.in_ok-path.path c.one-3.new.self.rest.now c.one-3.new.self.count s2 c.in_ok-path.ensures in
    let s4 = many_section _ _ _ _ _ word.At (map at_line c.in_ok-at.at) c.positions.new.self.rest.now c.positions.new.self.count s3 c.in_ok-at.ensures in
    let s5 = many_section _ _ _ _ _ word.Line (map delay_line c.in_ok-delays.delays) c.delays.new.self.rest.now c.delays.new.self.count s4 c.in_ok-delays.ensures in
    let s6 = one_section _ _ _ _ _ word.Total c.in_ok-total.total c.one-4.new.self.rest.now c.one-4.new.self.count s5 c.in_ok-total.ensures in
    let s7 = many_section _ _ _ _ _ word.Arc (map arc_line c.in_ok-arcs.arcs) c.arcs.new.self.rest.now c.arcs.new.self.count s6 c.in_ok-arcs.ensures in
    let s8 = one_section _ _ _ _ _ word.Bound c.in_ok-bound.bound c.one-5.new.self.rest.now c.one-5.new.self.count s7 c.in_ok-bound.ensures in
    let s9 = many_section _ _ _ _ _ word.Wave (map wave_line c.in_ok-waves.waves) c.waves.new.self.rest.now c.waves.new.self.count s8 c.in_ok-waves.ensures in
    let s10 = many_section _ _ _ _ _ word.Home (map home_line c.in_ok-homes.homes) c.homes.new.self.rest.now c.homes.new.self.count s9 c.in_ok-homes.ensures in
    let s11 = one_section _ _ _ _ _ word.Channels c.in_ok-channels.channels c.one-6.new.self.rest.now c.one-6.new.self.count s10 c.in_ok-channels.ensures in
    refused _ _ _ _ _ word.Peak c.one-7.new.self.rest.now c.one-7.new.self.count c.in_err-peak.field-0.0 c.from_residual-in_err-peak.result s11 c.in_err-peak.ensures c.from_residual-in_err-peak.ensures.1

pub returns-in_err-end-clause-fault : goal.returns-in_err-end-clause-fault
returns-in_err-end-clause-fault c =
    let s0 = no_section c.args.bytes.now in
    let s1 = one_section _ _ _ _ _ word.Plan c.in_ok-version.version c.one.new.self.rest.now c.one.new.self.count s0 c.in_ok-version.ensures in
    let s2 = one_section _ _ _ _ _ word.Latency c.in_ok-latency.latency c.one-2.new.self.rest.now c.one-2.new.self.count s1 c.in_ok-latency.ensures in
    let s3 = one_section _ _ _ _ _ word.Path c.in_ok-path.path c.one-3.new.self.rest.now c.one-3.new.self.count s2 c.in_ok-path.ensures in
    let s4 = many_section _ _ _ _ _ word.At (map at_line c.in_ok-at.at) c.positions.new.self.rest.now c.positions.new.self.count s3 c.in_ok-at.ensures in
    let s5 = many_section _ _ _ _ _ word.Line (map delay_line c.in_ok-delays.delays) c.delays.new.self.rest.now c.delays.new.self.count s4 c.in_ok-delays.ensures in
    let s6 = one_section _ _ _ _ _ word.Total c.in_ok-total.total c.one-4.new.self.rest.now c.one-4.new.self.count s5 c.in_ok-total.ensures in
    let s7 = many_section _ _ _ _ _ word.Arc (map arc_line c.in_ok-arcs.arcs) c.arcs.new.self.rest.now c.arcs.new.self.count s6 c.in_ok-arcs.ensures in
    let s8 = one_section _ _ _ _ _ word.Bound c.in_ok-bound.bound c.one-5.new.self.rest.now c.one-5.new.self.count s7 c.in_ok-bound.ensures in
    let s9 = many_section _ _ _ _ _ word.Wave (map wave_line c.in_ok-waves.waves) c.waves.new.self.rest.now c.waves.new.self.count s8 c.in_ok-waves.ensures in
    let s10 = many_section _ _ _ _ _ word.Home (map home_line c.in_ok-homes.homes) c.homes.new.self.rest.now c.homes.new.self.count s9 c.in_ok-homes.ensures in
    let s11 = one_section _ _ _ _ _ word.Channels c.in_ok-channels.channels c.one-6.new.self.rest.now c.one-6.new.self.count s10 c.in_ok-channels.ensures in
    let s12 = one_section _ _ _ _ _ word.Peak c.in_ok-peak.peak c.one-7.new.self.rest.now c.one-7.new.self.count s11 c.in_ok-peak.ensures in
    refused _ _ _ _ _ word.End c.one-8.new.self.rest.now c.one-8.new.self.count c.in_err-end.field-0.0 c.from_residual-in_err-end.result s12 c.in_err-end.ensures c.from_residual-in_err-end.ensures.1

pub returns-then-not-is_at_end-clause-fault : goal.returns-then-not-is_at_end-clause-fault
returns-then-not-is_at_end-clause-fault c =
    let s0 = no_section c.args.bytes.now in
    let s1 = one_section _ _ _ _ _ word.Plan c.in_ok-version.version c.one.new.self.rest.now c.one.new.self.count s0 c.in_ok-version.ensures in
    let s2 = one_section _ _ _ _ _ word.Latency c.in_ok-latency.latency c.one-2.new.self.rest.now c.one-2.new.self.count s1 c.in_ok-latency.ensures in
    let s3 = one_section _ _ _ _ _ word.Path c.in_ok-path.path c.one-3.new.self.rest.now c.one-3.new.self.count s2 c.in_ok-path.ensures in
    let s4 = many_section _ _ _ _ _ word.At (map at_line c.in_ok-at.at) c.positions.new.self.rest.now c.positions.new.self.count s3 c.in_ok-at.ensures in
    let s5 = many_section _ _ _ _ _ word.Line (map delay_line c.in_ok-delays.delays) c.delays.new.self.rest.now c.delays.new.self.count s4 c.in_ok-delays.ensures in
    let s6 = one_section _ _ _ _ _ word.Total c.in_ok-total.total c.one-4.new.self.rest.now c.one-4.new.self.count s5 c.in_ok-total.ensures in
    let s7 = many_section _ _ _ _ _ word.Arc (map arc_line c.in_ok-arcs.arcs) c.arcs.new.self.rest.now c.arcs.new.self.count s6 c.in_ok-arcs.ensures in
    let s8 = one_section _ _ _ _ _ word.Bound c.in_ok-bound.bound c.one-5.new.self.rest.now c.one-5.new.self.count s7 c.in_ok-bound.ensures in
    let s9 = many_section _ _ _ _ _ word.Wave (map wave_line c.in_ok-waves.waves) c.waves.new.self.rest.now c.waves.new.self.count s8 c.in_ok-waves.ensures in
    let s10 = many_section _ _ _ _ _ word.Home (map home_line c.in_ok-homes.homes) c.homes.new.self.rest.now c.homes.new.self.count s9 c.in_ok-homes.ensures in
    let s11 = one_section _ _ _ _ _ word.Channels c.in_ok-channels.channels c.one-6.new.self.rest.now c.one-6.new.self.count s10 c.in_ok-channels.ensures in
    let s12 = one_section _ _ _ _ _ word.Peak c.in_ok-peak.peak c.one-7.new.self.rest.now c.one-7.new.self.count s11 c.in_ok-peak.ensures in
    let s13 = one_section _ _ _ _ _ word.End c.in_ok-end.end c.one-8.new.self.rest.now c.one-8.new.self.count s12 c.in_ok-end.ensures in
    rw c.bad.ensures (ended c.args.bytes.now _ c.one-8.new.self.rest.now c.one-8.new.self.count _ _ s13 c.is_at_end.ensures c.if-not-is_at_end.true refl)

pub returns-clause-ok : goal.returns-clause-ok
returns-clause-ok c =
    let s0 = no_section c.args.bytes.now in
    let s1 = one_section _ _ _ _ _ word.Plan c.in_ok-version.version c.one.new.self.rest.now c.one.new.self.count s0 c.in_ok-version.ensures in
    let s2 = one_section _ _ _ _ _ word.Latency c.in_ok-latency.latency c.one-2.new.self.rest.now c.one-2.new.self.count s1 c.in_ok-latency.ensures in
    let s3 = one_section _ _ _ _ _ word.Path c.in_ok-path.path c.one-3.new.self.rest.now c.one-3.new.self.count s2 c.in_ok-path.ensures in
    let s4 = many_section _ _ _ _ _ word.At (map at_line c.in_ok-at.at) c.positions.new.self.rest.now c.positions.new.self.count s3 c.in_ok-at.ensures in
    let s5 = many_section _ _ _ _ _ word.Line (map delay_line c.in_ok-delays.delays) c.delays.new.self.rest.now c.delays.new.self.count s4 c.in_ok-delays.ensures in
    let s6 = one_section _ _ _ _ _ word.Total c.in_ok-total.total c.one-4.new.self.rest.now c.one-4.new.self.count s5 c.in_ok-total.ensures in
    let s7 = many_section _ _ _ _ _ word.Arc (map arc_line c.in_ok-arcs.arcs) c.arcs.new.self.rest.now c.arcs.new.self.count s6 c.in_ok-arcs.ensures in
    let s8 = one_section _ _ _ _ _ word.Bound c.in_ok-bound.bound c.one-5.new.self.rest.now c.one-5.new.self.count s7 c.in_ok-bound.ensures in
    let s9 = many_section _ _ _ _ _ word.Wave (map wave_line c.in_ok-waves.waves) c.waves.new.self.rest.now c.waves.new.self.count s8 c.in_ok-waves.ensures in
    let s10 = many_section _ _ _ _ _ word.Home (map home_line c.in_ok-homes.homes) c.homes.new.self.rest.now c.homes.new.self.count s9 c.in_ok-homes.ensures in
    let s11 = one_section _ _ _ _ _ word.Channels c.in_ok-channels.channels c.one-6.new.self.rest.now c.one-6.new.self.count s10 c.in_ok-channels.ensures in
    let s12 = one_section _ _ _ _ _ word.Peak c.in_ok-peak.peak c.one-7.new.self.rest.now c.one-7.new.self.count s11 c.in_ok-peak.ensures in
    let s13 = one_section _ _ _ _ _ word.End c.in_ok-end.end c.one-8.new.self.rest.now c.one-8.new.self.count s12 c.in_ok-end.ensures in
    let of = is_of _ c.in_ok-version.version c.in_ok-latency.latency c.in_ok-path.path c.in_ok-total.total c.in_ok-bound.bound c.in_ok-channels.channels c.in_ok-peak.peak c.in_ok-end.end
    (first_version c.in_ok-version.version c.in_ok-version.ensures.begins.is_line.fit) (sym c.as_slice.ensures ∙ c.only.ensures) (sym c.as_slice-2.ensures ∙ sym c.in_ok-nodes.ensures)
    (sym c.as_slice-3.ensures ∙ c.only-2.ensures) (sym c.as_slice-4.ensures ∙ c.only-3.ensures) (rw c.small.ensures (sym c.as_slice-5.ensures ∙ c.only-4.ensures))
    (sym c.as_slice-6.ensures ∙ c.only-5.ensures) (no_numbers c.in_ok-end.end c.in_ok-end.ensures.begins.is_line.fit) in
    whole _ c.args.bytes.now _ c.one-8.new.self.rest.now c.one-8.new.self.count _ s13 of c.is_at_end.ensures c.if-not-is_at_end.false

pub returns-clause-in_range : goal.returns-clause-in_range
returns-clause-in_range c =
    let s0 = no_section c.args.bytes.now in
    let s1 = one_section _ _ _ _ _ word.Plan c.in_ok-version.version c.one.new.self.rest.now c.one.new.self.count s0 c.in_ok-version.ensures in
    let s2 = one_section _ _ _ _ _ word.Latency c.in_ok-latency.latency c.one-2.new.self.rest.now c.one-2.new.self.count s1 c.in_ok-latency.ensures in
    let s3 = one_section _ _ _ _ _ word.Path c.in_ok-path.path c.one-3.new.self.rest.now c.one-3.new.self.count s2 c.in_ok-path.ensures in
    let s4 = many_section _ _ _ _ _ word.At (map at_line c.in_ok-at.at) c.positions.new.self.rest.now c.positions.new.self.count s3 c.in_ok-at.ensures in
    let s5 = many_section _ _ _ _ _ word.Line (map delay_line c.in_ok-delays.delays) c.delays.new.self.rest.now c.delays.new.self.count s4 c.in_ok-delays.ensures in
    let s6 = one_section _ _ _ _ _ word.Total c.in_ok-total.total c.one-4.new.self.rest.now c.one-4.new.self.count s5 c.in_ok-total.ensures in
    let s7 = many_section _ _ _ _ _ word.Arc (map arc_line c.in_ok-arcs.arcs) c.arcs.new.self.rest.now c.arcs.new.self.count s6 c.in_ok-arcs.ensures in
    let s8 = one_section _ _ _ _ _ word.Bound c.in_ok-bound.bound c.one-5.new.self.rest.now c.one-5.new.self.count s7 c.in_ok-bound.ensures in
    let s9 = many_section _ _ _ _ _ word.Wave (map wave_line c.in_ok-waves.waves) c.waves.new.self.rest.now c.waves.new.self.count s8 c.in_ok-waves.ensures in
    let s10 = many_section _ _ _ _ _ word.Home (map home_line c.in_ok-homes.homes) c.homes.new.self.rest.now c.homes.new.self.count s9 c.in_ok-homes.ensures in
    let s11 = one_section _ _ _ _ _ word.Channels c.in_ok-channels.channels c.one-6.new.self.rest.now c.one-6.new.self.count s10 c.in_ok-channels.ensures in
    let s12 = one_section _ _ _ _ _ word.Peak c.in_ok-peak.peak c.one-7.new.self.rest.now c.one-7.new.self.count s11 c.in_ok-peak.ensures in
    let s13 = one_section _ _ _ _ _ word.End c.in_ok-end.end c.one-8.new.self.rest.now c.one-8.new.self.count s12 c.in_ok-end.ensures in
    let of = is_of _ c.in_ok-version.version c.in_ok-latency.latency c.in_ok-path.path c.in_ok-total.total c.in_ok-bound.bound c.in_ok-channels.channels c.in_ok-peak.peak c.in_ok-end.end
    (first_version c.in_ok-version.version c.in_ok-version.ensures.begins.is_line.fit) (sym c.as_slice.ensures ∙ c.only.ensures) (sym c.as_slice-2.ensures ∙ sym c.in_ok-nodes.ensures)
    (sym c.as_slice-3.ensures ∙ c.only-2.ensures) (sym c.as_slice-4.ensures ∙ c.only-3.ensures) (rw c.small.ensures (sym c.as_slice-5.ensures ∙ c.only-4.ensures))
    (sym c.as_slice-6.ensures ∙ c.only-5.ensures) (no_numbers c.in_ok-end.end c.in_ok-end.ensures.begins.is_line.fit) in
    whole_in_range _ c.args.bytes.now _ c.one-8.new.self.rest.now c.one-8.new.self.count s13 of
