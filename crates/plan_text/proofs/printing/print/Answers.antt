use Rattle.std.proofs.Common.{◌∙◌, map, refl, ap}
use Rattle.std.specs.Prelude.{string_bytes}
use Rattle.plan_text.specs.declared.word.Word.TheVariants as word
use Rattle.plan_text.specs.Texts.{arc_line, at_line, delay_line, home_line, names_of, sole, wave_line}
use Rattle.plan_text.proofs.PrintLaws.{nothing_written, written_in_range, written_on, written_text}
use Rattle.plan_text.proofs.printing.print.Goals as goal

pub returns-clause-text : goal.returns-clause-text
returns-clause-text c =
    let w0 = nothing_written (string_bytes c.new-text.result) c.new-text.ensures.bytes in
    let w1 = written_on (string_bytes c.new-text.result) (string_bytes c.put_line.new.text) _ _ _ w0 c.in_ok-put_line.ensures refl in
    let w2 = written_on (string_bytes c.put_line.new.text) (string_bytes c.put_line-2.new.text) _ _ _ w1 c.in_ok-put_line-2.ensures refl in
    let w3 = written_on (string_bytes c.put_line-2.new.text) (string_bytes c.put_line-3.new.text) _ _ _ w2 c.in_ok-put_line-3.ensures (ap (sole word.Path) (c.as_slice-2.ensures ∙ c.in_ok-path.ensures.names ∙ ap names_of c.as_slice.ensures)) in
    let w4 = written_on (string_bytes c.put_line-3.new.text) (string_bytes c.put_positions.new.text) _ _ _ w3 c.in_ok-put_positions.ensures (ap (map at_line) c.as_slice-3.ensures) in
    let w5 = written_on (string_bytes c.put_positions.new.text) (string_bytes c.put_delays.new.text) _ _ _ w4 c.in_ok-put_delays.ensures (ap (map delay_line) c.as_slice-4.ensures) in
    let w6 = written_on (string_bytes c.put_delays.new.text) (string_bytes c.put_line-4.new.text) _ _ _ w5 c.in_ok-put_line-4.ensures refl in
    let w7 = written_on (string_bytes c.put_line-4.new.text) (string_bytes c.put_arcs.new.text) _ _ _ w6 c.in_ok-put_arcs.ensures (ap (map arc_line) c.as_slice-5.ensures) in
    let w8 = written_on (string_bytes c.put_arcs.new.text) (string_bytes c.put_line-5.new.text) _ _ _ w7 c.in_ok-put_line-5.ensures refl in
    let w9 = written_on (string_bytes c.put_line-5.new.text) (string_bytes c.put_waves.new.text) _ _ _ w8 c.in_ok-put_waves.ensures (ap (map wave_line) c.as_slice-6.ensures) in
    let w10 = written_on (string_bytes c.put_waves.new.text) (string_bytes c.put_homes.new.text) _ _ _ w9 c.in_ok-put_homes.ensures (ap (map home_line) c.as_slice-7.ensures) in
    let w11 = written_on (string_bytes c.put_homes.new.text) (string_bytes c.put_line-6.new.text) _ _ _ w10 c.in_ok-put_line-6.ensures refl in
    let w12 = written_on (string_bytes c.put_line-6.new.text) (string_bytes c.put_line-7.new.text) _ _ _ w11 c.in_ok-put_line-7.ensures refl in
    let w13 = written_on (string_bytes c.put_line-7.new.text) (string_bytes c.put_line-8.new.text) _ _ _ w12 c.in_ok-put_line-8.ensures refl in
    rw c.into_bytes.ensures.value (written_text c.args.plan.now (string_bytes c.put_line-8.new.text) w13)

pub returns-clause-in_range : goal.returns-clause-in_range
returns-clause-in_range c =
    let w0 = nothing_written (string_bytes c.new-text.result) c.new-text.ensures.bytes in
    let w1 = written_on (string_bytes c.new-text.result) (string_bytes c.put_line.new.text) _ _ _ w0 c.in_ok-put_line.ensures refl in
    let w2 = written_on (string_bytes c.put_line.new.text) (string_bytes c.put_line-2.new.text) _ _ _ w1 c.in_ok-put_line-2.ensures refl in
    let w3 = written_on (string_bytes c.put_line-2.new.text) (string_bytes c.put_line-3.new.text) _ _ _ w2 c.in_ok-put_line-3.ensures (ap (sole word.Path) (c.as_slice-2.ensures ∙ c.in_ok-path.ensures.names ∙ ap names_of c.as_slice.ensures)) in
    let w4 = written_on (string_bytes c.put_line-3.new.text) (string_bytes c.put_positions.new.text) _ _ _ w3 c.in_ok-put_positions.ensures (ap (map at_line) c.as_slice-3.ensures) in
    let w5 = written_on (string_bytes c.put_positions.new.text) (string_bytes c.put_delays.new.text) _ _ _ w4 c.in_ok-put_delays.ensures (ap (map delay_line) c.as_slice-4.ensures) in
    let w6 = written_on (string_bytes c.put_delays.new.text) (string_bytes c.put_line-4.new.text) _ _ _ w5 c.in_ok-put_line-4.ensures refl in
    let w7 = written_on (string_bytes c.put_line-4.new.text) (string_bytes c.put_arcs.new.text) _ _ _ w6 c.in_ok-put_arcs.ensures (ap (map arc_line) c.as_slice-5.ensures) in
    let w8 = written_on (string_bytes c.put_arcs.new.text) (string_bytes c.put_line-5.new.text) _ _ _ w7 c.in_ok-put_line-5.ensures refl in
    let w9 = written_on (string_bytes c.put_line-5.new.text) (string_bytes c.put_waves.new.text) _ _ _ w8 c.in_ok-put_waves.ensures (ap (map wave_line) c.as_slice-6.ensures) in
    let w10 = written_on (string_bytes c.put_waves.new.text) (string_bytes c.put_homes.new.text) _ _ _ w9 c.in_ok-put_homes.ensures (ap (map home_line) c.as_slice-7.ensures) in
    let w11 = written_on (string_bytes c.put_homes.new.text) (string_bytes c.put_line-6.new.text) _ _ _ w10 c.in_ok-put_line-6.ensures refl in
    let w12 = written_on (string_bytes c.put_line-6.new.text) (string_bytes c.put_line-7.new.text) _ _ _ w11 c.in_ok-put_line-7.ensures refl in
    let w13 = written_on (string_bytes c.put_line-7.new.text) (string_bytes c.put_line-8.new.text) _ _ _ w12 c.in_ok-put_line-8.ensures refl in
    written_in_range c.args.plan.now (string_bytes c.put_line-8.new.text) w13
