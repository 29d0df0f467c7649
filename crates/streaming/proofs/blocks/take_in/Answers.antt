use Rattle.std.proofs.Common.{◌≡◌, ◌≤◌, ◌*◌, ◌-◌, ◌+◌, ◌/◌, ◌++◌, min, length, take, drop, replicate, pos, sym, ap, ◌∙◌, subst, arith}
use Rattle.std.proofs.lemmas.List.{length-replicate, length-take-le}
use Rattle.std.proofs.Math.Nat.{le_trans, min-le_left, min-le_right, mul-le-mul_right}
use Rattle.wav_pcm.specs.Files.{frame_size}
use Rattle.streaming.specs.Blocks.{AreFrames}
use Rattle.streaming.proofs.PartLaws.{on_err, on_ok}
use Rattle.streaming.proofs.TakeFacts.{failed_read, none_read, of_held, small_samples, some_told, within_data}
use Rattle.streaming.proofs.blocks.take_in.Goals as goal

pub returns-then-there-eq0-clause-frames : goal.returns-then-there-eq0-clause-frames
returns-then-there-eq0-clause-frames g c =
    let i = c.args.from.now in
    let there_is : c.min.result * i.head.channels ≡ min (i.head.frames - c.args.first) c.args.count * i.head.channels =
    ap (λ n. n * i.head.channels) (c.min.ensures ∙ ap (λ n. min n c.args.count) c.saturating_sub-left.ensures) in
    none_read i c.args.first c.args.count (c.min.result * i.head.channels) c.requires.head c.requires.within there_is c.silence.new.samples (g.F.Folder.held c.args.folder.now)
    c.requires.there c.if-there-eq0.true (c.silence.ensures ∙ ap (λ l. replicate l (pos 0)) c.requires.count)

pub returns-clause-frames : goal.returns-clause-frames
returns-clause-frames g c =
    let i = c.args.from.now in
    let there = c.min.result * i.head.channels in
    let held = g.F.Folder.held c.args.folder.now in
    let there_is : there ≡ min (i.head.frames - c.args.first) c.args.count * i.head.channels =
    ap (λ n. n * i.head.channels) (c.min.ensures ∙ ap (λ n. min n c.args.count) c.saturating_sub-left.ensures) in
    let zeros : c.silence.new.samples ≡ replicate (c.args.count * i.head.channels) (pos 0) = c.silence.ensures ∙ ap (λ l. replicate l (pos 0)) c.requires.count in
    let fewer : c.min.result ≤ c.args.count = subst (λ n. n ≤ c.args.count) (sym c.min.ensures) (min-le_right c.saturating_sub-left.result c.args.count) in
    let all : length c.silence.new.samples ≡ c.args.count * i.head.channels = ap length zeros ∙ length-replicate (c.args.count * i.head.channels) (pos 0) in
    let long : length (take there c.silence.new.samples) ≡ there =
    length-take-le there c.silence.new.samples (subst (λ n. there ≤ n) (sym all) (mul-le-mul_right i.head.channels fewer)) in
    on_ok c.read_frames.result
    (λ told. subst (λ z. AreFrames i c.args.first c.args.count (c.read_frames.new.into ++ drop there z) held) (sym zeros)
    (of_held i c.args.first c.args.count there c.requires.head c.requires.within there_is c.read_frames.new.into held c.requires.there
    (some_told i c.args.first there (c.args.first * i.head.channels + length (take there c.silence.new.samples)) c.read_frames.new.into held (omega (arith, long)) told)))
    c.read_frames.ensures.recorded

pub returns-clause-small : goal.returns-clause-small
returns-clause-small g c =
    let there = c.min.result * c.args.from.now.head.channels in
    on_ok c.read_frames.result (λ scaled. small_samples c.read_frames.new.into there (length c.args.into.now) c.silence.new.samples c.silence.ensures scaled) c.read_frames.ensures.range

pub returns-clause-failed : goal.returns-clause-failed
returns-clause-failed g c =
    let i = c.args.from.now in
    let there = c.min.result * i.head.channels in
    let size = there * (i.head.bits / 8) in
    let few : c.min.result ≤ i.head.frames - c.args.first =
    subst (λ n. c.min.result ≤ n) c.saturating_sub-left.ensures (subst (λ n. n ≤ c.saturating_sub-left.result) (sym c.min.ensures) (min-le_left c.saturating_sub-left.result c.args.count)) in
    let fewer : c.min.result ≤ c.args.count = subst (λ n. n ≤ c.args.count) (sym c.min.ensures) (min-le_right c.saturating_sub-left.result c.args.count) in
    let room : size ≤ length c.args.bytes.now =
    le_trans (mul-le-mul_right (i.head.bits / 8) (subst (λ n. there ≤ n) (sym c.requires.count) (mul-le-mul_right i.head.channels fewer))) c.requires.room in
    on_err c.read_frames.result
    (failed_read i (i.head.from + c.args.first * frame_size i.head + length (take size c.args.bytes.now)) (g.F.Folder.held c.args.folder.now) _ c.requires.there
    (within_data i c.args.first c.min.result (length (take size c.args.bytes.now)) few c.if-there-eq0.false (length-take-le size c.args.bytes.now room)))
    c.read_frames.ensures.cause.failed
