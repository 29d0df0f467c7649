use Rattle.players.proofs.ServeFacts.{between_holds, between_told, exit_holds, exit_same}
use Rattle.players.proofs.playing.Server.serve.Goals as goal

pub returns-in-Exit-clause-same : goal.returns-in-Exit-clause-same
returns-in-Exit-clause-same c =
    exit_same c.args.self.now c.in-Exit.leaving c.leave.new.self c.in-Exit.is c.args.count c.args.sums.now c.leave.ensures.start c.leave.ensures.count c.leave.ensures.lines

pub returns-in-Exit-clause-holds : goal.returns-in-Exit-clause-holds
returns-in-Exit-clause-holds c =
    exit_holds c.args.self.now c.in-Exit.leaving c.leave.new.self c.in-Exit.is c.args.input.now c.args.channels c.args.first c.args.count c.args.ins c.args.outs c.args.sums.now
    c.requires.fits c.requires.sums c.leave.ensures.start c.leave.ensures.count c.leave.ensures.lines

pub returns-in-Between-clause-holds : goal.returns-in-Between-clause-holds
returns-in-Between-clause-holds c =
    between_holds c.args.self.now c.in-Between.processor c.process.new.processor c.in-Between.is c.args.input.now c.args.channels c.args.first c.args.count c.args.ins c.args.sums.now c.process.ensures.keeps

pub returns-in-Between-clause-told : goal.returns-in-Between-clause-told
returns-in-Between-clause-told c =
    between_told c.args.self.now c.in-Between.processor c.in-Between.is c.args.input.now c.args.channels c.args.first c.args.count c.args.ins c.args.outs c.args.sums.now c.process.new.told c.process.ensures.told
