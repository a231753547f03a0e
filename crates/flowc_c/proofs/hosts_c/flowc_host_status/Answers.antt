use Rattle.std.proofs.Common.{Option, subst}
use Rattle.host.specs.Meaning.{HostContents, HostAnswer}
use Rattle.host.specs.Values.{turned_or}
use Rattle.std.specs.Option.{option_map}
use Rattle.flowc_c.specs.Hosts.{TakesTurn, hosted}
use Rattle.flowc_c.proofs.Hosts.{stood, turned}
use Rattle.flowc_c.proofs.hosts_c.flowc_host_status.Goals as goal

pub returns-clause-stands : goal.returns-clause-stands
returns-clause-stands c = λ done.
    let old = c.args.handle.now.slot.held in
    let new = c.ask_turn-answer.new.handle.slot.held in
    let answer : Option HostAnswer = option_map turned_or c.ask_turn-answer.result in
    let reply = c.reply_to_turn.result in
    subst (λ (host : Option HostContents). TakesTurn (hosted old) c.args.id 0 reply host)
    (stood old new c.args.id answer c.ask_turn-answer.ensures)
    (turned old new c.args.id answer 0 reply c.ask_turn-answer.ensures c.reply_to_turn.ensures done)

pub returns-clause-unchanged : goal.returns-clause-unchanged
returns-clause-unchanged c =
    stood c.args.handle.now.slot.held c.ask_turn-answer.new.handle.slot.held c.args.id
    (option_map turned_or c.ask_turn-answer.result) c.ask_turn-answer.ensures
