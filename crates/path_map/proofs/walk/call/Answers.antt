use Rattle.resolved.specs.Exits.{declared_by}
use Rattle.resolved.specs.Program.{procedure_at}
use Rattle.resolved.specs.CoreOf.{program_of}
use Rattle.std.proofs.Common.{ap, ◌∙◌, true}
use Rattle.path_map.specs.Exceptions.{raised_list}
use Rattle.path_map.specs.Joins.{only_raised}
use Rattle.path_map.specs.Sets.{members}
use Rattle.path_map.proofs.Walking.{call-found}
use Rattle.path_map.proofs.walk.call.Goals as goal

pub returns-clause-found : goal.returns-clause-found
returns-clause-found c = λ exceptions same entries.
    call-found (raised_list c.args.arguments.arith c.args.arguments.bounds) exceptions (declared_by (procedure_at (program_of c.args.walk.now.core.now) c.args.callee).throws) same
    c.in_ok-own.own c.in_ok-declared.declared c.in_ok-own.ensures.summary c.in_ok-declared.ensures.summary
    (members c.args.raised.now) (members c.add_to.new.set) (members c.add_declared.new.set) c.in_ok-own.ensures.added c.in_ok-declared.ensures.added
    c.go_on_or_raise.result entries (c.go_on_or_raise.ensures ∙ ap (λ r. record (only_raised r) { normal = true }) c.join.ensures)
