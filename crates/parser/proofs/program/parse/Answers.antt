use Rattle.std.proofs.Common.{◌≤◌, length, ap, sym, ◌∙◌, subst}
use Rattle.std.proofs.lemmas.Result.{err_from_is_err_and}
use Rattle.lexer.specs.Terminal.{terminals_of}
use Rattle.syntax.specs.Grammar.{SpellsProgram}
use Rattle.syntax.specs.Nodes.{program_nodes}
use Rattle.syntax.specs.Tree.{program_tree}
use Rattle.parser.proofs.Parsing.{items_spelled, items_only, items_bounded, items_nested, items_not_refused, fault_complete, fault_first, fault_refused}
use Rattle.parser.proofs.program.parse.Goals as goal

pub new-requires : goal.new-requires
new-requires c =
    record { nested = items_nested c.args.tokens.now c.requires.ended c.in_ok-items.items.items c.parse_program.new.self.rest.now c.in_ok-items.ensures }

pub returns-clause-accepted : goal.returns-clause-accepted
returns-clause-accepted c =
    subst (λ items. SpellsProgram (terminals_of c.args.tokens.now) (program_tree items)) (sym c.new.ensures.same) (items_spelled c.args.tokens.now c.requires.ended c.in_ok-items.items.items c.parse_program.new.self.rest.now c.in_ok-items.ensures)

pub returns-clause-bounded : goal.returns-clause-bounded
returns-clause-bounded c =
    subst (λ items. program_nodes (program_tree items) ≤ length c.args.tokens.now) (sym c.new.ensures.same) (items_bounded c.args.tokens.now c.requires.ended c.in_ok-items.items.items c.parse_program.new.self.rest.now c.in_ok-items.ensures)

pub returns-clause-complete : goal.returns-clause-complete
returns-clause-complete c tree spelled =
    ap program_tree c.new.ensures.same ∙ items_only c.args.tokens.now c.requires.ended c.in_ok-items.items.items c.parse_program.new.self.rest.now c.in_ok-items.ensures tree spelled

pub returns-clause-refuses : goal.returns-clause-refuses
returns-clause-refuses c =
    items_not_refused c.args.tokens.now c.requires.ended c.in_ok-items.items.items c.parse_program.new.self.rest.now c.in_ok-items.ensures

pub returns-in_err-items-clause-complete : goal.returns-in_err-items-clause-complete
returns-in_err-items-clause-complete c tree spelled =
    let p = err_from_is_err_and c.from_residual.result c.from_residual.ensures.1 in
    rw (p.1, p.2)
    (fault_complete c.args.tokens.now c.requires.ended c.in_err-items.field-0.0 c.parse_program.new.self.rest.now c.in_err-items.ensures tree spelled)

pub returns-in_err-items-clause-first_fault : goal.returns-in_err-items-clause-first_fault
returns-in_err-items-clause-first_fault c =
    let p = err_from_is_err_and c.from_residual.result c.from_residual.ensures.1 in
    rw (p.1, p.2) (fault_refused c.args.tokens.now c.requires.ended c.in_err-items.field-0.0 c.parse_program.new.self.rest.now c.in_err-items.ensures)

pub returns-in_err-items-clause-refuses : goal.returns-in_err-items-clause-refuses
returns-in_err-items-clause-refuses c refusal refused =
    let p = err_from_is_err_and c.from_residual.result c.from_residual.ensures.1 in
    rw (p.1, p.2)
    (fault_first c.args.tokens.now c.requires.ended c.in_err-items.field-0.0 c.parse_program.new.self.rest.now c.in_err-items.ensures refusal refused)
