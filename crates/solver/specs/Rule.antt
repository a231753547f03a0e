-- The numbers of the rules of labels.
-- Source: our own; the rules are those of `Labelled`.
use Rattle.std.specs.Prelude.{ℕ}
use Rattle.solver.specs.declared.rule.Rule.{Rule}
use Rattle.solver.specs.declared.rule.Rule.TheVariants.{Between, Assignment, ArrayDeclaration, Store, Receive, Send, Call, While, Return, ProcedureExits}

abbrev pub rule_number : Rule → ℕ
rule_number Between = 0
rule_number Assignment = 1
rule_number ArrayDeclaration = 2
rule_number Store = 3
rule_number Receive = 4
rule_number Send = 5
rule_number Call = 6
rule_number While = 8
rule_number Return = 10
rule_number ProcedureExits = 13
