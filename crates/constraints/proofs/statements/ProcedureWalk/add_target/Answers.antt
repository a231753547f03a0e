use Rattle.constraints.proofs.statements.ProcedureWalk.add_target.Goals as goal

pub returns-in_ok-add_rule-in-Some : goal.returns-in_ok-add_rule-in-Some
returns-in_ok-add_rule-in-Some c = λ atoms left. rw c.in-Some.is (c.in_ok-add_rule-in-Some.ensures c.args.self.now.procedure atoms left)
