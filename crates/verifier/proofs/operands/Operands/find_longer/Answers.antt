use Rattle.std.proofs.Common.{None, arith, subst, sym, ◌∙◌}
use Rattle.common.specs.declared.base_type.BaseType.TheVariants.{Int, Boolean}
use Rattle.verifier.specs.Operands.{above_of, booleans_of, ints_of, IsShared}
use Rattle.verifier.specs.declared.operands.Node.{Node}
use Rattle.verifier.proofs.Shared.{above_at, above_found}
use Rattle.verifier.proofs.operands.Operands.find_longer.Goals as goal

pub returns-in-Int-clause-there : goal.returns-in-Int-clause-there
returns-in-Int-clause-there c =
    let s = subst (λ lists. IsShared lists c.self.inside.nodes.items (ints_of c.self.inside.nodes.items) (booleans_of c.self.inside.nodes.items)) c.self.view_is c.self.invariant in
    (above_found Int c.args.self.now (ints_of c.self.inside.nodes.items) c.args.list c.list_or_none.result s.int_above c.requires (above_at (λ (node : Node). above_of node.int) c.self.inside.nodes.items c.args.list c.index-node.result.now None (omega (arith, c.requires, s.long)) c.index-node.ensures ∙ sym c.list_or_none.ensures)).0

pub returns-in-Int-clause-some : goal.returns-in-Int-clause-some
returns-in-Int-clause-some c =
    let s = subst (λ lists. IsShared lists c.self.inside.nodes.items (ints_of c.self.inside.nodes.items) (booleans_of c.self.inside.nodes.items)) c.self.view_is c.self.invariant in
    rw c.in-Int.is (above_found Int c.args.self.now (ints_of c.self.inside.nodes.items) c.args.list c.list_or_none.result s.int_above c.requires (above_at (λ (node : Node). above_of node.int) c.self.inside.nodes.items c.args.list c.index-node.result.now None (omega (arith, c.requires, s.long)) c.index-node.ensures ∙ sym c.list_or_none.ensures)).1.0

pub returns-in-Int-clause-none : goal.returns-in-Int-clause-none
returns-in-Int-clause-none c =
    let s = subst (λ lists. IsShared lists c.self.inside.nodes.items (ints_of c.self.inside.nodes.items) (booleans_of c.self.inside.nodes.items)) c.self.view_is c.self.invariant in
    rw c.in-Int.is (above_found Int c.args.self.now (ints_of c.self.inside.nodes.items) c.args.list c.list_or_none.result s.int_above c.requires (above_at (λ (node : Node). above_of node.int) c.self.inside.nodes.items c.args.list c.index-node.result.now None (omega (arith, c.requires, s.long)) c.index-node.ensures ∙ sym c.list_or_none.ensures)).1.1

pub returns-in-Boolean-clause-there : goal.returns-in-Boolean-clause-there
returns-in-Boolean-clause-there c =
    let s = subst (λ lists. IsShared lists c.self.inside.nodes.items (ints_of c.self.inside.nodes.items) (booleans_of c.self.inside.nodes.items)) c.self.view_is c.self.invariant in
    (above_found Boolean c.args.self.now (booleans_of c.self.inside.nodes.items) c.args.list c.list_or_none-in-Boolean.result s.boolean_above c.requires (above_at (λ (node : Node). above_of node.boolean) c.self.inside.nodes.items c.args.list c.index-node.result.now None (omega (arith, c.requires, s.long)) c.index-node.ensures ∙ sym c.list_or_none-in-Boolean.ensures)).0

pub returns-in-Boolean-clause-some : goal.returns-in-Boolean-clause-some
returns-in-Boolean-clause-some c =
    let s = subst (λ lists. IsShared lists c.self.inside.nodes.items (ints_of c.self.inside.nodes.items) (booleans_of c.self.inside.nodes.items)) c.self.view_is c.self.invariant in
    rw c.in-Boolean.is (above_found Boolean c.args.self.now (booleans_of c.self.inside.nodes.items) c.args.list c.list_or_none-in-Boolean.result s.boolean_above c.requires (above_at (λ (node : Node). above_of node.boolean) c.self.inside.nodes.items c.args.list c.index-node.result.now None (omega (arith, c.requires, s.long)) c.index-node.ensures ∙ sym c.list_or_none-in-Boolean.ensures)).1.0

pub returns-in-Boolean-clause-none : goal.returns-in-Boolean-clause-none
returns-in-Boolean-clause-none c =
    let s = subst (λ lists. IsShared lists c.self.inside.nodes.items (ints_of c.self.inside.nodes.items) (booleans_of c.self.inside.nodes.items)) c.self.view_is c.self.invariant in
    rw c.in-Boolean.is (above_found Boolean c.args.self.now (booleans_of c.self.inside.nodes.items) c.args.list c.list_or_none-in-Boolean.result s.boolean_above c.requires (above_at (λ (node : Node). above_of node.boolean) c.self.inside.nodes.items c.args.list c.index-node.result.now None (omega (arith, c.requires, s.long)) c.index-node.ensures ∙ sym c.list_or_none-in-Boolean.ensures)).1.1
