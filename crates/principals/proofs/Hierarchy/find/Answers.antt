use Rattle.std.proofs.Common.{Some, None, sym, subst, ap, ◌∙◌}
use Rattle.std.specs.Prelude.{bytes_eq, string_bytes}
use Rattle.principals.specs.ActsFor.{AllDifferent, number_of}
use Rattle.principals.proofs.Names.{position-map, number_of_iff, no_number_iff}
use Rattle.principals.proofs.Hierarchy.find.Goals as goal

pub returns-in-Some-clause-value : goal.returns-in-Some-clause-value
returns-in-Some-clause-value c =
    c.in-Some.ensures.index ∙ sym (position-map (λ name. string_bytes name) (bytes_eq c.args.name.now) c.self.inside.names.keys)
    ∙ ap (λ h. number_of h c.args.name.now) c.self.view_is

pub returns-in-None-clause-value : goal.returns-in-None-clause-value
returns-in-None-clause-value c =
    c.in-None.ensures.index ∙ sym (position-map (λ name. string_bytes name) (bytes_eq c.args.name.now) c.self.inside.names.keys)
    ∙ ap (λ h. number_of h c.args.name.now) c.self.view_is

pub returns-in-Some-clause-number : goal.returns-in-Some-clause-number
returns-in-Some-clause-number c =
    number_of_iff c.args.self.now.names (subst (λ h. AllDifferent h.names) c.self.view_is c.self.invariant.hierarchy.different)
    c.args.name.now (Some c.in-Some.number) (returns-in-Some-clause-value c)

pub returns-in-Some-clause-none : goal.returns-in-Some-clause-none
returns-in-Some-clause-none c =
    no_number_iff c.args.self.now.names (subst (λ h. AllDifferent h.names) c.self.view_is c.self.invariant.hierarchy.different)
    c.args.name.now (Some c.in-Some.number) (returns-in-Some-clause-value c)

pub returns-in-None-clause-number : goal.returns-in-None-clause-number
returns-in-None-clause-number c =
    number_of_iff c.args.self.now.names (subst (λ h. AllDifferent h.names) c.self.view_is c.self.invariant.hierarchy.different)
    c.args.name.now None (returns-in-None-clause-value c)

pub returns-in-None-clause-none : goal.returns-in-None-clause-none
returns-in-None-clause-none c =
    no_number_iff c.args.self.now.names (subst (λ h. AllDifferent h.names) c.self.view_is c.self.invariant.hierarchy.different)
    c.args.name.now None (returns-in-None-clause-value c)
