use Rattle.std.proofs.Common.{get_or, length, ap, sym, ◌∙◌, arith, None}
use Rattle.verifier.specs.Starts.{number_at}
use Rattle.verifier.proofs.Counted.{number-beyond, number-in}
use Rattle.verifier.proofs.index.Index.number.Goals as goal

pub returns-then-offset-self : goal.returns-then-offset-self
returns-then-offset-self c =
    sym (ap (λ l. get_or l c.args.offset None) (sym c.self.view_is) ∙ number-beyond c.self.inside.starts.items c.self.inside.size c.args.offset c.if-offset-self.true)

pub number_in-requires-clause-there : goal.number_in-requires-clause-there
number_in-requires-clause-there c = omega (arith, c.self.invariant.enough, c.if-offset-self.false, ap length c.as_slice.ensures)

pub number_in-requires-clause-short : goal.number_in-requires-clause-short
number_in-requires-clause-short c = omega (arith, c.self.invariant.short, c.if-offset-self.false)

pub returns : goal.returns
returns c =
    c.number_in.ensures
    ∙ ap (λ words. number_at words c.args.offset) c.as_slice.ensures
    ∙ sym (ap (λ l. get_or l c.args.offset None) (sym c.self.view_is) ∙ number-in c.self.inside.starts.items c.self.inside.size c.args.offset c.if-offset-self.false)
