use Rattle.std.proofs.Common.{sym, ◌∙◌}
use Rattle.types.proofs.Buckets.{alone_found, first_found}
use Rattle.types.proofs.short_names.ShortNames.find_at_once.Goals as goal

pub returns-then-kept-number : goal.returns-then-kept-number
returns-then-kept-number c =
    let names = c.args.self.now in
    alone_found names.shift c.args.number names.buckets.items names.others c.in-Alone.kept c.in-Alone.meaning (sym c.bucket.ensures ∙ c.in-Alone.is) c.if-kept-number.true

pub returns-then-kept-number-2 : goal.returns-then-kept-number-2
returns-then-kept-number-2 c =
    let names = c.args.self.now in
    first_found names.shift c.args.number names.buckets.items names.others c.in-First.kept c.in-First.meaning (sym c.bucket.ensures ∙ c.in-First.is) c.if-kept-number-2.true
