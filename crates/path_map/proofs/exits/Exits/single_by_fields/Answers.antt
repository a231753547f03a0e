use Rattle.std.proofs.Common.{refl}
use Rattle.path_map.proofs.Single.{answer, more-normal, more-return, more-break, more-continue, more-throws}
use Rattle.path_map.proofs.exits.Exits.single_by_fields.Goals as goal

pub returns-in-true-false-false-false-Nothing : goal.returns-in-true-false-false-false-Nothing
returns-in-true-false-false-false-Nothing c =
    answer c.args.self _ (rw (c.in-true-false-false-false-Nothing.is-0, c.in-true-false-false-false-Nothing.is-1, c.in-true-false-false-false-Nothing.is-2, c.in-true-false-false-false-Nothing.is-3, c.in-true-false-false-false-Nothing.is-4) refl)

pub returns-in-false-true-false-false-Nothing : goal.returns-in-false-true-false-false-Nothing
returns-in-false-true-false-false-Nothing c =
    answer c.args.self _ (rw (c.in-false-true-false-false-Nothing.is-0, c.in-false-true-false-false-Nothing.is-1, c.in-false-true-false-false-Nothing.is-2, c.in-false-true-false-false-Nothing.is-3, c.in-false-true-false-false-Nothing.is-4) refl)

pub returns-in-false-false-true-false-Nothing : goal.returns-in-false-false-true-false-Nothing
returns-in-false-false-true-false-Nothing c =
    answer c.args.self _ (rw (c.in-false-false-true-false-Nothing.is-0, c.in-false-false-true-false-Nothing.is-1, c.in-false-false-true-false-Nothing.is-2, c.in-false-false-true-false-Nothing.is-3, c.in-false-false-true-false-Nothing.is-4) refl)

pub returns-in-false-false-false-true-Nothing : goal.returns-in-false-false-false-true-Nothing
returns-in-false-false-false-true-Nothing c =
    answer c.args.self _ (rw (c.in-false-false-false-true-Nothing.is-0, c.in-false-false-false-true-Nothing.is-1, c.in-false-false-false-true-Nothing.is-2, c.in-false-false-false-true-Nothing.is-3, c.in-false-false-false-true-Nothing.is-4) refl)

pub returns-in-false-false-false-false-One : goal.returns-in-false-false-false-false-One
returns-in-false-false-false-false-One c =
    answer c.args.self _ (rw (c.in-false-false-false-false-One.is-0, c.in-false-false-false-false-One.is-1, c.in-false-false-false-false-One.is-2, c.in-false-false-false-false-One.is-3, c.in-false-false-false-false-One.is-4) refl)

pub returns-in_default : goal.returns-in_default
returns-in_default c = answer c.args.self _ (rw (c.in_default.is-0, c.in_default.is-1) refl)

pub returns-in_default-2 : goal.returns-in_default-2
returns-in_default-2 c = answer c.args.self _ (rw (c.in_default.is-0, c.in_default.is-1, c.in_default.is-2) refl)

pub returns-in_default-3 : goal.returns-in_default-3
returns-in_default-3 c = answer c.args.self _ (rw (c.in_default.is-0, c.in_default.is-1, c.in_default.is-2, c.in_default.is-3) refl)

pub returns-in_default-4 : goal.returns-in_default-4
returns-in_default-4 c = answer c.args.self _ (rw (c.in_default.is-0, c.in_default.is-1, c.in_default.is-2, c.in_default.is-3) (more-normal c.args.self.raised c.in_default.not-Nothing-4))

pub returns-in_default-5 : goal.returns-in_default-5
returns-in_default-5 c = answer c.args.self _ (rw (c.in_default.is-0, c.in_default.is-1, c.in_default.is-2) refl)

pub returns-in_default-6 : goal.returns-in_default-6
returns-in_default-6 c = answer c.args.self _ (rw (c.in_default.is-0, c.in_default.is-1, c.in_default.is-2, c.in_default.is-3) refl)

pub returns-in_default-7 : goal.returns-in_default-7
returns-in_default-7 c = answer c.args.self _ (rw (c.in_default.is-0, c.in_default.is-1, c.in_default.is-2, c.in_default.is-3) (more-return c.args.self.raised c.in_default.not-Nothing-4))

pub returns-in_default-8 : goal.returns-in_default-8
returns-in_default-8 c = answer c.args.self _ (rw (c.in_default.is-0, c.in_default.is-1, c.in_default.is-2, c.in_default.is-3) refl)

pub returns-in_default-9 : goal.returns-in_default-9
returns-in_default-9 c = answer c.args.self _ (rw (c.in_default.is-0, c.in_default.is-1, c.in_default.is-2, c.in_default.is-3) (more-break c.args.self.raised c.in_default.not-Nothing-4))

pub returns-in_default-10 : goal.returns-in_default-10
returns-in_default-10 c = answer c.args.self _ (rw (c.in_default.is-0, c.in_default.is-1, c.in_default.is-2, c.in_default.is-3) (more-continue c.args.self.raised c.in_default.not-Nothing-4))

pub returns-in_default-11 : goal.returns-in_default-11
returns-in_default-11 c = answer c.args.self _ (rw (c.in_default.is-0, c.in_default.is-1, c.in_default.is-2, c.in_default.is-3) (more-throws c.args.self.raised c.in_default.not-One-4))
