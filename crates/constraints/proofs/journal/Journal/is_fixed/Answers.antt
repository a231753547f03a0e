use Rattle.std.proofs.Common.{◌≡◌, ◌∙◌, sym, subst, ap, arith}
use Rattle.constraints.specs.Journals.{AreUpToCall, entry_from}
use Rattle.constraints.specs.ExitUnknowns.{no_entry}
use Rattle.constraints.proofs.Moments.{fixed-between}
use Rattle.constraints.proofs.journal.Journal.is_fixed.Goals as goal

pub returns : goal.returns
returns c = λ same call least most.
    let moments = c.moments_of-moments.result.now in
    let equal : c.count-2.result ≡ c.count.result = grind (arith, same) in
    let between : entry_from moments call no_entry ≡ entry_from moments c.args.first no_entry =
    fixed-between moments c.args.first c.args.last c.count.result c.count.ensures.parted
    (subst (AreUpToCall c.args.last moments) equal c.count-2.ensures.parted) call least most no_entry in
    ap (λ list. entry_from list call no_entry) (sym c.moments_of-moments.ensures) ∙ (between ∙ ap (λ list. entry_from list c.args.first no_entry) c.moments_of-moments.ensures)
