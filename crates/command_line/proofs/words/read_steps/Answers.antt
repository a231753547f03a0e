use Rattle.std.proofs.Common.{◌∙◌, ◌≤◌, codes, subst, sym}
use Rattle.std.specs.Str.Parse.{ExplainsUnsignedError, HasUnsignedDigitsIfOk, ParsesUnsigned}
use Rattle.clap.specs.Words.{found_of}
use Rattle.clap.proofs.WalkLemmas.{one_text-rows}
use Rattle.command_line.specs.Matched.{rows_in}
use Rattle.command_line.proofs.Steps.{steps_read, steps_within}
use Rattle.command_line.proofs.words.read_steps.Goals as goal

pub returns : goal.returns
returns c =
    let rows = rows_in c.args.matches.now in
    let number = c.unwrap_or.ensures
    ∙ steps_read (λ bs r. ParsesUnsigned 64 10 bs r × ExplainsUnsignedError 10 bs r × HasUnsignedDigitsIfOk bs r) (λ t x h. h.0)
    rows _ c.get_one.result c.requires.in_range (one_text-rows (found_of c.args.matches.now) (codes "steps")) c.get_one.ensures.none c.get_one.ensures.value in
    record { number = number; most = subst (λ n. n ≤ 1000000000000) (sym number) (steps_within rows c.requires.in_range) }
