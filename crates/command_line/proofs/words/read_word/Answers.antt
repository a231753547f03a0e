use Rattle.std.proofs.Common.{◌∙◌, ap, option_map, sym}
use Rattle.std.proofs.lemmas.Result.{IfOk-weaker}
use Rattle.std.specs.Prelude.{Some}
use Rattle.clap.specs.Words.{found_of}
use Rattle.clap.proofs.WalkLemmas.{first_value-rows}
use Rattle.command_line.proofs.Getters.{given_read}
use Rattle.command_line.proofs.words.read_word.Goals as goal

pub unwrap-requires : goal.unwrap-requires
unwrap-requires c =
    given_read (λ s. s.now) c.get_str.result _ (c.get_str.ensures ∙ first_value-rows (found_of c.args.matches.now) c.args.id.now) c.requires.given

pub returns : goal.returns
returns c = IfOk-weaker c.from_str.result _ _
    (λ text e. sym (first_value-rows (found_of c.args.matches.now) c.args.id.now) ∙ sym c.get_str.ensures ∙ ap (λ o. option_map (λ s. s.now) o) c.unwrap.ensures ∙ ap Some (sym e))
    c.from_str.ensures.ok
