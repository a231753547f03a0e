use Rattle.lexer.proofs.Cutting.{has_one_cut, not_cut_and_refused, has_one_refusal}
use Rattle.lexer.proofs.Total.{is_cut_or_refused}
use Rattle.lexer.proofs.lexing.one_reading.Goals as goal

pub returns : goal.returns
returns c = record { cut_or_refused = is_cut_or_refused; one_cut = has_one_cut; not_both = not_cut_and_refused; one_refusal = has_one_refusal }
