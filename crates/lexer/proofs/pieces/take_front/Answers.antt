use Rattle.std.proofs.Common.{◌++◌, sym, ap, ◌∙◌}
use Rattle.std.specs.Str.{chars}
use Rattle.lexer.proofs.Steps.{parted}
use Rattle.lexer.proofs.pieces.take_front.Goals as goal

pub overflow_sub-text : goal.overflow_sub-text
overflow_sub-text c = (parted c.args.text.now c.args.rest.now c.utf8.text c.utf8.rest c.requires).shorter

pub split_at-requires : goal.split_at-requires
split_at-requires c = (parted c.args.text.now c.args.rest.now c.utf8.text c.utf8.rest c.requires).boundary

pub returns : goal.returns
returns c =
    (parted c.args.text.now c.args.rest.now c.utf8.text c.utf8.rest c.requires).text_is
    ∙ ap (λ l. chars l ++ chars c.args.rest.now) (sym c.split_at.ensures.front)
