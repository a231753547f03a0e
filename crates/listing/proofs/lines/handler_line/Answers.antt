use Rattle.std.specs.String.{string_bytes}
use Rattle.listing.proofs.Formatted.{formatted, handler_words}
use Rattle.listing.proofs.lines.handler_line.Goals as goal

pub returns : goal.returns
returns c = formatted (λ s. string_bytes s) c.format.result _ _ c.format.ensures.ok (handler_words _ _ _ _)
