use Rattle.std.proofs.Common.{◌∙◌, ap}
use Rattle.std.specs.String.{string_bytes}
use Rattle.labels.specs.Printed.{printed_label}
use Rattle.listing.specs.Listing.{direction_word}
use Rattle.listing.proofs.Formatted.{channel_words, formatted}
use Rattle.listing.proofs.lines.channel_line.Goals as goal

pub returns : goal.returns
returns c =
    formatted (λ s. string_bytes s) c.format.result _ _ c.format.ensures.ok
    (channel_words _ _ _ _ _ _ (c.direction_word-direction.ensures ∙ ap direction_word c.direction.ensures) c.name-name.ensures
    (ap (printed_label c.args.hierarchy.now) c.label.ensures))
