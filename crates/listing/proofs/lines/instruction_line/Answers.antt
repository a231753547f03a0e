use Rattle.std.proofs.Common.{◌∙◌, ap, ◌-◌, ◌^◌, ◌++◌, [], false, Some}
use Rattle.std.specs.Fmt.{◌++?◌, format_spec, padded_integral, styled_digits_output}
use Rattle.std.specs.Option.{option_map}
use Rattle.std.specs.Prelude.{codes}
use Rattle.std.specs.String.{string_bytes}
use Rattle.modules.specs.Opcodes.{instruction_text}
use Rattle.listing.proofs.Formatted.{formatted, instruction_words}
use Rattle.listing.proofs.lines.instruction_line.Goals as goal

pub returns : goal.returns
returns c =
    let rest = Some (codes " " ++ (instruction_text c.args.instruction ++ codes "\n")) in
    formatted (λ s. string_bytes s) c.format.result _ _ c.format.ensures.ok
    (ap (λ spec. styled_digits_output c.in_radix.result spec ++? rest) c.laid_out.ensures
    ∙ ap (λ shown. option_map (padded_integral (format_spec 32 0 4 8 (2 ^ 64 - 1)) false []) shown ++? rest) c.in_radix.ensures
    ∙ instruction_words c.args.offset (instruction_text c.args.instruction))
