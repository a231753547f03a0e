use Rattle.std.proofs.Common.{refl, sym, ◌∙◌}
use Rattle.std.specs.Prelude.{bytes_eq, string_bytes}
use Rattle.principals.specs.Table.{names_of}
use Rattle.principals.proofs.Names.{not_listed, position-map, position_has_name}
use Rattle.principals.proofs.declaring.find_number.Goals as goal

pub returns-in-Some-clause-found : goal.returns-in-Some-clause-found
returns-in-Some-clause-found c =
    position_has_name (names_of c.args.names.now) c.args.name.now.text.now c.in-Some.number
    (position-map (λ name. string_bytes name) (bytes_eq c.args.name.now.text.now) c.args.names.now.keys ∙ sym c.in-Some.ensures.index)

pub returns-in-None-clause-unknown : goal.returns-in-None-clause-unknown
returns-in-None-clause-unknown c =
    (refl, not_listed (λ name. string_bytes name) c.args.names.now.keys c.args.name.now.text.now (sym c.in-None.ensures.found))
