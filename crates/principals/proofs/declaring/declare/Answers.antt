use Rattle.std.proofs.Common.{◌≡◌, ◌≤◌, ◌++◌, ◌∷◌, [], false, map, length, sym, ap, ◌∙◌, arith}
use Rattle.std.specs.Prelude.{bytes_eq, string_bytes}
use Rattle.std.specs.List.{list_any}
use Rattle.std.specs.String.{string_eq}
use Rattle.std.proofs.lemmas.Bool.{cond-false}
use Rattle.std.proofs.lemmas.List.{length-map, map_push}
use Rattle.lexer.specs.Terminal.{terminal_of}
use Rattle.principals.specs.Reading.{Twice, Crowded}
use Rattle.principals.specs.Table.{names_of}
use Rattle.principals.proofs.Names.{listed_iff, not_listed}
use Rattle.principals.proofs.declaring.declare.Goals as goal

pub returns-then-contains-clause-rejected : goal.returns-then-contains-clause-rejected
returns-then-contains-clause-rejected c =
    Twice (terminal_of c.args.name.now)
    ((listed_iff (λ name. string_bytes name) c.args.names.now.keys c.args.name.now.text.now).0 (sym c.if-contains.ensures))

pub returns-then-full-clause-rejected : goal.returns-then-full-clause-rejected
returns-then-full-clause-rejected c =
    let full : 256 ≤ length (names_of c.args.names.now) =
    omega (arith, length-map c.args.names.now.keys (λ name. string_bytes name), c.len-full.ensures.len, c.if-full.true) in
    Crowded (terminal_of c.args.name.now)
    (not_listed (λ name. string_bytes name) c.args.names.now.keys c.args.name.now.text.now (sym c.if-contains.ensures)) full

pub returns-clause-fresh : goal.returns-clause-fresh
returns-clause-fresh c = not_listed (λ name. string_bytes name) c.args.names.now.keys c.args.name.now.text.now (sym c.if-contains.ensures)

pub returns-clause-added : goal.returns-clause-added
returns-clause-added c =
    let keys = c.args.names.now.keys in
    let text = c.in_ok-from_str.field-0 in
    let same : string_bytes text ≡ c.args.name.now.text.now = c.in_ok-from_str.ensures.ok in
    let new : list_any (string_eq text) keys ≡ false = ap (λ x. list_any (λ k. bytes_eq x (string_bytes k)) keys) same ∙ sym c.if-contains.ensures in
    ap (λ x. map (λ name. string_bytes name) x) (c.in_ok-insert.ensures.keys ∙ cond-false (list_any (string_eq text) keys) keys (keys ++ text ∷ []) new)
    ∙ map_push (λ name. string_bytes name) keys text
    ∙ ap (λ x. names_of c.args.names.now ++ x ∷ []) same
