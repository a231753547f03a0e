use Rattle.std.proofs.Common.{arith, length, sym, ◌∙◌, ◌≡◌, ◌≤◌}
use Rattle.std.proofs.lemmas.List.{length-map}
use Rattle.std.proofs.lemmas.Result.{err_from_is_err_and}
use Rattle.std.specs.String.{string_bytes}
use Rattle.bytecode.specs.Reading.{texts}
use Rattle.bytecode.proofs.Facts.{hierarchy-fails, hierarchy-read, names-kept, names-read, pairs-read}
use Rattle.bytecode.proofs.hierarchy.read_hierarchy.Goals as goal

pub overflow_cast-len : goal.overflow_cast-len
overflow_cast-len c =
    let few : length (texts c.in_ok-names.names.items) ≤ 256 = names-read c.args.bytes.now (texts c.in_ok-names.names.items) c.in_ok-names.rest.now (record { below = λ i. omega (arith, c.type_inv.bytes i) }) c.in_ok-names.ensures in
    omega (arith, few, length-map c.in_ok-names.names.items string_bytes, c.in_ok-names.names.ok.0, c.len.ensures)

pub returns-in_err-pairs : goal.returns-in_err-pairs
returns-in_err-pairs c =
    let size : c.len.result ≡ length (texts c.in_ok-names.names.items) = c.len.ensures ∙ c.in_ok-names.names.ok.0 ∙ sym (length-map c.in_ok-names.names.items string_bytes) in
    let p = err_from_is_err_and c.from_residual-in_err-pairs.result c.from_residual-in_err-pairs.ensures.1 in
    rw (p.1, p.2) (hierarchy-fails c.in_err-pairs.field-0.0 c.args.bytes.now (texts c.in_ok-names.names.items) c.in_ok-names.rest.now c.in_ok-names.ensures (rw size at c.in_err-pairs.ensures))

pub of-requires-clause-few : goal.of-requires-clause-few
of-requires-clause-few c =
    let few : length (texts c.in_ok-names.names.items) ≤ 256 = names-read c.args.bytes.now (texts c.in_ok-names.names.items) c.in_ok-names.rest.now (record { below = λ i. omega (arith, c.type_inv.bytes i) }) c.in_ok-names.ensures in
    omega (arith, few, length-map c.in_ok-names.names.items string_bytes, c.in_ok-names.names.ok.0)

pub of-requires-clause-different : goal.of-requires-clause-different
of-requires-clause-different c =
    let size : c.len.result ≡ length (texts c.in_ok-names.names.items) = c.len.ensures ∙ c.in_ok-names.names.ok.0 ∙ sym (length-map c.in_ok-names.names.items string_bytes) in
    (pairs-read c.args.bytes.now (texts c.in_ok-names.names.items) c.in_ok-names.rest.now c.in_ok-pairs.pairs.items c.in_ok-pairs.rest.now (record { below = λ i. omega (arith, c.type_inv.bytes i) }) c.in_ok-names.ensures (rw size at c.in_ok-pairs.ensures)).different

pub of-requires-clause-named : goal.of-requires-clause-named
of-requires-clause-named c =
    names-kept c.args.bytes.now (texts c.in_ok-names.names.items) c.in_ok-names.rest.now (record { below = λ i. omega (arith, c.type_inv.bytes i) }) c.in_ok-names.ensures

pub of-requires-clause-there : goal.of-requires-clause-there
of-requires-clause-there c =
    let size : c.len.result ≡ length (texts c.in_ok-names.names.items) = c.len.ensures ∙ c.in_ok-names.names.ok.0 ∙ sym (length-map c.in_ok-names.names.items string_bytes) in
    let there = (pairs-read c.args.bytes.now (texts c.in_ok-names.names.items) c.in_ok-names.rest.now c.in_ok-pairs.pairs.items c.in_ok-pairs.rest.now (record { below = λ i. omega (arith, c.type_inv.bytes i) }) c.in_ok-names.ensures (rw size at c.in_ok-pairs.ensures)).there in
    rw (← c.len.ensures, size) there

pub returns : goal.returns
returns c =
    let size : c.len.result ≡ length (texts c.in_ok-names.names.items) = c.len.ensures ∙ c.in_ok-names.names.ok.0 ∙ sym (length-map c.in_ok-names.names.items string_bytes) in
    hierarchy-read c.args.bytes.now (texts c.in_ok-names.names.items) c.in_ok-names.rest.now c.in_ok-pairs.pairs.items c.in_ok-pairs.rest.now c.in_ok-of.field-0 c.in_ok-names.ensures (rw size at c.in_ok-pairs.ensures) c.in_ok-of.ensures.names c.in_ok-of.ensures.pairs
