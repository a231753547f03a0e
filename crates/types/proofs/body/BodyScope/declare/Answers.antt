use Rattle.std.proofs.Common.{◌≡◌, [], ◌∷◌, None, length, take, Ok, ap, sym, ◌∙◌, refl, arith, length-append}
use Rattle.std.proofs.Math.Seq.{take-append_seam}
use Rattle.resolved.specs.declared.expression.Variable.TheVariants.{Local}
use Rattle.types.specs.declared.scope.Meaning.TheVariants as meanings
use Rattle.types.specs.Environment.{declaring}
use Rattle.types.specs.Views.{found_in, names_of, new_slot_entry, or_else}
use Rattle.types.proofs.Declarations.{next_slot}
use Rattle.types.proofs.Tables.{inner_named, inner_none, without_last}
use Rattle.types.proofs.body.BodyScope.declare.Goals as goal

pub returns-clause-made : goal.returns-clause-made
returns-clause-made c =
    let before = c.args.self.now in
    let name = c.args.slot.name.now in
    let number = length c.slots.result.now in
    let next : number ≡ length before.variables.slots = next_slot before.variables.labels c.slots.result.now before.variables.slots number c.slots.ensures refl in
    let named : declaring name (meanings.Variable (Local (length before.variables.slots)) c.args.slot.base c.args.slot.size) (names_of before) ≡ (λ other. or_else (found_in c.insert.new.table other) (found_in before.top.now.names other)) =
    ap (λ n. declaring name (meanings.Variable (Local n) c.args.slot.base c.args.slot.size) (names_of before)) (sym next)
    ∙ inner_named (λ other. found_in before.locals other) (λ other. found_in before.top.now.names other) _ _ _ c.in_ok-insert.ensures in
    let all = sym c.in_ok-declare.ensures.slots in
    λ i. Ok (record { names = named i; slots = all i; loops = before.loops })

pub returns-clause-later : goal.returns-clause-later
returns-clause-later c =
    let before = c.args.self.now in
    let declared = before.declared.items in
    let fresh : found_in before.locals c.args.slot.name.now ≡ None = inner_none _ (found_in before.top.now.names c.args.slot.name.now) c.requires.fresh in
    record {
      hierarchy = refl;
      top = refl;
      globals = c.in_ok-declare.ensures.globals;
      labels = c.in_ok-declare.ensures.extended;
      result = refl;
      declared = ap (take (length declared)) c.in_ok-push.ensures.items ∙ take-append_seam declared _;
      locals = without_last declared _ _ _ (meanings.Variable (Local (length c.slots.result.now)) c.args.slot.base c.args.slot.size) (found_in before.locals) (found_in c.insert.new.table) c.in_ok-push.ensures.items refl fresh c.in_ok-insert.ensures;
    }

pub returns-clause-grows : goal.returns-clause-grows
returns-clause-grows c =
    let variables = c.args.self.now.variables in
    let one_more = length-append variables.slots (new_slot_entry variables.labels c.args.slot ∷ []) in
    omega (arith, c.in_ok-declare.ensures.few, ap length c.in_ok-declare.ensures.slots, one_more)
