use Rattle.std.proofs.Common.{◌≡◌, Some, None, refl, sym, ap, ◌∙◌}
use Rattle.types.specs.Buckets.{found_short}
use Rattle.types.specs.ShortNames.{number_of}
use Rattle.types.specs.Views.{found_in}
use Rattle.types.proofs.ShortNames.{updates_long, updates_short}
use Rattle.types.proofs.Tables.{without_one}
use Rattle.types.proofs.scope.remove.Goals as goal

pub returns-in-Some : goal.returns-in-Some
returns-in-Some c = λ other.
    let numbered : number_of c.args.name.now ≡ Some c.in-Some.number = ap number_of (sym c.as_bytes.ensures.value) ∙ cc (c.number_of.ensures, c.in-Some.is) in
    let old = c.args.table.now.short in
    let new = c.remove.new.self in
    updates_short c.args.name.now c.in-Some.number None (found_short old.shift old.buckets.items old.others) (found_short new.shift new.buckets.items new.others) c.args.table.now.long numbered c.remove.ensures other (number_of other) refl
    ∙ sym (without_one c.args.name.now (found_in c.args.table.now) other)

pub returns-in-None : goal.returns-in-None
returns-in-None c = λ other.
    let numbered : number_of c.args.name.now ≡ None = ap number_of (sym c.as_bytes.ensures.value) ∙ cc (c.number_of.ensures, c.in-None.is) in
    let short = c.args.table.now.short in
    updates_long c.args.name.now None (found_short short.shift short.buckets.items short.others) c.args.table.now.long c.remove-in-None.new.self numbered c.remove-in-None.ensures.updates other (number_of other) refl
    ∙ sym (without_one c.args.name.now (found_in c.args.table.now) other)
