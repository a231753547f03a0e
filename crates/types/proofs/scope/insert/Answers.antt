use Rattle.std.proofs.Common.{◌≡◌, ℕ, List, Some, None, Ok, ap, refl, sym, ◌∙◌}
use Rattle.std.specs.Prelude.{string_bytes}
use Rattle.types.specs.Environment.{declaring}
use Rattle.types.specs.Buckets.{found_short}
use Rattle.types.specs.ShortNames.{number_of}
use Rattle.types.specs.Views.{found_at, found_in}
use Rattle.types.proofs.ShortNames.{updates_long, updates_short}
use Rattle.types.proofs.scope.insert.Goals as goal

pub returns-in_ok-insert-in-Some : goal.returns-in_ok-insert-in-Some
returns-in_ok-insert-in-Some c =
    let name = c.args.name.now in
    let old = c.args.table.now in
    let numbered : number_of name ≡ Some c.in-Some.number = ap number_of (sym c.as_bytes.ensures.value) ∙ cc (c.number_of.ensures, c.in-Some.is) in
    let new = c.insert.new.self in
    let before = found_short old.short.shift old.short.buckets.items old.short.others in
    let after = found_short new.shift new.buckets.items new.others in
    let updated : (other : List ℕ) → found_at after old.long other (number_of other) ≡ declaring name c.args.meaning (found_in old) other =
    λ other. updates_short name c.in-Some.number (Some c.args.meaning) before after old.long numbered c.in_ok-insert-in-Some.ensures other (number_of other) refl in
    λ i. Ok (λ other. sym (updated other) i)

pub returns-in_ok-insert-in-None : goal.returns-in_ok-insert-in-None
returns-in_ok-insert-in-None c =
    let name = c.args.name.now in
    let old = c.args.table.now in
    let text : string_bytes c.in_ok-from_str-in-None.field-0 ≡ name = c.in_ok-from_str-in-None.ensures.ok in
    let numbered : number_of (string_bytes c.in_ok-from_str-in-None.field-0) ≡ None =
    ap number_of text ∙ ap number_of (sym c.as_bytes.ensures.value) ∙ cc (c.number_of.ensures, c.in-None.is) in
    let short = found_short old.short.shift old.short.buckets.items old.short.others in
    let updated : (other : List ℕ) → found_at short c.insert-in-None.new.self other (number_of other) ≡ declaring name c.args.meaning (found_in old) other =
    λ other. updates_long (string_bytes c.in_ok-from_str-in-None.field-0) (Some c.args.meaning) short old.long c.insert-in-None.new.self numbered c.in_ok-insert-in-None.ensures.updates other (number_of other) refl
    ∙ ap (λ bytes. declaring bytes c.args.meaning (found_in old) other) text in
    λ i. Ok (λ other. sym (updated other) i)
