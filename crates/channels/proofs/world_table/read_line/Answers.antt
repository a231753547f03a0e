use Rattle.std.proofs.Common.{sym, ◌∙◌, ap, [], List, ℕ, ℤ, Bor, ◌≡◌, Option, Some, get_or}
use Rattle.std.specs.Option.{option_map}
use Rattle.std.specs.declared.alloc.Global.{Global}
use Rattle.std.specs.declared.vec.Vec.{Vec}
use Rattle.std.proofs.lemmas.Map.Text.{btree_map_updates_str}
use Rattle.channels.proofs.Words.{form_numbers, put_entry}
use Rattle.channels.proofs.world_table.read_line.Goals as goal

pub numbers_of-requires : goal.numbers_of-requires
numbers_of-requires c = form_numbers c.args.words.now c.in-len2-up.len_at_least (sym c.has_form.ensures ∙ c.if-not-has_form.false)

pub returns-clause-table : goal.returns-clause-table
returns-clause-table c = λ name.
    let words = c.args.words.now in
    let d : Bor (List ℕ) = record { ref_ptr = (0, 0); now = [] } in
    let entry = λ (e : Option (Vec ℤ Global)). option_map (λ (numbers : Vec ℤ Global). numbers.items) e in
    let found = btree_map_updates_str (get_or words 0 d).now c.args.inputs.now c.insert.new.self (Some (Some c.in-Some.numbers)) c.in_ok-insert.ensures.updates name in
    let numbers : Some c.in-Some.numbers.items ≡ option_map (λ (n : Vec ℤ Global). n.items) c.in_ok-numbers.field-0 = ap (λ (e : Option (Vec ℤ Global)). option_map (λ (n : Vec ℤ Global). n.items) e) (sym c.in-Some.is) in
    ap (option_map entry) found ∙ put_entry words d c.args.inputs.now c.in-Some.numbers name c.in-len2-up.len_at_least (numbers ∙ c.in_ok-numbers.ensures)
