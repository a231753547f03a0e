use Rattle.std.proofs.Common.{ap, sym, ◌∙◌}
use Rattle.lexer.specs.Words.{is_name_text}
use Rattle.std.specs.BTreeSet.{contains_text}
use Rattle.bytecode.proofs.NewNames.{no_text, is_new, no_name, not_new}
use Rattle.bytecode.proofs.names.read_new_name.Goals as goal
use Rattle.bytecode.proofs.names.read_new_name.Goals.{else-is_name-via-then-is_name+else-not-contains, else-is_name-via-else-is_name}

pub returns-in_default : goal.returns-in_default
returns-in_default c = no_text (contains_text c.args.taken.now) c.args.text.now c.in_default.ensures.cases.0

pub returns-then-not-contains : goal.returns-then-not-contains
returns-then-not-contains c =
    let same = sym c.in-Ok.ensures.cases.0 in (
      c.in-Ok.ensures.cases.0,
      is_new (contains_text c.args.taken.now) c.args.text.now c.in-Ok.ensures.cases.1
          (ap is_name_text same ∙ sym c.if-is_name.ensures)
          (ap (contains_text c.args.taken.now) same ∙ sym c.if-not-contains.ensures),
    )

pub returns-else-is_name : goal.returns-else-is_name
returns-else-is_name c =
    let same = sym c.in-Ok.ensures.cases.0 in
    elim c.else-is_name.branch [
      | else-is_name-via-then-is_name+else-not-contains w ↦ not_new (contains_text c.args.taken.now) c.args.text.now c.in-Ok.ensures.cases.1
          (ap is_name_text same ∙ sym w.if-is_name.ensures)
          (ap (contains_text c.args.taken.now) same ∙ sym w.if-not-contains.ensures)
      | else-is_name-via-else-is_name w ↦ no_name (contains_text c.args.taken.now) c.args.text.now c.in-Ok.ensures.cases.1
          (ap is_name_text same ∙ sym w.if-is_name.ensures)
    ]
