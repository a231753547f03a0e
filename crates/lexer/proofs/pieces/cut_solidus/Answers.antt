use Rattle.lexer.specs.Patterns.{Word}
use Rattle.std.proofs.Common.{◌≡◌, ◌∷◌, ℕ, List, Option, [], length, refl, sym, ap, subst, ◌∙◌}
use Rattle.std.specs.Str.{chars}
use Rattle.std.specs.Str.Iter.{chars_rest, chars_steps}
use Rattle.lexer.specs.Cut.{IsNextLexeme}
use Rattle.lexer.specs.KindOf.{kind_of}
use Rattle.lexer.specs.declared.token.Kind.TheVariants.{Slash}
use Rattle.lexer.proofs.Nexts.{next_solidus, IsNotFirst}
use Rattle.lexer.proofs.Reading.{moved, line_read, block_read, open_read}
use Rattle.lexer.proofs.Steps.{step, chars-empty}
use Rattle.lexer.proofs.pieces.cut_solidus.Goals as goal
use Rattle.lexer.proofs.pieces.cut_solidus.Goals.{in_default-via-in-Some+in_default, in_default-via-in_default}

pub returns-in-Some-eq47 : goal.returns-in-Some-eq47
returns-in-Some-eq47 c =
    let parts = sym c.chars-characters.ensures.rest ∙ c.in-Some-eq47.ensures.steps.0 in
    let h = step c.args.after.now (chars_rest c.next.new.self) c.in-Some-eq47.field-0 c.utf8.after parts in
    let first : ◌≡◌ {A = ℕ} c.in-Some-eq47.field-0 47 = c.in-Some-eq47.field-0-test in
    line_read (chars c.args.text.now) (chars c.as_str.result.now) _
    (c.requires ∙ ap (λ t. 47 ∷ t) (h.characters ∙ (ap (λ d. d ∷ chars (chars_rest c.next.new.self)) first ∙ ap (λ t. 47 ∷ chars t) (sym c.as_str.ensures))))
    c.skip_run.ensures

pub returns-in-Some : goal.returns-in-Some
returns-in-Some c =
    let parts = sym c.chars-characters.ensures.rest ∙ c.in-Some-eq42.ensures.steps.0 in
    let h = step c.args.after.now (chars_rest c.next.new.self) c.in-Some-eq42.field-0 c.utf8.after parts in
    let first : ◌≡◌ {A = ℕ} c.in-Some-eq42.field-0 42 = c.in-Some-eq42.field-0-test in
    block_read (chars c.args.text.now) (chars c.as_str-in-Some-eq42.result.now) _
    (c.requires ∙ ap (λ t. 47 ∷ t) (h.characters ∙ (ap (λ d. d ∷ chars (chars_rest c.next.new.self)) first ∙ ap (λ t. 42 ∷ chars t) (sym c.as_str-in-Some-eq42.ensures))))
    c.in-Some.ensures

pub returns-in-None : goal.returns-in-None
returns-in-None c =
    let parts = sym c.chars-characters.ensures.rest ∙ c.in-Some-eq42.ensures.steps.0 in
    let h = step c.args.after.now (chars_rest c.next.new.self) c.in-Some-eq42.field-0 c.utf8.after parts in
    let first : ◌≡◌ {A = ℕ} c.in-Some-eq42.field-0 42 = c.in-Some-eq42.field-0-test in
    let (front, (rest, next)) = open_read (chars c.args.text.now) (chars c.as_str-in-Some-eq42.result.now)
    (c.requires ∙ ap (λ t. 47 ∷ t) (h.characters ∙ (ap (λ d. d ∷ chars (chars_rest c.next.new.self)) first ∙ ap (λ t. 42 ∷ chars t) (sym c.as_str-in-Some-eq42.ensures))))
    c.in-None.ensures in
    (refl, (front, rest, next))

-- the sign alone
alone : (text after : List ℕ) → text ≡ 47 ∷ after → IsNotFirst 47 after × IsNotFirst 42 after
    → (front : List ℕ) × IsNextLexeme text (Word (kind_of Slash)) front after
alone text after e none = (47 ∷ [], moved _ _ _ _ _ _ _ _ (sym e) refl refl refl (next_solidus after none.0 none.1))

pub returns-in_default : goal.returns-in_default
returns-in_default c =
    let none : IsNotFirst 47 (chars c.args.after.now) × IsNotFirst 42 (chars c.args.after.now) = elim c.in_default.branch [
      | in_default-via-in-Some+in_default w ↦
          let parts = sym c.chars-characters.ensures.rest ∙ w.in_default.ensures.steps.0 in
          let h = step c.args.after.now (chars_rest c.next.new.self) _ c.utf8.after parts in
          (subst (IsNotFirst 47) (sym h.characters) w.in_default.field-0-test.0.1, subst (IsNotFirst 42) (sym h.characters) w.in_default.field-0-test.1)
      | in_default-via-in_default w ↦
          let P : Option ℕ → Type 0 = λ r. chars_steps c.chars-characters.result r c.next.new.self in
          let ended = (subst P w.in_default.is c.next.ensures.steps).0.0 in
          let empty = chars-empty c.args.after.now (ap length (sym c.chars-characters.ensures.rest) ∙ ended) in
          (subst (IsNotFirst 47) (sym empty) tt, subst (IsNotFirst 42) (sym empty) tt)
    ] in
    alone (chars c.args.text.now) (chars c.args.after.now) c.requires none
