use Rattle.std.proofs.Common.{◌≡◌, refl, sym, ap, ◌∙◌, ℕ, [], arith}
use Rattle.std.specs.Prelude.{IsTrue, ◌==◌}
use Rattle.std.proofs.lemmas.Bool.{eq-eqb}
use Rattle.std.specs.Option.{option_copied}
use Rattle.labels.specs.Entries.{numbers_in, row_at}
use Rattle.labels.specs.Row.{has}
use Rattle.labels.proofs.Compared.{or-first, or-second}
use Rattle.labels.proofs.Held.{among-none, each-all, each-made, each-more, part-inside}
use Rattle.labels.proofs.under.Under.add_label.Goals as goal

pub returns-in_default : goal.returns-in_default
returns-in_default c =
    let es = c.args.self.now.entries.now in
    let P = λ (part : ℕ). IsTrue (has c.add_part.new.left.parts part) in
    let row : row_at es c.args.label ≡ [] = sym c.row_at.ensures ∙ ap (λ o. numbers_in (option_copied o)) c.in_default.is in
    record {
      left = c.add_part.ensures.left;
      labels = c.add_part.ensures.labels;
      kept = λ n held. c.add_part.ensures.parts n ∙ or-second (n == c.args.label) (has c.args.left.now.parts n) held;
      added = each-made P es c.args.label [] row (c.add_part.ensures.parts c.args.label ∙ or-first (c.args.label == c.args.label) (has c.args.left.now.parts c.args.label) (eq-eqb c.args.label c.args.label refl)) (among-none P);
    }

pub loop-part-init : goal.loop-part-init
loop-part-init c = record {
  inside = omega arith;
  left = c.add_part.ensures.left;
  labels = c.add_part.ensures.labels;
  kept = λ n held. c.add_part.ensures.parts n ∙ or-second (n == c.args.label) (has c.args.left.now.parts n) held;
  itself = c.add_part.ensures.parts c.args.label ∙ or-first (c.args.label == c.args.label) (has c.args.left.now.parts c.args.label) (eq-eqb c.args.label c.args.label refl);
  added = λ part lt held. absurd (omega (arith, lt));
}

pub add_part-requires-in-Some-first_beyond-clause-part : goal.add_part-requires-in-Some-first_beyond-clause-part
add_part-requires-in-Some-first_beyond-clause-part c =
    let es = c.args.self.now.entries.now in
    let row : row_at es c.args.label ≡ c.in-Some.row.now = sym c.row_at.ensures ∙ ap (λ o. numbers_in (option_copied o)) c.in-Some.is in
    part-inside es c.args.label c.in-Some-first_beyond.part c.in-Some.row.now c.requires.table.are c.requires.label row c.in-Some-first_beyond.ensures.inside

pub loop-part-preserved : goal.loop-part-preserved
loop-part-preserved c =
    let inv = c.loop-part.invariant in
    let part = c.in-Some-first_beyond.part in
    let new = c.add_part-in-Some-first_beyond.new.left in
    let P = λ (n : ℕ). IsTrue (has new.parts n) in
    let keeps : (n : ℕ) → IsTrue (has c.loop-part.left.parts n) → P n = λ n held. c.add_part-in-Some-first_beyond.ensures.parts n ∙ or-second (n == part) (has c.loop-part.left.parts n) held in
    record {
      inside = let inside = c.in-Some-first_beyond.ensures.inside in omega (arith, inside);
      left = c.add_part-in-Some-first_beyond.ensures.left;
      labels = c.add_part-in-Some-first_beyond.ensures.labels ∙ inv.labels;
      kept = λ n held. keeps n (inv.kept n held);
      itself = keeps c.args.label inv.itself;
      added = each-more P c.in-Some.row.now c.loop-part.left.parts c.loop-part.from part c.in-Some-first_beyond.ensures (λ n lt held. keeps n (inv.added n lt held)) keeps
          (c.add_part-in-Some-first_beyond.ensures.parts part ∙ or-first (part == part) (has c.loop-part.left.parts part) (eq-eqb part part refl));
    }

pub returns : goal.returns
returns c =
    let es = c.args.self.now.entries.now in
    let inv = c.loop-part.invariant in
    let P = λ (n : ℕ). IsTrue (has c.loop-part.left.parts n) in
    let row : row_at es c.args.label ≡ c.in-Some.row.now = sym c.row_at.ensures ∙ ap (λ o. numbers_in (option_copied o)) c.in-Some.is in
    record {
      left = inv.left;
      labels = inv.labels;
      kept = inv.kept;
      added = each-made P es c.args.label c.in-Some.row.now row inv.itself
          (each-all P c.in-Some.row.now c.loop-part.left.parts c.loop-part.from c.in_default-first_beyond.ensures inv.added (λ n held. held));
    }
