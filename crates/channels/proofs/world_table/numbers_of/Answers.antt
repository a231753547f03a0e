use Rattle.std.proofs.Common.{refl, sym, ◌∙◌, take, ap, [], ◌∷◌, ◌++◌, List, ℕ, ℤ, Bor, map, get_or, rules}
use Rattle.std.specs.Int.{w32}
use Rattle.std.specs.Prelude.{FitsSigned}
use Rattle.std.proofs.lemmas.Int.{to_z-of_z}
use Rattle.std.proofs.lemmas.Option.{cond_some}
use Rattle.channels.specs.WorldText.{number_of, texts_of}
use Rattle.channels.proofs.Words.{word_number, some_outside, none_outside, numbers_more, all_more}
use Rattle.channels.proofs.world_table.numbers_of.Goals as goal

pub number_of-requires : goal.number_of-requires
number_of-requires c = word_number c.args.words.now c.loop-word.word-index (record { ref_ptr = (0, 0); now = [] }) c.requires c.loop-word-test.true

pub returns-in_default : goal.returns-in_default
returns-in_default c =
    let out = none_outside _ _ (sym c.number_of.ensures ∙ c.in_default.is) in
    let all = some_outside c.args.words.now c.loop-word.word-index (record { ref_ptr = (0, 0); now = [] }) c.loop-word-test.true out in
    rw all refl

pub loop-word-preserved : goal.loop-word-preserved
loop-word-preserved c =
    let words = c.args.words.now in
    let k = c.loop-word.word-index in
    let d : Bor (List ℕ) = record { ref_ptr = (0, 0); now = [] } in
    let inside = cond_some _ _ c.in-Some.number (sym c.number_of.ensures ∙ c.in-Some.is) in
    let fits : FitsSigned w32 c.in-Some.number = search rules in
    let more = numbers_more words k d c.loop-word-test.true in
    let before = map number_of (texts_of (take k words)) in
    record {
      numbers =
          c.in_ok-push.ensures.items
          ∙ ap (λ (n : ℤ). c.loop-word.numbers.items ++ n ∷ []) (to_z-of_z w32 c.in-Some.number fits)
          ∙ ap (λ (ns : List ℤ). ns ++ c.in-Some.number ∷ []) c.loop-word.invariant.numbers
          ∙ ap (λ (n : ℤ). before ++ n ∷ []) (sym inside.1)
          ∙ sym more;
      fit = rw more (all_more before (number_of (get_or words k d).now) c.loop-word.invariant.fit inside.0);
    }
