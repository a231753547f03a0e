use Rattle.std.proofs.Common.{sym, ◌∙◌, List, ℕ, Bor, []}
use Rattle.std.proofs.lemmas.List.Folds.{list_all_at, list_all-map}
use Rattle.channels.specs.WorldText.{is_number}
use Rattle.channels.proofs.world_text.are_numbers.Goals as goal

pub returns-then-not-is_number : goal.returns-then-not-is_number
returns-then-not-is_number c =
    sym (list_all-map is_number (λ (text : Bor (List ℕ)). text.now) c.args.words.now
    ∙ list_all_at (λ (text : Bor (List ℕ)). is_number text.now) c.args.words.now c.loop-word.word-index (record { ref_ptr = (0, 0); now = [] }) c.loop-word-test.true (sym c.is_number.ensures ∙ c.if-not-is_number.true))
