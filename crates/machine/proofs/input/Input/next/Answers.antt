use Rattle.std.proofs.Common.{sym, ◌∙◌, ap, slice_get, length, ◌-◌, List, ℤ}
use Rattle.machine.proofs.Lists.{first-reverse}
use Rattle.machine.proofs.input.Input.next.Goals as goal

pub returns : goal.returns
returns c =
    c.copied.ensures ∙ c.last.ensures.value ∙ ap (λ (xs : List ℤ). slice_get xs (length xs - 1)) c.deref.ensures.value
    ∙ sym (first-reverse c.self.inside.numbers.items) ∙ ap (λ (xs : List ℤ). slice_get xs 0) c.self.view_is
