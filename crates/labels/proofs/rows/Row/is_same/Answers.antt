use Rattle.std.proofs.Common.{◌≡◌, ap, sym, ◌∙◌, subst, length, List, Bool, true, false, arith}
use Rattle.std.specs.Prelude.{IsTrue}
use Rattle.labels.specs.Row.{has}
use Rattle.labels.proofs.RowBits.{includes-both, length-bits}
use Rattle.labels.proofs.rows.Row.is_same.Goals as goal

pub returns-then-self-other : goal.returns-then-self-other
returns-then-self-other c = (
  λ no. absurd (cc),
  λ e.
      let bound = length-bits c.self.inside.words.items 0 c.self.inside.n in
      let other = length-bits c.other.inside.words.items 0 c.other.inside.n in
      absurd (c.if-self-other.true (omega (arith, bound, other, ap length c.self.view_is, ap length c.other.view_is, ap length e))),
)

pub covers-requires : goal.covers-requires
covers-requires c =
    let bound = length-bits c.self.inside.words.items 0 c.self.inside.n in
    let other = length-bits c.other.inside.words.items 0 c.other.inside.n in
    omega (arith, bound, other, ap length c.self.view_is, ap length c.other.view_is, c.if-self-other.false)

pub returns-then-not-covers : goal.returns-then-not-covers
returns-then-not-covers c = (
  λ no. absurd (cc),
  λ e.
      let yes = c.covers.ensures.1 (λ i there. subst (λ (row : List Bool). IsTrue (has row i)) (sym e) there) in
      absurd (let no : true ≡ false = sym yes ∙ c.if-not-covers.true in cc),
)

pub covers-requires-2 : goal.covers-requires-2
covers-requires-2 c =
    let bound = length-bits c.self.inside.words.items 0 c.self.inside.n in
    let other = length-bits c.other.inside.words.items 0 c.other.inside.n in
    omega (arith, bound, other, ap length c.self.view_is, ap length c.other.view_is, c.if-self-other.false)

pub returns : goal.returns
returns c =
    let bound = length-bits c.self.inside.words.items 0 c.self.inside.n in
    let other = length-bits c.other.inside.words.items 0 c.other.inside.n in
    let same : length c.args.self.now ≡ length c.args.other.now = omega (arith, bound, other, ap length c.self.view_is, ap length c.other.view_is, c.if-self-other.false) in (
      λ yes. includes-both c.args.self.now c.args.other.now same (c.covers.ensures.0 c.if-not-covers.false) (c.covers-2.ensures.0 yes),
      λ e. c.covers-2.ensures.1 (λ i there. subst (λ (row : List Bool). IsTrue (has row i)) e there),
    )
