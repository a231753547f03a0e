use Rattle.std.proofs.Common.{◌≡◌, ◌/◌, ◌≤◌, length, get_or, ⊎_elim, ◌∙◌, arith}
use Rattle.std.proofs.lemmas.Bool.{cases_lt}
use Rattle.std.proofs.lemmas.List.{get_or_past}
use Rattle.principals.proofs.Bits.{bit_among-or}
use Rattle.principals.proofs.principal_set.PrincipalSet.merge.Goals as goal

pub returns : goal.returns
returns c member =
    let olds = c.args.self.now.words in
    let mores = c.args.other.now.words in
    bit_among-or c.loop-i.self.words olds mores member (⊎_elim
    (λ h. c.loop-i.invariant.below (member / 64) h)
    (λ h. let few : length olds ≤ member / 64 = omega arith in
    let few_more : length mores ≤ member / 64 = omega arith in
    let old : get_or olds (member / 64) 0 ≡ 0 = get_or_past olds (member / 64) 0 few in
    let more : get_or mores (member / 64) 0 ≡ 0 = get_or_past mores (member / 64) 0 few_more in
    c.loop-i.invariant.above (member / 64) h ∙ (rw (old, more)))
    (cases_lt (member / 64) c.loop-i.i))
