use Rattle.std.proofs.Common.{◌/◌, ◌<◌, ◌≤◌, length, refl, ⊎_elim, arith, rules, true≢false, sym}
use Rattle.std.proofs.lemmas.Bool.{cases_lt}
use Rattle.principals.proofs.Meeting.{beyond, in_both, in_neither}
use Rattle.principals.proofs.principal_set.PrincipalSet.meets.Goals as goal

pub returns-then-self-i-ne0 : goal.returns-then-self-i-ne0
returns-then-self-i-ne0 c = (λ _. in_both c.args.self.now.words c.args.other.now.words c.loop-i.i (search rules) c.if-self-i-ne0.true, λ _. refl)

pub returns : goal.returns
returns c = (
  λ h. absurd (true≢false (sym h)),
  λ found. absurd (⊎_elim
      (λ (h : found.0 / 64 < c.loop-i.i). in_neither c.args.self.now.words c.args.other.now.words found.0 (c.loop-i.invariant (found.0 / 64) h) found.1 found.2)
      (λ (h : c.loop-i.i ≤ found.0 / 64).
      let past : length c.args.self.now.words ≤ found.0 / 64 = omega arith in
      beyond c.args.self.now.words found.0 past found.1)
      (cases_lt (found.0 / 64) c.loop-i.i)),
)
