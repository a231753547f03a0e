use Rattle.std.proofs.Common.{sym, subst, ℕ}
use Rattle.labels.specs.Comparing.{AreBits, HaveAll}
use Rattle.labels.specs.Entries.{own_at}
use Rattle.labels.specs.Label.{Covers}
use Rattle.labels.proofs.Compared.{all-none, kept-none, of-all}
use Rattle.labels.proofs.under.Under.wide_of.Goals.{then-bits-eq0+in_ok-bits, else-bits-eq0}
use Rattle.labels.proofs.under.Under.wide_of.Goals as goal

pub cover_own-requires-clause-bits : goal.cover_own-requires-clause-bits
cover_own-requires-clause-bits c =
    let h = c.args.self.now.hierarchy.now in
    let es = c.args.self.now.entries.now in
    let are : AreBits h es c.if-bits-eq0.bits = elim c.if-bits-eq0.branch [
      | then-bits-eq0+in_ok-bits w ↦ subst (AreBits h es) (sym w.bits-is) (record {
        starts_are = c.requires.bits.starts_are;
        owners_are = c.requires.bits.owners_are;
        readers_are = c.requires.bits.readers_are;
        wide_are = kept-none (λ (part : ℕ). HaveAll es (Covers h (own_at es part))) w.in_ok-bits.field-0.items w.in_ok-bits.ensures;
      })
      | else-bits-eq0 w ↦ subst (AreBits h es) (sym w.bits-is) c.requires.bits
    ] in
    record { starts_are = are.starts_are; owners_are = are.owners_are; readers_are = are.readers_are; wide_are = are.wide_are }

pub returns-clause-covered : goal.returns-clause-covered
returns-clause-covered c =
    let es = c.args.self.now.entries.now in
    let P = Covers c.args.self.now.hierarchy.now (own_at es c.args.part) in
    of-all es P P c.in_ok-wide.wide c.cover_own.new.covered (λ x h. h) (all-none es P c.in_ok-wide.wide c.in_ok-wide.ensures) c.cover_own.ensures.covered
