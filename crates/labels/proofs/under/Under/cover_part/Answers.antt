use Rattle.std.proofs.Common.{sym, subst, ℕ}
use Rattle.labels.specs.Comparing.{AreBits, HaveAll}
use Rattle.labels.specs.Entries.{own_at}
use Rattle.labels.specs.Label.{Covers}
use Rattle.labels.proofs.Compared.{kept-fewer, kept-more, of-more, of-same}
use Rattle.labels.proofs.under.Under.cover_part.Goals.{After-keep, in-Some, in-None+in_ok-wide-in-None}
use Rattle.labels.proofs.under.Under.cover_part.Goals as goal

bits : (c : After-keep) → AreBits c.args.self.now.hierarchy.now c.args.self.now.entries.now c.match-take.bits
bits c =
    let h = c.args.self.now.hierarchy.now in
    let es = c.args.self.now.entries.now in
    elim c.match-take.branch [
      | in-Some w ↦ subst (AreBits h es) (sym w.bits-is) (record {
        starts_are = c.requires.bits.starts_are;
        owners_are = c.requires.bits.owners_are;
        readers_are = c.requires.bits.readers_are;
        wide_are = kept-fewer (λ (part : ℕ). HaveAll es (Covers h (own_at es part))) c.args.bits.now.wide.items c.take.new.kept.items c.take.ensures.fewer c.requires.bits.wide_are;
      })
      | in-None+in_ok-wide-in-None w ↦ subst (AreBits h es) (sym w.bits-is) w.in_ok-wide-in-None.ensures.bits
    ]

wide : (c : After-keep) → HaveAll c.args.self.now.entries.now (Covers c.args.self.now.hierarchy.now (own_at c.args.self.now.entries.now c.args.part)) c.match-take.wide
wide c =
    let All = HaveAll c.args.self.now.entries.now (Covers c.args.self.now.hierarchy.now (own_at c.args.self.now.entries.now c.args.part)) in
    elim c.match-take.branch [
      | in-Some w ↦ subst All (sym w.wide-is) (c.requires.bits.wide_are c.args.part w.in-Some.wide w.in-Some.ensures.taken)
      | in-None+in_ok-wide-in-None w ↦ subst All (sym w.wide-is) w.in_ok-wide-in-None.ensures.covered
    ]

pub returns : goal.returns
returns c =
    let h = c.args.self.now.hierarchy.now in
    let es = c.args.self.now.entries.now in
    let P = Covers h (own_at es c.args.part) in
    let are = bits c in
    record {
      bits = record {
        starts_are = are.starts_are;
        owners_are = are.owners_are;
        readers_are = are.readers_are;
        wide_are = kept-more (λ (part : ℕ). HaveAll es (Covers h (own_at es part))) c.match-take.bits.wide.items c.keep.new.kept.items c.args.part c.match-take.wide c.keep.ensures (wide c) are.wide_are;
      };
      covered = of-more es P c.args.covered.now c.args.covered.now c.match-take.wide c.include.new.self (of-same es P c.args.covered.now) (wide c) c.include.ensures.bound c.include.ensures.members;
    }
