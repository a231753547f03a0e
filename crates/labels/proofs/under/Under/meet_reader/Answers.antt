use Rattle.std.proofs.Common.{sym, ◌∙◌, subst, ℕ}
use Rattle.labels.specs.Comparing.{HaveAll, Told}
use Rattle.labels.specs.declared.policy_bits.Role.TheVariants.{Reader}
use Rattle.labels.proofs.Compared.{and-both, kept-fewer, kept-more}
use Rattle.labels.proofs.under.Under.meet_reader.Goals.{After-keep, in-Some, in-None+in_ok-reads-in-None}
use Rattle.labels.proofs.under.Under.meet_reader.Goals as goal

pub meet-requires : goal.meet-requires
meet-requires c =
    let All = HaveAll c.args.self.now.entries.now (Told c.args.self.now.hierarchy.now Reader c.args.reader) in
    let reads : All c.match-take.reads = elim c.match-take.branch [
      | in-Some w ↦ subst All (sym w.reads-is) (c.requires.bits.readers_are c.args.reader w.in-Some.reads w.in-Some.ensures.taken)
      | in-None+in_ok-reads-in-None w ↦ subst All (sym w.reads-is) w.in_ok-reads-in-None.ensures
    ] in
    c.requires.count ∙ sym reads.count

reads : (c : After-keep) → HaveAll c.args.self.now.entries.now (Told c.args.self.now.hierarchy.now Reader c.args.reader) c.match-take.reads
reads c =
    let All = HaveAll c.args.self.now.entries.now (Told c.args.self.now.hierarchy.now Reader c.args.reader) in
    elim c.match-take.branch [
      | in-Some w ↦ subst All (sym w.reads-is) (c.requires.bits.readers_are c.args.reader w.in-Some.reads w.in-Some.ensures.taken)
      | in-None+in_ok-reads-in-None w ↦ subst All (sym w.reads-is) w.in_ok-reads-in-None.ensures
    ]

pub returns : goal.returns
returns c =
    let h = c.args.self.now.hierarchy.now in
    let es = c.args.self.now.entries.now in
    let Q = λ (principal : ℕ). HaveAll es (Told h Reader principal) in
    record {
      bits = record {
        starts_are = c.requires.bits.starts_are;
        owners_are = c.requires.bits.owners_are;
        readers_are = kept-more Q c.take.new.kept.items c.keep.new.kept.items c.args.reader c.match-take.reads c.keep.ensures (reads c)
            (kept-fewer Q c.args.bits.now.readers.items c.take.new.kept.items c.take.ensures.fewer c.requires.bits.readers_are);
        wide_are = c.requires.bits.wide_are;
      };
      count = c.meet.ensures.bound;
      only = λ s d there.
          let both = and-both _ _ (sym (c.meet.ensures.members s) ∙ there) in
          (both.0, (reads c).each s d both.1);
    }
