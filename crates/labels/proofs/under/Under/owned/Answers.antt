use Rattle.std.proofs.Common.{sym, subst, ℕ}
use Rattle.labels.specs.Comparing.{HaveAll, Told}
use Rattle.labels.specs.declared.policy_bits.Role.TheVariants.{Owner}
use Rattle.labels.proofs.Compared.{all-joined, kept-fewer, kept-more}
use Rattle.labels.proofs.under.Under.owned.Goals.{After-keep, in-Some, in-None+in_ok-more-in-None}
use Rattle.labels.proofs.under.Under.owned.Goals as goal

more : (c : After-keep) → HaveAll c.args.self.now.entries.now (Told c.args.self.now.hierarchy.now Owner c.args.owner) c.match-take.more
more c =
    let All = HaveAll c.args.self.now.entries.now (Told c.args.self.now.hierarchy.now Owner c.args.owner) in
    elim c.match-take.branch [
      | in-Some w ↦ subst All (sym w.more-is) (c.requires.owners_are c.args.owner w.in-Some.more w.in-Some.ensures.taken)
      | in-None+in_ok-more-in-None w ↦ subst All (sym w.more-is) w.in_ok-more-in-None.ensures
    ]

pub returns : goal.returns
returns c =
    let h = c.args.self.now.hierarchy.now in
    let es = c.args.self.now.entries.now in
    let Q = λ (principal : ℕ). HaveAll es (Told h Owner principal) in
    record {
      bits = record {
        starts_are = c.requires.starts_are;
        owners_are = kept-more Q c.take.new.kept.items c.keep.new.kept.items c.args.owner c.match-take.more c.keep.ensures (more c)
            (kept-fewer Q c.args.bits.now.owners.items c.take.new.kept.items c.take.ensures.fewer c.requires.owners_are);
        readers_are = c.requires.readers_are;
        wide_are = c.requires.wide_are;
      };
      row = all-joined es (Told h Owner c.args.owner) c.in_ok-row.row c.match-take.more c.include.new.self c.in_ok-row.ensures (more c) c.include.ensures.bound c.include.ensures.members;
    }
