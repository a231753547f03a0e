use Rattle.std.proofs.Common.{ℕ, arith}
use Rattle.labels.specs.Comparing.{HaveAll, Told}
use Rattle.labels.specs.declared.policy_bits.Role.TheVariants.{Owner, Reader}
use Rattle.labels.specs.Entries.{labels_in, own_at}
use Rattle.labels.specs.Label.{Covers}
use Rattle.labels.specs.LabelTable.{label_at}
use Rattle.labels.proofs.Compared.{all-none, kept-none}
use Rattle.labels.proofs.Held.{length-labels}
use Rattle.labels.proofs.under.Under.nothing_kept.Goals as goal

pub returns : goal.returns
returns c =
    let h = c.args.self.now.hierarchy.now in
    let es = c.args.self.now.entries.now in
    record {
      bits_are = record {
        starts_are = rw c.in-Some.is at c.in_ok-starts.ensures;
        owners_are = kept-none (λ (principal : ℕ). HaveAll es (Told h Owner principal)) c.in_ok-no_rows.field-0.items c.in_ok-no_rows.ensures;
        readers_are = kept-none (λ (principal : ℕ). HaveAll es (Told h Reader principal)) c.in_ok-no_rows-2.field-0.items c.in_ok-no_rows-2.ensures;
        wide_are = kept-none (λ (part : ℕ). HaveAll es (Covers h (own_at es part))) c.in_ok-no_rows-3.field-0.items c.in_ok-no_rows-3.ensures;
      };
      left_is = c.in_ok-left.ensures;
      other_is = c.in_ok-other.ensures;
      right_is = record {
        inside = omega (arith, c.requires.labels.some, length-labels es);
        covered_are = all-none es (Covers h (label_at (labels_in es) 0)) c.in_ok-covered.covered c.in_ok-covered.ensures;
      };
    }
