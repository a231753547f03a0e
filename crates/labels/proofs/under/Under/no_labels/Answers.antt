use Rattle.std.proofs.Common.{ap, ◌∙◌, length, false}
use Rattle.std.proofs.lemmas.Simd.{length-replicate}
use Rattle.labels.specs.Comparing.{slots}
use Rattle.labels.proofs.Compared.{none-held}
use Rattle.labels.proofs.under.Under.no_labels.Goals as goal

pub returns : goal.returns
returns c =
    let es = c.args.self.now.entries.now in
    record {
      labels_count = ap length c.in_ok-new.ensures ∙ length-replicate (length es) false;
      parts_count = ap length c.in_ok-new-2.ensures ∙ length-replicate (length es) false;
      policies_count = ap length c.in_ok-none.ensures ∙ length-replicate (length (slots es)) false;
      parts_are = λ part held. none-held c.in_ok-new-2.field-0 (length es) part c.in_ok-new-2.ensures held;
      complete = λ label held. none-held c.in_ok-new.field-0 (length es) label c.in_ok-new.ensures held;
    }
