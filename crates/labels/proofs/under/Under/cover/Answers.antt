use Rattle.std.proofs.Common.{◌≡◌, sym, ap, ◌∙◌, arith}
use Rattle.std.specs.Option.{option_copied}
use Rattle.labels.specs.Entries.{numbers_in, row_at}
use Rattle.labels.proofs.Compared.{right-more}
use Rattle.labels.proofs.Held.{made-in_row, made-itself, part-inside}
use Rattle.labels.proofs.under.Under.cover.Goals as goal

pub returns-in_err-cover_part-clause-right : goal.returns-in_err-cover_part-clause-right
returns-in_err-cover_part-clause-right c =
    let es = c.args.self.now.entries.now in
    right-more c.args.self.now.hierarchy.now es c.begin.new.right c.args.to c.args.to c.cover_part.new.covered c.in_ok-last.ensures.to (made-itself es c.args.to) c.in_ok-last.ensures.right c.cover_part.ensures.covered

pub returns-in_default-clause-right : goal.returns-in_default-clause-right
returns-in_default-clause-right c =
    let es = c.args.self.now.entries.now in
    right-more c.args.self.now.hierarchy.now es c.begin.new.right c.args.to c.args.to c.cover_part.new.covered c.in_ok-last.ensures.to (made-itself es c.args.to) c.in_ok-last.ensures.right c.cover_part.ensures.covered

pub loop-part-init : goal.loop-part-init
loop-part-init c =
    let es = c.args.self.now.entries.now in
    record {
      inside = omega arith;
      bits = c.cover_part.ensures.bits;
      right = right-more c.args.self.now.hierarchy.now es c.begin.new.right c.args.to c.args.to c.cover_part.new.covered c.in_ok-last.ensures.to (made-itself es c.args.to) c.in_ok-last.ensures.right c.cover_part.ensures.covered;
      to = c.in_ok-last.ensures.to;
    }

pub cover_part-requires-in-Some-next_beyond-clause-part : goal.cover_part-requires-in-Some-next_beyond-clause-part
cover_part-requires-in-Some-next_beyond-clause-part c =
    let es = c.args.self.now.entries.now in
    let row : row_at es c.args.to ≡ c.in-Some.row.now = sym c.row_at.ensures ∙ ap (λ o. numbers_in (option_copied o)) c.in-Some.is in
    part-inside es c.args.to c.in-Some-next_beyond.part c.in-Some.row.now c.requires.table.are c.requires.to row c.in-Some-next_beyond.ensures.inside

pub loop-part-preserved : goal.loop-part-preserved
loop-part-preserved c =
    let h = c.args.self.now.hierarchy.now in
    let es = c.args.self.now.entries.now in
    let part = c.in-Some-next_beyond.part in
    let row : row_at es c.args.to ≡ c.in-Some.row.now = sym c.row_at.ensures ∙ ap (λ o. numbers_in (option_copied o)) c.in-Some.is in
    record {
      inside = let inside = c.in-Some-next_beyond.ensures.inside in omega (arith, inside);
      bits = c.cover_part-in-Some-next_beyond.ensures.bits;
      right = right-more h es c.loop-part.right c.args.to part c.cover_part-in-Some-next_beyond.new.covered c.loop-part.invariant.to
          (made-in_row es c.args.to part c.in-Some.row.now row c.in-Some-next_beyond.ensures.there) c.loop-part.invariant.right c.cover_part-in-Some-next_beyond.ensures.covered;
      to = c.loop-part.invariant.to;
    }

pub returns-in_err-cover_part-2-clause-right : goal.returns-in_err-cover_part-2-clause-right
returns-in_err-cover_part-2-clause-right c =
    let h = c.args.self.now.hierarchy.now in
    let es = c.args.self.now.entries.now in
    let part = c.in-Some-next_beyond.part in
    let row : row_at es c.args.to ≡ c.in-Some.row.now = sym c.row_at.ensures ∙ ap (λ o. numbers_in (option_copied o)) c.in-Some.is in
    right-more h es c.loop-part.right c.args.to part c.cover_part-in-Some-next_beyond.new.covered c.loop-part.invariant.to
    (made-in_row es c.args.to part c.in-Some.row.now row c.in-Some-next_beyond.ensures.there) c.loop-part.invariant.right c.cover_part-in-Some-next_beyond.ensures.covered
