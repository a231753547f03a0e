use Rattle.std.proofs.Common.{◌≡◌, ◌<◌, map, length, ap, ◌∙◌, arith}
use Rattle.std.specs.Prelude.{string_bytes}
use Rattle.std.proofs.lemmas.List.{length-map}
use Rattle.principals.specs.ActsFor.{acts_for}
use Rattle.principals.proofs.Hierarchy.close.Goals as goal

pub invariant_of-result : goal.invariant_of-result
invariant_of-result c =
    let keys = c.args.names.keys in
    let long : length (map (λ name. string_bytes name) keys) ≡ length keys = length-map keys (λ name. string_bytes name) in
    record {
      hierarchy = record { few = c.requires.few; different = c.requires.different; there = c.requires.there };
      named = c.requires.named;
      rows = c.in_ok-table.ensures.rows ∙ c.len.ensures.len;
      answers = λ a b h.
          let below : a < c.len.result = omega (arith, c.len.ensures.len) in
          c.in_ok-table.ensures.closed a b below ∙ ap (λ x. acts_for x a b) c.as_slice.ensures.value;
    }
