use Rattle.std.proofs.Common.{◌≡◌, ◌∙◌, ap, sym, ◌+◌, ◌*◌, ◌/◌, ◌<◌, length, get_or, arith}
use Rattle.std.proofs.lemmas.List.{get_or_read_under}
use Rattle.std.proofs.lemmas.List.FromFn.{get_or-map-range_with_len, length-map-range_with_len}
use Rattle.lexer.specs.Position.{place_at}
use Rattle.explaining.proofs.marks.MarkedText.place_of.Goals as goal

pub index-requires : goal.index-requires
index-requires c =
    let marked = c.args.self.now in
    let count : length marked.marks.items ≡ length marked.text.now / 256 + 1 =
    ap length marked.known ∙ length-map-range_with_len (λ k. place_at marked.text.now (k * 256)) 0 (length marked.text.now / 256 + 1) in
    omega (arith, count, marked.marks.ok.0)

pub place_after-requires-clause-start : goal.place_after-requires-clause-start
place_after-requires-clause-start c =
    let marked = c.args.self.now in
    let mark = c.min-end.result / 256 in
    let none = place_at marked.text.now 0 in
    let few : mark < length marked.text.now / 256 + 1 = omega arith in
    let count : length marked.marks.items ≡ length marked.text.now / 256 + 1 =
    ap length marked.known ∙ length-map-range_with_len (λ k. place_at marked.text.now (k * 256)) 0 (length marked.text.now / 256 + 1) in
    get_or_read_under marked.marks.items mark (length marked.text.now / 256 + 1) c.index.result.now none c.index.ensures few (sym count)
    ∙ ap (λ marks. get_or marks mark none) marked.known
    ∙ get_or-map-range_with_len (λ k. place_at marked.text.now (k * 256)) 0 (length marked.text.now / 256 + 1) mark mark none few (omega arith)
