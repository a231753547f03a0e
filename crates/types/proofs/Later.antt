-- Later points of a body: what stays, and the setting, which is the same.
use Rattle.std.proofs.Common.{◌≡◌, ℕ, List, ◌≤◌, ◌++◌, cond, length, take, drop, map, None, sym, ◌∙◌, ap, arith}
use Rattle.std.specs.Prelude.{bytes_eq}
use Rattle.std.specs.Borrow.{Bor}
use Rattle.std.specs.List.{list_any}
use Rattle.std.proofs.lemmas.List.{take-append-le, drop-append-le, take-append-drop, length-take, map-append}
use Rattle.types.specs.declared.body.BodyScope.{BodyScope}
use Rattle.types.specs.Resolution.{heads}
use Rattle.types.specs.Views.{IsLater, found_in, item_scope_of, setting_of, signature_view, texts_of, top_view, without}
use Rattle.types.proofs.LabelNumbers.{extends_through}
use Rattle.types.proofs.Tables.{without_both}

pub later_through : (first second third : BodyScope) → IsLater first second → IsLater second third → IsLater first third
later_through first second third p q =
    let a = first.declared.items in
    let b = second.declared.items in
    let c = third.declared.items in
    let n = length a in
    let m = length b in
    let short : n ≤ m = omega (arith, length-take n b, ap length p.declared) in
    let split : b ++ drop m c ≡ c = ap (λ front. front ++ drop m c) (sym q.declared) ∙ take-append-drop m c in
    let since : texts_of (drop n b) ++ texts_of (drop m c) ≡ texts_of (drop n c) =
    sym (map-append (λ (name : Bor (List ℕ)). name.now) (drop n b) (drop m c)) ∙ ap texts_of (sym (drop-append-le n b (drop m c) short)) ∙ ap (λ all. texts_of (drop n all)) split in
    record {
      hierarchy = q.hierarchy ∙ p.hierarchy;
      top = q.top ∙ p.top;
      globals = q.globals ∙ p.globals;
      labels = extends_through first.variables.labels second.variables.labels third.variables.labels p.labels q.labels;
      result = q.result ∙ p.result;
      declared = ap (take n) (sym split) ∙ take-append-le n b (drop m c) short ∙ p.declared;
      locals = λ name. p.locals name
          ∙ ap (λ found. cond (list_any (λ one. bytes_eq one name) (texts_of (drop n b))) None found) (q.locals name)
          ∙ sym (without_both (texts_of (drop n b)) (texts_of (drop m c)) (found_in third.locals) name)
          ∙ ap (λ gone. without gone (found_in third.locals) name) since;
    }

pub setting_same : (before after : BodyScope) → IsLater before after → setting_of after ≡ setting_of before
setting_same before after later = λ i. record {
  outer = heads (later.hierarchy i) (top_view (later.top i)) (later.globals i);
  signatures = map signature_view (later.top i).signatures.items;
  result = later.result i;
}

pub scope_same : (before after : BodyScope) → IsLater before after → item_scope_of after ≡ item_scope_of before
scope_same before after later = λ i. heads (later.hierarchy i) (top_view (later.top i)) (later.globals i)
