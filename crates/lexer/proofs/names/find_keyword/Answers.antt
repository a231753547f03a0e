use Rattle.std.proofs.Common.{get_or, sym, ap, ◌∙◌}
use Rattle.lexer.proofs.Keywords.{kept}
use Rattle.lexer.proofs.names.find_keyword.Goals as goal

pub returns-in-7-eq98 : goal.returns-in-7-eq98
returns-in-7-eq98 c =
    c.keep.ensures ∙ sym (kept c.args.text.now 7 98 c.in-7-eq98.is-0 (ap (λ bytes. get_or bytes 0 0) (sym c.as_bytes.ensures.value) ∙ c.in-7-eq98.is-1))

pub returns-in-5-eq98 : goal.returns-in-5-eq98
returns-in-5-eq98 c =
    c.keep-in-5-eq98.ensures ∙ sym (kept c.args.text.now 5 98 c.in-5-eq98.is-0 (ap (λ bytes. get_or bytes 0 0) (sym c.as_bytes.ensures.value) ∙ c.in-5-eq98.is-1))

pub returns-in-5-eq99 : goal.returns-in-5-eq99
returns-in-5-eq99 c =
    c.keep-in-5-eq99.ensures ∙ sym (kept c.args.text.now 5 99 c.in-5-eq99.is-0 (ap (λ bytes. get_or bytes 0 0) (sym c.as_bytes.ensures.value) ∙ c.in-5-eq99.is-1))

pub returns-in-8-eq99 : goal.returns-in-8-eq99
returns-in-8-eq99 c =
    c.keep-in-8-eq99.ensures ∙ sym (kept c.args.text.now 8 99 c.in-8-eq99.is-0 (ap (λ bytes. get_or bytes 0 0) (sym c.as_bytes.ensures.value) ∙ c.in-8-eq99.is-1))

pub returns-in-4-eq101 : goal.returns-in-4-eq101
returns-in-4-eq101 c =
    c.keep-in-4-eq101.ensures ∙ sym (kept c.args.text.now 4 101 c.in-4-eq101.is-0 (ap (λ bytes. get_or bytes 0 0) (sym c.as_bytes.ensures.value) ∙ c.in-4-eq101.is-1))

pub returns-in-9-eq101 : goal.returns-in-9-eq101
returns-in-9-eq101 c =
    c.keep-in-9-eq101.ensures ∙ sym (kept c.args.text.now 9 101 c.in-9-eq101.is-0 (ap (λ bytes. get_or bytes 0 0) (sym c.as_bytes.ensures.value) ∙ c.in-9-eq101.is-1))

pub returns-in-5-eq102 : goal.returns-in-5-eq102
returns-in-5-eq102 c =
    c.keep-in-5-eq102.ensures ∙ sym (kept c.args.text.now 5 102 c.in-5-eq102.is-0 (ap (λ bytes. get_or bytes 0 0) (sym c.as_bytes.ensures.value) ∙ c.in-5-eq102.is-1))

pub returns-in-6-eq103 : goal.returns-in-6-eq103
returns-in-6-eq103 c =
    c.keep-in-6-eq103.ensures ∙ sym (kept c.args.text.now 6 103 c.in-6-eq103.is-0 (ap (λ bytes. get_or bytes 0 0) (sym c.as_bytes.ensures.value) ∙ c.in-6-eq103.is-1))

pub returns-in-2-eq105 : goal.returns-in-2-eq105
returns-in-2-eq105 c =
    c.keep-in-2-eq105.ensures ∙ sym (kept c.args.text.now 2 105 c.in-2-eq105.is-0 (ap (λ bytes. get_or bytes 0 0) (sym c.as_bytes.ensures.value) ∙ c.in-2-eq105.is-1))

pub returns-in-5-eq105 : goal.returns-in-5-eq105
returns-in-5-eq105 c =
    c.keep-in-5-eq105.ensures ∙ sym (kept c.args.text.now 5 105 c.in-5-eq105.is-0 (ap (λ bytes. get_or bytes 0 0) (sym c.as_bytes.ensures.value) ∙ c.in-5-eq105.is-1))

pub returns-in-3-eq105 : goal.returns-in-3-eq105
returns-in-3-eq105 c =
    c.keep-in-3-eq105.ensures ∙ sym (kept c.args.text.now 3 105 c.in-3-eq105.is-0 (ap (λ bytes. get_or bytes 0 0) (sym c.as_bytes.ensures.value) ∙ c.in-3-eq105.is-1))

pub returns-in-6-eq111 : goal.returns-in-6-eq111
returns-in-6-eq111 c =
    c.keep-in-6-eq111.ensures ∙ sym (kept c.args.text.now 6 111 c.in-6-eq111.is-0 (ap (λ bytes. get_or bytes 0 0) (sym c.as_bytes.ensures.value) ∙ c.in-6-eq111.is-1))

pub returns-in-7-eq114 : goal.returns-in-7-eq114
returns-in-7-eq114 c =
    c.keep-in-7-eq114.ensures ∙ sym (kept c.args.text.now 7 114 c.in-7-eq114.is-0 (ap (λ bytes. get_or bytes 0 0) (sym c.as_bytes.ensures.value) ∙ c.in-7-eq114.is-1))

pub returns-in-6-eq114 : goal.returns-in-6-eq114
returns-in-6-eq114 c =
    c.keep-in-6-eq114.ensures ∙ sym (kept c.args.text.now 6 114 c.in-6-eq114.is-0 (ap (λ bytes. get_or bytes 0 0) (sym c.as_bytes.ensures.value) ∙ c.in-6-eq114.is-1))

pub returns-in-4-eq115 : goal.returns-in-4-eq115
returns-in-4-eq115 c =
    c.keep-in-4-eq115.ensures ∙ sym (kept c.args.text.now 4 115 c.in-4-eq115.is-0 (ap (λ bytes. get_or bytes 0 0) (sym c.as_bytes.ensures.value) ∙ c.in-4-eq115.is-1))

pub returns-in-5-eq116 : goal.returns-in-5-eq116
returns-in-5-eq116 c =
    c.keep-in-5-eq116.ensures ∙ sym (kept c.args.text.now 5 116 c.in-5-eq116.is-0 (ap (λ bytes. get_or bytes 0 0) (sym c.as_bytes.ensures.value) ∙ c.in-5-eq116.is-1))

pub returns-in-6-eq116 : goal.returns-in-6-eq116
returns-in-6-eq116 c =
    c.keep-in-6-eq116.ensures ∙ sym (kept c.args.text.now 6 116 c.in-6-eq116.is-0 (ap (λ bytes. get_or bytes 0 0) (sym c.as_bytes.ensures.value) ∙ c.in-6-eq116.is-1))

pub returns-in-4-eq116 : goal.returns-in-4-eq116
returns-in-4-eq116 c =
    c.keep-in-4-eq116.ensures ∙ sym (kept c.args.text.now 4 116 c.in-4-eq116.is-0 (ap (λ bytes. get_or bytes 0 0) (sym c.as_bytes.ensures.value) ∙ c.in-4-eq116.is-1))

pub returns-in-3-eq116 : goal.returns-in-3-eq116
returns-in-3-eq116 c =
    c.keep-in-3-eq116.ensures ∙ sym (kept c.args.text.now 3 116 c.in-3-eq116.is-0 (ap (λ bytes. get_or bytes 0 0) (sym c.as_bytes.ensures.value) ∙ c.in-3-eq116.is-1))

pub returns-in-4-eq118 : goal.returns-in-4-eq118
returns-in-4-eq118 c =
    c.keep-in-4-eq118.ensures ∙ sym (kept c.args.text.now 4 118 c.in-4-eq118.is-0 (ap (λ bytes. get_or bytes 0 0) (sym c.as_bytes.ensures.value) ∙ c.in-4-eq118.is-1))

pub returns-in-5-eq119 : goal.returns-in-5-eq119
returns-in-5-eq119 c =
    c.keep-in-5-eq119.ensures ∙ sym (kept c.args.text.now 5 119 c.in-5-eq119.is-0 (ap (λ bytes. get_or bytes 0 0) (sym c.as_bytes.ensures.value) ∙ c.in-5-eq119.is-1))
