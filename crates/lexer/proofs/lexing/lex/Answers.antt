use Rattle.std.proofs.Common.{◌≡◌, arith, length, Option, Some, None, Ok, Err, refl, sym, ap, subst, ◌∙◌, rules}
use Rattle.std.proofs.lemmas.List.{map-append, nil_from_length}
use Rattle.std.specs.Str.{chars, IsUtf8}
use Rattle.lexer.specs.declared.token.Kind.{Kind}
use Rattle.common.proofs.Casting.{refuse-answer, refused-weaker}
use Rattle.common.specs.Answers.{IfRefused}
use Rattle.lexer.specs.Cut.{IsCut, IsTextRefused}
use Rattle.lexer.specs.Listing.{IsRefusedAtCharacter}
use Rattle.lexer.specs.Scan.{Reads, IsStuck}
use Rattle.lexer.specs.Terminal.{terminal_of, terminals_of}
use Rattle.lexer.proofs.Growing.{IsCutSoFar, GrowsBy, begin, blanks, gap, no_longer, shorter_by, token, refused, cut_to_end}
use Rattle.lexer.proofs.Listed.{Listed, listed, refused_at}
use Rattle.lexer.proofs.Cutting.{has_one_cut, not_cut_and_refused, has_one_refusal}
use Rattle.lexer.proofs.lexing.lex.Goals as goal

pub loop-start-init : goal.loop-start-init
loop-start-init c =
    let src = c.args.src.now in
    let whole : IsCutSoFar src src (terminals_of c.in_ok-tokens.tokens.items) =
    subst (λ ts. IsCutSoFar src src (terminals_of ts)) (sym c.in_ok-tokens.ensures.items) (begin src) in
    let past = blanks src src c.skip_blanks-rest.result.now _ c.utf8.src c.skip_blanks-rest.utf8 whole c.skip_blanks-rest.ensures in
    (c.skip_blanks-rest.utf8, (past.so_far, past.dark))

-- the cut with the token that was pushed, and with the white space after it
pub loop-start-smaller-in-Continue-branch-3 : goal.loop-start-smaller-in-Continue-branch-3
loop-start-smaller-in-Continue-branch-3 c =
    let rest = c.loop-start.rest.now in
    let left = c.in_ok-kind.field-0.rest.now in
    let left_ok : IsUtf8 left = search rules in
    let P : Option Kind → Type 0 = λ k. Reads (chars rest) k (chars left) in
    let any = refuse-answer (λ p. Reads (chars rest) p.kind (chars p.rest.now)) (IsStuck _ (chars rest)) c.cut_piece.result (Ok c.in_ok-kind.field-0) c.in_ok-kind.ensures.cases c.cut_piece.ensures in
    let read : Reads (chars rest) (Some c.in-Some.kind) (chars left) = subst P c.in-Some.is any in
    let taken = shorter_by rest left (Some c.in-Some.kind) c.loop-start.invariant.0 left_ok read in
    let past = no_longer left c.skip_blanks-rest-in-loop-start.result.now left_ok c.skip_blanks-rest-in-loop-start.utf8 c.skip_blanks-rest-in-loop-start.ensures in
    omega arith

pub loop-start-preserved-in-Continue-branch-3 : goal.loop-start-preserved-in-Continue-branch-3
loop-start-preserved-in-Continue-branch-3 c =
    let rest = c.loop-start.rest.now in
    let left = c.in_ok-kind.field-0.rest.now in
    let left_ok : IsUtf8 left = search rules in
    let P : Option Kind → Type 0 = λ k. Reads (chars rest) k (chars left) in
    let any = refuse-answer (λ p. Reads (chars rest) p.kind (chars p.rest.now)) (IsStuck _ (chars rest)) c.cut_piece.result (Ok c.in_ok-kind.field-0) c.in_ok-kind.ensures.cases c.cut_piece.ensures in
    let read : Reads (chars rest) (Some c.in-Some.kind) (chars left) = subst P c.in-Some.is any in
    let tokens = c.loop-start.tokens.items in
    let t = token c.args.src.now rest left c.take_front-text.result.now (terminals_of tokens) c.in-Some.kind c.loop-start.invariant.0 left_ok c.take_front-text.utf8 c.loop-start.invariant.1.0 read c.take_front-text.ensures _ refl in
    let past = blanks c.args.src.now left c.skip_blanks-rest-in-loop-start.result.now _ left_ok c.skip_blanks-rest-in-loop-start.utf8 t.grown c.skip_blanks-rest-in-loop-start.ensures in
    let items = sym (ap terminals_of c.in_ok-push.ensures.items ∙ map-append terminal_of tokens _) in
    (c.skip_blanks-rest-in-loop-start.utf8, (subst (IsCutSoFar c.args.src.now c.skip_blanks-rest-in-loop-start.result.now) items past.so_far, past.dark))

-- the cut with the gap that was passed
passed : (c : goal.In_default) → GrowsBy c.args.src.now c.loop-start.rest.now c.in_ok-kind.field-0.rest.now (terminals_of c.loop-start.tokens.items)
passed c =
    let rest = c.loop-start.rest.now in
    let left = c.in_ok-kind.field-0.rest.now in
    let left_ok : IsUtf8 left = search rules in
    let P : Option Kind → Type 0 = λ k. Reads (chars rest) k (chars left) in
    let none : c.in_ok-kind.field-0.kind ≡ None = c.in_default.is in
    let any = refuse-answer (λ p. Reads (chars rest) p.kind (chars p.rest.now)) (IsStuck _ (chars rest)) c.cut_piece.result (Ok c.in_ok-kind.field-0) c.in_ok-kind.ensures.cases c.cut_piece.ensures in
    gap c.args.src.now rest left (terminals_of c.loop-start.tokens.items) c.loop-start.invariant.0 left_ok c.loop-start.invariant.1.0 (subst P none any)

pub loop-start-smaller : goal.loop-start-smaller
loop-start-smaller c =
    let left_ok : IsUtf8 c.in_ok-kind.field-0.rest.now = search rules in
    let step = (passed c).shorter in
    let past = no_longer c.in_ok-kind.field-0.rest.now c.skip_blanks-rest-in-loop-start.result.now left_ok c.skip_blanks-rest-in-loop-start.utf8 c.skip_blanks-rest-in-loop-start.ensures in
    omega arith

pub loop-start-preserved : goal.loop-start-preserved
loop-start-preserved c =
    let left_ok : IsUtf8 c.in_ok-kind.field-0.rest.now = search rules in
    let past = blanks c.args.src.now c.in_ok-kind.field-0.rest.now c.skip_blanks-rest-in-loop-start.result.now _ left_ok c.skip_blanks-rest-in-loop-start.utf8 (passed c).grown c.skip_blanks-rest-in-loop-start.ensures in
    (c.skip_blanks-rest-in-loop-start.utf8, (past.so_far, past.dark))

-- the text is refused for what is reported
reported : (c : goal.After-drop-tokens) → IfRefused (IsTextRefused c.args.src.now) c.in_err-kind.field-0.0
reported c =
    refused-weaker (IsStuck _ (chars c.loop-start.rest.now)) (IsTextRefused c.args.src.now)
    (λ r stuck. refused c.args.src.now c.loop-start.rest.now (terminals_of c.loop-start.tokens.items) r c.loop-start.invariant.1.0 stuck)
    c.in_err-kind.field-0.0
    (refuse-answer (λ p. Reads (chars c.loop-start.rest.now) p.kind (chars p.rest.now)) (IsStuck _ (chars c.loop-start.rest.now))
    c.cut_piece.result (Err c.in_err-kind.field-0.0) c.in_err-kind.ensures.cases c.cut_piece.ensures)

pub returns-in_err-kind-clause-complete : goal.returns-in_err-kind-clause-complete
returns-in_err-kind-clause-complete c = λ tokens cut.
    let e : c.from_residual-in_err-kind.result ≡ Err c.in_err-kind.field-0.0 = search rules in
    rw e (refused-weaker (IsTextRefused c.args.src.now) (λ _. ⊥) (λ r h. not_cut_and_refused c.args.src.now tokens r cut h) c.in_err-kind.field-0.0 (reported c))

pub returns-in_err-kind-clause-refuses : goal.returns-in_err-kind-clause-refuses
returns-in_err-kind-clause-refuses c = λ refusal first.
    let e : c.from_residual-in_err-kind.result ≡ Err c.in_err-kind.field-0.0 = search rules in
    rw e (refused-weaker (IsTextRefused c.args.src.now) (λ r. r ≡ refusal) (λ r h. has_one_refusal c.args.src.now r refusal h first) c.in_err-kind.field-0.0 (reported c))

pub returns-in_err-kind-clause-refused_at_character : goal.returns-in_err-kind-clause-refused_at_character
returns-in_err-kind-clause-refused_at_character c =
    let e : c.from_residual-in_err-kind.result ≡ Err c.in_err-kind.field-0.0 = search rules in
    rw e (refused-weaker (IsTextRefused c.args.src.now) (IsRefusedAtCharacter c.args.src.now) (λ r h. refused_at c.args.src.now r c.utf8.src h) c.in_err-kind.field-0.0 (reported c))

-- the whole cut
ended : (c : goal.In_ok-push-2) → IsCut c.args.src.now (terminals_of c.push-2.new.self.items)
ended c =
    let tokens = c.loop-start.tokens.items in
    let none : length c.loop-start.rest.now ≡ 0 = search rules in
    subst (IsCut c.args.src.now) (sym (ap terminals_of c.in_ok-push-2.ensures.items ∙ map-append terminal_of tokens _))
    (cut_to_end c.args.src.now c.loop-start.rest.now (terminals_of tokens) _ c.loop-start.invariant.1.0 (nil_from_length c.loop-start.rest.now none) refl)

all : (c : goal.In_ok-push-2) → Listed c.args.src.now (terminals_of c.push-2.new.self.items)
all c = listed c.args.src.now (terminals_of c.push-2.new.self.items) c.utf8.src (ended c)

pub returns-clause-accepted : goal.returns-clause-accepted
returns-clause-accepted c = ended c

pub returns-clause-complete : goal.returns-clause-complete
returns-clause-complete c = λ tokens cut. has_one_cut c.args.src.now (terminals_of c.push-2.new.self.items) tokens (ended c) cut

pub returns-clause-refuses : goal.returns-clause-refuses
returns-clause-refuses c = λ fault refusal. not_cut_and_refused c.args.src.now (terminals_of c.push-2.new.self.items) fault (ended c) refusal

pub returns-clause-terminated : goal.returns-clause-terminated
returns-clause-terminated c = (all c).terminated

pub returns-clause-in_order : goal.returns-clause-in_order
returns-clause-in_order c = (all c).in_order

pub returns-clause-slices : goal.returns-clause-slices
returns-clause-slices c = (all c).slices

pub returns-clause-spelled : goal.returns-clause-spelled
returns-clause-spelled c = (all c).spelled

pub returns-clause-count : goal.returns-clause-count
returns-clause-count c = (all c).count

pub returns-clause-at_characters : goal.returns-clause-at_characters
returns-clause-at_characters c = (all c).at_characters
