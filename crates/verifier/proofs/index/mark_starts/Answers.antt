use Rattle.std.proofs.Common.{◌≡◌, ℕ, suc, ◌+◌, ◌-◌, ◌*◌, ◌/◌, ◌%◌, ◌^◌, ◌<◌, ◌++◌, ◌||◌, bit_or, take, drop, set, get_or, replicate, None, Some, arith, ap, sym, length, ◌∙◌, pos, append-nil, refl}
use Rattle.std.specs.Prelude.{◌==◌}
use Rattle.std.proofs.lemmas.List.{take_more, length-take, length-set, drop_all}
use Rattle.labels.specs.Words.{has_bit, word}
use Rattle.labels.proofs.WordBits.{set-bit}
use Rattle.modules.specs.Code.{code_length, width_of}
use Rattle.modules.specs.declared.instruction.Instruction.TheVariants.{Push}
use Rattle.modules.proofs.Widths.{code_length_more, code_length_most, width_of-pos}
use Rattle.verifier.specs.Index.{index_from}
use Rattle.verifier.specs.Starts.{numbers_of, starts_before}
use Rattle.verifier.proofs.Offsets.{code_length_within, code_length_drop}
use Rattle.verifier.proofs.Counted.{clear-after, no-numbers, number-added, one-more-before}
use Rattle.verifier.proofs.Indices.{indices_step}
use Rattle.verifier.proofs.Reaching.{take_all}
use Rattle.verifier.proofs.index.mark_starts.Goals as goal

pub loop-instruction-init : goal.loop-instruction-init
loop-instruction-init c =
    record {
      offset_is = refl;
      enough = refl;
      count_is = refl;
      numbers_are = no-numbers c.args.starts.now 0 (code_length c.args.code.now) c.requires.zero;
      clear = λ at ge. c.requires.zero at;
    }

pub bounds-starts-offset : goal.bounds-starts-offset
bounds-starts-offset c =
    let code = c.args.code.now in
    let k = c.loop-instruction.instruction-index in
    let v = c.loop-instruction.invariant in
    omega (arith, v.enough, c.requires.enough, v.offset_is, code_length_most code, width_of-pos (get_or code k (Push (pos 0))), code_length_within code k (Push (pos 0)) c.loop-instruction-test.true)

pub bounds-starts-offset-in-loop-instruction : goal.bounds-starts-offset-in-loop-instruction
bounds-starts-offset-in-loop-instruction c =
    let code = c.args.code.now in
    let k = c.loop-instruction.instruction-index in
    let v = c.loop-instruction.invariant in
    omega (arith, v.enough, c.requires.enough, v.offset_is, code_length_most code, width_of-pos (get_or code k (Push (pos 0))), code_length_within code k (Push (pos 0)) c.loop-instruction-test.true)

pub overflow_add-offset : goal.overflow_add-offset
overflow_add-offset c = omega (arith, c.requires.short, c.width-offset.ensures, code_length_within c.args.code.now c.loop-instruction.instruction-index (Push (pos 0)) c.loop-instruction-test.true, c.loop-instruction.invariant.offset_is)

pub loop-instruction-preserved : goal.loop-instruction-preserved
loop-instruction-preserved c =
    let code = c.args.code.now in
    let k = c.loop-instruction.instruction-index in
    let h = c.loop-instruction-test.true in
    let i = get_or code k (Push (pos 0)) in
    let v = c.loop-instruction.invariant in
    let old = c.loop-instruction.starts in
    let at = c.loop-instruction.offset in
    let size = code_length code in
    let w = word old (at / 64) in
    let new = set old (at / 64) (bit_or w (1 * 2 ^ (at % 64) % 2 ^ 64)) in
    let wide = width_of-pos i in
    let under : at < size = omega (arith, v.offset_is, code_length_within code k (Push (pos 0)) h, wide) in
    let there : at / 64 < length old = omega (arith, v.enough, c.requires.enough, under, code_length_most code) in
    let added : (n : ℕ) → has_bit new n ≡ (n == at || has_bit old n) = λ n. set-bit old at w n there refl in
    let back : at + c.width-offset.result ≡ suc at + (width_of i - 1) = omega (arith, c.width-offset.ensures, wide) in
    let number : k ≡ length (take k code) = omega (arith, h, length-take k code) in
    record {
      offset_is = omega (arith, code_length_more code k (Push (pos 0)) h, v.offset_is, c.width-offset.ensures);
      enough = length-set old (at / 64) _ ∙ v.enough;
      count_is = ap (starts_before new) back ∙ one-more-before old new at added v.clear (width_of i - 1) ∙ omega (arith, v.count_is);
      numbers_are =
          number-added old new at added v.clear size under
          ∙ ap (λ n. set (numbers_of old 0 size) at (Some n)) v.count_is
          ∙ ap (λ l. set l at (Some k)) (v.numbers_are ∙ ap (λ n. index_from 0 (take k code) ++ replicate n None) (code_length_drop code k (Push (pos 0)) h))
          ∙ indices_step (take k code) i (code_length (drop (k + 1) code)) at k v.offset_is number
          ∙ ap (λ l. index_from 0 l ++ replicate (code_length (drop (k + 1) code)) None) (sym (take_more code k (Push (pos 0)) h));
      clear = λ n ge. clear-after old new at added v.clear n (omega (arith, ge, back));
    }

pub returns-clause-starts : goal.returns-clause-starts
returns-clause-starts c =
    let code = c.args.code.now in
    let k = c.loop-instruction.instruction-index in
    let v = c.loop-instruction.invariant in
    let none : code_length (drop k code) ≡ 0 = ap code_length (drop_all k code c.loop-instruction-test.false) in
    let all : take k code ≡ code = take_all code k c.loop-instruction-test.false in
    record {
      enough = omega (arith, v.enough, c.requires.enough, code_length_most code);
      numbers =
          v.numbers_are
          ∙ ap (λ n. index_from 0 (take k code) ++ replicate n None) none
          ∙ append-nil (index_from 0 (take k code))
          ∙ ap (index_from 0) all;
      clear = λ at ge. v.clear at (omega (arith, ge, v.offset_is, ap code_length all));
    }

pub returns-clause-size : goal.returns-clause-size
returns-clause-size c =
    c.loop-instruction.invariant.offset_is ∙ ap code_length (take_all c.args.code.now c.loop-instruction.instruction-index c.loop-instruction-test.false)
