use Rattle.std.proofs.Common.{ap, ◌∙◌, arith, ◌<◌, ◌/◌, length, bit_and, ◌*◌, ◌%◌, ◌^◌, ℕ, false, set, refl}
use Rattle.std.proofs.lemmas.List.{length-set}
use Rattle.smallvec.proofs.SmallVecLemmas.{items-with_items}
use Rattle.std.specs.Int.{w64, bit_not}
use Rattle.labels.specs.Words.{word}
use Rattle.labels.proofs.RowBits.{below-bound, word-there, bits-cleared}
use Rattle.labels.proofs.WordBits.{clear-bit}
use Rattle.labels.proofs.rows.Row.remove.Goals as goal

pub bounds-deref_mut-i : goal.bounds-deref_mut-i
bounds-deref_mut-i c =
    omega (arith, word-there c.self.inside.words.items c.self.inside.n c.args.i c.args.self.now c.self.view_is c.requires c.self.invariant.enough, ap length c.deref_mut.ensures.value)

pub bounds-deref_mut-i-2 : goal.bounds-deref_mut-i-2
bounds-deref_mut-i-2 c =
    omega (arith, word-there c.self.inside.words.items c.self.inside.n c.args.i c.args.self.now c.self.view_is c.requires c.self.invariant.enough, ap length c.deref_mut.ensures.value)

pub invariant_of-self : goal.invariant_of-self
invariant_of-self c =
    let words = c.self.inside.words.items in
    let n = c.self.inside.n in
    let i = c.args.i in
    let inside = word-there words n i c.args.self.now c.self.view_is c.requires c.self.invariant.enough in
    let new : ℕ = bit_and (word words (i / 64)) (bit_not w64 (1 * 2 ^ (i % 64) % 2 ^ 64)) in
    rw (c.deref_mut.ensures.value, items-with_items c.self.inside.words (set words (i / 64) new) (length-set words (i / 64) new)) (record {
      enough = length-set words (i / 64) _ ∙ c.self.invariant.enough;
      clear = λ k ge.
          clear-bit words i (word words (i / 64)) k inside refl ∙ rw (c.self.invariant.clear k ge) refl;
    })

pub returns : goal.returns
returns c =
    let words = c.self.inside.words.items in
    let n = c.self.inside.n in
    let i = c.args.i in
    let h : i < n = below-bound words n i c.args.self.now c.self.view_is c.requires in
    let inside = word-there words n i c.args.self.now c.self.view_is c.requires c.self.invariant.enough in
    let new : ℕ = bit_and (word words (i / 64)) (bit_not w64 (1 * 2 ^ (i % 64) % 2 ^ 64)) in
    rw (c.deref_mut.ensures.value, items-with_items c.self.inside.words (set words (i / 64) new) (length-set words (i / 64) new)) (bits-cleared words _ n i h (λ k. clear-bit words i (word words (i / 64)) k inside refl) ∙ ap (λ xs. set xs i false) c.self.view_is)
