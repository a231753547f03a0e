use Rattle.std.proofs.Common.{◌≡◌, ap, ◌∙◌, sym, arith, ◌≤◌, ◌<◌, true, false, ltb, nat_eq, Bool, ℕ, refl}
use Rattle.std.proofs.lemmas.Bool.{ltb-true, ltb-false, ne_eqb}
use Rattle.resolved.specs.Value.{literal_number}
use Rattle.path_map.proofs.Rows.{large-literal, small-literal}
use Rattle.path_map.proofs.raises.is_zero.Goals as goal
use Rattle.common.specs.Integers.{is_zero}

zero-literal : (n : ℕ) → n < 4294967296 → nat_eq n 0 ≡ is_zero (literal_number n)
zero-literal n fits = go (ltb n 2147483648) refl
  where
    go : (small : Bool) → ltb n 2147483648 ≡ small → nat_eq n 0 ≡ is_zero (literal_number n)
    go true e = sym (ap is_zero (small-literal n (ltb-true n 2147483648 e)))
    go false e =
        let large : 2147483648 ≤ n = ltb-false n 2147483648 e in
        ne_eqb n 0 (λ none. absurd (omega arith)) ∙ sym (ap is_zero (large-literal n large fits))

pub returns : goal.returns
returns c = zero-literal c.args.literal (omega (arith, c.ranges.literal.fits))
