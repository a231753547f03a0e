-- Refusals exclude trees and one another, and where tokens spell no tree there is one.
use Rattle.std.proofs.Common.{◌≡◌, ◌⊎◌, ℕ, ◌≤◌, List, [], ◌∷◌, ◌++◌, length, length-append, Result, Ok, Err, refl, sym, ◌∙◌, ap, subst, inl, inr, append_assoc, arith}
use Rattle.common.proofs.Cases.{same_heads, same_tails}
use Rattle.lexer.specs.Terminal.{Terminal, IsTerminated}
use Rattle.common.specs.declared.refusal.RefusalAt.{RefusalAt}
use Rattle.parser.specs.declared.fault.ParseRefusalKind.{ParseRefusalKind}
use Rattle.parser.specs.declared.fault.ParseRefusalKind.TheVariants.{UnexpectedToken, TooDeep}
use Rattle.parser.specs.Reading.{read}
use Rattle.parser.specs.Refusal.{IsPrefixWithin, IsPrefixOfProgram, AreTokensRefusedFor, AreTokensRefused}
use Rattle.syntax.specs.Grammar.{SpellsProgram, SpellsBut}
use Rattle.parser.specs.ReadGrammar.{program}
use Rattle.syntax.specs.Tree.{ProgramTree}
use Rattle.parser.proofs.Growing.{grows}
use Rattle.parser.proofs.Productions.{as_paired, as_spelled}
use Rattle.parser.proofs.Programs.{Verdict, verdict}

-- where the levels of more tokens don't count, what was spelled still is
but_grows : (n m : ℕ) → n ≤ m → (tokens : List Terminal) (tree : ProgramTree) → SpellsBut n tokens tree → SpellsBut m tokens tree
but_grows n m le tokens tree spelled =
    as_spelled m tokens tree (grows program 64 n m le tokens tree [] (as_paired n tokens tree spelled))

-- tokens in front of others that begin a program, or are one, begin one
within_front : (front more : List Terminal) → IsPrefixWithin (front ++ more) → IsPrefixWithin front
within_front front more (others, tree, spelled) = (
  more ++ others,
  tree,
  subst (λ list. SpellsBut (length (more ++ others)) list tree) (append_assoc front more others) (but_grows (length others) (length (more ++ others)) (omega (arith, length-append more others)) ((front ++ more) ++ others) tree spelled),
)

within_prefix : (front : List Terminal) → IsPrefixWithin front → IsPrefixOfProgram front
within_prefix front (more, tree, spelled) =
    (more, tree, but_grows (length more) (length (front ++ more)) (omega (arith, length-append front more)) (front ++ more) tree spelled)

spelled_front : (front more : List Terminal) (tree : ProgramTree) → SpellsProgram (front ++ more) tree → IsPrefixWithin front
spelled_front front more tree spelled =
    (more, tree, but_grows 0 (length more) (omega arith) (front ++ more) tree spelled)

-- two tokens of a list, each with what stands before it and after it, are one, or one stands before the other
data Order (a : List Terminal) (x : Terminal) (c : List Terminal) (y : Terminal) : Type 0 where
  same : a ≡ c → x ≡ y → Order a x c y
  before : (between : List Terminal) → c ≡ (a ++ x ∷ []) ++ between → Order a x c y
  after : (between : List Terminal) → a ≡ (c ++ y ∷ []) ++ between → Order a x c y

longer : (first other : Terminal) (a : List Terminal) (x : Terminal) (c : List Terminal) (y : Terminal) → first ≡ other → Order a x c y → Order (first ∷ a) x (other ∷ c) y
longer first other a x c y e (same f g) = same (ap (λ one. one ∷ a) e ∙ ap (λ list. other ∷ list) f) g
longer first other a x c y e (before between f) = before between (ap (λ one. one ∷ c) (sym e) ∙ ap (λ list. first ∷ list) f)
longer first other a x c y e (after between f) = after between (ap (λ one. one ∷ a) e ∙ ap (λ list. other ∷ list) f)

order : (a : List Terminal) (x : Terminal) (b c : List Terminal) (y : Terminal) (d : List Terminal) → a ++ x ∷ b ≡ c ++ y ∷ d → Order a x c y
order [] x b [] y d e = same refl (same_heads x y b d e)
order [] x b (other ∷ c) y d e = before c (ap (λ one. one ∷ c) (sym (same_heads x other b (c ++ y ∷ d) e)))
order (first ∷ a) x b [] y d e = after a (ap (λ one. one ∷ a) (same_heads first y (a ++ x ∷ b) d e))
order (first ∷ a) x b (other ∷ c) y d e =
    longer first other a x c y (same_heads first other (a ++ x ∷ b) (c ++ y ∷ d) e) (order a x b c y d (same_tails first other (a ++ x ∷ b) (c ++ y ∷ d) e))

-- what is refused at its last token begins no program within the levels
none_within : (kind : ParseRefusalKind) (tokens : List Terminal) → AreTokensRefusedFor kind tokens → IsPrefixWithin tokens → ⊥
none_within UnexpectedToken tokens refused b = refused (within_prefix tokens b)
none_within TooDeep tokens refused b = refused.1 b

abbrev up_to : List Terminal → Terminal → List Terminal
up_to front token = front ++ token ∷ []

same_front : (a c : List Terminal) (x y : Terminal) → a ≡ c → x ≡ y → up_to a x ≡ up_to c y
same_front a c x y e f = ap (λ list. up_to list x) e ∙ ap (up_to c) f

-- no token is both unexpected and too deep
one_kind : (kind other : ParseRefusalKind) (front next : List Terminal) → front ≡ next → AreTokensRefusedFor kind front → AreTokensRefusedFor other next → kind ≡ other
one_kind UnexpectedToken UnexpectedToken front next e r s = refl
one_kind UnexpectedToken TooDeep front next e r s = absurd (r (subst IsPrefixOfProgram (sym e) s.0))
one_kind TooDeep UnexpectedToken front next e r s = absurd (s (subst IsPrefixOfProgram e r.0))
one_kind TooDeep TooDeep front next e r s = refl

module _ (tokens : List Terminal) (refusal other : RefusalAt ParseRefusalKind) (r : AreTokensRefused tokens refusal) (s : AreTokensRefused tokens other) where
  by_order : Order r.before r.token s.before s.token → (r.before ≡ s.before) × (r.token ≡ s.token)
  by_order (same e f) = (e, f)
  by_order (before between e) =
      absurd (none_within refusal.kind (up_to r.before r.token) r.stops (within_front (up_to r.before r.token) between (subst IsPrefixWithin e s.goes_on)))
  by_order (after between e) =
      absurd (none_within other.kind (up_to s.before s.token) s.stops (within_front (up_to s.before s.token) between (subst IsPrefixWithin e r.goes_on)))

  one_stop : (r.before ≡ s.before) × (r.token ≡ s.token)
  one_stop = by_order (order r.before r.token r.after s.before s.token s.after (sym r.tokens_are ∙ s.tokens_are))

  pub one_refusal : refusal ≡ other
  one_refusal =
      let kind = one_kind refusal.kind other.kind (up_to r.before r.token) (up_to s.before s.token)
      (same_front r.before s.before r.token s.token one_stop.0 one_stop.1) r.stops s.stops in
      let at : refusal.at ≡ other.at = r.place ∙ (ap (λ (token : Terminal). token.start) one_stop.1 ∙ sym s.place) in
      ap (λ d. record { kind = d; at = refusal.at }) kind ∙ ap (λ place. record { kind = other.kind; at = place }) at

pub spelled_not_refused : (tokens : List Terminal) (tree : ProgramTree) (refusal : RefusalAt ParseRefusalKind) → SpellsProgram tokens tree → AreTokensRefused tokens refusal → ⊥
spelled_not_refused tokens tree refusal spelled r =
    none_within refusal.kind (up_to r.before r.token) r.stops (spelled_front (up_to r.before r.token) r.after tree (subst (λ list. SpellsProgram list tree) (r.tokens_are ∙ sym (append_assoc r.before (r.token ∷ []) r.after)) spelled))

decided : (tokens : List Terminal) (found : Result (ProgramTree × List Terminal) (RefusalAt ParseRefusalKind)) → Verdict tokens found → ((tree : ProgramTree) × SpellsProgram tokens tree) ⊎ ((refusal : RefusalAt ParseRefusalKind) × AreTokensRefused tokens refusal)
decided tokens (Ok found) v = inl (found.0, v.0)
decided tokens (Err refusal) v = inr (refusal, v.0)

pub spelled_or_refused : (tokens : List Terminal) → IsTerminated tokens → ((tree : ProgramTree) × SpellsProgram tokens tree) ⊎ ((refusal : RefusalAt ParseRefusalKind) × AreTokensRefused tokens refusal)
spelled_or_refused tokens terminated = decided tokens (read 64 program tokens) (verdict tokens terminated)
