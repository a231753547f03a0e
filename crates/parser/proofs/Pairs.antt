-- The grammar and the parser's own spell the same trees: how the forms of the one are those of the other.
use Prim.Native.String.{String}
use Rattle.std.proofs.Common.{◌≡◌, ℕ, List, [], ◌∷◌, refl, sym, ◌∙◌, ap, subst, inl, inr}
use Rattle.std.specs.Prelude.{Option, None, Some, codes, bytes_eq}
use Rattle.std.proofs.lemmas.Slice.Eq.{bytes_eq-Decides}
use Rattle.lexer.specs.TokenKind.{TokenKind, word_of}
use Rattle.lexer.specs.Terminal.{Terminal}
use Rattle.syntax.specs.Form as forms
use Rattle.syntax.specs.Form.{◌·◌ as ◌⊙◌, ◌◂◌ as ◌◃◌, ◌or◌ as ◌else◌}
use Rattle.syntax.specs.Symbol as symbols
use Rattle.syntax.specs.Grammar as grammar
use Rattle.syntax.specs.Grammar.{◌▸◌ as ◌▹◌}
use Rattle.parser.specs.ReadForm.{Form, give, ◌·◌, ◌or◌, many, ◌gives◌, Phrase, Many, only, means}
use Rattle.parser.specs.ReadSymbol.{Symbol}
use Rattle.parser.specs.ReadGrammar.{at, ◌▸◌, ◌◂◌, optional, separated, some}
use Rattle.parser.proofs.Derivations.{Inside}
use Rattle.parser.proofs.SameKind.{only_by, only_word}

abbrev pub NewInside : Type 1
NewInside = (A : Type 0) → symbols.Symbol A → ℕ → forms.Phrase A

-- a token of a word is meant by it
pub meant : (text : String) (kind : TokenKind) → word_of kind ≡ codes text → only text (word_of kind) ≡ Some tt
meant text kind e = ap only_by ((bytes_eq-Decides (word_of kind) (codes text)).1 e)

module _ (i : NewInside) (j : Inside) (room : ℕ) where
  -- both forms spell the same trees by the same tokens
  pub record Same {A : Type 0} (F : forms.Form A) (G : Form A) : Type 0 where
    pub to : (n : ℕ) (tokens : List Terminal) (tree : A) (rest : List Terminal) → forms.means i room F n tokens tree rest → means j room G n tokens tree rest
    pub from : (n : ℕ) (tokens : List Terminal) (tree : A) (rest : List Terminal) → means j room G n tokens tree rest → forms.means i room F n tokens tree rest

  -- ---- a token before a form, and after it

  pub behind : {A : Type 0} (H : Form A) (text : String) (n : ℕ) (tokens : List Terminal) (tree : A) (token : Terminal) (rest : List Terminal) → means j room H n tokens tree (token ∷ rest) → word_of token.kind ≡ codes text → means j room (H ◂ text) n tokens tree rest
  behind H text n tokens tree token rest d e =
      ((tree, token.start), (token ∷ rest, d, ((token, tt), (refl, meant text token.kind e), refl)), refl)

  pub from_behind : {A : Type 0} (H : Form A) (text : String) (n : ℕ) (tokens : List Terminal) (tree : A) (rest : List Terminal) → means j room (H ◂ text) n tokens tree rest → (token : Terminal) × means j room H n tokens tree (token ∷ rest) × (word_of token.kind ≡ codes text)
  from_behind H text n tokens tree rest d =
      let last = d.1.2.1 in (
        d.1.2.0.0,
        subst (λ t. means j room H n tokens t (d.1.2.0.0 ∷ rest)) (sym d.2) (subst (λ list. means j room H n tokens d.0.0 list) last.0 d.1.1),
        only_word text d.1.2.0.0.kind d.1.2.0.1 last.1,
      )

  ahead : {A : Type 0} (H : Form A) (text : String) (n : ℕ) (tokens : List Terminal) (tree : A) (token : Terminal) (more rest : List Terminal) → tokens ≡ token ∷ more → word_of token.kind ≡ codes text → means j room H n more tree rest → means j room (text ▸ H) n tokens tree rest
  ahead H text n tokens tree token more rest is e d =
      ((token.start, tree), (more, ((token, tt), (is, meant text token.kind e), refl), d), refl)

  from_ahead : {A : Type 0} (H : Form A) (text : String) (n : ℕ) (tokens : List Terminal) (tree : A) (rest : List Terminal) → means j room (text ▸ H) n tokens tree rest → (token : Terminal) × (more : List Terminal) × (tokens ≡ token ∷ more) × (word_of token.kind ≡ codes text) × means j room H n more tree rest
  from_ahead H text n tokens tree rest d =
      let first = d.1.1 in (
        first.0.0,
        d.1.0,
        first.1.0,
        only_word text first.0.0.kind first.0.1 first.1.1,
        subst (λ t. means j room H n d.1.0 t rest) (sym d.2) d.1.2,
      )

  -- ---- forms one after another, with what makes the tree in front

  pub plain : {A : Type 0} {F : forms.Form A} {G : Form A} → Same F G → Same F (G gives λ tree. tree)
  plain {F = F} s = record {
    to = λ n tokens tree rest d. (tree, s.to n tokens tree rest d, refl);
    from = λ n tokens tree rest d. subst (λ t. forms.means i room F n tokens t rest) (sym d.2) (s.from n tokens d.0 rest d.1);
  }

  -- a tree that is made in two steps
  pub through : {A B C : Type 0} {F : forms.Form C} {G : Form A} (f : A → B) (g : B → C) → Same F (G gives λ tree. g (f tree)) → Same F ((G gives f) gives g)
  through f g s = record {
    to = λ n tokens tree rest d. let one = s.to n tokens tree rest d in (f one.0, (one.0, one.1, refl), one.2);
    from = λ n tokens tree rest d. s.from n tokens tree rest ((d.1.0, d.1.1, d.2 ∙ ap g d.1.2));
  }

  pub starts_by : {A B R : Type 0} {G : forms.Form A} {H : Form R} (make : A → B) (k : R → A) → Same G (H gives k) → Same (forms.give make ⊙ G) (H gives λ value. make (k value))
  starts_by {H = H} make k s = record {
    to = λ n tokens tree rest (made, part, between, e, d, is).
        let one = s.to n between part rest d in
        (one.0, subst (λ list. means j room H n list one.0 rest) e.1 one.1, is ∙ (ap (λ f. f part) e.0 ∙ ap make one.2));
    from = λ n tokens tree rest d. (make, k d.0, tokens, (refl, refl), s.from n tokens (k d.0) rest ((d.0, d.1, refl)), d.2);
  }

  pub starts : {A B : Type 0} {G : forms.Form A} {H : Form A} (make : A → B) → Same G H → Same (forms.give make ⊙ G) (H gives make)
  starts {H = H} make s = record {
    to = λ n tokens tree rest (made, part, between, e, d, is).
        (part, subst (λ list. means j room H n list part rest) e.1 (s.to n between part rest d), is ∙ ap (λ f. f part) e.0);
    from = λ n tokens tree rest d. (make, d.0, tokens, (refl, refl), s.from n tokens d.0 rest d.1, d.2);
  }

  module _ {A B Q : Type 0} {F : forms.Form (A → B)} {P : Form Q} {h : Q → A → B} (s : Same F (P gives h)) where
    -- a part of which the parser's form gives more
    pub step_by : {R : Type 0} {G : forms.Form A} {H : Form R} (k : R → A) → Same G (H gives k) → Same (F ⊙ G) (P · H gives λ pair. h pair.0 (k pair.1))
    step_by k t = record {
      to = λ n tokens tree rest (make, part, between, d, e, is).
          let one = s.to n tokens make between d in
          let other = t.to n between part rest e in
          ((one.0, other.0), (between, one.1, other.1), is ∙ (ap (λ f. f part) one.2 ∙ ap (h one.0) other.2));
      from = λ n tokens tree rest d. (
        h d.0.0,
        k d.0.1,
        d.1.0,
        s.from n tokens (h d.0.0) d.1.0 ((d.0.0, d.1.1, refl)),
        t.from n d.1.0 (k d.0.1) rest ((d.0.1, d.1.2, refl)),
        d.2,
      );
    }

    pub step : {G : forms.Form A} {H : Form A} → Same G H → Same (F ⊙ G) (P · H gives λ pair. h pair.0 pair.1)
    step t = step_by (λ tree. tree) (plain t)

    -- a part with a token before it
    pub step_after : {G : forms.Form A} {H : Form A} (text : String) → Same G H → Same (F ◃ text ⊙ G) (P · (text ▸ H) gives λ pair. h pair.0 pair.1)
    step_after {H = H} text t = record {
      to = λ n tokens tree rest (make, part, between, (token, d, w), e, is).
          let one = s.to n tokens make (token ∷ between) d in (
            (one.0, part),
            (token ∷ between, one.1, ahead H text n (token ∷ between) part token between rest refl w (t.to n between part rest e)),
            is ∙ ap (λ f. f part) one.2,
          );
      from = λ n tokens tree rest d.
          let inner = from_ahead H text n d.1.0 d.0.1 rest d.1.2 in (
            h d.0.0,
            d.0.1,
            inner.1,
            (inner.0, s.from n tokens (h d.0.0) (inner.0 ∷ inner.1) ((d.0.0, subst (λ list. means j room P n tokens d.0.0 list) inner.2 d.1.1, refl)), inner.3),
            t.from n inner.1 d.0.1 rest inner.4,
            d.2,
          );
    }

  -- a token after the last part
  pub drop : {B Q : Type 0} {F : forms.Form B} {P : Form Q} {h : Q → B} (text : String) → Same F (P gives h) → Same (F ◃ text) (P ◂ text gives h)
  drop {P = P} text s = record {
    to = λ n tokens tree rest (token, d, w).
        let one = s.to n tokens tree (token ∷ rest) d in (one.0, behind P text n tokens one.0 token rest one.1 w, one.2);
    from = λ n tokens tree rest d.
        let inner = from_behind P text n tokens d.0 rest d.1 in (inner.0, s.from n tokens tree (inner.0 ∷ rest) ((d.0, inner.1, d.2)), inner.2);
  }

  pub drop_plain : {A : Type 0} {F : forms.Form A} {G : Form A} (text : String) → Same F G → Same (F ◃ text) (G ◂ text)
  drop_plain {G = G} text s = record {
    to = λ n tokens tree rest (token, d, w). behind G text n tokens tree token rest (s.to n tokens tree (token ∷ rest) d) w;
    from = λ n tokens tree rest d.
        let inner = from_behind G text n tokens tree rest d in (inner.0, s.from n tokens tree (inner.0 ∷ rest) inner.1, inner.2);
  }

  -- the same where the parser's form has it in the last part
  pub drop_in : {A B Q : Type 0} {F : forms.Form B} {P : Form Q} {H : Form A} {f : Q × A → B} (text : String) → Same F (P · H gives f) → Same (F ◃ text) (P · (H ◂ text) gives f)
  drop_in {H = H} text s = record {
    to = λ n tokens tree rest (token, d, w).
        let one = s.to n tokens tree (token ∷ rest) d in
        (one.0, (one.1.0, one.1.1, behind H text n one.1.0 one.0.1 token rest one.1.2 w), one.2);
    from = λ n tokens tree rest d.
        let inner = from_behind H text n d.1.0 d.0.1 rest d.1.2 in
        (inner.0, s.from n tokens tree (inner.0 ∷ rest) ((d.0, (d.1.0, d.1.1, inner.1), d.2)), inner.2);
  }

  pub lead : {A : Type 0} {G : forms.Form A} {H : Form A} (text : String) → Same G H → Same (text ▹ G) (text ▸ H)
  lead {G = G} {H = H} text s = record {
    to = λ n tokens tree rest (make, part, between, (token, e, w), d, is).
        subst (λ t. means j room (text ▸ H) n tokens t rest) (sym (is ∙ ap (λ f. f part) e.0))
        (ahead H text n tokens part token between rest (sym e.1) w (s.to n between part rest d));
    from = λ n tokens tree rest d.
        let inner = from_ahead H text n tokens tree rest d in
        (λ t. t, tree, inner.1, (inner.0, (refl, sym inner.2), inner.3), s.from n inner.1 tree rest inner.4, refl);
  }

  -- a pair of the parts
  pub exactly : {A B : Type 0} {F : forms.Form (A × B)} {G : Form (A × B)} → Same F (G gives λ pair. (pair.0, pair.1)) → Same F G
  exactly {G = G} s = record {
    to = λ n tokens tree rest d.
        let one = s.to n tokens tree rest d in subst (λ t. means j room G n tokens t rest) (sym one.2) one.1;
    from = λ n tokens tree rest d. s.from n tokens tree rest ((tree, d, refl));
  }

  -- the last two parts are a pair
  pub nest : {A B P Q : Type 0} {F : forms.Form P} {G : Form Q} {H : Form A} {K : Form B} (f : (Q × A) × B → P) → Same F (G · H · K gives f) → Same F (G · (H · K) gives λ parts. f ((parts.0, parts.1.0), parts.1.1))
  nest f s = record {
    to = λ n tokens tree rest d.
        let one = s.to n tokens tree rest d in
        let front = one.1.1 in (
          (one.0.0.0, (one.0.0.1, one.0.1)),
          (front.0, front.1, (one.1.0, front.2, one.1.2)),
          one.2,
        );
    from = λ n tokens tree rest d.
        let back = d.1.2 in
        s.from n tokens tree rest ((
          ((d.0.0, d.0.1.0), d.0.1.1),
          (back.0, (d.1.0, d.1.1, back.1), back.2),
          d.2,
        ));
  }

  -- two tokens before a form
  pub lead_two : {A : Type 0} {G : forms.Form A} {H : Form A} (one other : String) → Same G H → Same (one ▹ other ▹ G) (at one ◂ other · H gives λ pair. pair.1)
  lead_two {G = G} {H = H} one other s = record {
    to = λ n tokens tree rest d.
        let first = from_ahead (other ▸ H) one n tokens tree rest ((lead one (lead other s)).to n tokens tree rest d) in
        let second = from_ahead H other n first.1 tree rest first.4 in (
          (first.0.start, tree),
          (
            second.1,
            behind (at one) other n tokens first.0.start second.0 second.1 ((first.0, tt), (first.2 ∙ ap (λ list. first.0 ∷ list) second.2, meant one first.0.kind first.3), refl) second.3,
            second.4,
          ),
          refl,
        );
    from = λ n tokens tree rest d.
        let second = from_behind (at one) other n tokens d.0.0 d.1.0 d.1.1 in
        let first = second.1 in
        (lead one (lead other s)).from n tokens tree rest
        (ahead (other ▸ H) one n tokens tree first.0.0 (second.0 ∷ d.1.0) rest first.1.0 (only_word one first.0.0.kind first.0.1 first.1.1)
        (ahead H other n (second.0 ∷ d.1.0) tree second.0 d.1.0 rest refl second.2 (subst (λ t. means j room H n d.1.0 t rest) (sym d.2) d.1.2)));
  }

  -- ---- choices and lists

  pub either : {A : Type 0} {F G : forms.Form A} {H K : Form A} → Same F H → Same G K → Same (F else G) (H or K)
  either s t = record {
    to = λ n tokens tree rest d. elim d [ inl one ↦ inl (s.to n tokens tree rest one) | inr other ↦ inr (t.to n tokens tree rest other) ];
    from = λ n tokens tree rest d. elim d [ inl one ↦ inl (s.from n tokens tree rest one) | inr other ↦ inr (t.from n tokens tree rest other) ];
  }

  -- two choices for one
  pub either_two : {A : Type 0} {F G K : forms.Form A} {H L : Form A} → Same (F else G) H → Same K L → Same (F else G else K) (H or L)
  either_two s t = record {
    to = λ n tokens tree rest d. elim d [
      | inl one ↦ inl (s.to n tokens tree rest (inl one))
      | inr d ↦ elim d [ inl other ↦ inl (s.to n tokens tree rest (inr other)) | inr last ↦ inr (t.to n tokens tree rest last) ]
    ];
    from = λ n tokens tree rest d. elim d [
      | inl d ↦ elim (s.from n tokens tree rest d) [ inl one ↦ inl one | inr other ↦ inr (inl other) ]
      | inr last ↦ inr (inr (t.from n tokens tree rest last))
    ];
  }

  -- one choice for two
  pub one_of_three : {A : Type 0} {F G : forms.Form A} {H K L : Form A} → Same F (H or K) → Same G L → Same (F else G) (H or K or L)
  one_of_three s t = record {
    to = λ n tokens tree rest d. elim d [
      | inl d ↦ elim (s.to n tokens tree rest d) [ inl one ↦ inl one | inr other ↦ inr (inl other) ]
      | inr last ↦ inr (inr (t.to n tokens tree rest last))
    ];
    from = λ n tokens tree rest d. elim d [
      | inl one ↦ inl (s.from n tokens tree rest (inl one))
      | inr d ↦ elim d [ inl other ↦ inl (s.from n tokens tree rest (inr other)) | inr last ↦ inr (t.from n tokens tree rest last) ]
    ];
  }

  -- a part that may be left out
  module _ {B Q T : Type 0} {F G : forms.Form T} {P : Form Q} {H : Form B} (f : Q × Option B → T) where
    pub with_or_without : Same F (P · H gives λ pair. f (pair.0, Some pair.1)) → Same G (P gives λ first. f (first, None)) → Same (F else G) (P · optional H gives f)
    with_or_without s t = record {
      to = λ n tokens tree rest d. elim d [
        | inl one ↦ let d = s.to n tokens tree rest one in ((d.0.0, Some d.0.1), (d.1.0, d.1.1, inl ((d.0.1, d.1.2, refl))), d.2)
        | inr other ↦ let d = t.to n tokens tree rest other in ((d.0, None), (rest, d.1, inr ((refl, refl))), d.2)
      ];
      from = λ n tokens tree rest d. elim d.1.2 [
        | inl one ↦ inl (s.from n tokens tree rest (((d.0.0, one.0), (d.1.0, d.1.1, one.1), d.2 ∙ ap (λ x. f (d.0.0, x)) one.2)))
        | inr other ↦ inr (t.from n tokens tree rest ((d.0.0, subst (λ list. means j room P n tokens d.0.0 list) (sym other.1) d.1.1, d.2 ∙ ap (λ x. f (d.0.0, x)) other.0)))
      ];
    }

  pub swapped : {A : Type 0} {F G : forms.Form A} {H : Form A} → Same (F else G) H → Same (G else F) H
  swapped s = record {
    to = λ n tokens tree rest d.
        s.to n tokens tree rest (elim d [ inl one ↦ inr one | inr other ↦ inl other ]);
    from = λ n tokens tree rest d. elim (s.from n tokens tree rest d) [ inl one ↦ inr one | inr other ↦ inl other ];
  }

  pub given : {A : Type 0} (value : A) → Same (forms.give value) (give value)
  given value = record { to = λ n tokens tree rest d. d; from = λ n tokens tree rest d. d }

  module _ {A : Type 0} {F : forms.Form A} {G : Form A} (s : Same F G) where
    many_to : (n : ℕ) (tokens : List Terminal) (trees : List A) (rest : List Terminal) → forms.Many (forms.means i room F) n tokens trees rest → Many (means j room G) n tokens trees rest
    many_to n tokens [] rest d = d
    many_to n tokens (tree ∷ trees) rest d = (d.0, s.to n tokens tree d.0 d.1, many_to n d.0 trees rest d.2)

    many_from : (n : ℕ) (tokens : List Terminal) (trees : List A) (rest : List Terminal) → Many (means j room G) n tokens trees rest → forms.Many (forms.means i room F) n tokens trees rest
    many_from n tokens [] rest d = d
    many_from n tokens (tree ∷ trees) rest d = (d.0, s.from n tokens tree d.0 d.1, many_from n d.0 trees rest d.2)

    pub each : Same (forms.many F) (many G)
    each = record { to = many_to; from = many_from }

  module _ {A : Type 0} {F : forms.Form A} {G : Form A} (s : Same F G) where
    pub maybe : Same (grammar.optional F) (optional G)
    maybe = either (starts Some s) (given None)

    pub parted : (text : String) → Same (grammar.separated text F) (separated text G)
    parted text = step (starts (λ first others. first ∷ others) s) (each (lead text s))

    pub any : (text : String) → Same (grammar.some text F) (some text G)
    any text = either (parted text) (given [])
