-- The grammar and the parser's own spell the same trees: how forms begin, with a token of which the tree has something, or with one that
-- opens a level.
use Prim.Native.String.{String}
use Rattle.std.proofs.Common.{◌≡◌, ℕ, pred, List, ◌∷◌, refl, sym, ◌∙◌, ap, subst}
use Rattle.std.specs.Prelude.{Some}
use Rattle.lexer.specs.Terminal.{Terminal}
use Rattle.syntax.specs.Form as forms
use Rattle.syntax.specs.Form.{◌·◌ as ◌⊙◌, ◌◂◌ as ◌◃◌}
use Rattle.syntax.specs.Symbol as symbols
use Rattle.syntax.specs.Grammar.{here, ◌▸◌ as ◌▹◌}
use Rattle.parser.specs.ReadForm.{Form, one_of, level, ◌gives◌, only, table, means}
use Rattle.parser.specs.ReadSymbol.{Symbol, tree_of}
use Rattle.parser.specs.ReadGrammar.{at}
use Rattle.parser.proofs.Derivations.{Inside}
use Rattle.parser.proofs.Pairs.{NewInside, Same, meant}
use Rattle.parser.proofs.SameKind.{only_word}

-- symbols mean the same
pub record Alike (i : NewInside) (j : Inside) (symbol : Symbol) (other : symbols.Symbol (tree_of symbol)) : Type 0 where
  pub to : (room n : ℕ) (tokens : List Terminal) (tree : tree_of symbol) (rest : List Terminal) → i (tree_of symbol) other room n tokens tree rest → j symbol room n tokens tree rest
  pub from : (room n : ℕ) (tokens : List Terminal) (tree : tree_of symbol) (rest : List Terminal) → j symbol room n tokens tree rest → i (tree_of symbol) other room n tokens tree rest

module _ (i : NewInside) (j : Inside) (room : ℕ) where
  -- the place of the first token, from which on all tokens are left
  pub record Begun {B : Type 0} (make : ℕ → B) (tokens : List Terminal) (tree : B) (rest : List Terminal) : Type 0 where
    pub token : Terminal
    pub more : List Terminal
    pub tokens_are : tokens ≡ token ∷ more
    pub rest_is : rest ≡ tokens
    pub tree_is : tree ≡ make token.start

  pub begun : {B : Type 0} (make : ℕ → B) (n : ℕ) (tokens : List Terminal) (tree : B) (rest : List Terminal) → forms.means i room (forms.give make ⊙ here) n tokens tree rest → Begun make tokens tree rest
  begun make n tokens tree rest (made, at, first, a, (made', token, second, e, (more, f, g), is), out) = record {
    token = token;
    more = more;
    tokens_are = sym a.1 ∙ (sym e.1 ∙ f);
    rest_is = g ∙ (e.1 ∙ a.1);
    tree_is = out ∙ (ap (λ m. m at) a.0 ∙ ap make (is ∙ ap (λ (m : Terminal → ℕ). m token) e.0));
  }

  pub begin : {B : Type 0} (make : ℕ → B) (n : ℕ) (tokens : List Terminal) (token : Terminal) (more : List Terminal) → tokens ≡ token ∷ more → forms.means i room (forms.give make ⊙ here) n tokens (make token.start) tokens
  begin make n tokens token more e = (
    make,
    token.start,
    tokens,
    (refl, refl),
    (
      λ token. token.start,
      token,
      tokens,
      (refl, refl),
      (more, e, refl),
      refl,
    ),
    refl,
  )

  -- the same token stands first
  pub same_first : (tokens : List Terminal) (token other : Terminal) (more rest : List Terminal) → tokens ≡ token ∷ more → tokens ≡ other ∷ rest → token ≡ other
  same_first tokens token other more rest e f = cc (e, f)

  -- a token of a word, whose place the tree has
  pub keyword : {B : Type 0} (make : ℕ → B) (text : String) → Same i j room (forms.give make ⊙ here ◃ text) (at text gives make)
  keyword make text = record {
    to = λ n tokens tree rest (token, d, w).
        let b = begun make n tokens tree (token ∷ rest) d in
        let tokens_are = sym b.rest_is in
        let first = same_first tokens b.token token b.more rest b.tokens_are tokens_are in
        (token.start, ((token, tt), (tokens_are, meant text token.kind w), refl), b.tree_is ∙ ap (λ (t : Terminal). make t.start) first);
    from = λ n tokens tree rest d.
        let token = d.1.0.0 in
        let one = d.1.1 in (
          token,
          subst (λ t. forms.means i room (forms.give make ⊙ here) n tokens t (token ∷ rest)) (sym (d.2 ∙ ap make d.1.2))
              (subst (λ list. forms.means i room (forms.give make ⊙ here) n tokens (make token.start) list) one.0 (begin make n tokens token rest one.0)),
          only_word text token.kind d.1.0.1 one.1,
        );
  }

  -- the tree of a token of a word
  pub word : {B : Type 0} (make : Terminal → B) (text : String) → Same i j room (forms.give make ⊙ forms.next ◃ text) (one_of (only text) gives λ found. make found.0)
  word make text = record {
    to = λ n tokens tree rest (token, (made, part, between, e, (more, f, g), is), w).
        let first : part ≡ token = cc (f, g) in
        ((token, tt), (sym e.1 ∙ sym g, meant text token.kind w), is ∙ (ap (λ m. m part) e.0 ∙ ap make first));
    from = λ n tokens tree rest d. (
      d.0.0,
      (make, d.0.0, tokens, (refl, refl), (rest, d.1.0, sym d.1.0), d.2),
      only_word text d.0.0.kind d.0.1 d.1.1,
    );
  }

  -- a form that takes a token, and comes with its place
  pub record Placed {A : Type 0} (G : forms.Form A) (H : Form (ℕ × A)) : Type 0 where
    pub to : (n : ℕ) (tokens : List Terminal) (tree : A) (rest : List Terminal) → forms.means i room G n tokens tree rest → (token : Terminal) × (more : List Terminal) × (tokens ≡ token ∷ more) × means j room H n tokens (token.start, tree) rest
    pub from : (n : ℕ) (tokens : List Terminal) (pair : ℕ × A) (rest : List Terminal) → means j room H n tokens pair rest → (token : Terminal) × (more : List Terminal) × (tokens ≡ token ∷ more) × (pair.0 ≡ token.start) × forms.means i room G n tokens pair.1 rest

  pub of_table : {A : Type 0} (rows : List (String × A)) → Placed (forms.one_of rows) (one_of (table rows) gives λ (word, tree). (word.start, tree))
  of_table rows = record {
    to = λ n tokens tree rest (token, e, is). (token, rest, e, ((token, tree), (e, is), refl));
    from = λ n tokens pair rest d.
        let token = d.0.0 in
        (token, rest, d.1.0, ap (λ p. p.0) d.2, (token, d.1.0, d.1.1 ∙ ap Some (sym (ap (λ p. p.1) d.2))));
  }

  pub of_word : {A : Type 0} (make : Terminal → A) (text : String) → Placed (forms.give make ⊙ forms.next ◃ text) (one_of (only text) gives λ found. (found.0.start, make found.0))
  of_word make text = record {
    to = λ n tokens tree rest d.
        let one = (word make text).to n tokens tree rest d in
        (one.0.0, rest, one.1.0, (one.0, one.1, ap (λ t. (one.0.0.start, t)) one.2));
    from = λ n tokens pair rest d.
        (d.0.0, rest, d.1.0, ap (λ p. p.0) d.2, (word make text).from n tokens pair.1 rest ((d.0, d.1, ap (λ p. p.1) d.2)));
  }

  module _ {A : Type 0} {G : forms.Form A} {H : Form (ℕ × A)} (p : Placed G H) where
    pub placed : {B : Type 0} (make : ℕ → A → B) → Same i j room (forms.give make ⊙ here ⊙ G) (H gives λ pair. make pair.0 pair.1)
    placed make = record {
      to = λ n tokens tree rest (made, part, between, d, e, is).
          let b = begun make n tokens made between d in
          let one = p.to n between part rest e in
          let first = same_first tokens b.token one.0 b.more one.1 b.tokens_are (sym b.rest_is ∙ one.2) in (
            (one.0.start, part),
            subst (λ list. means j room H n list (one.0.start, part) rest) b.rest_is one.3,
            is ∙ (ap (λ f. f part) b.tree_is ∙ ap (λ (t : Terminal). make t.start part) first),
          );
      from = λ n tokens tree rest d.
          let one = p.from n tokens d.0 rest d.1 in (
            make one.0.start,
            d.0.1,
            tokens,
            begin make n tokens one.0 one.1 one.2,
            one.4,
            d.2 ∙ ap (λ at. make at d.0.1) one.3,
          );
    }

    -- without its place
    pub unplaced : Same i j room G (H gives λ pair. pair.1)
    unplaced = record {
      to = λ n tokens tree rest d. let one = p.to n tokens tree rest d in ((one.0.start, tree), one.3, refl);
      from = λ n tokens tree rest d.
          subst (λ t. forms.means i room G n tokens t rest) (sym d.2) (p.from n tokens d.0 rest d.1).4;
    }

  -- ---- levels

  module _ (symbol : Symbol) (other : symbols.Symbol (tree_of symbol)) (s : Alike i j symbol other) where
    -- in brackets
    pub opened : (text : String) → Same i j room (text ▹ forms.nested other) (level (only text) symbol gives λ found. found.2)
    opened text = record {
      to = λ n tokens tree rest (make, part, between, (token, e, w), (fits, d), is). (
        (token, tt, part),
        (between, (sym e.1, meant text token.kind w), fits, s.to (pred room) n between part rest d),
        is ∙ ap (λ f. f part) e.0,
      );
      from = λ n tokens tree rest d.
          let one = d.1.1 in (
            λ t. t,
            d.0.2,
            d.1.0,
            (d.0.0, (refl, sym one.0), only_word text d.0.0.kind d.0.1 one.1),
            (d.1.2, s.from (pred room) n d.1.0 d.0.2 rest d.1.3),
            d.2,
          );
    }

    -- the same with the place of the bracket
    pub opened_at : {B : Type 0} (make : ℕ → tree_of symbol → B) (text : String) → Same i j room (forms.give make ⊙ here ◃ text ⊙ forms.nested other) (level (only text) symbol gives λ found. make found.0.start found.2)
    opened_at make text = record {
      to = λ n tokens tree rest (made, part, between, (token, c, w), (fits, d), is).
          let b = begun make n tokens made (token ∷ between) c in
          let tokens_are = sym b.rest_is in
          let first = same_first tokens b.token token b.more between b.tokens_are tokens_are in (
            (token, tt, part),
            (between, (tokens_are, meant text token.kind w), fits, s.to (pred room) n between part rest d),
            is ∙ (ap (λ f. f part) b.tree_is ∙ ap (λ (t : Terminal). make t.start part) first),
          );
      from = λ n tokens tree rest d.
          let one = d.1.1 in
          let token = d.0.0 in (
            make token.start,
            d.0.2,
            d.1.0,
            (
              token,
              subst (λ list. forms.means i room (forms.give make ⊙ here) n tokens (make token.start) list) one.0 (begin make n tokens token d.1.0 one.0),
              only_word text token.kind d.0.1 one.1,
            ),
            (d.1.2, s.from (pred room) n d.1.0 d.0.2 rest d.1.3),
            d.2,
          );
    }

    -- after a sign, with its place
    pub signed_by : {A B : Type 0} (make : ℕ → A → tree_of symbol → B) (rows : List (String × A)) → Same i j room (forms.give make ⊙ here ⊙ forms.one_of rows ⊙ forms.nested other) (level (table rows) symbol gives λ found. make found.0.start found.1 found.2)
    signed_by make rows = record {
      to = λ n tokens tree rest (made, part, between, c, (fits, d), is).
          let one = (placed (of_table rows) make).to n tokens made between c in
          let token = one.1.0.0 in (
            (token, one.1.0.1, part),
            (between, one.1.1, fits, s.to (pred room) n between part rest d),
            is ∙ ap (λ f. f part) (one.2 ∙ ap (λ p. make p.0 p.1) one.1.2),
          );
      from = λ n tokens tree rest d. (
        make d.0.0.start d.0.1,
        d.0.2,
        d.1.0,
        (placed (of_table rows) make).from n tokens (make d.0.0.start d.0.1) d.1.0 (((d.0.0.start, d.0.1), ((d.0.0, d.0.1), d.1.1, refl), refl)),
        (d.1.2, s.from (pred room) n d.1.0 d.0.2 rest d.1.3),
        d.2,
      );
    }

    -- after an operator
    pub operated : {A B : Type 0} (make : A → tree_of symbol → B) (rows : List (String × A)) → Same i j room (forms.give make ⊙ forms.one_of rows ⊙ forms.nested other) (level (table rows) symbol gives λ found. make found.1 found.2)
    operated make rows = record {
      to = λ n tokens tree rest (made, part, between, (mk, value, first, e, (token, f, g), out), (fits, d), is). (
        (token, value, part),
        (between, (sym e.1 ∙ f, g), fits, s.to (pred room) n between part rest d),
        is ∙ ap (λ f. f part) (out ∙ ap (λ f. f value) e.0),
      );
      from = λ n tokens tree rest d. (
        make d.0.1,
        d.0.2,
        d.1.0,
        (make, d.0.1, tokens, (refl, refl), (d.0.0, d.1.1.0, d.1.1.1), refl),
        (d.1.2, s.from (pred room) n d.1.0 d.0.2 rest d.1.3),
        d.2,
      );
    }
