-- The grammar and the parser's own spell the same trees: production by production.
use Prim.Native.String.{String}
use Rattle.std.proofs.Common.{◌≡◌, ℕ, zero, suc, List, [], ◌∷◌, length, refl, sym, ◌∙◌, ap, subst, inl, inr}
use Rattle.std.specs.Prelude.{Option, None, Some, unwrap_or, slice_get, true, false}
use Rattle.std.proofs.lemmas.Option.{unwrap_or-slice_get}
use Rattle.lexer.specs.Terminal.{Terminal}
use Rattle.common.specs.declared.base_type.BaseType.{BaseType}
use Rattle.syntax.specs.declared.tree.BinaryOperator.{BinaryOperator}
use Rattle.syntax.specs.Form as forms
use Rattle.syntax.specs.Form.{◌·◌ as ◌⊙◌, ◌◂◌ as ◌◃◌, ◌or◌ as ◌else◌}
use Rattle.syntax.specs.Symbol as symbols
use Rattle.syntax.specs.Grammar as grammar
use Rattle.syntax.specs.Grammar.{here, lines, grouped, paired, value_of, SpellsBut, ◌▸◌ as ◌▹◌}
use Rattle.syntax.specs.Tree.{LabelTree, ExpressionTree, ConstantTree, IntegerConstant, ProgramTree}
use Rattle.parser.specs.ReadForm.{Form, give, one_of, ◌·◌, ◌or◌, ◌gives◌, means}
use Rattle.parser.specs.ReadSymbol.{Expression, Unary, Operands, Arguments, Statements}
use Rattle.parser.specs.ReadGrammar.{at, separated, name, component, label, base, integer, truth, index, primary, unary, others_by, others_of, chains, expression, call, right, size, block, condition, catch, statement, direction, constant, written_result, parameter, throws, item, program, production, within, Spelled}
use Rattle.parser.proofs.Derivations.{Inside}
use Rattle.parser.proofs.Pairs.{NewInside, Same, starts, starts_by, step, step_by, step_after, drop, drop_plain, drop_in, lead, lead_two, exactly, nest, either, either_two, one_of_three, with_or_without, swapped, given, each, maybe, parted, any}
use Rattle.parser.proofs.Openings.{Alike, begun, begin, same_first, keyword, word, Placed, of_table, of_word, placed, unplaced, opened, opened_at, signed_by, operated}

-- all symbols mean the same
pub record AllAlike (i : NewInside) (j : Inside) : Type 0 where
  pub expression : Alike i j Expression symbols.Expression
  pub unary : Alike i j Unary symbols.Unary
  pub operands : (line : ℕ) → Alike i j (Operands line) (symbols.Operands line)
  pub arguments : Alike i j Arguments symbols.Arguments
  pub statements : Alike i j Statements symbols.Statements

module _ (i : NewInside) (j : Inside) (room : ℕ) where
  abbrev Agrees : {A : Type 0} → forms.Form A → Form A → Type 0
  Agrees F G = Same i j room F G

  name_same : Agrees grammar.name name
  unfolding name grammar.name
  name_same = word i j room (λ token. record { at = token.start; text = token.text }) "a name"

  component_same : Agrees grammar.component component
  unfolding component grammar.component
  component_same =
      with_or_without i j room _ (step_after i j room (starts i j room _ name_same) ":" (any i j room name_same ","))
      (starts i j room _ name_same)

  label_same : Agrees grammar.label label
  unfolding label grammar.label
  label_same =
      drop i j room "}" (step i j room (keyword i j room (λ at components. record { at = at; components = components }) "{") (any i j room component_same ";"))

  base_placed : Placed i j room grammar.base base
  unfolding base grammar.base
  base_placed = of_table i j room _

  integer_placed : Placed i j room grammar.integer integer
  unfolding integer grammar.integer
  integer_placed = of_word i j room (λ token. value_of token.kind) "an integer"

  truth_placed : Placed i j room grammar.truth truth
  unfolding truth grammar.truth
  truth_placed = of_table i j room _

  -- what a procedure answers, with its place
  some_result : Agrees (forms.give Some ⊙ (forms.give paired ⊙ grammar.base ⊙ grammar.label)) (base · label gives λ pair. Some (pair.0.1, pair.1))
  some_result =
      starts_by i j room Some (λ pair. (pair.0.1, pair.1)) (step i j room (starts_by i j room paired (λ pair. pair.1) (unplaced i j room base_placed)) label_same)

  abbrev Result : Type 0
  Result = Option (BaseType × LabelTree)

  result_placed : Placed i j room ("void" ▹ forms.give None else forms.give Some ⊙ (forms.give paired ⊙ grammar.base ⊙ grammar.label)) written_result
  unfolding written_result
  result_placed = record {
    to = λ n tokens tree rest d. elim d [
      | inl one ↦
          let inner = (lead i j room "void" (given i j room None)).to n tokens tree rest one in
          let first = inner.1.1 in (
            first.0.0,
            inner.1.0,
            first.1.0,
            inl ((first.0.0.start, (first.0, (first.1.0 ∙ ap (λ list. first.0.0 ∷ list) (sym inner.1.2.1), first.1.1), refl), ap (λ t. (first.0.0.start, t)) (inner.2 ∙ inner.1.2.0))),
          )
      | inr other ↦
          let inner = some_result.to n tokens tree rest other in
          let first = base_placed.from n tokens inner.0.0 inner.1.0 inner.1.1 in (
            first.0,
            first.1,
            first.2,
            inr ((inner.0, inner.1, ap (λ t. (first.0.start, t)) inner.2 ∙ ap (λ (place : ℕ). (place, Some (inner.0.0.1, inner.0.1))) (sym first.3))),
          )
    ];
    from = λ n tokens pair rest d. elim d [
      | inl one ↦
          let token = one.1.0.0 in (
            token,
            rest,
            one.1.1.0,
            ap (λ (p : ℕ × Result). p.0) one.2 ∙ one.1.2,
            inl ((lead i j room "void" (given i j room None)).from n tokens pair.1 rest (((token.start, None), (rest, (one.1.0, one.1.1, refl), (refl, refl)), ap (λ (p : ℕ × Result). p.1) one.2))),
          )
      | inr other ↦
          let first = base_placed.from n tokens other.0.0 other.1.0 other.1.1 in (
            first.0,
            first.1,
            first.2,
            ap (λ (p : ℕ × Result). p.0) other.2 ∙ first.3,
            inr (some_result.from n tokens pair.1 rest ((other.0, other.1, ap (λ (p : ℕ × Result). p.1) other.2))),
          )
    ];
  }

  size_same : Agrees grammar.size size
  unfolding size grammar.size
  size_same = drop_plain i j room "]" (lead i j room "[" (exactly i j room (placed i j room integer_placed paired)))

  parameter_same : Agrees grammar.parameter parameter
  unfolding parameter grammar.parameter
  parameter_same = step i j room (step i j room (placed i j room base_placed _) label_same) name_same

  throws_same : Agrees ("throws" ▹ "(" ▹ grammar.separated "," (forms.give paired ⊙ grammar.name ⊙ grammar.label) ◃ ")" else forms.give []) throws
  unfolding throws
  throws_same =
      either i j room (drop i j room ")" (lead_two i j room "throws" "(" (parted i j room (exactly i j room (step i j room (starts i j room paired name_same) label_same)) ","))) (given i j room [])

  -- an integer is negative, or it is not
  abbrev Signed : forms.Form ConstantTree
  Signed = forms.give IntegerConstant ⊙ here ⊙ ("-" ▹ forms.give true else forms.give false) ⊙ grammar.integer

  abbrev Negative : Form ConstantTree
  Negative = at "-" · integer gives λ pair. IntegerConstant pair.0 true pair.1.1

  abbrev Positive : Form ConstantTree
  Positive = integer gives λ pair. IntegerConstant pair.0 false pair.1

  signed_same : Agrees Signed (Negative or Positive)
  signed_same = record {
    to = λ n tokens tree rest (made, value, between, (make, negative, first, start, sign, out), int, is).
        let b = begun i j room (λ at negative value. IntegerConstant at negative value) n tokens make first start in
        elim sign [
          | inl one ↦
              let minus = (lead i j room "-" (given i j room true)).to n first negative between one in
              let token = minus.1.1.0.0 in
              let left = minus.1.0 in
              let tokens_are : tokens ≡ token ∷ left = sym b.rest_is ∙ minus.1.1.1.0 in
              let same = same_first i j room tokens b.token token b.more left b.tokens_are tokens_are in
              let inner = (unplaced i j room integer_placed).to n between value rest int in
              inl ((
                (token.start, inner.0),
                (
                  left,
                  (minus.1.1.0, (tokens_are, minus.1.1.1.1), refl),
                  subst (λ list. means j room integer n list inner.0 rest) minus.1.2.1 inner.1,
                ),
                is
                    ∙ (ap (λ f. f value) (out ∙ ap (λ f. f negative) b.tree_is)
                    ∙ (ap (λ (t : Terminal). IntegerConstant t.start negative value) same
                    ∙ (ap (λ sign. IntegerConstant token.start sign value) (minus.2 ∙ minus.1.2.0) ∙ ap (IntegerConstant token.start true) inner.2))),
              ))
          | inr other ↦
              let one = integer_placed.to n between value rest int in
              let all = other.1 ∙ b.rest_is in
              let same = same_first i j room tokens b.token one.0 b.more one.1 b.tokens_are (sym all ∙ one.2) in
              inr ((
                (one.0.start, value),
                subst (λ list. means j room integer n list (one.0.start, value) rest) all one.3,
                is
                    ∙ (ap (λ f. f value) (out ∙ ap (λ f. f negative) b.tree_is)
                    ∙ (ap (λ (t : Terminal). IntegerConstant t.start negative value) same ∙ ap (λ sign. IntegerConstant one.0.start sign value) other.0)),
              ))
        ];
    from = λ n tokens tree rest d. elim d [
      | inl one ↦
          let token = one.1.1.0.0 in
          let left = one.1.0 in
          let tokens_are : tokens ≡ token ∷ left = one.1.1.1.0 in (
            IntegerConstant token.start true,
            one.0.1.1,
            left,
            (
              IntegerConstant token.start,
              true,
              tokens,
              begin i j room (λ at negative value. IntegerConstant at negative value) n tokens token left tokens_are,
              inl ((lead i j room "-" (given i j room true)).from n tokens true left (((token.start, true), (left, (one.1.1.0, one.1.1.1, refl), (refl, refl)), refl))),
              refl,
            ),
            (unplaced i j room integer_placed).from n left one.0.1.1 rest ((one.0.1, one.1.2, refl)),
            one.2 ∙ ap (λ at. IntegerConstant at true one.0.1.1) one.1.1.2,
          )
      | inr other ↦
          let one = integer_placed.from n tokens other.0 rest other.1 in (
            IntegerConstant one.0.start false,
            other.0.1,
            tokens,
            (
              IntegerConstant one.0.start,
              false,
              tokens,
              begin i j room (λ at negative value. IntegerConstant at negative value) n tokens one.0 one.1 one.2,
              inr ((refl, refl)),
              refl,
            ),
            one.4,
            other.2 ∙ ap (λ at. IntegerConstant at false other.0.1) one.3,
          )
    ];
  }

  constant_same : Agrees grammar.constant constant
  unfolding constant grammar.constant
  constant_same = one_of_three i j room signed_same (placed i j room truth_placed _)

module _ (i : NewInside) (j : Inside) (room : ℕ) (s : AllAlike i j) where
  abbrev Agree : {A : Type 0} → forms.Form A → Form A → Type 0
  Agree F G = Same i j room F G

  index_same : Agree grammar.index index
  unfolding index grammar.index
  index_same = drop i j room "]" (opened i j room Expression symbols.Expression s.expression "[")

  primary_same : Agree grammar.primary primary
  unfolding primary grammar.primary
  primary_same =
      either i j room (placed i j room (integer_placed i j room) _)
      (either i j room (placed i j room (truth_placed i j room) _)
      (either_two i j room
      (swapped i j room (with_or_without i j room _ (step i j room (starts i j room _ (name_same i j room)) index_same) (starts i j room _ (name_same i j room))))
      (drop i j room ")" (opened i j room Expression symbols.Expression s.expression "("))))

  unary_same : Agree grammar.unary unary
  unfolding unary grammar.unary
  unary_same = either i j room (signed_by i j room Unary symbols.Unary s.unary _ _) primary_same

  -- the rest of a chain; a line that is none has no operator
  abbrev added : BinaryOperator → ExpressionTree × List (BinaryOperator × ExpressionTree) → List (BinaryOperator × ExpressionTree)
  added operator pair = (operator, pair.0) ∷ pair.1

  others_found : (line : ℕ) (found : Option (List (String × BinaryOperator))) → Agree (forms.give added ⊙ forms.one_of (unwrap_or found []) ⊙ forms.nested (symbols.Operands line) else forms.give []) (others_by line found)
  others_found line None = record {
    to = λ n tokens tree rest d. elim d [ inl (made, part, between, (m, v, b, e, (token, f, g), h), d, is) ↦ cc g | inr other ↦ other ];
    from = λ n tokens tree rest d. inr d;
  }
  others_found line (Some operators) =
      either i j room (operated i j room (Operands line) (symbols.Operands line) (s.operands line) added operators) (given i j room [])

  others_same : (line : ℕ) → Agree (grammar.others line) (others_of line)
  others_same line =
      subst (λ rows. Agree (forms.give added ⊙ forms.one_of rows ⊙ forms.nested (symbols.Operands line) else forms.give []) (others_of line)) (unwrap_or-slice_get lines line []) (others_found line (slice_get lines line))

  operand_same : (line : ℕ) → Agree (grammar.operand line) (chains line unary)
  operand_same zero = unary_same
  operand_same (suc line) = step i j room (starts i j room grouped (operand_same line)) (others_same line)

  operands_same : (line : ℕ) → Agree (forms.give paired ⊙ grammar.operand line ⊙ grammar.others line) (chains line unary · others_of line)
  operands_same line = exactly i j room (step i j room (starts i j room paired (operand_same line)) (others_same line))

  expression_same : Agree grammar.expression expression
  unfolding expression grammar.expression
  expression_same = operand_same (length lines)

  call_same : Agree grammar.call call
  unfolding call grammar.call
  call_same =
      exactly i j room (step i j room (starts i j room paired (name_same i j room)) (drop i j room ")" (opened i j room Arguments symbols.Arguments s.arguments "(")))

  right_same : Agree grammar.right right
  unfolding right grammar.right
  right_same =
      either i j room (step i j room (keyword i j room _ "receive") (name_same i j room))
      (either i j room (starts i j room _ call_same) (starts i j room _ expression_same))

  block_same : Agree grammar.block block
  unfolding block grammar.block
  block_same = drop i j room "}" (opened_at i j room Statements symbols.Statements s.statements _ "{")

  condition_same : Agree ("(" ▹ grammar.expression ◃ ")") condition
  unfolding condition
  condition_same = drop_plain i j room ")" (lead i j room "(" expression_same)

  catch_same : Agree grammar.catch catch
  unfolding catch grammar.catch
  catch_same =
      step i j room (drop i j room ")" (step i j room (drop i j room "(" (keyword i j room _ "catch")) (name_same i j room))) block_same

  statement_same : Agree grammar.statement statement
  unfolding statement grammar.statement
  statement_same =
      let name = name_same i j room in
      let base = base_placed i j room in
      let label = label_same i j room in
      either i j room (drop i j room ";" (step i j room (step i j room (step i j room (placed i j room base _) (maybe i j room label)) name) (lead i j room "=" right_same)))
      (either i j room (drop i j room ";" (step i j room (step i j room (step i j room (placed i j room base _) (maybe i j room label)) name) (size_same i j room)))
      (either i j room (drop i j room ";" (step i j room (starts i j room _ name) (lead i j room "=" right_same)))
      (either i j room (drop i j room ";" (nest i j room _ (step i j room (drop_in i j room "=" (step i j room (starts i j room _ name) index_same)) expression_same)))
      (either i j room (drop i j room ";" (starts i j room _ call_same))
      (either i j room (drop i j room ";" (step i j room (keyword i j room _ "receive") name))
      (either i j room (drop i j room ";" (step i j room (drop i j room "," (step i j room (keyword i j room _ "send") name)) expression_same))
      (either_two i j room (swapped i j room (with_or_without i j room _
      (step i j room (step i j room (step i j room (keyword i j room _ "if") condition_same) block_same) (lead i j room "else" block_same))
      (step i j room (step i j room (keyword i j room _ "if") condition_same) block_same)))
      (either i j room (step i j room (step i j room (keyword i j room _ "while") condition_same) block_same)
      (either i j room (drop i j room ";" (keyword i j room _ "break"))
      (either i j room (drop i j room ";" (keyword i j room _ "continue"))
      (either i j room (drop i j room ";" (step i j room (keyword i j room _ "throw") name))
      (either i j room (drop i j room ";" (step i j room (keyword i j room _ "return") (maybe i j room expression_same)))
      (either i j room (step i j room (step i j room (keyword i j room _ "try") block_same) (step i j room (starts i j room _ catch_same) (each i j room catch_same)))
      (starts i j room _ block_same))))))))))))))

  item_same : Agree grammar.item item
  unfolding item grammar.item direction
  item_same =
      let name = name_same i j room in
      let base = base_placed i j room in
      let label = label_same i j room in
      either i j room (drop i j room ";" (step i j room (step i j room (placed i j room (of_table i j room _) _) label) name))
      (either i j room (drop i j room ";" (step i j room (keyword i j room _ "exception") name))
      (either i j room
      (drop i j room ";" (step i j room (step i j room (step i j room (step_by i j room (keyword i j room _ "global") (λ pair. pair.1) (unplaced i j room base)) label) name)
      (either i j room (starts i j room _ (lead i j room "=" (constant_same i j room))) (starts i j room _ (size_same i j room)))))
      (step i j room (step i j room (step i j room
      (drop i j room ")" (step i j room
      (drop i j room "(" (step i j room (step i j room (placed i j room (result_placed i j room) _) name) (maybe i j room label)))
      (any i j room (parameter_same i j room) ",")))
      (maybe i j room (lead i j room ":" label))) (throws_same i j room)) block_same)))

  program_same : Agree grammar.program program
  unfolding program grammar.program
  program_same = drop i j room "the end" (starts i j room _ (each i j room item_same))

-- the symbols, at each depth
symbols_alike : (depth : ℕ) → AllAlike (grammar.within depth) (within depth)
unfolding production grammar.production
symbols_alike zero = record {
  expression = record { to = λ room n tokens tree rest d. absurd d; from = λ room n tokens tree rest d. absurd d };
  unary = record { to = λ room n tokens tree rest d. absurd d; from = λ room n tokens tree rest d. absurd d };
  operands = λ line. record { to = λ room n tokens tree rest d. absurd d; from = λ room n tokens tree rest d. absurd d };
  arguments = record { to = λ room n tokens tree rest d. absurd d; from = λ room n tokens tree rest d. absurd d };
  statements = record { to = λ room n tokens tree rest d. absurd d; from = λ room n tokens tree rest d. absurd d };
}
symbols_alike (suc depth) =
    let i = grammar.within depth in
    let j = within depth in
    let s = symbols_alike depth in
    record {
      expression = record { to = λ room. (expression_same i j room s).to; from = λ room. (expression_same i j room s).from };
      unary = record { to = λ room. (unary_same i j room s).to; from = λ room. (unary_same i j room s).from };
      operands = λ line. record { to = λ room. (operands_same i j room s line).to; from = λ room. (operands_same i j room s line).from };
      arguments = record { to = λ room. (any i j room (expression_same i j room s) ",").to; from = λ room. (any i j room (expression_same i j room s) ",").from };
      statements = record { to = λ room. (each i j room (statement_same i j room s)).to; from = λ room. (each i j room (statement_same i j room s)).from };
    }

-- what the grammar spells is spelled by the parser's, and the other way round
pub as_paired : (n : ℕ) (tokens : List Terminal) (tree : ProgramTree) → SpellsBut n tokens tree → Spelled program 64 n tokens tree []
as_paired n tokens tree d =
    (d.0, (program_same (grammar.within d.0) (within d.0) 64 (symbols_alike d.0)).to n tokens tree [] d.1)

pub as_spelled : (n : ℕ) (tokens : List Terminal) (tree : ProgramTree) → Spelled program 64 n tokens tree [] → SpellsBut n tokens tree
as_spelled n tokens tree d =
    (d.0, (program_same (grammar.within d.0) (within d.0) 64 (symbols_alike d.0)).from n tokens tree [] d.1)
