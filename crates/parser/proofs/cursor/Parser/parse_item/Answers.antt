use Rattle.std.proofs.Common.{sym, ◌∙◌, inl, inr}
use Rattle.lexer.specs.Terminal.{terminals_of}
use Rattle.lexer.specs.declared.token.Kind.TheVariants as kinds
use Rattle.parser.proofs.Items.{item_starts}
use Rattle.parser.proofs.cursor.Parser.parse_item.Goals as goal

pub returns-in-Input : goal.returns-in-Input
returns-in-Input c =
    elim c.in-Input.is [
      | inl is ↦ rw (item_starts 64 (terminals_of c.args.self.now.rest.now) kinds.Input (sym c.kind.ensures ∙ is)) (c.parse_channel.ensures 64)
      | inr is ↦ rw (item_starts 64 (terminals_of c.args.self.now.rest.now) kinds.Output (sym c.kind.ensures ∙ is)) (c.parse_channel.ensures 64)
    ]

pub returns-in-Exception : goal.returns-in-Exception
returns-in-Exception c =
    rw (item_starts 64 (terminals_of c.args.self.now.rest.now) kinds.Exception (sym c.kind.ensures ∙ c.in-Exception.is)) (c.parse_exception.ensures 64)

pub returns-in-Global : goal.returns-in-Global
returns-in-Global c =
    rw (item_starts 64 (terminals_of c.args.self.now.rest.now) kinds.Global (sym c.kind.ensures ∙ c.in-Global.is)) (c.parse_global.ensures 64)
