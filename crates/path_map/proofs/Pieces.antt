-- The exits of the statements and blocks of a program, each by its number.
use Rattle.std.proofs.Common.{◌≡◌, refl, sym, ap, ◌∙◌, subst, ℕ, zero, suc, List, [], ◌∷◌, ◌++◌, map, length, flat_map}
use Rattle.std.specs.Prelude.{Some, slice_get, slice_index_or}
use Rattle.std.proofs.lemmas.List.{map-append}
use Rattle.resolved.specs.declared.statement.Exit.{Exit}
use Rattle.resolved.specs.Tree.{Statement, Placed, Assign, Clear, Store, Receive, Send, Call, If, While, Leave, ReturnWith, Try, Nested, Block, Empty, Then, Handlers, NoMore, Catch}
use Rattle.resolved.specs.Program.{Program, ProcedureEntry}
use Rattle.resolved.specs.Exits.{statement_exits}
use Rattle.path_map.specs.EndsOf.{SameExits, AreEndsOf, piece_exits}
use Rattle.path_map.specs.Paths.{HaveSameExits, inner_paths, rest_paths, handlers_paths, block_paths, program_paths}
use Rattle.path_map.specs.Pieces.{Piece, OfStatement, OfBlock, pieces_in_statement, pieces_in_block, pieces_in_handlers, program_pieces}

module _ (program : Program) where
  abbrev ends_of : List Piece → List (List Exit)
  ends_of pieces = map (piece_exits program) pieces

  both-parts : (xs ys : List Piece) (ps qs : List (List Exit)) → ends_of xs ≡ ps → ends_of ys ≡ qs → ends_of (xs ++ ys) ≡ ps ++ qs
  both-parts xs ys ps qs first second = map-append (piece_exits program) xs ys ∙ (ap (λ zs. zs ++ ends_of ys) first ∙ ap (λ zs. ps ++ zs) second)

  one-more : (piece : Piece) (xs : List Piece) (ps : List (List Exit)) → ends_of xs ≡ ps → ends_of (piece ∷ xs) ≡ piece_exits program piece ∷ ps
  one-more piece xs ps rest = ap (λ zs. piece_exits program piece ∷ zs) rest

  mutual
    in-statement : (statement : Statement) → ends_of (pieces_in_statement statement) ≡ inner_paths program statement
    in-statement (Placed at (Assign x e)) = refl
    in-statement (Placed at (Clear slot)) = refl
    in-statement (Placed at (Store array length index e)) = refl
    in-statement (Placed at (Receive channel target)) = refl
    in-statement (Placed at (Send channel e)) = refl
    in-statement (Placed at (Call procedure arguments target)) = refl
    in-statement (Placed at (If e then_block else_block)) =
        both-parts (OfBlock then_block ∷ pieces_in_block then_block) (OfBlock else_block ∷ pieces_in_block else_block)
        (block_paths program then_block) (block_paths program else_block)
        (one-more (OfBlock then_block) (pieces_in_block then_block) (rest_paths program then_block) (in-block then_block))
        (one-more (OfBlock else_block) (pieces_in_block else_block) (rest_paths program else_block) (in-block else_block))
    in-statement (Placed at (While loop e body)) = one-more (OfBlock body) (pieces_in_block body) (rest_paths program body) (in-block body)
    in-statement (Placed at (Leave exit)) = refl
    in-statement (Placed at (ReturnWith value)) = refl
    in-statement (Placed at (Try block handlers)) =
        both-parts (OfBlock block ∷ pieces_in_block block) (pieces_in_handlers handlers)
        (block_paths program block) (handlers_paths program handlers)
        (one-more (OfBlock block) (pieces_in_block block) (rest_paths program block) (in-block block)) (in-handlers handlers)
    in-statement (Placed at (Nested block)) = one-more (OfBlock block) (pieces_in_block block) (rest_paths program block) (in-block block)

    in-block : (block : Block) → ends_of (pieces_in_block block) ≡ rest_paths program block
    in-block Empty = refl
    in-block (Then statement rest) =
        both-parts (OfStatement statement ∷ pieces_in_statement statement) (pieces_in_block rest)
        (statement_exits program statement ∷ inner_paths program statement) (rest_paths program rest)
        (one-more (OfStatement statement) (pieces_in_statement statement) (inner_paths program statement) (in-statement statement)) (in-block rest)

    in-handlers : (handlers : Handlers) → ends_of (pieces_in_handlers handlers) ≡ handlers_paths program handlers
    in-handlers NoMore = refl
    in-handlers (Catch at handled body rest) =
        both-parts (OfBlock body ∷ pieces_in_block body) (pieces_in_handlers rest) (block_paths program body) (handlers_paths program rest)
        (one-more (OfBlock body) (pieces_in_block body) (rest_paths program body) (in-block body)) (in-handlers rest)

  in-procedures : (procedures : List ProcedureEntry)
      → ends_of (flat_map (λ (procedure : ProcedureEntry). OfBlock procedure.body ∷ pieces_in_block procedure.body) procedures)
      ≡ flat_map (λ (procedure : ProcedureEntry). block_paths program procedure.body) procedures
  in-procedures [] = refl
  in-procedures (procedure ∷ rest) =
      both-parts (OfBlock procedure.body ∷ pieces_in_block procedure.body)
      (flat_map (λ (other : ProcedureEntry). OfBlock other.body ∷ pieces_in_block other.body) rest)
      (block_paths program procedure.body) (flat_map (λ (other : ProcedureEntry). block_paths program other.body) rest)
      (one-more (OfBlock procedure.body) (pieces_in_block procedure.body) (rest_paths program procedure.body) (in-block procedure.body))
      (in-procedures rest)

  pub pieces-paths : map (piece_exits program) (program_pieces program) ≡ program_paths program
  pieces-paths = in-procedures program.procedures

  -- from all in one list to each by its number, and back
  as-many : (found : List (List Exit)) (pieces : List Piece) → HaveSameExits found (map (piece_exits program) pieces) → length found ≡ length pieces
  as-many [] [] alike = refl
  as-many [] (piece ∷ pieces) alike = absurd alike
  as-many (x ∷ found) [] alike = absurd alike
  as-many (x ∷ found) (piece ∷ pieces) alike = ap suc (as-many found pieces alike.1)

  each-same : (found : List (List Exit)) (pieces : List Piece) → HaveSameExits found (map (piece_exits program) pieces)
      → (number : ℕ) (piece : Piece) → slice_get pieces number ≡ Some piece → SameExits (slice_index_or found number []) (piece_exits program piece)
  each-same found [] alike number piece is = absurd (cc)
  each-same [] (other ∷ pieces) alike number piece is = absurd alike
  each-same (x ∷ found) (other ∷ pieces) alike zero piece is =
      let same : other ≡ piece = cc in subst (λ p. SameExits x (piece_exits program p)) same alike.0
  each-same (x ∷ found) (other ∷ pieces) alike (suc number) piece is = each-same found pieces alike.1 number piece is

  all-alike : (found : List (List Exit)) (pieces : List Piece) → length found ≡ length pieces
      → ((number : ℕ) (piece : Piece) → slice_get pieces number ≡ Some piece → SameExits (slice_index_or found number []) (piece_exits program piece))
      → HaveSameExits found (map (piece_exits program) pieces)
  all-alike [] [] many each = tt
  all-alike [] (piece ∷ pieces) many each = absurd (cc)
  all-alike (x ∷ found) [] many each = absurd (cc)
  all-alike (x ∷ found) (piece ∷ pieces) many each =
      (each 0 piece refl, all-alike found pieces (cc) (λ number other is. each (suc number) other is))

  pub ends-found : (found : List (List Exit)) → HaveSameExits found (program_paths program) → AreEndsOf program found
  ends-found found alike =
      let pieces : HaveSameExits found (map (piece_exits program) (program_pieces program)) =
      subst (λ paths. HaveSameExits found paths) (sym pieces-paths) alike in
      record {
        as_many = as-many found (program_pieces program) pieces;
        each = each-same found (program_pieces program) pieces;
      }

  pub paths-found : (found : List (List Exit)) → AreEndsOf program found → HaveSameExits found (program_paths program)
  paths-found found ends =
      subst (λ paths. HaveSameExits found paths) pieces-paths (all-alike found (program_pieces program) ends.as_many ends.each)
