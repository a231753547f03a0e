use Rattle.std.proofs.Common.{[], ◌∷◌, ap, true}
use Rattle.resolved.specs.declared.statement.Exit.TheVariants.{Normal, Return, Break, Continue, Throw}
use Rattle.path_map.specs.Exits.{Exits}
use Rattle.path_map.specs.Sets.{members}
use Rattle.path_map.proofs.Walking.{alone, one-thrown, sum-none}
use Rattle.path_map.proofs.walk.leave.Goals as goal

pub returns-in-Normal-clause-found : goal.returns-in-Normal-clause-found
returns-in-Normal-clause-found c =
    rw c.in-Normal.is (alone (Normal ∷ []) (members c.args.raised.now) (members c.args.raised.now) c.go_on_or_raise.result c.go_on_or_raise.ensures
    (sum-none (members c.args.raised.now)))

pub returns-in-Return-clause-found : goal.returns-in-Return-clause-found
returns-in-Return-clause-found c =
    rw c.in-Return.is (alone (Return ∷ []) (members c.args.raised.now) (members c.args.raised.now) c.return_or_raise.result c.return_or_raise.ensures
    (sum-none (members c.args.raised.now)))

pub returns-in-Break-clause-found : goal.returns-in-Break-clause-found
returns-in-Break-clause-found c =
    rw c.in-Break.is (alone (Break ∷ []) (members c.args.raised.now) (members c.args.raised.now) _
    (ap (λ (x : Exits). record x { breaks = true }) c.raise_only-none.ensures) (sum-none (members c.args.raised.now)))

pub returns-in-Continue-clause-found : goal.returns-in-Continue-clause-found
returns-in-Continue-clause-found c =
    rw c.in-Continue.is (alone (Continue ∷ []) (members c.args.raised.now) (members c.args.raised.now) _
    (ap (λ (x : Exits). record x { continues = true }) c.raise_only-none.ensures) (sum-none (members c.args.raised.now)))

pub returns-in_ok-insert-in-Throw-clause-found : goal.returns-in_ok-insert-in-Throw-clause-found
returns-in_ok-insert-in-Throw-clause-found c =
    rw c.in-Throw.is (alone (Throw c.in-Throw.exception ∷ []) (members c.args.raised.now) (members c.insert.new.self) c.raise_only.result c.raise_only.ensures
    (one-thrown (members c.args.raised.now) (members c.insert.new.self) c.in-Throw.exception c.in_ok-insert-in-Throw.ensures.added))
