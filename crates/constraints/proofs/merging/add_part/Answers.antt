use Rattle.std.proofs.Common.{subst, sym, [], ◌++◌, ◌∷◌, ◌∙◌}
use Rattle.std.proofs.lemmas.List.{append-nil}
use Rattle.constraints.specs.Following.{IsOver}
use Rattle.constraints.specs.Merging.{HasMore}
use Rattle.constraints.proofs.Paths.{over-same, over-then}
use Rattle.constraints.proofs.PartRows.{more-covered, more-pushed, more-replaced}
use Rattle.constraints.proofs.merging.add_part.Goals as goal

pub returns-then-leads : goal.returns-then-leads
returns-then-leads c =
    let over = IsOver c.args.following.now in
    let new = c.push-then-leads.new.self.items in
    subst (λ xs. HasMore over (c.args.part ∷ []) xs new) (sym c.in-Some.ensures.items)
    (subst (HasMore over (c.args.part ∷ []) (c.pop.new.self.items ++ c.in-Some.last ∷ [])) (sym c.in_ok-push-2.ensures.items)
    (more-replaced over (over-same c.args.following.now) (over-then c.args.following.now) c.args.part c.in-Some.last c.pop.new.self.items (c.leads.ensures c.if-leads.true)))

pub returns-in_ok-push-4 : goal.returns-in_ok-push-4
returns-in_ok-push-4 c =
    let over = IsOver c.args.following.now in
    let new = c.push-then-not-leads.new.self.items in
    let old = c.pop.new.self.items ++ c.in-Some.last ∷ [] in
    subst (λ xs. HasMore over (c.args.part ∷ []) xs new) (sym c.in-Some.ensures.items)
    (subst (HasMore over (c.args.part ∷ []) old) (sym c.in_ok-push-4.ensures.items)
    (subst (λ xs. HasMore over (c.args.part ∷ []) old (xs ++ c.args.part ∷ [])) (sym c.in_ok-push-3.ensures.items)
    (more-pushed over (over-same c.args.following.now) (over-then c.args.following.now) c.args.part old)))

pub returns-else-not-leads : goal.returns-else-not-leads
returns-else-not-leads c =
    let over = IsOver c.args.following.now in
    let new = c.push-2.new.self.items in
    let old = c.pop.new.self.items ++ c.in-Some.last ∷ [] in
    subst (λ xs. HasMore over (c.args.part ∷ []) xs new) (sym c.in-Some.ensures.items)
    (subst (HasMore over (c.args.part ∷ []) old) (sym c.in_ok-push-3.ensures.items)
    (more-covered over (over-same c.args.following.now) (over-then c.args.following.now) c.args.part c.in-Some.last c.pop.new.self.items (c.leads-2.ensures c.if-not-leads.false)))

pub returns-in_default : goal.returns-in_default
returns-in_default c =
    let over = IsOver c.args.following.now in
    let front = c.pop.new.self.items in
    subst (λ xs. HasMore over (c.args.part ∷ []) xs c.push.new.self.items) (sym (c.in_default.ensures.items ∙ append-nil front))
    (subst (HasMore over (c.args.part ∷ []) front) (sym c.in_ok-push.ensures.items) (more-pushed over (over-same c.args.following.now) (over-then c.args.following.now) c.args.part front))
