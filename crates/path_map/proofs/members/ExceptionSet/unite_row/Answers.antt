use Rattle.std.proofs.Common.{◌≡◌, ap, sym, ◌∙◌, length, ◌||◌}
use Rattle.labels.specs.Row.{has}
use Rattle.path_map.specs.Kept.{kept_has}
use Rattle.path_map.proofs.Joined.{fresh-has, fresh-length, row-inside, single-has, single-length}
use Rattle.path_map.proofs.Rows.{length-union}
use Rattle.path_map.proofs.members.ExceptionSet.unite_row.Goals as goal

pub invariant_of-self-in-Empty : goal.invariant_of-self-in-Empty
invariant_of-self-in-Empty c = record {
  inside = row-inside c.args.self.now.bound c.join_from-grew.new.self
      (fresh-length c.args.self.now.bound c.in_ok-joined-in-Empty.joined c.args.row.now c.join_from-grew.new.self c.in_ok-joined-in-Empty.ensures c.requires
      c.join_from-grew.ensures.union);
  short = c.args.self.now.short;
}

pub invariant_of-self-in-Single : goal.invariant_of-self-in-Single
invariant_of-self-in-Single c = record {
  inside = row-inside c.args.self.now.bound c.join_from-grew-in-Single.new.self
      (single-length c.args.self.now.bound c.in-Single.only c.in_ok-joined-in-Single.joined c.set.new.self c.args.row.now c.join_from-grew-in-Single.new.self
      c.in_ok-joined-in-Single.ensures (c.args.self.now.inside.0 c.in-Single.only c.in-Single.is) c.requires c.set.ensures
      c.join_from-grew-in-Single.ensures.union);
  short = c.args.self.now.short;
}

pub invariant_of-self-in-Many : goal.invariant_of-self-in-Many
invariant_of-self-in-Many c =
    let own : length c.in-Many.own ≡ c.args.self.now.bound = c.args.self.now.inside.1 c.in-Many.own c.in-Many.is in
    record {
      inside = row-inside c.args.self.now.bound c.join_from-grew-in-Many.new.self
          (ap length c.join_from-grew-in-Many.ensures.union ∙ (length-union c.in-Many.own c.args.row.now (own ∙ sym c.requires) ∙ own));
      short = c.args.self.now.short;
    }

pub returns-in_ok-joined-in-Empty-clause-united : goal.returns-in_ok-joined-in-Empty-clause-united
returns-in_ok-joined-in-Empty-clause-united c = record {
  has = λ e.
      fresh-has c.args.self.now.bound c.in_ok-joined-in-Empty.joined c.args.row.now c.join_from-grew.new.self c.in_ok-joined-in-Empty.ensures c.requires
      c.join_from-grew.ensures.union e
      ∙ sym (ap (λ k. kept_has k e || has c.args.row.now e) c.in-Empty.is);
}

pub returns-in_ok-joined-in-Single-clause-united : goal.returns-in_ok-joined-in-Single-clause-united
returns-in_ok-joined-in-Single-clause-united c = record {
  has = λ e.
      single-has c.args.self.now.bound c.in-Single.only c.in_ok-joined-in-Single.joined c.set.new.self c.args.row.now c.join_from-grew-in-Single.new.self
      c.in_ok-joined-in-Single.ensures (c.args.self.now.inside.0 c.in-Single.only c.in-Single.is) c.requires c.set.ensures
      c.join_from-grew-in-Single.ensures.union e
      ∙ sym (ap (λ k. kept_has k e || has c.args.row.now e) c.in-Single.is);
}
