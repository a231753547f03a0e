use Rattle.principals.proofs.Total.{has_one_hierarchy, is_read_or_refused}
use Rattle.principals.proofs.Uniqueness.{hierarchy_not_refused, refused_text_once}
use Rattle.principals.proofs.laws.one_reading.Goals as goal

pub returns : goal.returns
returns c = record {
  read_or_refused = is_read_or_refused;
  one_hierarchy = has_one_hierarchy;
  not_both = hierarchy_not_refused;
  one_refusal = refused_text_once;
}
