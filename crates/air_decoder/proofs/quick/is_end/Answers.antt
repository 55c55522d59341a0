use Rattle.air_decoder.proofs.quick.is_end.Goals as goal

pub returns : goal.returns
returns g c = λ is. record {
  follows = c.may_follow_end.ensures c.if-not-may_follow_end.false;
  kind = c.has_kind.ensures c.if-not-has_kind.false;
  condition = c.has_no_condition.ensures c.if-not-has_no_condition.false;
  level = c.closes_level.ensures c.if-not-closes_level.false;
  behind = c.is_behind_end.ensures is;
}
