use Rattle.std.proofs.Common.{nat_eq, ap}
use Rattle.serde_json.proofs.Views.{members_len-members_view}
use Rattle.statement.proofs.values.has_keys.Goals as goal

pub returns-in-Some : goal.returns-in-Some
returns-in-Some c = rw (← c.in-Some.ensures, members_len-members_view) (ap (λ n. nat_eq n c.args.count) c.len.ensures.len)
