use Rattle.std.proofs.Common.{◌≡◌, rules}
use Rattle.op_pack.proofs.OrdinaryLemmas.{plain_digit-ordinary}
use Rattle.op_pack.specs.Reading.{plain_digit}
use Rattle.op_pack.proofs.reading.plain_digit.Goals as goal

pub returns-clause-ordinary : goal.returns-clause-ordinary
returns-clause-ordinary c =
    let same : c.plain.result ≡ plain_digit c.args.digit = search rules in
    rw same (plain_digit-ordinary c.args.digit c.requires)
