-- From the counts of all rows to what is answered of the buses.
use Rattle.checker.specs.Settings.{claim_in}
use Rattle.checker.proofs.ApartLemmas.{accepted, refused_at, refused_with}
use Rattle.checker.proofs.CountingLemmas.{all_readable}
use Rattle.checker.proofs.checking.check_buses.Goals as goal

pub count_all-requires-clause-readable : goal.count_all-requires-clause-readable
count_all-requires-clause-readable g c = λ κs h. all_readable _ c.args.trace.now c.rows.ensures.shape c.requires.zero

pub returns-in-Some-first_apart : goal.returns-in-Some-first_apart
returns-in-Some-first_apart g c =
    refused_with c.args.public.now c.args.trace.now c.refused.result c.in-Some-first_apart.apart c.refused.ensures
    (refused_at c.args.public.now c.args.trace.now (claim_in c.of-setting.result)
    c.in-Some.tallies c.in-Some-first_apart.apart
    c.of-setting.ensures.claim c.in-Some.ensures c.requires.zero
    c.in-Some-first_apart.ensures)

pub returns : goal.returns
returns g c =
    accepted c.args.public.now c.args.trace.now (claim_in c.of-setting.result) c.in-Some.tallies
    c.of-setting.ensures.claim c.in-Some.ensures c.requires.zero c.in-None.ensures
