use Rattle.std.proofs.lemmas.Result.{err_from_is_err_and}
use Rattle.rpo_hash.specs.Constants.{constants_of}
use Rattle.cmd_make.proofs.MakeLemmas.{goes_on, made_ends, unmade_ends}
use Rattle.cmd_make.proofs.making.read_and_make.Goals as goal

pub returns-in_err-made : goal.returns-in_err-made
returns-in_err-made g c =
    let p = err_from_is_err_and c.from_residual-in_err-made.result c.from_residual-in_err-made.ensures.1 in
    rw (p.1, p.2)
    (goes_on _ _ _ (constants_of c.in_ok-constants.constants) _ _ c.in_ok-constants.ensures.loads _ _
    (unmade_ends _ _ _ _ _ c.in_err-made.ensures.stopped))

pub returns : goal.returns
returns g c =
    goes_on _ _ _ (constants_of c.in_ok-constants.constants) _ _ c.in_ok-constants.ensures.loads _ _
    (made_ends _ _ _ c.in_ok-made.made _ _ _ c.in_ok-made.ensures.made c.save_made.ensures)
