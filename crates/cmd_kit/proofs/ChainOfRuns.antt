-- A chain of what `runs` wrote is answered `Ok`.
use Rattle.cmd_kit.proofs.Words.{sym, subst, asked, IsGood, kind_of}
use Rattle.cmd_kit.specs.RunsLaws.{RunsMakeAChain}
use Rattle.cmd_kit.proofs.ApartNames.{chain_apart_names}
use Rattle.cmd_kit.proofs.CompleteLaw.{no_fault}
use Rattle.cmd_kit.proofs.Completeness.{good_is_ok}
use Rattle.cmd_kit.proofs.FullClaims.{full_claim}
use Rattle.cmd_kit.proofs.RunsChain.{good_chain}

pub runs_make_a_chain : RunsMakeAChain
runs_make_a_chain ran_by checked_by s old mid held new a b c d m h params list checked evidence run is ran_words went told hold apart checked_words checks
    plan =
    let names = chain_apart_names checked_by params checked evidence checked_words in
    let chain = good_chain full_claim params list checked evidence m h mid a b run hold apart names.0 names.1 in
    let good : IsGood h (asked checked_by) = subst (IsGood h) (sym checked_words) chain in
    no_fault s (kind_of s) plan (good_is_ok checked_by s held new c d h told good checks)
