use Rattle.block_tree.proofs.CutLemmas.{execution-again, execution-short}
use Rattle.block_tree.proofs.Tapes.{fed-execution, fed-alone}
use Rattle.block_tree.proofs.laws.run_laws.Goals as goal

pub returns : goal.returns
returns c = record {
  same = λ constants kernel limit t s s' events e other l. execution-again constants kernel limit other t s s' events e l;
  out = λ constants kernel limit t s s' events e other l. execution-short constants kernel limit other t s s' events e l;
  prefix = λ constants kernel limit t s s' events e. (fed-execution constants kernel limit t s s' events e).tape;
  enough = λ constants kernel limit t s s' events e. fed-alone constants kernel limit t s s' events e;
}
