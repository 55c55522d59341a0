use Rattle.block_tree.proofs.CutLemmas.{cut-at, cut-end, cut-limit, cut-trap}
use Rattle.block_tree.proofs.Limits.{execution-cut}
use Rattle.block_tree.proofs.laws.cut_laws.Goals as goal

pub returns : goal.returns
returns c = record {
  smaller = λ constants kernel limit other tree s l m. execution-cut constants kernel other limit m tree s l;
  limit = cut-at;
  trap = cut-trap;
  end = cut-end;
  greater = cut-limit;
}
