-- What the code of `chain` goes by.
use Rattle.std.specs.Prelude.{◌≤◌, length}
use Rattle.std.specs.List.{AllByRecursion}
use Rattle.vm_field.specs.Limits.{most_name_bytes}
use Rattle.run_chain.specs.ListText.{IsLine}
use Rattle.run_chain.specs.Lists.{most_links}
use Rattle.cmd_check.specs.declared.chaining.Chain.{Chain}

-- the links are lines of two names, the evidence has a name, and each trace is checked in a good number of pieces
pub record IsChainJob (chain : Chain) : Type 0 where
  pub lines : AllByRecursion (IsLine 2) chain.links
  pub few : length chain.links ≤ most_links
  pub evidence : length chain.evidence.now ≤ most_name_bytes
  pub some : 1 ≤ chain.judging.pieces
  pub pieces : chain.judging.pieces ≤ 64
