-- `member` over good files, walked step by step to its end.
use Rattle.cmd_kit.proofs.Words.{◌≡◌, ℕ, List, Option, walk_tree, Files, Answer, IsGoodMember, member_line, member_steps}
use Rattle.cmd_kit.specs.declared.status.Status.TheVariants as status
use Rattle.cmd_kit.proofs.Held.{held_ok}
use Rattle.cmd_kit.proofs.Walks.{Went, params_good, statement_good, table_good}

pub walked_well : {a : Answer} {new : Option Files} {m : Files} (params table statement evidence : List ℕ) (depth : ℕ)
    → IsGoodMember m params table statement depth → Went a new (member_steps params table statement evidence depth) m → a.status ≡ status.Ok
walked_well {m} params table statement evidence depth h goes =
    held_ok evidence h.constants h.claim h.trace (walk_tree depth) (member_line h.claim) m h.found h.digest
    (statement_good _ h.statement_says (table_good _ h.table_says (params_good _ h.params_say goes)))
