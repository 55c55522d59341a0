-- `check --source` over good files, walked step by step to its end.
use Rattle.cmd_kit.proofs.Words.{◌≡◌, ℕ, List, Option, Ok, sym, ap, ◌∙◌, option_map, tree_of, Program, one_program, u64_library, Stated, Trace}
use Rattle.cmd_kit.proofs.Words.{Files, Answer, IsBuild, ran_line, built_steps, check_source_steps, IsAcceptedFor}
use Rattle.cmd_kit.proofs.Words.{IsGoodSourceCheck, AssemblesFiles}
use Rattle.cmd_kit.proofs.Words.{SourceFile, Build}
use Rattle.block_tree.specs.Trees.{tree_digest}
use Rattle.cmd_kit.specs.declared.status.Status.TheVariants as status
use Rattle.cmd_kit.specs.CheckSourceEnds as ends
use Rattle.cmd_kit.proofs.Courses.{bad_or_program}
use Rattle.cmd_kit.proofs.Held.{held_ok}
use Rattle.cmd_kit.proofs.Walks.{Went, kernel_good, params_good, read_on, statement_good, table_good, was_found}

module _ {a : Answer} {new : Option Files} {m : Files} where
  -- the same program, whatever was assembled
  built_ok : (evidence constants : List ℕ) (claim : Stated) (t : Trace) (source : SourceFile) (kernel : Option SourceFile) (program : Program)
      (found : Build) → AssemblesFiles constants source kernel (Ok program) → claim.digest ≡ tree_digest constants (tree_of program.tree)
      → IsAcceptedFor constants claim t → IsBuild constants source kernel found → Went a new (built_steps evidence constants claim t found) m
      → a.status ≡ status.Ok
  built_ok evidence constants claim t source kernel program found is digest accepts (ends.assembled other made) goes =
      let same = one_program constants u64_library source.text (option_map (λ k. k.text) kernel) program (Ok other) is made in
      held_ok evidence constants claim t (tree_of other.tree) ran_line m accepts (digest ∙ ap (tree_digest constants) (sym same.0)) goes
  built_ok evidence constants claim t source kernel program found is digest accepts (ends.refused in_kernel line column cause bad) goes =
      absurd (bad_or_program constants source kernel program in_kernel line column cause is bad)

  pub sourced_well : (params table statement evidence source : List ℕ) (name : Option (List ℕ))
      → IsGoodSourceCheck m params table statement source name → Went a new (check_source_steps params table statement evidence source name) m
      → a.status ≡ status.Ok
  sourced_well params table statement evidence source name h goes =
      let text = statement_good _ h.statement_says (table_good _ h.table_says (params_good _ h.params_say goes)) in
      let found = was_found (kernel_good name h.kernel _ h.kernel_stands (read_on h.source_stands.stands h.source_stands.short text)) in
      built_ok evidence h.constants h.claim h.trace (record { name = source; text = h.text }) h.kernel h.program found.0 h.assembled h.digest h.found
      found.1 found.2
