-- What stands where `check --source` answers `Ok`: its steps, walked one after the other.
use Rattle.cmd_kit.proofs.Words.{refl}
use Rattle.cmd_kit.proofs.Words.{ℕ, List, Option, Ok, option_map, tree_of, Program, u64_library, SourceEvidence, Ran}
use Rattle.cmd_kit.proofs.Words.{ClashFile, ClashNode, ran-is-source, constants_of, Stated, Trace, Files}
use Rattle.cmd_kit.proofs.Words.{check_source, IsBuild, IsSourceEvidenceFor, ran_line, built_steps}
use Rattle.cmd_kit.proofs.Words.{AssemblesFiles}
use Rattle.cmd_kit.proofs.Words.{SourceFile, Build, built, ends_with}
use Rattle.block_tree.specs.KnownTrees.{HasNoOpaque}
use Rattle.block_tree.specs.Trees.{Tree}
use Rattle.masm_link.proofs.WholeTrees.{assembled-trees}
use Rattle.source_check.specs.SourceLaws.{HasNoDyn}
use Rattle.cmd_kit.specs.declared.status.Status.TheVariants as status
use Rattle.cmd_kit.specs.CheckSourceEnds as ends
use Rattle.cmd_kit.specs.SourceLaws.{AcceptedSourceRan, RanTree}
use Rattle.cmd_kit.proofs.Held.{was_held}
use Rattle.cmd_kit.proofs.Walks.{Went, answered_ok, ended_ok, kernel_said, params_said, printed_as, statement_said, table_said, was_found, was_read}

-- a tree of which each block is known and none is dynamic is the tree that ran
pub own-tree : (constants : List ℕ) (claim : Stated) (trace : Trace) (source : Tree) (evidence : SourceEvidence) → HasNoOpaque source
    → IsSourceEvidenceFor constants claim trace source evidence → HasNoDyn source → RanTree source evidence
own-tree constants claim trace source (Ran cycles tree tape) known is plain =
    ran-is-source (constants_of is.against.params) (tree_of tree) source known plain is.is_evidence.refines
own-tree constants claim trace source (ClashFile first second) known is plain = tt
own-tree constants claim trace source (ClashNode address node) known is plain = tt

-- a source that was built
build_said : {line : List ℕ} {new : Option Files} {m : Files} (name constants : List ℕ) (claim : Stated) (trace : Trace) (source : SourceFile)
    (kernel : Option SourceFile) (found : Build) → IsBuild constants source kernel found
    → Went (ends_with status.Ok line) new (built_steps name constants claim trace found) m
    → (program : Program) × AssemblesFiles constants source kernel (Ok program)
    × Went (ends_with status.Ok line) new (built_steps name constants claim trace (built program)) m
build_said name constants claim trace source kernel found (ends.assembled program is) h = (program, is, h)
build_said name constants claim trace source kernel found (ends.refused in_kernel row column cause is) h = absurd (let no = ended_ok h in cc)

pub accepted_source_ran : AcceptedSourceRan
accepted_source_ran words old new before now params table statement output source kernel m serves command is =
    let h = answered_ok words (check_source params table statement output source kernel) old serves command refl is in
    let c = params_said _ h.went in
    let t = table_said _ c.2 in
    let s = statement_said _ t.2 in
    let code = was_read s.2 in
    let file : SourceFile = record { name = source; text = code.0 } in
    let k = kernel_said kernel _ code.3 in
    let build = was_found k.2 in
    let p = build_said output c.0 s.0 t.0 file k.0 build.0 build.1 build.2 in
    let tree = tree_of p.0.tree in
    let held = was_held output c.0 s.0 t.0 tree ran_line m p.2 in
    let limits = (assembled-trees c.0 u64_library code.0 (option_map (λ k. k.text) k.0) p.0 p.1).1 in
    record {
      good =
          record {
            constants = c.0;
            trace = t.0;
            claim = s.0;
            text = code.0;
            kernel = k.0;
            program = p.0;
            params_say = c.1;
            table_says = t.1;
            statement_says = s.1;
            source_stands = record { stands = code.1; short = code.2 };
            kernel_stands = k.1;
            assembled = p.1;
            found = held.found;
            digest = held.digest;
          };
      evidence = held.evidence;
      is_evidence = held.is_evidence;
      own_tree = own-tree c.0 s.0 t.0 tree held.evidence limits.whole held.is_evidence;
      files = held.files;
      taken = printed_as before h.taken held.told;
    }
