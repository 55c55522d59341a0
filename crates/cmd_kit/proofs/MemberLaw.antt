-- What stands where `member` answers `Ok`: its steps, walked one after the other, and the path of a run.
use Rattle.cmd_kit.proofs.Words.{refl}
use Rattle.cmd_kit.proofs.Words.{◌≡◌, ℕ, suc, ◌<◌, List, [], ◌∷◌, length, slice_index, Ok, sym, ap, subst, number_of_constants, start, constants_of}
use Rattle.cmd_kit.proofs.Words.{tree_of, walk_tree, SourceEvidence, Ran, ClashFile, ClashNode, ran-is-source, Stated, Trace}
use Rattle.cmd_kit.proofs.Words.{AreTables, trace_of, member, IsSourceEvidenceFor}
use Rattle.cmd_kit.proofs.Words.{member_line}
use Rattle.vm_field.specs.Field.{prime, AreElements}
use Rattle.vm_field.proofs.Elements.{elements-append, elements-none, elements-one, elements-two}
use Rattle.vm_ops.specs.declared.op.Op.{Op}
use Rattle.vm_ops.specs.declared.op.Op.TheVariants as ops
use Rattle.vm_table.specs.Layout.{row_at}
use Rattle.vm_table.specs.MainColumns.{s}
use Rattle.rpo_hash.proofs.WholeText.{text-read}
use Rattle.block_tree.specs.Execution.{Done, execution}
use Rattle.block_tree.specs.Trees.{Tree}
use Rattle.merkle_lib.specs.Walks.{RunsOut}
use Rattle.merkle_lib.proofs.Law.{run-path}
use Rattle.air_kit.specs.Flags.{op_of}
use Rattle.air_kit.specs.RowStates.{taken_by, tape_of}
use Rattle.air_kit.specs.declared.trace.TableName.TheVariants as table_name
use Rattle.cmd_kit.specs.MemberLaws.{HasPath, MemberHasPath}
use Rattle.cmd_kit.proofs.Held.{was_held}
use Rattle.cmd_kit.proofs.Walks.{answered_ok, params_said, printed_as, statement_said, table_said}

-- what a row takes of the tape stands in the row behind it
low_taken : (op : Op) (y : List ℕ) → ((k : ℕ) → slice_index y k < prime) → AreElements (taken_by op y)
low_taken ops.AdvPop y below = elements-one (s y 0) (below _)
low_taken ops.AdvPopW y below =
    elements-append (s y 3 ∷ s y 2 ∷ []) (s y 1 ∷ s y 0 ∷ []) (elements-two (s y 3) (s y 2) (below _) (below _))
    (elements-two (s y 1) (s y 0) (below _) (below _))
low_taken op y below = elements-none

-- so the tape of a table of elements is made of elements
low_tape : (rows : List (List ℕ)) → ((i k : ℕ) → slice_index (row_at rows i) k < prime) → AreElements (tape_of rows)
unfolding tape_of
low_tape [] below = elements-none
low_tape (x ∷ []) below = elements-none
low_tape (x ∷ y ∷ rows) below =
    elements-append (taken_by (op_of x) y) (tape_of (y ∷ rows)) (low_taken (op_of x) y (below 1)) (low_tape (y ∷ rows) (λ i. below (suc i)))

-- what was read of a file of parameters and of a table file, and evidence of it for the program that walks a path of so many steps
module _ (constants : List ℕ) (claim : Stated) (trace : Trace) (depth : ℕ) (count : length constants ≡ number_of_constants)
    (tables : AreTables trace) where
  -- a run walks a path
  pub has_path : (e : SourceEvidence) → IsSourceEvidenceFor constants claim trace (walk_tree depth) e → HasPath constants depth claim.inputs e
  has_path (ClashFile first second) is = tt
  has_path (ClashNode address node) is = tt
  has_path (Ran cycles tree tape) is =
      let p = is.against in
      let run = is.is_evidence.run in
      let own : tree_of tree ≡ walk_tree depth
      = ran-is-source (constants_of p.params) (tree_of tree) (walk_tree depth) tt tt is.is_evidence.refines in
      let done : execution (constants_of p.params) p.statement.kernel cycles (walk_tree depth) (start p.statement.inputs tape)
      ≡ Done run.state run.events
      = subst (λ (t : Tree). execution (constants_of p.params) p.statement.kernel cycles t (start p.statement.inputs tape)
      ≡ Done run.state run.events) own run.done in
      let out : RunsOut (constants_of p.params) depth p.statement.inputs tape
      = record {
        kernel = p.statement.kernel;
        limit = cycles;
        state = run.state;
        events = run.events;
        done = done;
        used = run.stands.tape;
      } in
      let same : p.statement.inputs ≡ claim.inputs = ap (λ (c : Stated). c.inputs) is.is_public.statement in
      let inputs : AreElements claim.inputs = subst AreElements same p.statement.inputs_below in
      let elements : AreElements tape = subst AreElements (sym run.tape_is) (low_tape trace.main (tables table_name.Main).below) in
      let ran : RunsOut constants depth claim.inputs tape
      = subst (λ (k : List ℕ). RunsOut k depth claim.inputs tape) is.is_public.params
      (subst (λ (cells : List ℕ). RunsOut (constants_of p.params) depth cells tape) same out) in
      let path = run-path constants depth claim.inputs tape count inputs elements ran in
      record { own_tree = own; path = path.0; is_path = path.1 }

-- the law of table files
abbrev ReadTables : Type 0
ReadTables = (bytes : List ℕ) (t : Trace) → trace_of bytes ≡ Ok t → AreTables t

pub member_has_path : ReadTables → MemberHasPath
member_has_path read_tables words old new before now params table statement output depth m serves command is =
    let h = answered_ok words (member params table statement output depth) old serves command refl is in
    let c = params_said _ h.went in
    let t = table_said _ c.2 in
    let s = statement_said _ t.2 in
    let held = was_held output c.0 s.0 t.0 (walk_tree depth) (member_line s.0) m s.2 in
    let count = (text-read c.1.bytes c.0 c.1.says).1 in
    record {
      good =
          record {
            constants = c.0;
            trace = t.0;
            claim = s.0;
            params_say = c.1;
            table_says = t.1;
            statement_says = s.1;
            found = held.found;
            digest = held.digest;
          };
      evidence = held.evidence;
      is_evidence = held.is_evidence;
      path = has_path c.0 s.0 t.0 depth count (read_tables t.1.bytes t.0 t.1.says) held.evidence held.is_evidence;
      files = held.files;
      taken = printed_as before h.taken held.told;
    }
