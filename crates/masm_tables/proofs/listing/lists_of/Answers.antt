use Rattle.masm_tables.proofs.Words.{◌≡◌, ℕ, ◌+◌, ◌-◌, ◌<◌, true, List, Vec, Global, length, take, refl, sym, ap, subst, ◌∙◌, arith, reverse, All}
use Rattle.masm_tables.proofs.Words.{length-map, take_all, tree_digest, tree_of, Table, as_tree, whole, dispatch_in, dispatch_of, Outside, HasNoneLeft}
use Rattle.masm_tables.proofs.Words.{ProcedureFits, body_of, procedure_of, source_of, place_at, AreExports, names_in, IsListAt, IsDigestAt, IsDispatch}
use Rattle.masm_tables.proofs.Words.{IsDispatched, listed, Prepares}
use Rattle.block_tree.specs.declared.tree.Tree as code
use Rattle.masm_uses.specs.Plans.{EndsInFull, IsWanted, IsReferred, ListNeeds, used, targeted, NeedsIn, keeps_list, ended_lists, makes_digest, no_ends}
use Rattle.masm_tables.proofs.Dispatches.{dispatch_is, targets_below}
use Rattle.masm_tables.proofs.Known.{all_at, read_here, built-is, list_step, digest_step}
use Rattle.masm_tables.proofs.Prepared.{asked, prepared}
use Rattle.masm_tables.proofs.Put.{puts_as}
use Rattle.masm_tables.proofs.Steps.{ArePlaces, BuildsLists, BuildsDigests, holds-all, holds-needs, holds-next, holds-end, plan-places, place_low}
use Rattle.masm_tables.proofs.listing.lists_of.Goals as goal

pub loop-k-init : goal.loop-k-init
loop-k-init c =
    let source = source_of c.args.ast.now in
    let steps = c.args.steps.now in
    let count = length source.procs in
    let same = length-map c.args.ast.now.procs.items procedure_of in record {
      lists_count = omega (arith, c.in_ok-built.ensures.lists, c.len.ensures);
      digests_count = omega (arith, c.in_ok-built.ensures.digests, c.len.ensures);
      none = c.in_ok-built.ensures.none;
      places = subst (λ xs. ArePlaces count (reverse xs)) (sym (take_all (length steps) steps (omega arith))) (plan-places source steps c.requires.steps);
      lists = λ out is are. holds-all keeps_list ended_lists (ListNeeds source) count (IsWanted source) steps (IsListAt source out _)
          (length steps) (omega arith) c.requires.steps.lists;
      digests = λ out is are. holds-all makes_digest no_ends (NeedsIn source.procs true) count (IsReferred source) steps (IsDigestAt source out _)
          (length steps) (omega arith) c.requires.steps.digests;
      dispatch = λ out is are. subst (IsDispatched source out) (sym c.in_ok-built.ensures.dispatch) tt;
      permutations = refl;
    }

pub index-procedure-requires : goal.index-procedure-requires
index-procedure-requires c =
    let low = place_low (length (source_of c.args.ast.now).procs) c.args.steps.now (c.loop-k.k - 1) c.loop-k.k (omega arith) c.index-steps-k.is (omega arith) c.loop-k.invariant.places in
    let count = length-map c.args.ast.now.procs.items procedure_of in
    omega arith

pub add_step-requires : goal.add_step-requires
add_step-requires c =
    let ast = c.args.ast.now in
    let step = c.index-steps-k.result in
    let low = place_low (length (source_of ast).procs) c.args.steps.now (c.loop-k.k - 1) c.loop-k.k (omega arith) c.index-steps-k.is (omega arith) c.loop-k.invariant.places in
    let p = c.index-procedure.result.now in
    let here = read_here ast step.place p low c.index-procedure.ensures in
    record {
      lists = subst (λ m. step.place < m) (sym (ap (λ (t : Table). length t.lists.items) c.in_ok-prepare.ensures.table ∙ c.loop-k.invariant.lists_count)) low;
      digests = subst (λ m. step.place < m)
          (sym (ap (λ (v : Vec (List ℕ) Global). length v.items) c.in_ok-prepare.ensures.digests ∙ c.loop-k.invariant.digests_count)) low;
      locals = all_at ProcedureFits (source_of ast).procs step.place (procedure_of p) c.requires.fits.procs here;
      none = subst HasNoneLeft (sym c.in_ok-prepare.ensures.table) c.loop-k.invariant.none;
      ended = subst (EndsInFull (place_at c.args.names.now) (source_of ast).procs) (sym c.index-steps-k.is)
          (c.requires.ended (c.loop-k.k - 1) step (omega arith)) (procedure_of p) here;
    }

pub prepare-requires : goal.prepare-requires
prepare-requires c =
    subst (λ m. All (λ j. j < m) c.args.targets.now) (sym c.loop-k.invariant.lists_count)
    (targets_below (source_of c.args.ast.now) c.args.targets.now c.requires.targets)

pub loop-k-preserved : goal.loop-k-preserved
loop-k-preserved c =
    let ast = c.args.ast.now in
    let source = source_of ast in
    let count = length source.procs in
    let steps = c.args.steps.now in
    let kernel = c.args.outside.now.exports.now in
    let names = c.args.names.now in
    let n = c.loop-k.k in
    let k = n - 1 in
    let step = c.index-steps-k.result in
    let below : k < length steps = omega arith in
    let next : n ≡ k + 1 = omega arith in
    let is_step = c.index-steps-k.is in
    let before = c.loop-k.invariant in
    let old = c.prepare.new.self in
    let new = c.add_step.new.self in
    let added = c.in_ok-add_step.ensures in
    let table = c.in_ok-prepare.ensures.table in
    let known = c.in_ok-prepare.ensures.digests in
    let low = place_low count steps k n below is_step next before.places in
    let p = c.index-procedure.result.now in
    let here = read_here ast step.place p low c.index-procedure.ensures in
    let steps_before = reverse (take n steps) in
    let lists_then : (out : Outside) (is : out.constants ≡ c.args.digests.now.permutations) (are : AreExports out.exports kernel)
    → BuildsLists source out old.table.lists.items steps_before =
    λ out is are. subst (λ (t : Table). BuildsLists source out t.lists.items steps_before) (sym table) (before.lists out is are) in
    let digests_then : (out : Outside) (is : out.constants ≡ c.args.digests.now.permutations) (are : AreExports out.exports kernel)
    → BuildsDigests source out old.digests.items steps_before =
    λ out is are. subst (λ (v : Vec (List ℕ) Global). BuildsDigests source out v.items steps_before) (sym known) (before.digests out is are) in
    let holds : (out : Outside) (is : out.constants ≡ c.args.digests.now.permutations) (are : AreExports out.exports kernel)
    → (q : ℕ) → ListNeeds source step.place q → IsListAt source out old.table.lists.items q =
    λ out is are. holds-needs keeps_list ended_lists (ListNeeds source) count (IsWanted source) steps k n step below is_step next
    (IsListAt source out old.table.lists.items) (lists_then out is are) in
    let Is : code.Tree → Type 0 = λ tree. tree_of tree ≡ dispatch_of c.loop-k.built.table.lists.items c.args.targets.now in
    let asks = subst (λ xs. Prepares Is (body_of xs) c.loop-k.built.dispatch old.dispatch) c.deref.ensures.value c.in_ok-prepare.ensures.dispatch in
    let dispatched : (out : Outside) (is : out.constants ≡ c.args.digests.now.permutations) (are : AreExports out.exports kernel)
    → IsDispatched source out old.dispatch =
    λ out is are. prepared Is (body_of p.body.items) (λ tree. IsDispatch source out (tree_of tree)) asks (before.dispatch out is are)
    (λ at has tree is_tree. subst (IsDispatch source out) (sym is_tree)
    (dispatch_is source c.args.targets.now c.requires.targets out c.loop-k.built.table.lists.items
    (λ j target. subst (λ (t : Table). IsListAt source out t.lists.items j) table
    (holds out is are j (targeted (record { procedure = procedure_of p; here = here; at = at; among = has }) target))))) in
    let is_built = λ (out : Outside) (is : out.constants ≡ c.args.digests.now.permutations) (are : AreExports out.exports kernel).
    built-is source out kernel are names c.requires.names (names_in kernel) c.requires.closed step.place (procedure_of p) here
    old.table.lists.items old.digests.items old.dispatch (λ r need. holds out is are r (used need))
    (holds-needs makes_digest no_ends (NeedsIn source.procs true) count (IsReferred source) steps k n step below is_step next
    (IsDigestAt source out old.digests.items) (digests_then out is are))
    (λ at has. let it = asked Is (body_of p.body.items) (λ tree. IsDispatch source out (tree_of tree)) asks (dispatched out is are) at has in
    subst (λ o. IsDispatch source out (dispatch_in o)) (sym it.1) it.2) in
    record {
      lists_count = added.list.count ∙ ap (λ (t : Table). length t.lists.items) table ∙ before.lists_count;
      digests_count = added.digest.count ∙ ap (λ (v : Vec (List ℕ) Global). length v.items) known ∙ before.digests_count;
      none = added.none;
      places = holds-next keeps_list ended_lists (λ i j. ⊥) count (λ q. ⊥) steps k n step below is_step next (λ q. Unit {0}) (λ q. Unit {0})
          before.places (λ q h. tt);
      lists = λ out is are.
          holds-next keeps_list ended_lists (ListNeeds source) count (IsWanted source) steps k n step below is_step next
          (IsListAt source out old.table.lists.items) (IsListAt source out new.table.lists.items) (lists_then out is are)
          (λ q held. list_step source out step.place _ (is_built out is are) added.list q held.1 held.0);
      digests = λ out is are.
          holds-next makes_digest no_ends (NeedsIn source.procs true) count (IsReferred source) steps k n step below is_step next
          (IsDigestAt source out old.digests.items) (IsDigestAt source out new.digests.items) (digests_then out is are)
          (λ q held. digest_step source out step.place _ (is_built out is are) {Stays = λ r. Unit {0}}
          (puts_as (λ r h. tt) (λ r h. refl) refl (λ is_so d e. e ∙ ap (λ cs. tree_digest cs (whole as_tree (listed names old old.dispatch kernel p)))
          (before.permutations ∙ sym is)) added.digest) q tt held.0);
      dispatch = λ out is are. subst (IsDispatched source out) (sym added.dispatch) (dispatched out is are);
      permutations = added.permutations ∙ before.permutations;
    }

pub returns-clause-lists : goal.returns-clause-lists
returns-clause-lists c = λ out is are.
    let source = source_of c.args.ast.now in
    holds-end keeps_list ended_lists (ListNeeds source) (length source.procs) (IsWanted source) c.args.steps.now
    (IsListAt source out c.loop-k.built.table.lists.items) c.loop-k.k (omega arith) (c.loop-k.invariant.lists out is are)

pub returns-clause-digests : goal.returns-clause-digests
returns-clause-digests c = λ out is are.
    let source = source_of c.args.ast.now in
    holds-end makes_digest no_ends (NeedsIn source.procs true) (length source.procs) (IsReferred source) c.args.steps.now
    (IsDigestAt source out c.loop-k.built.digests.items) c.loop-k.k (omega arith) (c.loop-k.invariant.digests out is are)
