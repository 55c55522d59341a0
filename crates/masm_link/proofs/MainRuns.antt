-- The tree of a dynexec between begin and end.
use Rattle.std.proofs.Common.{◌≡◌, ℕ, List, [], map, Option, Some, None, Vec, Global, refl, sym, ap, subst, ◌∙◌}
use Rattle.std.proofs.lemmas.List.Elements.{Contains-append_right}
use Rattle.std.proofs.lemmas.Option.{same_Some}
use Rattle.std.specs.List.{Contains}
use Rattle.std.specs.Option.{option_map, option_to_list}
use Rattle.block_tree.specs.declared.tree.Tree as code
use Rattle.block_tree.specs.TreeView.{tree_of}
use Rattle.masm_tree.specs.declared.tree.Ast.{Ast}
use Rattle.masm_tree.specs.declared.tree.Position.{Position}
use Rattle.masm_tree.specs.declared.tree.Proc.{Proc}
use Rattle.masm_tree.specs.Trees.{Procedure, Source}
use Rattle.masm_tree.specs.Views.{body_of, procedure_of, source_of}
use Rattle.masm_names.specs.Uses.{dynexecs_of, first_place, target_names, IsDynamic}
use Rattle.masm_names.proofs.DoubleLemmas.{cons_here}
use Rattle.masm_uses.specs.Plans.{of_dynexec}
use Rattle.masm_flat.specs.declared.piece.Piece as piece
use Rattle.masm_flat.specs.KnownLists.{dispatch_in, dispatch_of}
use Rattle.masm_flat.specs.Lists.{Outside}
use Rattle.masm_tables.specs.Preparing.{Prepares}
use Rattle.masm_tables.specs.Tables.{AreLists, IsDispatch, IsDispatched}
use Rattle.masm_tables.proofs.Dispatches.{dispatch_is}
use Rattle.masm_tables.proofs.Prepared.{asked, prepared}

module _ (ast : Ast) (out : Outside) (lists : List (Vec piece.Piece Global)) (known : AreLists (source_of ast) out lists) (targets : List ℕ)
    (same : map Some targets ≡ map (first_place (source_of ast).procs) (target_names (source_of ast))) where
  abbrev source : Source
  source = source_of ast

  abbrev IsMade : code.Tree → Type 0
  IsMade tree = tree_of tree ≡ dispatch_of lists targets

  abbrev IsGood : code.Tree → Type 0
  IsGood tree = IsDispatch source out (tree_of tree)

  in_bodies : (p : Procedure) (at : Position) → source.main ≡ Some p → Contains (dynexecs_of p.body) at → IsDynamic source
  in_bodies p at main has = record {
    procedure = p;
    here = Contains-append_right source.procs (option_to_list source.main) p
        (subst (λ o. Contains (option_to_list o) p) (sym main) (cons_here p []));
    at = at;
    among = has;
  }

  pub main_runs : (old dispatch : Option code.Tree) → IsDispatched source out old
      → ((q : Proc) → ast.main ≡ Some q → Prepares IsMade (body_of q.body.items) old dispatch)
      → (p : Procedure) (at : Position) → source.main ≡ Some p → Contains (dynexecs_of p.body) at → IsDispatch source out (dispatch_in dispatch)
  main_runs old dispatch was asks p at main has = by ast.main refl
    where
      by : (o : Option Proc) → ast.main ≡ o → IsDispatch source out (dispatch_in dispatch)
      by None none = absurd (let is : None ≡ Some p = sym (ap (option_map procedure_of) none) ∙ main in cc)
      by (Some q) there =
          let is : procedure_of q ≡ p = same_Some (procedure_of q) p (sym (ap (option_map procedure_of) there) ∙ main) in
          let here : Contains (dynexecs_of (body_of q.body.items)) at = subst (λ (r : Procedure). Contains (dynexecs_of r.body) at) (sym is) has in
          let good = prepared IsMade (body_of q.body.items) IsGood (asks q there) was (λ at' has' tree made. subst (IsDispatch source out) (sym made)
          (dispatch_is source targets same out lists (λ j target. known j (of_dynexec (in_bodies p at main has) target)))) in
          let it = asked IsMade (body_of q.body.items) IsGood (asks q there) good at here in
          subst (λ o. IsDispatch source out (dispatch_in o)) (sym it.1) it.2
