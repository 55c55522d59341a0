-- What the rows of a run give and ask: the buses of blocks by themselves, the others against requests and the cells that are left.
use Rattle.complete_rows.proofs.Words
use Words.{◌≡◌, ℕ, ◌+◌, List, [], ◌∷◌, sym, subst, State, Tree, tree_digest, counted, over_rows, with_next, child, blocks_asked, blocks_given, children_asked}
use Words.{children_given, groups_asked, groups_given, loops_asked, loops_given, Requests, IsWholeRun, filled}
use Words.run
use Rattle.complete_rows.proofs.TableLemmas.{keys_asked}
use Rattle.complete_buses.proofs.BlockLaw.{blocks_even}
use Rattle.complete_buses.proofs.ChildLaw.{children_even}
use Rattle.complete_buses.proofs.GroupLaw.{groups_even}
use Rattle.complete_buses.proofs.LoopLaw.{loops_even}
use Rattle.complete_requests.specs.Asked.{RowsAsk, requests}
use Rattle.complete_requests.specs.Overflow.{OverflowIsEven}
use Rattle.complete_requests.proofs.AskedLaw.{run_asks}
use Rattle.complete_requests.proofs.OverflowLaw.{overflow_is_even}

pub record AreSides (constants digest inputs : List ℕ) (r : Requests) (u : State) (rows : List (List ℕ)) : Type 0 where
  pub blocks : (v : List ℕ) → over_rows (with_next blocks_given) rows v ≡ over_rows (with_next blocks_asked) rows v
  pub children : (v : List ℕ)
      → counted (child 0 digest 0 ∷ []) v + over_rows (with_next children_given) rows v ≡ over_rows (with_next children_asked) rows v
  pub loops : (v : List ℕ) → over_rows (with_next loops_given) rows v ≡ over_rows (with_next loops_asked) rows v
  pub groups : (v : List ℕ) → over_rows (with_next groups_given) rows v ≡ over_rows (with_next groups_asked) rows v
  pub asks : RowsAsk constants rows r
  pub overflow : OverflowIsEven rows inputs r.keys u

pub run_sides : {constants : List ℕ} {kernel : List (List ℕ)} {limit : ℕ} {tree : Tree} {inputs tape : List ℕ} {u : State} {log : List run.Event}
    → IsWholeRun constants kernel limit tree inputs tape u log
    → AreSides constants (tree_digest constants tree) inputs (requests constants kernel u log) u (filled constants kernel u log)
run_sides {constants = constants} {kernel = kernel} {inputs = inputs} {u = u} {log = log} r = record {
  blocks = blocks_even _ _ _ _ _ _ _ _ r;
  children = children_even _ _ _ _ _ _ _ _ r;
  loops = loops_even _ _ _ _ _ _ _ _ r;
  groups = groups_even _ _ _ _ _ _ _ _ r;
  asks = run_asks _ _ _ _ _ _ _ _ r;
  overflow =
      subst (λ keys. OverflowIsEven (filled constants kernel u log) inputs keys u) (sym (keys_asked r)) (overflow_is_even _ _ _ _ _ _ _ _ r);
}
