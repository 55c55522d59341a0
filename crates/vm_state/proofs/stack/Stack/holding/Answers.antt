use Rattle.std.proofs.Common.{ℕ, ◌++◌, ◌∙◌, ap, ap₂, drop, replicate, reverse}
use Rattle.std.proofs.lemmas.List.{reverse-reverse}
use Rattle.vm_state.proofs.StackLemmas.{held-is, rest-is}
use Rattle.vm_state.proofs.stack.Stack.holding.Goals as goal

pub returns : goal.returns
returns c =
    let later =
    ap reverse c.reverse.ensures.items ∙ reverse-reverse _ ∙ c.in_ok-below.ensures.items
    ∙ rest-is c.args.cells.now c.min-visible.result in
    record {
      cells = ap₂ (λ top below. (top ++ drop c.min-visible.result (replicate {A = ℕ} 16 0)) ++ below)
          c.copy_from_slice.ensures.after later ∙ held-is _ _ c.min-visible.ensures;
    }
