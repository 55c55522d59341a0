-- A row that shows the machine's state before it in each column shows it as a whole.
use Rattle.complete_rows.proofs.Words
use Words.{◌≡◌, ℕ, ◌<◌, ◌≤◌, List, [], ◌∷◌, length, take, slice_index, sym, ◌∙◌, arith, lit<, ext_get_or, get_or-take, length-take-le, Core, State, Op, f}
use Words.{Decoder, Shows}
use Rattle.vm_field.proofs.Elements.{word-again}
use Rattle.air_kit.specs.StackValues.{cells, function_digest}
use Rattle.facts_steps.specs.Filling.{ShowsState}
use Rattle.facts_steps.proofs.Seeing.{cells_index, length_cells}

digest_shown : (x digest : List ℕ) → length digest ≡ 4 → ((j : ℕ) → j < 4 → f x j ≡ slice_index digest j) → function_digest x ≡ digest
unfolding function_digest
digest_shown x digest size each =
    let a : f x 0 ≡ slice_index digest 0 = each 0 (lit< tt) in
    let b : f x 1 ≡ slice_index digest 1 = each 1 (lit< tt) in
    let c : f x 2 ≡ slice_index digest 2 = each 2 (lit< tt) in
    let d : f x 3 ≡ slice_index digest 3 = each 3 (lit< tt) in
    (λ i. a i ∷ b i ∷ c i ∷ d i ∷ []) ∙ word-again digest size

cells_shown : {op : Op} {d : Decoder} {c : Core} {x : List ℕ} → Shows op d c x → 16 ≤ length c.stack → cells x ≡ take 16 c.stack
cells_shown {c = c} {x = x} sx deep =
    let first : length (cells x) ≡ 16 = length_cells x in
    let second : length (take 16 c.stack) ≡ 16 = length-take-le 16 c.stack deep in
    ext_get_or 0 (cells x) (take 16 c.stack) (first ∙ sym second)
    (λ j low. (let few : j < 16 = omega (arith, low, first) in
    cells_index x j few ∙ sx.cells j few ∙ sym (get_or-take 16 c.stack j 0 few)))

pub state_shown : {op : Op} {d : Decoder} {x : List ℕ} (s : State) → Shows op d s.core x → 16 ≤ length s.core.stack → length s.core.digest ≡ 4
    → ShowsState x s
state_shown {x = x} s sx deep size = record {
  clock = sx.clock;
  context = sx.context;
  frame = sx.frame;
  syscall = sx.syscall;
  digest = digest_shown x s.core.digest size sx.digest;
  nesting = sx.level;
  stack = cells_shown sx deep;
  depth_is = sx.deep;
}
