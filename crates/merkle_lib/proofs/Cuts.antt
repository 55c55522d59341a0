-- Steps cut from a tape, and levels put together, one at a time.
use Rattle.std.proofs.Common.{◌≡◌, ℕ, suc, ◌+◌, ◌-◌, ◌*◌, ◌<◌, ◌≤◌, Bool, true, false, List, [], ◌∷◌, ◌++◌, length, take, drop, Result, Ok, Err, append_assoc, refl, sym, ap, ◌∙◌, arith}
use Rattle.std.specs.List.{All}
use Rattle.std.proofs.lemmas.List.{append-nil, length-append, length-drop, take_rest}
use Rattle.std.specs.Result.{IfOk}
use Rattle.std.proofs.lemmas.List.Elements.{All-head, All-tail}
use Rattle.vm_field.specs.Machine.{IsWord}
use Rattle.vm_ops.specs.declared.item.Item.{Item}
use Rattle.masm_instr.specs.declared.name.Name.TheVariants as names
use Rattle.masm_expand.specs.Expansion.{expansion}
use Rattle.merkle_lib.specs.declared.paths.Step.{Step}
use Rattle.merkle_lib.specs.Paths.{first_step, steps_on, tape_of, tape_of_step}
use Rattle.merkle_lib.specs.Programs.{last_items, level_items, levels, walk_items}
use Rattle.merkle_lib.specs.Walks.{IsPath}

-- one step more
pub more_steps : (path new total : List Step) (rest later : List ℕ) (step : Step) (n k : ℕ) → k < n → step ≡ first_step rest
    → new ≡ path ++ step ∷ [] → later ≡ drop 5 rest → path ++ steps_on (n - k) rest ≡ total → new ++ steps_on (n - (k + 1)) later ≡ total
more_steps path new total rest later step n k more is added cut whole =
    let left : n - k ≡ suc (n - (k + 1)) = omega arith in
    rw (added, is, cut, append_assoc) (rw left at whole)

-- one level more
pub more_levels : (items new total : List Item) (level : List Item) (n k : ℕ) → k < n → level ≡ level_items → new ≡ items ++ level
    → items ++ levels (n - k) ≡ total → new ++ levels (n - (k + 1)) ≡ total
more_levels items new total level n k more is added whole =
    let left : n - k ≡ suc (n - (k + 1)) = omega arith in
    rw (added, is, append_assoc) (rw left at whole)

word-cut : (w rest : List ℕ) (bit : Bool) → length w ≡ 4
    → first_step (tape_of_step (record { sibling = w; bit = bit }) ++ rest) ≡ record { sibling = w; bit = bit }
word-cut (a ∷ b ∷ c ∷ d ∷ []) rest true four = refl
word-cut (a ∷ b ∷ c ∷ d ∷ []) rest false four = refl
word-cut [] rest bit four = absurd (omega arith)
word-cut (a ∷ []) rest bit four = absurd (omega arith)
word-cut (a ∷ b ∷ []) rest bit four = absurd (omega arith)
word-cut (a ∷ b ∷ c ∷ []) rest bit four = absurd (omega arith)
word-cut (a ∷ b ∷ c ∷ d ∷ e ∷ more) rest bit four = absurd (omega arith)

word-left : (w rest : List ℕ) (bit : Bool) → length w ≡ 4 → drop 5 (tape_of_step (record { sibling = w; bit = bit }) ++ rest) ≡ rest
word-left (a ∷ b ∷ c ∷ d ∷ []) rest bit four = refl
word-left [] rest bit four = absurd (omega arith)
word-left (a ∷ []) rest bit four = absurd (omega arith)
word-left (a ∷ b ∷ []) rest bit four = absurd (omega arith)
word-left (a ∷ b ∷ c ∷ []) rest bit four = absurd (omega arith)
word-left (a ∷ b ∷ c ∷ d ∷ e ∷ more) rest bit four = absurd (omega arith)

-- the steps of a path's tape are the path
pub steps_on-tape_of : (path : List Step) → All (λ step. IsWord step.sibling) path → steps_on (length path) (tape_of path) ≡ path
steps_on-tape_of [] words = refl
steps_on-tape_of (step ∷ path) words =
    let four : length step.sibling ≡ 4 = (All-head (λ x. IsWord x.sibling) step path words).size in
    let first = word-cut step.sibling (tape_of path) step.bit four in
    let later = word-left step.sibling (tape_of path) step.bit four in
    λ i. first i ∷ (ap (steps_on (length path)) later ∙ steps_on-tape_of path (All-tail (λ x. IsWord x.sibling) step path words)) i

pub length-tape_of : (path : List Step) → All (λ step. IsWord step.sibling) path → length (tape_of path) ≡ 5 * length path
length-tape_of [] words = refl
length-tape_of (step ∷ path) words =
    let four : length step.sibling ≡ 4 = (All-head (λ x. IsWord x.sibling) step path words).size in
    let later = length-tape_of path (All-tail (λ x. IsWord x.sibling) step path words) in
    rw (length-append, length-append) (omega arith)

-- the instructions of a level, one behind another
pub level_joined : (i0 i1 i2 i3 i4 i5 : List Item) (n1 n2 n3 n4 n5 : List ℕ) → i0 ≡ [] → n1 ≡ [] → n2 ≡ [] → n3 ≡ 1 ∷ [] → n4 ≡ [] → n5 ≡ []
    → i1 ≡ i0 ++ expansion names.Padw n1 0 → i2 ≡ i1 ++ expansion names.AdvLoadw n2 0 → i3 ≡ i2 ++ expansion names.AdvPush n3 0
    → i4 ≡ i3 ++ expansion names.Cswapw n4 0 → i5 ≡ i4 ++ expansion names.Hmerge n5 0 → i5 ≡ level_items
unfolding level_items
level_joined i0 i1 i2 i3 i4 i5 n1 n2 n3 n4 n5 e0 a b c d e f g h i j = rw (j, i, h, g, f, e0, a, b, c, d, e) refl

-- the levels and the comparison behind them
pub walk_joined : (items new : List Item) (numbers : List ℕ) (n k : ℕ) → n ≤ k → numbers ≡ [] → new ≡ items ++ expansion names.AssertEqw numbers 0
    → items ++ levels (n - k) ≡ levels n → new ≡ walk_items n
unfolding last_items
walk_joined items new numbers n k done none added whole =
    let left : n - k ≡ 0 = omega arith in
    let all : items ≡ levels n = sym (append-nil items) ∙ (rw left at whole) in
    rw (added, none, all) refl

-- what is left of the tape is enough for the steps that are left
pub more_enough : (rest : List ℕ) (n k : ℕ) → k < n → 5 * (n - k) ≤ length rest → 5 * (n - (k + 1)) ≤ length (take (length rest - 5) (drop 5 rest))
more_enough rest n k more enough = rw (take_rest rest 5, length-drop) (omega arith)

-- the steps that are cut from the tape are the path
pub cut-is-path : (constants : List ℕ) (depth : ℕ) (stack tape : List ℕ) (path : List Step) → IsPath constants depth stack tape path
    → IsPath constants depth stack tape (steps_on depth tape)
cut-is-path constants depth stack tape path h =
    let same : steps_on depth tape ≡ path = rw (h.tape_is, sym h.steps) (steps_on-tape_of path h.words) in
    rw same h

pub length-tape : (constants : List ℕ) (depth : ℕ) (stack tape : List ℕ) (path : List Step) → IsPath constants depth stack tape path
    → length tape ≡ 5 * depth
length-tape constants depth stack tape path h = rw (h.tape_is, sym h.steps) (length-tape_of path h.words)

pub path_found : {E : Type 0} (constants : List ℕ) (depth : ℕ) (stack tape part : List ℕ) (r : Result (List Step) E) → part ≡ tape
    → IsPath constants depth stack tape (steps_on depth tape) → IfOk r (λ path. path ≡ steps_on depth part)
    → IfOk r (λ path. IsPath constants depth stack tape path)
path_found constants depth stack tape part (Ok path) same h e = rw (e, same) h
path_found constants depth stack tape part (Err x) same h e = tt
