-- What the tests of operations say, and which operation stands before a start.
use Rattle.sound_blocks.proofs.Words.{◌≡◌, ◌⊎◌, inl, inr, ℕ, Bool, true, false, ◌||◌, refl, sym, ap, ◌∙◌, cases_Bool, or_cases, or_from, or_left}
use Rattle.sound_blocks.proofs.Words.{not_from_false, is_ordinary_op, is_right, is_start_op, Op, is_op, keeps_block, may_follow, off, op_from}
use Rattle.sound_blocks.proofs.Words.ops

pub op_named : (op other : Op) → is_op op other ≡ true → op ≡ other
op_named op other is = op_from is

pub true_or_false : (t : Bool) → (t ≡ true) ⊎ (t ≡ false)
true_or_false t = cases_Bool t

-- what comes behind the END of a block
pub data BehindEnd (next : Op) : Type 0 where
  start : is_start_op next ≡ true → BehindEnd next
  end : next ≡ ops.End → BehindEnd next
  repeat : next ≡ ops.Repeat → BehindEnd next
  halt : next ≡ ops.Halt → BehindEnd next

pub behind_end : (next : Op) (top : ℕ) → may_follow ops.End top next ≡ true → BehindEnd next
behind_end next top follows = elim (or_cases _ (is_op next ops.Halt) follows) [
  | inl three ↦ elim (or_cases _ (is_op next ops.Repeat) three) [
    | inl two ↦ elim (or_cases (is_start_op next) (is_op next ops.End) two) [ inl s ↦ start s | inr e ↦ end (op_from e) ]
    | inr r ↦ repeat (op_from r)
  ]
  | inr h ↦ halt (op_from h)
]

-- what an operation is not that starts a block
pub start_apart : (op : Op) → is_start_op op ≡ true
    → (is_ordinary_op op || is_op op ops.End || is_op op ops.Respan ≡ false) × (is_right op ≡ false) × (is_op op ops.Halt ≡ false)
start_apart ops.Join is = (refl, refl, refl)
start_apart ops.Split is = (refl, refl, refl)
start_apart ops.Loop is = (refl, refl, refl)
start_apart ops.Span is = (refl, refl, refl)
start_apart ops.Call is = (refl, refl, refl)
start_apart ops.Syscall is = (refl, refl, refl)
start_apart ops.Dyn is = (refl, refl, refl)
start_apart op is = off is

-- what stands before a start
pub data BeforeStart (op : Op) : Type 0 where
  start : is_start_op op ≡ true → BeforeStart op
  end : op ≡ ops.End → BeforeStart op
  repeat : op ≡ ops.Repeat → BeforeStart op

first_of_three : (t u v : Bool) → t ≡ true → t || u || v ≡ true
first_of_three t u v is = or_left _ v (or_left t u is)

no_operation : {A : Type 0} (next : Op) → is_start_op next ≡ true → is_ordinary_op next || is_op next ops.End || is_op next ops.Respan ≡ true → A
no_operation next starts other = off (sym (start_apart next starts).0 ∙ other)

pub before_start : (op next : Op) (top : ℕ) → is_start_op next ≡ true → may_follow op top next ≡ true → BeforeStart op
before_start ops.Join next top starts follows = start refl
before_start ops.Split next top starts follows = start refl
before_start ops.Loop next top starts follows = start refl
before_start ops.Span next top starts follows = start refl
before_start ops.Call next top starts follows = start refl
before_start ops.Syscall next top starts follows = start refl
before_start ops.Dyn next top starts follows = start refl
before_start ops.End next top starts follows = end refl
before_start ops.Repeat next top starts follows = repeat refl
before_start ops.Halt next top starts follows = off follows
before_start ops.Respan next top starts follows = no_operation next starts (first_of_three (is_ordinary_op next) _ _ follows)
before_start op next top starts follows = no_operation next starts follows

-- an operation starts a block, or ends one, or keeps the newest block open
pub data Moves (op : Op) : Type 0 where
  start : is_start_op op ≡ true → Moves op
  end : op ≡ ops.End → Moves op
  keep : is_start_op op ≡ false → is_op op ops.End ≡ false → Moves op

pub moves_of : (op : Op) → Moves op
moves_of op = elim (cases_Bool (is_start_op op)) [
  | inl is ↦ start is
  | inr no_start ↦ elim (cases_Bool (is_op op ops.End)) [ inl is ↦ end (op_from is) | inr no_end ↦ keep no_start no_end ]
]

pub neither_is : (op : Op) → is_start_op op ≡ false → is_op op ops.End ≡ false → keeps_block op ≡ true
neither_is op a b = not_from_false _ (or_from (is_start_op op) (is_op op ops.End) a b)

-- an ordinary operation starts no block and ends none
pub ordinary_keeps : (op : Op) → is_ordinary_op op ≡ true → keeps_block op ≡ true
ordinary_keeps op ordinary = by (moves_of op)
  where
    by : Moves op → keeps_block op ≡ true
    by (Moves.start is) = no_operation op is (first_of_three (is_ordinary_op op) _ _ ordinary)
    by (Moves.end is) = off (sym (ap is_ordinary_op is) ∙ ordinary)
    by (Moves.keep no_start no_end) = neither_is op no_start no_end
