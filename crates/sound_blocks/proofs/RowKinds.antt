-- What a row does to the cells below the sixteenth, to the depth and to the first key.
use Rattle.sound_blocks.proofs.Words.{◌≡◌, ◌≢◌, inl, inr, ℕ, ◌+◌, ◌≤◌, Bool, true, false, ◌&&◌, ◌||◌, not, cond, eqb, List, [], ◌∷◌, drop, refl, sym, ap, ◌∙◌}
use Rattle.sound_blocks.proofs.Words.{arith, and_right, cases_Bool, cases_eq, eqb-true, ne_eqb, and_parts, or_cases, ◌⊞◌, ◌⊟◌, is_start_op, Op, h, s, depth}
use Rattle.sound_blocks.proofs.Words.{key, clk, is_left, is_op, is_right, is_shift, op_of, is_call_op, row_shifts_left, Overflow, overflow_behind, brought_back}
use Rattle.sound_blocks.proofs.Words.{row_returns, IsEndRow, off, op_from, shifts_left_is}
use Rattle.sound_blocks.proofs.Words.ops
use Rattle.vm_ops.specs.Moves.{shift_of}
use Rattle.vm_ops.specs.declared.op.Shift.{Shift}
use Rattle.vm_ops.specs.declared.op.Shift.TheVariants.{Left, Right}
use Rattle.facts_main.specs.Stack.{MovesDepth}

-- ---- what is below behind the row

pub behind_flat : (x : List ℕ) (o : Overflow) → is_right (op_of x) ≡ false → row_shifts_left x ≡ true → depth x ≡ 16 → overflow_behind x o ≡ o
behind_flat x o nr l e = rw (nr, l, e) refl

pub behind_deeper : (x : List ℕ) (o : Overflow) → is_right (op_of x) ≡ false → row_shifts_left x ≡ true → depth x ≢ 16
    → overflow_behind x o ≡ record { below = drop 1 o.below; aside = o.aside }
behind_deeper x o nr l a = rw (nr, l, ne_eqb (depth x) 16 a) refl

pub behind_call : (x : List ℕ) (o : Overflow) → is_right (op_of x) ≡ false → row_shifts_left x ≡ false → is_call_op (op_of x) ≡ true
    → overflow_behind x o ≡ record { below = []; aside = o.below ∷ o.aside }
behind_call x o nr nl c = rw (nr, nl, c) refl

pub behind_return : (x : List ℕ) (o : Overflow) → is_right (op_of x) ≡ false → row_shifts_left x ≡ false → is_call_op (op_of x) ≡ false
    → row_returns x ≡ true → overflow_behind x o ≡ brought_back o.aside
behind_return x o nr nl nc t = rw (nr, nl, nc, t) refl

pub behind_same : (x : List ℕ) (o : Overflow) → is_right (op_of x) ≡ false → row_shifts_left x ≡ false → is_call_op (op_of x) ≡ false
    → row_returns x ≡ false → overflow_behind x o ≡ o
behind_same x o nr nl nc nt = rw (nr, nl, nc, nt) refl

-- ---- which operations do what

-- a shift is that of no call and of no END
right_apart : (op : Op) → is_right op ≡ true → (is_call_op op ≡ false) × (is_op op ops.End ≡ false)
right_apart ops.Call r = off r
right_apart ops.Syscall r = off r
right_apart ops.End r = off r
right_apart op r = (refl, refl)

left_apart : (op : Op) → is_left op ≡ true → (is_call_op op ≡ false) × (is_op op ops.End ≡ false)
left_apart ops.Call l = off l
left_apart ops.Syscall l = off l
left_apart ops.End l = off l
left_apart op l = (refl, refl)

pub call_starts : (op : Op) → is_call_op op ≡ true → (is_start_op op ≡ true) × (is_op op ops.Loop ≡ false)
call_starts ops.Call is = (refl, refl)
call_starts ops.Syscall is = (refl, refl)
call_starts op is = off is

-- an END has the flag of a call where its block is one
pub call_flags : (op : Op) → eqb (cond (is_op op ops.Call) 1 0 ⊞ cond (is_op op ops.Syscall) 1 0) 1 ≡ is_call_op op
call_flags ops.Call = refl
call_flags ops.Syscall = refl
call_flags op = refl

-- ---- what a row that shifts does not do

-- the row calls nothing and ends no call
abbrev pub Stays : List ℕ → Type 0
Stays x = (is_call_op (op_of x) ≡ false) × (row_returns x ≡ false)

no_end_returns : (x : List ℕ) → is_op (op_of x) ops.End ≡ false → row_returns x ≡ false
no_end_returns x other = ap (λ t. t && eqb (h x 6 ⊞ h x 7) 1) other

loop_returns_none : (a b c d : ℕ) → a + b + c + d ≤ 1 → a ≡ 1 → eqb (c ⊞ d) 1 ≡ false
loop_returns_none a b c d most e = ne_eqb (c ⊞ d) 1 (λ f. omega (arith, most, e, f))

left_stays : (x : List ℕ) → (is_op (op_of x) ops.End ≡ true → IsEndRow x) → row_shifts_left x ≡ true → Stays x
left_stays x end l = elim (or_cases (is_left (op_of x)) (is_op (op_of x) ops.End && eqb (h x 4) 1) l) [
  | inl is ↦ ((left_apart (op_of x) is).0, no_end_returns x (left_apart (op_of x) is).1)
  | inr is ↦
      let both = and_parts (is_op (op_of x) ops.End) (eqb (h x 4) 1) is in (
        ap is_call_op (op_from {other = ops.End} both.0),
        and_right (is_op (op_of x) ops.End) (eqb (h x 6 ⊞ h x 7) 1)
            (loop_returns_none (h x 4) (h x 5) (h x 6) (h x 7) (end both.0).most (eqb-true (h x 4) 1 both.1)),
      )
]

one_shift : (shift : Shift) → is_shift Left shift ≡ true → is_shift Right shift ≡ false
one_shift Right l = off l
one_shift shift l = refl

pub left_right_apart : (x : List ℕ) → row_shifts_left x ≡ true → is_right (op_of x) ≡ false
left_right_apart x l = elim (or_cases (is_left (op_of x)) (is_op (op_of x) ops.End && eqb (h x 4) 1) l) [
  | inl is ↦ one_shift (shift_of (op_of x)) is
  | inr is ↦ ap is_right (op_from {other = ops.End} (and_parts (is_op (op_of x) ops.End) (eqb (h x 4) 1) is).0)
]

-- ---- what a row does

pub data Movement (x y : List ℕ) : Type 0 where
  right : is_right (op_of x) ≡ true → Stays x → ((o : Overflow) → overflow_behind x o ≡ record { below = s x 15 ∷ o.below; aside = o.aside })
      → depth y ≡ depth x ⊞ 1 → key y ≡ clk x → Movement x y
  deeper : row_shifts_left x ≡ true → depth x ≢ 16 → Stays x
      → ((o : Overflow) → overflow_behind x o ≡ record { below = drop 1 o.below; aside = o.aside }) → depth y ≡ depth x ⊟ 1 → Movement x y
  keeps : Stays x → ((o : Overflow) → overflow_behind x o ≡ o) → depth y ≡ depth x → key y ≡ key x → Movement x y
  calls : is_call_op (op_of x) ≡ true → ((o : Overflow) → overflow_behind x o ≡ record { below = []; aside = o.below ∷ o.aside })
      → depth y ≡ 16 → key y ≡ 0 → Movement x y
  returns : row_returns x ≡ true → Movement x y

none_of : (t u v w : Bool) → t ≡ false → u ≡ false → v ≡ false → w ≡ false → not (t || u || v || w) ≡ true
none_of t u v w a b c d = rw (a, b, c, d)

pub movement_of : (x y : List ℕ) → (is_op (op_of x) ops.End ≡ true → IsEndRow x) → MovesDepth (op_of x) x y → Movement x y
movement_of x y end moves = elim (cases_Bool (is_right (op_of x))) [
  | inl r ↦
      let apart = right_apart (op_of x) r in
      right r (apart.0, no_end_returns x apart.1) (λ o. rw r refl) (moves.right r).0 (moves.right r).1
  | inr nr ↦ elim (cases_Bool (row_shifts_left x)) [
    | inl l ↦ elim (cases_eq (depth x) 16) [
      | inl e ↦
          let flat = moves.left_flat (sym (shifts_left_is x) ∙ l) e in keeps (left_stays x end l) (λ o. behind_flat x o nr l e) (flat.0 ∙ sym e) flat.1
      | inr a ↦ deeper l a (left_stays x end l) (λ o. behind_deeper x o nr l a) (moves.left_deep (sym (shifts_left_is x) ∙ l) a)
    ]
    | inr nl ↦ elim (cases_Bool (is_call_op (op_of x))) [
      | inl c ↦ calls c (λ o. behind_call x o nr nl c) (moves.call c).0 (moves.call c).1
      | inr nc ↦ elim (cases_Bool (row_returns x)) [
        | inl t ↦ returns t
        | inr nt ↦
            let same = moves.same (none_of _ _ _ _ nr (sym (shifts_left_is x) ∙ nl) nc nt) in
            keeps (nc, nt) (λ o. behind_same x o nr nl nc nt) same.0 same.1
      ]
    ]
  ]
]
