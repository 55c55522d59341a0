-- The table of codes, both ways.
use Rattle.std.proofs.Common.{◌≡◌, ℕ, zero, suc, ◌+◌, ◌<◌, ◌≤◌, ◌==◌, ◌&&◌, nat_lt, Bool, true, false, List, [], ◌∷◌, Some, None, length, refl, ap, sym, ◌∙◌, arith, lit<, ◌↔◌, inl, inr, add-zero}
use Rattle.std.proofs.lemmas.Bool.{eqb-true, and_parts}
use Rattle.std.specs.List.{slice_get}
use Rattle.std.proofs.lemmas.Option.{slice_get_past, slice_get_cases}
use Rattle.vm_ops.specs.Codes.{code_of, is_ordinary_kind, is_ordinary_op, is_start_kind, op_at, every_op}
use Rattle.vm_ops.specs.declared.kind.Kind.{Kind}
use Rattle.vm_ops.specs.declared.kind.Kind.TheVariants as kinds
use Rattle.vm_ops.specs.declared.op.Op.{Op}
use Rattle.vm_ops.specs.declared.op.Op.TheVariants.{Noop}

pub code_of-below : (op : Op) → code_of op < 81
code_of-below Noop = lit< tt
code_of-below _ = lit< tt

pub op_at-code_of : (op : Op) → op_at (code_of op) ≡ Some op
unfolding op_at every_op
op_at-code_of Noop = refl
op_at-code_of _ = refl

pub code_of-different : (a b : Op) → code_of a ≡ code_of b → a ≡ b
code_of-different a b e =
    let same : Some a ≡ Some b = sym (op_at-code_of a) ∙ ap op_at e ∙ op_at-code_of b in cc

-- the ordinary operations have the codes below 70
pub ordinary-below : (op : Op) → is_ordinary_op op ≡ nat_lt (code_of op) 70
ordinary-below Noop = refl
ordinary-below _ = refl

pub ordinary-kind : (kind : Kind) → is_ordinary_kind kind ≡ true → kind ≡ kinds.Ordinary
ordinary-kind kinds.Ordinary is = refl
ordinary-kind kinds.Join is = cc
ordinary-kind kinds.Split is = cc
ordinary-kind kinds.Loop is = cc
ordinary-kind kinds.Span is = cc
ordinary-kind kinds.Call is = cc
ordinary-kind kinds.Syscall is = cc
ordinary-kind kinds.Dyn is = cc
ordinary-kind kinds.End is = cc
ordinary-kind kinds.Repeat is = cc
ordinary-kind kinds.Respan is = cc
ordinary-kind kinds.Halt is = cc

-- what is ordinary starts no block
pub ordinary-starts-none : (kind : Kind) → is_ordinary_kind kind ≡ true → is_start_kind kind ≡ false
ordinary-starts-none kind is = rw (ordinary-kind kind is) refl

-- the codes of a list count up from n
abbrev numbered : List Op → ℕ → Bool
numbered [] n = true
numbered (op ∷ ops) n = (code_of op == n) && numbered ops (suc n)

code_of-numbered : (ops : List Op) (n i : ℕ) (op : Op) → numbered ops n ≡ true → slice_get ops i ≡ Some op → code_of op ≡ n + i
code_of-numbered [] n i op h e = cc
code_of-numbered (x ∷ xs) n zero op h e =
    let x_is : x ≡ op = cc in
    ap code_of (sym x_is) ∙ eqb-true (code_of x) n (and_parts (code_of x == n) (numbered xs (suc n)) h).0 ∙ sym (add-zero n)
code_of-numbered (x ∷ xs) n (suc i) op h e =
    let later : code_of op ≡ suc n + i = code_of-numbered xs (suc n) i op (and_parts (code_of x == n) (numbered xs (suc n)) h).1 e in
    omega arith

every_op-numbered : numbered every_op 0 ≡ true
unfolding every_op
every_op-numbered = refl

every_op-length : length every_op ≡ 81
unfolding every_op
every_op-length = refl

pub code_of-op_at : (code : ℕ) (op : Op) → op_at code ≡ Some op → code_of op ≡ code
unfolding op_at
code_of-op_at code op e =
    let is : code_of op ≡ 0 + code = code_of-numbered every_op 0 code op every_op-numbered e in omega arith

pub op_at-outside : (code : ℕ) → (op_at code ≡ None) ↔ (81 ≤ code)
unfolding op_at
op_at-outside code = (
  λ none. elim (slice_get_cases every_op code).1
      [ inl found ↦ let some = found.2 in cc | inr past ↦ (let count = every_op-length in omega (arith, past.0)) ],
  λ past. slice_get_past every_op code (rw every_op-length past),
)

pub ruleset code_bounds = (code_of-below)
