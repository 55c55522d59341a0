-- What no ordinary operation is.
use Rattle.facts_steps.proofs.Words
use Words.{◌≡◌, ℕ, Bool, true, false, ◌||◌, not, cond, ◌&&◌, eqb, List, refl, ap, sym, ◌∙◌, is_ordinary_op, is_start_op, Op, h, sys, felt_add, felt_sub, is_op}
use Words.{is_left, is_right, is_call_op, never, off, mover, keeps_stack}
use Words.ops
use Rattle.vm_ops.specs.Codes.{kind_of}
use Rattle.vm_ops.proofs.CodeLemmas.{ordinary-starts-none}
use Rattle.facts_main.specs.Blocks.{IsBlockRow, ends_call, stays_in_function, keeps_digest, keeps_frame, level_after}
use Rattle.facts_steps.proofs.Tests.{at_op, or_none, or_off}

pub record IsOrdinary (op : Op) : Type 0 where
  pub not_end : is_op op ops.End ≡ false
  pub not_start : is_start_op op ≡ false
  pub not_call : is_call_op op ≡ false
  pub not_first : is_op op ops.Call ≡ false
  pub not_second : is_op op ops.Syscall ≡ false

-- an ordinary operation is none that is not
unlike : (op : Op) → is_ordinary_op op ≡ true → (other : Op) → is_ordinary_op other ≡ false → is_op op other ≡ false
unlike op is other apart = go (is_op op other) refl
  where
    go : (t : Bool) → is_op op other ≡ t → is_op op other ≡ false
    go false e = e
    go true e = never (sym (at_op (λ o. is_ordinary_op o ≡ true) op other e is) ∙ apart)

pub ordinary : (op : Op) → is_ordinary_op op ≡ true → IsOrdinary op
ordinary op is = record {
  not_end = unlike op is ops.End refl;
  not_start = ordinary-starts-none (kind_of op) is;
  not_call = or_off (unlike op is ops.Call refl) (unlike op is ops.Syscall refl);
  not_first = unlike op is ops.Call refl;
  not_second = unlike op is ops.Syscall refl;
}

-- ---- so it ends no call, and moves the stack by itself

pub mover_is : (op : Op) (x : List ℕ) → IsOrdinary op → mover op x ≡ op
mover_is op x o = ap (λ t. cond (t && eqb (h x 4) 1) ops.Drop op) o.not_end

module _ {op : Op} (x : List ℕ) (o : IsOrdinary op) where
  pub no_return : ends_call op x ≡ false
  no_return = ap (λ t. t && eqb (felt_add (h x 6) (h x 7)) 1) o.not_end

  pub stays : stays_in_function op x ≡ true
  stays = ap not (or_off o.not_call no_return)

  pub digest_stays : keeps_digest op x ≡ true
  digest_stays = ap not (or_off o.not_first no_return)

  pub frame_stays : is_op op ops.FmpUpdate ≡ false → keeps_frame op x ≡ true
  frame_stays other = ap not (or_off (or_off o.not_call no_return) other)

  pub level_stays : (n : ℕ) → level_after op n ≡ n
  level_stays n =
      ap (λ t. cond t (felt_add n 1) (cond (is_op op ops.End) (felt_sub n 1) n)) o.not_start ∙ ap (λ t. cond t (felt_sub n 1) n) o.not_end

  pub keeps_is : keeps_stack op x ≡ not (is_right op || is_left op)
  keeps_is =
      ap (λ (m : Op). not (is_right op || is_left m || is_call_op op || ends_call op x)) (mover_is op x o)
      ∙ ap not (or_none no_return ∙ or_none o.not_call)

pub ordinary_row : (op : Op) (x : List ℕ) → is_ordinary_op op ≡ true → (is_op op ops.Caller ≡ true → sys x ≡ 1) → IsBlockRow op x
ordinary_row op x is inside =
    let o = ordinary op is in
    record {
      condition = λ t. off (sym (or_off (unlike op is ops.Split refl) (unlike op is ops.Loop refl)) ∙ t);
      again = λ t. off (sym (unlike op is ops.Repeat refl) ∙ t);
      ends = λ t. off (sym o.not_end ∙ t);
      single = λ t. off (sym (or_off (or_off (unlike op is ops.Loop refl) o.not_call) (unlike op is ops.Dyn refl)) ∙ t);
      outside = λ t. off (sym o.not_call ∙ t);
      inside = inside;
      closed = λ t. off (sym (unlike op is ops.Halt refl) ∙ t);
    }
