-- What an ordinary operation does to the state beside its stack.
use Rattle.facts_steps.proofs.Words
use Words.{◌≡◌, ℕ, ◌<◌, Bool, true, false, ◌||◌, not, cond, List, [], ◌∷◌, ◌++◌, drop, slice_index, Option, Some, None, refl, ap, sym, ◌∙◌, arith}
use Words.{felt_add, WordMap, memory_with, Seen, cell, fmp_after, written, advice_of, Item, Op, fmp, ctx, sys, f, s, t, lv, addr, is_op, is_call_op, Elsewhere}
use Words.{taken_by, written_by, memory_behind, cells, function_digest, off, never, word_before}
use Words.ops
use Rattle.facts_main.specs.Blocks.{KeepsBlock, keeps_frame, ends_call}
use Rattle.facts_steps.proofs.Ordinary.{IsOrdinary, stays, digest_stays, frame_stays, level_stays}
use Rattle.facts_steps.proofs.Seeing.{below_by, seen_by}

-- ---- the function that runs, and its frame

pub record KeepsFrame (op : Op) (sn : Seen) (x y : List ℕ) : Type 0 where
  pub context : ctx y ≡ ctx x
  pub syscall : sys y ≡ sys x
  pub digest : function_digest y ≡ function_digest x
  pub frame : fmp y ≡ fmp_after op sn
  pub nesting : lv y ≡ lv x

fmp_by : (op : Op) (sn : Seen) → fmp_after op sn ≡ cond (is_op op ops.FmpUpdate) (felt_add sn.fmp (cell sn 0)) sn.fmp
fmp_by ops.FmpUpdate sn = refl
fmp_by op sn = refl

same_digest : (x y : List ℕ) → ((j : ℕ) → j < 4 → f y j ≡ f x j) → function_digest y ≡ function_digest x
unfolding function_digest
same_digest x y h =
    let e0 = h 0 (omega arith) in
    let e1 = h 1 (omega arith) in
    let e2 = h 2 (omega arith) in
    let e3 = h 3 (omega arith) in
    cc

digest_index : (x y : List ℕ) → function_digest y ≡ function_digest x → (j : ℕ) → j < 4 → f y j ≡ f x j
unfolding function_digest
digest_index x y e = below_by 4 (λ j. f y j ≡ f x j) (at 0, (at 1, (at 2, (at 3, tt))))
  where
    at : (j : ℕ) → slice_index (function_digest y) j ≡ slice_index (function_digest x) j
    at j = ap (λ (u : List ℕ). slice_index u j) e

module _ (constants : List ℕ) (item : Item) {op : Op} (x y : List ℕ) (e : Elsewhere) (o : IsOrdinary op) where
  -- the frame pointer that the step leaves
  frame_by : fmp_after op (seen_by constants item x e) ≡ cond (is_op op ops.FmpUpdate) (felt_add (fmp x) (s x 0)) (fmp x)
  unfolding cells
  frame_by = fmp_by op (seen_by constants item x e)

  pub frame_shown : KeepsBlock op x y → KeepsFrame op (seen_by constants item x e) x y
  frame_shown k = record {
    context = (k.function (stays x o)).0;
    syscall = (k.function (stays x o)).1;
    digest = same_digest x y (k.digest (digest_stays x o));
    frame = go (is_op op ops.FmpUpdate) refl ∙ sym frame_by;
    nesting = k.level ∙ level_stays x o (lv x);
  }
    where
      go : (u : Bool) → is_op op ops.FmpUpdate ≡ u → fmp y ≡ cond (is_op op ops.FmpUpdate) (felt_add (fmp x) (s x 0)) (fmp x)
      go true is = rw is (k.frame_moves is)
      go false other = rw other (k.frame (frame_stays x o other))

  pub frame_filled : addr y ≡ addr x → KeepsFrame op (seen_by constants item x e) x y → KeepsBlock op x y
  frame_filled block k = record {
    call = λ is. off (sym o.not_first ∙ is);
    syscall = λ is. off (sym o.not_second ∙ is);
    function = λ is. (k.context, k.syscall);
    digest = λ is. digest_index x y k.digest;
    frame = go (is_op op ops.FmpUpdate) refl;
    frame_moves = λ is. k.frame ∙ frame_by ∙ ap (λ v. cond v (felt_add (fmp x) (s x 0)) (fmp x)) is;
    block = λ is. block;
    level = k.nesting ∙ sym (level_stays x o (lv x));
  }
    where
      never_kept : (u : Bool) → not (u || true) ≡ false
      never_kept true = refl
      never_kept false = refl

      go : (u : Bool) → is_op op ops.FmpUpdate ≡ u → keeps_frame op x ≡ true → fmp y ≡ fmp x
      go true is keeps = never (sym keeps ∙ ap (λ v. not (is_call_op op || ends_call op x || v)) is ∙ never_kept (is_call_op op || ends_call op x))
      go false other keeps = k.frame ∙ frame_by ∙ ap (λ v. cond v (felt_add (fmp x) (s x 0)) (fmp x)) other

-- ---- memory

pub written_is : (constants : List ℕ) (item : Item) (op : Op) (x : List ℕ) (e : Elsewhere)
    → (is_op op ops.MStore ≡ true → drop 1 (word_before x e) ≡ t x 0 ∷ t x 1 ∷ t x 2 ∷ [])
    → written op (seen_by constants item x e) ≡ written_by op x
unfolding cells
written_is constants item ops.MStore x e kept = ap (λ (u : List ℕ). Some (s x 1 ∷ u)) (kept refl)
written_is constants item ops.MStoreW x e kept = refl
written_is constants item op x e kept = refl

pub memory_is : (x : List ℕ) (memory : WordMap) (o : Option (List ℕ)) → memory_with memory (ctx x) (s x 0) o ≡ memory_behind x o memory
memory_is x memory None = refl
memory_is x memory (Some word) = refl

-- ---- the tape

pub tape_left : (op : Op) (y tape : List ℕ) → drop (advice_of op) (taken_by op y ++ tape) ≡ tape
tape_left ops.AdvPop y tape = refl
tape_left ops.AdvPopW y tape = refl
tape_left op y tape = refl
