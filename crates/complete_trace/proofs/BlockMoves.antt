-- How the rows of blocks move the stack: it is kept, the condition on top is taken off, or a call hides or brings back the cells
-- below the sixteenth.
use Rattle.complete_rows.proofs.Words
use Words.{◌≡◌, ◌≢◌, ℕ, ◌+◌, ◌-◌, ◌^◌, ◌<◌, ◌≤◌, max, Bool, true, false, not, ◌&&◌, ◌||◌, eqb, List, [], ◌∷◌, ◌++◌, length, take, drop, slice_index, refl, sym}
use Words.{ap, ◌∙◌, subst, arith, lit<, get_or_append_left, get_or_past, get_or-take, length-drop, length-take, length-filled_up, felt_mul-felt_inv, prime}
use Words.{felt_inv, Core, filled_up, ◌⊟◌, ◌⊠◌, index-filled_up, is_ordinary_op, takes_of, leaves_of, Op, depth, inv, key, s, key_of, is_left, is_right}
use Words.{is_call_op, never, off, IsStackRow, MovesStack, mover, Decoder, Shows}
use Words.ops
use Rattle.std.proofs.Common.{min}
use Rattle.std.proofs.lemmas.Grind.{get_or_after_one}
use Rattle.facts_main.specs.Blocks.{ends_call}
use Rattle.facts_main.specs.Stack.{ShiftsCells, keeps_stack}
use Rattle.complete_trace.proofs.QuietOps.{apart, leaves_cells, right_off, top_off, two_off}

-- ---- a row by itself

depth_some : (n : ℕ) → 16 ≤ n → n < 2 ^ 20 → n ≢ 16 → n ⊟ 16 ≢ 0
depth_some n deep few other z = other (omega (arith, deep, few, z))

depth_low : (n : ℕ) → n ⊟ 16 < prime
depth_low n = omega arith

inverse_shows : (n v : ℕ) → 16 ≤ n → n < 2 ^ 20 → v ≡ felt_inv (n ⊟ 16) → n ≢ 16 → (n ⊟ 16) ⊠ v ≡ 1
inverse_shows n v deep few e other =
    let some = depth_some n deep few other in
    ap (λ m. (n ⊟ 16) ⊠ m) e ∙ felt_mul-felt_inv (n ⊟ 16) (omega (arith, some)) (depth_low n)

pub stack_row : (op : Op) (x : List ℕ) → is_ordinary_op op ≡ false → 16 ≤ depth x → depth x < 2 ^ 20 → inv x ≡ felt_inv (depth x ⊟ 16)
    → (ends_call op x ≡ true → depth x ≡ 16) → IsStackRow op x
stack_row op x is deep few inverse returns = record {
  witness = inverse_shows (depth x) (inv x) deep few inverse;
  returns = returns;
  top = top_off op is;
  second = two_off op is;
  asserted = λ e. apart op ops.Assert is refl e;
}

-- ---- two rows that show the states around a cycle

pub record Around (op next : Op) (x y : List ℕ) (d after : Decoder) (c b : Core) : Type 0 where
  pub here : Shows op d c x
  pub behind : Shows next after b y

-- a cell that stays
stays : {op next : Op} {x y : List ℕ} {d after : Decoder} {c b : Core} → Around op next x y d after c b → (j k : ℕ) → j < 16 → k < 16
    → slice_index b.stack j ≡ slice_index c.stack k → s y j ≡ s x k
stays a j k low high e = a.behind.cells j low ∙ e ∙ sym (a.here.cells k high)

-- where no shift moves the cells, by the depth and the key behind a call and behind all others
pub unmoved : {op : Op} {x y : List ℕ} → is_ordinary_op op ≡ false → mover op x ≡ op → is_left op ≡ false → takes_of op ≡ 0 → leaves_of op ≡ 0
    → (is_call_op op ≡ true → (depth y ≡ 16) × (key y ≡ 0)) → (keeps_stack op x ≡ true → (depth y ≡ depth x) × (key y ≡ key x))
    → ((j : ℕ) → j < 16 → s y j ≡ s x j) → MovesStack op x y
unmoved {op = op} {x = x} {y = y} is moves still takes leaves call keeps same = record {
  depth_moves = record {
    right = λ e. never (sym e ∙ right_off op is);
    left_flat = λ e. never (sym e ∙ ap is_left moves ∙ still);
    left_deep = λ e. never (sym e ∙ ap is_left moves ∙ still);
    call = call;
    same = keeps;
  };
  shifts = subst (λ m. ShiftsCells m x y) (sym moves) (record {
    brings = λ j from low flag. (
        let place : j ≡ j + takes_of op - leaves_of op = omega (arith, takes, leaves) in
        same j low ∙ ap (λ n. s x n) place
        );
    last = λ is flat. never (sym is ∙ still);
  });
  leaves = leaves_cells op x y is;
}

-- the stack is kept
pub kept : {op next : Op} {x y : List ℕ} {d after : Decoder} {c b : Core} → Around op next x y d after c b → is_ordinary_op op ≡ false
    → mover op x ≡ op → is_left op ≡ false → is_call_op op ≡ false → takes_of op ≡ 0 → leaves_of op ≡ 0
    → b.stack ≡ c.stack → key_of after.keys ≡ key_of d.keys → MovesStack op x y
kept a is moves still no_call takes leaves stack keys =
    unmoved is moves still takes leaves (λ e. never (sym e ∙ no_call))
    (λ e. (a.behind.deep ∙ ap length stack ∙ sym a.here.deep, a.behind.key_is ∙ keys ∙ sym a.here.key_is))
    (λ j low. stays a j j low low (ap (λ v. slice_index v j) stack))

-- ---- the condition on top is taken off

flat_key : (keys : List ℕ) (n : ℕ) → length keys + 16 ≡ n → n ≡ 16 → key_of (drop 1 keys) ≡ key_of keys
flat_key [] n count flat = refl
flat_key (k ∷ keys) n count flat = absurd (omega (arith, count, flat))

not_last : (t : Bool) (j : ℕ) → t ≡ true → t && eqb j 15 ≡ false → j < 16 → j < 15
not_last t j left flag low = go (λ e. never (sym (rw (left, e) refl) ∙ flag))
  where
    go : j ≢ 15 → j < 15
    go other = omega (arith, low, other)

keeps_not : (op m : Op) (x : List ℕ) → is_ordinary_op op ≡ false → mover op x ≡ m → is_left m ≡ true → keeps_stack op x ≡ false
keeps_not op m x is moves left =
    ap (λ t. not (t || is_left (mover op x) || is_call_op op || ends_call op x)) (right_off op is)
    ∙ ap (λ t. not (false || t || is_call_op op || ends_call op x)) (ap is_left moves ∙ left)

popped_index : (cells : List ℕ) (j : ℕ) → slice_index (filled_up (drop 1 cells)) j ≡ slice_index cells (1 + j)
popped_index cells j = index-filled_up (drop 1 cells) j ∙ get_or_after_one cells j 0

pub popped : (m : Op) {op next : Op} {x y : List ℕ} {d after : Decoder} {c b : Core} → Around op next x y d after c b → is_ordinary_op op ≡ false
    → mover op x ≡ m → is_left m ≡ true → is_call_op op ≡ false → takes_of m ≡ 1 → leaves_of m ≡ 0
    → b.stack ≡ filled_up (drop 1 c.stack) → after.keys ≡ drop 1 d.keys → length d.keys + 16 ≡ length c.stack → length c.stack < 2 ^ 20
    → MovesStack op x y
popped m {op = op} {x = x} {y = y} {d = d} {after = after} {c = c} {b = b} a is moves left no_call takes leaves stack keys keyed few =
    let count : length b.stack ≡ max 16 (length (drop 1 c.stack)) = ap length stack ∙ length-filled_up (drop 1 c.stack) in
    let less : length (drop 1 c.stack) ≡ length c.stack - 1 = length-drop 1 c.stack in
    let deep : depth x ≡ length c.stack = a.here.deep in
    let deep_behind : depth y ≡ length b.stack = a.behind.deep in
    record {
      depth_moves = record {
        right = λ e. never (sym e ∙ right_off op is);
        left_flat = λ e flat. (
          omega (arith, count, less, deep, deep_behind, flat),
          a.behind.key_is ∙ ap key_of keys ∙ flat_key d.keys (depth x) (keyed ∙ sym deep) flat ∙ sym a.here.key_is,
        );
        left_deep = λ e more. omega (arith, count, less, deep, deep_behind, keyed, few, more);
        call = λ e. never (sym e ∙ no_call);
        same = λ e. never (sym e ∙ keeps_not op m x is moves left);
      };
      shifts = subst (λ o. ShiftsCells o x y) (sym moves) (record {
        brings = λ j from low flag. (
            let early : j < 15 = not_last (is_left m) j left flag low in
            let place : 1 + j ≡ j + takes_of m - leaves_of m = omega (arith, takes, leaves) in
            stays a j (1 + j) low (omega (arith, early)) (ap (λ v. slice_index v j) stack ∙ popped_index c.stack j) ∙ ap (λ n. s x n) place
            );
        last = λ e flat. a.behind.cells 15 (lit< tt) ∙ ap (λ v. slice_index v 15) stack ∙ popped_index c.stack 15
            ∙ get_or_past c.stack 16 0 (omega (arith, deep, flat));
      });
      leaves = leaves_cells op x y is;
    }

-- ---- calls

keeps_no_call : (op : Op) (x : List ℕ) → is_call_op op ≡ true → keeps_stack op x ≡ false
keeps_no_call op x call = go (is_right op || is_left (mover op x)) (is_call_op op) (ends_call op x) call
  where
    go : (t u v : Bool) → u ≡ true → not (t || u || v) ≡ false
    go true u v e = refl
    go false true v e = refl
    go false false v e = off e

pub called : {op next : Op} {x y : List ℕ} {d after : Decoder} {c b : Core} → Around op next x y d after c b → is_ordinary_op op ≡ false
    → mover op x ≡ op → is_left op ≡ false → is_call_op op ≡ true → takes_of op ≡ 0 → leaves_of op ≡ 0
    → b.stack ≡ take 16 c.stack → after.keys ≡ [] → 16 ≤ length c.stack → MovesStack op x y
called {op = op} {x = x} {y = y} {c = c} {b = b} a is moves still call takes leaves stack keys deep =
    let count : length b.stack ≡ min 16 (length c.stack) = ap length stack ∙ length-take 16 c.stack in
    let deep_behind : depth y ≡ length b.stack = a.behind.deep in
    unmoved is moves still takes leaves (λ e. (omega (arith, count, deep, deep_behind), a.behind.key_is ∙ ap key_of keys))
    (λ e. never (sym e ∙ keeps_no_call op x call))
    (λ j low. stays a j j low low (ap (λ v. slice_index v j) stack ∙ get_or-take 16 c.stack j 0 low))

-- the END of a call
pub returned : (hidden : List ℕ) {next : Op} {x y : List ℕ} {d after : Decoder} {c b : Core} → Around ops.End next x y d after c b
    → mover ops.End x ≡ ops.End → ends_call ops.End x ≡ true → b.stack ≡ c.stack ++ hidden → 16 ≤ length c.stack → MovesStack ops.End x y
returned hidden {x = x} {y = y} {c = c} a moves ends stack deep =
    unmoved refl moves refl refl refl off (λ e. never (sym e ∙ keeps_not_end ends))
    (λ j low. stays a j j low low (ap (λ v. slice_index v j) stack ∙ get_or_append_left c.stack hidden 0 j (omega (arith, low, deep))))
  where
    keeps_not_end : ends_call ops.End x ≡ true → keeps_stack ops.End x ≡ false
    keeps_not_end e = go (is_left (mover ops.End x)) (ends_call ops.End x) e
      where
        go : (t u : Bool) → u ≡ true → not (false || t || false || u) ≡ false
        go true u e = refl
        go false true e = refl
        go false false e = off e
