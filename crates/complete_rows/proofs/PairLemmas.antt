-- What the row of a cycle and the row behind it show of blocks, batches and groups.
use Rattle.complete_rows.proofs.Words
use Words.{◌≡◌, ℕ, ◌+◌, ◌-◌, ◌*◌, ◌<◌, ◌≤◌, true, false, List, [], ◌∷◌, ◌++◌, length, take, drop, refl, sym, ap, ◌∙◌, subst, arith, lit<, length-drop}
use Words.{length-take, get_or-take, most_cycles, Core, IsWellFormedCore, ◌⊞◌, is_ordinary_op, is_start_op, seen, Op, clk, s, positions_in_use, core_behind}
use Words.{IsAllowed, Mark, Do, top, IsWholeMark, op_of_mark, Task, Next, span, join, split_1, split_0, loop_1, loop_0, call, syscall, dyn, operation, respan}
use Words.{repeats, returns, leaves, Loop, tree_digest, is_op, is_batch_op, shown_between, Event, Visible, IsPair, never, off, Agrees, IsSmallCore, Decoder}
use Words.{advance, advance_by, line_of, batch_begun, Comes, Shows}
use Words.ops
use Words.kinds
use Rattle.block_tree.specs.Trees.{Span}
use Rattle.facts_main.specs.Batches.{OpensBatch}
use Rattle.facts_main.specs.Blocks.{KeepsBlock, keeps_block, level_after}
use Rattle.facts_main.specs.Follows.{may_follow}
use Rattle.complete_rows.proofs.AgreeLemmas.{ordinary_advance}
use Rattle.complete_rows.proofs.BatchLemmas.{BatchCells, IsLaid, count_few, in_use, positions_are}
use Rattle.complete_rows.proofs.BlockLemmas.{SameFunction, behind_digest, ended_call, entered_call, entered_syscall, frame_moved, frame_stays, kept_block}
use Rattle.complete_rows.proofs.BlockLemmas.{no_block, one_less, one_more, ordinary_level, tick}
use Rattle.complete_rows.proofs.FollowLemmas.{behind_block, ends_block, starts_block}
use Rattle.complete_rows.proofs.GroupLemmas.{goes_on_shown, some_next, within_follow}
use Rattle.complete_rows.proofs.ReadingLemmas.{reading_some}

abbrev pub ticked : Core → Core
ticked c = record c { clock = c.clock + 1 }

-- what is known where a cycle is done
pub record Known (constants : List ℕ) (kernel : List (List ℕ)) (mark : Mark) (advice : List ℕ) (c : Core) (d : Decoder) : Type 0 where
  pub allowed : IsAllowed constants kernel mark advice c
  pub whole : IsWholeMark mark
  pub formed : IsWellFormedCore c
  pub small : IsSmallCore c
  pub early : c.clock < most_cycles
  pub ha : d.ha ≤ 1 + 8 * c.clock

clock_shown : {op next : Op} {x y : List ℕ} {d after : Decoder} {c e : Core} → Shows op d c x → Shows next after e y → e.clock ≡ c.clock + 1
    → c.clock < most_cycles → clk y ≡ clk x ⊞ 1
clock_shown {c = c} sx sy is early = sy.clock ∙ is ∙ tick c.clock early ∙ ap (λ n. n ⊞ 1) (sym sx.clock)

-- a row of a block that begins no batch
block_pair : {op next : Op} {x y : List ℕ} → is_op op ops.Span ≡ false → is_op op ops.Respan ≡ false → is_ordinary_op op ≡ false
    → clk y ≡ clk x ⊞ 1 → may_follow op (s x 0) next ≡ true → KeepsBlock op x y → IsPair op next x y
block_pair {op = op} no_span no_respan no_ordinary clock follows block = record {
  clock = clock;
  follows = follows;
  block = block;
  batch = record {
    first = λ is. never (sym is ∙ no_span);
    later = λ is. never (sym is ∙ no_respan);
    same = λ is. never (sym is ∙ no_ordinary);
  };
  opens = λ is. (let none : is_batch_op op ≡ false = rw (no_span, no_respan) refl in never (sym is ∙ none));
  group = λ is. never (sym is ∙ no_ordinary);
}

pub top_shown : {op : Op} {d : Decoder} {c : Core} {x : List ℕ} {n : ℕ} → Shows op d c x → top c ≡ n → s x 0 ≡ n
top_shown sx e = sx.cells 0 (lit< tt) ∙ e

left_count : (batch : List ℕ) (n : ℕ) → 1 ≤ n → n ≤ 8 → length batch ≡ 8 → length (drop 1 (take n batch)) + 1 ≡ n
left_count batch n some few size = omega (arith, some, few, size, length-drop 1 (take n batch), length-take n batch)

eight_more : (address clock : ℕ) → address ≤ 1 + 8 * clock → clock < most_cycles → address + 8 ≡ address ⊞ 8
eight_more address clock low early = omega (arith, low, early)

pub no_batch : (op : Op) → is_ordinary_op op ≡ true → is_batch_op op ≡ false
no_batch op is = let apart = no_block op is in rw (apart.span, apart.respan) refl

-- a batch that is begun, and the row behind
opens_shown : (batch : List ℕ) {x y : List ℕ} {next : Op} {after : Decoder} {e : Core} → BatchCells batch x → length batch ≡ 8
    → Shows next after e y → after.unread ≡ batch_begun batch → is_ordinary_op next ≡ true → OpensBatch x y
opens_shown batch {x = x} cells size sy is ordinary =
    let few = count_few (in_use batch) in
    record {
      group = sy.number ordinary ∙ ap (λ u. u.number) is ∙ sym (cells.hash 0 (lit< tt));
      left = ap (λ n. n + 1) (sy.left ∙ ap (λ u. length u.positions) is) ∙ left_count batch (positions_in_use batch) few.0 few.1 size
          ∙ sym (positions_are batch x cells);
      place = sy.place ∙ ap (λ u. u.place) is;
    }

some_open : {n m : ℕ} → 0 < m → n ≡ m → 0 < n
some_open some is = omega (arith, some, is)

module _ {next : Op} {x y : List ℕ} {d after : Decoder} {c e : Core} where
  -- a start that calls nothing
  started : {op : Op} → Shows op d c x → Shows next after e y → is_op op ops.Call ≡ false → is_op op ops.Syscall ≡ false
      → is_op op ops.FmpUpdate ≡ false → is_start_op op ≡ true → SameFunction e c → e.fmp ≡ c.fmp → e.nesting ≡ c.nesting + 1
      → c.nesting < 1024 → KeepsBlock op x y
  started {op = op} sx sy no_call no_syscall no_frame start same frame nesting few =
      kept_block sx sy no_call no_syscall same (λ is. frame) (λ is. never (sym is ∙ no_frame))
      (λ is. (let none : keeps_block op ≡ false = rw start refl in never (sym is ∙ none)))
      (nesting ∙ one_more c.nesting few ∙ (let level : level_after op c.nesting ≡ c.nesting ⊞ 1 = rw start refl in sym level))

  -- an END that is not a call's
  ended_block : Shows ops.End d c x → Shows next after e y → c.clock < most_cycles → may_follow ops.End (s x 0) next ≡ true → 0 < c.nesting
      → c.nesting ≤ 1024 → e.clock ≡ c.clock + 1 → SameFunction e c → e.fmp ≡ c.fmp → e.nesting ≡ c.nesting - 1 → IsPair ops.End next x y
  ended_block sx sy early follows some few clock same frame nesting =
      block_pair refl refl refl (clock_shown sx sy clock early) follows
      (kept_block sx sy refl refl same (λ is. frame) off off (nesting ∙ one_less c.nesting some few))

-- behind the cycle of a mark
abbrev behind_of : List ℕ → List ℕ → Mark → Core → Core
behind_of constants advice mark c = ticked (core_behind constants mark advice c)

module _ {constants : List ℕ} {kernel : List (List ℕ)} {advice : List ℕ} {d : Decoder} {todo : List Task} (later : List Event) (b : Core) (v : Visible)
    {x y : List ℕ} {next : Op} where
  pub pair_shown : {task : Task} {c : Core} {mark : Mark} {rest : List Task} → Next constants task c mark rest
      → Known constants kernel mark advice c d → Agrees (task ∷ todo) d c
      → Shows (op_of_mark mark) d c x → IsLaid (line_of d (shown_between mark advice c b) v later) x
      → Shows next (advance d (shown_between mark advice c b) later) (behind_of constants advice mark c) y → Comes constants (rest ++ todo) (behind_of constants advice mark c) next
      → IsPair (op_of_mark mark) next x y
  pair_shown (join {a = a}) k agrees sx lx sy comes =
      block_pair refl refl refl (clock_shown sx sy refl k.early) (starts_block constants a [] _ next comes)
      (started sx sy refl refl refl refl (refl, refl, refl) refl refl k.allowed)
  pair_shown (split_1 {a = a} bit) k agrees sx lx sy comes =
      block_pair refl refl refl (clock_shown sx sy refl k.early) (starts_block constants a [] _ next comes)
      (started sx sy refl refl refl refl (refl, refl, refl) refl refl k.allowed.0)
  pair_shown (split_0 {b = a} bit) k agrees sx lx sy comes =
      block_pair refl refl refl (clock_shown sx sy refl k.early) (starts_block constants a [] _ next comes)
      (started sx sy refl refl refl refl (refl, refl, refl) refl refl k.allowed.0)
  pair_shown (loop_1 {a = a} bit) k agrees sx lx sy comes =
      block_pair refl refl refl (clock_shown sx sy refl k.early) (rw (top_shown sx bit) (starts_block constants a [] _ next comes))
      (started sx sy refl refl refl refl (refl, refl, refl) refl refl k.allowed.0)
  pair_shown (loop_0 {a = a} bit) k agrees sx lx sy comes =
      block_pair refl refl refl (clock_shown sx sy refl k.early)
      (rw (top_shown sx bit) (ends_block constants (tree_digest constants (Loop a)) [] _ next comes))
      (started sx sy refl refl refl refl (refl, refl, refl) refl refl k.allowed.0)
  pair_shown (call {c = c} {a = a}) k agrees sx lx sy comes =
      block_pair refl refl refl (clock_shown sx sy refl k.early) (starts_block constants a [] _ next comes)
      (entered_call (tree_digest constants a) sx sy lx.hash k.whole.size k.early refl refl k.allowed.1 refl (one_more c.nesting k.allowed.0))
  pair_shown (syscall {c = c} {a = a}) k agrees sx lx sy comes =
      block_pair refl refl refl (clock_shown sx sy refl k.early) (starts_block constants a [] _ next comes)
      (entered_syscall sx sy refl refl refl refl (one_more c.nesting k.allowed.0))
  pair_shown (dyn {a = a} found) k agrees sx lx sy comes =
      block_pair refl refl refl (clock_shown sx sy refl k.early) (starts_block constants a [] _ next comes)
      (started sx sy refl refl refl refl (refl, refl, refl) refl refl k.allowed.0)
  pair_shown (span {batch = batch} {later = more} {items = items} read) k agrees sx lx sy comes =
      let ordinary : is_ordinary_op next ≡ true
      = some_next constants items more (tree_digest constants (Span (batch ∷ more))) todo _ next (reading_some batch items read) comes in
      record {
        clock = clock_shown sx sy refl k.early;
        follows = ordinary;
        block = started sx sy refl refl refl refl (refl, refl, refl) refl refl k.allowed.0;
        batch = record { first = λ is. sy.batch ∙ sym sy.address; later = off; same = off };
        opens = λ is. opens_shown batch lx k.whole.size sy refl ordinary;
        group = off;
      }
  pair_shown (respan {c = c} {batch = batch} {later = more} {digest = digest} {items = items} read) k agrees sx lx sy comes =
      let ordinary : is_ordinary_op next ≡ true = some_next constants items more digest todo _ next (reading_some batch items read) comes in
      record {
        clock = clock_shown sx sy refl k.early;
        follows = ordinary;
        block = kept_block sx sy refl refl (refl, refl, refl) (λ is. refl) off (λ is. refl) refl;
        batch = record {
          first = off;
          later = λ is. sy.batch ∙ eight_more d.ha c.clock k.ha k.early ∙ ap (λ n. n ⊞ 8) (sym sx.batch);
          same = off;
        };
        opens = λ is. opens_shown batch lx k.whole.size sy refl ordinary;
        group = off;
      }
  pair_shown (operation {c = c} {item = item} {items = items} {later = more} {digest = digest}) k agrees sx lx sy comes =
      let moved : Shows next (advance_by kinds.Ordinary d (shown_between (Do item) advice c b) later) (behind_of constants advice (Do item) c) y
      = subst (λ z. Shows next z (behind_of constants advice (Do item) c) y) (ordinary_advance d (shown_between (Do item) advice c b) later k.whole.ordinary) sy in
      let apart = no_block item.op k.whole.ordinary in
      record {
        clock = clock_shown sx moved refl k.early;
        follows = rw k.whole.ordinary (within_follow constants items more digest todo _ next comes);
        block = kept_block sx moved apart.call apart.syscall (refl, refl, refl)
            (frame_stays item.op x (seen constants item advice c))
            (λ is. frame_moved item.op (seen constants item advice c) is ∙ ap (λ n. c.fmp ⊞ n) (get_or-take 16 c.stack 0 0 (lit< tt)))
            (λ is. refl) (ordinary_level item.op c.nesting k.whole.ordinary);
        batch = record {
          first = λ is. never (sym is ∙ apart.span);
          later = λ is. never (sym is ∙ apart.respan);
          same = λ is. moved.batch ∙ sym sx.batch;
        };
        opens = λ is. never (sym is ∙ no_batch item.op k.whole.ordinary);
        group = λ is. goes_on_shown constants item items more digest todo _ next d.unread x y agrees.reads.0 agrees.low
            (record { left = sx.left; place = sx.place }) (sx.number k.whole.ordinary) (record { left = moved.left; place = moved.place })
            moved.number comes;
      }
  pair_shown (repeats {a = a} bit) k agrees sx lx sy comes =
      block_pair refl refl refl (clock_shown sx sy refl k.early) (starts_block constants a [] _ next comes)
      (kept_block sx sy refl refl (refl, refl, refl) (λ is. refl) off (λ is. refl) refl)
  pair_shown (returns {c = c} {digest = digest}) k agrees sx lx sy comes =
      let z = behind_digest digest 0 0 1 0 x k.whole.0.size lx.hash in
      block_pair refl refl refl (clock_shown sx sy refl k.early) (behind_block constants todo _ next agrees.reads.1 comes)
      (ended_call sx sy (rw (z.2, z.3) refl) (one_less c.nesting (some_open agrees.framed.0 agrees.nesting) k.small.nesting))
  pair_shown (leaves {c = c} {digest = digest}) k agrees sx lx sy comes =
      let z = behind_digest digest 0 0 0 1 x k.whole.0.size lx.hash in
      block_pair refl refl refl (clock_shown sx sy refl k.early) (behind_block constants todo _ next agrees.reads.1 comes)
      (ended_call sx sy (rw (z.2, z.3) refl) (one_less c.nesting (some_open agrees.framed.0 agrees.nesting) k.small.nesting))
  pair_shown ends k agrees sx lx sy comes =
      ended_block sx sy k.early (behind_block constants todo _ next agrees.reads.1 comes) (some_open agrees.framed.0 agrees.nesting)
      k.small.nesting refl (refl, refl, refl) refl refl
