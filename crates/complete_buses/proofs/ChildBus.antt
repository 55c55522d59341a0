-- The bus of children is even: a child is named before it starts, and its END asks what was named.
use Rattle.complete_rows.proofs.Words
use Words.{◌≡◌, ℕ, ◌+◌, ◌<◌, cond, List, [], ◌∷◌, ◌++◌, drop, slice_index, refl, sym, ap, ◌∙◌, arith, lit<, Core, zero_word, is_start_op, Op, counted, s, Mark}
use Words.{Do, op_of_mark, Task, Block, Within, Turned, Closing, Returning, Leaving, Next, span, join, split_1, split_0, loop_1, loop_0, call, syscall, dyn}
use Words.{operation, respan, span_ends, repeats, loop_ends, closes, returns, leaves, Loop, tree_digest, children_asked, children_given, children_of}
use Words.{shown_between, Event, AreOutside, IsOutsideSpan, Decoder, Open, address_of, advance, Comes}
use Words.flags
use Rattle.block_tree.specs.Cycles.{called_word}
use Rattle.air_kit.specs.MainTuples.{called_digest}
use Rattle.complete_rows.proofs.AgreeLemmas.{ordinary_advance}
use Rattle.complete_rows.proofs.BlockLemmas.{no_block}
use Rattle.complete_buses.proofs.ChildTuples.{child_tuple, ends, names_none, names_one, names_two, one_named, ordinary_names}
use Rattle.complete_buses.proofs.Hits.{hit}
use Rattle.complete_buses.proofs.PairShown.{Pair, back_is, front_is}
use Rattle.complete_buses.proofs.TargetWords.{first_digest}

-- 1 where a block comes
abbrev pub starts : List Task → ℕ
starts (Block tree ∷ todo) = 1
starts todo = 0

-- the blocks around the one that a task starts or ends
abbrev pub around : Task → List Open → List Open
around (Block tree) blocks = blocks
around task blocks = drop 1 blocks

-- the digest on top of the stack
word_shown : (c : Core) (x : List ℕ) → ((j : ℕ) → j < 16 → s x j ≡ slice_index c.stack j) → called_digest x ≡ called_word c
word_shown c x cells = rw (cells 0 (lit< tt), cells 1 (lit< tt), cells 2 (lit< tt), cells 3 (lit< tt)) refl

module _ (constants : List ℕ) where
  -- and its digest
  abbrev pub digest_of : Task → List ℕ
  digest_of (Block tree) = tree_digest constants tree
  digest_of (Within items later digest) = digest
  digest_of (Turned body) = tree_digest constants (Loop body)
  digest_of (Closing digest) = digest
  digest_of (Returning digest frame) = digest
  digest_of (Leaving digest frame) = digest

  -- what is named and not yet asked
  unfoldable pub owed_children : List Task → List Open → List ℕ → ℕ
  owed_children [] blocks u = 0
  owed_children (task ∷ todo) blocks u =
      hit (child_tuple (address_of (around task blocks)) (digest_of task) (starts todo)) u + owed_children todo (around task blocks) u

  no_start : {task : Task} {c : Core} {mark : Mark} {rest : List Task} → IsOutsideSpan task → Next constants task c mark rest
      → (todo : List Task) → cond (is_start_op (op_of_mark mark)) 1 0 ≡ starts (task ∷ todo)
  no_start out operation todo = absurd out
  no_start out (respan read) todo = absurd out
  no_start out next todo = refl

  starts_is : (todo : List Task) (c : Core) (op : Op) → AreOutside todo → Comes constants todo c op → cond (is_start_op op) 1 0 ≡ starts todo
  starts_is [] c op out h = ap (λ o. cond (is_start_op o) 1 0) h
  starts_is (task ∷ todo) c op out h = ap (λ o. cond (is_start_op o) 1 0) h.4 ∙ no_start out.0 h.2 todo

module _ {constants : List ℕ} {kernel : List (List ℕ)} {advice : List ℕ} {b : Core} {d : Decoder} {events : List Event} {x y : List ℕ}
    (todo : List Task) (after : Core) (u : List ℕ) where
  pub children_pair : {task : Task} {c : Core} {mark : Mark} {rest : List Task} → Next constants task c mark rest
      → Pair constants kernel mark advice c b d events x y → AreOutside todo → Comes constants (rest ++ todo) after (flags.op_of y)
      → counted (children_given x y) u + owed_children constants (task ∷ todo) d.blocks u
      ≡ counted (children_asked x y) u + owed_children constants (rest ++ todo) (advance d (shown_between mark advice c b) events).blocks u
  unfolding owed_children children_of
  children_pair (join {a = a} {b = z}) p out comes =
      names_two x y u p.op p.next.address (front_is (tree_digest constants a) (tree_digest constants z) x p.whole.0.size p.hash)
      (back_is (tree_digest constants a) (tree_digest constants z) x p.whole.0.size p.whole.1.size p.hash) _
  children_pair (split_1 {a = a} {b = z} bit) p out comes =
      let first = front_is (tree_digest constants a) (tree_digest constants z) x p.whole.0.size p.hash in
      names_one x y u d.next (tree_digest constants a) p.op refl (rw (p.here.cells 0 (lit< tt) ∙ bit) (one_named p.next.address first refl)) _
  children_pair (split_0 {a = a} {b = z} bit) p out comes =
      let second = back_is (tree_digest constants a) (tree_digest constants z) x p.whole.0.size p.whole.1.size p.hash in
      names_one x y u d.next (tree_digest constants z) p.op refl (rw (p.here.cells 0 (lit< tt) ∙ bit) (one_named p.next.address second refl)) _
  children_pair (loop_1 {a = a} bit) p out comes =
      let first = front_is (tree_digest constants a) zero_word x p.whole.size p.hash in
      names_one x y u d.next (tree_digest constants a) p.op refl (rw (p.here.cells 0 (lit< tt) ∙ bit) (one_named p.next.address first refl)) _
  children_pair (loop_0 bit) p out comes = names_none x y u p.op refl (rw (p.here.cells 0 (lit< tt) ∙ bit) refl) _
  children_pair (call {a = a}) p out comes =
      let first = front_is (tree_digest constants a) zero_word x p.whole.size p.hash in
      names_one x y u d.next (tree_digest constants a) p.op refl (one_named p.next.address first refl) _
  children_pair (syscall {a = a}) p out comes =
      let first = front_is (tree_digest constants a) zero_word x p.whole.size p.hash in
      names_one x y u d.next (tree_digest constants a) p.op refl (one_named p.next.address first refl) _
  children_pair (dyn {c = c} {targets = targets} {a = a} found) p out comes =
      let word = word_shown c x p.here.cells ∙ sym (first_digest constants targets (called_word c) a found) in
      names_one x y u d.next (tree_digest constants a) p.op refl (one_named p.next.address word refl) _
  children_pair (repeats {a = a} bit) p out comes =
      let first = front_is (tree_digest constants a) zero_word x p.whole.size p.hash in
      names_one x y u (address_of d.blocks) (tree_digest constants a) p.op refl (one_named p.here.address first refl) _
  children_pair (span read) p out comes = names_none x y u p.op refl refl _
  children_pair (respan read) p out comes = names_none x y u p.op refl refl _
  children_pair (operation {c = c} {item = item} {items = items} {later = more} {digest = digest}) p out comes =
      let same = names_none x y u p.op (no_block item.op p.whole.ordinary).end (ordinary_names item.op x y p.whole.ordinary)
      (owed_children constants (Within items more digest ∷ todo) d.blocks u) in
      let kept = ap (λ (z : Decoder). owed_children constants (Within items more digest ∷ todo) z.blocks u)
      (ordinary_advance d (shown_between (Do item) advice c b) events p.whole.ordinary) in
      omega (arith, same, kept)
  children_pair (span_ends {digest = digest}) p out comes =
      ends x y u p.op p.next.address (front_is digest (0 ∷ 1 ∷ 0 ∷ 0 ∷ []) x p.whole.size p.hash)
      (starts_is constants todo after (flags.op_of y) out comes) _
  children_pair (loop_ends {a = a} bit) p out comes =
      ends x y u p.op p.next.address (front_is (tree_digest constants (Loop a)) (1 ∷ 0 ∷ 0 ∷ 0 ∷ []) x p.whole.size p.hash)
      (starts_is constants todo after (flags.op_of y) out comes) _
  children_pair (closes {digest = digest}) p out comes =
      ends x y u p.op p.next.address (front_is digest zero_word x p.whole.size p.hash)
      (starts_is constants todo after (flags.op_of y) out comes) _
  children_pair (returns {digest = digest}) p out comes =
      ends x y u p.op p.next.address (front_is digest (0 ∷ 0 ∷ 1 ∷ 0 ∷ []) x p.whole.0.size p.hash)
      (starts_is constants todo after (flags.op_of y) out comes) _
  children_pair (leaves {digest = digest}) p out comes =
      ends x y u p.op p.next.address (front_is digest (0 ∷ 0 ∷ 0 ∷ 1 ∷ []) x p.whole.0.size p.hash)
      (starts_is constants todo after (flags.op_of y) out comes) _
