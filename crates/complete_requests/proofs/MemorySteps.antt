-- What a cycle does to memory is what its access says.
use Rattle.complete_rows.proofs.Words
use Words.{◌≡◌, ℕ, ◌≤◌, true, List, [], ◌∷◌, drop, slice_index, None, unwrap_or, refl, sym, ap, ◌∙◌, arith, lit<, get_or-take, Core, State, WordMap, word_at}
use Words.{accesses_memory, memory_with, seen_at, Seen, written, Op, Mark, Do, top, op_of_mark, IsCycle, Access, Event, event_at, accesses_by}
use Words.ops
use Rattle.std.proofs.Common.{lit≤}
use Rattle.complete_rows.proofs.MomentFacts.{core_after}
use Rattle.complete_requests.proofs.AccessWords.{event_word, memory_behind, word_elsewhere, word_here}
use Rattle.complete_requests.proofs.MemoryWords.{IsAt}

-- an access at a state, with this memory behind it
pub record IsStep (c : Core) (after : WordMap) (a : Access) : Type 0 where
  pub kind : a.kind ≤ 2
  pub clk : a.clk ≡ c.clock
  pub here : word_at after a.ctx a.addr ≡ a.word
  pub elsewhere : (context address : ℕ) → (IsAt a context address → ⊥) → word_at after context address ≡ word_at c.memory context address
  pub reads : a.kind ≡ 0 → a.word ≡ word_at c.memory a.ctx a.addr
  pub keeps : a.kind ≡ 2 → drop 1 a.word ≡ drop 1 (word_at c.memory a.ctx a.addr)

-- a cycle has one access at most
pub data Leaves (c : Core) (after : WordMap) : List Access → Type 0 where
  nothing : after ≡ c.memory → Leaves c after []
  one : {a : Access} → IsStep c after a → Leaves c after (a ∷ [])

-- an operation between a state and a memory
record Around (op : Op) (sn : Seen) (c : Core) (e : Event) (after : WordMap) : Type 0 where
  clock : e.before.clock ≡ c.clock
  context : e.before.context ≡ c.context
  address : slice_index e.before.cells 0 ≡ top c
  seen : sn.word ≡ word_at c.memory c.context (top c)
  memory : after ≡ memory_with c.memory c.context (top c) (written op sn)
  word : accesses_memory op ≡ true → e.word ≡ unwrap_or (written op sn) sn.word

abbrev accessed : ℕ → Event → Access
accessed kind e = record { kind = kind; ctx = e.before.context; addr = slice_index e.before.cells 0; clk = e.before.clock; word = e.word }

module _ {sn : Seen} {c : Core} {e : Event} {after : WordMap} where
  access_step : {op : Op} (kind : ℕ) → Around op sn c e after → accesses_memory op ≡ true → kind ≤ 2 → (kind ≡ 0 → written op sn ≡ None)
      → (kind ≡ 2 → drop 1 (unwrap_or (written op sn) sn.word) ≡ drop 1 sn.word) → IsStep c after (accessed kind e)
  access_step {op = op} kind around is few reads keeps =
      let word : e.word ≡ unwrap_or (written op sn) sn.word = around.word is in
      let before : word_at c.memory e.before.context (slice_index e.before.cells 0) ≡ sn.word
      = rw (around.context, around.address) (sym around.seen) in
      record {
        kind = few;
        clk = around.clock;
        here = rw (around.context, around.address, around.memory) (word_here c.memory c.context (top c) (written op sn))
            ∙ ap (unwrap_or (written op sn)) (sym around.seen) ∙ sym word;
        elsewhere = λ context address away.
            ap (λ memory. word_at memory context address) around.memory
            ∙ word_elsewhere c.memory c.context (top c) (written op sn) context address
            (λ same. away (around.context ∙ sym (ap (λ (p : ℕ × ℕ). p.0) same), around.address ∙ sym (ap (λ (p : ℕ × ℕ). p.1) same)));
        reads = λ k. word ∙ ap (λ o. unwrap_or o sn.word) (reads k) ∙ sym before;
        keeps = λ k. ap (drop 1) word ∙ keeps k ∙ ap (drop 1) (sym before);
      }

  op_leaves : (op : Op) → Around op sn c e after → Leaves c after (accesses_by op e)
  op_leaves ops.MLoad around = one (access_step 0 around refl (lit≤ tt) (λ k. refl) (λ k. refl))
  op_leaves ops.MLoadW around = one (access_step 0 around refl (lit≤ tt) (λ k. refl) (λ k. refl))
  op_leaves ops.MStore around = one (access_step 2 around refl (lit≤ tt) (λ k. absurd (omega (arith, k))) (λ k. refl))
  op_leaves ops.MStoreW around =
      one (access_step 1 around refl (lit≤ tt) (λ k. absurd (omega (arith, k))) (λ k. absurd (omega (arith, k))))
  op_leaves op around = nothing around.memory

module _ {constants : List ℕ} {kernel : List (List ℕ)} {limit : ℕ} where
  pub mark_leaves : (mark : Mark) (s t : State) → IsCycle constants kernel limit mark s t
      → Leaves s.core t.core.memory (accesses_by (op_of_mark mark) (event_at constants kernel mark s))
  mark_leaves (Do item) s t cycle =
      op_leaves {sn = seen_at constants item s} item.op (record {
        clock = refl;
        context = refl;
        address = get_or-take 16 s.core.stack 0 0 (lit< tt);
        seen = refl;
        memory = memory_behind cycle;
        word = event_word cycle;
      })
  mark_leaves mark s t cycle = nothing (ap (λ c. c.memory) (core_after cycle))
