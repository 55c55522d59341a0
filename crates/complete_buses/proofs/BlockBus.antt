-- The bus of blocks is even: a start gives its block, and its END asks it.
use Rattle.complete_rows.proofs.Words
use Words.{◌≡◌, ℕ, ◌+◌, ◌≤◌, List, [], ◌∷◌, ◌++◌, length, drop, refl, ap, ◌∙◌, arith, lit<, length-drop, length-append, Core, counted, Mark, Do, Task}
use Words.{Block, Within, Turned, Closing, Returning, Leaving, Next, loop_1, loop_0, call, syscall, operation, respan, span_ends, repeats, loop_ends, closes}
use Words.{returns, leaves, Loop, tree_digest, blocks_asked, blocks_given, no_frame, shown_between, Event, Agrees, Decoder, Open, address_of, advance}
use Words.{hidden_of}
use Rattle.complete_rows.proofs.AgreeLemmas.{end_keys, ordinary_advance}
use Rattle.complete_rows.proofs.BlockLemmas.{no_block}
use Rattle.complete_buses.proofs.BlockTuples.{block_tuple, ends, frame_is, none_asked, none_given, saved, starts}
use Rattle.complete_buses.proofs.Hits.{hit, stays_owed}
use Rattle.complete_buses.proofs.PairShown.{Pair}

-- the newest block that is open, of this kind
abbrev newest : ℕ → List ℕ → List Open → List ℕ
newest kind frame blocks = block_tuple (address_of blocks) (address_of (drop 1 blocks)) kind frame

-- what is given and not yet asked: each block that is open
unfoldable pub owed_blocks : List Task → List Open → List ℕ → ℕ
owed_blocks [] blocks u = 0
owed_blocks (Block tree ∷ todo) blocks u = owed_blocks todo blocks u
owed_blocks (Within items later digest ∷ todo) blocks u = hit (newest 2 no_frame blocks) u + owed_blocks todo (drop 1 blocks) u
owed_blocks (Turned body ∷ todo) blocks u = hit (newest 1 no_frame blocks) u + owed_blocks todo (drop 1 blocks) u
owed_blocks (Closing digest ∷ todo) blocks u = hit (newest 0 no_frame blocks) u + owed_blocks todo (drop 1 blocks) u
owed_blocks (Returning digest frame ∷ todo) blocks u =
    hit (newest 3 (saved frame (hidden_of blocks)) blocks) u + owed_blocks todo (drop 1 blocks) u
owed_blocks (Leaving digest frame ∷ todo) blocks u =
    hit (newest 4 (saved frame (hidden_of blocks)) blocks) u + owed_blocks todo (drop 1 blocks) u

all_cells : (stack : List ℕ) (keys : ℕ) → keys + 16 ≡ length stack → length stack ≡ length (drop 16 stack) + 16
all_cells stack keys is = omega (arith, is, length-drop 16 stack)

cells_back : (stack hidden : List ℕ) (keys : ℕ) → keys + 16 ≡ length stack → length stack ≤ 16 → length (stack ++ hidden) ≡ length hidden + 16
cells_back stack hidden keys is few = omega (arith, is, few, length-append stack hidden)

module _ {constants : List ℕ} {kernel : List (List ℕ)} {advice : List ℕ} {b : Core} {d : Decoder} {events : List Event} {todo : List Task}
    {x y : List ℕ} (u : List ℕ) where
  pub blocks_pair : {task : Task} {c : Core} {mark : Mark} {rest : List Task} → Next constants task c mark rest
      → Pair constants kernel mark advice c b d events x y → Agrees (task ∷ todo) d c
      → counted (blocks_given x y) u + owed_blocks (task ∷ todo) d.blocks u
      ≡ counted (blocks_asked x y) u + owed_blocks (rest ++ todo) (advance d (shown_between mark advice c b) events).blocks u
  unfolding owed_blocks
  blocks_pair (loop_1 bit) p agrees =
      starts x y u p.op refl refl p.next.address p.here.address (p.here.cells 0 (lit< tt) ∙ bit) refl _
  blocks_pair (loop_0 bit) p agrees =
      starts x y u p.op refl refl p.next.address p.here.address (p.here.cells 0 (lit< tt) ∙ bit) refl _
  blocks_pair (call {c = c}) p agrees =
      starts x y u p.op refl refl p.next.address p.here.address refl
      (frame_is p.here refl (drop 16 c.stack) (all_cells c.stack (length d.keys) agrees.keyed)) _
  blocks_pair (syscall {c = c}) p agrees =
      starts x y u p.op refl refl p.next.address p.here.address refl
      (frame_is p.here refl (drop 16 c.stack) (all_cells c.stack (length d.keys) agrees.keyed)) _
  blocks_pair (repeats bit) p agrees = stays_owed (none_given x y u p.op refl) (none_asked x y u p.op refl) _
  blocks_pair (respan read) p agrees = stays_owed (none_given x y u p.op refl) (none_asked x y u p.op refl) _
  blocks_pair (operation {c = c} {item = item} {items = items} {later = more} {digest = digest}) p agrees =
      let apart = no_block item.op p.whole.ordinary in
      let kept = ap (λ (z : Decoder). owed_blocks (Within items more digest ∷ todo) z.blocks u)
      (ordinary_advance d (shown_between (Do item) advice c b) events p.whole.ordinary) in
      omega (arith, none_given x y u p.op apart.start, none_asked x y u p.op apart.end, kept)
  blocks_pair (span_ends {digest = digest}) p agrees = ends x y u digest 0 1 0 0 p.op p.whole.size p.hash p.here.address p.next.address refl _
  blocks_pair (loop_ends {a = a} bit) p agrees =
      ends x y u (tree_digest constants (Loop a)) 1 0 0 0 p.op p.whole.size p.hash p.here.address p.next.address refl _
  blocks_pair (closes {digest = digest}) p agrees = ends x y u digest 0 0 0 0 p.op p.whole.size p.hash p.here.address p.next.address refl _
  blocks_pair (returns {c = c} {digest = digest} {frame = frame}) p agrees =
      ends x y u digest 0 0 1 0 p.op p.whole.0.size p.hash p.here.address p.next.address
      (frame_is p.next (end_keys digest 0 0 1 0 d p.whole.0.size) frame.hidden
      (cells_back c.stack frame.hidden (length d.keys) agrees.keyed p.allowed)) _
  blocks_pair (leaves {c = c} {digest = digest} {frame = frame}) p agrees =
      ends x y u digest 0 0 0 1 p.op p.whole.0.size p.hash p.here.address p.next.address
      (frame_is p.next (end_keys digest 0 0 0 1 d p.whole.0.size) frame.hidden
      (cells_back c.stack frame.hidden (length d.keys) agrees.keyed p.allowed)) _
  blocks_pair next p agrees = starts x y u p.op refl refl p.next.address p.here.address refl refl _
