-- The bus of loops is even: a loop gives its tuple once for each turn that is still to come.
use Rattle.complete_rows.proofs.Words
use Words.{◌≡◌, ℕ, ◌+◌, List, [], ◌∷◌, ◌++◌, drop, slice_index, refl, ap, ◌∙◌, arith, Core, zero_word, counted, w, Mark, Do, op_of_mark, Task, Block, Within}
use Words.{Turned, Closing, Next, loop_1, loop_0, operation, loop_ends, Loop, tree_digest, loops_asked, loops_given, shown_between, Event}
use Words.{Decoder, Open, address_of, advance, kind_of, repeats_by}
use Words.kinds
use Rattle.block_tree.specs.Steps as steps
use Rattle.complete_rows.specs.Turns.{repeats}
use Rattle.complete_rows.proofs.AgreeLemmas.{kind_is, ordinary_advance}
use Rattle.complete_rows.proofs.BlockLemmas.{no_block}
use Rattle.complete_buses.proofs.Hits.{stays_owed}
use Rattle.complete_buses.proofs.LoopTuples.{loop_gives, no_times, none_asked, none_given, once_more, times, turn_asks}
use Rattle.complete_buses.proofs.PairShown.{Pair, front_is}

module _ (constants : List ℕ) where
  -- what is given and not yet asked, where each open block has so many turns to come
  unfoldable pub owed_loops : List Task → List Open → List ℕ → List ℕ → ℕ
  owed_loops [] blocks turns u = 0
  owed_loops (Block tree ∷ todo) blocks turns u = owed_loops todo blocks turns u
  owed_loops (Turned body ∷ todo) blocks turns u =
      times (address_of blocks ∷ tree_digest constants body) (slice_index turns 0) u + owed_loops todo (drop 1 blocks) (drop 1 turns) u
  owed_loops (task ∷ todo) blocks turns u = owed_loops todo (drop 1 blocks) (drop 1 turns) u

module _ {constants : List ℕ} {kernel : List (List ℕ)} {advice : List ℕ} {b : Core} {d : Decoder} {events : List Event} {x y : List ℕ}
    (todo : List Task) (u : List ℕ) where
  pub loops_pair : {task : Task} {c : Core} {mark : Mark} {rest : List Task} → Next constants task c mark rest
      → Pair constants kernel mark advice c b d events x y
      → (kind_of (op_of_mark mark) ≡ kinds.Loop → w x 0 ≡ slice_index (repeats events) 0)
      → ((digest : List ℕ) → rest ++ todo ≡ Closing digest ∷ todo → slice_index (repeats events) 0 ≡ 0)
      → counted (loops_given x y) u + owed_loops constants (task ∷ todo) d.blocks (repeats (shown_between mark advice c b ∷ events)) u
      ≡ counted (loops_asked x y) u
      + owed_loops constants (rest ++ todo) (advance d (shown_between mark advice c b) events).blocks (repeats events) u
  unfolding owed_loops repeats
  loops_pair (loop_1 {a = a} bit) p often none =
      let word = front_is (tree_digest constants a) zero_word x p.whole.size p.hash in
      omega (arith, loop_gives x y u p.op p.next.address word (often refl), none_asked x y u p.op refl)
  loops_pair (loop_0 {a = a} bit) p often none =
      let word = front_is (tree_digest constants a) zero_word x p.whole.size p.hash in
      let given = loop_gives x y u p.op p.next.address word (often refl ∙ none (tree_digest constants (Loop a)) refl) in
      omega (arith, given, none_asked x y u p.op refl, no_times (d.next ∷ tree_digest constants a) u)
  loops_pair (steps.repeats {a = a} bit) p often none =
      let word = front_is (tree_digest constants a) zero_word x p.whole.size p.hash in
      let asked = turn_asks x y u p.op p.here.address word in
      let more = once_more (address_of d.blocks ∷ tree_digest constants a) (slice_index (repeats events) 0) u in
      omega (arith, none_given x y u p.op refl, asked, more)
  loops_pair (operation {c = c} {item = item} {items = items} {later = more} {digest = digest}) p often none =
      let apart = no_block item.op p.whole.ordinary in
      let kept = ap (λ (z : Decoder). owed_loops constants (Within items more digest ∷ todo) z.blocks (repeats events) u)
      (ordinary_advance d (shown_between (Do item) advice c b) events p.whole.ordinary) in
      let turns = ap (λ k. owed_loops constants (Within items more digest ∷ todo) d.blocks (repeats_by k (repeats events)) u)
      (kind_is item.op p.whole.ordinary) in
      omega (arith, none_given x y u p.op apart.loop, none_asked x y u p.op apart.again, kept, turns)
  loops_pair (loop_ends {a = a} bit) p often none =
      let nothing = no_times (address_of d.blocks ∷ tree_digest constants a) u in
      omega (arith, none_given x y u p.op refl, none_asked x y u p.op refl, nothing)
  loops_pair next p often none = stays_owed (none_given x y u p.op refl) (none_asked x y u p.op refl) _
