-- The tuples of blocks that a row gives and asks, by its operation.
use Rattle.complete_rows.proofs.Words
use Words.{◌≡◌, ℕ, ◌+◌, ◌<◌, ◌==◌, true, false, cond, List, [], ◌∷◌, ◌++◌, length, slice_index, refl, ap, ◌∙◌, lit<, arith, Core, ◌⊞◌, ◌⊠◌, counted}
use Words.{counted-none, is_start_op, Op, bit_of, addr, h, key_of, blocks_asked, blocks_given, is_call_op, no_frame, Decoder, Shows}
use Words.ops
use Words.flags
use Words.tuples
use Rattle.block_tree.specs.Cycles.{Frame}
use Rattle.air_kit.specs.MainTuples.{kind_of_start}
use Rattle.complete_rows.proofs.BlockLemmas.{behind_digest}
use Rattle.complete_buses.proofs.Hits.{hit, one_count}

-- the tuple of a block
abbrev pub block_tuple : ℕ → ℕ → ℕ → List ℕ → List ℕ
block_tuple own parent kind frame = own ∷ parent ∷ kind ∷ frame

-- what an END brings back, with the keys of the cells that the call hides
abbrev pub saved : Frame → List ℕ → List ℕ
saved frame keys =
    frame.context ∷ frame.fmp ∷ bit_of frame.in_syscall ∷ (length frame.hidden + 16) ∷ key_of keys
    ∷ slice_index frame.digest 0 ∷ slice_index frame.digest 1 ∷ slice_index frame.digest 2 ∷ slice_index frame.digest 3 ∷ []

-- a row shows its frame, where so many cells stand below the sixteenth
pub frame_is : {op : Op} {d : Decoder} {c : Core} {x keys : List ℕ} → Shows op d c x → d.keys ≡ keys → (hidden : List ℕ)
    → length c.stack ≡ length hidden + 16
    → tuples.frame_cells x
    ≡ saved (record { context = c.context; fmp = c.fmp; in_syscall = c.in_syscall; digest = c.digest; hidden = hidden }) keys
frame_is sx newest hidden deep = rw (
  sx.context,
  sx.frame,
  sx.syscall,
  sx.deep ∙ deep,
  sx.key_is ∙ ap key_of newest,
  sx.digest 0 (lit< tt),
  sx.digest 1 (lit< tt),
  sx.digest 2 (lit< tt),
  sx.digest 3 (lit< tt),
) refl

module _ (x y u : List ℕ) where
  pub none_given : {op : Op} → flags.op_of x ≡ op → is_start_op op ≡ false → counted (blocks_given x y) u ≡ 0
  unfolding blocks_given
  none_given is no_start = rw (is, no_start) (counted-none u)

  pub none_asked : {op : Op} → flags.op_of x ≡ op → flags.is_op op ops.End ≡ false → counted (blocks_asked x y) u ≡ 0
  unfolding blocks_asked
  none_asked is no_end = rw (is, no_end) (counted-none u)

  -- a start gives its block, and an END asks it; so much is owed beside it
  pub starts : {op : Op} {own parent kind : ℕ} {frame : List ℕ} → flags.op_of x ≡ op → is_start_op op ≡ true → flags.is_op op ops.End ≡ false
      → addr y ≡ own → addr x ≡ parent → kind_of_start op x ≡ kind → cond (is_call_op op) (tuples.frame_cells x) no_frame ≡ frame → (owed : ℕ)
      → counted (blocks_given x y) u + owed ≡ counted (blocks_asked x y) u + (hit (block_tuple own parent kind frame) u + owed)
  unfolding blocks_given
  starts {own = own} {parent = parent} {kind = kind} {frame = frame} is start no_end at around kind_is frame_set owed =
      let given : counted (blocks_given x y) u ≡ hit (block_tuple own parent kind frame) u
      = rw (is, start, at, around, kind_is, frame_set) (one_count (block_tuple own parent kind frame) u) in
      omega (arith, given, none_asked is no_end)

  pub ends : (digest : List ℕ) (i j k l : ℕ) {own parent : ℕ} {frame : List ℕ} → flags.op_of x ≡ ops.End → length digest ≡ 4
      → ((n : ℕ) → n < 8 → h x n ≡ slice_index (digest ++ i ∷ j ∷ k ∷ l ∷ []) n)
      → addr x ≡ own → addr y ≡ parent → cond (k ⊞ l == 1) (tuples.frame_cells y) no_frame ≡ frame → (owed : ℕ)
      → counted (blocks_given x y) u + (hit (block_tuple own parent (i ⊞ 2 ⊠ j ⊞ 3 ⊠ k ⊞ 4 ⊠ l) frame) u + owed)
      ≡ counted (blocks_asked x y) u + owed
  unfolding blocks_asked
  ends digest i j k l {own = own} {parent = parent} {frame = frame} is size hash at around back owed =
      let z = behind_digest digest i j k l x size hash in
      let asked : counted (blocks_asked x y) u ≡ hit (block_tuple own parent (i ⊞ 2 ⊠ j ⊞ 3 ⊠ k ⊞ 4 ⊠ l) frame) u
      = rw (is, z.0, z.1, z.2, z.3, at, around, back) (one_count (block_tuple own parent (i ⊞ 2 ⊠ j ⊞ 3 ⊠ k ⊞ 4 ⊠ l) frame) u) in
      omega (arith, none_given is refl, asked)
