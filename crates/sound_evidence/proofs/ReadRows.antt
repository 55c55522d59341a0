-- What the walk needs of a row to read it.
use Rattle.sound_evidence.proofs.Words.{◌≡◌, ◌⊎◌, ℕ, ◌^◌, ◌<◌, ◌≤◌, true, false, List, length, Some, sym, ap, ◌∙◌, inl, inr, subst, arith, input_of_batches}
use Rattle.sound_evidence.proofs.Words.{constants_of, is_op, HasBits, computation_at, Public, Trace, row_at, op_in, never, Closes, own, op_named}
use Rattle.sound_evidence.proofs.Words.{true_or_false, CountsAreReadable, IsWalkable}
use Rattle.vm_field.specs.Sponge.{HashInput}
use Rattle.vm_ops.specs.declared.op.Op.TheVariants as ops
use Rattle.air_kit.specs.declared.trace.TableName.TheVariants as table
use Rattle.sound_blocks.specs.Spans.{AreBatches, IsHashedAt}
use Rattle.tree_merge.specs.FirstBlocks.{HasBlock, HasFirst}
use Rattle.tree_merge.proofs.FirstBlockLemmas.{stands}

pub bits_at : (p : Public) (t : Trace) → IsWalkable p t → (i : ℕ) → i < length t.main → HasBits (row_at t.main i)
bits_at p t readable i within = (readable.facts.shows.row_is i within).reads.has.bits

within_table : (hasher : List (List ℕ)) (address : ℕ) (input : HashInput) → HasFirst input.blocks
    → computation_at hasher address ≡ Some input → length hasher ≤ 2 ^ 22 → address < 2 ^ 32
within_table hasher address input first is few =
    let there = stands hasher address (subst HasBlock (sym is) first) in
    let some = there.some in
    let within = there.within in
    omega (arith, some, within, few)

has_first : (rows : List (List ℕ)) (i e : ℕ) (batches : List (List ℕ)) → AreBatches rows i e batches → HasFirst batches
has_first rows i e batches (AreBatches.last q p batch ends) = tt
has_first rows i e batches (AreBatches.more q r p later batch respan rest) = tt

-- a block's address is that of a row of the hasher's table
pub own_small : (p : Public) (t : Trace) → IsWalkable p t → (j e : ℕ) → Closes t.main j e → own t.main j < 2 ^ 32
own_small p t readable j e closes = by_op (true_or_false (is_op (op_in t.main j) ops.Span))
  where
    of_span : (f : ℕ) × (batches : List (List ℕ)) × AreBatches t.main j f batches × Closes t.main j f
        × IsHashedAt (constants_of p.params) t.hasher t.main j f (input_of_batches batches) → own t.main j < 2 ^ 32
    of_span (f, batches, are, closed, hashed) =
        within_table t.hasher (own t.main j) (input_of_batches batches) (has_first t.main j f batches are) hashed.computation readable.hashes

    by_op : (is_op (op_in t.main j) ops.Span ≡ true) ⊎ (is_op (op_in t.main j) ops.Span ≡ false) → own t.main j < 2 ^ 32
    by_op (inl is) =
        of_span (readable.facts.spans.span j
        (record { within = closes.starts.within; is = op_named (op_in t.main j) ops.Span is }))
    by_op (inr differs) =
        let hashed = readable.facts.spans.block j e closes (λ is. never (sym (ap (λ o. is_op o ops.Span) is) ∙ differs)) in
        within_table t.hasher (own t.main j) _ tt hashed.computation readable.hashes

pub counts_readable : CountsAreReadable
counts_readable p t counts facts = record { facts = facts; rows = (counts table.Main).most; hashes = (counts table.Hasher).most }
