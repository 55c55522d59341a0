-- The rows of a span: its batches, each with the rows of its items, and its END.
use Rattle.std.specs.Prelude.{◌≡◌, ◌≢◌, ℕ, suc, List, [], ◌∷◌, length, Some}
use Rattle.vm_field.specs.Limits.{number_of_constants}
use Rattle.vm_field.specs.Sponge.{HashInput, digest_of_input}
use Rattle.vm_ops.specs.declared.item.Item.{Item}
use Rattle.vm_ops.specs.declared.op.Op.TheVariants as ops
use Rattle.vm_table.specs.MainColumns.{addr, ha}
use Rattle.rpo_hash.specs.Constants.{constants_of}
use Rattle.op_pack.specs.Reading.{reading}
use Rattle.block_tree.specs.Trees.{input_of_batches}
use Rattle.air_kit.specs.Hashes.{computation_at}
use Rattle.air_kit.specs.MainTuples.{domain_of, eight, front}
use Rattle.air_kit.specs.declared.trace.Public.{Public}
use Rattle.air_kit.specs.declared.trace.Trace.{Trace}
use Rattle.vm_table.specs.Layout.{row_at}
use Rattle.facts_main.specs.MainRows.{op_in}
use Rattle.sound_buses.specs.Batches.{Begins, batch_at}
use Rattle.sound_buses.specs.Blocks.{IsAt, Closes, own}
use Rattle.sound_buses.specs.BusFacts.{Granted}
use Rattle.sound_blocks.specs.Items.{AreItems}

-- the rows behind row i are those of the batch that begins there, up to row e
pub record HasBatchRows (rows : List (List ℕ)) (i e : ℕ) : Type 0 where
  pub begins : Begins rows i
  pub items : List Item
  pub reads : reading (eight (row_at rows i)) ≡ Some items
  pub are : AreItems rows (suc i) e items
  pub inside : addr (row_at rows e) ≡ addr (row_at rows (suc i))
  pub hashed : ha (row_at rows e) ≡ batch_at rows i

-- the rows from row i, which begins a batch, to row e: these batches, one behind the other, and the END of their span
pub data AreBatches (rows : List (List ℕ)) : ℕ → ℕ → List (List ℕ) → Type 0 where
  last : (i e : ℕ) → HasBatchRows rows i e → IsAt rows e ops.End → AreBatches rows i e (eight (row_at rows i) ∷ [])
  more : (i r e : ℕ) (batches : List (List ℕ)) → HasBatchRows rows i r → IsAt rows r ops.Respan → AreBatches rows r e batches
      → AreBatches rows i e (eight (row_at rows i) ∷ batches)

-- The block that starts in row j and ends in row e is hashed in the file: at its address this hash input is computed, and its END has the
-- digest.
pub record IsHashedAt (constants : List ℕ) (hasher rows : List (List ℕ)) (j e : ℕ) (input : HashInput) : Type 0 where
  pub computation : computation_at hasher (own rows j) ≡ Some input
  pub digest : front (row_at rows e) ≡ digest_of_input constants input

-- Each SPAN begins batches that its rows read, up to its END, and they are hashed at its address. Each other block is hashed in one
-- permutation.
pub record SpanFacts (constants : List ℕ) (hasher rows : List (List ℕ)) : Type 0 where
  pub span : (j : ℕ) → IsAt rows j ops.Span
      → (e : ℕ) × (batches : List (List ℕ)) × AreBatches rows j e batches × Closes rows j e
      × IsHashedAt constants hasher rows j e (input_of_batches batches)
  pub block : (j e : ℕ) → Closes rows j e → op_in rows j ≢ ops.Span
      → IsHashedAt constants hasher rows j e (record { domain = domain_of (op_in rows j); blocks = eight (row_at rows j) ∷ [] })

abbrev pub GrantedSpans : Type 0
GrantedSpans = (p : Public) (t : Trace) → length (constants_of p.params) ≡ number_of_constants → Granted p t → SpanFacts (constants_of p.params) t.hasher t.main
