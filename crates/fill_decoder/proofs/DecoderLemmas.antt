-- The decoder behind an event, and its newest block.
use Rattle.std.proofs.Common.{◌≡◌, ℕ, ◌+◌, List, [], ◌∷◌, Option, None, Some, length, slice_get, refl, ap, ◌∙◌, add-one}
use Rattle.machine_cycles.specs.declared.event.Event.{Event}
use Rattle.complete_rows.specs.Decoder as rows
use Rattle.complete_rows.specs.Decoder.{address_of, advance, advance_by, hidden_of, opened}
use Rattle.complete_rows.specs.Groups.{batch_begun}
use Rattle.vm_ops.specs.declared.kind.Kind.TheVariants as kinds
use Rattle.vm_ops.specs.declared.kind.Kind.{Kind}
use Rattle.vm_ops.specs.Codes.{kind_of}
use Rattle.complete_rows.specs.Turns.{respans}
use Rattle.fill_decoder.specs.Views.{advance_as}

as_known : (kind : Kind) (d : rows.Decoder) (e : Event) (batches : ℕ) (later : List Event)
    → (kind ≡ kinds.Span → batches ≡ length (respans later)) → advance_as kind d e batches ≡ advance_by kind d e later
as_known kinds.Ordinary d e batches later known = refl
as_known kinds.Join d e batches later known = refl
as_known kinds.Split d e batches later known = refl
as_known kinds.Loop d e batches later known = refl
as_known kinds.Span d e batches later known =
    ap (λ (n : ℕ). record (opened n d) { ha = d.next; unread = batch_begun e.hash })
    (ap (λ (n : ℕ). n + 1) (known refl) ∙ add-one (length (respans later)))
as_known kinds.Call d e batches later known = refl
as_known kinds.Syscall d e batches later known = refl
as_known kinds.Dyn d e batches later known = refl
as_known kinds.End d e batches later known = refl
as_known kinds.Repeat d e batches later known = refl
as_known kinds.Respan d e batches later known = refl
as_known kinds.Halt d e batches later known = refl

pub known : (e : Event) (kind : Kind) (d : rows.Decoder) (batches : ℕ) (later : List Event)
    → kind ≡ kind_of e.op → (kind_of e.op ≡ kinds.Span → batches ≡ length (respans later)) → advance_as kind d e batches ≡ advance d e later
known e kind d batches later is counted =
    ap (λ (k : Kind). advance_as k d e batches) is ∙ as_known (kind_of e.op) d e batches later counted

address_in : Option rows.Open → ℕ
address_in None = 0
address_in (Some block) = block.address

hidden_in : Option rows.Open → List ℕ
hidden_in None = []
hidden_in (Some block) = block.hidden

first_address : (blocks : List rows.Open) → address_of blocks ≡ address_in (slice_get blocks 0)
unfolding address_in
first_address [] = refl
first_address (block ∷ blocks) = refl

first_hidden : (blocks : List rows.Open) → hidden_of blocks ≡ hidden_in (slice_get blocks 0)
unfolding hidden_in
first_hidden [] = refl
first_hidden (block ∷ blocks) = refl

pub newest_address : (blocks : List rows.Open) (block : rows.Open) → slice_get blocks 0 ≡ Some block → address_of blocks ≡ block.address
unfolding address_in
newest_address blocks block is = first_address blocks ∙ ap address_in is

pub no_address : (blocks : List rows.Open) → slice_get blocks 0 ≡ None → address_of blocks ≡ 0
unfolding address_in
no_address blocks is = first_address blocks ∙ ap address_in is

pub newest_hidden : (blocks : List rows.Open) (block : rows.Open) → slice_get blocks 0 ≡ Some block → hidden_of blocks ≡ block.hidden
unfolding hidden_in
newest_hidden blocks block is = first_hidden blocks ∙ ap hidden_in is

pub no_hidden : (blocks : List rows.Open) → slice_get blocks 0 ≡ None → hidden_of blocks ≡ []
unfolding hidden_in
no_hidden blocks is = first_hidden blocks ∙ ap hidden_in is
