use Rattle.masm_tables.proofs.Words.{◌≡◌, ℕ, ◌≤◌, ◌<◌, length, Some, unwrap_or, refl, sym, ap, ◌∙◌, arith, rules, slice_get_read, option_map, size_at}
use Rattle.masm_tables.proofs.Words.{extent_of, size_view, nothing, Position, Proc, procedure_of, position_of, ExceedsLimit}
use Rattle.masm_names.specs.declared.refusal.LinkCause.{LinkCause}
use Rattle.masm_names.proofs.LeastLemmas.{Among-more, Among-end}
use Rattle.masm_tables.proofs.Over.{over_same}
use Rattle.masm_tables.proofs.limits.first_too_large.Goals as goal

pub loop-place-preserved : goal.loop-place-preserved
loop-place-preserved c =
    let i = c.loop-place.place in
    let sizes = c.args.sizes.now in
    let size = c.index-sizes-place.result in
    let f : ℕ → Proc → Position → LinkCause → Type 0 = λ place p. ExceedsLimit (position_of (procedure_of p)) (extent_of (size_at sizes (Some place))) in
    let within : i < length sizes = let t = c.loop-place-test.true in let count = c.requires in omega arith in
    let there : size_at sizes (Some i) ≡ size_view size = ap (λ o. unwrap_or (option_map size_view o) nothing) (slice_get_read sizes
    (length sizes) i size refl within c.index-sizes-place.is) in
    let extent = c.extent_of-extent.ensures ∙ ap extent_of (c.part.ensures ∙ sym there) in
    rw c.earlier-first.ensures (Among-more f c.args.procs.now i c.index-procs-place.result c.loop-place.first c.too_large.result
    c.loop-place-test.true
    c.index-procs-place.is c.loop-place.invariant (over_same _ _ _ _ c.too_large.result c.at.ensures extent c.too_large.ensures))

pub returns : goal.returns
returns c =
    let procs = c.args.procs.now in
    let f : ℕ → Proc → Position → LinkCause → Type 0 =
    λ place p. ExceedsLimit (position_of (procedure_of p)) (extent_of (size_at c.args.sizes.now (Some place))) in
    let ended : length procs ≤ c.loop-place.place = search rules in
    Among-end f procs _ c.loop-place.first ended c.loop-place.invariant
