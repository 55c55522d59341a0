use Rattle.std.proofs.Common.{◌≡◌, Bool, true, false, not, refl, sym, ap, true≢false, ◌∙◌}
use lib.Pointwise.{pointwise_decides, bytes_decides}
use Rattle.tree_merge.proofs.RootLemmas.{span-merged, spans-differ}
use Rattle.tree_merge.proofs.merging.span.Goals as goal

is-true : (b : Bool) → not b ≡ false → b ≡ true
is-true true e = refl
is-true false e = sym e

pub pair-requires : goal.pair-requires
pair-requires g c = spans-differ _ _ c.args.p c.args.q c.args.a c.args.b c.requires
    (λ e. true≢false (sym c.if-ne.true ∙ c.ne.ensures ∙ ap not
    ((pointwise_decides bytes_decides _ _).1 (c.as_slice.ensures.items ∙ e ∙ sym c.as_slice-2.ensures.items))))

pub returns-clause-ok : goal.returns-clause-ok
returns-clause-ok g c = span-merged _ _ c.args.p c.args.q c.args.a c.args.b c.requires
    (sym c.as_slice.ensures.items ∙ (pointwise_decides bytes_decides _ _).0 (is-true _ (sym c.ne.ensures ∙ c.if-ne.false))
    ∙ c.as_slice-2.ensures.items)
