use Rattle.std.proofs.Common.{◌∙◌, sym, subst, ap₂}
use Rattle.std.proofs.lemmas.Bool.{eqb-true}
use Rattle.std.proofs.lemmas.List.Elements.{All-get_or}
use Rattle.vm_field.specs.Sponge.{hashed}
use lib.Pointwise.{pointwise_decides, bytes_decides}
use Rattle.tree_hash.specs.Digests.{IsDigest}
use Rattle.tree_hash.proofs.digests.Digests.known_digest.Goals as goal

pub returns-then-eq-2 : goal.returns-then-eq-2
returns-then-eq-2 c =
    let constants = c.args.self.now.permutations in
    let domain = eqb-true _ _ (sym c.eq.ensures ∙ c.if-eq.true) in
    let blocks = sym c.as_slice.ensures.value ∙ (pointwise_decides bytes_decides _ _).0 (sym c.eq-then-eq.ensures ∙ c.if-eq-2.true) in
    let found = c.in_ok-known.ensures.lookup in
    let known : IsDigest constants c.in_ok-known.known.now
    = subst (IsDigest constants) (sym found.1)
    (All-get_or (IsDigest constants) _ c.in_ok-get.field-0.now _ found.3.0 (rw c.deref.ensures.value c.args.self.now.known_right)) in
    known ∙ ap₂ (hashed constants) domain blocks
