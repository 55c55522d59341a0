use Rattle.std.proofs.Common.{List, [], ◌∷◌, ◌++◌, refl, ap, ◌∙◌}
use Rattle.air_kit.specs.declared.requests.Access.{Access}
use Rattle.test_tables.proofs.Stores.{write_fits}
use Rattle.test_tables.proofs.chips.store_and_bits.Goals as goal

pub returns : goal.returns
returns c = record {
  fit = λ constants.
      write_fits c.stored.result c.stored.ensures.kind c.stored.ensures.clk constants _ c.new.ensures.empty
      (rw c.in_ok-push-2.ensures.ok (rw c.in_ok-push.ensures.ok (rw c.new-bits.ensures.empty refl)))
      (c.in_ok-push-3.ensures.ok ∙ ap (λ (xs : List Access). xs ++ c.stored.result ∷ []) c.new-accesses.ensures.empty)
      c.new-3.ensures.empty c.new-4.ensures.empty;
}
