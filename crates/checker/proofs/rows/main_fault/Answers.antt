use Rattle.std.proofs.Common.{Some, None, refl, sym, ap, ap₂, ◌∙◌}
use Rattle.air_kit.specs.Places.{first_fault_of}
use Rattle.air_kit.specs.StackValues.{stack_values}
use Rattle.air_kit.specs.U32Values.{u32_values}
use Rattle.air_kit.specs.DynValues.{dyn_values}
use Rattle.air_kit.specs.MainValues.{decoder_values}
use Rattle.air_kit.specs.Traces.{spot_of}
use Rattle.checker.specs.Settings.{claim_in}
use Rattle.checker.proofs.RowLemmas.{main_of_parts}
use Rattle.checker.proofs.rows.main_fault.Goals as goal

pub returns-in-Some : goal.returns-in-Some
returns-in-Some c =
    main_of_parts (claim_in c.args.setting.now) (spot_of c.args.trace.now.main c.args.row) (Some c.in-Some.fault) _ _ _ _
    (sym c.in-Some.is ∙ (c.first_fault_seen.ensures
    ∙ ap₂ (λ k p. first_fault_of 1 (decoder_values k p)) c.place-place.ensures.claim c.place-place.ensures.spot))
    refl refl refl refl

pub returns-in-Some-first_fault_seen : goal.returns-in-Some-first_fault_seen
returns-in-Some-first_fault_seen c =
    main_of_parts (claim_in c.args.setting.now) (spot_of c.args.trace.now.main c.args.row) None (Some c.in-Some-first_fault_seen.fault) _ _ _
    (sym c.in_default.is ∙ (c.first_fault_seen.ensures
    ∙ ap₂ (λ k p. first_fault_of 1 (decoder_values k p)) c.place-place.ensures.claim c.place-place.ensures.spot))
    (sym c.in-Some-first_fault_seen.is ∙ (c.first_fault_seen-2.ensures ∙ ap (λ p. first_fault_of 115 (stack_values p)) c.place-place.ensures.spot))
    refl refl refl

pub returns-in-Some-first_fault_seen-2 : goal.returns-in-Some-first_fault_seen-2
returns-in-Some-first_fault_seen-2 c =
    main_of_parts (claim_in c.args.setting.now) (spot_of c.args.trace.now.main c.args.row) None None (Some c.in-Some-first_fault_seen-2.fault) _ _
    (sym c.in_default.is ∙ (c.first_fault_seen.ensures
    ∙ ap₂ (λ k p. first_fault_of 1 (decoder_values k p)) c.place-place.ensures.claim c.place-place.ensures.spot))
    (sym c.in_default-first_fault_seen.is ∙ (c.first_fault_seen-2.ensures ∙ ap (λ p. first_fault_of 115 (stack_values p)) c.place-place.ensures.spot))
    (sym c.in-Some-first_fault_seen-2.is ∙ (c.first_fault_seen-3.ensures ∙ ap (λ p. first_fault_of 140 (u32_values p)) c.place-place.ensures.spot))
    refl refl

pub returns : goal.returns
returns c =
    main_of_parts (claim_in c.args.setting.now) (spot_of c.args.trace.now.main c.args.row) None None None _ _
    (sym c.in_default.is ∙ (c.first_fault_seen.ensures
    ∙ ap₂ (λ k p. first_fault_of 1 (decoder_values k p)) c.place-place.ensures.claim c.place-place.ensures.spot))
    (sym c.in_default-first_fault_seen.is ∙ (c.first_fault_seen-2.ensures ∙ ap (λ p. first_fault_of 115 (stack_values p)) c.place-place.ensures.spot))
    (sym c.in_default-first_fault_seen-2.is ∙ (c.first_fault_seen-3.ensures ∙ ap (λ p. first_fault_of 140 (u32_values p)) c.place-place.ensures.spot))
    (c.dyn_fault_seen.ensures ∙ ap (λ p. first_fault_of 148 (dyn_values p)) c.place-place.ensures.spot) refl
