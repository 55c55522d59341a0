-- The first cause that stands of a token, by what is known of it.
use Rattle.masm_parse.proofs.Words.{◌≡◌, Bool, true, false, ◌<◌, ◌≤◌, cond, Option, Some, None, Result, Ok, Err, refl, subst, arith, ltb-true, ltb-false}
use Rattle.masm_parse.proofs.Words.{Cause, order, is_early, Parse, settled}
use Rattle.masm_tree.specs.declared.refusal.Cause.TheVariants as causes
use Rattle.masm_parse.specs.Refusals.{Has, by_itself, misfit, too_deep}

abbrev pub Settles : Option Cause → Type 0 → Type 0 → Option Parse → Result Parse Cause → Type 0
Settles own Misfit Deep o (Ok now) = (o ≡ Some now) × ((c : Cause) → Has own Misfit Deep c → ⊥)
Settles own Misfit Deep o (Err cause) = Has own Misfit Deep cause × ((c : Cause) → Has own Misfit Deep c → order cause ≤ order c)

pub none_some : {X : Type 0} (x : X) → None ≡ Some x → ⊥
none_some x e = cc

same_order : (a b : Cause) → Some a ≡ Some b → order a ≤ order b
same_order a b e = let same : a ≡ b = cc in subst (λ x. order a ≤ order x) same (omega arith)

order_most : (c : Cause) → order c ≤ 7
order_most causes.KernelBody = omega arith
order_most causes.Unsupported = omega arith
order_most causes.UnknownInstruction = omega arith
order_most causes.Syntax = omega arith
order_most causes.NumberRange = omega arith
order_most causes.LocalsRange = omega arith
order_most causes.RepeatRange = omega arith
order_most causes.TooDeep = omega arith

no_cause : (M D : Type 0) → (M → ⊥) → (D → ⊥) → (c : Cause) → Has None M D c → ⊥
no_cause M D m d c (by_itself cause e) = none_some cause e
no_cause M D m d c (misfit x) = m x
no_cause M D m d c (too_deep x) = d x

least_syntax : (M D : Type 0) (c : Cause) → Has None M D c → 3 ≤ order c
least_syntax M D c (by_itself cause e) = absurd (none_some cause e)
least_syntax M D c (misfit x) = omega arith
least_syntax M D c (too_deep x) = omega arith

least_deep : (M D : Type 0) → (M → ⊥) → (c : Cause) → Has None M D c → 7 ≤ order c
least_deep M D m c (by_itself cause e) = absurd (none_some cause e)
least_deep M D m c (misfit x) = absurd (m x)
least_deep M D m c (too_deep x) = omega arith

least_early : (own : Cause) (M D : Type 0) → order own < 3 → (c : Cause) → Has (Some own) M D c → order own ≤ order c
least_early own M D lt c (by_itself cause e) = same_order own cause e
least_early own M D lt c (misfit x) = omega (arith, lt)
least_early own M D lt c (too_deep x) = order_most own

least_late : (own : Cause) (M D : Type 0) → 3 ≤ order own → (c : Cause) → Has (Some own) M D c → 3 ≤ order c
least_late own M D le c (by_itself cause e) = omega (arith, le, same_order own cause e)
least_late own M D le c (misfit x) = omega arith
least_late own M D le c (too_deep x) = omega arith

least_own : (own : Cause) (M D : Type 0) → (M → ⊥) → (c : Cause) → Has (Some own) M D c → order own ≤ order c
least_own own M D m c (by_itself cause e) = same_order own cause e
least_own own M D m c (misfit x) = absurd (m x)
least_own own M D m c (too_deep x) = order_most own

settle_misfit : (own : Cause) (M D : Type 0) (early : Bool) → is_early own ≡ early → M
    → Settles (Some own) M D None (Err (cond early own causes.Syntax))
settle_misfit own M D true e m = (by_itself own refl, least_early own M D (ltb-true (order own) 3 e))
settle_misfit own M D false e m = (misfit m, least_late own M D (ltb-false (order own) 3 e))

pub settle_least : (own : Option Cause) (deep : Bool) (o : Option Parse) (M D : Type 0) → (o ≡ None → M)
    → ((now : Parse) → o ≡ Some now → M → ⊥) → (deep ≡ true → D) → (D → deep ≡ true) → Settles own M D o (settled own deep o)
settle_least None deep None M D m nm d nd = (misfit (m refl), least_syntax M D)
settle_least None true (Some now) M D m nm d nd = (too_deep (d refl), least_deep M D (nm now refl))
settle_least None false (Some now) M D m nm d nd =
    (refl, no_cause M D (nm now refl) (λ x. let e : false ≡ true = nd x in cc))
settle_least (Some own) deep None M D m nm d nd = settle_misfit own M D (is_early own) refl (m refl)
settle_least (Some own) deep (Some now) M D m nm d nd = (by_itself own refl, least_own own M D (nm now refl))
