-- Inputs, and the stack with which a run on them starts.
use Rattle.std.proofs.Common.{◌≡◌, IsTrue, ℕ, nat_eq, take, zero, suc, ◌-◌, ◌==◌, Bool, true, false, List, [], ◌∷◌, ◌++◌, length, replicate, refl, sym, ap, ◌∙◌, arith, None}
use Rattle.std.specs.List.{list_all}
use Rattle.std.proofs.lemmas.List.{append_cancel_left, length-replicate}
use Rattle.std.proofs.lemmas.Bool.{and_parts, eqb-true}
use Rattle.std.proofs.lemmas.Bool.Decides.{Decides-eqb}
use Rattle.std.proofs.lemmas.Slice.Eq.{strip_prefix_is}
use lib.Pointwise.{pointwise}
use Rattle.vm_field.specs.Machine.{start}
use Rattle.run_chain.specs.Following.{first_stack}

-- zeros and nothing else
pub zeros-are : (k : ℕ) (cells : List ℕ) → length cells ≡ k → list_all (λ x. x == 0) cells ≡ true → cells ≡ replicate k 0
zeros-are k [] e zeros = rw (sym e) refl
zeros-are zero (x ∷ cells) e zeros = absurd (omega (arith, e))
zeros-are (suc k) (x ∷ cells) e zeros =
    let parts = and_parts (x == 0) (list_all (λ x. x == 0) cells) zeros in
    rw (eqb-true x 0 parts.0, zeros-are k cells (omega (arith, e)) parts.1) refl

pub all-zeros : (k : ℕ) → list_all (λ x. x == 0) (replicate k 0) ≡ true
all-zeros zero = refl
all-zeros (suc k) = all-zeros k

-- a test says whether the outputs are the stack with which a run on the inputs starts
abbrev pub Tests : Bool → List ℕ → List ℕ → Type 0
Tests r outputs inputs = (IsTrue r → outputs ≡ first_stack inputs) × (outputs ≡ first_stack inputs → IsTrue r)

module _ (outputs inputs : List ℕ) where
  -- outputs that do not begin with the inputs
  pub apart : pointwise nat_eq (take (length inputs) outputs) inputs ≡ false → Tests false outputs inputs
  unfolding start
  apart other = (
    λ t. absurd (cc (t)),
    λ follows. absurd (strip_prefix_is Decides-eqb outputs inputs None other (replicate (16 - length inputs) 0) follows),
  )

  module _ (below : List ℕ) (is : outputs ≡ inputs ++ below) where
    left : outputs ≡ first_stack inputs → below ≡ replicate (16 - length inputs) 0
    unfolding start
    left follows = append_cancel_left inputs below (replicate (16 - length inputs) 0) (sym is ∙ follows)

    -- as many cells below the inputs as are filled up
    pub tested : (r : Bool) → length below ≡ 16 - length inputs → r ≡ list_all (λ x. x == 0) below → Tests r outputs inputs
    unfolding start
    tested r count e = (
      λ t. is ∙ ap (λ cells. inputs ++ cells) (zeros-are (16 - length inputs) below count (sym e ∙ t)),
      λ follows. e ∙ ap (list_all (λ x. x == 0)) (left follows) ∙ all-zeros (16 - length inputs),
    )

    -- more of them, or fewer
    pub uneven : (n : ℕ) → n ≡ 16 - length inputs → (length below ≡ n → ⊥) → Tests (length below == n) outputs inputs
    uneven n same other = (
      λ t. absurd (other (eqb-true (length below) n t)),
      λ follows. absurd (other (ap length (left follows) ∙ length-replicate (16 - length inputs) 0 ∙ sym same)),
    )
