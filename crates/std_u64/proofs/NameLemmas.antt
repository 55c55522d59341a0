-- Each procedure is found by its own name, and by no other.
use Rattle.std.proofs.Common.{◌≡◌, ◌↔◌, ℕ, Bool, true, false, cond, List, [], ◌∷◌, Option, Some, ◌⊎◌, inl, inr, refl, bytes_eq}
use Rattle.std.proofs.lemmas.Slice.Eq.{bytes_eq-Decides}
use Rattle.std_u64.specs.declared.names.U64Procedure.{U64Procedure}
use Rattle.std_u64.specs.declared.names.U64Procedure.TheVariants as procedures
use Rattle.std_u64.specs.declared.names.TheConstants.{EVERY}
use Rattle.std_u64.specs.Lists.{name_of_procedure, procedure_of}

found : (procedure : U64Procedure) → procedure_of EVERY (name_of_procedure procedure) ≡ Some procedure
found procedures.OverflowingAdd = refl
found procedure = refl

-- what a test chose
chosen : (test : Bool) (here procedure : U64Procedure) (later : Option U64Procedure) → cond test (Some here) later ≡ Some procedure
    → ((test ≡ true) × (here ≡ procedure)) ⊎ (later ≡ Some procedure)
chosen true here procedure later e = inl (refl, cc)
chosen false here procedure later e = inr e

has_name : (all : List U64Procedure) (name : List ℕ) (procedure : U64Procedure) → procedure_of all name ≡ Some procedure
    → name_of_procedure procedure ≡ name
has_name [] name procedure e = cc
has_name (here ∷ more) name procedure e =
    elim (chosen (bytes_eq (name_of_procedure here) name) here procedure (procedure_of more name) e) [
      | inl (same, is_here) ↦ rw (← is_here) ((bytes_eq-Decides (name_of_procedure here) name).0 same)
      | inr later ↦ has_name more name procedure later
    ]

pub named : (name : List ℕ) (procedure : U64Procedure) → (procedure_of EVERY name ≡ Some procedure) ↔ (name_of_procedure procedure ≡ name)
named name procedure = (has_name EVERY name procedure, λ same. rw (← same) (found procedure))
