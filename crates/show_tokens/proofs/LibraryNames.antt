-- A name is that of one of the library's procedures exactly where a procedure is found by it.
use Rattle.std.proofs.Common.{◌≡◌, ◌↔◌, ℕ, Bool, true, false, List, [], ◌∷◌, map, Option, Some, None, is_some, refl, sym, subst, bytes_eq}
use Rattle.std.proofs.lemmas.Slice.Eq.{bytes_eq-Decides}
use Rattle.masm_link.specs.Libraries.{has_name}
use Rattle.std_u64.specs.declared.names.U64Procedure.{U64Procedure}
use Rattle.std_u64.specs.declared.names.U64Procedure.TheVariants as procedures
use Rattle.std_u64.specs.Libraries.{every_procedure, library_procedure, u64_library}
use Rattle.std_u64.specs.Lists.{name_of_procedure}

own : (procedure : U64Procedure) → has_name u64_library (name_of_procedure procedure) ≡ true
unfolding u64_library
own procedures.OverflowingAdd = refl
own procedure = refl

unequal : (test : Bool) (this other : List ℕ) → bytes_eq this other ≡ test → (this ≡ other → ⊥) → bytes_eq this other ≡ false
unequal true this other is apart = absurd (apart ((bytes_eq-Decides this other).0 is))
unequal false this other is apart = is

none_among : (all : List U64Procedure) (name : List ℕ) → ((procedure : U64Procedure) → name_of_procedure procedure ≡ name → ⊥)
    → has_name (map library_procedure all) name ≡ false
none_among [] name apart = refl
none_among (procedure ∷ all) name apart =
    rw (unequal (bytes_eq (name_of_procedure procedure) name) (name_of_procedure procedure) name refl (apart procedure)) (none_among all name apart)

pub found_is_named : (name : List ℕ) (found : Option U64Procedure)
    → ((procedure : U64Procedure) → (found ≡ Some procedure) ↔ (name_of_procedure procedure ≡ name)) → is_some found ≡ has_name u64_library name
unfolding u64_library
found_is_named name (Some procedure) by =
    subst (λ text. true ≡ has_name u64_library text) ((by procedure).0 refl) (sym (own procedure))
found_is_named name None by =
    sym (none_among every_procedure name (λ procedure same. let wrong = (by procedure).1 same in cc))
