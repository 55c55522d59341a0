-- The operations of each procedure can be packed.
use Rattle.std.proofs.Common.{◌≡◌, ◌≢◌, Bool, true, false, ◌&&◌, not, List, [], ◌∷◌, All, refl, arith}
use Rattle.std.specs.List.{flat_map, list_all}
use Rattle.std.proofs.lemmas.Bool.{and_parts}
use Rattle.std.proofs.lemmas.List.Elements.{All-append}
use Rattle.vm_ops.specs.Items.{IsPackableItem}
use Rattle.masm_instr.specs.Instructions.{Instruction, is_in_form, names_local}
use Rattle.masm_expand.specs.Expansion.{expansion, front, movdn, movup, swap}
use Rattle.masm_expand.specs.Packable.{ArePackable}
use Rattle.masm_expand.proofs.Packing.{expansions_are_packable}
use Rattle.std_u64.specs.declared.names.U64Procedure.{U64Procedure}
use Rattle.std_u64.specs.declared.names.U64Procedure.TheVariants as procedures
use Rattle.std_u64.specs.Lists.{instructions, operations}

-- an instruction in form that names no local
abbrev is_global : Instruction → Bool
is_global instr = is_in_form instr.name instr.numbers && not (names_local instr.name)

no_local : (test : Bool) → not test ≡ true → test ≢ true
no_local true e = cc
no_local false e = λ wrong. cc

one_packs : (instr : Instruction) → is_global instr ≡ true → All IsPackableItem (expansion instr.name instr.numbers 0)
one_packs instr global =
    let parts = and_parts (is_in_form instr.name instr.numbers) (not (names_local instr.name)) global in
    (expansions_are_packable instr.name instr.numbers 0 parts.0 (λ local. absurd (no_local (names_local instr.name) parts.1 local))).each

all_pack : (instrs : List Instruction) → list_all is_global instrs ≡ true
    → All IsPackableItem (flat_map (λ instr. expansion instr.name instr.numbers 0) instrs)
all_pack [] global = λ k item h. absurd (omega arith)
all_pack (instr ∷ more) global =
    let parts = and_parts (is_global instr) (list_all is_global more) global in
    All-append IsPackableItem (expansion instr.name instr.numbers 0)
    (flat_map (λ instr. expansion instr.name instr.numbers 0) more) (one_packs instr parts.0) (all_pack more parts.1)

are_global : (procedure : U64Procedure) → list_all is_global (instructions procedure) ≡ true
are_global procedures.OverflowingAdd = refl
are_global procedure = refl

some_operation : (procedure : U64Procedure) → operations procedure ≢ []
unfolding operations expansion front movup movdn swap
some_operation procedures.OverflowingAdd = λ none. cc
some_operation procedures.WrappingAdd = λ none. cc
some_operation procedures.CheckedAdd = λ none. cc
some_operation procedures.OverflowingSub = λ none. cc
some_operation procedures.WrappingSub = λ none. cc
some_operation procedures.CheckedSub = λ none. cc
some_operation procedures.Lt = λ none. cc
some_operation procedures.Gte = λ none. cc
some_operation procedures.Gt = λ none. cc
some_operation procedures.Lte = λ none. cc
some_operation procedures.Eq = λ none. cc

pub packable : (procedure : U64Procedure) → ArePackable (operations procedure)
unfolding operations
packable procedure = record {
  some = some_operation procedure;
  each = all_pack (instructions procedure) (are_global procedure);
}
