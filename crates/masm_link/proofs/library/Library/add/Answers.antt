use Rattle.std.proofs.Common.{◌≡◌, false, true, ◌++◌, ◌∷◌, [], sym, ap, subst, ◌∙◌}
use Rattle.masm_link.specs.Libraries.{are_plain, has_name, library_of}
use Rattle.masm_link.proofs.LibraryPlaces.{added, plain_more}
use Rattle.masm_link.proofs.library.Library.add.Goals as goal

pub invariant_of-self-2 : goal.invariant_of-self-2
invariant_of-self-2 c =
    let old = c.self.inside.procedures in
    let name = c.args.name.now in
    let absent = subst (λ library. has_name library name ≡ false) (sym c.self.view_is) c.requires.new in
    let more = added old c.insert.new.self c.in_ok-key.key c.args.instructions name c.in_ok-key.ensures.items c.in_ok-insert.ensures.entries absent in
    subst (λ library. are_plain library ≡ true) (sym more)
    (plain_more (library_of old.entries) (record { name = name; instructions = c.args.instructions.items }) c.self.invariant c.requires.plain)

pub returns-clause-ok : goal.returns-clause-ok
returns-clause-ok c =
    let old = c.self.inside.procedures in
    let name = c.args.name.now in
    let absent = subst (λ library. has_name library name ≡ false) (sym c.self.view_is) c.requires.new in
    added old c.insert.new.self c.in_ok-key.key c.args.instructions name c.in_ok-key.ensures.items c.in_ok-insert.ensures.entries absent
    ∙ ap (λ library. library ++ record { name = name; instructions = c.args.instructions.items } ∷ []) c.self.view_is
