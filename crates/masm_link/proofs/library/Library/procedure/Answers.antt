use Rattle.std.proofs.Common.{sym, ap, ◌∙◌}
use Rattle.std.specs.Map.Iter.{deref_pair}
use Rattle.std.specs.Option.{option_map}
use Rattle.masm_tree.specs.Views.{body_of}
use Rattle.masm_link.specs.Libraries.{plain_body}
use Rattle.masm_link.proofs.LibraryPlaces.{procedure_at}
use Rattle.masm_link.proofs.library.Library.procedure.Goals as goal

pub returns : goal.returns
returns c =
    let found = c.unwrap.result in
    let at = sym c.get_index.ensures.entry ∙ ap (option_map deref_pair) c.unwrap.ensures in
    procedure_at c.self.inside.procedures.entries c.args.place found.0.now found.1.now c.args.self.now c.self.view_is at c.in_ok-copied.field-0
    (c.in_ok-copied.ensures.items ∙ c.deref.ensures.value) (body_of c.in_ok-body.field-0.items)
    (c.in_ok-body.ensures ∙ ap plain_body c.deref-2.ensures.value)
