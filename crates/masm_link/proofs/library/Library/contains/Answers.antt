use Rattle.std.proofs.Common.{ap, ◌∙◌}
use Rattle.masm_link.specs.Libraries.{has_name}
use Rattle.masm_link.proofs.LibraryPlaces.{looked_up}
use Rattle.masm_link.proofs.library.Library.contains.Goals as goal

pub returns : goal.returns
returns c =
    c.contains_key.ensures
    ∙ (looked_up c.self.inside.procedures.entries c.args.name.now ∙ ap (λ library. has_name library c.args.name.now) c.self.view_is)
