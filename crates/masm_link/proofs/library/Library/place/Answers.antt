use Rattle.std.proofs.Common.{◌≡◌, ◌↔◌, map, slice_get, Some, subst}
use Rattle.masm_link.proofs.LibraryPlaces.{placed}
use Rattle.masm_link.proofs.library.Library.place.Goals as goal

pub returns : goal.returns
returns c = λ place.
    let found = c.get_index_of in
    subst (λ library. (found.result ≡ Some place) ↔ (slice_get (map (λ p. p.name) library) place ≡ Some c.args.name.now)) c.self.view_is
    (placed c.self.inside.procedures.entries c.args.name.now found.result found.ensures.unique found.ensures.index place)
