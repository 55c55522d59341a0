use Rattle.masm_link.proofs.LibraryLemmas.{empty_library, libraries_are_behind}
use Rattle.masm_link.proofs.laws.library_laws.Goals as goal

pub returns : goal.returns
returns c = record { behind = libraries_are_behind; empty = empty_library }
