use Rattle.std.proofs.Common.{◌∙◌}
use Rattle.show_tokens.proofs.LibraryNames.{found_is_named}
use Rattle.show_tokens.proofs.paths.has_name.Goals as goal

pub returns : goal.returns
returns c = c.is_some.ensures ∙ found_is_named c.args.name.now c.by_name.result c.by_name.ensures
