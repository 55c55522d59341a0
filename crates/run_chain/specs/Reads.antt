-- What reading a list answers, and names as the definitions see them.
use Rattle.std.specs.Prelude.{ℕ, List, Option, Some, None, option_map}
use denote.Ref.{Bor}
use Rattle.run_chain.specs.declared.naming.Named.{Named}
use Rattle.run_chain.specs.declared.refusal.LinkError.{LinkError}
use Rattle.run_chain.specs.declared.refusal.LinkError.TheVariants.{Bad, Memory}
use Rattle.run_chain.specs.Lists.{LinkFault}
use Rattle.run_chain.specs.Names as names

-- what a refusal says of the bytes: their wrong line, if it tells one
abbrev pub wrong_line : LinkError → Option LinkFault
wrong_line (Bad line cause) = Some (record { line = line; cause = cause })
wrong_line Memory = None

abbrev pub named_as : Named → names.Named
named_as n = record { role = n.role; name = n.name.now }

abbrev pub given : List ℕ → List ℕ → Option (Bor (List ℕ)) → names.Given
given params list evidence = record { params = params; list = list; evidence = option_map (λ e. e.now) evidence }
