-- What chains of runs share: the list of their links, and the lines that tell of one (docs/FORMATS.md).
use Rattle.std.specs.Prelude.{ℕ, List, ◌++◌, codes, decimal, Ok, Err}
use Rattle.run_chain.specs.Lists.{Links, links_of}
use Rattle.run_chain.specs.Names.{Given}
use Rattle.cmd_kit.specs.declared.status.Status.TheVariants as status
use Rattle.cmd_kit.specs.Steps.{End, stop, Steps, reading, ending}
use Rattle.cmd_kit.specs.Malformed.{bad_list}

-- the longest list
abbrev pub most_list_bytes : ℕ
most_list_bytes = 65536

-- what a list reads as: the steps go on with the names of its lines
abbrev pub with_lines : List ℕ → (List (List (List ℕ)) → Steps) → Links → Steps
with_lines name next (Ok lines) = next lines
with_lines name next (Err fault) = ending (bad_list name fault)

-- a list is read, behind words that give these names
abbrev pub list_steps : Given → (List (List (List ℕ)) → Steps) → Steps
list_steps given next = reading given.list most_list_bytes (λ bytes. with_lines given.list next (links_of given bytes))

-- the line in front of what is told of a link
abbrev pub link_line : ℕ → List ℕ
link_line number = codes "link " ++ decimal number ++ codes "\n"

-- a line of `run` or of `check` that tells of this link
abbrev pub line_of_link : ℕ → List ℕ → List ℕ
line_of_link number line = codes "link " ++ decimal number ++ codes " " ++ line

abbrev pub broken_line : ℕ → List ℕ
broken_line number = codes "broken link " ++ decimal number ++ codes "\n"

-- the chain breaks behind this link
abbrev pub broken : ℕ → End
broken number = stop status.Broken (broken_line number)
