use Rattle.std.proofs.Common.{◌≤◌, length, map, option_map}
use Rattle.run_chain.specs.Names.{names_of_words, roles_for}
use Rattle.run_chain.specs.Lists.{lines_of}
use Rattle.run_chain.specs.Reads.{given, named_as}
use Rattle.run_chain.proofs.ListLemmas.{Goes}
use Rattle.run_chain.proofs.reading.read_links.Given as goal

-- the lines so far, in front of those of the rest, are all lines
abbrev pub invariant-loop-roles : goal.invariant-loop-roles
invariant-loop-roles l = record {
  goes : Goes (roles_for (option_map (λ e. e.now) l.fn.evidence)) (names_of_words (given l.fn.params l.fn.list l.fn.evidence)) l.fn.bytes
      (map (λ line. map (λ n. n.now) line.items) l.lines.items) (map named_as l.seen.items) l.rest;
  few : length l.lines.items ≤ 64;
}

abbrev pub decreases-loop-roles : goal.decreases-loop-roles
decreases-loop-roles l = length (lines_of l.rest)
