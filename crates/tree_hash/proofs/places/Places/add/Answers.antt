use Rattle.std.proofs.Common.{sym, ◌∙◌}
use Rattle.std.proofs.lemmas.Cmp.{nat_list_eq_equiv}
use Rattle.tree_hash.proofs.PlaceLemmas.{place-added}
use Rattle.tree_hash.proofs.places.Places.add.Goals as goal

pub returns : goal.returns
returns c = λ other.
    place-added c.args.self.now.first c.insert.new.self c.args.digest other c.args.place
    c.in_ok-insert.ensures.entries (sym c.contains_key.ensures ∙ c.if-contains_key.false) (nat_list_eq_equiv.symm other c.args.digest)
