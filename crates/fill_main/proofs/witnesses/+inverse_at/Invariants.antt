use Rattle.fill_main.proofs.witnesses.+inverse_at.Given as goal

abbrev pub decreases-inverse_at : goal.decreases-inverse_at
decreases-inverse_at l = l.place
