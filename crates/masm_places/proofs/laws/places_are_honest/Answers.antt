use Rattle.masm_places.proofs.Honesty as honesty
use Rattle.masm_places.proofs.laws.places_are_honest.Goals as goal

pub returns : goal.returns
returns c = honesty.places_are_honest
