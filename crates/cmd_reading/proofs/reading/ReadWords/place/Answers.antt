use Rattle.std.proofs.Common.{◌∙◌, ap}
use Rattle.std.specs.Prelude.{option_map}
use Rattle.cmd_reading.proofs.TextLemmas.{there_read}
use Rattle.cmd_reading.proofs.reading.ReadWords.place.Goals as goal

pub returns : goal.returns
returns c =
    ap (option_map (λ t. t.now)) c.copied.ensures
    ∙ there_read c.args.i c.args.self.now.places.items c.get.result (rw c.deref.ensures.value at c.get.ensures.lookup.0)
    (rw c.deref.ensures.value at c.get.ensures.lookup.1)
