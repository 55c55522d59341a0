use Rattle.std.proofs.Common.{◌∙◌, ap, sym}
use Rattle.std.specs.Prelude.{option_and_then, option_map}
use Rattle.cmd_reading.proofs.TextLemmas.{free_read}
use Rattle.cmd_reading.proofs.reading.ReadWords.free.Goals as goal

pub returns-in-Some : goal.returns-in-Some
returns-in-Some c =
    sym (ap (λ r. option_and_then (option_map (λ t. t.now)) (option_map (λ x. x.now) r)) c.in-Some.is)
    ∙ free_read c.args.i c.args.self.now.free.items c.get.result (rw c.deref.ensures.value at c.get.ensures.lookup.0)
    (rw c.deref.ensures.value at c.get.ensures.lookup.1)

pub returns-in-None : goal.returns-in-None
returns-in-None c =
    sym (ap (λ r. option_and_then (option_map (λ t. t.now)) (option_map (λ x. x.now) r)) c.in-None.is)
    ∙ free_read c.args.i c.args.self.now.free.items c.get.result (rw c.deref.ensures.value at c.get.ensures.lookup.0)
    (rw c.deref.ensures.value at c.get.ensures.lookup.1)
