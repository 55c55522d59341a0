use Rattle.std.proofs.Common.{◌≡◌, ◌++◌, drop}
use Rattle.complete_rows.specs.Decoder.{at_start, decoder_after}
use Rattle.complete_rows.specs.Filling.{deep_before, fill}
use Rattle.complete_rows.specs.RunRequests.{accesses_of, bits_of, calls_of, perms_of, ranges_of}
use Rattle.fill_main.specs.Turns.{turns_of}
use Rattle.fill_decoder.specs.Bounds.{IsSmall}
use Rattle.fill_decoder.specs.Views.{decoder_in}
use Rattle.fill_main.proofs.fill.fill.Given as goal

abbrev pub invariant-loop-i : goal.invariant-loop-i
invariant-loop-i l = record {
  rows : l.table ++ fill l.last (decoder_in l.decoder) (drop l.i l.events) ≡ fill l.last (at_start (deep_before l.last l.events)) l.events;
  after : decoder_after (decoder_in l.decoder) (drop l.i l.events) ≡ decoder_after (at_start (deep_before l.last l.events)) l.events;
  turns : l.turns ≡ turns_of (drop l.i l.events);
  small : IsSmall (decoder_in l.decoder) l.i (drop l.i l.events);
  perms : l.requests.perms ++ perms_of l.fn.permutations (drop l.i l.events) ≡ perms_of l.fn.permutations l.events;
  bits : l.requests.bits ++ bits_of (drop l.i l.events) ≡ bits_of l.events;
  accesses : l.requests.accesses ++ accesses_of (drop l.i l.events) ≡ accesses_of l.events;
  ranges : l.requests.ranges ++ ranges_of l.last (drop l.i l.events) ≡ ranges_of l.last l.events;
  calls : l.requests.calls ++ calls_of (drop l.i l.events) ≡ calls_of l.events;
  same : l.permutations ≡ l.fn.permutations;
}
