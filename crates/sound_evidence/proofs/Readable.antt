-- What an accepted trace shows, put together from the laws of buses, frames, nesting and spans.
use Rattle.sound_evidence.proofs.Words.{◌≡◌, length, constants_of, IsTable, HasCounts, claim_of, Public, Trace, TreeFacts, IsWalkable, IsKnown}
use Rattle.vm_field.specs.Limits.{number_of_constants}
use Rattle.air_kit.specs.Acceptance.{IsAccepted}
use Rattle.air_kit.specs.declared.trace.TableName.TheVariants as table
use Rattle.sound_buses.specs.BusFacts.{Granted}
use Rattle.sound_buses.proofs.Grants.{accepted_grants}
use Rattle.sound_blocks.proofs.FrameLaw.{frames_granted}
use Rattle.sound_blocks.proofs.NestingLaw.{nesting_granted}
use Rattle.sound_blocks.proofs.SpanLaw.{span_law}

pub known_of : (p : Public) (t : Trace) → length (constants_of p.params) ≡ number_of_constants → HasCounts t → IsTable 65 t.main → IsTable 2 t.range
    → IsTable 15 t.hasher → IsTable 12 t.bitwise → IsTable 14 t.memory → IsTable 5 t.kernel → IsTable 1 t.left → IsAccepted p t
    → IsKnown p t
known_of p t constants counts main range hasher bitwise memory kernel left accepted = record {
  constants = constants;
  whole = record {
    counts = counts;
    main = main;
    range = range;
    hasher = hasher;
    bitwise = bitwise;
    memory = memory;
    kernel = kernel;
    left = left;
  };
  accepted = accepted;
}

pub granted : (p : Public) (t : Trace) → IsKnown p t → Granted p t
granted p t k = accepted_grants p t k.constants k.whole k.accepted

pub tree_facts : (p : Public) (t : Trace) → IsKnown p t → TreeFacts (constants_of p.params) t.hasher t.main p.statement.digest
tree_facts p t k = record {
  claim = claim_of p t;
  shows = (granted p t k).rows;
  frames = frames_granted p t (granted p t k);
  nesting = nesting_granted p t (k.whole.counts table.Main).least (granted p t k);
  spans = span_law p t k.constants (granted p t k);
}

pub readable : (p : Public) (t : Trace) → IsKnown p t → IsWalkable p t
readable p t k = record {
  facts = tree_facts p t k;
  rows = (k.whole.counts table.Main).most;
  hashes = (k.whole.counts table.Hasher).most;
}
