-- An accepted trace grants what its buses say.
use Rattle.sound_buses.proofs.Words.{◌≡◌, ℕ, ◌^◌, ◌<◌, ◌≤◌, List, length, arith, clk, v, Claim, claim_of, Public, Trace, TableGives, row_at, ShowsRows, Starts}
use Rattle.sound_buses.proofs.Words.{own, hasher_gives}
use Rattle.vm_field.specs.Limits.{number_of_constants}
use Rattle.rpo_hash.specs.Constants.{constants_of}
use Rattle.air_kit.specs.Acceptance.{IsAccepted}
use Rattle.air_kit.specs.declared.trace.TableName.TheVariants as table
use Rattle.facts_hasher.proofs.TableMeaning.{table_gives}
use Rattle.facts_memory.proofs.MainServes.{main_serves}
use Rattle.facts_main.proofs.ClaimFacts.{trace_shown}
use Rattle.facts_main.proofs.RunFacts.{clock_is}
use Rattle.sound_buses.specs.BusFacts.{Granted, HasTables}
use Rattle.sound_buses.proofs.Balance.{Alike, all_alike}
use Rattle.sound_buses.proofs.BitBus.{bit_facts}
use Rattle.sound_buses.proofs.BlockBus.{block_facts}
use Rattle.sound_buses.proofs.ChildBus.{child_named}
use Rattle.sound_buses.proofs.GroupBus.{group_facts}
use Rattle.sound_buses.proofs.HasherBus.{hash_facts, one_asker, own_one, own_positive}
use Rattle.sound_buses.proofs.JoinBus.{first_child}
use Rattle.sound_buses.proofs.KernelBus.{kernel_facts}
use Rattle.sound_buses.proofs.LoopBus.{turn_of}
use Rattle.sound_buses.proofs.MemoryLimbs.{memory_limbs}
use Rattle.sound_buses.proofs.OverflowBus.{overflow_facts}
use Rattle.sound_buses.proofs.RangeBus.{range_facts}
use Rattle.sound_buses.proofs.RangeRows.{values_short}

pub accepted_grants : (p : Public) (t : Trace) → length (constants_of p.params) ≡ number_of_constants → HasTables t → IsAccepted p t → Granted p t
accepted_grants p t len whole accepted = record {
  rows = shows;
  few = few;
  blocks = block_facts k t.main shows alike.blocks positive one;
  children = record {
    child = child_named k t.main shows p.statement.digest alike.children;
    join = first_child t.main p.statement.digest alike.children one;
    turn = turn_of t.main alike.loops;
  };
  groups = group_facts t.main alike.groups k shows (one_asker constants t.main t.hasher gives alike.hasher);
  overflow = overflow_facts k t.main t.left alike.overflow clock;
  hashes = hash_facts constants t.main t.hasher gives alike.hasher (whole.counts table.Hasher).most;
  bits =
      bit_facts t.main t.bitwise (record { table = whole.bitwise; whole = (whole.counts table.Bitwise).whole; zero = accepted.zero table.Bitwise })
      alike.bits;
  memory = λ contexts.
      main_serves t.main t.memory (record { few = omega (arith, few); clocks = clock; contexts = contexts })
      (record { table = whole.memory; zero = accepted.zero table.Memory }) (memory_limbs t.memory t.range short alike.limbs) alike.memory;
  ranges = range_facts t.range short t.main alike.range;
  kernel = kernel_facts k p.statement.kernel_words t.kernel whole.kernel (accepted.zero table.Kernel)
      (shows.first (omega (arith, (whole.counts table.Main).least))).kernel t.main alike.kernel;
}
  where
    k : Claim
    k = claim_of p t

    constants : List ℕ
    constants = constants_of p.params

    alike : Alike p t
    alike = all_alike p t accepted

    few : length t.main ≤ 2 ^ 19
    few = (whole.counts table.Main).most

    shows : ShowsRows (claim_of p t) t.main
    shows = trace_shown p t whole.counts whole.main whole.left accepted.zero

    clock : (i : ℕ) → i < length t.main → clk (row_at t.main i) ≡ i
    clock = clock_is (claim_of p t) t.main shows (omega (arith, few))

    short : (i : ℕ) → i < length t.range → v (row_at t.range i) < 2 ^ 16
    short = values_short t.range whole.range (whole.counts table.Range).most (accepted.zero table.Range)

    gives : TableGives (constants_of p.params) t.hasher (hasher_gives t.hasher)
    gives = table_gives (claim_of p t) t.hasher len
        (record { table = whole.hasher; whole = (whole.counts table.Hasher).whole; zero = accepted.zero table.Hasher })

    positive : (j : ℕ) → Starts t.main j → 0 < own t.main j
    positive = own_positive (constants_of p.params) t.main t.hasher gives alike.hasher

    one : (i j : ℕ) → Starts t.main i → Starts t.main j → own t.main i ≡ own t.main j → i ≡ j
    one = own_one (constants_of p.params) t.main t.hasher gives alike.hasher
