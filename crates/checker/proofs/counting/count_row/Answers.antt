-- By the table's name: what the row's place counts.
use Rattle.std.proofs.Common.{ap}
use Rattle.air_kit.specs.Places.{Spot}
use Rattle.air_kit.specs.ChipTuples.{chip_asked, chip_given}
use Rattle.air_kit.specs.Rows.{claim_at, spot_at}
use Rattle.air_kit.specs.Traces.{spot_of}
use Rattle.air_kit.specs.declared.trace.TableName.TheVariants as table
use Rattle.bus_main.specs.RowTuples.{main_asked_at, main_given_at}
use Rattle.checker.specs.Settings.{claim_in}
use Rattle.checker.proofs.CountingLemmas.{next_bits, row_counted, row_named}
use Rattle.vm_table.specs.Rows.{row_cells}
use Rattle.checker.proofs.counting.count_row.Goals as goal

pub tuples-requires-clause-next : goal.tuples-requires-clause-next
tuples-requires-clause-next c =
    next_bits row_cells c.args.trace.now.main c.args.row c.place.result.next (ap (λ (s : Spot). s.next) c.place.ensures.spot) c.requires.readable

pub returns-in-Main : goal.returns-in-Main
returns-in-Main c =
    row_named c.ok.result (claim_in c.args.setting.now) c.args.trace.now c.args.name
    table.Main c.args.row c.args.tallies.now c.tuples.new.tallies c.in-Main.is
    (row_counted c.tuples.result c.ok.result (claim_at c.place.result) (claim_in c.args.setting.now)
    (spot_at row_cells c.place.result) (spot_of c.args.trace.now.main c.args.row)
    c.args.tallies.now
    c.tuples.new.tallies (λ k s bus. main_asked_at bus s.row s.cur s.next) (λ k s bus. main_given_at k bus s.row s.cur s.next)
    c.ok.ensures.value c.place.ensures.claim c.place.ensures.spot c.tuples.ensures)

pub returns-in-Range : goal.returns-in-Range
returns-in-Range c =
    row_named c.ok-in-Range.result (claim_in c.args.setting.now) c.args.trace.now
    c.args.name table.Range c.args.row c.args.tallies.now c.tuples_range.new.tallies c.in-Range.is
    (row_counted c.tuples_range.result c.ok-in-Range.result (claim_at c.place-in-Range.result) (claim_in c.args.setting.now)
    (spot_at row_cells c.place-in-Range.result) (spot_of c.args.trace.now.range c.args.row)
    c.args.tallies.now
    c.tuples_range.new.tallies (λ k s bus. chip_asked k bus table.Range s.row s.cur s.next)
    (λ k s bus. chip_given bus table.Range s.row s.cur s.next)
    c.ok-in-Range.ensures.value c.place-in-Range.ensures.claim c.place-in-Range.ensures.spot c.tuples_range.ensures)

pub returns-in-Hasher : goal.returns-in-Hasher
returns-in-Hasher c =
    row_named c.ok-in-Hasher.result (claim_in c.args.setting.now) c.args.trace.now
    c.args.name table.Hasher c.args.row c.args.tallies.now c.tuples_hasher.new.tallies c.in-Hasher.is
    (row_counted c.tuples_hasher.result c.ok-in-Hasher.result (claim_at c.place-in-Hasher.result) (claim_in c.args.setting.now)
    (spot_at row_cells c.place-in-Hasher.result) (spot_of c.args.trace.now.hasher c.args.row)
    c.args.tallies.now
    c.tuples_hasher.new.tallies (λ k s bus. chip_asked k bus table.Hasher s.row s.cur s.next)
    (λ k s bus. chip_given bus table.Hasher s.row s.cur s.next)
    c.ok-in-Hasher.ensures.value c.place-in-Hasher.ensures.claim c.place-in-Hasher.ensures.spot c.tuples_hasher.ensures)

pub returns-in-Bitwise : goal.returns-in-Bitwise
returns-in-Bitwise c =
    row_named c.ok-in-Bitwise.result (claim_in c.args.setting.now) c.args.trace.now
    c.args.name table.Bitwise c.args.row c.args.tallies.now c.tuples_bitwise.new.tallies c.in-Bitwise.is
    (row_counted c.tuples_bitwise.result c.ok-in-Bitwise.result (claim_at c.place-in-Bitwise.result) (claim_in c.args.setting.now)
    (spot_at row_cells c.place-in-Bitwise.result) (spot_of c.args.trace.now.bitwise c.args.row)
    c.args.tallies.now
    c.tuples_bitwise.new.tallies (λ k s bus. chip_asked k bus table.Bitwise s.row s.cur s.next)
    (λ k s bus. chip_given bus table.Bitwise s.row s.cur s.next)
    c.ok-in-Bitwise.ensures.value c.place-in-Bitwise.ensures.claim c.place-in-Bitwise.ensures.spot c.tuples_bitwise.ensures)

pub returns-in-Memory : goal.returns-in-Memory
returns-in-Memory c =
    row_named c.ok-in-Memory.result (claim_in c.args.setting.now) c.args.trace.now
    c.args.name table.Memory c.args.row c.args.tallies.now c.tuples_memory.new.tallies c.in-Memory.is
    (row_counted c.tuples_memory.result c.ok-in-Memory.result (claim_at c.place-in-Memory.result) (claim_in c.args.setting.now)
    (spot_at row_cells c.place-in-Memory.result) (spot_of c.args.trace.now.memory c.args.row)
    c.args.tallies.now
    c.tuples_memory.new.tallies (λ k s bus. chip_asked k bus table.Memory s.row s.cur s.next)
    (λ k s bus. chip_given bus table.Memory s.row s.cur s.next)
    c.ok-in-Memory.ensures.value c.place-in-Memory.ensures.claim c.place-in-Memory.ensures.spot c.tuples_memory.ensures)

pub returns-in-Kernel : goal.returns-in-Kernel
returns-in-Kernel c =
    row_named c.ok-in-Kernel.result (claim_in c.args.setting.now) c.args.trace.now
    c.args.name table.Kernel c.args.row c.args.tallies.now c.tuples_kernel.new.tallies c.in-Kernel.is
    (row_counted c.tuples_kernel.result c.ok-in-Kernel.result (claim_at c.place-in-Kernel.result) (claim_in c.args.setting.now)
    (spot_at row_cells c.place-in-Kernel.result) (spot_of c.args.trace.now.kernel c.args.row)
    c.args.tallies.now
    c.tuples_kernel.new.tallies (λ k s bus. chip_asked k bus table.Kernel s.row s.cur s.next)
    (λ k s bus. chip_given bus table.Kernel s.row s.cur s.next)
    c.ok-in-Kernel.ensures.value c.place-in-Kernel.ensures.claim c.place-in-Kernel.ensures.spot c.tuples_kernel.ensures)

pub returns-in-Left : goal.returns-in-Left
returns-in-Left c =
    row_named c.ok-in-Left.result (claim_in c.args.setting.now) c.args.trace.now
    c.args.name table.Left c.args.row c.args.tallies.now c.tuples_left.new.tallies c.in-Left.is
    (row_counted c.tuples_left.result c.ok-in-Left.result (claim_at c.place-in-Left.result) (claim_in c.args.setting.now)
    (spot_at row_cells c.place-in-Left.result) (spot_of c.args.trace.now.left c.args.row)
    c.args.tallies.now
    c.tuples_left.new.tallies (λ k s bus. chip_asked k bus table.Left s.row s.cur s.next)
    (λ k s bus. chip_given bus table.Left s.row s.cur s.next)
    c.ok-in-Left.ensures.value c.place-in-Left.ensures.claim c.place-in-Left.ensures.spot c.tuples_left.ensures)
