-- By the row's operation.
use Rattle.std.proofs.Common.{refl}
use Rattle.air_kit.specs.MainTuples.{accesses_of}
use Rattle.vm_ops.specs.declared.op.Op.TheVariants as ops
use Rattle.bus_main.proofs.LookupLemmas.{access_by, no_access, not_access}
use Rattle.bus_kit.specs.Widths.{tallied}
use Rattle.bus_main.proofs.memory.tuples_memory.Goals as goal

pub returns-in-MLoad : goal.returns-in-MLoad
unfolding accesses_of
returns-in-MLoad g c =
    let x = g.V.View.cells c.args.x.now in
    let y = g.V.View.cells c.args.y.now in
    access_by _ _ _ _ x y c.args.op ops.MLoad _ _ c.requires.op c.in-MLoad.is c.element_read.ensures refl c.ask.ensures

pub returns-in-MLoadW : goal.returns-in-MLoadW
unfolding accesses_of
returns-in-MLoadW g c =
    let x = g.V.View.cells c.args.x.now in
    let y = g.V.View.cells c.args.y.now in
    access_by _ _ _ _ x y c.args.op ops.MLoadW _ _ c.requires.op c.in-MLoadW.is c.word_read.ensures refl c.ask-in-MLoadW.ensures

pub returns-in-MStore : goal.returns-in-MStore
unfolding accesses_of
returns-in-MStore g c =
    let x = g.V.View.cells c.args.x.now in
    let y = g.V.View.cells c.args.y.now in
    access_by _ _ _ _ x y c.args.op ops.MStore _ _ c.requires.op c.in-MStore.is c.element_written.ensures refl c.ask-in-MStore.ensures

pub returns-in-MStoreW : goal.returns-in-MStoreW
unfolding accesses_of
returns-in-MStoreW g c =
    let x = g.V.View.cells c.args.x.now in
    let y = g.V.View.cells c.args.y.now in
    access_by _ _ _ _ x y c.args.op ops.MStoreW _ _ c.requires.op c.in-MStoreW.is c.word_written.ensures refl c.ask-in-MStoreW.ensures

pub returns-in_default : goal.returns-in_default
returns-in_default g c =
    let x = g.V.View.cells c.args.x.now in
    let y = g.V.View.cells c.args.y.now in
    no_access 1 (tallied c.args.tally.now) x y c.args.op c.requires.op
    (not_access c.args.op _ _ c.in_default.not-MLoad c.in_default.not-MLoadW c.in_default.not-MStore c.in_default.not-MStoreW)
