use Rattle.std.proofs.Common.{◌++◌, map, refl, sym, ap, ◌∙◌, append-nil}
use Rattle.std.proofs.lemmas.Iterator.{YieldsList-from_slice, YieldsList-from_zip}
use Rattle.std.proofs.lemmas.Iterator.Consumers.{YieldsList-at, YieldsList-end}
use Rattle.run_chain.specs.Reads.{named_as}
use Rattle.run_chain.proofs.NameLemmas.{added-more, added-all}
use Rattle.run_chain.proofs.naming.add_names.Goals as goal

pub loop-role-init : goal.loop-role-init
loop-role-init c = sym (append-nil (map named_as c.args.seen.now.items))

pub loop-role-preserved : goal.loop-role-preserved
loop-role-preserved c =
    rw c.in_ok-push.ensures.items
    (added-more c.args.seen.now.items c.loop-role.seen.items c.loop-role.yielded _ (c.in-Some.role, c.in-Some.name) refl c.loop-role.invariant)

pub returns : goal.returns
returns c =
    let end = YieldsList-end
    (YieldsList-at c.into_iter-role-iterator.ensures.into_iter_gives
    (YieldsList-from_zip (YieldsList-at c.zip-role-items.ensures.first (YieldsList-from_slice c.args.roles.now c.iter.ensures.rest))
    (YieldsList-at c.zip-role-items.ensures.second (YieldsList-from_slice c.args.names.now c.iter-2.ensures.rest))))
    c.loop-role.yielded c.loop-role.role-iterator c.loop-role.yielded_by c.next.result c.next.new.self c.in-None.is c.next.ensures.steps in
    c.loop-role.invariant
    ∙ ap (λ ns. map named_as c.args.seen.now.items ++ ns) (added-all c.args.roles.now c.args.names.now c.loop-role.yielded end.0)
