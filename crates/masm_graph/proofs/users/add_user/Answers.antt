use Rattle.masm_graph.proofs.UserLemmas.{user-added}
use Rattle.masm_graph.proofs.users.add_user.Goals as goal

pub returns-in_ok-push-clause-edges : goal.returns-in_ok-push-clause-edges
returns-in_ok-push-clause-edges c =
    user-added c.args.users.now.items c.in-Own.place c.args.user c.index_mut.result.now c.push.new.self c.args.link.target
    (c.requires.within c.in-Own.place c.in-Own.is)
    c.index_mut.ensures.value c.in_ok-push.ensures.items c.in-Own.is
