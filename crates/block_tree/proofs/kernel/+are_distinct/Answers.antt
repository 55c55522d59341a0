use Rattle.block_tree.proofs.DistinctWords.{distinct-none, distinct-one_more, distinct-twice}
use Rattle.block_tree.proofs.kernel.+are_distinct.Goals as goal

pub returns-in-None : goal.returns-in-None
returns-in-None t c = distinct-none c.args.words.now c.in-None.ensures.cases

pub returns-then-not-contains : goal.returns-then-not-contains
returns-then-not-contains t c =
    distinct-one_more c.args.words.now c.in-Some.rest.now c.in-Some.first.now c.are_distinct.result c.contains.result
    c.in-Some.ensures.cases.0 c.contains.ensures.value c.if-not-contains.true c.are_distinct.ensures

pub returns-else-not-contains : goal.returns-else-not-contains
returns-else-not-contains t c =
    distinct-twice c.args.words.now c.in-Some.rest.now c.in-Some.first.now c.contains.result
    c.in-Some.ensures.cases.0 c.contains.ensures.value c.if-not-contains.false
