use Rattle.std.proofs.Common.{◌≡◌, Some, slice_get, slice_index}
use Rattle.masm_tree.specs.declared.keyword.TheConstants.{SLOTS, KEYWORDS}
use Rattle.masm_tree.specs.Keywords.{slot}
use Rattle.masm_tree.proofs.KeywordLemmas.{at_slot}
use Rattle.masm_tree.proofs.keyword.guess.Goals as goal

pub returns : goal.returns
returns c = λ keyword same.
    let here : slice_get KEYWORDS (slice_index SLOTS (slot c.args.text.now)) ≡ Some keyword = at_slot keyword c.args.text.now same in
    let found : slice_get KEYWORDS (slice_index SLOTS c.slot.result) ≡ Some keyword = rw c.slot.ensures.slot here in
    cc (found, c.keyword_at.ensures, c.from.ensures)
