use Rattle.fill_chips.proofs.Words.{◌≡◌, [], ◌∷◌}
use Rattle.rpo_hash.proofs.Lists.{twelve_elements}
use Rattle.fill_chips.proofs.hasher.row_of.Goals as goal

pub returns : goal.returns
returns c =
    let state = c.args.state.now in
    let literal : state ≡ c.index-state-0.result ∷ c.index-state-1.result ∷ c.index-state-2.result ∷ c.index-state-3.result
    ∷ c.index-state-4.result ∷ c.index-state-5.result
    ∷ c.index-state-6.result ∷ c.index-state-7.result ∷ c.index-state-8.result ∷ c.index-state-9.result ∷ c.index-state-10.result
    ∷ c.index-state-11.result ∷ [] =
    twelve_elements state _ _ _ _ _ _ _ _ _ _ _ _ c.told-state c.index-state-0.is c.index-state-1.is c.index-state-2.is
    c.index-state-3.is c.index-state-4.is
    c.index-state-5.is c.index-state-6.is c.index-state-7.is c.index-state-8.is c.index-state-9.is c.index-state-10.is c.index-state-11.is in
    rw literal cc
