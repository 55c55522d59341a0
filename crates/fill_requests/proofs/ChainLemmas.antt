-- The permutations of a hash, one by one.
use Rattle.std.proofs.Common.{◌≡◌, ℕ, ◌+◌, ◌<◌, ◌≤◌, Bool, true, false, List, [], ◌∷◌, ◌++◌, length, get_or, drop, take, sym, refl, ap, ◌∙◌, append_assoc}
use Rattle.std.proofs.lemmas.List.{drop_all}
use Rattle.vm_field.specs.Permutation.{permuted}
use Rattle.vm_field.specs.Sponge.{absorbed, begun}
use Rattle.air_kit.specs.declared.requests.Perm.{Perm}
use Rattle.complete_rows.specs.RunRequests.{chain, hash_perms}
use Rattle.fill_requests.proofs.LoopLemmas.{suffix}

chain-more : (constants state block next : List ℕ) (going : Bool) (rest : List (List ℕ)) → chain constants state going (block ∷ next ∷ rest)
    ≡ record { mode = false; cont = going; more = true; start = take 4 state ++ block }
    ∷ chain constants (absorbed constants state block) true (next ∷ rest)
unfolding chain
chain-more constants state block next going rest = refl

chain-last : (constants state block : List ℕ) (going : Bool) → chain constants state going (block ∷ [])
    ≡ record { mode = false; cont = going; more = false; start = take 4 state ++ block } ∷ []
unfolding chain
chain-last constants state block going = refl

pub chain-step : (constants : List ℕ) (later : List (List ℕ)) (i : ℕ) (state block start behind next : List ℕ) (going : Bool) (perm : Perm)
    (done more : List Perm)
    → i < length later → next ≡ get_or later i next → start ≡ take 4 state ++ block
    → perm ≡ record { mode = false; cont = going; more = true; start = start }
    → behind ≡ permuted constants start → more ≡ done ++ perm ∷ []
    → more ++ chain constants behind true (next ∷ drop (i + 1) later) ≡ done ++ chain constants state going (block ∷ drop i later)
chain-step constants later i state block start behind next going perm done more within is start_is perm_is behind_is added =
    let rest = drop (i + 1) later in
    let state_is : behind ≡ absorbed constants state block = behind_is ∙ ap (permuted constants) start_is in
    let shown : perm ≡ record { mode = false; cont = going; more = true; start = take 4 state ++ block }
    = perm_is ∙ ap (λ (xs : List ℕ). record { mode = false; cont = going; more = true; start = xs }) start_is in
    ap (λ (ps : List Perm). ps ++ chain constants behind true (next ∷ rest)) added
    ∙ append_assoc done (perm ∷ []) (chain constants behind true (next ∷ rest))
    ∙ ap (λ (s : List ℕ). done ++ perm ∷ chain constants s true (next ∷ rest)) state_is
    ∙ ap (λ (p : Perm). done ++ p ∷ chain constants (absorbed constants state block) true (next ∷ rest)) shown
    ∙ ap (λ (ps : List Perm). done ++ ps) (sym (chain-more constants state block next going rest))
    ∙ ap (λ (xs : List (List ℕ)). done ++ chain constants state going (block ∷ xs)) (sym (suffix later i next within is))

pub chain-end : (constants : List ℕ) (later : List (List ℕ)) (i : ℕ) (state block start : List ℕ) (going : Bool) (perm : Perm) (done more : List Perm)
    → length later ≤ i → start ≡ take 4 state ++ block → perm ≡ record { mode = false; cont = going; more = false; start = start }
    → more ≡ done ++ perm ∷ [] → more ≡ done ++ chain constants state going (block ∷ drop i later)
chain-end constants later i state block start going perm done more past start_is perm_is added =
    added ∙ ap (λ (p : Perm). done ++ p ∷ [])
    (perm_is ∙ ap (λ (xs : List ℕ). record { mode = false; cont = going; more = false; start = xs }) start_is)
    ∙ ap (λ (ps : List Perm). done ++ ps) (sym (chain-last constants state block going))
    ∙ ap (λ (xs : List (List ℕ)). done ++ chain constants state going (block ∷ xs)) (sym (drop_all i later past))

pub one_block : (constants : List ℕ) (domain : ℕ) (block : List ℕ) → hash_perms constants domain (block ∷ [])
    ≡ record { mode = false; cont = false; more = false; start = take 4 (begun domain) ++ block } ∷ []
one_block constants domain block = chain-last constants (begun domain) block false
