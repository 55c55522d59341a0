-- Statements that take no cycle, passed one by one.
use Rattle.std.proofs.Common.{◌≡◌, ℕ, zero, suc, ◌<◌, Some, None, unwrap_or, option_map, refl, ap, sym, ◌∙◌, arith}
use Rattle.masm_places.specs.Texts.{Texts}
use Rattle.masm_places.specs.Pending.{Walk}
use Rattle.masm_places.specs.Silent.{lost, silent, settled_in, settled, most_silent_steps}

pub begins : (texts : Texts) (w : Walk) → settled_in most_silent_steps texts w ≡ settled texts w
unfolding settled
begins texts w = refl

-- one more
pub goes_on : (texts : Texts) (n m : ℕ) (w v : Walk) → n ≡ suc m → Some v ≡ silent texts w → settled_in n texts w ≡ settled_in m texts v
unfolding settled_in
goes_on texts zero m w v one is = absurd (omega arith)
goes_on texts (suc n) m w v one is =
    ap (λ o. unwrap_or (option_map (settled_in n texts) o) w) (sym is) ∙ ap (λ k. settled_in k texts v) same
  where
    same : n ≡ m
    same = omega arith

-- none is left
pub stops : (texts : Texts) (n : ℕ) (w : Walk) → 0 < n → None ≡ silent texts w → settled_in n texts w ≡ w
unfolding settled_in
stops texts zero w some is = absurd (omega arith)
stops texts (suc n) w some is = ap (λ o. unwrap_or (option_map (settled_in n texts) o) w) (sym is)

-- too many are
pub gives_up : (texts : Texts) (n : ℕ) (w : Walk) → n ≡ 0 → settled_in n texts w ≡ lost w
unfolding settled_in
gives_up texts zero w none = refl
gives_up texts (suc n) w none = absurd (omega arith)
