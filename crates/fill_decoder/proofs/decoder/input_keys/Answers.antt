use Rattle.std.proofs.Common.{◌≡◌, ℕ, zero, suc, ◌-◌, List, [], ◌∷◌, refl, ap, ◌∙◌, arith}
use Rattle.air_kit.specs.DeepCells.{input_key, input_keys}
use Rattle.fill_decoder.proofs.decoder.input_keys.Goals as goal

none : (i n : ℕ) → n ≡ 0 → [] ≡ input_keys i n
unfolding input_keys
none i zero e = refl
none i (suc n) e = absurd (omega (arith, e))

one_more : (i n m : ℕ) → n ≡ suc m → input_key i ∷ input_keys (suc i) m ≡ input_keys i n
unfolding input_keys
one_more i zero m e = absurd (omega (arith, e))
one_more i (suc n) m e = ap (λ (k : ℕ). input_key i ∷ input_keys (suc i) k) (let same : m ≡ n = omega (arith, e) in same)

pub loop-i-init : goal.loop-i-init
loop-i-init c = c.new-keys.ensures ∙ none c.args.count (c.args.count - c.args.count) (omega arith)

pub loop-i-preserved : goal.loop-i-preserved
loop-i-preserved c =
    let count = c.args.count in
    let i = c.loop-i.i in
    let j = i - 1 in
    let next : i ≡ suc j = omega arith in
    let more : count - j ≡ suc (count - i) = omega arith in
    c.in_ok-push.ensures
    ∙ ap (λ (key : ℕ). key ∷ c.loop-i.keys) c.input_key.ensures
    ∙ ap (λ (keys : List ℕ). input_key j ∷ keys) (c.loop-i.invariant ∙ ap (λ (n : ℕ). input_keys n (count - i)) next)
    ∙ one_more j (count - j) (count - i) more

pub returns : goal.returns
returns c =
    let past : c.loop-i.i ≡ 0 = omega arith in
    let all : c.args.count - c.loop-i.i ≡ c.args.count = omega arith in
    c.loop-i.invariant ∙ ap (λ (n : ℕ). input_keys n (c.args.count - c.loop-i.i)) past ∙ ap (input_keys 0) all
