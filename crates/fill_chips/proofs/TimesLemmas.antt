-- Counts of asked values and of called words, one by one.
use Rattle.fill_chips.proofs.Words.{◌≡◌, ℕ, ◌+◌, ◌<◌, ◌≤◌, inl, inr, Bool, true, false, cond, eqb, nat_eq, Option, Some, unwrap_or, List, length, get_or, set}
use Rattle.fill_chips.proofs.Words.{take, refl, sym, ap, subst, ◌∙◌, arith, get_or-set_other, get_or-set_same, length-take, cases_eq, nat_tests}
use Rattle.fill_chips.proofs.Words.{count_by-le-length, sum_by_more, same_text, pointwise, times_asked, times_called}

pub times-few : (asked : List ℕ) (i v : ℕ) → times_asked (take i asked) v ≤ i
times-few asked i v = let few = count_by-le-length (λ value. eqb value v) (take i asked) in omega (arith, few, length-take i asked)

times-next : (asked : List ℕ) (i v : ℕ) → i < length asked
    → times_asked (take (i + 1) asked) v ≡ times_asked (take i asked) v + cond (eqb (get_or asked i 0) v) 1 0
times-next asked i v within = sum_by_more (λ value. cond (eqb value v) 1 0) asked i 0 within

-- one more value that is counted above what was
pub times-more : (had : ℕ → ℕ) (asked times : List ℕ) (i value n v : ℕ) → i < length asked → value ≡ get_or asked i 0 → value < length times
    → n ≡ get_or times value 0 → get_or times value 0 ≡ had value + times_asked (take i asked) value
    → get_or times v 0 ≡ had v + times_asked (take i asked) v → get_or (set times value (n + 1)) v 0 ≡ had v + times_asked (take (i + 1) asked) v
times-more had asked times i value n v within is low n_is own other =
    let next = times-next asked i v within in
    elim (cases_eq value v) [
      | inl same ↦
          let here : get_or (set times value (n + 1)) value 0 ≡ n + 1 = get_or-set_same times value (n + 1) 0 low in
          let moved : get_or (set times value (n + 1)) v 0 ≡ n + 1 = subst (λ w. get_or (set times value (n + 1)) w 0 ≡ n + 1) same here in
          let alike : times_asked (take i asked) value ≡ times_asked (take i asked) v = ap (times_asked (take i asked)) same in
          let alike_had : had value ≡ had v = ap had same in
          grind (arith, nat_tests)
      | inr apart ↦
          let there : get_or (set times value (n + 1)) v 0 ≡ get_or times v 0 = get_or-set_other times value v (n + 1) 0 (λ e. apart (sym e)) in
          grind (arith, nat_tests)
    ]

-- ---- words

pub calls-few : (calls : List (List ℕ)) (i : ℕ) (word : List ℕ) → times_called (take i calls) word ≤ i
calls-few calls i word = let few = count_by-le-length (λ call. pointwise nat_eq call word) (take i calls) in omega (arith, few, length-take i calls)

pub calls-more : (calls : List (List ℕ)) (i : ℕ) (word u : List ℕ) (had now : Option ℕ) (n : ℕ) → i < length calls → word ≡ get_or calls i word
    → now ≡ cond (pointwise nat_eq word u) (Some (n + 1)) had → n ≡ times_called (take i calls) word → unwrap_or had 0 ≡ times_called (take i calls) u
    → unwrap_or now 0 ≡ times_called (take (i + 1) calls) u
calls-more calls i word u had now n within is put own other =
    let next : times_called (take (i + 1) calls) u ≡ times_called (take i calls) u + cond (pointwise nat_eq word u) 1 0 =
    sum_by_more (λ call. cond (pointwise nat_eq call u) 1 0) calls i word within
    ∙ ap (λ call. times_called (take i calls) u + cond (pointwise nat_eq call u) 1 0) (sym is) in
    by_test (pointwise nat_eq word u) refl next put
  where
    by_test : (b : Bool) → pointwise nat_eq word u ≡ b → times_called (take (i + 1) calls) u ≡ times_called (take i calls) u + cond b 1 0
        → now ≡ cond b (Some (n + 1)) had → unwrap_or now 0 ≡ times_called (take (i + 1) calls) u
    by_test true same next put =
        let alike : times_called (take i calls) word ≡ times_called (take i calls) u =
        ap (times_called (take i calls)) (same_text word u (sym same)) in
        ap (λ o. unwrap_or o 0) put ∙ omega (arith, own, alike, next)
    by_test false apart next put = ap (λ o. unwrap_or o 0) put ∙ omega (arith, other, next)
