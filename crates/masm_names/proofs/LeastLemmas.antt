-- The least of the refusals that stand, as they are found one by one.
use Rattle.std.proofs.Common.{◌≡◌, ℕ, List, length, get_or, slice_get, unwrap_or, ◌+◌, ◌<◌, ◌≤◌, true, false, cond, Option, Some, None, eqb, ltb, leb, ◌⊎◌, inl, inr, refl, sym, ap, ap₂, subst, ◌∙◌, arith}
use Rattle.std.proofs.lemmas.Bool.{cases_lt}
use Rattle.std.proofs.lemmas.Bool.Decides.{eqb_tells, nat_tests}
use Rattle.std.proofs.lemmas.Option.{slice_get_read, slice_get_within}
use Rattle.masm_tree.specs.declared.tree.Position.{Position}
use Rattle.masm_names.specs.declared.refusal.LinkCause.{LinkCause}
use Rattle.masm_names.specs.declared.refusal.Refusal.{Refusal}
use Rattle.masm_names.specs.Among.{AmongFirst, Among}
use Rattle.masm_names.specs.Causes.{order}
use Rattle.masm_names.specs.Earlier.{is_no_later, earlier}
use Rattle.masm_names.specs.Least.{ComesBefore, IsLeast, FindsLeast}

-- one refusal is not behind another
abbrev pub IsNoLater : Position → LinkCause → Position → LinkCause → Type 0
IsNoLater at cause other why = ComesBefore at other ⊎ ((at ≡ other) × (order cause ≤ order why))

same_at : (a b : Position) → a.line ≡ b.line → a.column ≡ b.column → a ≡ b
same_at a b l c = ap₂ (λ line column. record { line = line; column = column }) l c

before-trans : (a b c : Position) → ComesBefore a b → ComesBefore b c → ComesBefore a c
before-trans a b c (inl p) (inl q) = inl (omega arith)
before-trans a b c (inl p) (inr q) = inl (let e = q.0 in omega arith)
before-trans a b c (inr p) (inl q) = inl (let e = p.0 in omega arith)
before-trans a b c (inr p) (inr q) = inr (p.0 ∙ q.0, let d = p.1 in let e = q.1 in omega arith)

pub no_later-trans : (a : Position) (x : LinkCause) (b : Position) (y : LinkCause) (c : Position) (z : LinkCause)
    → IsNoLater a x b y → IsNoLater b y c z → IsNoLater a x c z
no_later-trans a x b y c z (inl p) (inl q) = inl (before-trans a b c p q)
no_later-trans a x b y c z (inl p) (inr q) = inl (subst (ComesBefore a) q.0 p)
no_later-trans a x b y c z (inr p) (inl q) = inl (subst (λ d. ComesBefore d c) (sym p.0) q)
no_later-trans a x b y c z (inr p) (inr q) = inr (p.0 ∙ q.0, let d = p.1 in let e = q.1 in omega arith)

-- the comparison of two numbers
tells : (m n : ℕ) → ((m < n) × (ltb m n ≡ true))
    ⊎ (((m ≡ n) × (ltb m n ≡ false) × (eqb m n ≡ true)) ⊎ ((n < m) × (ltb m n ≡ false) × (eqb m n ≡ false)))
tells m n = elim (cases_lt m n) [
  | inl less ↦ inl (less, grind (arith, nat_tests))
  | inr more ↦ elim (eqb_tells m n) [
    | inl same ↦ inr (inl (same.1, grind (arith, nat_tests), same.0))
    | inr other ↦ inr (inr (let apart = other.1 in omega arith, grind (arith, nat_tests), other.0))
  ]
]

told : (m n : ℕ) → ((m ≤ n) × (leb m n ≡ true)) ⊎ ((n < m) × (leb m n ≡ false))
told m n = elim (cases_lt n m) [
  | inl more ↦ inr (more, grind (arith, nat_tests))
  | inr less ↦ inl (less, grind (arith, nat_tests))
]

pub is_no_later-tells : (a b : Refusal)
    → ((is_no_later a b ≡ true) × IsNoLater a.at a.cause b.at b.cause) ⊎ ((is_no_later a b ≡ false) × IsNoLater b.at b.cause a.at a.cause)
is_no_later-tells a b = elim (tells a.at.line b.at.line) [
  | inl less ↦ inl (rw less.1 refl, inl (inl less.0))
  | inr (inr more) ↦ inr (rw (more.1, more.2) refl, inl (inl more.0))
  | inr (inl line) ↦ elim (tells a.at.column b.at.column) [
    | inl less ↦ inl (rw (line.1, line.2, less.1) refl, inl (inr (line.0, less.0)))
    | inr (inr more) ↦ inr (rw (line.1, line.2, more.1, more.2) refl, inl (inr (sym line.0, more.0)))
    | inr (inl column) ↦
        let same : a.at ≡ b.at = same_at a.at b.at line.0 column.0 in
        elim (told (order a.cause) (order b.cause)) [
          | inl less ↦ inl (rw (line.1, line.2, column.1, column.2, less.1) refl, inr (same, less.0))
          | inr more ↦ inr (rw (line.1, line.2, column.1, column.2, more.1) refl, inr (sym same, let m = more.0 in omega arith))
        ]
  ]
]

-- the causes of either
abbrev pub Either : (P Q : Position → LinkCause → Type 0) → Position → LinkCause → Type 0
Either P Q at cause = P at cause ⊎ Q at cause

pub FindsLeast-same : (P Q : Position → LinkCause → Type 0) (r : Option Refusal) → ((at : Position) (cause : LinkCause) → P at cause → Q at cause)
    → ((at : Position) (cause : LinkCause) → Q at cause → P at cause) → FindsLeast P r → FindsLeast Q r
FindsLeast-same P Q None to from none = λ at cause q. none at cause (from at cause q)
FindsLeast-same P Q (Some r) to from least =
    record { stands = to r.at r.cause least.stands; first = λ other why q. least.first other why (from other why q) }

-- of two least refusals the one that is not behind is the least of both kinds
least-ahead : (R P Q : Position → LinkCause → Type 0) (a b : Refusal) → R a.at a.cause
    → ((at : Position) (cause : LinkCause) → R at cause → P at cause ⊎ Q at cause) → IsLeast P a.at a.cause → IsLeast Q b.at b.cause
    → IsNoLater a.at a.cause b.at b.cause → IsLeast R a.at a.cause
least-ahead R P Q a b stands either p q ahead = record {
  stands = stands;
  first = λ other why has. elim (either other why has) [
    | inl in_p ↦ p.first other why in_p
    | inr in_q ↦ no_later-trans a.at a.cause b.at b.cause other why ahead (q.first other why in_q)
  ];
}

least-either : (P Q : Position → LinkCause → Type 0) (a b : Refusal) → IsLeast P a.at a.cause → IsLeast Q b.at b.cause → (c : Option Refusal)
    → c ≡ cond (is_no_later a b) (Some a) (Some b) → FindsLeast (Either P Q) c
least-either P Q a b p q c e = elim (is_no_later-tells a b) [
  | inl ahead ↦ subst (FindsLeast (Either P Q)) (sym (e ∙ ap (λ t. cond t (Some a) (Some b)) ahead.0))
      (least-ahead (Either P Q) P Q a b (inl p.stands) (λ at cause has. has) p q ahead.1)
  | inr behind ↦ subst (FindsLeast (Either P Q)) (sym (e ∙ ap (λ t. cond t (Some a) (Some b)) behind.0))
      (least-ahead (Either P Q) Q P b a (inr q.stands) (λ at cause has. elim has [ inl in_p ↦ inr in_p | inr in_q ↦ inl in_q ]) q p behind.1)
]

-- the earlier of two least refusals is the least of both kinds
pub FindsLeast-earlier : (P Q : Position → LinkCause → Type 0) (a b : Option Refusal) → FindsLeast P a → FindsLeast Q b → FindsLeast (Either P Q) (earlier a b)
FindsLeast-earlier P Q None b p q =
    FindsLeast-same Q (Either P Q) b (λ at cause h. inr h)
    (λ at cause h. elim h [ inl in_p ↦ absurd (p at cause in_p) | inr in_q ↦ in_q ]) q
FindsLeast-earlier P Q (Some a) None p q =
    FindsLeast-same P (Either P Q) (Some a) (λ at cause h. inl h) (λ at cause h. elim h [ inl in_p ↦ in_p | inr in_q ↦ absurd (q at cause in_q) ]) p
FindsLeast-earlier P Q (Some a) (Some b) p q = least-either P Q a b p q _ refl

-- the least refusal of one kind, with those of another kind that are found later
pub FindsLeast-with : (P Q : Position → LinkCause → Type 0) (first now : Option Refusal) → FindsLeast P first
    → FindsLeast (λ at cause. (first ≡ Some (record { at = at; cause = cause })) ⊎ Q at cause) now → FindsLeast (Either P Q) now
FindsLeast-with P Q None now p q =
    FindsLeast-same (λ at cause. (None ≡ Some (record { at = at; cause = cause })) ⊎ Q at cause) (Either P Q) now
    (λ at cause h. elim h [ inl e ↦ absurd cc | inr has ↦ inr has ])
    (λ at cause h. elim h [ inl has ↦ absurd (p at cause has) | inr has ↦ inr has ]) q
FindsLeast-with P Q (Some r) None p q = absurd (q r.at r.cause (inl refl))
FindsLeast-with P Q (Some r) (Some s) p q =
    record {
      stands = elim q.stands [ inl e ↦ inl (subst (λ o. P (unwrap_or o r).at (unwrap_or o r).cause) e p.stands) | inr has ↦ inr has ];
      first = λ other why h. elim h [
        | inl has ↦ no_later-trans s.at s.cause r.at r.cause other why (q.first r.at r.cause (inl refl)) (p.first other why has)
        | inr has ↦ q.first other why (inr has)
      ];
    }

pub FindsLeast-itself : (first : Option Refusal) → FindsLeast (λ at cause. first ≡ Some (record { at = at; cause = cause })) first
FindsLeast-itself None = λ at cause e. absurd cc
FindsLeast-itself (Some r) =
    record {
      stands = refl;
      first = λ other why e. inr (ap (λ o. (unwrap_or o r).at) e, (let same = ap (λ o. order (unwrap_or o r).cause) e in omega arith));
    }

-- what is found later stands behind the first refusal
pub FindsLeast-stays : (Q : Position → LinkCause → Type 0) (first : Option Refusal)
    → ((at : Position) (cause : LinkCause) → Q at cause → (r : Refusal) × (first ≡ Some r) × IsNoLater r.at r.cause at cause)
    → FindsLeast (λ at cause. (first ≡ Some (record { at = at; cause = cause })) ⊎ Q at cause) first
FindsLeast-stays Q None behind = λ at cause h. elim h [ inl e ↦ absurd cc | inr has ↦ absurd (let e = (behind at cause has).1 in cc) ]
FindsLeast-stays Q (Some r) behind =
    record {
      stands = inl refl;
      first = λ other why h. elim h [
        | inl e ↦ inr (ap (λ o. (unwrap_or o r).at) e, (let same = ap (λ o. order (unwrap_or o r).cause) e in omega arith))
        | inr has ↦ let b = behind other why has in
            subst (λ o. IsNoLater (unwrap_or o r).at (unwrap_or o r).cause other why) (sym b.1) b.2
      ];
    }

-- The least refusal of a list's elements, as they are tested in order.
module _ {X : Type 0} (P : ℕ → X → Position → LinkCause → Type 0) (items : List X) where
  pub Among-either : (i : ℕ) (x : X) (r : Option Refusal) → i < length items → x ≡ get_or items i x
      → FindsLeast (Either (AmongFirst P items i) (P i x)) r
      → FindsLeast (AmongFirst P items (i + 1)) r
  Among-either i x r within is p =
      let here : slice_get items i ≡ Some x = slice_get_read items (length items) i x refl within is in
      FindsLeast-same (Either (AmongFirst P items i) (P i x)) (AmongFirst P items (i + 1)) r
      (λ at cause h. elim h [ inl below ↦ (below.0, (let l = below.1 in omega arith), below.2) | inr this ↦ (i, omega arith, (x, here, this)) ])
      (λ at cause h. elim (eqb_tells h.0 i) [
        | inl same ↦ inr (moved at cause h.0 h.2.0 x same.1 h.2.1 here h.2.2)
        | inr other ↦ inl (h.0, (let l = h.1 in let apart = other.1 in omega arith), h.2)
      ])
      p
    where
      moved : (at : Position) (cause : LinkCause) (k : ℕ) (y z : X) → k ≡ i → slice_get items k ≡ Some y
          → slice_get items i ≡ Some z → P k y at cause → P i z at cause
      moved at cause k y z same there here has =
          let is_z : y ≡ z = ap (λ o. unwrap_or o y) (sym there ∙ (ap (slice_get items) same ∙ here)) in
          subst (λ w. P i w at cause) is_z (subst (λ j. P j y at cause) same has)

  pub Among-more : (i : ℕ) (x : X) (a b : Option Refusal) → i < length items → x ≡ get_or items i x
      → FindsLeast (AmongFirst P items i) a → FindsLeast (P i x) b
      → FindsLeast (AmongFirst P items (i + 1)) (earlier a b)
  Among-more i x a b within is p q = Among-either i x (earlier a b) within is (FindsLeast-earlier (AmongFirst P items i) (P i x) a b p q)

  pub Among-end : (n : ℕ) (r : Option Refusal) → length items ≤ n → FindsLeast (AmongFirst P items n) r → FindsLeast (Among P items) r
  Among-end n r ended p =
      FindsLeast-same (AmongFirst P items n) (Among P items) r (λ at cause h. (h.0, h.2))
      (λ at cause h. (h.0, (let within = slice_get_within items h.0 h.1.0 h.1.1 in omega arith), h.1)) p
