-- The word of the last access of a place before a clock, whether it was read or written there.
use Rattle.facts_memory.proofs.Words.{◌≡◌, ◌≢◌, ℕ, zero, suc, ◌<◌, ◌≤◌, ◌==◌, inl, inr, ⊎_elim, true, false, cond, List, Option, Some, None, refl, sym}
use Rattle.facts_memory.proofs.Words.{ap, ap₂, ◌∙◌, arith, unwrap_or, cases_Bool, eqb-true, WordMap, place_cmp, word_at, zero_word, Access, Keeps}
use Rattle.facts_memory.proofs.Words.{is_at, memory_before, memory_behind}
use Rattle.std.specs.FinMap.{get-empty, insert}
use Rattle.vm_field.proofs.Places.{word_at-insert_same, word_at-insert_other}
use Rattle.facts_memory.proofs.Words.{Bool}
use Rattle.facts_memory.proofs.Numbers.{last_or}
use Rattle.facts_memory.proofs.RowOrder.{at_same, place_is}

abbrev pub latest_of : Option Access → ℕ → ℕ → List ℕ → List ℕ
latest_of None c d word = word
latest_of (Some a) c d word = cond (is_at a c d) a.word word

unfoldable pub latest : (ℕ → Option Access) → ℕ → ℕ → ℕ → List ℕ
latest asks zero c d = zero_word
latest asks (suc i) c d = latest_of (asks i) c d (latest asks i c d)

-- no access of this place from one clock on to another
abbrev pub NoneOf : (ℕ → Option Access) → ℕ → ℕ → ℕ → ℕ → Type 0
NoneOf asks from to c d = (k : ℕ) (b : Access) → from ≤ k → k < to → asks k ≡ Some b → is_at b c d ≡ true → ⊥

not_there : (o : Option Access) (c d : ℕ) (word : List ℕ) → ((b : Access) → o ≡ Some b → is_at b c d ≡ true → ⊥) → latest_of o c d word ≡ word
not_there None c d word none = refl
not_there (Some b) c d word none = elim (cases_Bool (is_at b c d)) [
  | inl is ↦ absurd (none b refl is)
  | inr not ↦ ap (λ t. cond t b.word word) not
]

pub latest-none : (asks : ℕ → Option Access) (i c d : ℕ) → NoneOf asks 0 i c d → latest asks i c d ≡ zero_word
unfolding latest
latest-none asks zero c d none = refl
latest-none asks (suc i) c d none =
    not_there (asks i) c d (latest asks i c d) (λ b is at. none i b (omega arith) (omega arith) is at)
    ∙ latest-none asks i c d (λ k b low high. none k b low (omega (arith, high)))

there : (o : Option Access) (a : Access) (c d : ℕ) (word : List ℕ) → o ≡ Some a → is_at a c d ≡ true → latest_of o c d word ≡ a.word
there o a c d word is at = ap (λ p. latest_of p c d word) is ∙ ap (λ t. cond t a.word word) at

pub latest-at : (asks : ℕ → Option Access) (i j c d : ℕ) (a : Access) → j < i → asks j ≡ Some a → is_at a c d ≡ true
    → NoneOf asks (suc j) i c d → latest asks i c d ≡ a.word
unfolding latest
latest-at asks zero j c d a h is at none = absurd (omega (arith, h))
latest-at asks (suc i) j c d a h is at none =
    ⊎_elim
    (λ before.
    not_there (asks i) c d (latest asks i c d) (λ b is' at'. none i b (omega (arith, before)) (omega arith) is' at')
    ∙ latest-at asks i j c d a before is at (λ k b low high. none k b low (omega (arith, high))))
    (λ (same : j ≡ i). there (asks i) a c d (latest asks i c d) (ap asks (sym same) ∙ is) at) (last_or j i h)

-- ---- memory

other_place : (a : Access) (c d : ℕ) → is_at a c d ≡ false → ◌≢◌ {A = ℕ × ℕ} (c, d) (a.ctx, a.addr)
other_place a c d not same =
    let yes : is_at a c d ≡ true = at_same a c d (sym (ap (λ (p : ℕ × ℕ). p.0) same)) (sym (ap (λ (p : ℕ × ℕ). p.1) same)) in
    absurd (let clash : ⊥ = cc in clash)

-- memory behind an access, where memory and the words before it are alike
behind_one : (a : Access) (memory : WordMap) (w : ℕ → ℕ → List ℕ) → ((c d : ℕ) → word_at memory c d ≡ w c d)
    → (a.kind ≡ 0 → a.word ≡ w a.ctx a.addr) → (c d : ℕ) → word_at (memory_behind (Some a) memory) c d ≡ latest_of (Some a) c d (w c d)
behind_one a memory w alike reads c d = by (a.kind == 0) (is_at a c d) refl refl
  where
    by : (s t : Bool) → (a.kind == 0) ≡ s → is_at a c d ≡ t
        → word_at (cond s memory (insert memory (a.ctx, a.addr) a.word)) c d ≡ cond t a.word (w c d)
    by true true read at = alike c d ∙ sym (reads (eqb-true a.kind 0 read) ∙ ap₂ w (place_is a c d at).0 (place_is a c d at).1)
    by true false read other = alike c d
    by false true write at =
        ap₂ (λ p q. word_at (insert memory (a.ctx, a.addr) a.word) p q) (sym (place_is a c d at).0) (sym (place_is a c d at).1)
        ∙ word_at-insert_same memory a.ctx a.addr a.word
    by false false write other = word_at-insert_other memory (a.ctx, a.addr) a.word c d (other_place a c d other) ∙ alike c d

-- each access shows the latest word of its place
abbrev pub KeepLatest : (ℕ → Option Access) → ℕ → Type 0
KeepLatest asks m = (i : ℕ) (a : Access) → i < m → asks i ≡ Some a → Keeps a (latest asks i a.ctx a.addr)

-- behind an access or none
behind_any : (o : Option Access) (memory : WordMap) (w : ℕ → ℕ → List ℕ) → ((c d : ℕ) → word_at memory c d ≡ w c d)
    → ((a : Access) → o ≡ Some a → a.kind ≡ 0 → a.word ≡ w a.ctx a.addr) → (c d : ℕ)
    → word_at (memory_behind o memory) c d ≡ latest_of o c d (w c d)
behind_any None memory w alike reads c d = alike c d
behind_any (Some a) memory w alike reads c d = behind_one a memory w alike (reads a refl) c d

pub memory_latest : (asks : ℕ → Option Access) (m : ℕ) → KeepLatest asks m → (i : ℕ) → i ≤ m → (c d : ℕ)
    → word_at (memory_before asks i) c d ≡ latest asks i c d
unfolding memory_before latest
memory_latest asks m keep zero h c d = ap (λ o. unwrap_or o zero_word) (get-empty place_cmp (c, d))
memory_latest asks m keep (suc i) h c d =
    behind_any (asks i) (memory_before asks i) (λ p q. latest asks i p q) (λ p q. memory_latest asks m keep i (omega (arith, h)) p q)
    (λ a is. (keep i a (omega (arith, h)) is).reads) c d
