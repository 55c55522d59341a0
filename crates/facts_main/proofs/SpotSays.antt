-- What an entry says in its place: of a row, of a row and the one behind it, of the first row, or of the last one.
use Rattle.facts_main.proofs.Words.{◌≡◌, ℕ, ◌<◌, Bool, true, false, cond, eqb, List, Option, Some, None, refl, sym, ap, ◌∙◌, inl, inr, lit<, cases_Bool}
use Rattle.facts_main.proofs.Words.{eqb-true, prime, Op, flag, op_of, RowEntry, PairEntry, Spot, on_row, on_pair, between, at_first, at_last, at_end, HasOps}
use Rattle.facts_main.proofs.Words.{ReadsAs}
use Rattle.facts_main.proofs.Says.{Says}
use Rattle.facts_main.proofs.Hot.{hot, row_says, pair_says}

-- what holds of the row behind, if there is one
abbrev pub Behind : Spot → (List ℕ → Type 0) → Type 0
Behind p P = (y : List ℕ) → p.next ≡ Some y → P y

pub row_at : {op : Op} {p : Spot} {P : Type 0} (entry : RowEntry) → HasOps op p → Says (entry (hot op) p.cur) P → Says (on_row entry p) P
row_at entry r s = row_says entry r.here.has s

-- a value that counts in some places alone
pub counts_where : {v w : ℕ} {P : Type 0} (A : Type 0) → w < prime → (A → w ≡ v) → ((A → v ≡ 0) → w ≡ 0) → Says v P → Says w (A → P)
counts_where A low there back s = record {
  low = low;
  shown = λ z here. s.shown (sym (there here) ∙ z);
  zero_where = λ h. back (λ here. s.zero_where (h here));
}

first_where : (n v : ℕ) → (n ≡ 0 → v ≡ 0) → cond (eqb n 0) v 0 ≡ 0
first_where n v h =
    elim (cases_Bool (eqb n 0)) [
      | inl is ↦ rw is (h (eqb-true n 0 is))
      | inr other ↦ rw other refl
    ]

cond_low : (t : Bool) (v : ℕ) → v < prime → cond t v 0 < prime
cond_low true v low = low
cond_low false v low = lit< tt

pub first_at : {op : Op} {p : Spot} {P : Type 0} (entry : RowEntry) → HasOps op p → Says (entry (hot op) p.cur) P
    → Says (at_first entry p) (p.row ≡ 0 → P)
first_at {p = p} entry r s =
    let at_row = row_at entry r s in
    counts_where (p.row ≡ 0) (cond_low (eqb p.row 0) (on_row entry p) at_row.low) (λ e. ap (λ n. cond (eqb n 0) (on_row entry p) 0) e)
    (λ h. first_where p.row (on_row entry p) h) at_row

end_where : (next : Option (List ℕ)) (v : ℕ) → (next ≡ None → v ≡ 0) → at_end v next ≡ 0
end_where None v h = h refl
end_where (Some y) v h = refl

end_low : (next : Option (List ℕ)) (v : ℕ) → v < prime → at_end v next < prime
end_low None v low = low
end_low (Some y) v low = lit< tt

pub last_at : {op : Op} {p : Spot} {P : Type 0} (entry : RowEntry) → HasOps op p → Says (entry (hot op) p.cur) P
    → Says (at_last entry p) (p.next ≡ None → P)
last_at {p = p} entry r s =
    let at_row = row_at entry r s in
    counts_where (p.next ≡ None) (end_low p.next (on_row entry p) at_row.low) (λ e. ap (at_end (on_row entry p)) e)
    (λ h. end_where p.next (on_row entry p) h) at_row

between_says : {P : List ℕ → Type 0} (entry : PairEntry) (x : List ℕ) (next : Option (List ℕ))
    → ((y : List ℕ) → next ≡ Some y → Says (entry (flag x) (flag y) x y) (P y)) → Says (between entry x next) ((y : List ℕ) → next ≡ Some y → P y)
between_says entry x None s = record { low = lit< tt; shown = λ z y e. absurd (let none : ⊥ = cc in none); zero_where = λ h. refl }
between_says {P = P} entry x (Some y) s =
    record { low = (s y refl).low; shown = λ z u e. shown_at z u e; zero_where = λ h. (s y refl).zero_where (h y refl) }
  where
    shown_at : entry (flag x) (flag y) x y ≡ 0 → (u : List ℕ) → Some y ≡ Some u → P u
    shown_at z u e =
        let same : u ≡ y = cc in
        (s u e).shown (ap (λ v. entry (flag x) (flag v) x v) same ∙ z)

pub pair_at : {op : Op} {p : Spot} {P : List ℕ → Type 0} (entry : PairEntry) → HasOps op p
    → ((y : List ℕ) → ReadsAs (op_of y) y → Says (entry (hot op) (hot (op_of y)) p.cur y) (P y))
    → Says (on_pair entry p) (Behind p P)
pair_at {p = p} entry r s = between_says entry p.cur p.next (λ y e. pair_says entry r.here.has (r.behind y e).has (s y (r.behind y e)))
