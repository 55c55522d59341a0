-- The rows of accesses, one by one, and that accesses that fit are shown by them.
use Rattle.fill_chips.proofs.Words.{◌≡◌, ℕ, suc, ◌+◌, ◌<◌, ◌≤◌, ◌/◌, ◌%◌, List, [], ◌∷◌, ◌++◌, length, get_or, slice_index, drop, Option, None, Some, All}
use Rattle.fill_chips.proofs.Words.{Result, Ok, Err, IfOk, refl, sym, ap, ap₂, subst, ◌∙◌, add-one, append_assoc, drop-cons, append-nil, drop_all, Requests}
use Rattle.fill_chips.proofs.Words.{Fits, AccessesFit, IsSmallAccess, ShowsAccesses, AreRowsOf, HasNoFirstStep}
use Rattle.std.specs.List.Sorted.{IsPermutation}
use Rattle.air_kit.specs.declared.requests.Access.{Access}
use Rattle.facts_memory.specs.AccessRows.{new_address, new_context, row_behind, rows_behind, step_behind}
use Rattle.facts_memory.proofs.SortedFit.{rows_show}

-- a row by its cells
pub row-is : (before : Option Access) (a : Access) {c0 c1 c2 c3 c4 c5 c6 c7 c8 c9 c10 c11 c12 c13 : ℕ} → c0 ≡ a.kind → c1 ≡ a.ctx → c2 ≡ a.addr
    → c3 ≡ a.clk → c4 ≡ slice_index a.word 0 → c5 ≡ slice_index a.word 1 → c6 ≡ slice_index a.word 2 → c7 ≡ slice_index a.word 3
    → c8 ≡ new_context before a → c9 ≡ new_address before a → c10 ≡ step_behind before a % 65536 → c11 ≡ step_behind before a / 65536
    → c12 ≡ a.addr % 65536 → c13 ≡ a.addr / 65536
    → c0 ∷ c1 ∷ c2 ∷ c3 ∷ c4 ∷ c5 ∷ c6 ∷ c7 ∷ c8 ∷ c9 ∷ c10 ∷ c11 ∷ c12 ∷ c13 ∷ [] ≡ row_behind before a
unfolding row_behind
row-is before a e0 e1 e2 e3 e4 e5 e6 e7 e8 e9 e10 e11 e12 e13 = cc

-- the first row is that of an access behind none
pub no_first_step : (accesses : List Access) (rows : List (List ℕ)) → rows ≡ rows_behind None accesses → HasNoFirstStep rows
unfolding row_behind rows_behind
no_first_step [] rows is = subst HasNoFirstStep (sym is) (record { low = refl; high = refl })
no_first_step (a ∷ accesses) rows is = subst HasNoFirstStep (sym is) (record { low = refl; high = refl })

-- one more access
pub rows-step : (sorted : List Access) (table new : List (List ℕ)) (row : List ℕ) (before : Option Access) (i : ℕ) (a : Access) → i < length sorted
    → a ≡ get_or sorted i a → new ≡ table ++ row ∷ [] → row ≡ row_behind before a
    → new ++ rows_behind (Some a) (drop (i + 1) sorted) ≡ table ++ rows_behind before (drop i sorted)
unfolding rows_behind
rows-step sorted table new row before i a within is new_is row_is =
    ap (λ (t : List (List ℕ)). t ++ rows_behind (Some a) (drop (i + 1) sorted)) new_is
    ∙ append_assoc table (row ∷ []) (rows_behind (Some a) (drop (i + 1) sorted))
    ∙ ap (λ rows. table ++ rows)
    (ap₂ (λ (r : List ℕ) (n : ℕ). r ∷ rows_behind (Some a) (drop n sorted)) row_is (add-one i)
    ∙ ap (rows_behind before) (sym next))
  where
    next : drop i sorted ≡ a ∷ drop (suc i) sorted
    next = drop-cons sorted i a within ∙ ap (λ x. x ∷ drop (suc i) sorted) (sym is)

pub rows-done : (sorted : List Access) (table : List (List ℕ)) (before : Option Access) (i : ℕ) → length sorted ≤ i
    → table ++ rows_behind before (drop i sorted) ≡ table
unfolding rows_behind
rows-done sorted table before i past = ap (λ rows. table ++ rows) (ap (rows_behind before) (drop_all i sorted past)) ∙ append-nil table

-- the rows of accesses that fit show these
pub rows-shown : (constants : List ℕ) (kernel : List (List ℕ)) (r : Requests) (accesses : List Access) (rows : List (List ℕ)) → accesses ≡ r.accesses
    → Fits constants kernel r → All IsSmallAccess accesses → AreRowsOf accesses rows → ShowsAccesses r.accesses rows
rows-shown constants kernel r accesses rows e fits small made =
    let same = subst (λ (xs : List Access). IsPermutation xs made.sorted) e made.same in
    let fit : AccessesFit r.accesses = record { small = subst (All IsSmallAccess) e small; fits = fits.accesses; apart = fits.apart } in
    subst (ShowsAccesses r.accesses) (sym made.are) (rows_show r.accesses made.sorted fit same made.in_order)

-- what follows where all went well
pub if_ok_then : {X E : Type 0} {P Q : X → Type 0} (r : Result X E) → ((x : X) → P x → Q x) → IfOk r P → IfOk r Q
if_ok_then (Ok x) f h = f x h
if_ok_then (Err e) f h = tt
