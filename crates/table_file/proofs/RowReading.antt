-- Rows of a table that are read one after the other, from bytes that stand at a place.
use Rattle.table_file.proofs.Words.{◌≡◌, ℕ, suc, ◌+◌, ◌-◌, ◌*◌, ◌<◌, ◌≤◌, List, [], ◌∷◌, ◌++◌, drop, take, length, Ok, Err, inr, refl, sym}
use Rattle.table_file.proofs.Words.{ap, subst, ◌∙◌, arith, append_assoc, take-add, lt-ltb, length-take-le, take-append-drop, FileError, Bad}
use Rattle.table_file.proofs.Words.{GivesRead, behind, element_at, number_at, row_at, rows_at, ReadsRows, StandsAt}
use Rattle.std.proofs.Math.Nat.{mul-suc}
use Rattle.table_file.specs.declared.cause.FileCause.TheVariants as cause
use Rattle.table_file.proofs.Chains.{bad-read}
use Rattle.table_file.proofs.Going.{goes_behind, parts_stop}
use Rattle.table_file.proofs.PartReading.{stands_back, stands_front}

module _ (w at : ℕ) (bytes : List ℕ) (before : ℕ) (old : List (List ℕ)) where
  module _ (left : ℕ) (table : List (List ℕ)) (used : ℕ) (r : ReadsRows w at bytes before left old table used) (more : 0 < left) where
    one : left ≡ suc (left - 1)
    one = omega (arith, more)

    -- the next row follows
    pub reads_more : (row : List ℕ) → used + 8 * w ≤ length bytes
        → ((all : List ℕ) → StandsAt all (at + used) (take (8 * w) (drop used bytes)) → row_at all w (at + used) ≡ Ok row)
        → ReadsRows w at bytes before (left - 1) old (table ++ row ∷ []) (used + 8 * w)
    reads_more row within reads = record {
      within = within;
      place = let size = ap (λ (n : ℕ). 8 * w * n) one ∙ mul-suc (8 * w) (left - 1) in let so_far = r.place in omega (arith, size, so_far);
      some = inr (omega arith);
      rows = r.rows ++ row ∷ [];
      table = ap (λ (rows : List (List ℕ)). rows ++ row ∷ []) r.table ∙ append_assoc old r.rows (row ∷ []);
      goes = λ all stands.
          let both = subst (StandsAt all at) (take-add used (8 * w) bytes) stands in
          let within_used : used ≤ length bytes = r.within in
          let is =
          reads all (stands_back all (take used bytes) (take (8 * w) (drop used bytes)) at both used
          (length-take-le used bytes within_used)) in
          let place : at + (used + 8 * w) ≡ at + used + 8 * w = omega arith in
          ap (λ (p : ℕ). behind (rows_at all w (left - 1) p) (λ rest. Ok ((r.rows ++ row ∷ []) ++ rest))) place
          ∙ goes_behind (row_at all w) (8 * w) (left - 1) (at + used) r.rows row is
          ∙ ap (λ (n : ℕ). behind (rows_at all w n (at + used)) (λ rest. Ok (r.rows ++ rest))) (sym one)
          ∙ r.goes all (stands_front all (take used bytes) (take (8 * w) (drop used bytes)) at both);
    }

    -- the next row is refused
    pub reads_stop : (e : FileError) → used + 8 * w ≤ length bytes
        → ((all : List ℕ) → StandsAt all (at + used) (take (8 * w) (drop used bytes)) → row_at all w (at + used) ≡ Err e)
        → (all : List ℕ) → StandsAt all at bytes → GivesRead (Err e) (rows_at all w before at)
    reads_stop e within reads all stands =
        let behind_used = drop used bytes in
        let parts = subst (StandsAt all at) (sym (take-append-drop used bytes)) stands in
        let within_used : used ≤ length bytes = r.within in
        let there = stands_back all (take used bytes) behind_used at parts used (length-take-le used bytes within_used) in
        let next =
        stands_front all (take (8 * w) behind_used) (drop (8 * w) behind_used) (at + used)
        (subst (StandsAt all (at + used)) (sym (take-append-drop (8 * w) behind_used)) there) in
        bad-read (rows_at all w before at) e
        (sym (r.goes all (stands_front all (take used bytes) behind_used at parts))
        ∙ ap (λ (n : ℕ). behind (rows_at all w n (at + used)) (λ rest. Ok (r.rows ++ rest))) one
        ∙ ap (λ x. behind x (λ rest. Ok (r.rows ++ rest))) (parts_stop (row_at all w) (8 * w) (left - 1) (at + used) e (reads all next)))

-- bytes end within an element
pub ends_within : (all : List ℕ) (at j : ℕ) → length all < at + 8 * j + 8 → element_at all (at + 8 * j) ≡ Err (Bad (at + 8 * j) cause.Ended)
unfolding number_at
ends_within all at j short = rw (lt-ltb (length all) (at + 8 * j + 8) short) refl
