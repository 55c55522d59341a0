-- Rows that are told, and looked for, one after another.
use Rattle.std.proofs.Common.{◌≡◌, ℕ, ◌+◌, ◌<◌, ◌≤◌, Bool, false, List, ◌∷◌, ◌++◌, drop, get_or, length, take, Option, refl, sym, ap, ◌∙◌, append_assoc}
use Rattle.std.specs.Prelude.{◌||◌}
use Rattle.std.specs.List.{flat_map}
use Rattle.std.proofs.Math.ListN.{drop_of_length-le}
use Rattle.std.proofs.lemmas.List.{drop_more}
use Rattle.air_kit.specs.declared.trace.TableName.{TableName}
use Rattle.air_kit.specs.declared.trace.Trace.{Trace}
use Rattle.checker.specs.declared.row_counts.RowCount.{RowCount}
use Rattle.show_text.specs.CountText.{rows_line}
use Rattle.show_text.proofs.Lines.{row_more}
use Rattle.show_app.specs.CountedText.{is_counted, is_row, key_line, one_of, told_line, told_rows}

unfolded : (t : Trace) (asking giving : ℕ) (r : RowCount) (rs : List RowCount)
    → told_rows t asking giving (r ∷ rs) ≡ told_line t asking giving r ++ told_rows t (asking + one_of r.asked) (giving + one_of r.given) rs
unfolding told_rows
unfolded t asking giving r rs = refl

-- one row more
pub one_row_more : (t : Trace) (text longer : List ℕ) (asking giving i : ℕ) (rows : List RowCount) (r : RowCount) → i < length rows → r ≡ get_or rows i r
    → longer ≡ text ++ told_line t asking giving r
    → longer ++ told_rows t (asking + one_of r.asked) (giving + one_of r.given) (drop (i + 1) rows) ≡ text ++ told_rows t asking giving (drop i rows)
one_row_more t text longer asking giving i rows r within is more =
    let rest = drop (i + 1) rows in
    let later = told_rows t (asking + one_of r.asked) (giving + one_of r.given) rest in
    ap (λ x. x ++ later) more ∙ append_assoc text (told_line t asking giving r) later
    ∙ ap (λ x. text ++ x) (sym (unfolded t asking giving r rest))
    ∙ ap (λ x. text ++ told_rows t asking giving (x ∷ rest)) is
    ∙ ap (λ x. text ++ told_rows t asking giving x) (sym (drop_more rows i r within))

-- and the line behind the last one
pub none_more : (t : Trace) (text longer : List ℕ) (asking giving i : ℕ) (rows : List RowCount) → length rows ≤ i → longer ≡ text ++ rows_line asking giving
    → longer ≡ text ++ told_rows t asking giving (drop i rows)
unfolding told_rows
none_more t text longer asking giving i rows past is = is ∙ ap (λ x. text ++ told_rows t asking giving x) (sym (drop_of_length-le rows past))

-- a row that the key says more
pub one_key_more : (t : Trace) (name : TableName) (rs : List RowCount) (text so_far longer : List ℕ) (i : ℕ) (rows : List (Option ℕ)) (row : Option ℕ)
    → i < length rows → row ≡ get_or rows i row → longer ≡ so_far ++ key_line t name rs row
    → so_far ≡ text ++ flat_map (key_line t name rs) (take i rows) → longer ≡ text ++ flat_map (key_line t name rs) (take (i + 1) rows)
one_key_more t name rs text so_far longer i rows row within is more made =
    row_more (key_line t name rs) rows text so_far longer i row row within made more is

counted_of : (name : TableName) (row : ℕ) (r : RowCount) (rs : List RowCount) → is_counted name row (r ∷ rs) ≡ (is_row name row r || is_counted name row rs)
unfolding is_counted
counted_of name row r rs = refl

-- whether the first of the rows that are left is the one
pub counted_at : (name : TableName) (row i : ℕ) (rs : List RowCount) (r : RowCount) (here : Bool) → i < length rs → r ≡ get_or rs i r
    → here ≡ is_row name row r → (here || is_counted name row (drop (i + 1) rs)) ≡ is_counted name row (drop i rs)
counted_at name row i rs r here within is found =
    let rest = drop (i + 1) rs in
    ap (λ (b : Bool). b || is_counted name row rest) found ∙ sym (counted_of name row r rest) ∙ ap (λ x. is_counted name row (x ∷ rest)) is
    ∙ ap (is_counted name row) (sym (drop_more rs i r within))

pub none_counted : (name : TableName) (row i : ℕ) (rs : List RowCount) → length rs ≤ i → false ≡ is_counted name row (drop i rs)
unfolding is_counted
none_counted name row i rs past = sym (ap (is_counted name row) (drop_of_length-le rs past))
