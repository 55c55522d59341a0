-- The lexer's loop: what is done, then what the definition makes of the bytes that are left, is the whole.
use Rattle.std.proofs.Common.{◌≡◌, ℕ, ◌+◌, ◌<◌, ◌≤◌, List, [], ◌∷◌, ◌++◌, length, get_or, drop, Some, None, Result, Ok, Err, refl, sym, ◌∙◌, append_assoc, add-one, arith, drop-cons}
use Rattle.std.proofs.lemmas.List.{drop_all}
use Rattle.masm_lex.specs.declared.cursor.Cursor.{Cursor}
use Rattle.masm_lex.specs.declared.list.Token.{Token}
use Rattle.masm_lex.specs.declared.lexer.Spot.{Spot}
use Rattle.masm_lex.specs.declared.lexer.Spot.TheVariants.{Blank, Comment, Word}
use Rattle.masm_lex.specs.declared.refusal.LexError.{LexError}
use Rattle.masm_lex.specs.declared.refusal.LexError.TheVariants.{Bad}
use Rattle.masm_lex.specs.Tokens.{next, first_place, outside, inside, runs, run_on, first_bad, unless_refused, lexed}
use Rattle.masm_lex.specs.Lexer.{spot_after, ended}
use Rattle.masm_lex.proofs.Places.{IsCounted}

-- the bytes that are left, with their comments blanked
abbrev pub seen : Spot → List ℕ → List ℕ
seen Comment bs = inside bs
seen Blank bs = outside bs
seen (Word start) bs = outside bs

-- the tokens of the bytes that are left
abbrev pub cut : Spot → Cursor → List ℕ → List Token
cut (Word start) p bs = run_on start p bs
cut Blank p bs = runs p bs
cut Comment p bs = runs p bs

-- the answer of the whole, from these tokens on
abbrev pub lexed_on : List Token → Spot → Cursor → List ℕ → Result (List Token) LexError
lexed_on ts spot p bs = unless_refused (first_bad p (seen spot bs)) (ts ++ cut spot p (seen spot bs))

pub record Going (ts : List Token) (spot : Spot) (p : Cursor) (source : List ℕ) (i : ℕ) : Type 0 where
  pub counted : IsCounted p i
  pub whole : lexed_on ts spot p (drop i source) ≡ lexed source

-- one byte more leaves the first byte that is refused where it is
pub bad_on : (spot now : Spot) (p : Cursor) (b : ℕ) (bs : List ℕ) → spot_after spot p b ≡ Some now
    → first_bad p (seen spot (b ∷ bs)) ≡ first_bad (next p b) (seen now bs)
bad_on Blank now p b bs e = grind arith
bad_on (Word start) now p b bs e = grind arith
bad_on Comment now p b bs e = grind arith

-- and the tokens as they are
pub cut_on : (spot now : Spot) (p : Cursor) (b : ℕ) (bs : List ℕ) → spot_after spot p b ≡ Some now
    → cut spot p (seen spot (b ∷ bs)) ≡ ended spot now p ++ cut now (next p b) (seen now bs)
cut_on Blank now p b bs e = grind arith
cut_on (Word start) now p b bs e = grind arith
cut_on Comment now p b bs e = grind arith

-- one byte more
pub goes_on : (ts : List Token) (spot now : Spot) (p : Cursor) (b : ℕ) (bs : List ℕ) → spot_after spot p b ≡ Some now
    → lexed_on ts spot p (b ∷ bs) ≡ lexed_on (ts ++ ended spot now p) now (next p b) bs
goes_on ts spot now p b bs e =
    rw append_assoc (λ i. unless_refused (bad_on spot now p b bs e i) (ts ++ cut_on spot now p b bs e i))

-- a byte that is refused
pub refuses : (ts : List Token) (spot : Spot) (p : Cursor) (b : ℕ) (bs : List ℕ) → spot_after spot p b ≡ None
    → lexed_on ts spot p (b ∷ bs) ≡ Err (Bad p.line p.column)
refuses ts Blank p b bs e = grind arith
refuses ts (Word start) p b bs e = grind arith
refuses ts Comment p b bs e = grind arith

-- the end of the source
pub ends : (ts : List Token) (spot : Spot) (p : Cursor) → lexed_on ts spot p [] ≡ Ok (ts ++ ended spot Blank p)
ends ts Blank p = refl
ends ts (Word start) p = refl
ends ts Comment p = refl

-- before the first byte
pub starts : (ts : List Token) (source : List ℕ) → ts ≡ [] → Going ts Blank first_place source 0
unfolding lexed
starts ts source none = record {
  counted = record { index = refl; line = omega arith; column = omega arith };
  whole = rw none refl;
}

-- behind one byte more
pub counts_on : (p : Cursor) (b i : ℕ) → IsCounted p i → IsCounted (next p b) (i + 1)
counts_on p b i counted = grind arith

pub more : (ts ts' : List Token) (spot now : Spot) (p p' : Cursor) (b i : ℕ) (source : List ℕ)
    → Going ts spot p source i → i < length source → b ≡ get_or source i 0 → spot_after spot p b ≡ Some now
    → ts' ≡ ts ++ ended spot now p → p' ≡ next p b → Going ts' now p' source (i + 1)
more ts ts' spot now p p' b i source going within is_b moved added is_next =
    let left : drop i source ≡ b ∷ drop (i + 1) source = rw (is_b, add-one) (drop-cons source i 0 within) in
    let rest : lexed_on ts spot p (drop i source) ≡ lexed_on ts' now p' (drop (i + 1) source) =
    rw (left, added, is_next) (goes_on ts spot now p b (drop (i + 1) source) moved) in
    record {
      counted = rw is_next (counts_on p b i going.counted);
      whole = sym rest ∙ going.whole;
    }

-- at a byte that is refused
pub refused : (ts : List Token) (spot : Spot) (p : Cursor) (b i : ℕ) (source : List ℕ)
    → Going ts spot p source i → i < length source → b ≡ get_or source i 0 → spot_after spot p b ≡ None
    → lexed source ≡ Err (Bad p.line p.column)
refused ts spot p b i source going within is_b bad =
    let left : drop i source ≡ b ∷ drop (i + 1) source = rw (is_b, add-one) (drop-cons source i 0 within) in
    let rest : lexed_on ts spot p (drop i source) ≡ Err (Bad p.line p.column) =
    rw left (refuses ts spot p b (drop (i + 1) source) bad) in
    sym going.whole ∙ rest

-- behind the last byte
pub over : (ts ts' : List Token) (spot : Spot) (p : Cursor) (i : ℕ) (source : List ℕ)
    → Going ts spot p source i → length source ≤ i → ts' ≡ ts ++ ended spot Blank p → lexed source ≡ Ok ts'
over ts ts' spot p i source going behind added =
    let left : drop i source ≡ [] = drop_all i source behind in
    let rest : lexed_on ts spot p (drop i source) ≡ Ok ts' = rw (left, added) (ends ts spot p) in
    sym going.whole ∙ rest

-- what the loop's goals want
pub ruleset lexing = (starts, more, refused, over)
