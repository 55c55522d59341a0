-- The tokens of a source stand in its order.
use Rattle.std.proofs.Common.{◌≡◌, ℕ, ◌<◌, ◌≤◌, Bool, true, false, cond, List, [], ◌∷◌, arith}
use Rattle.std.specs.List.{AllByRecursion}
use Rattle.masm_lex.specs.declared.cursor.Cursor.{Cursor}
use Rattle.masm_lex.specs.declared.list.Token.{Token}
use Rattle.masm_lex.specs.Tokens.{is_blank, next, first_place, outside, runs, run_on, lexed, token_from}
use Rattle.masm_lex.specs.Order.{Ascends, Precedes, TokensAscend}
use Rattle.masm_lex.proofs.Parts.{accepted}

-- a place stands behind another
pub record Behind (p q : Cursor) : Type 0 where
  pub index : p.index < q.index
  pub lines : p.line ≤ q.line
  pub columns : p.line ≡ q.line → p.column < q.column

-- a token begins at a place or behind it
pub record IsFrom (p : Cursor) (token : Token) : Type 0 where
  pub index : p.index ≤ token.start
  pub lines : p.line ≤ token.line
  pub columns : p.line ≡ token.line → p.column ≤ token.column

behind_next : (p : Cursor) (b : ℕ) → Behind p (next p b)
behind_next p b = record { index = grind arith; lines = grind arith; columns = grind arith }

behind_behind : (p q r : Cursor) → Behind p q → Behind q r → Behind p r
behind_behind p q r h k = record { index = omega arith; lines = omega arith; columns = λ e. omega arith }

from_behind : (p q : Cursor) (token : Token) → Behind p q → IsFrom q token → IsFrom p token
from_behind p q token h k = record { index = omega arith; lines = omega arith; columns = λ e. omega arith }

-- a token that ends at a place precedes each one from behind that place on
precedes : (start p q : Cursor) (token : Token) → Behind start p → Behind p q → IsFrom q token → Precedes (token_from start p) token
precedes start p q token h k f = record {
  bytes = omega arith;
  place = record { lines = omega arith; columns = λ e. omega arith };
}

each : {P Q : Token → Type 0} → ((t : Token) → P t → Q t) → (ts : List Token) → AllByRecursion P ts → AllByRecursion Q ts
each f [] h = tt
each f (t ∷ ts) h = (f t h.0, each f ts h.1)

-- what is said of the tokens from a place on
pub record AreFrom (p : Cursor) (ts : List Token) : Type 0 where
  pub from : AllByRecursion (IsFrom p) ts
  pub ascend : Ascends Precedes ts

either : (p : Cursor) (test : Bool) (xs ys : List Token) → AreFrom p xs → AreFrom p ys → AreFrom p (cond test xs ys)
either p true xs ys h k = h
either p false xs ys h k = k

later : (p q : Cursor) (ts : List Token) → Behind p q → AreFrom q ts → AreFrom p ts
later p q ts h k = record { from = each (λ t f. from_behind p q t h f) ts k.from; ascend = k.ascend }

is_from_itself : (start p : Cursor) → IsFrom start (token_from start p)
is_from_itself start p = record { index = omega arith; lines = omega arith; columns = λ e. omega arith }

-- a token that ends at p, and then those from behind p on
with_first : (start p q : Cursor) (ts : List Token) → Behind start p → Behind p q → AreFrom q ts → AreFrom start (token_from start p ∷ ts)
with_first start p q ts h k f = record {
  from = (is_from_itself start p, each (λ t x. from_behind start q t (behind_behind start p q h k) x) ts f.from);
  ascend = (each (λ t x. precedes start p q t h k x) ts f.from, f.ascend);
}

mutual
  runs_from : (p : Cursor) (bs : List ℕ) → AreFrom p (runs p bs)
  runs_from p [] = record { from = tt; ascend = tt }
  runs_from p (b ∷ bs) =
      either p (is_blank b) _ _ (later p (next p b) _ (behind_next p b) (runs_from (next p b) bs)) (run_on_from p (next p b) bs (behind_next p b))

  run_on_from : (start p : Cursor) (bs : List ℕ) → Behind start p → AreFrom start (run_on start p bs)
  run_on_from start p [] h = record { from = (is_from_itself start p, tt); ascend = (tt, tt) }
  run_on_from start p (b ∷ bs) h =
      either start (is_blank b) _ _ (with_first start p (next p b) _ h (behind_next p b) (runs_from (next p b) bs))
      (run_on_from start (next p b) bs (behind_behind start p (next p b) h (behind_next p b)))

pub tokens_ascend : TokensAscend
unfolding lexed
tokens_ascend source tokens read =
    let found : runs first_place (outside source) ≡ tokens = accepted _ _ _ read in
    rw found at (runs_from first_place (outside source)).ascend
