-- Each token of a source is a part of it.
use Rattle.std.proofs.Common.{◌≡◌, ℕ, ◌+◌, ◌<◌, Bool, true, false, cond, List, [], ◌∷◌, ◌++◌, length, take, Option, Some, None, Ok, refl, sym, ◌∙◌, append_assoc, arith, length-append, zero, suc, lit<}
use Rattle.std.specs.List.{fold, All, AllByRecursion}
use Rattle.std.proofs.Math.Seq.{take-append_seam}
use Rattle.std.proofs.lemmas.List.Sums.{fold_push}
use Rattle.std.proofs.lemmas.List.Elements.{All-from_recursion, All-weaker}
use Rattle.masm_lex.specs.declared.cursor.Cursor.{Cursor}
use Rattle.masm_lex.specs.declared.list.Token.{Token}
use Rattle.masm_lex.specs.Tokens.{is_blank, next, first_place, place_after, outside, inside, runs, run_on, unless_refused, lexed, token_from, IsPart, TokensAreParts}

-- a place's index is the number of the bytes before it
pub index_next : (p : Cursor) (b : ℕ) → (next p b).index ≡ p.index + 1
index_next p b = grind arith

pub index_after : (p : Cursor) (bs : List ℕ) → (fold next p bs).index ≡ p.index + length bs
index_after p [] = omega arith
index_after p (b ∷ bs) = omega (arith, index_after (next p b) bs, index_next p b)

-- the run of the bytes more behind those done
pub run_is_part : (done more rest : List ℕ) → 0 < length more
    → IsPart (done ++ (more ++ rest)) (token_from (place_after done) (place_after (done ++ more)))
run_is_part done more rest some =
    let at_done : (place_after done).index ≡ length done = omega (arith, index_after first_place done) in
    let at_more : (place_after (done ++ more)).index ≡ length (done ++ more) = omega (arith, index_after first_place (done ++ more)) in
    record {
      begun = omega (arith, length-append done more);
      within = omega (arith, length-append done more, length-append more rest, length-append done (more ++ rest));
      place = rw (at_done, take-append_seam done (more ++ rest)) (rw (← at_done) refl);
    }

-- the same place, said of the bytes before it and the next byte
pub runs_moved : (done bs : List ℕ) (b : ℕ)
    → AllByRecursion (IsPart ((done ++ b ∷ []) ++ bs)) (runs (place_after (done ++ b ∷ [])) bs)
    → AllByRecursion (IsPart (done ++ b ∷ bs)) (runs (next (place_after done) b) bs)
runs_moved done bs b h = rw (append_assoc done (b ∷ []) bs, fold_push next first_place done b) at h

pub run_on_moved : (start : Cursor) (done more bs : List ℕ) (b : ℕ)
    → AllByRecursion (IsPart (done ++ ((more ++ b ∷ []) ++ bs))) (run_on start (place_after (done ++ (more ++ b ∷ []))) bs)
    → AllByRecursion (IsPart (done ++ (more ++ b ∷ bs))) (run_on start (next (place_after (done ++ more)) b) bs)
run_on_moved start done more bs b h =
    rw (append_assoc more (b ∷ []) bs, ← append_assoc done more (b ∷ []), fold_push next first_place (done ++ more) b) at h

-- whichever of two lists a test takes
pub either : (P : Token → Type 0) (test : Bool) (xs ys : List Token)
    → AllByRecursion P xs → AllByRecursion P ys → AllByRecursion P (cond test xs ys)
either P true xs ys hx hy = hx
either P false xs ys hx hy = hy

mutual
  pub runs_are_parts : (done bs : List ℕ) → AllByRecursion (IsPart (done ++ bs)) (runs (place_after done) bs)
  runs_are_parts done [] = tt
  runs_are_parts done (b ∷ bs) =
      either (IsPart (done ++ b ∷ bs)) (is_blank b) _ _
      (runs_moved done bs b (runs_are_parts (done ++ b ∷ []) bs))
      (rw fold_push at (run_on_are_parts done (b ∷ []) bs (lit< tt)))

  pub run_on_are_parts : (done more bs : List ℕ) → 0 < length more
      → AllByRecursion (IsPart (done ++ (more ++ bs))) (run_on (place_after done) (place_after (done ++ more)) bs)
  run_on_are_parts done more [] some = (run_is_part done more [] some, tt)
  run_on_are_parts done more (b ∷ bs) some =
      either (IsPart (done ++ (more ++ b ∷ bs))) (is_blank b) _ _ (
        run_is_part done more (b ∷ bs) some,
        rw (append_assoc done more (b ∷ bs)) at (runs_moved (done ++ more) bs b (runs_are_parts ((done ++ more) ++ b ∷ []) bs)),
      )
      (run_on_moved (place_after done) done more bs b
      (run_on_are_parts done (more ++ b ∷ []) bs (omega (arith, length-append more (b ∷ [])))))

-- blanking comments keeps the places
mutual
  pub same_places_outside : (p : Cursor) (n : ℕ) (bs : List ℕ) → fold next p (take n (outside bs)) ≡ fold next p (take n bs)
  same_places_outside p zero bs = refl
  same_places_outside p (suc n) [] = refl
  same_places_outside p (suc n) (b ∷ bs) =
      grind (arith, same_places_outside (next p b) n bs, same_places_inside (next p b) n bs)

  pub same_places_inside : (p : Cursor) (n : ℕ) (bs : List ℕ) → fold next p (take n (inside bs)) ≡ fold next p (take n bs)
  same_places_inside p zero bs = refl
  same_places_inside p (suc n) [] = refl
  same_places_inside p (suc n) (b ∷ bs) =
      grind (arith, same_places_outside (next p b) n bs, same_places_inside (next p b) n bs)

mutual
  pub length-outside : (bs : List ℕ) → length (outside bs) ≡ length bs
  length-outside [] = refl
  length-outside (b ∷ bs) = grind (arith, length-outside bs, length-inside bs)

  pub length-inside : (bs : List ℕ) → length (inside bs) ≡ length bs
  length-inside [] = refl
  length-inside (b ∷ bs) = grind (arith, length-outside bs, length-inside bs)

pub part_of_source : (source : List ℕ) (token : Token) → IsPart (outside source) token → IsPart source token
part_of_source source token part = record {
  begun = part.begun;
  within = omega (arith, length-outside source, part.within);
  place = sym (same_places_outside first_place token.start source) ∙ part.place;
}

pub accepted : (refused : Option Cursor) (tokens read : List Token) → unless_refused refused tokens ≡ Ok read → tokens ≡ read
accepted None tokens read e = cc
accepted (Some p) tokens read e = cc

pub tokens_are_parts : TokensAreParts
unfolding lexed
tokens_are_parts source tokens read =
    let found : runs first_place (outside source) ≡ tokens = accepted _ _ _ read in
    let parts : All (IsPart (outside source)) (runs first_place (outside source)) =
    All-from_recursion (IsPart (outside source)) _ (runs_are_parts [] (outside source)) in
    rw found at (All-weaker (IsPart (outside source)) (IsPart source) (part_of_source source) _ parts)
