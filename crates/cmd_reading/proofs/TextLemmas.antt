-- The texts that were read, one by one.
use Rattle.std.proofs.Common.{◌≡◌, ◌∙◌, ◌<◌, ℕ, zero, suc, refl, sym, ap, ap₂, subst, take, ◌+◌, List, [], ◌∷◌, ◌++◌, length, Option, Some, None, map, get_or, arith}
use Rattle.std.proofs.lemmas.List.{get_or-map, length-map, map_push, take_more}
use Rattle.std.specs.Str.{IsUtf8}
use Rattle.std.proofs.lemmas.Option.{slice_get_past, slice_get_read}
use Rattle.std.proofs.lemmas.Bool.Decides.{nat_tests}
use Rattle.std.specs.declared.vec.Vec.{Vec}
use Rattle.std.specs.declared.alloc.Global.{Global}
use Rattle.cmd_words.specs.Words.{texts}
use Rattle.cmd_reading.specs.Form.{AllText}
use Rattle.std.specs.Prelude.{Bool, true, false, ◌≤◌, nat_lt, option_map, option_and_then, is_some, if◌then◌else◌, IfSome}
use Rattle.std.specs.List.{slice_get}
use Rattle.std.specs.Borrow.{Bor}
use Rattle.cmd_reading.specs.Meaning.{text_at}

at_there : (i : ℕ) (xs : List (Bor (List ℕ)))
    → text_at i (map (λ (t : Bor (List ℕ)). Some t.now) xs) ≡ option_map (λ (t : Bor (List ℕ)). t.now) (slice_get xs i)
at_there i [] = refl
at_there zero (x ∷ xs) = refl
at_there (suc i) (x ∷ xs) = at_there i xs

at_free : (i : ℕ) (xs : List (Option (Bor (List ℕ))))
    → text_at i (map (option_map (λ (t : Bor (List ℕ)). t.now)) xs) ≡ option_and_then (option_map (λ (t : Bor (List ℕ)). t.now)) (slice_get xs i)
at_free i [] = refl
at_free zero (x ∷ xs) = refl
at_free (suc i) (x ∷ xs) = at_free i xs

-- a word of those that are all text
pub text_here : (words : List (Vec ℕ Global)) → AllText (texts words) → (k : ℕ) (word : Vec ℕ Global) → k < length words → word ≡ get_or words k word
    → IsUtf8 word.items
text_here words all k word l is =
    subst IsUtf8 (get_or-map (λ (w : Vec ℕ Global). w.items) words k word [] l ∙ sym (ap (λ (w : Vec ℕ Global). w.items) is))
    (all k [] (subst (λ n. k < n) (sym (length-map words (λ (w : Vec ℕ Global). w.items))) l))

-- one more text
more_text : (ts : List (List ℕ)) (t : List ℕ) → AllText ts → IsUtf8 t → AllText (ts ++ t ∷ [])
more_text [] t all is zero d l = is
more_text [] t all is (suc k) d l = absurd (omega (arith, l))
more_text (x ∷ xs) t all is zero d l = all 0 x (omega arith)
more_text (x ∷ xs) t all is (suc k) d l = more_text xs t (λ j e m. all (suc j) e (omega (arith, m))) is k d (omega (arith, l))

-- what `get` gives is what stands there
read_there : {X : Type 0} (i : ℕ) (xs : List X) (r : Option (Bor X)) → is_some r ≡ nat_lt i (length xs) → IfSome r (λ x. x.now ≡ get_or xs i x.now)
    → option_map (λ (x : Bor X). x.now) r ≡ slice_get xs i
read_there {X} i xs None e h = sym (slice_get_past xs i (past e))
  where
    past : {n : ℕ} → false ≡ nat_lt i n → n ≤ i
    past q = grind (arith, nat_tests)
read_there {X} i xs (Some x) e h = sym (slice_get_read xs (length xs) i x.now refl (within e) h)
  where
    within : {n : ℕ} → true ≡ nat_lt i n → i < n
    within q = grind (arith, nat_tests)

pub there_read : (i : ℕ) (xs : List (Bor (List ℕ))) (r : Option (Bor (Bor (List ℕ)))) → is_some r ≡ nat_lt i (length xs)
    → IfSome r (λ x. x.now ≡ get_or xs i x.now)
    → option_map (λ (t : Bor (List ℕ)). t.now) (option_map (λ (x : Bor (Bor (List ℕ))). x.now) r) ≡ text_at i (map (λ (t : Bor (List ℕ)). Some t.now) xs)
there_read i xs r e h = ap (option_map (λ (t : Bor (List ℕ)). t.now)) (read_there i xs r e h) ∙ sym (at_there i xs)

pub free_read : (i : ℕ) (xs : List (Option (Bor (List ℕ)))) (r : Option (Bor (Option (Bor (List ℕ))))) → is_some r ≡ nat_lt i (length xs)
    → IfSome r (λ x. x.now ≡ get_or xs i x.now)
    → option_and_then (option_map (λ (t : Bor (List ℕ)). t.now)) (option_map (λ (x : Bor (Option (Bor (List ℕ)))). x.now) r)
    ≡ text_at i (map (option_map (λ (t : Bor (List ℕ)). t.now)) xs)
free_read i xs r e h = ap (option_and_then (option_map (λ (t : Bor (List ℕ)). t.now))) (read_there i xs r e h) ∙ sym (at_free i xs)

-- one more word that was read
pub more_read : (xs : List (Bor (List ℕ))) (t : Bor (List ℕ)) (words : List (Vec ℕ Global)) (k : ℕ) (word : Vec ℕ Global)
    → map (λ (s : Bor (List ℕ)). s.now) xs ≡ texts (take k words) → k < length words → word ≡ get_or words k word → t.now ≡ word.items
    → map (λ (s : Bor (List ℕ)). s.now) (xs ++ t ∷ []) ≡ texts (take (k + 1) words)
more_read xs t words k word same l is text =
    map_push (λ (s : Bor (List ℕ)). s.now) xs t ∙ ap₂ (λ (ts : List (List ℕ)) (u : List ℕ). ts ++ u ∷ []) same (text ∙ ap (λ (w : Vec ℕ Global). w.items) is)
    ∙ sym (ap texts (take_more words k word l) ∙ map_push (λ (w : Vec ℕ Global). w.items) (take k words) (get_or words k word))

pub more_texts : (xs : List (Bor (List ℕ))) (t : Bor (List ℕ)) → AllText (map (λ (s : Bor (List ℕ)). s.now) xs) → IsUtf8 t.now
    → AllText (map (λ (s : Bor (List ℕ)). s.now) (xs ++ t ∷ []))
more_texts xs t all is = subst AllText (sym (map_push (λ (s : Bor (List ℕ)). s.now) xs t)) (more_text (map (λ (s : Bor (List ℕ)). s.now) xs) t.now all is)

pub pushed : {X : Type 0} (b : Bool) (ys xs zs : List X) → ys ≡ (if b then zs else xs) → b ≡ true → zs ≡ ys
pushed b ys xs zs e is = sym (e ∙ ap (λ (c : Bool). if c then zs else xs) is)
