-- Names whose bytes are ASCII are text.
use Rattle.std.proofs.Common.{◌≡◌, ◌<◌, ℕ, true, List, [], ◌∷◌, arith}
use Rattle.std.specs.Prelude.{nat_lt}
use Rattle.std.specs.List.{list_all}
use Rattle.std.specs.Str.{IsAscii}
use Rattle.std.proofs.lemmas.Bool.{and_parts}
use Rattle.std.proofs.lemmas.Bool.Decides.{nat_tests}
use Rattle.std.proofs.lemmas.Str.{IsUtf8-from_ascii}
use Rattle.std.proofs.lemmas.Str.Ascii.{IsAscii-cons, IsAscii-nil}
use Rattle.cmd_reading.proofs.PlainParts.{Texts}

ascii : (bs : List ℕ) → list_all (λ b. nat_lt b 128) bs ≡ true → IsAscii bs
ascii [] h = IsAscii-nil
ascii (b ∷ bs) h = let p = and_parts (nat_lt b 128) (list_all (λ b. nat_lt b 128) bs) h in IsAscii-cons b bs (below b p.0) (ascii bs p.1)
  where
    below : (b : ℕ) → nat_lt b 128 ≡ true → b < 128
    below b q = grind (arith, nat_tests)

-- names of ASCII are text
pub ascii_text : (names : List (List ℕ)) → list_all (list_all (λ b. nat_lt b 128)) names ≡ true → Texts names
ascii_text [] h = tt
ascii_text (x ∷ xs) h =
    let p = and_parts (list_all (λ b. nat_lt b 128) x) (list_all (list_all (λ b. nat_lt b 128)) xs) h in
    (IsUtf8-from_ascii x (ascii x p.0), ascii_text xs p.1)
