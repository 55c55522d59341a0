-- What holds at each place to which steps come over told files.
use Rattle.cmd_kit.proofs.Words.{◌≡◌, ℕ, ◌≤◌, List, length, Option, Some, Result, Ok, Err, refl, ap, subst, get, insert, Files, with_file, Finds, IsRight, FileSays, Passes, past_read}
use Rattle.cmd_kit.proofs.Words.{past_write, past_finding, Finding, Steps, reading, writing, asking, ending}
use Rattle.cmd_kit.specs.Serving.{Holds, none_yet}

module _ (P : Steps → Files → Type 0) where
  -- here, and wherever the steps lead from here without a fault
  abbrev pub Along : Steps → Files → Type 0
  Along (reading name most next) m =
      P (reading name most next) m × ((bytes : List ℕ) → get m name ≡ Some bytes → length bytes ≤ most → Along (next bytes) m)
  Along (writing name right next) m =
      P (writing name right next) m × ((bytes : List ℕ) → IsRight right bytes → Along (next bytes) (insert m name bytes))
  Along (asking question next) m =
      P (asking question next) m × ((finding : Finding question) → Finds question finding → Along (next finding) m)
  Along (ending end) m = P (ending end) m

  at_first : (steps : Steps) (m : Files) → Along steps m → P steps m
  at_first (reading name most next) m h = h.0
  at_first (writing name right next) m h = h.0
  at_first (asking question next) m h = h.0
  at_first (ending end) m h = h

  pub at_place : (steps left : Steps) (told now : Option Files) (m : Files) → Passes steps told left now → told ≡ Some m → Along steps m
      → (n : Files) × (now ≡ Some n) × P left n
  at_place steps left told now m none_yet is h = (m, is, at_first steps m h)
  at_place steps left told now m (past_read name most next bytes held short rest) is h =
      at_place (next bytes) left told now m rest is (h.1 bytes (subst (λ o. Holds o name (Some bytes)) is held) short)
  at_place steps left told now m (past_finding question next finding found rest) is h =
      at_place (next finding) left told now m rest is (h.1 finding found)
  at_place steps left told now m (past_write name right next bytes fit rest) is h =
      at_place (next bytes) left (with_file told name bytes) now (insert m name bytes) rest (ap (λ o. with_file o name bytes) is) (h.1 bytes fit)

  -- a file that is read: what it says decides
  module _ {X E : Type 0} (says : List ℕ → Result X E) (after : Result X E → Steps) (name : List ℕ) (most : ℕ) (m : Files) where
    pub along_file : P (reading name most (λ bytes. after (says bytes))) m → ((x : X) → FileSays m name most says x → Along (after (Ok x)) m)
        → ((e : E) → Along (after (Err e)) m) → Along (reading name most (λ bytes. after (says bytes))) m
    along_file here good bad = (here, λ bytes held short. of bytes held short (says bytes) refl)
      where
        of : (bytes : List ℕ) → get m name ≡ Some bytes → length bytes ≤ most → (read : Result X E) → says bytes ≡ read → Along (after read) m
        of bytes held short (Ok x) is = good x (record { bytes = bytes; stands = held; short = short; says = is })
        of bytes held short (Err e) is = bad e
