use Rattle.std.proofs.Common.{Result, Ok, Err, IsOk, MatchResult, refl, subst, sym}
use Rattle.std.proofs.lemmas.Str.{IsUtf8-from_ascii}
use Rattle.std.specs.Str.{IsUtf8}
use Rattle.vm_field.proofs.HexText.{IsAscii-word_hex}
use Rattle.vm_field.proofs.word.WordDisplay.fmt.Goals as goal

IsOk-from_cases : {T E : Type 0} (r : Result T E) (P : T → Type 0) (Q : E → Type 0) → MatchResult r P Q → ((e : E) → Q e → ⊥) → IsOk r
IsOk-from_cases (Ok x) P Q h none = refl
IsOk-from_cases (Err e) P Q h none = absurd (none e h)

-- the digits are ASCII
pub unwrap-requires : goal.unwrap-requires
unwrap-requires g c =
    let utf8 : IsUtf8 c.digits-digits.result =
    subst IsUtf8 (sym c.digits-digits.ensures) (IsUtf8-from_ascii _ (IsAscii-word_hex c.args.self.now)) in
    IsOk-from_cases c.from_utf8.result _ _ c.from_utf8.ensures.cases (λ e h. h.0 utf8)
