use Rattle.std.proofs.Common.{◌≡◌, ℕ, List, Bool, true, false, Option, None, refl, ap}
use Rattle.std.specs.Prelude.{if◌then◌else◌}
use Rattle.std.specs.Option.{ok_or}
use Rattle.std.specs.Str.{is_utf8, IsUtf8}
use Rattle.std.proofs.lemmas.Str.{IsUtf8-from_is_utf8, is_utf8-from_IsUtf8}
use Rattle.serde_json.specs.Data.{Data}
use Rattle.serde_json.specs.Read.{read}
use Rattle.statement.specs.Values.{value_of}
use Rattle.statement.specs.declared.refusal.TextCause.TheVariants.{NotJson}
use Rattle.statement.proofs.values.value_of.Goals as goal

no_text_by : (bytes : List ℕ) (test : Bool) (o : Option Data) → is_utf8 bytes ≡ test → (IsUtf8 bytes → ⊥) → (if test then o else None) ≡ None
no_text_by bytes true o e other = absurd (other (IsUtf8-from_is_utf8 bytes e))
no_text_by bytes false o e other = refl

no_text : (bytes : List ℕ) → (IsUtf8 bytes → ⊥) → value_of bytes ≡ None
no_text bytes other = no_text_by bytes _ (read bytes) refl other

text_read : (bytes : List ℕ) → IsUtf8 bytes → value_of bytes ≡ read bytes
text_read bytes h = rw (is_utf8-from_IsUtf8 bytes h) refl

pub returns-in_default : goal.returns-in_default
returns-in_default c = ap (λ o. ok_or o NotJson) (no_text _ c.in_default.ensures.cases.0)

pub returns-in-Ok-from_str : goal.returns-in-Ok-from_str
returns-in-Ok-from_str c =
    let bytes = c.in-Ok.ensures.cases.0 in
    rw (text_read _ c.in-Ok.ensures.cases.1, ← bytes, c.in-Ok-from_str.ensures.ok) refl
