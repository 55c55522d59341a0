use Rattle.std.proofs.Common.{◌≡◌, ℕ, ◌<◌, None, decimal, sym, ap, ◌∙◌, subst, arith}
use Rattle.std.proofs.lemmas.Bool.{false≢true}
use Rattle.std.proofs.lemmas.Fmt.{parse-decimal, IsAscii-decimal}
use Rattle.std.proofs.lemmas.Slice.Eq.{bytes_eq-Decides}
use Rattle.std.proofs.lemmas.Str.{IsUtf8-from_ascii}
use Rattle.std.specs.Str.{IsUtf8}
use Rattle.vm_field.specs.Decimal.{element_of}
use Rattle.vm_field.specs.Field.{prime}
use Rattle.vm_field.proofs.DecimalText.{element_of-none, element_of-any_decimal, decimal_read, read_below, decimal_found}
use Rattle.vm_field.proofs.element.Felt.read_decimal.Goals as goal

not_text : (c : goal.In_default) → element_of c.args.text.now ≡ None
not_text c =
    element_of-none c.args.text.now
    (λ n below is. c.in_default.ensures.cases.0 (subst IsUtf8 (sym is) (IsUtf8-from_ascii _ (IsAscii-decimal n (omega arith)))))

pub returns-in_default : goal.returns-in_default
returns-in_default c =
    let text = c.args.text.now in
    let value = sym (not_text c) in
    record {
      value = value;
      text = tt;
      found = decimal_found text None value;
      below = tt;
    }

pub returns-in_default-parse : goal.returns-in_default-parse
returns-in_default-parse c =
    let text = c.args.text.now in
    let value =
    sym (element_of-none text
    (λ n below is.
    c.in_default-parse.not-Ok n
    (parse-decimal 64 n _ _ (omega arith) (omega arith) (c.in-Ok.ensures.cases.0 ∙ is) c.parse.ensures.value.0))) in
    record {
      value = value;
      text = tt;
      found = decimal_found text None value;
      below = tt;
    }

pub returns-then-eq : goal.returns-then-eq
returns-then-eq c =
    let text = c.args.text.now in
    let number = c.in-Ok-parse.number in
    let text_is : text ≡ decimal number =
    sym (sym c.format.ensures.text ∙ (bytes_eq-Decides _ _).0 (sym c.eq.ensures ∙ c.if-eq.true) ∙ c.in-Ok.ensures.cases.0) in
    let value : c.ok.result ≡ element_of text =
    c.ok.ensures.value ∙ c.try_from_u64.ensures.element
    ∙ sym (ap element_of text_is ∙ element_of-any_decimal number
    (omega (arith, c.in-Ok-parse.ensures.value.0.0.1, c.in-Ok-parse.ensures.value.0.1))) in
    record {
      value = value;
      text = decimal_read text c.ok.result value;
      found = decimal_found text c.ok.result value;
      below = read_below text c.ok.result value;
    }

pub returns-else-eq : goal.returns-else-eq
returns-else-eq c =
    let text = c.args.text.now in
    let number = c.in-Ok-parse.number in
    let other : (n : ℕ) → n < prime → text ≡ decimal n → ⊥ =
    λ n below is.
    let parsed = parse-decimal 64 n _ _ (omega arith) (omega arith) (c.in-Ok.ensures.cases.0 ∙ is) c.parse.ensures.value.0 in
    let same : number ≡ n = cc in
    false≢true (sym c.if-eq.false ∙ c.eq.ensures
    ∙ (bytes_eq-Decides _ _).1 (c.format.ensures.text ∙ ap decimal same ∙ sym is ∙ sym c.in-Ok.ensures.cases.0)) in
    let value = sym (element_of-none text other) in
    record {
      value = value;
      text = tt;
      found = decimal_found text None value;
      below = tt;
    }
