use Rattle.std.proofs.Common.{Some, None, sym, refl, ◌∙◌, arith}
use Rattle.vm_field.proofs.HexText.{word_of_hex-parts, word_of_hex-other_length}
use Rattle.vm_field.proofs.word.Word.from_hex.Goals as goal

pub returns-then-text-ne64 : goal.returns-then-text-ne64
returns-then-text-ne64 c = record { value = sym (word_of_hex-other_length c.args.text.now c.if-text-ne64.true) }

pub returns-in_err-first : goal.returns-in_err-first
returns-in_err-first c =
    record { value = c.from_residual.ensures ∙ word_of_hex-parts c.args.text.now None _ _ _ (omega arith) c.in_err-first.ensures refl refl refl }

pub returns-in_err-second : goal.returns-in_err-second
returns-in_err-second c =
    record {
      value = c.from_residual-in_err-second.ensures
          ∙ word_of_hex-parts c.args.text.now (Some c.in_ok-first.first) None _ _ (omega arith) c.in_ok-first.ensures
          c.in_err-second.ensures refl refl;
    }

pub returns : goal.returns
returns c =
    record {
      value = word_of_hex-parts c.args.text.now (Some c.in_ok-first.first) (Some c.in_ok-second.second)
          (Some c.in_ok-third.third) (Some c.in_ok-fourth.fourth) (omega arith) c.in_ok-first.ensures c.in_ok-second.ensures
          c.in_ok-third.ensures c.in_ok-fourth.ensures;
    }

pub returns-in_err-third : goal.returns-in_err-third
returns-in_err-third c =
    record {
      value = c.from_residual-in_err-third.ensures
          ∙ word_of_hex-parts c.args.text.now (Some c.in_ok-first.first) (Some c.in_ok-second.second) None _ (omega arith)
          c.in_ok-first.ensures c.in_ok-second.ensures c.in_err-third.ensures refl;
    }

pub returns-in_err-fourth : goal.returns-in_err-fourth
returns-in_err-fourth c =
    record {
      value = c.from_residual-in_err-fourth.ensures
          ∙ word_of_hex-parts c.args.text.now (Some c.in_ok-first.first) (Some c.in_ok-second.second) (Some c.in_ok-third.third) None
          (omega arith) c.in_ok-first.ensures c.in_ok-second.ensures c.in_ok-third.ensures c.in_err-fourth.ensures;
    }
