use Rattle.complete_rows.proofs.AgreeNext.{agrees_next}
use Rattle.complete_rows.proofs.laws.agreement_laws.Goals as goal

pub returns : goal.returns
returns c = record {
  behind = λ constants kernel limit task mark rest todo s t d later len first cycle w h a. agrees_next len first cycle w h d later todo a;
}
