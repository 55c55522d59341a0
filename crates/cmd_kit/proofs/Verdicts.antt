-- What is accepted for a claim is accepted however the claim lies in memory, and is not refused.
use Rattle.cmd_kit.proofs.Words.{◌≡◌, refl, sym, ap, subst, ◌∙◌, constants_of, Stated, Public, Trace, IsWhy, OneVerdict}
use Rattle.statement.specs.Statements as statements
use Rattle.air_kit.specs.Acceptance.{AreZero, IsAccepted, asked_on, given_on}
use Rattle.buses.specs.Counts.{AreAlike}
use Rattle.air_kit.specs.Traces as traces
use Rattle.checker.specs.declared.refusal.Refused.{Refused}
use Rattle.checker.specs.declared.refusal.Refused.TheVariants as why

-- a trace that is accepted for what is claimed is accepted however the claim lies in memory
same_accepted : (p q : Public) (t : Trace) → constants_of p.params ≡ constants_of q.params
    → statements.stated_of p.statement ≡ statements.stated_of q.statement → IsAccepted p t → IsAccepted q t
same_accepted p q t params claims is =
    let digest : p.statement.digest ≡ q.statement.digest = ap (λ (c : Stated). c.digest) claims in
    let kernel : p.statement.kernel ≡ q.statement.kernel = ap (λ (c : Stated). c.kernel) claims in
    let inputs : p.statement.inputs ≡ q.statement.inputs = ap (λ (c : Stated). c.inputs) claims in
    let outputs : p.statement.outputs ≡ q.statement.outputs = ap (λ (c : Stated). c.outputs) claims in
    let same : traces.claim_of p t ≡ traces.claim_of q t = rw (params, digest, kernel, inputs, outputs) refl in
    record {
      zero = subst (λ c. AreZero c t) same is.zero;
      buses = λ bus. subst (λ c. AreAlike (asked_on c t bus) (given_on c t bus)) same (is.buses bus);
    }

pub one_verdict : OneVerdict
one_verdict constants claim t h p is =
    same_accepted h.against p t (h.is_public.params ∙ sym is.params) (h.is_public.statement ∙ sym is.statement) h.found

-- no trace is refused that is accepted
pub not_both : (p : Public) (t : Trace) (r : Refused) → IsAccepted p t → IsWhy p t r → ⊥
not_both p t (why.Fault f) is h = h.nonzero (h.value_is ∙ is.zero f.table f.row f.number h.within)
not_both p t (why.Bus bus tuple asked given) is h = h.least.apart (h.least.asked_is ∙ is.buses bus tuple ∙ sym h.least.given_is)
not_both p t why.Memory is h = h
