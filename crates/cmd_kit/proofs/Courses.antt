-- What a source comes to, told once: a program that runs to its end is not stopped, and ends in one state.
use Rattle.cmd_kit.proofs.Words.{◌≡◌, ℕ, Bool, List, Option, Ok, Err, refl, subst, sym, ap₂, ◌∙◌, option_map, State, start, Program, one_program, u64_library}
use Rattle.cmd_kit.proofs.Words.{Given, IsCourse, halted, trapped, unended, outcome_of, AssemblesFiles, SourceFile, Course, ran}
use Rattle.block_tree.specs.Execution as execution
use Rattle.block_tree.specs.Execution.{Done, IsCutOff, Outcome, OutOfCycles, Trap, cut_off}
use Rattle.masm_link.specs.declared.refusal.AsmCause.{AsmCause}
use Rattle.masm_link.specs.declared.refusal.AsmError.TheVariants.{Bad, Memory}
use Rattle.cmd_kit.specs.RunEnds as ends

-- what an assembled source comes to once more
pub bad_or_program : (constants : List ℕ) (source : SourceFile) (kernel : Option SourceFile) (program : Program) (in_kernel : Bool) (line column : ℕ)
    (cause : AsmCause) → AssemblesFiles constants source kernel (Ok program)
    → AssemblesFiles constants source kernel (Err (Bad in_kernel line column cause)) → ⊥
bad_or_program constants source kernel program in_kernel line column cause is bad =
    apart (one_program constants u64_library source.text (option_map (λ k. k.text) kernel) program (Err (Bad in_kernel line column cause)) is bad)
  where
    apart : Bad in_kernel line column cause ≡ Memory → ⊥
    apart eq = cc

same_outcome : (constants : List ℕ) (source : SourceFile) (kernel : Option SourceFile) (p q : Program) (given : Given) (limit : ℕ)
    → AssemblesFiles constants source kernel (Ok p) → AssemblesFiles constants source kernel (Ok q)
    → outcome_of constants q given limit ≡ outcome_of constants p given limit
same_outcome constants source kernel p q given limit one other =
    let same = one_program constants u64_library source.text (option_map (λ k. k.text) kernel) p (Ok q) one other in
    ap₂ (λ words tree. execution.execution constants words limit tree (start given.stack given.advice)) same.2 same.0

-- a program whose run ends in this state
pub record RunsOut (last : State) (c : Course) : Type 0 where
  pub program : Program
  pub end : State
  pub log : List execution.Event
  pub is : c ≡ ran program end log
  pub same : end ≡ last

done_in : (a b : State) (x y : List execution.Event) → Done a x ≡ Done b y → a ≡ b
done_in a b x y same = cc

abbrev IsDone : Outcome → Type 0
IsDone (Done last log) = Unit {0}
IsDone (Trap clock cause) = ⊥
IsDone (OutOfCycles last log) = ⊥

-- what is cut off is not done
cut_not_done : (o : Outcome) → IsCutOff o → IsDone o → ⊥
cut_not_done o (cut_off last log) h = h

not_cut : (last : State) (log : List execution.Event) → IsCutOff (Done last log) → ⊥
not_cut last log h = cut_not_done (Done last log) h tt

-- is not stopped
pub runs_out : (constants : List ℕ) (source : SourceFile) (kernel : Option SourceFile) (given : Given) (limit : ℕ) (program : Program) (last : State)
    (log : List execution.Event) (c : Course)
    → AssemblesFiles constants source kernel (Ok program) → outcome_of constants program given limit ≡ Done last log
    → IsCourse constants source kernel given limit c → RunsOut last c
runs_out constants source kernel given limit program last log c is done (ends.refused in_kernel line column cause bad) =
    absurd (bad_or_program constants source kernel program in_kernel line column cause is bad)
runs_out constants source kernel given limit program last log c is done (halted other made b (trapped clock cause traps)) =
    absurd (let eq = sym traps ∙ same_outcome constants source kernel program other given limit is made ∙ done in cc)
runs_out constants source kernel given limit program last log c is done (halted other made b (unended out)) =
    absurd (not_cut last log (subst IsCutOff (same_outcome constants source kernel program other given limit is made ∙ done) out))
runs_out constants source kernel given limit program last log c is done (ends.ended other made end events r) =
    record {
      program = other;
      end = end;
      log = events;
      is = refl;
      same = done_in end last events log (sym r.done ∙ same_outcome constants source kernel program other given limit is made ∙ done);
    }
