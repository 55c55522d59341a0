use Rattle.std.proofs.Common.{◌≡◌, ◌≤◌, take}
use Rattle.masm_names.specs.Among.{AmongFirst}
use Rattle.masm_names.specs.Extras.{exports_in, IsExtra}
use Rattle.masm_names.specs.Least.{FindsLeast}
use Rattle.masm_names.proofs.exports.first_extra_export.Given as goal

abbrev pub invariant-loop-procedure : goal.invariant-loop-procedure
invariant-loop-procedure l =
    (l.exports ≡ exports_in (take l.procedure-index l.procs)) × (l.exports ≤ l.procedure-index)
    × FindsLeast (AmongFirst (λ place p. IsExtra (exports_in (take place l.procs)) p) l.procs l.procedure-index) l.first
