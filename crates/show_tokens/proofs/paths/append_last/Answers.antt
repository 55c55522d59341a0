use Rattle.std.proofs.Common.{◌≡◌, Bool, if◌then◌else◌, ◌++◌, codes, OnOk, subst}
use Rattle.show_tokens.specs.Paths.{alone_line, missing_line}
use Rattle.show_tokens.proofs.paths.append_last.Goals as goal

pub returns-else-is_missing : goal.returns-else-is_missing
returns-else-is_missing c =
    subst (λ (missing : Bool).
    OnOk c.append_alone.result (c.append_alone.new.text ≡ c.args.text.now
    ++ (if missing then missing_line c.args.is_kernel c.args.last.now else alone_line (codes "a procedure is") c.args.first.now c.args.last.now)))
    c.if-is_missing.ensures c.append_alone.ensures
