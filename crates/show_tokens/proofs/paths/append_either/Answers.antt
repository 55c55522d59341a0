use Rattle.std.proofs.Common.{◌≡◌, Bool, if◌then◌else◌, ◌++◌, codes, OnOk, subst}
use Rattle.show_tokens.specs.Paths.{alone_line, last_line}
use Rattle.show_tokens.proofs.paths.append_either.Goals as goal

pub returns-then-reaches_library : goal.returns-then-reaches_library
returns-then-reaches_library c =
    subst (λ (reaches : Bool).
    OnOk c.append_alone.result (c.append_alone.new.text ≡ c.args.text.now
    ++ (if reaches then alone_line (codes "the library's procedures are") c.args.first.now c.args.joined.now
    else last_line c.args.is_kernel c.args.procedures.now c.args.first.now c.args.last.now)))
    c.if-reaches_library.ensures c.append_alone.ensures

pub returns-else-reaches_library : goal.returns-else-reaches_library
returns-else-reaches_library c =
    subst (λ (reaches : Bool).
    OnOk c.append_last.result (c.append_last.new.text ≡ c.args.text.now
    ++ (if reaches then alone_line (codes "the library's procedures are") c.args.first.now c.args.joined.now
    else last_line c.args.is_kernel c.args.procedures.now c.args.first.now c.args.last.now)))
    c.if-reaches_library.ensures c.append_last.ensures
