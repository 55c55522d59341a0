use Rattle.std.proofs.Common.{◌≡◌, ◌+◌, length, take, Ok}
use Rattle.rpo_hash.specs.ParamText.{element_lines}
use Rattle.rpo_hash.proofs.params.Lines.twelve.Given as goal

abbrev pub invariant-loop-i : goal.invariant-loop-i
invariant-loop-i l = record {
  read : element_lines l.i l.fn.self.line l.fn.self.rest.now ≡ Ok (take l.i l.elements, l.self.rest.now);
  line : l.self.line ≡ l.fn.self.line + l.i;
  size : length l.elements ≡ 12;
}
