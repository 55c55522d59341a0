use Rattle.std.proofs.Common.{◌≡◌, true, map}
use Rattle.std.specs.List.{list_all}
use Rattle.vm_field.specs.FileName.{is_file_name}
use Rattle.run_chain.proofs.reading.names_in.Given as goal

-- the parts so far are names, and were kept
abbrev pub invariant-loop-part : goal.invariant-loop-part
invariant-loop-part l = record {
  kept : map (λ n. n.now) l.names.items ≡ map (λ n. n.now) l.yielded;
  names : list_all is_file_name (map (λ n. n.now) l.yielded) ≡ true;
}
