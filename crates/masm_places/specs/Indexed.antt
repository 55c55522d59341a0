-- Sources in memory.
use Rattle.std.specs.Prelude.{map}
use Rattle.std.specs.Option.{option_map}
use Rattle.masm_tree.specs.Views.{procedure_of}
use Rattle.masm_places.specs.declared.sources.Sources.{Sources}
use Rattle.masm_places.specs.Texts.{Texts}

abbrev pub texts_in : Sources → Texts
texts_in a = record {
  program = map procedure_of a.program.now;
  own = a.own;
  main = option_map (λ p. procedure_of p.now) a.main;
  kernel = map procedure_of a.kernel.now;
}
