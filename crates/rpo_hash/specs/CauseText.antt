-- What is printed of a cause: its name.
use Rattle.std.specs.Prelude.{ℕ, List, codes}
use Rattle.rpo_hash.specs.declared.params.ParamCause.{ParamCause}
use Rattle.rpo_hash.specs.declared.params.ParamCause.TheVariants.{Ended, Number, Extra}

abbrev pub cause_text : ParamCause → List ℕ
cause_text Ended = codes "Ended"
cause_text Number = codes "Number"
cause_text Extra = codes "Extra"
