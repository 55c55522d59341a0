-- What the places of a trace have in common.
use Rattle.rpo_hash.specs.Constants.{constants_of}
use Rattle.air_kit.specs.Places.{Claim}
use Rattle.checker.specs.declared.setting.Setting.{Setting}

abbrev pub claim_in : Setting → Claim
claim_in s = record {
  constants = constants_of s.public.now.params;
  digest = s.public.now.statement.digest;
  kernel = s.public.now.statement.kernel;
  inputs = s.public.now.statement.inputs;
  outputs = s.public.now.statement.outputs;
  lengths = s.lengths;
  left_key = s.left_key;
}
