-- The names of the causes of traps.
use Rattle.std.specs.Prelude.{ℕ, List, codes}
use Rattle.vm_ops.specs.declared.cause.Cause.{Cause}
use Rattle.vm_ops.specs.declared.cause.Cause.TheVariants.{
  NestedTooDeep,
  OpaqueBlock,
  UnknownTarget,
  BadBatch,
  NotBinary,
  CallInSyscall,
  NotInKernel,
  DepthAtReturn,
  ZeroInverse,
  AddressRange,
  NotInSyscall,
  AdviceEmpty,
  NotU32,
  DivideByZero,
  AssertFailed,
}

-- a cause, as it is printed
abbrev pub text_of_cause : Cause → List ℕ
text_of_cause NestedTooDeep = codes "NestedTooDeep"
text_of_cause OpaqueBlock = codes "OpaqueBlock"
text_of_cause UnknownTarget = codes "UnknownTarget"
text_of_cause BadBatch = codes "BadBatch"
text_of_cause NotBinary = codes "NotBinary"
text_of_cause CallInSyscall = codes "CallInSyscall"
text_of_cause NotInKernel = codes "NotInKernel"
text_of_cause DepthAtReturn = codes "DepthAtReturn"
text_of_cause ZeroInverse = codes "ZeroInverse"
text_of_cause AddressRange = codes "AddressRange"
text_of_cause NotInSyscall = codes "NotInSyscall"
text_of_cause AdviceEmpty = codes "AdviceEmpty"
text_of_cause NotU32 = codes "NotU32"
text_of_cause DivideByZero = codes "DivideByZero"
text_of_cause AssertFailed = codes "AssertFailed"
