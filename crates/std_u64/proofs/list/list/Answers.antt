use Rattle.std.proofs.Common.{refl}
use Rattle.masm_expand.specs.Expansion.{expansion, front, movdn, movup, swap}
use Rattle.std_u64.specs.Lists.{operations}
use Rattle.std_u64.proofs.list.list.Goals as goal

pub returns-in-OverflowingAdd : goal.returns-in-OverflowingAdd
unfolding operations expansion front movup movdn swap
returns-in-OverflowingAdd c = rw c.in-OverflowingAdd.is refl

pub returns-in-WrappingAdd : goal.returns-in-WrappingAdd
unfolding operations expansion front movup movdn swap
returns-in-WrappingAdd c = rw c.in-WrappingAdd.is refl

pub returns-in-CheckedAdd : goal.returns-in-CheckedAdd
unfolding operations expansion front movup movdn swap
returns-in-CheckedAdd c = rw c.in-CheckedAdd.is refl

pub returns-in-OverflowingSub : goal.returns-in-OverflowingSub
unfolding operations expansion front movup movdn swap
returns-in-OverflowingSub c = rw c.in-OverflowingSub.is refl

pub returns-in-WrappingSub : goal.returns-in-WrappingSub
unfolding operations expansion front movup movdn swap
returns-in-WrappingSub c = rw c.in-WrappingSub.is refl

pub returns-in-CheckedSub : goal.returns-in-CheckedSub
unfolding operations expansion front movup movdn swap
returns-in-CheckedSub c = rw c.in-CheckedSub.is refl

pub returns-in-Lt : goal.returns-in-Lt
unfolding operations expansion front movup movdn swap
returns-in-Lt c = rw c.in-Lt.is refl

pub returns-in-Gte : goal.returns-in-Gte
unfolding operations expansion front movup movdn swap
returns-in-Gte c = rw c.in-Gte.is refl

pub returns-in-Gt : goal.returns-in-Gt
unfolding operations expansion front movup movdn swap
returns-in-Gt c = rw c.in-Gt.is refl

pub returns-in-Lte : goal.returns-in-Lte
unfolding operations expansion front movup movdn swap
returns-in-Lte c = rw c.in-Lte.is refl

pub returns-in-Eq : goal.returns-in-Eq
unfolding operations expansion front movup movdn swap
returns-in-Eq c = rw c.in-Eq.is refl
