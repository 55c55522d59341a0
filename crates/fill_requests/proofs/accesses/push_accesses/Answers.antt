use Rattle.std.proofs.Common.{All, ◌≡◌, ◌⊎◌, inl, inr, ℕ, ◌^◌, ◌<◌, [], subst}
use Rattle.std.proofs.lemmas.List.Elements.{All-head}
use Rattle.machine_cycles.specs.declared.event.Event.{Event}
use Rattle.vm_ops.specs.declared.op.Op.{Op}
use Rattle.vm_ops.specs.declared.op.Op.TheVariants as ops
use Rattle.complete_rows.specs.Limbs.{cell}
use Rattle.complete_rows.specs.Numbers.{HasU32Address}
use Rattle.complete_rows.specs.RunRequests.{access, accesses_by}
use Rattle.fill_requests.proofs.accesses.push_accesses.Goals as goal

-- the address of an event that has one access
first_address : (kind : ℕ) (e : Event) → All HasU32Address (access kind e) → cell e.before 0 < 2 ^ 32
first_address kind e fit =
    All-head HasU32Address (record { kind = kind; ctx = e.before.context; addr = cell e.before 0; clk = e.before.clock; word = e.word }) [] fit

loaded : (op : Op) (e : Event) → (op ≡ ops.MLoad) ⊎ (op ≡ ops.MLoadW) → All HasU32Address (accesses_by op e) → cell e.before 0 < 2 ^ 32
loaded op e (inl is) fit = first_address 0 e (subst (λ (op : Op). All HasU32Address (accesses_by op e)) is fit)
loaded op e (inr is) fit = first_address 0 e (subst (λ (op : Op). All HasU32Address (accesses_by op e)) is fit)

pub push_access-requires : goal.push_access-requires
push_access-requires c = loaded c.args.event.now.op c.args.event.now c.in-MLoad.is c.requires

pub push_access-requires-in-MStore : goal.push_access-requires-in-MStore
push_access-requires-in-MStore c =
    first_address 2 c.args.event.now (subst (λ (op : Op). All HasU32Address (accesses_by op c.args.event.now)) c.in-MStore.is c.requires)

pub push_access-requires-in-MStoreW : goal.push_access-requires-in-MStoreW
push_access-requires-in-MStoreW c =
    first_address 1 c.args.event.now (subst (λ (op : Op). All HasU32Address (accesses_by op c.args.event.now)) c.in-MStoreW.is c.requires)
