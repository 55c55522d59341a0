use Rattle.std.proofs.Common.{◌≡◌, ◌∙◌, ap, arith, ◌+◌, ◌-◌, ◌*◌, length}
use Rattle.op_pack.specs.Digits.{size_of}
use Rattle.op_pack.specs.Reading.{read_on}
use Rattle.op_pack.proofs.ReadLemmas.{room-is, read_on-full, read_on-plain, read_on-push, read_on-above}
use Rattle.op_pack.proofs.reading.Unread.next.Goals as goal

pub returns-then-self-eq0-clause-is : goal.returns-then-self-eq0-clause-is
returns-then-self-eq0-clause-is c =
    ap (λ room. read_on c.args.self.positions.now room c.args.self.number) c.if-self-eq0.true
    ∙ read_on-full c.args.self.positions.now c.args.self.number

pub returns-then-digit-lt-PUSH-clause-is : goal.returns-then-digit-lt-PUSH-clause-is
returns-then-digit-lt-PUSH-clause-is c =
    let falls : size_of c.args.self ≡ 10 * length c.args.self.positions.now + (c.args.self.room - 1) + 1 = omega arith in
    rw (room-is c.args.self.positions.now c.args.self.room c.args.self.number c.if-self-eq0.false, falls)
    (rw (read_on-plain c.args.self.positions.now (c.args.self.room - 1) c.args.self.number c.if-digit-lt-PUSH.true, ← c.plain_digit.ensures.is)
    c.after_plain.ensures.is)

pub returns-then-digit-eq-PUSH-clause-is : goal.returns-then-digit-eq-PUSH-clause-is
returns-then-digit-eq-PUSH-clause-is c =
    let falls : size_of c.args.self ≡ 10 * length c.args.self.positions.now + (c.args.self.room - 1) + 1 = omega arith in
    rw (room-is c.args.self.positions.now c.args.self.room c.args.self.number c.if-self-eq0.false, falls)
    (rw (read_on-push c.args.self.positions.now (c.args.self.room - 1) c.args.self.number c.if-digit-eq-PUSH.true) c.after_push.ensures.is)

pub returns-else-digit-eq-PUSH-clause-is : goal.returns-else-digit-eq-PUSH-clause-is
returns-else-digit-eq-PUSH-clause-is c =
    room-is c.args.self.positions.now c.args.self.room c.args.self.number c.if-self-eq0.false
    ∙ read_on-above c.args.self.positions.now (c.args.self.room - 1) c.args.self.number (omega arith)
