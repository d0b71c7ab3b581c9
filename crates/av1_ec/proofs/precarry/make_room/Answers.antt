use Rattle.std.proofs.Common.{arith}
use Rattle.av1_ec.proofs.Encoding.{room_by_one, room_by_two, rest_below}
use Rattle.av1_ec.proofs.precarry.make_room.Goals as goal

pub returns-then-weight-d-lt24-2-clause-ok : goal.returns-then-weight-d-lt24-2-clause-ok
returns-then-weight-d-lt24-2-clause-ok c =
    room_by_one _ _ _ _ _ _ _ _ c.requires.least c.requires.most c.if-weight-d-lt24.false
    (omega (arith, c.requires.least, c.leave.ensures.weight, c.if-weight-d-lt24-2.true)) c.requires.low c.requires.carries c.in_ok-reserve_two.ensures.same
    c.leave.ensures.entries c.leave.ensures.low c.leave.ensures.weight

pub leave-requires-2-clause-low : goal.leave-requires-2-clause-low
leave-requires-2-clause-low c = rest_below _ _ _ _ c.leave.ensures.low c.leave.ensures.weight

pub returns-clause-ok : goal.returns-clause-ok
returns-clause-ok c =
    room_by_two _ _ _ _ _ _ _ _ _ _ _ c.requires.least c.requires.most
    (omega (arith, c.requires.least, c.leave.ensures.weight, c.if-weight-d-lt24-2.false)) c.requires.bits c.requires.low c.requires.carries c.in_ok-reserve_two.ensures.same
    c.leave.ensures.entries c.leave.ensures.low c.leave.ensures.weight c.leave-2.ensures.entries c.leave-2.ensures.low c.leave-2.ensures.weight
