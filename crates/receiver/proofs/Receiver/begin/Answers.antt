-- `Receiver::begin` takes an N: 1 where it is out of range, else the first octet held.
use Rattle.receiver.specs.Receiving.{begun}
use Rattle.receiver.specs.Receiver.{holding, answer_to, frame_of}
use Rattle.receiver.proofs.Receiver.begin.Goals as goal

pub returns-in_default : goal.returns-in_default
unfolding begun holding answer_to frame_of
returns-in_default c = rw (← c.stated_by.ensures, c.in_default.is, c.answer.ensures)

pub returns : goal.returns
unfolding begun answer_to frame_of
returns c = rw (← c.stated_by.ensures, c.in-Some.is, c.answer-2.ensures, c.hold.ensures, c.requires)
