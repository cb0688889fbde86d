-- `settle` leaves the cells where the request is refused, and writes them else.
use Rattle.tool_exports.proofs.Given.{settled_refused, settled_shown}
use Rattle.tool_exports.proofs.requests.settle.Goals as goal

pub returns-then-number-eq-NONE : goal.returns-then-number-eq-NONE
returns-then-number-eq-NONE c = settled_shown _ _ _ _ _ _ _ c.answer_number-number.ensures c.store.ensures c.if-number-eq-NONE.true _ _ c.wake_mark.ensures c.done_mark.ensures

pub returns-else-number-eq-NONE : goal.returns-else-number-eq-NONE
returns-else-number-eq-NONE c = settled_refused _ _ _ _ _ _ _ c.answer_number-number.ensures c.store.ensures c.if-number-eq-NONE.false
