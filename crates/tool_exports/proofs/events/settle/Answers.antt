-- `settle` leaves cells and DATA where the octet has a number, and writes them else.
use Rattle.tool_exports.proofs.Given.{octet_refused, octet_shown_lem}
use Rattle.tool_exports.proofs.events.settle.Goals as goal

pub returns-then-number-eq-NONE : goal.returns-then-number-eq-NONE
returns-then-number-eq-NONE c = octet_shown_lem _ _ _ _ _ _ _ _ c.answer_number-number.ensures c.store.ensures c.if-number-eq-NONE.true _ _ c.done_mark.ensures c.show.ensures

pub returns-else-number-eq-NONE : goal.returns-else-number-eq-NONE
returns-else-number-eq-NONE c = octet_refused _ _ _ _ _ _ _ _ c.answer_number-number.ensures c.store.ensures c.if-number-eq-NONE.false
