-- Which octets of tool memory a refusal leaves as they were (01, Numbers handed back, "what stays").
use Rattle.std.specs.Prelude.{ℕ, ◌<◌}
use Rattle.tool.specs.Leaving.{Effect, keeps_all, receiver_only, all_over}
use Rattle.tool_memory.specs.Layout.{mark_at, OutsideReceiver}

-- "a refusal other than 12, 16 and 17 may still change the receiver and the mark of the wait or request .., and nothing else"
abbrev pub StaysAt : Effect → ℕ → Type 0
StaysAt keeps_all j = Unit {0}
StaysAt receiver_only j = OutsideReceiver j
StaysAt all_over j = (mark_at < j) × OutsideReceiver j
