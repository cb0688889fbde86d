-- `Tool::octet` tests the buffer and then the tool.
use Rattle.tool.proofs.Sound.{test_sound}
use Rattle.tool.proofs.Gives.{gives_nothing, gives_front}
use Rattle.tool.specs.Events.{after_octet}
use borrow.Author.Tests.{le-leb, lt-leb}
use mathlib.Core.Path.{refl, sym, ◌∙◌}
use Rattle.tool.proofs.Tool.octet.Goals as goal

pub returns-in_default : goal.returns-in_default
unfolding after_octet
returns-in_default c = rw (lt-leb _ _ c.in_default.ensures.cases) (gives_nothing _ _ _ _ c.hearing.ensures)

pub returns-then-not-sound : goal.returns-then-not-sound
unfolding after_octet
returns-then-not-sound c = let f = c.in-Some.ensures.cases in
    rw (le-leb _ _ f.enough, sym c.sound.ensures ∙ c.if-not-sound.true) (gives_front _ _ _ _ _ _ f refl (gives_nothing _ _ _ _ c.hearing-then-not-sound.ensures))

pub heard-requires : goal.heard-requires
heard-requires c = test_sound _ (sym c.sound.ensures ∙ c.if-not-sound.false)

pub returns : goal.returns
unfolding after_octet
returns c = let f = c.in-Some.ensures.cases in
    rw (le-leb _ _ f.enough, sym c.sound.ensures ∙ c.if-not-sound.false) (gives_front _ _ _ _ _ _ f c.heard.ensures.long c.heard.ensures.gives)
