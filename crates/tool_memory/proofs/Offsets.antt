-- The layout and the marks by the numbers of docs/TOOL_MEMORY.md, by which a C program lends memory and looks into it.
use mathlib.Core.List.{[], ◌∷◌, map}
use mathlib.Core.Path.{◌≡◌, refl}
use Rattle.numbers.specs.Counts.{in_octets}
use Rattle.wake.specs.declared.Last.TheVariants.{EnqTrf, Other}
use Rattle.tool.specs.declared.Phase.TheVariants.{Idle, Reading, Transferring, Programming, Authenticating}
use Rattle.tool_memory.specs.Layout.{mark_at, tab_at, length_at, ads_at, adp_at, key_at, na1_at, sent_at, station_at, successes_at, receiver_mark_at, receiver_count_at, size}
use Rattle.tool_memory.specs.Marks.{phase_of}

memory_offsets : mark_at ∷ tab_at ∷ length_at ∷ ads_at ∷ adp_at ∷ key_at ∷ na1_at ∷ sent_at ∷ station_at ∷ successes_at ∷ receiver_mark_at ∷ receiver_count_at ∷ size ∷ []
    ≡ 0 ∷ 1 ∷ 2 ∷ 3 ∷ 9 ∷ 10 ∷ 18 ∷ 26 ∷ 142 ∷ 148 ∷ 149 ∷ 150 ∷ 278 ∷ []
memory_offsets = refl

-- each mark of the request, with TAB 0A and a length of 4
marks_read : map (λ mark. phase_of mark 0x0A 4) (0 ∷ 1 ∷ 2 ∷ 3 ∷ 4 ∷ 5 ∷ [])
    ≡ Idle Other ∷ Reading 0x0A ∷ Transferring ∷ Programming 0x0A (in_octets 4) ∷ Authenticating ∷ Idle EnqTrf ∷ []
unfolding phase_of
marks_read = refl
