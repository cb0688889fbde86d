-- 01, Numbers handed back: the rows of its table, each with the numbers that stand in it; then those of 02.
use mathlib.Core.Path.{◌≡◌, refl}
use mathlib.Core.List.{[], ◌∷◌}
use Rattle.numbers.specs.Table.{length_out_of_range, wrong_check_key, cut_frame, unknown_command, impossible_length, wrong_address, too_long, ill_formed, too_many_characters, no_record, not_open, broken_rule, wrong_cipher, wrong_echo, session_ended, busy, wrong_length, faulty_file, unexpected_frame, rejected, weak_key}

rows : (length_out_of_range ∷ wrong_check_key ∷ cut_frame ∷ unknown_command ∷ impossible_length ∷ [])
    ∷ (wrong_address ∷ [])
    ∷ (too_long ∷ ill_formed ∷ too_many_characters ∷ [])
    ∷ (no_record ∷ not_open ∷ [])
    ∷ (broken_rule ∷ [])
    ∷ (wrong_cipher ∷ wrong_echo ∷ session_ended ∷ unexpected_frame ∷ rejected ∷ [])
    ∷ (busy ∷ [])
    ∷ (wrong_length ∷ [])
    ∷ (faulty_file ∷ [])
    ∷ (weak_key ∷ [])
    ∷ []
    ≡ (1 ∷ 2 ∷ 3 ∷ 4 ∷ 5 ∷ []) ∷ (6 ∷ []) ∷ (7 ∷ 8 ∷ 9 ∷ []) ∷ (10 ∷ 11 ∷ []) ∷ (12 ∷ []) ∷ (13 ∷ 14 ∷ 15 ∷ 19 ∷ 20 ∷ []) ∷ (16 ∷ []) ∷ (17 ∷ []) ∷ (18 ∷ []) ∷ (21 ∷ []) ∷ []
rows = refl
