-- What a refusal leaves (01, Numbers handed back, "what stays").
use Rattle.std.specs.Prelude.{ℕ, Bool, cond, false, ◌||◌, List, [], ◌∷◌, eqb}
use Rattle.numbers.specs.Table.{length_out_of_range, wrong_check_key, cut_frame, unknown_command, impossible_length, broken_rule, wrong_cipher, wrong_echo, session_ended, wrong_length, unexpected_frame, rejected}
use Rattle.receiver.specs.declared.Receiver.{Receiver}
use Rattle.tool.specs.declared.Tool.{Tool}
use Rattle.tool.specs.Parts.{with_receiver, ended}

-- what a refusal does: it leaves everything; the receiver alone has changed; the request is over
pub data Effect : Type 0 where
  keeps_all : Effect
  receiver_only : Effect
  all_over : Effect

abbrev pub one_of : ℕ → List ℕ → Bool
one_of n [] = false
one_of n (m ∷ ms) = eqb n m || one_of n ms

-- 1 to 5: "frame dropped; all else kept"
abbrev pub bad_frames : List ℕ
bad_frames = length_out_of_range ∷ wrong_check_key ∷ cut_frame ∷ unknown_command ∷ impossible_length ∷ []

-- 13, 14, 15, 19, 20: "exchange over"
abbrev pub endings : List ℕ
endings = wrong_cipher ∷ wrong_echo ∷ session_ended ∷ unexpected_frame ∷ rejected ∷ []

-- the table: the others, 6, 7, 12, 16, 17 and 02's 21, are a request's, or leave everything
abbrev pub effect_of : ℕ → Effect
effect_of n = cond (one_of n bad_frames) receiver_only (cond (one_of n endings) all_over keeps_all)

-- "a refusal other than 12, 16 and 17 may still change the receiver and the mark of the wait or request .. and nothing else": the tool that is left,
-- where r is its receiver
unfoldable pub left_as : Effect → Tool → Receiver → Tool
left_as keeps_all t r = t
left_as receiver_only t r = with_receiver r t
left_as all_over t r = ended (with_receiver r t)

-- "An event refused with 17 or 12 has not happened."
abbrev pub unmade : ℕ → Bool
unmade n = eqb n broken_rule || eqb n wrong_length
