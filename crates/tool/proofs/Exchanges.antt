-- Worked exchanges, which antt computes from the definitions: what good frames from the station answer, after each request on a fresh tool.
-- Assumes nothing.
use Prim.Native.Nat.{ℕ}
use mathlib.Core.Path.{◌≡◌, refl}
use mathlib.Core.List.{List, [], ◌∷◌, flat_map, zip_with}
use Rattle.octets.specs.Splice.{spliced, fronted}
use Rattle.des.specs.Tables.{IP, inverse_ip, E, P, PC1, PC2, left_shifts, boxes}
use Rattle.des.specs.Des.{encipher, computation, bits_of, number, bits, octets, permuted, ◌⊕◌, s_box, selected, f, round, rounds, exchanged, left_shift, both_shifted, key_halves, round_key}
use Rattle.numbers.specs.Answer.{Answer, given, refused}
use Rattle.frame.specs.Addresses.{broadcast}
use Rattle.frame.specs.Sizes.{longest_frame}
use Rattle.frame.specs.declared.codes.Command.{Command}
use Rattle.frame.specs.declared.codes.Command.TheVariants.{Dat, Ech, Eos, Drj, Arj, Tra}
use Rattle.receiver.specs.Receiver as receiver
use Rattle.tool.specs.declared.Tool.{Tool}
use Rattle.tool.specs.Answers.{Progress, nothing, sent, done}
use Rattle.tool.specs.Parts.{fresh}
use Rattle.tool.specs.Soundness.{sound}
use Rattle.tool.specs.Requests.{Asking, reading, transferring, programming, fields_to, zero_number, admission, unless_refused, after_asking}
use Rattle.des.specs.WeakKeys.{without_parity, weak_keys, weak}
use Rattle.tool.specs.Replies.{enciphers, echoes, on_echo, turn, performed, expected, on_frame}
use Rattle.tool.specs.Events.{ask, after}

station : List ℕ
station = 0x11 ∷ 0x22 ∷ 0x33 ∷ 0x44 ∷ 0x55 ∷ 0x66 ∷ []

label : List ℕ
label = 0x5A ∷ 0x6F ∷ []

-- key, NA1 and NA1 enciphered, as in crates/des/specs/Examples.antt
key : List ℕ
key = 0x13 ∷ 0x34 ∷ 0x57 ∷ 0x79 ∷ 0x9B ∷ 0xBC ∷ 0xDF ∷ 0xF1 ∷ []

na1 : List ℕ
na1 = 0x01 ∷ 0x23 ∷ 0x45 ∷ 0x67 ∷ 0x89 ∷ 0xAB ∷ 0xCD ∷ 0xEF ∷ []

na1k : List ℕ
na1k = 0x85 ∷ 0xE8 ∷ 0x13 ∷ 0x54 ∷ 0x0F ∷ 0x0A ∷ 0xB4 ∷ 0x05 ∷ []

-- a good frame from the station
record Frame : Type 0 where
  command : Command
  adp : ℕ
  tab : ℕ
  za1 : List ℕ
  content : List ℕ

plain : Command → Frame
plain c = record { command = c; adp = 1; tab = 0; za1 = zero_number; content = [] }

dat : ℕ → Frame
dat tab = record { command = Dat; adp = 1; tab = tab; za1 = zero_number; content = label }

ech : List ℕ → ℕ → List ℕ → Frame
ech za1 tab d = record { command = Ech; adp = 1; tab = tab; za1 = za1; content = d }

echo : Frame
echo = ech na1k 10 label

answers_of : Tool → List Frame → List (Answer Progress)
answers_of t [] = []
answers_of t (x ∷ xs) =
    let r = on_frame t x.command (fields_to station x.adp x.tab x.za1 zero_number) x.content in
    r.answer ∷ answers_of r.tool xs

exchange : Asking → List Frame → List (Answer Progress)
exchange q xs = answers_of (after fresh (ask q longest_frame)).tool xs

-- TAB 10, for ADP 1
read : Asking
read = reading station 1 10

transfer : Asking
transfer = transferring station 1 10 label

program : Asking
program = programming station 1 10 label key na1

elsewhere : Frame
elsewhere = record { command = Dat; adp = 2; tab = 10; za1 = zero_number; content = label }

exchanges : List (List (Answer Progress))
exchanges =
    exchange read (dat 10 ∷ dat 10 ∷ [])
    ∷ exchange read (elsewhere ∷ dat 11 ∷ [])
    ∷ exchange read (plain Drj ∷ [])
    ∷ exchange read (plain Arj ∷ [])
    ∷ exchange transfer (plain Tra ∷ [])
    ∷ exchange transfer (plain Drj ∷ [])
    ∷ exchange transfer (plain Eos ∷ [])
    ∷ exchange program (echo ∷ plain Eos ∷ [])
    ∷ exchange program (echo ∷ plain Drj ∷ [])
    ∷ exchange program (echo ∷ plain Arj ∷ [])
    ∷ exchange program (echo ∷ echo ∷ [])
    ∷ exchange program (ech na1 11 label ∷ [])
    ∷ exchange program (ech na1k 11 label ∷ [])
    ∷ exchange program (ech na1k 10 (0x5A ∷ []) ∷ [])
    ∷ exchange program (plain Drj ∷ [])
    ∷ []

worked : exchanges
    ≡ (given done ∷ given nothing ∷ [])
    ∷ (given nothing ∷ refused 14 ∷ [])
    ∷ (refused 20 ∷ [])
    ∷ (refused 19 ∷ [])
    ∷ (given done ∷ [])
    ∷ (refused 20 ∷ [])
    ∷ (refused 19 ∷ [])
    ∷ (given sent ∷ given done ∷ [])
    ∷ (given sent ∷ refused 20 ∷ [])
    ∷ (given sent ∷ refused 13 ∷ [])
    ∷ (given sent ∷ refused 19 ∷ [])
    ∷ (refused 13 ∷ [])
    ∷ (refused 14 ∷ [])
    ∷ (refused 14 ∷ [])
    ∷ (refused 19 ∷ [])
    ∷ []
unfolding exchanges read transfer program elsewhere echo ech dat plain exchange answers_of station label key na1 na1k after after_asking admission unless_refused weak weak_keys without_parity sound receiver.sound broadcast spliced fronted on_frame expected performed turn on_echo enciphers echoes encipher computation bits_of number bits octets permuted ◌⊕◌ s_box selected f round rounds exchanged left_shift both_shifted key_halves round_key IP inverse_ip E P PC1 PC2 left_shifts boxes flat_map zip_with
worked = refl
