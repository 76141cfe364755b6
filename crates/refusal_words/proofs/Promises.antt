-- What the call promises of its texts. Assumes nothing.
use Rattle.std.specs.Prelude.{Ok}
use mathlib.Core.Path.{◌≡◌, refl}
use mathlib.Core.Logic.{◌↔◌}
use mathlib.Core.List.{List, [], ◌∷◌, ◌++◌}
use Prim.Native.Nat.{ℕ, zero, suc, ◌<◌, ◌≤◌, max}
use Prim.Native.String.{String}
use native.Mathlib.Omega.{arith}
use lib.ListN.{length, get_or, drop}
use Rattle.rules.specs.Refusals.{refusal_number}
use Rattle.rules.specs.Outcome.{Outcome, refused, answered, written_outcome}
use Rattle.rules.specs.declared.Refusal.{Refusal}
use Rattle.rules.specs.declared.Refusal.TheVariants.{NumberTooLong, NumberIsZero, MethodOrWidth, NotADigit, StringTooLong, RoomTooSmall, PlanLength, WorkSpaceTooShort, MalformedStep, ValueIsZero, ValueTooLarge, WrongEnd, HighestByteIsZero}
use Rattle.rules.proofs.Fitted.{fits}
use Rattle.rules.proofs.Untested as untested
use Rattle.refusal_words.specs.Words.{text_bytes, texts, words, words_room, words_answer, words_buffer}
use Rattle.refusal_words.proofs.Texts.{count}

-- the bytes of the longest text of a list, or of another text
unfoldable longest : String → List String → ℕ
longest d [] = length (text_bytes d)
longest d (t ∷ ts) = max (length (text_bytes t)) (longest d ts)

none_longer : (d : String) (ts : List String) (n : ℕ) → length (text_bytes (get_or ts n d)) ≤ longest d ts
unfolding longest
none_longer d [] n = omega arith
none_longer d (t ∷ ts) zero = omega arith
none_longer d (t ∷ ts) (suc n) = omega (arith, none_longer d ts n)

-- every text fits the room
pub words_fit : (refusal : ℕ) → length (text_bytes (words refusal)) ≤ words_room
unfolding words texts text_bytes longest
words_fit refusal = none_longer "no such refusal" texts refusal

-- and one fills it
pub room_filled : length (text_bytes (words 9)) ≡ words_room
unfolding words texts text_bytes
room_filled = refl

-- so with this room no call is refused
pub words_answered : (refusal room : ℕ) → words_room ≤ room → words_answer refusal room ≡ Ok (length (text_bytes (words refusal)))
words_answered refusal room h = fits (text_bytes (words refusal)) room (omega (arith, words_fit refusal))

-- ---- every refusal has its words

pub every_refusal : (r : Refusal) → refusal_number r < length texts
every_refusal NumberTooLong = omega (arith, count)
every_refusal NumberIsZero = omega (arith, count)
every_refusal MethodOrWidth = omega (arith, count)
every_refusal (NotADigit _) = omega (arith, count)
every_refusal StringTooLong = omega (arith, count)
every_refusal (RoomTooSmall _) = omega (arith, count)
every_refusal PlanLength = omega (arith, count)
every_refusal WorkSpaceTooShort = omega (arith, count)
every_refusal (MalformedStep _) = omega (arith, count)
every_refusal (ValueIsZero _) = omega (arith, count)
every_refusal (ValueTooLarge _) = omega (arith, count)
every_refusal (WrongEnd _) = omega (arith, count)
every_refusal HighestByteIsZero = omega (arith, count)

-- ---- each outcome is given exactly when the rules say, and no other

module _ (refusal : ℕ) where
  -- the bytes of its words
  abbrev pub bytes : List ℕ
  bytes = text_bytes (words refusal)

  module _ (room : ℕ) where
    abbrev pub outcome : Outcome
    outcome = written_outcome (words_answer refusal room)

    -- 6, place the bytes needed: the words are more than the bytes lent
    pub refuses_6 : (p : ℕ) → outcome ≡ refused 6 p ↔ (room < length bytes) × (p ≡ length bytes)
    refuses_6 = untested.refuses_6 bytes room

    -- otherwise the length is answered
    pub answers : (vs : List ℕ) → outcome ≡ answered vs ↔ (length bytes ≤ room) × (vs ≡ length bytes ∷ [])
    answers = untested.answers bytes room

    -- every outcome is one of these
    pub no_other : untested.Given bytes room outcome
    no_other = untested.no_other bytes room

  -- ---- memory

  module _ (out : List ℕ) where
    -- a refusal changes nothing
    pub refused_leaves : (n p : ℕ) → outcome (length out) ≡ refused n p → words_buffer refusal out ≡ out
    refused_leaves = untested.refused_leaves bytes out

    -- on success the words stand at the start of the buffer, and the bytes above stay
    pub answered_leaves : (vs : List ℕ) → outcome (length out) ≡ answered vs → words_buffer refusal out ≡ bytes ++ drop (length bytes) out
    answered_leaves = untested.answered_leaves bytes out
